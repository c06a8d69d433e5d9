-- The laws of counting words, for a table that a section can have.
use Rattle.std.proofs.Common.{◌≡◌, ℕ, ◌+◌, ◌*◌, ◌/◌, ◌<◌, ◌≤◌, true, List, length, Some, arith}
use Rattle.layout.specs.Recording.{Channel}
use Rattle.layout.specs.Channels.{width}
use Rattle.layout.specs.Turns.{first, following, raw_bytes, count_words}
use Rattle.layout.proofs.Counting.{counted-bytes}
use Rattle.layout.proofs.Spots.{inside-counted}
use Rattle.frames.specs.Frames.{countable, row_bytes, frame_words, frame_bytes}
use Rattle.frames.proofs.Counts.{count, more, far-enough, words-most}
use Rattle.frames.proofs.Rows.{row, at, count-part, count-row}
use Rattle.frames.proofs.Whole.{frame-counted}
use Rattle.frames.proofs.Tables.{table_kept}

-- how far to look does not matter from the raw bytes on
pub looking : (cs : List Channel) → countable cs ≡ true → (k raw : ℕ) → raw ≤ k → count_words cs first k raw ≡ count_words cs first raw raw
looking cs h k raw l = let t = table_kept cs h in far-enough cs t.bytes first t.some k raw raw l (omega arith)

-- a frame, and others
pub frame-first : (cs : List Channel) → countable cs ≡ true → (k m raw : ℕ) → frame_bytes cs + raw ≤ k → raw ≤ m →
    count_words cs first k (frame_bytes cs + raw) ≡ more (frame_words cs) (count_words cs first m raw)
frame-first cs h = let t = table_kept cs h in frame-counted cs t.bytes t.words t.some

-- a row's words, and others
pub row_first : (cs : List Channel) → countable cs ≡ true → (i raw : ℕ) → i < length cs →
    count cs (at i 0) (row_bytes (row cs i) + raw) ≡ more (row cs i).repeats (count cs (at (following (length cs) i) 0) raw)
row_first cs h i raw l = let t = table_kept cs h in count-row cs t.bytes i raw l (t.words i l)

-- part of a row's words, and others
pub part-first : (cs : List Channel) → countable cs ≡ true → (i j raw : ℕ) → i < length cs → j < (row cs i).repeats →
    count cs (at i 0) (width (row cs i).kind / 8 * j + raw) ≡ more j (count cs (at i j) raw)
part-first cs h = count-part cs (table_kept cs h).bytes

-- words and their raw bytes
pub bytes-of-counted : (cs : List Channel) (raw n : ℕ) → count_words cs first raw raw ≡ Some n → raw_bytes cs first n ≡ raw
bytes-of-counted cs raw n e = counted-bytes cs first raw raw n e

pub count-of-bytes : (cs : List Channel) → countable cs ≡ true → (n : ℕ) → count_words cs first (raw_bytes cs first n) (raw_bytes cs first n) ≡ Some n
count-of-bytes cs h n = let t = table_kept cs h in inside-counted cs t.bytes first t.some n (raw_bytes cs first n) (omega arith)

-- there are at most as many words as raw bytes
pub at-most-raw : (cs : List Channel) → countable cs ≡ true → (raw n : ℕ) → count_words cs first raw raw ≡ Some n → n ≤ raw
at-most-raw cs h raw n e = let t = table_kept cs h in words-most cs t.bytes first t.some raw n e
