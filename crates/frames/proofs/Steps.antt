-- What the code does with one row, and with a frame.
use Rattle.std.proofs.Common.{◌≡◌, ℕ, zero, suc, ◌+◌, ◌-◌, ◌*◌, ◌/◌, ◌%◌, ◌<◌, ◌≤◌, true, false, cond, eqb, List, length, drop, Some, None, Option, sym, ap, ◌∙◌, subst, ⊎_elim, mod-lt, mul-le-mul, one-mul, arith}
use native.Mathlib.Nat.{div-add-mod}
use Rattle.std.proofs.lemmas.Bool.{cases_lt}
use Rattle.layout.specs.Recording as recordings
use Rattle.layout.specs.Channels.{width}
use Rattle.layout.specs.Turns.{first, following}
use Rattle.channel.specs.declared.record.Channel.{Channel}
use Rattle.calls.specs.Calls.{settings}
use Rattle.frames.specs.Frames.{countable, row_bytes, frame_words, frame_bytes}
use Rattle.frames.proofs.Counts.{count, more, more-sum, words-most}
use Rattle.frames.proofs.Rows.{row, at, count-row, count-within}
use Rattle.frames.proofs.Whole.{words-next, bytes_next, words-end, bytes-end, goes_on-is, count_divided}
use Rattle.frames.proofs.Tables.{described, Table, table_kept, rows-many, row_is}

-- ## The sums of a frame

pub words-on : (t : List Channel) (i : ℕ) → i < length t → frame_words (drop i (settings t)) ≡ (described t i).repeats + frame_words (drop (i + 1) (settings t))
words-on t i l =
    let e : suc i ≡ i + 1 = omega arith in
    words-next (settings t) i (omega (arith, rows-many t)) ∙ ap (λ c. c.repeats + frame_words (drop (suc i) (settings t))) (row_is t i l) ∙ ap (λ k. (described t i).repeats + frame_words (drop k (settings t))) e

pub bytes_on : (t : List Channel) (i : ℕ) → i < length t → frame_bytes (drop i (settings t)) ≡ row_bytes (described t i) + frame_bytes (drop (i + 1) (settings t))
bytes_on t i l =
    let e : suc i ≡ i + 1 = omega arith in
    bytes_next (settings t) i (omega (arith, rows-many t)) ∙ ap (λ c. row_bytes c + frame_bytes (drop (suc i) (settings t))) (row_is t i l) ∙ ap (λ k. row_bytes (described t i) + frame_bytes (drop k (settings t))) e

-- ## Raw bytes that end within a frame

-- they end in a row
ends : (t : List Channel) (i left size : ℕ) → countable (settings t) ≡ true → i < length t → size ≡ width (described t i).kind / 8 → left < row_bytes (described t i) →
    count (settings t) (at i 0) left ≡ cond (eqb (left % size) 0) (Some (left / size)) None
ends t i left size h l e m =
    let cs = settings t in
    let within : left < row_bytes (row cs i) = subst (λ (c : recordings.Channel). left < row_bytes c) (sym (row_is t i l)) m in
    let b : width (row cs i).kind / 8 ≡ size = ap (λ (c : recordings.Channel). width c.kind / 8) (row_is t i l) ∙ sym e in
    count-within cs (table_kept cs h).bytes i left (omega (arith, rows-many t)) within ∙ ap (λ z. cond (eqb (left % z) 0) (Some (left / z)) None) b

pub ends-whole : (t : List Channel) (i words left size : ℕ) (o : Option ℕ) → countable (settings t) ≡ true → i < length t → size ≡ width (described t i).kind / 8 → left < row_bytes (described t i) →
    more words (count (settings t) (at i 0) left) ≡ o → eqb (left % size) 0 ≡ true → Some (words + left / size) ≡ o
ends-whole t i words left size o h l e m v k =
    sym (ap (more words) (ends t i left size h l e m ∙ ap (λ b. cond b (Some (left / size)) None) k)) ∙ v

pub ends-cut : (t : List Channel) (i words left size : ℕ) (o : Option ℕ) → countable (settings t) ≡ true → i < length t → size ≡ width (described t i).kind / 8 → left < row_bytes (described t i) →
    more words (count (settings t) (at i 0) left) ≡ o → eqb (left % size) 0 ≡ false → None ≡ o
ends-cut t i words left size o h l e m v k =
    sym (ap (more words) (ends t i left size h l e m ∙ ap (λ b. cond b (Some (left / size)) None) k)) ∙ v

-- a row has at least as many bytes as words
pub row-least : (t : List Channel) (i : ℕ) → countable (settings t) ≡ true → i < length t → (described t i).repeats ≤ row_bytes (described t i)
row-least t i h l =
    let cs = settings t in
    let p : 1 ≤ width (row cs i).kind / 8 = omega (arith, (table_kept cs h).bytes (at i 0) (omega (arith, rows-many t))) in
    let q : 1 ≤ width (described t i).kind / 8 = subst (λ (c : recordings.Channel). 1 ≤ width c.kind / 8) (row_is t i l) p in
    omega (arith, mul-le-mul {m₁ = (described t i).repeats} {m₂ = (described t i).repeats} q (omega arith), one-mul (described t i).repeats)

-- where bytes are left, so are rows
more_rows : (cs : List recordings.Channel) (i : ℕ) → 0 < frame_bytes (drop (i + 1) cs) → suc i < length cs
more_rows cs i p = ⊎_elim (λ a. a) (λ a. absurd (omega (arith, bytes-end cs (i + 1) (omega arith)))) (cases_lt (suc i) (length cs))

behind-row : (t : List Channel) (i left : ℕ) → countable (settings t) ≡ true → i < length t → row_bytes (described t i) ≤ left → left < frame_bytes (drop i (settings t)) →
    count (settings t) (at i 0) left ≡ more (described t i).repeats (count (settings t) (at (i + 1) 0) (left - row_bytes (described t i)))
behind-row t i left h l m f =
    let cs = settings t in
    let k = table_kept cs h in
    let b = row_bytes (described t i) in
    let u = bytes_on t i l in
    let inside : i < length cs = omega (arith, rows-many t) in
    let further : suc i < length cs = more_rows cs i (omega arith) in
    let e : row cs i ≡ described t i = row_is t i l in
    let s : left ≡ row_bytes (row cs i) + (left - b) = omega (arith, ap row_bytes e) in
    let j : suc i ≡ i + 1 = omega arith in
    ap (count cs (at i 0)) s ∙ count-row cs k.bytes i (left - b) inside (k.words i inside) ∙ ap (λ z. more z.repeats (count cs (at (following (length cs) i) 0) (left - b))) e
    ∙ ap (λ z. more (described t i).repeats (count cs (at z 0) (left - b))) (goes_on-is (length cs) i further ∙ j)

-- they go on behind a row of n words and b bytes
pub goes-past : (t : List Channel) (i words left n b raw : ℕ) (o : Option ℕ) → countable (settings t) ≡ true → i < length t → row_bytes (described t i) ≤ left → left < frame_bytes (drop i (settings t)) →
    more words (count (settings t) (at i 0) left) ≡ o → words + left ≤ raw → n ≡ (described t i).repeats → b ≡ row_bytes (described t i) →
    (more (words + n) (count (settings t) (at (i + 1) 0) (left - b)) ≡ o) × (left - b < frame_bytes (drop (i + 1) (settings t))) × (words + n + (left - b) ≤ raw)
goes-past t i words left n b raw o h l m f v s en eb =
    let c = count (settings t) (at (i + 1) 0) (left - b) in
    let p : count (settings t) (at i 0) left ≡ more n c =
    behind-row t i left h l m f ∙ ap (λ z. more z (count (settings t) (at (i + 1) 0) (left - row_bytes (described t i)))) (sym en) ∙ ap (λ z. more n (count (settings t) (at (i + 1) 0) (left - z))) (sym eb) in
    (sym (more-sum words n c) ∙ ap (more words) (sym p) ∙ v, omega (arith, bytes_on t i l), omega (arith, row-least t i h l))

-- ## Whole frames and what is left

-- a frame has words, and at least as many bytes
frame-least : (cs : List recordings.Channel) → Table cs → (k i : ℕ) → k + i ≡ length cs → frame_words (drop i cs) ≤ frame_bytes (drop i cs)
frame-least cs h zero i e = omega (arith, words-end cs i (omega arith))
frame-least cs h (suc k) i e =
    let l : i < length cs = omega arith in
    let p : 1 ≤ width (row cs i).kind / 8 = omega (arith, h.bytes (at i 0) l) in
    omega (arith, words-next cs i l, bytes_next cs i l, frame-least cs h k (suc i) (omega arith), mul-le-mul {m₁ = (row cs i).repeats} {m₂ = (row cs i).repeats} p (omega arith), one-mul (row cs i).repeats)

pub frame-some : (cs : List recordings.Channel) → countable cs ≡ true → (0 < frame_bytes cs) × (frame_words cs ≤ frame_bytes cs)
frame-some cs h =
    let k = table_kept cs h in
    let l = frame-least cs k (length cs) 0 (omega arith) in
    (omega (arith, l, words-next cs 0 k.some, k.words 0 k.some), l)

-- what is left ends within a frame
pub left-within : (cs : List recordings.Channel) (raw F : ℕ) → countable cs ≡ true → F ≡ frame_bytes cs → raw % F < frame_bytes cs
left-within cs raw F h f =
    let p : 0 < F = omega (arith, (frame-some cs h).0) in
    omega (arith, mod-lt raw p)

-- the sum of the words fits: it is at most the raw bytes
pub few_words : (cs : List recordings.Channel) (raw W F words : ℕ) → countable cs ≡ true → W ≡ frame_words cs → F ≡ frame_bytes cs → Some words ≡ count cs first (raw % F) →
    (W * (raw / F) ≤ raw) × (W * (raw / F) + words ≤ raw)
few_words cs raw W F words h w f e =
    let k = table_kept cs h in
    let m = words-most cs k.bytes first k.some (raw % F) words (sym e) in
    let p : W ≤ F = omega (arith, (frame-some cs h).1) in
    let a = mul-le-mul {m₁ = raw / F} {m₂ = raw / F} p (omega arith) in
    let d = div-add-mod raw F in
    (omega arith, omega arith)

pub counted : (cs : List recordings.Channel) (raw W F : ℕ) (o : Option ℕ) → countable cs ≡ true → W ≡ frame_words cs → F ≡ frame_bytes cs → o ≡ count cs first (raw % F) →
    more (W * (raw / F)) o ≡ count cs first raw
counted cs raw W F o h w f e =
    let k = table_kept cs h in
    ap (more (W * (raw / F))) e ∙ ap (λ z. more (z * (raw / F)) (count cs first (raw % F))) w
    ∙ ap (λ z. more (frame_words cs * (raw / z)) (count cs first (raw % z))) f ∙ sym (count_divided cs k.bytes k.words k.some raw)
