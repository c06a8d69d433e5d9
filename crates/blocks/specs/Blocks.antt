-- What packing and reading a block answer, and what the output then holds.
use Rattle.std.specs.Prelude.{◌≡◌, ℕ, ◌+◌, ◌*◌, ◌/◌, ◌%◌, Bool, cond, List, ◌++◌, length, take, drop, Some, None, Option, ◌==◌, nat_le}
use Rattle.bits.specs.Bits.{bits_of, bytes_of}
use Rattle.bits.specs.Raw.{words_in, raw_bytes}
use Rattle.forms.specs.Coding.{Coding}
use Rattle.forms.specs.Blocks.{Block, block_bits}
use Rattle.faults.specs.Faults.{Answer, gives, fault}
use Rattle.blocks.specs.Loops.{read_words}

-- a raw word of w bits has so many bytes
abbrev pub bytes_per : ℕ → ℕ
bytes_per w = (w + 7) / 8

-- ## Packing: 13 where the raw bytes end inside a word, 9 over 65,536 words, 7 where a word has no form, 2 where the output is too short

abbrev pub room : ℕ → Option (List Bool) → Answer ℕ
room size None = fault 7 0
room size (Some bs) = cond (nat_le ((length bs + 7) / 8) size) (gives (length bs)) (fault 2 0)

abbrev pub pack_answer : {M : Type 0} → ℕ → Coding M → List ℕ → ℕ → Answer ℕ
pack_answer k C raw size =
    cond (length raw % k == 0) (cond (nat_le (length raw / k) 65536) (room size (block_bits C C.start (words_in k raw))) (fault 9 0)) (fault 13 0)

-- the block's bytes in front of what the output held past them
abbrev pub over : List ℕ → Option (List Bool) → List ℕ
over out None = out
over out (Some bs) = cond (nat_le ((length bs + 7) / 8) (length out)) (bytes_of bs ++ drop ((length bs + 7) / 8) out) out

abbrev pub pack_bytes : {M : Type 0} → ℕ → Coding M → List ℕ → List ℕ → List ℕ
pack_bytes k C raw out =
    cond (length raw % k == 0) (cond (nat_le (length raw / k) 65536) (over out (block_bits C C.start (words_in k raw))) out) out

-- ## Reading n words: 9 over 65,536 of them, 2 where the output is too short, 11 and 16 at a form, 18 where bytes stand behind the end

abbrev pub whole : List ℕ → ℕ → Answer (List ℕ × ℕ) → Answer ℕ
whole f n (gives (xs, e)) = cond (nat_le (length f) ((e + 7) / 8)) (gives n) (fault 18 e)
whole f n (fault i p) = fault i p

abbrev pub read_answer : {M : Type 0} → ℕ → Coding M → List ℕ → ℕ → ℕ → Answer ℕ
read_answer k C f n size =
    cond (nat_le n 65536) (cond (nat_le (k * n) size) (whole f n (read_words C C.start f 0 n)) (fault 2 0)) (fault 9 0)

-- the words' raw bytes in front of what the output held past them
abbrev pub unpacked : ℕ → List ℕ → List ℕ → Answer (List ℕ × ℕ) → List ℕ
unpacked k f out (gives (xs, e)) = cond (nat_le (length f) ((e + 7) / 8)) (raw_bytes k xs ++ drop (k * length xs) out) out
unpacked k f out (fault i p) = out

abbrev pub read_bytes : {M : Type 0} → ℕ → Coding M → List ℕ → ℕ → List ℕ → List ℕ
read_bytes k C f n out =
    cond (nat_le n 65536) (cond (nat_le (k * n) (length out)) (unpacked k f out (read_words C C.start f 0 n)) out) out

-- ## Laws

-- reading gives n words exactly where the bits begin with the block of those words
pub record ReadsExactly {M : Type 0} (C : Coding M) (m : M) (f : List ℕ) (n : ℕ) : Type 0 where
  pub only : (xs : List ℕ) (e : ℕ) → read_words C m f 0 n ≡ gives (xs, e) → (length xs ≡ n) × ((bs : List Bool) × Block C m xs bs × (length bs ≡ e) × (take e (bits_of f) ≡ bs))
  pub every : (xs : List ℕ) (bs : List Bool) → length xs ≡ n → Block C m xs bs → take (length bs) (bits_of f) ≡ bs → read_words C m f 0 n ≡ gives (xs, length bs)
