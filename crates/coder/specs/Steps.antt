-- The step of one word: what writing and reading answer, and what the buffer then holds.
use Rattle.std.specs.Prelude.{ℕ, ◌+◌, ◌*◌, Bool, cond, List, length, drop, Some, None, Option, nat_le}
use Rattle.bits.specs.Bits.{put_bits, bits_of}
use Rattle.forms.specs.Coding.{Coding, encoded, Decoding, word, dead, partial, decoded}
use Rattle.faults.specs.Faults.{Answer, gives, fault}
use Rattle.coder.specs.declared.step.Put.{Put}
use Rattle.coder.specs.declared.step.Taken.{Taken}

-- ## Writing: a word without a form is fault 7, then a form that does not fit is fault 2; else the form's length, and the memory moves on

abbrev pub laid : {M : Type 0} → ℕ → ℕ → Option (List Bool × M) → Answer (ℕ × M)
laid at size None = fault 7 at
laid at size (Some (s, n)) = cond (nat_le (at + length s) (8 * size)) (gives (length s, n)) (fault 2 at)

abbrev pub put_answer : {M : Type 0} → Coding M → M → ℕ → ℕ → ℕ → Answer (ℕ × M)
put_answer C m x at size = laid at size (encoded C m x)

abbrev pub laid_bytes : {M : Type 0} → ℕ → List ℕ → Option (List Bool × M) → List ℕ
laid_bytes at b None = b
laid_bytes at b (Some (s, n)) = cond (nat_le (at + length s) (8 * length b)) (put_bits b at s) b

abbrev pub put_bytes : {M : Type 0} → Coding M → M → ℕ → ℕ → List ℕ → List ℕ
put_bytes C m x at b = laid_bytes at b (encoded C m x)

abbrev pub put_parts : {M : Type 0} → Put M → ℕ × M
put_parts p = (p.len, p.next)

-- ## Reading: fault 11 where the bits that remain are a proper beginning of a form, fault 16 at a dead form; else the word, its form's length, and the memory moves on

abbrev pub seen : {M : Type 0} → ℕ → Decoding M → Answer (ℕ × ℕ × M)
seen at (word x n m) = gives (x, n, m)
seen at (dead n) = fault 16 at
seen at partial = fault 11 at

abbrev pub take_answer : {M : Type 0} → Coding M → M → List ℕ → ℕ → Answer (ℕ × ℕ × M)
take_answer C m file at = seen at (decoded C m (drop at (bits_of file)))

abbrev pub taken_parts : {M : Type 0} → Taken M → ℕ × ℕ × M
taken_parts t = (t.word, t.len, t.next)
