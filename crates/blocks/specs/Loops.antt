-- Blocks word by word, as the loops go through them.
use Rattle.std.specs.Prelude.{ℕ, zero, suc, ◌+◌, ◌*◌, Bool, true, false, cond, List, [], ◌∷◌, length, is_some, Some, None, Option}
use Rattle.bits.specs.Bits.{bits, put_bits}
use Rattle.forms.specs.Coding.{Coding, encoded}
use Rattle.faults.specs.Faults.{Answer, gives, fault}
use Rattle.coder.specs.Steps.{take_answer}

-- the parts of a word's form and next memory, where it has them
abbrev pub form_part : {M : Type 0} → Option (List Bool × M) → List Bool
form_part None = []
form_part (Some (s, k)) = s

abbrev pub next_part : {M : Type 0} → M → Option (List Bool × M) → M
next_part m None = m
next_part m (Some (s, k)) = k

-- how many bits the words take behind n, and None where one has no form
unfoldable pub measured : {M : Type 0} → Coding M → M → ℕ → List ℕ → Option ℕ
measured C m n [] = Some n
measured C m n (x ∷ xs) = cond (is_some (encoded C m x)) (measured C (next_part m (encoded C m x)) (n + length (form_part (encoded C m x))) xs) None

-- the words' forms put into a buffer, from a place on
unfoldable pub laid : {M : Type 0} → Coding M → M → List ℕ → ℕ → List ℕ → List ℕ
laid C m b at [] = b
laid C m b at (x ∷ xs) = laid C (next_part m (encoded C m x)) (put_bits b at (form_part (encoded C m x))) (at + length (form_part (encoded C m x))) xs

-- the parts of a word that was taken, where it was
abbrev pub is_taken : {M : Type 0} → Answer (ℕ × ℕ × M) → Bool
is_taken (gives (x, n, k)) = true
is_taken (fault n p) = false

abbrev pub word_taken : {M : Type 0} → Answer (ℕ × ℕ × M) → ℕ
word_taken (gives (x, n, k)) = x
word_taken (fault n p) = 0

abbrev pub len_taken : {M : Type 0} → Answer (ℕ × ℕ × M) → ℕ
len_taken (gives (x, n, k)) = n
len_taken (fault n p) = 0

abbrev pub next_taken : {M : Type 0} → M → Answer (ℕ × ℕ × M) → M
next_taken m (gives (x, n, k)) = k
next_taken m (fault n p) = m

-- a word before others, unless it was not taken
abbrev pub prefixed : {M : Type 0} → Answer (ℕ × ℕ × M) → Answer (List ℕ × ℕ) → Answer (List ℕ × ℕ)
prefixed (gives (x, n, k)) (gives (xs, e)) = gives (x ∷ xs, e)
prefixed (gives (x, n, k)) (fault i p) = fault i p
prefixed (fault i p) r = fault i p

-- n words read from a place on, and the place behind them
unfoldable pub read_words : {M : Type 0} → Coding M → M → List ℕ → ℕ → ℕ → Answer (List ℕ × ℕ)
read_words C m f at zero = gives ([], at)
read_words C m f at (suc n) = prefixed (take_answer C m f at) (read_words C (next_taken m (take_answer C m f at)) f (at + len_taken (take_answer C m f at)) n)

-- the place alone
abbrev pub end_of : Answer (List ℕ × ℕ) → Answer ℕ
end_of (gives (xs, e)) = gives e
end_of (fault i p) = fault i p

-- n words read from a place on and written out, k bytes each, from a byte on, up to the first that is not taken
unfoldable pub spread : {M : Type 0} → ℕ → Coding M → M → List ℕ → ℕ → List ℕ → ℕ → ℕ → List ℕ
spread k C m f at out p zero = out
spread k C m f at out p (suc n) =
    cond (is_taken (take_answer C m f at))
    (spread k C (next_taken m (take_answer C m f at)) f (at + len_taken (take_answer C m f at)) (put_bits out (8 * p) (bits (8 * k) (word_taken (take_answer C m f at)))) (p + k) n)
    out
