-- The unary code of words of 4 bits.
use Rattle.std.specs.Prelude.{ℕ, zero, suc, Bool, true, false, cond, Some, None, nat_le, nat_lt}
use Rattle.forms.specs.Code.{Code, ends, fork, field}
use Rattle.forms.specs.Coding.{Coding}
use Rattle.forms.specs.Coders.{null}

-- behind seven ones, 4 bits: a word of 7 or more, and what is smaller is dead
abbrev pub large : ℕ → Code
large d = ends (cond (nat_lt d 7) None (Some d))

-- behind n ones, with k more to come at most: a zero ends the word n
unfoldable pub climb : ℕ → ℕ → Code
climb zero n = field 4 large
climb (suc k) n = fork (ends (Some n)) (climb k (suc n))

-- the memory says whether the word before was 7 or more: the next is then its 4 bits
abbrev pub code_of : Bool → Code
code_of false = climb 7 0
code_of true = null 4

abbrev pub unary : Coding Bool
unary = record { start = false; code = code_of; after = λ m x. nat_le 7 x }
