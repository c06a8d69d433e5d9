-- What every coder answers, in the words of its forms; it follows from the rules alone.
use Rattle.std.specs.Prelude.{◌≡◌, ℕ, Bool, List, take, Some, None, Option}
use Rattle.forms.specs.Code.{Means}
use Rattle.forms.specs.Rules.{Begins, Partial, Remaining}
use Rattle.forms.specs.Coding.{Coding, Sound, encoded, Decoding, word, dead, partial, decoded}

-- the form that is written stands for the word, and where none is written no form does
abbrev pub RightForm : {M : Type 0} → Coding M → M → ℕ → Option (List Bool × M) → Type 0
RightForm C m x None = (s : List Bool) → Means (C.code m) s (Some x) → ⊥
RightForm C m x (Some (s, k)) = Means (C.code m) s (Some x) × (k ≡ C.after m x)

-- what is read is the word of the form that the bits begin with, or that this form is dead, or that the bits end within one
abbrev pub RightWord : {M : Type 0} → Coding M → M → List Bool → Decoding M → Type 0
RightWord C m bs (word x n k) = Begins (Means (C.code m)) bs (take n bs) (Some x) × (k ≡ C.after m x)
RightWord C m bs (dead n) = Begins (Means (C.code m)) bs (take n bs) None
RightWord C m bs partial = Partial (Means (C.code m)) bs

pub record CoderLaws {M : Type 0} (w : ℕ) (C : Coding M) : Type 0 where
  pub rules : Sound w C
  pub remaining : (m : M) → Remaining (Means (C.code m))
  pub writes : (m : M) (x : ℕ) → RightForm C m x (encoded C m x)
  pub reads : (m : M) (bs : List Bool) → RightWord C m bs (decoded C m bs)
