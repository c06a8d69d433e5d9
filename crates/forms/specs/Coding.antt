-- Coders, as what they say: a code for each memory, and how a word moves the memory on.
use Rattle.std.specs.Prelude.{ℕ, Bool, List, Some, None, Option}
use Rattle.forms.specs.Code.{Code, Means, Found, form, short, walk, form_of}
use Rattle.forms.specs.Rules.{Rules}

-- rule 3 is in the shape: the next memory is fixed by the memory and the word
pub record Coding (M : Type 0) : Type 0 where
  pub start : M
  pub code : M → Code
  pub after : M → ℕ → M

-- rules 1 and 2, in each memory
abbrev pub Sound : {M : Type 0} → ℕ → Coding M → Type 0
Sound {M} w C = (m : M) → Rules w (Means (C.code m))

-- ## What a coder answers

-- a word's form and the memory behind the word; None where the word has no form
abbrev pub behind : {M : Type 0} → Option (List Bool) → M → Option (List Bool × M)
behind None n = None
behind (Some s) n = Some (s, n)

unfoldable pub encoded : {M : Type 0} → Coding M → M → ℕ → Option (List Bool × M)
encoded C m x = behind (form_of (C.code m) x) (C.after m x)

-- what stands at the front of some bits: a word, its form's length and the memory behind it; a dead form and its length; or a proper beginning of a form
pub data Decoding (M : Type 0) : Type 0 where
  word : ℕ → ℕ → M → Decoding M
  dead : ℕ → Decoding M
  partial : Decoding M

abbrev pub told : {M : Type 0} → (ℕ → M) → Found → Decoding M
told next (form (Some x) n) = word x n (next x)
told next (form None n) = dead n
told next short = partial

unfoldable pub decoded : {M : Type 0} → Coding M → M → List Bool → Decoding M
decoded C m bs = told (C.after m) (walk (C.code m) bs)
