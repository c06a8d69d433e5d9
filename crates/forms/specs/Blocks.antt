-- Blocks of words, and what tells two blocks apart.
use Rattle.std.specs.Prelude.{◌≡◌, ℕ, Bool, List, [], ◌∷◌, ◌++◌, length, Some, None, Option, ◌≢◌}
use Rattle.forms.specs.Code.{Means, form_of}
use Rattle.forms.specs.Coding.{Coding}

-- bs is the forms of the words, one after the other, from the memory m on
abbrev pub Block : {M : Type 0} → Coding M → M → List ℕ → List Bool → Type 0
Block C m [] bs = bs ≡ []
Block C m (x ∷ xs) bs = (s : List Bool) × (r : List Bool) × Means (C.code m) s (Some x) × (bs ≡ s ++ r) × Block C (C.after m x) xs r

-- the bits of the block of some words, and None where a word has no form
abbrev pub followed : Option (List Bool) → Option (List Bool) → Option (List Bool)
followed None o = None
followed (Some s) None = None
followed (Some s) (Some r) = Some (s ++ r)

unfoldable pub block_bits : {M : Type 0} → Coding M → M → List ℕ → Option (List Bool)
block_bits C m [] = Some []
block_bits C m (x ∷ xs) = followed (form_of (C.code m) x) (block_bits C (C.after m x) xs)

-- two blocks of as many words, not the same: neither's bits begin the other's
abbrev pub Apart : {M : Type 0} → Coding M → M → Type 0
Apart C m =
    (xs ys : List ℕ) (bs cs : List Bool) → length xs ≡ length ys → (xs ≢ ys) → Block C m xs bs → Block C m ys cs
    → ((r : List Bool) → cs ≢ bs ++ r) × ((r : List Bool) → bs ≢ cs ++ r)
