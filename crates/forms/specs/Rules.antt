-- The rules of coders.
use Rattle.std.specs.Prelude.{◌≡◌, ℕ, ◌^◌, ◌<◌, ◌≤◌, Bool, ◌⊎◌, List, ◌++◌, length, Some, Option}

-- Forms and what they mean: `S s o` says that the string s is a form, and that o is its word, or None where it is dead.
abbrev pub Meaning : Type 1
Meaning = List Bool → Option ℕ → Type 0

-- bs begins with the form s, which means o
abbrev pub Begins : Meaning → List Bool → List Bool → Option ℕ → Type 0
Begins S bs s o = (r : List Bool) × S s o × (bs ≡ s ++ r)

-- bs begins with exactly one form
abbrev pub ExactlyOne : Meaning → List Bool → Type 0
ExactlyOne S bs = (s : List Bool) × (o : Option ℕ) × Begins S bs s o × ((u : List Bool) (q : Option ℕ) → Begins S bs u q → (u ≡ s) × (q ≡ o))

-- bs is a proper beginning of a form
abbrev pub Partial : Meaning → List Bool → Type 0
Partial S bs = (s : List Bool) × (o : Option ℕ) × (r : List Bool) × S s o × (s ≡ bs ++ r) × (0 < length r)

-- What holds of the forms of a coder of words of w bits, in each of its memories.
pub record Rules (w : ℕ) (S : Meaning) : Type 0 where
  -- rule 1: each string of 64 bits begins with exactly one form, and no form is longer
  pub exactly : (bs : List Bool) → length bs ≡ 64 → ExactlyOne S bs
  pub short : (s : List Bool) (o : Option ℕ) → S s o → length s ≤ 64
  -- rule 2: the words are of w bits, and each has at most one form
  pub below : (s : List Bool) (x : ℕ) → S s (Some x) → x < 2 ^ w
  pub alone : (s u : List Bool) (x : ℕ) → S s (Some x) → S u (Some x) → s ≡ u

-- By the rules alone, the bits that remain begin with exactly one form or are a proper beginning of one, and never both.
abbrev pub Remaining : Meaning → Type 0
Remaining S = (bs : List Bool) → (ExactlyOne S bs ⊎ Partial S bs) × (ExactlyOne S bs → Partial S bs → ⊥)
