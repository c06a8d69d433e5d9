-- Worked cases, as one table.
use Rattle.std.specs.Prelude.{◌≡◌, ℕ, ◌+◌, ◌*◌, List, [], ◌∷◌, Some, None}
use Rattle.bits.specs.Bits.{bits}
use Rattle.forms.specs.Code.{form, walk, form_of}
use Rattle.forms.specs.Coders.{minus, rotr, reduced}

pub data Case : Type 0 where
  -- with width, R and pedestal: the word's form is so many bits of a number
  writes : ℕ → ℕ → ℕ → ℕ → ℕ → ℕ → Case
  -- with width, R and pedestal: so many bits of a number are a dead form
  dies : ℕ → ℕ → ℕ → ℕ → ℕ → Case
  -- within a width, a turn by b makes a word into another
  turns : ℕ → ℕ → ℕ → ℕ → Case
  -- within a width, after a word, delta sends a word down as another
  differs : ℕ → ℕ → ℕ → ℕ → Case

abbrev pub Holds : Case → Type 0
Holds (writes w R p x n v) = form_of (reduced w R p) x ≡ Some (bits n v)
Holds (dies w R p n v) = walk (reduced w R p) (bits n v) ≡ form None n
Holds (turns w b x y) = rotr w b x ≡ y
Holds (differs w p x y) = minus w p x ≡ y

abbrev pub AllHold : List Case → Type 0
AllHold [] = Unit {0}
AllHold (c ∷ cs) = Holds c × AllHold cs

abbrev pub cases : List Case
cases =
    writes 8 3 10 16 3 6
    ∷ writes 8 3 10 17 11 (17 * 8 + 7)
    ∷ dies 8 3 10 11 (12 * 8 + 7)
    ∷ writes 8 3 254 4 3 6
    ∷ writes 8 3 254 5 11 (5 * 8 + 7)
    ∷ writes 8 8 0 255 16 (255 * 256 + 255)
    ∷ turns 32 8 0x87f71300 0x0087f713
    ∷ differs 8 0 5 5
    ∷ differs 8 5 3 254
    ∷ []
