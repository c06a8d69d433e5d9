-- A word of a code, as a part of a file.
use Rattle.std.specs.Prelude.{ℕ, ◌+◌, Bool, List, [], drop, Some, None, Option}
use Rattle.forms.specs.Code.{Code, Means, Found, form, short, walk, form_of}
use Rattle.format.specs.Cells.{marked}
use Rattle.format.specs.Format.{Outcome, got, fault, Format}

abbrev pub given : Option (List Bool) → List Bool
given None = []
given (Some s) = s

-- what a form at the place p gives
abbrev pub told : ℕ → Found → Outcome ℕ
told p (form (Some x) n) = got x (p + n) p
told p (form None n) = fault 16 p
told p short = fault 11 p

-- a word that has a form; the form is written; fault 16 at a dead form, fault 11 where the file ends within a form
unfoldable pub word : Code → Format ℕ
word t = record {
  Valid = λ p x. (s : List Bool) × Means t s (Some x);
  cells = λ p x. marked (given (form_of t x));
  reads = λ f p l. told p (walk t (drop p f));
}
