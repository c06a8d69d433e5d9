-- One word of a channel, with its memory as a number.
use Rattle.std.specs.Prelude.{ℕ, Bool, List, Some, None, Option}
use Rattle.faults.specs.Faults.{Answer, gives, fault}
use Rattle.coder.specs.Told.{form_bits}
use Rattle.coder.specs.declared.form.Coded.{Coded}

abbrev pub kept_put : Answer (ℕ × (ℕ × Unit {0})) → Answer (ℕ × ℕ)
kept_put (gives (n, m)) = gives (n, m.0)
kept_put (fault k p) = fault k p

abbrev pub kept_taken : Answer (ℕ × ℕ × (ℕ × Unit {0})) → Answer (ℕ × ℕ × ℕ)
kept_taken (gives (x, n, m)) = gives (x, n, m.0)
kept_taken (fault k p) = fault k p

-- a word's form, and the memory behind it
abbrev pub kept_form : Option (Coded ℕ) → Option (List Bool × (ℕ × Unit {0}))
kept_form None = None
kept_form (Some c) = Some (form_bits c.form, (c.next, tt))
