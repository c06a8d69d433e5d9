-- A file that is opened to be read.
use Rattle.std.specs.Prelude.{◌≡◌, ℕ, ◌<◌, List, length, Ok, Err, Result}
use Rattle.faults.specs.declared.kind.Kind.TheVariants.{WrongLength}
use Rattle.faults.specs.declared.kind.Fault.{Fault}
use Rattle.reading.specs.declared.source.Source.{Source}
use Rattle.reading.specs.Told.{bytes_in}

-- it has these bytes, or they are more than a file may have
abbrev pub Opened : List ℕ → Result Source Fault → Type 0
Opened f (Ok s) = bytes_in s ≡ f
Opened f (Err e) = (16777216 < length f) × (e ≡ record { kind = WrongLength; place = record { bits = 0 } })
