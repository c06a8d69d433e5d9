-- Flags, and what is there only where it is flagged.
use Rattle.std.specs.Prelude.{◌≡◌, ℕ, Some, None, Ok, Err, Option, Result}
use Rattle.faults.specs.declared.kind.Fault.{Fault}
use Rattle.fields.specs.declared.place.Cursor.{Cursor}
use Rattle.reading.specs.declared.taken.Taken.{Taken}
use Rattle.reading.specs.declared.flagged.Flag.{Flag}
use Rattle.reading.specs.declared.flagged.Flag.TheVariants.{Size, Name, Extra, Pointer, OneChannel, NoRepeats}

-- the bit of a flag in the flag byte
abbrev pub flag_bit : Flag → ℕ
flag_bit Size = 0
flag_bit Name = 1
flag_bit Extra = 2
flag_bit Pointer = 3
flag_bit OneChannel = 4
flag_bit NoRepeats = 5

-- nothing was read
abbrev pub absent : {T : Type 0} → Cursor → Result (Taken (Option T)) Fault
absent from = Ok (record { value = None; end = from })

-- what was read is there
abbrev pub some : {T : Type 0} → Result (Taken T) Fault → Result (Taken (Option T)) Fault
some (Ok t) = Ok (record { value = Some t.value; end = t.end })
some (Err e) = Err e

-- the answer is that of a call whose result has a property
abbrev pub Present : {T : Type 0} → (Result (Taken T) Fault → Type 0) → Result (Taken (Option T)) Fault → Type 0
Present {T} P r = (x : Result (Taken T) Fault) × P x × (r ≡ some x)
