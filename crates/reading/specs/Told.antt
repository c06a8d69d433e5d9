-- What an answer of the code says in the terms of the file's description.
use Rattle.std.specs.Prelude.{ℕ, cond, ◌&&◌, List, Ok, Err, Result, nat_le}
use Rattle.bits.specs.Bits.{bits_of}
use Rattle.faults.specs.Faults.{number_of}
use Rattle.faults.specs.declared.kind.Fault.{Fault}
use Rattle.format.specs.Cells.{File}
use Rattle.format.specs.Format.{Outcome, got, fault, field}
use Rattle.layout.specs.Slim.{any}
use Rattle.reading.specs.declared.source.Source.{Source}
use Rattle.reading.specs.declared.taken.Taken.{Taken}

-- the bytes of a source, and the bits that are read
abbrev pub bytes_in : Source → List ℕ
bytes_in s = s.bytes.now

abbrev pub bits_in : Source → File
bits_in s = bits_of (bytes_in s)

-- a value with the place behind it and the first bit of the field last tried, or a fault by number and place
abbrev pub told : {T A : Type 0} → (T → A) → Result (Taken T) Fault → Outcome A
told parts (Ok t) = got (parts t.value) t.end.at.bits t.end.last.bits
told parts (Err e) = fault (number_of e.kind) e.place.bits

-- a field of 1 to so many bits, of any value; no other number of bits makes a field
abbrev pub taking : ℕ → ℕ → File → ℕ → ℕ → Outcome ℕ
taking most n f p l = cond (nat_le 1 n && nat_le n most) ((field n any 0).reads f p l) (fault 11 p)
