-- Faults by number and place, and the answers of calls.
use Rattle.std.specs.Prelude.{ℕ, Ok, Err, Result}
use Rattle.faults.specs.declared.kind.Kind.{Kind}
use Rattle.faults.specs.declared.kind.Kind.TheVariants.{WrongLength, OutputTooShort, ReservedFlag, BadNameOrExtra, ChannelCount, BadSetting, NoForm, NoSection, OverLimit, LeftoverCount, InputEnds, NotSlim, PartialWord, WrongSize, WrongPointer, DeadForm, BadTag, TrailingBytes}
use Rattle.faults.specs.declared.kind.Fault.{Fault}

abbrev pub number_of : Kind → ℕ
number_of WrongLength = 1
number_of OutputTooShort = 2
number_of ReservedFlag = 3
number_of BadNameOrExtra = 4
number_of ChannelCount = 5
number_of BadSetting = 6
number_of NoForm = 7
number_of NoSection = 8
number_of OverLimit = 9
number_of LeftoverCount = 10
number_of InputEnds = 11
number_of NotSlim = 12
number_of PartialWord = 13
number_of WrongSize = 14
number_of WrongPointer = 15
number_of DeadForm = 16
number_of BadTag = 17
number_of TrailingBytes = 18

-- What a call answers: what was requested, or a fault with its number and its place in bits.
pub data Answer (A : Type 0) : Type 0 where
  gives : A → Answer A
  fault : ℕ → ℕ → Answer A

-- the answer that a result holds
abbrev pub answered : {T A : Type 0} → (T → A) → Result T Fault → Answer A
answered value (Ok t) = gives (value t)
answered value (Err f) = fault (number_of f.kind) f.place.bits
