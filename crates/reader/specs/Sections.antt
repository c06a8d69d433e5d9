-- A section as it is read: its head, and what follows the head.
use Rattle.std.specs.Prelude.{◌≡◌, ℕ, ◌+◌, ◌/◌, ◌≤◌, Bool, true, false, cond, List, map, length, take, Some, None, Ok, Err, Option, Result, ◌==◌, nat_le}
use Rattle.faults.specs.declared.kind.Fault.{Fault}
use Rattle.format.specs.Format.{Format, field, whole, ◌>>=◌, ◌∈◌, judged}
use Rattle.layout.specs.Recording as recordings
use Rattle.layout.specs.Turns.{first, count_words}
use Rattle.layout.specs.Slim as slim
use Rattle.layout.specs.Slim.{most_bytes, any, positive, goes_on, counted, closed, Piece}
use Rattle.channel.specs.declared.record.Channel.{Channel}
use Rattle.channel.specs.Records.{rested}
use Rattle.calls.specs.Calls.{settings}
use Rattle.calls.specs.Parts.{described}
use Rattle.reading.specs.declared.taken.Taken.{Taken}
use Rattle.reader.specs.declared.opening.Opening.{Opening}

-- what the head of a section holds
pub record Head : Type 0 where
  pub raw : ℕ
  pub pointer : Option ℕ
  pub channels : List recordings.Channel

-- ## The fields of the head

-- the raw size, after so many raw bytes
unfoldable pub raw_field : ℕ → Format ℕ
raw_field total = judged (field 32 positive 8) (λ v q. nat_le (total + v) most_bytes) 9

abbrev pub given : Option ℕ → ℕ
given None = 0
given (Some n) = n

-- the pointer, where it is flagged; it is not judged yet
unfoldable pub pointer_field : Bool → Format (Option ℕ)
pointer_field true = do
  n ← given ∈ field 32 any 0
  whole (Some n)
pointer_field false = whole None

unfoldable pub head : slim.Flags → ℕ → Format Head
head g total = do
  v ← (λ h. h.raw) ∈ raw_field total
  t ← (λ h. h.pointer) ∈ pointer_field g.pointed
  cs ← (λ h. h.channels) ∈ described g
  whole (record { raw = v; pointer = t; channels = cs })

-- ## What follows the head

-- a number that was read, where there is one, is the one that it should be
abbrev pub agrees : Option ℕ → ℕ → Bool
agrees None right = true
agrees (Some n) right = n == right

-- the words, what closes the section and the pad bits; the pointer is judged last
unfoldable pub rest : Bool → Head → Format Piece
rest room h =
    judged (counted (count_words h.channels first h.raw h.raw) (closed room h.channels))
    (λ x q. agrees h.pointer (cond (goes_on x.closing) (q / 8) 0)) 15

-- ## Heads in a table

-- the settings of a table's first rows
abbrev pub rows_in : List Channel → ℕ → List recordings.Channel
rows_in t n = settings (take n t)

-- the rows that were read are there, at their starting memories
abbrev pub AtRest : {T : Type 0} → (T → ℕ) → List Channel → Result (Taken T) Fault → Type 0
AtRest rows t (Ok x) = (rows x.value ≤ length t) × (map rested (take (rows x.value) t) ≡ take (rows x.value) t)
AtRest rows t (Err e) = Unit {0}

abbrev pub head_in : List Channel → Opening → Head
head_in t o = record { raw = o.raw; pointer = o.pointer; channels = rows_in t o.rows }
