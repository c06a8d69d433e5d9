-- A section described: its channels in a table, and its raw size.
use Rattle.std.specs.Prelude.{◌≡◌, ℕ, ◌<◌, ◌≤◌, cond, List, ◌++◌, map, length, take, drop, Ok, Err, Result, nat_le, nat_lt, slice_index_or}
use Rattle.faults.specs.Faults as faults
use Rattle.faults.specs.Faults.{Answer, gives}
use Rattle.faults.specs.declared.kind.Fault.{Fault}
use Rattle.format.specs.Format.{Outcome, got, fault}
use Rattle.layout.specs.Recording as recordings
use Rattle.layout.specs.Recording.{Section, Recording}
use Rattle.layout.specs.Turns.{raw_size}
use Rattle.layout.specs.Slim.{Body, no_section, read}
use Rattle.layout.specs.Claims.{Gives}
use Rattle.channel.specs.declared.record.Channel.{Channel}
use Rattle.calls.specs.Calls.{settings}
use Rattle.reading.specs.declared.taken.Taken.{Taken}
use Rattle.reader.specs.declared.opening.Opening.{Opening}

-- the section with a number, from 0
abbrev pub section_at : List Section → ℕ → Section
section_at ss i = slice_index_or ss i no_section

-- ## Rows

-- the row of a channel, at its starting memory
abbrev pub row_of : recordings.Channel → Channel
row_of c = record {
  settings = record { repeats = c.repeats; delta = c.delta; turn = c.turn; algorithm = c.algorithm; kind = c.kind; narrow = c.narrow; value = c.value };
  memory = 0;
}

abbrev pub rows_of : Section → List Channel
rows_of s = map row_of s.channels

-- ## The call

-- the section that is described, or a fault: 8 where it is not there, 2 where its channels are more than the table's rows
abbrev pub describing : List Section → ℕ → ℕ → Answer Section
describing ss i rows =
    cond (nat_le (length ss) i) (faults.fault 8 0)
    (cond (nat_lt rows (length (section_at ss i).channels)) (faults.fault 2 0)
    (gives (section_at ss i)))

-- the faults of reading come first
abbrev pub described : Outcome Recording → ℕ → ℕ → Answer Section
described (got r p l) i rows = describing r.sections i rows
described (fault n q) i rows = faults.fault n q

-- the number of its channels and its raw size
abbrev pub sizes : Answer Section → Answer (ℕ × ℕ)
sizes (gives s) = gives (length s.channels, raw_size s)
sizes (faults.fault n q) = faults.fault n q

-- its channels are in the first rows, and all other rows are as before
abbrev pub filled : Answer Section → List Channel → List Channel
filled (gives s) t = rows_of s ++ drop (length s.channels) t
filled (faults.fault n q) t = t

abbrev pub describe_answer : List ℕ → ℕ → ℕ → Answer (ℕ × ℕ)
describe_answer f i rows = sizes (described (read f) i rows)

abbrev pub describe_table : List ℕ → ℕ → List Channel → List Channel
describe_table f i t = filled (described (read f) i (length t)) t

-- a table holds the channels of a section, for every recording that the file gives, where there is room for them
abbrev pub HoldsSection : List ℕ → ℕ → ℕ → List Channel → Type 0
HoldsSection f i rows t =
    (r : Recording) → Gives f r → i < length r.sections → length (section_at r.sections i).channels ≤ rows →
    settings (take (length (section_at r.sections i).channels) t) ≡ (section_at r.sections i).channels

-- ## A section that is sought

-- the section is among those that are read
abbrev pub HasSection : Outcome Body → ℕ → Type 0
HasSection (got b p l) i = i < length b.sections
HasSection (fault n q) i = ⊥

abbrev pub section_in : Outcome Body → ℕ → Section
section_in (got b p l) i = section_at b.sections i
section_in (fault n q) i = no_section

-- its head was read, and its channels are in the first rows of a table
abbrev pub Found : Section → List Channel → Result (Taken Opening) Fault → Type 0
Found s t (Ok x) = (x.value.raw ≡ raw_size s) × (x.value.rows ≡ length s.channels) × (take x.value.rows t ≡ rows_of s)
Found s t (Err e) = ⊥
