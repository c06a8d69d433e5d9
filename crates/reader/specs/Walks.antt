-- A walk over the sections of a file.
use Rattle.std.specs.Prelude.{◌≡◌, ℕ, ◌+◌, Bool, cond, List, length, Ok, Err, Option, Result, nat_lt}
use Rattle.bits.specs.Bits.{bits_of}
use Rattle.faults.specs.Faults.{number_of}
use Rattle.faults.specs.declared.kind.Fault.{Fault}
use Rattle.format.specs.Format.{Outcome, got, fault}
use Rattle.layout.specs.Slim as slim
use Rattle.layout.specs.Slim.{most_bytes, most_sections, piece, chain, Body}
use Rattle.calls.specs.Calls.{flags}
use Rattle.reading.specs.Heads as heads
use Rattle.reading.specs.Told.{bytes_in}
use Rattle.reader.specs.declared.walk.Walk.{Walk}
use Rattle.reader.specs.Files.{section_flags}
use Rattle.reader.specs.Counts.{seen, outline}

-- where a walk stands: in which file, what the head says of its size and flags, the place of the next section and the first bit of the field last tried,
-- and how many sections and raw bytes it has passed
pub record Standing : Type 0 where
  pub file : List ℕ
  pub size : Option ℕ
  pub flags : slim.Flags
  pub place : ℕ
  pub tried : ℕ
  pub sections : ℕ
  pub raw : ℕ

abbrev pub standing : Walk → Standing
standing w = record { file = bytes_in w.source; size = w.size; flags = flags w.flags; place = w.end.at.bits; tried = w.end.last.bits; sections = w.sections; raw = w.raw }

-- the head of a file; fault 1 where the file is too long
abbrev pub head_read : List ℕ → Outcome heads.Head
head_read f = cond (nat_lt most_bytes (length f)) (fault 1 0) ((heads.head).reads (bits_of f) 0 0)

-- the first section of a file with a head, which ends at a place
abbrev pub first_standing : List ℕ → heads.Head → ℕ → ℕ → Standing
first_standing f h p l = record { file = f; size = h.size; flags = section_flags h; place = p; tried = l; sections = 0; raw = 0 }

-- no section was passed
abbrev pub AtFirst : Standing → Type 0
AtFirst s = (s.sections ≡ 0) × (s.raw ≡ 0)

-- a walk begins at the first section of a file
abbrev pub Begins : List ℕ → Result Walk Fault → Type 0
Begins f (Ok w) = (h : heads.Head) × (got h w.end.at.bits w.end.last.bits ≡ head_read f) × (standing w ≡ first_standing f h w.end.at.bits w.end.last.bits)
Begins f (Err e) = fault (number_of e.kind) e.place.bits ≡ head_read f

-- a walk that has passed a section with so many raw bytes, up to a place
abbrev pub moved : Standing → ℕ → ℕ → ℕ → Standing
moved s p l n = record { file = s.file; size = s.size; flags = s.flags; place = p; tried = l; sections = s.sections + 1; raw = s.raw + n }

-- whether another section may follow the next one
abbrev pub has_room : Standing → Bool
has_room s = nat_lt (s.sections + 1) most_sections

-- the next section, behind at most 63 others
abbrev pub next_section : Standing → ℕ → Outcome (ℕ × ℕ × slim.Closing)
next_section s l = cond (nat_lt s.sections most_sections) (seen outline ((piece s.flags (has_room s) s.raw).reads (bits_of s.file) s.place l)) (fault 9 s.tried)

-- all sections of a file, from the first on
abbrev pub all_sections : Standing → Outcome Body
all_sections s = (chain s.flags most_sections 0).reads (bits_of s.file) s.place s.tried

-- what a call answered, and where the walk then stands
abbrev pub stepped : {T A : Type 0} → (T → A) → Standing → Result T Fault → Outcome A
stepped parts s (Ok t) = got (parts t) s.place s.tried
stepped parts s (Err e) = fault (number_of e.kind) e.place.bits
