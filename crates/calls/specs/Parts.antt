-- The parts of a file that the writer's calls write, from the file's description.
use Rattle.std.specs.Prelude.{ℕ, ◌+◌, Bool, false, cond, List, [], ◌++◌, length, replicate, Option}
use Rattle.bits.specs.Bits.{bits}
use Rattle.format.specs.Cells.{filled}
use Rattle.format.specs.Format.{Format, ◌>>=◌, ◌∈◌, times, gap}
use Rattle.layout.specs.Recording.{Channel}
use Rattle.layout.specs.Slim as slim
use Rattle.layout.specs.Slim.{is_given, flagged, name_bytes, extra_bytes, most_name, channel_count, recorded, channel, Closing, closing}

-- what is written for a value at a place
abbrev pub written : {A : Type 0} → Format A → ℕ → A → List Bool
written F p a = filled (F.cells p a)

-- ## The head

-- the caller's flags
pub record Marks : Type 0 where
  pub sized : Bool
  pub pointed : Bool
  pub single : Bool
  pub unrepeated : Bool

abbrev pub marks_byte : Marks → Bool → Bool → ℕ
marks_byte m named extended =
    cond m.sized 1 0 + (cond named 2 0 + (cond extended 4 0 + (cond m.pointed 8 0 + (cond m.single 16 0 + cond m.unrepeated 32 0))))

abbrev pub name_bits : Option (List ℕ) → List Bool
name_bits o = written (flagged (is_given o) (name_bytes most_name)) 0 o

abbrev pub extra_bits : Option (List ℕ) → List Bool
extra_bits o = written (flagged (is_given o) extra_bytes) 0 o

-- the head of a file, with a number in the size field
unfoldable pub head_bits : ℕ → Marks → Option (List ℕ) → Option (List ℕ) → ℕ → List Bool
head_bits stamp m name extra size =
    bits 16 0x4c53 ++ (bits 32 stamp ++ (bits 8 (marks_byte m (is_given name) (is_given extra)) ++ (cond m.sized (bits 32 size) [] ++ (name_bits name ++ extra_bits extra))))

-- ## A section's head

-- the channel count and the descriptions
unfoldable pub described : slim.Flags → Format (List Channel)
described g = do
  c ← length ∈ channel_count g
  times c (channel (recorded g c))

-- the raw size, the pointer if flagged, and the descriptions
unfoldable pub open_bits : slim.Flags → ℕ → ℕ → List Channel → List Bool
open_bits g raw pointer cs = bits 32 raw ++ (cond g.pointed (bits 32 pointer) [] ++ written (described g) 0 cs)

-- ## What closes a section

-- the tag, the leftovers and zeros up to a whole byte
unfoldable pub closing_bits : ℕ → Closing → List Bool
closing_bits p e = written closing p e ++ replicate (gap (p + length (written closing p e))) false
