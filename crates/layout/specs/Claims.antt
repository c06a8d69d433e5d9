-- What is claimed of slim files.
use Rattle.std.specs.Prelude.{◌≡◌, ℕ, ◌*◌, ◌<◌, ◌≤◌, false, ◌⊎◌, List, [], ◌++◌, length, slice_index_or}
use Rattle.bits.specs.Bits.{bits_of, bytes_of}
use Rattle.format.specs.Cells.{Cell, pad, filled}
use Rattle.format.specs.Format.{got}
use Rattle.layout.specs.Recording.{Recording}
use Rattle.layout.specs.Slim.{most_bytes, recording, read}

-- The layout of a recording, and its file: the layout with its pads as zero, eight bits to a byte.
unfoldable pub layout : Recording → List Cell
layout r = recording.cells 0 r

unfoldable pub file : Recording → List ℕ
file r = bytes_of (filled (layout r))

-- A recording that has a file: each part is valid in its format, and the file is within the limit.
unfoldable pub Valid : Recording → Type 0
Valid r = recording.Valid 0 r × (length (layout r) ≤ 8 * most_bytes)

-- The reader gives r for the bytes f.
abbrev pub Gives : List ℕ → Recording → Type 0
Gives f r = (p : ℕ) × (l : ℕ) × (read f ≡ got r p l)

-- The bytes f differ from the file of r in pad bits alone.
abbrev pub PadsApart : List ℕ → Recording → Type 0
PadsApart f r = (length f ≡ length (file r)) ×
    ((p : ℕ) → p < 8 * length f → (slice_index_or (layout r) p pad ≡ pad) ⊎ (slice_index_or (bits_of f) p false ≡ slice_index_or (bits_of (file r)) p false))

pub record FormatStands : Type 0 where
  -- the reader gives r exactly for the bytes that differ from r's file in pad bits alone
  pub only : (f : List ℕ) (r : Recording) → Gives f r → Valid r × PadsApart f r
  pub every : (f : List ℕ) (r : Recording) → Valid r → PadsApart f r → Gives f r
  -- so it gives back what was written
  pub again : (r : Recording) → Valid r → Gives (file r) r
  -- an accepted file is no longer accepted with bytes behind it or without bytes of its end
  pub nothing_behind : (f g : List ℕ) (r s : Recording) → Gives f r → Gives (f ++ g) s → g ≡ []
  -- two recordings never have the same file
  pub apart : (r s : Recording) → Valid r → Valid s → file r ≡ file s → r ≡ s
