-- The raw bytes of the next section of a walk, written.
use Rattle.std.specs.Prelude.{◌≡◌, ℕ, ◌+◌, ◌*◌, ◌≤◌, Bool, List, length}
use Rattle.bits.specs.Bits.{bits_of, put_bits}
use Rattle.format.specs.Format.{got}
use Rattle.layout.specs.Turns.{raw_size}
use Rattle.layout.specs.Slim.{Piece, piece}
use Rattle.reader.specs.Unpacking.{section_bytes}
use Rattle.reader.specs.Walks.{Standing}

-- where the section can be read and there is room, its raw bytes are written behind those of the sections that were passed
abbrev pub WritesNext : Standing → List ℕ → List ℕ → Type 0
WritesNext s out left =
    (room : Bool) (l : ℕ) (x : Piece) (q m : ℕ) → (piece s.flags room s.raw).reads (bits_of s.file) s.place l ≡ got x q m → s.raw + raw_size x.section ≤ length out →
    left ≡ put_bits out (8 * s.raw) (bits_of (section_bytes x.section))
