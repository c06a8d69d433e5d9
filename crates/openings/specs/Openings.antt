-- The head of a section, as it is written when the section is opened.
use Rattle.std.specs.Prelude.{ℕ, ◌+◌, ◌*◌, Bool, ◌&&◌, List, length, nat_le}
use Rattle.layout.specs.Slim.{most_bytes, most_channels, recorded}
use Rattle.channel.specs.declared.record.Channel.{Channel}
use Rattle.state.specs.declared.Flags.{Flags}
use Rattle.calls.specs.Parts.{open_bits}
use Rattle.calls.specs.Calls.{settings, flags, describable}

-- the head: raw size and pointer are 0
abbrev pub opening : Flags → List Channel → List Bool
opening g t = open_bits (flags g) 0 0 (settings t)

-- a head goes into a buffer of so many bytes, from a byte on: buffer and table are not too long, the rows can be described, and the bits lie within
abbrev pub openable : ℕ → ℕ → Flags → List Channel → Bool
openable size at g t =
    nat_le size most_bytes && (nat_le (length t) most_channels && (describable (recorded (flags g) (length (settings t))) (settings t) && nat_le (8 * at + length (opening g t)) (8 * size)))
