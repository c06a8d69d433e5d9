-- The descriptions of channels.
use Rattle.std.specs.Prelude.{ℕ, ◌+◌, ◌*◌, Bool, ◌&&◌, List, length, nat_le}
use Rattle.format.specs.Cells.{filled}
use Rattle.layout.specs.Recording as recordings
use Rattle.layout.specs.Channels.{ruled}
use Rattle.layout.specs.Slim.{most_bytes, channel}

-- the bits of a channel's description, whose repeats may not be recorded
unfoldable pub description_bits : Bool → recordings.Channel → List Bool
description_bits recorded c = filled ((channel recorded).cells 0 c)

-- a description goes into a buffer of so many bytes, no more than a file has: the channel keeps the rules, and the bits from the place on lie within
abbrev pub describes : recordings.Channel → List Bool → ℕ → ℕ → Bool
describes c description at size = nat_le size most_bytes && (ruled c && nat_le (at + length description) (8 * size))
