-- Frames: each channel gives its repeats once.
use Rattle.std.specs.Prelude.{ℕ, ◌+◌, ◌*◌, ◌/◌, Bool, true, ◌&&◌, List, [], ◌∷◌, length, nat_le, nat_lt}
use Rattle.layout.specs.Recording.{Channel}
use Rattle.layout.specs.Channels.{width}
use Rattle.layout.specs.Slim.{most_channels}
use Rattle.calls.specs.Calls.{describable}

-- a section may have these channels: 1 to 32, and each keeps the rules
abbrev pub countable : List Channel → Bool
countable cs = nat_lt 0 (length cs) && (nat_le (length cs) most_channels && describable true cs)

-- the raw bytes of a channel in a frame
abbrev pub row_bytes : Channel → ℕ
row_bytes c = width c.kind / 8 * c.repeats

-- the words of a frame, and its raw bytes
unfoldable pub frame_words : List Channel → ℕ
frame_words [] = 0
frame_words (c ∷ cs) = c.repeats + frame_words cs

unfoldable pub frame_bytes : List Channel → ℕ
frame_bytes [] = 0
frame_bytes (c ∷ cs) = row_bytes c + frame_bytes cs
