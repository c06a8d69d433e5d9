-- The two parts of a section's head.
use Rattle.std.specs.Prelude.{ℕ, Bool, cond, List, [], ◌∷◌, ◌++◌}
use Rattle.bits.specs.Bits.{bits}
use Rattle.layout.specs.Recording as recordings
use Rattle.channel.specs.Descriptions.{description_bits}
use Rattle.state.specs.declared.Flags.{Flags}

-- before the rows: the raw size, the pointer if flagged, the channel count unless there is one channel only
unfoldable pub front : Flags → ℕ → List Bool
front g n = bits 32 0 ++ (cond g.pointed (bits 32 0) [] ++ cond g.single [] (bits 24 n))

-- the descriptions of the rows
unfoldable pub rows_bits : Bool → List recordings.Channel → List Bool
rows_bits recorded [] = []
rows_bits recorded (c ∷ cs) = description_bits recorded c ++ rows_bits recorded cs
