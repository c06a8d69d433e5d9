use Rattle.std.proofs.Common.{◌≡◌, map, length, take}
use Rattle.bits.specs.Bits.{bits_of}
use Rattle.format.specs.Format.{times}
use Rattle.layout.specs.Slim.{channel}
use Rattle.channel.specs.Records.{rested}
use Rattle.reader.specs.Sections.{rows_in}
use Rattle.reader.proofs.Rows.{so_far}
use Rattle.reader.proofs.sections.take_rows.Given as goal

-- the rows so far and those that are left to read are all of them
abbrev pub invariant-loop-row : goal.invariant-loop-row
invariant-loop-row l =
    (so_far l.recorded (bits_of l.source.bytes.now) (length l.initial.rows) (rows_in l.rows l.row-index) l.row-index l.end.at.bits l.end.last.bits
    ≡ (times (length l.initial.rows) (channel l.recorded)).reads (bits_of l.source.bytes.now) l.initial.end.at.bits l.initial.end.last.bits)
    × (map rested (take l.row-index l.rows) ≡ take l.row-index l.rows)
