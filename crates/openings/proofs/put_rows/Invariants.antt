use Rattle.std.proofs.Common.{◌≡◌, ◌+◌, true, length, drop}
use Rattle.bits.specs.Bits.{put_bits, Bytes}
use Rattle.calls.specs.Calls.{settings, describable}
use Rattle.openings.specs.Steps.{rows_bits}
use Rattle.openings.proofs.put_rows.Given as goal

-- putting the rows that are left gives the whole
abbrev pub invariant-loop-row : goal.invariant-loop-row
invariant-loop-row l =
    (put_bits l.buffer l.place.bits (rows_bits l.recorded (settings (drop l.row-index l.table))) ≡ put_bits l.initial.buffer l.initial.place.bits (rows_bits l.recorded (settings l.table)))
    × (l.place.bits + length (rows_bits l.recorded (settings (drop l.row-index l.table))) ≡ l.initial.place.bits + length (rows_bits l.recorded (settings l.table)))
    × (length l.buffer ≡ length l.initial.buffer)
    × (describable l.recorded (settings (drop l.row-index l.table)) ≡ true)
    × Bytes l.buffer
