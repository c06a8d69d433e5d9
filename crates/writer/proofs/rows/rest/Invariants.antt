use Rattle.std.proofs.Common.{◌≡◌, ◌++◌, map, take, drop}
use Rattle.channel.specs.Records.{rested}
use Rattle.writer.proofs.rows.rest.Given as goal

abbrev pub invariant-loop-row : goal.invariant-loop-row
invariant-loop-row l = l.table ≡ map rested (take l.row-index l.initial.table) ++ drop l.row-index l.initial.table
