use Rattle.std.proofs.Common.{◌≡◌, ◌-◌}
use Rattle.field_bench.specs.Packing.{checksum}
use Rattle.field_bench.proofs.fields_checksum.Given as goal

abbrev pub invariant-loop : goal.invariant-loop
invariant-loop l = checksum l.file l.width (l.count - l.counter) l.at.bits l.sum ≡ checksum l.file l.width l.count 0 0
