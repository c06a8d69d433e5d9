use Rattle.std.proofs.Common.{◌≡◌, ◌*◌}
use Rattle.fields.specs.Fields.{held, held_end}
use Rattle.field_bench.specs.Packing.{packed}
use Rattle.field_bench.proofs.fields_pack.Given as goal

abbrev pub invariant-loop-i : goal.invariant-loop-i
invariant-loop-i l =
    (held l.buffer l.waiting.place l.waiting.word l.waiting.have ≡ packed l.initial.buffer l.width l.i) × (held_end l.waiting.place l.waiting.have ≡ l.width * l.i)
