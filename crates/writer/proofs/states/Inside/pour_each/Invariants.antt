use Rattle.std.proofs.Common.{length}
use Rattle.writer.proofs.Pouring.{Going}
use Rattle.writer.proofs.states.Inside.pour_each.Given as goal

-- the words left to put give the rest of the answer
abbrev pub invariant-loop-rest : goal.invariant-loop-rest
invariant-loop-rest l = Going l.initial.self.spot l.initial.buffer l.initial.table l.raw l.self.spot l.buffer l.table l.rest l.bits

abbrev pub decreases-loop-rest : goal.decreases-loop-rest
decreases-loop-rest l = length l.rest
