use Rattle.std.proofs.Common.{◌-◌}
use Rattle.reader.specs.Walks.{standing}
use Rattle.reader.proofs.Writes.{Writes}
use Rattle.reader.proofs.walk.Walk.write_all.Given as goal

-- the bytes so far and those of the sections that are left are all of them
abbrev pub invariant-loop-section : goal.invariant-loop-section
invariant-loop-section l = Writes (standing l.self) (standing l.initial.self) l.initial.out l.out

abbrev pub decreases-loop-section : goal.decreases-loop-section
decreases-loop-section l = 64 - l.self.sections
