use Rattle.std.proofs.Common.{◌-◌}
use Rattle.reader.specs.Walks.{standing}
use Rattle.reader.proofs.Walks.{Onward}
use Rattle.reader.proofs.walk.Walk.pass_all.Given as goal

-- the sections so far and those that are left are all of them
abbrev pub invariant-loop-section : goal.invariant-loop-section
invariant-loop-section l = Onward (standing l.self) l.words (standing l.initial.self)

abbrev pub decreases-loop-section : goal.decreases-loop-section
decreases-loop-section l = 64 - l.self.sections
