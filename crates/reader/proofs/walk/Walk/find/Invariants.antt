use Rattle.std.proofs.Common.{◌≡◌}
use Rattle.reader.specs.Walks.{standing}
use Rattle.reader.proofs.Finding.{Sought}
use Rattle.reader.proofs.walk.Walk.find.Given as goal

-- the section is among those that are left
abbrev pub invariant-loop : goal.invariant-loop
invariant-loop l = Sought (standing l.self) (standing l.initial.self) l.section × (l.self.sections ≡ l.counter)
