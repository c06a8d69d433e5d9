use Rattle.std.proofs.Common.{◌≡◌, ◌+◌, ◌-◌, ◌/◌}
use Rattle.words.specs.Spread.{spread}
use Rattle.words.proofs.spread.SpreadingWork.run.Given as goal

-- what is left to spread gives the rest of the answer
abbrev pub invariant-loop : goal.invariant-loop
invariant-loop g l =
    let C = g.C.PileCoder.coding l.coder in
    let k = (g.C.PileCoder.wide l.coder + 7) / 8 in
    spread C.code C.after (λ m. k) l.self.file.now (l.self.count - l.counter) (l.memory, tt) l.cursor.at.bits l.out l.to
    ≡ spread C.code C.after (λ m. k) l.self.file.now l.self.count (0, tt) l.self.at.bits l.initial.out l.initial.to
