use Rattle.std.proofs.Common.{◌≡◌, ◌-◌, ◌*◌, ◌≤◌}
use Rattle.blocks.specs.Loops.{read_words, end_of}
use Rattle.blocks.proofs.block.scan.Given as goal

-- what is left to read gives the rest of the answer
abbrev pub invariant-loop : goal.invariant-loop
invariant-loop g l =
    let C = g.C.Coder.coding l.coder in
    (end_of (read_words C l.memory l.block l.at.bits (l.count - l.counter)) ≡ end_of (read_words C C.start l.block 0 l.count)) × (l.at.bits ≤ 64 * l.counter)
