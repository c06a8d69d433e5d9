use Rattle.std.proofs.Common.{◌≡◌, ◌-◌, ◌*◌, ◌≤◌}
use Rattle.blocks.specs.Blocks.{bytes_per}
use Rattle.blocks.specs.Loops.{spread}
use Rattle.blocks.proofs.block.unpack.Given as goal

-- what is left to write gives the rest of the output
abbrev pub invariant-loop-i : goal.invariant-loop-i
invariant-loop-i g l =
    let C = g.C.Coder.coding l.coder in
    let k = bytes_per (g.C.Coder.wide l.coder) in
    (spread k C l.memory l.block l.at.bits l.out (k * l.i) (l.count - l.i) ≡ spread k C C.start l.block 0 l.initial.out 0 l.count) × (l.at.bits ≤ 64 * l.i)
