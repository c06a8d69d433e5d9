use Rattle.std.proofs.Common.{◌≡◌, ◌+◌, ◌*◌, ◌/◌, ◌≤◌, length}
use Rattle.bits.specs.Raw.{words_in}
use Rattle.blocks.specs.Blocks.{bytes_per}
use Rattle.blocks.specs.Loops.{measured}
use Rattle.blocks.proofs.block.measure.Given as goal

-- what is left to measure gives the rest of the answer
abbrev pub invariant-loop-word : goal.invariant-loop-word
invariant-loop-word g l =
    let C = g.C.Coder.coding l.coder in
    let ys = words_in ((l.word-iterator.width.bits + 7) / 8) l.word-iterator.left.now in
    (measured C l.memory l.len ys ≡ measured C C.start 0 (words_in (bytes_per (g.C.Coder.wide l.coder)) l.raw)) × (l.len + 64 * length ys ≤ 4194304)
