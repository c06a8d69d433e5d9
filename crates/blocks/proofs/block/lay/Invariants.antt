use Rattle.std.proofs.Common.{◌≡◌, ◌+◌, ◌/◌, Some}
use Rattle.bits.specs.Raw.{words_in}
use Rattle.fields.specs.Fields.{held, held_end}
use Rattle.blocks.specs.Blocks.{bytes_per}
use Rattle.blocks.specs.Loops.{measured, laid}
use Rattle.blocks.proofs.block.lay.Given as goal

-- what is left to lay gives the rest of the output, and takes the bits that were measured
abbrev pub invariant-loop-word : goal.invariant-loop-word
invariant-loop-word g l =
    let C = g.C.Coder.coding l.coder in
    let ys = words_in ((l.word-iterator.width.bits + 7) / 8) l.word-iterator.left.now in
    let w = l.waiting in
    (laid C l.memory (held l.out w.place w.word w.have) (held_end w.place w.have) ys ≡ laid C C.start l.initial.out 0 (words_in (bytes_per (g.C.Coder.wide l.coder)) l.raw))
    × (measured C l.memory (held_end w.place w.have) ys ≡ Some l.len)
