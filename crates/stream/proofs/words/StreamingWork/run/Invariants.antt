use Rattle.std.proofs.Common.{◌≡◌, ◌+◌, ◌*◌, ◌/◌, ◌≤◌, length, None}
use Rattle.bits.specs.Raw.{raw_words, words_in}
use Rattle.fields.specs.Fields.{held, held_end}
use Rattle.stream.specs.Stream.{streamed}
use Rattle.stream.proofs.words.StreamingWork.run.Given as goal

-- what is left to put gives the rest of the answer, and the bits that wait end at the place
abbrev pub invariant-loop-word : goal.invariant-loop-word
invariant-loop-word g l =
    let C = g.C.PileCoder.coding l.coder in
    let xs = raw_words ((g.C.PileCoder.wide l.coder + 7) / 8) l.self.count l.self.raw.now in
    let ys = words_in ((l.word-iterator.width.bits + 7) / 8) l.word-iterator.left.now in
    let n = length l.initial.buffer in
    let w = l.waiting in
    let d = l.done in
    (streamed C n d.words d.memory d.at.bits (held l.buffer w.place w.word w.have) ys ≡ streamed C n 0 l.self.memory l.self.at.bits l.initial.buffer xs)
    × (d.at.bits ≡ held_end w.place w.have) × (d.at.bits ≤ 8 * n) × (d.fault ≡ None) × (d.words + length ys ≡ l.self.count)
