use Rattle.std.proofs.Common.{◌≡◌, ◌-◌}
use Rattle.bits.specs.Bits.{bits_of}
use Rattle.format.specs.Format.{each_read}
use Rattle.format.specs.Word.{word}
use Rattle.words.specs.Words.{places}
use Rattle.words.proofs.pass.PassingWork.run.Given as goal

-- what is left to read gives the rest of the answer
abbrev pub invariant-loop : goal.invariant-loop
invariant-loop g l =
    let C = g.C.PileCoder.coding l.coder in
    let f = bits_of l.self.file.now in
    places (each_read (λ m. word (C.code m)) C.after (l.self.count - l.counter) (l.memory, tt) f l.cursor.at.bits l.cursor.last.bits)
    ≡ places (each_read (λ m. word (C.code m)) C.after l.self.count (0, tt) f l.self.from.at.bits l.self.from.last.bits)
