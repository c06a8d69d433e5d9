use Rattle.std.proofs.Common.{◌%◌}
use Rattle.forms.specs.Coders.{turn}
use Rattle.forms.proofs.Coders.{turn-sound, within}
use Rattle.coder.proofs.Changes.{over, turn-writes}
use Rattle.coder.proofs.turn.TurnCoder.encode.Goals as goal

pub returns-then-not-is_word : goal.returns-then-not-is_word
returns-then-not-is_word g c =
    let s = c.args.self.now.inner in
    let b = c.args.self.now.by in
    let w = g.C.Coder.wide s in
    over (turn w (b % w) (g.C.Coder.coding s)) (turn-sound w (b % w) (g.C.Coder.coding s) (within b w (g.C.Coder.fits s).0) (g.C.Coder.sound s)) c.args.memory c.args.word c.word_width-width.result.bits c.is_word.result c.word_width-width.ensures c.is_word.ensures c.if-not-is_word.true

pub returns : goal.returns
returns g c =
    let s = c.args.self.now.inner in
    turn-writes (g.C.Coder.coding s) (g.C.Coder.sound s) c.word_width-width.result.bits c.word_width-width.ensures (g.C.Coder.fits s).0 c.args.self.now.by c.args.memory c.args.word c.rotated.result c.is_word.result c.is_word.ensures c.if-not-is_word.false c.rotated.ensures _ c.encode.ensures
