use Rattle.std.proofs.Common.{◌≡◌, Err, refl, rules}
use Rattle.bits.specs.Bits.{bits}
use Rattle.coder.proofs.Changes.{turn-reads, turn-unread}
use Rattle.coder.proofs.turn.TurnCoder.decode.Goals as goal

pub returns-in_err-inner : goal.returns-in_err-inner
returns-in_err-inner g c =
    let s = c.args.self.now.inner in
    let e : c.from_residual.result ≡ Err c.in_err-inner.field-0.0 = search rules in
    turn-unread (g.C.Coder.coding s) (g.C.Coder.sound s) _ refl (g.C.Coder.fits s).0 c.args.self.now.by c.args.memory (bits c.args.window.len c.args.window.bits) c.in_err-inner.field-0.0 c.from_residual.result c.in_err-inner.ensures e

pub returns : goal.returns
returns g c =
    let s = c.args.self.now.inner in
    turn-reads (g.C.Coder.coding s) (g.C.Coder.sound s) c.word_width-width.result.bits c.word_width-width.ensures (g.C.Coder.fits s).0 c.args.self.now.by c.args.memory (bits c.args.window.len c.args.window.bits) c.in_ok-inner.inner.word c.in_ok-inner.inner.len c.rotated.result c.in_ok-inner.inner.next c.in_ok-inner.ensures c.rotated.ensures
