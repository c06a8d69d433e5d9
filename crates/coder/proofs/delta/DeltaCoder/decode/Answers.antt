use Rattle.std.proofs.Common.{◌≡◌, Err, refl, rules}
use Rattle.bits.specs.Bits.{bits}
use Rattle.coder.proofs.Changes.{delta-reads, delta-unread}
use Rattle.coder.proofs.delta.DeltaCoder.decode.Goals as goal

pub returns-in_err-inner : goal.returns-in_err-inner
returns-in_err-inner g c =
    let s = c.args.self.now.inner in
    let e : c.from_residual.result ≡ Err c.in_err-inner.field-0.0 = search rules in
    delta-unread (g.C.Coder.coding s) (g.C.Coder.sound s) _ refl c.args.memory (bits c.args.window.len c.args.window.bits) c.in_err-inner.field-0.0 c.from_residual.result c.in_err-inner.ensures e

pub returns : goal.returns
returns g c =
    let s = c.args.self.now.inner in
    delta-reads (g.C.Coder.coding s) (g.C.Coder.sound s) c.word_width.result.bits c.word_width.ensures c.args.memory (bits c.args.window.len c.args.window.bits) c.in_ok-inner.inner.word c.in_ok-inner.inner.len c.sum-word.result c.in_ok-inner.inner.next c.in_ok-inner.ensures c.sum-word.ensures
