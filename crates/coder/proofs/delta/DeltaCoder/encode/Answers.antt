use Rattle.std.proofs.Common.{◌≡◌, None, ap, ◌∙◌, rules}
use Rattle.coder.specs.Told.{wrote}
use Rattle.forms.specs.Coders.{delta}
use Rattle.forms.proofs.Coders.{delta-sound}
use Rattle.coder.proofs.Changes.{over, delta-writes}
use Rattle.coder.proofs.delta.DeltaCoder.encode.Goals as goal

pub returns-then-not-is_word : goal.returns-then-not-is_word
returns-then-not-is_word g c =
    let s = c.args.self.now.inner in
    let w = g.C.Coder.wide s in
    over (delta w (g.C.Coder.coding s)) (delta-sound w (g.C.Coder.coding s) (g.C.Coder.sound s)) c.args.memory c.args.word c.word_width-width.result.bits c.is_word.result c.word_width-width.ensures c.is_word.ensures c.if-not-is_word.true

pub returns-in_err-coded : goal.returns-in_err-coded
returns-in_err-coded g c =
    let s = c.args.self.now.inner in
    let e : c.from_residual.result ≡ None = search rules in
    ap wrote e ∙ delta-writes (g.C.Coder.coding s) (g.C.Coder.sound s) c.word_width-width.result.bits c.word_width-width.ensures c.args.memory c.args.word c.difference.result c.is_word.result c.is_word.ensures c.if-not-is_word.false c.difference.ensures None c.in_err-coded.ensures

pub returns : goal.returns
returns g c =
    let s = c.args.self.now.inner in
    delta-writes (g.C.Coder.coding s) (g.C.Coder.sound s) c.word_width-width.result.bits c.word_width-width.ensures c.args.memory c.args.word c.difference.result c.is_word.result c.is_word.ensures c.if-not-is_word.false c.difference.ensures _ c.in_ok-coded.ensures
