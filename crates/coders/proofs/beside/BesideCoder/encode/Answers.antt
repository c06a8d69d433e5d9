use Rattle.std.proofs.Common.{◌≡◌, false, None, refl, ap, ◌∙◌, rules}
use Rattle.forms.proofs.Changes.{off-encoded}
use Rattle.coder.specs.Told.{wrote}
use Rattle.coders.proofs.beside.BesideCoder.encode.Goals as goal

pub returns-in_err-coded : goal.returns-in_err-coded
returns-in_err-coded g c =
    let i = c.args.self.now.inner in
    let e : c.from_residual.result ≡ None = search rules in
    ap wrote e ∙ off-encoded (g.C.Coder.wide i) (g.C.Coder.coding i) false refl c.args.memory c.args.word None c.in_err-coded.ensures

pub returns : goal.returns
returns g c =
    let i = c.args.self.now.inner in
    off-encoded (g.C.Coder.wide i) (g.C.Coder.coding i) false refl c.args.memory c.args.word _ c.in_ok-coded.ensures
