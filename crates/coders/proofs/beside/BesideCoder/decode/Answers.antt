use Rattle.std.proofs.Common.{◌≡◌, false, Err, refl, ap, ◌∙◌, rules}
use Rattle.bits.specs.Bits.{bits}
use Rattle.forms.proofs.Changes.{off-decoded}
use Rattle.coder.specs.Told.{found}
use Rattle.coder.proofs.Changes.{unread}
use Rattle.coders.proofs.beside.BesideCoder.decode.Goals as goal

pub returns-in_err-taken : goal.returns-in_err-taken
returns-in_err-taken g c =
    let i = c.args.self.now.inner in
    let u = c.in_err-taken.field-0.0 in
    let e : c.from_residual.result ≡ Err u = search rules in
    ap found e ∙ unread (λ x. x) (λ x j. (c.args.memory.0, j)) u ∙ off-decoded (g.C.Coder.wide i) (g.C.Coder.coding i) false refl c.args.memory (bits c.args.window.len c.args.window.bits) _ c.in_err-taken.ensures

pub returns : goal.returns
returns g c =
    let i = c.args.self.now.inner in
    off-decoded (g.C.Coder.wide i) (g.C.Coder.coding i) false refl c.args.memory (bits c.args.window.len c.args.window.bits) _ c.in_ok-taken.ensures
