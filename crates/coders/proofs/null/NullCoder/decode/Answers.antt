use Rattle.std.proofs.Common.{ℕ, Some, sym, ap, ◌∙◌}
use Rattle.bits.specs.Bits.{bits}
use Rattle.forms.specs.Code.{form}
use Rattle.forms.specs.Coders.{null}
use Rattle.forms.proofs.Plain.{plain_word, plain-partial}
use Rattle.forms.proofs.Reading.{null-few, null-reads}
use Rattle.coders.proofs.Machine.{mask}
use Rattle.coders.proofs.null.NullCoder.decode.Goals as goal

pub returns-then-window : goal.returns-then-window
returns-then-window g c =
    plain-partial (null g.row.W) c.args.memory (bits c.args.window.len c.args.window.bits) (null-few g.row.W c.args.window.len c.args.window.bits c.if-window.true)

pub returns : goal.returns
returns g c =
    plain_word (null g.row.W) c.args.memory (bits c.args.window.len c.args.window.bits) _ g.row.W
    (null-reads g.row.W c.args.window.len c.args.window.bits c.if-window.false ∙ ap (λ (x : ℕ). form (Some x) g.row.W) (sym (mask g.row.W c.args.window.bits c.args.self.now.width.1)))
