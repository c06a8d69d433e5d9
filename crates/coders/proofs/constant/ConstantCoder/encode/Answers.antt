use Rattle.std.proofs.Common.{◌≡◌, ℕ, [], Some, sym, refl, ap, ◌∙◌}
use mathlib.Core.Path.{subst⁻¹}
use Rattle.bits.specs.Bits.{bits}
use Rattle.forms.specs.Code.{form_of}
use Rattle.forms.specs.Coders.{constant}
use Rattle.forms.proofs.Codes.{form_of-none, some_same}
use Rattle.forms.proofs.Coders.{ends-means}
use Rattle.forms.proofs.Plain.{plain_form, plain-none}
use Rattle.forms.proofs.Reading.{constant-writes}
use Rattle.coders.proofs.constant.ConstantCoder.encode.Goals as goal

nothing : bits 0 0 ≡ []
unfolding bits
nothing = refl

pub returns-then-word-self : goal.returns-then-word-self
returns-then-word-self g c =
    let s = c.args.self.now in
    plain-none (constant s.word) c.args.memory c.args.word (form_of-none _ _ (λ u m. c.if-word-self.true (some_same (ends-means _ u _ m).1)))

pub returns : goal.returns
returns g c =
    let s = c.args.self.now in
    plain_form (constant s.word) c.args.memory c.args.word (bits 0 0)
    (subst⁻¹ (λ (x : ℕ). form_of (constant s.word) x ≡ Some []) c.if-word-self.false (constant-writes g.row.W s.word s.small) ∙ ap Some (sym nothing))
