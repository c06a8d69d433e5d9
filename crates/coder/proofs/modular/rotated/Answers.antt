use Rattle.std.proofs.Common.{◌≡◌, ℕ, ◌%◌, ◌^◌, ◌<◌, ap, ◌∙◌, mod-lt, arith, pow_pos}
use Rattle.forms.specs.Coders.{rotr}
use Rattle.forms.proofs.Modular.{rotated-at, rotated-shifts, rotated-fits}
use Rattle.coder.proofs.modular.rotated.Goals as goal

below : (w x y : ℕ) → y ≡ x % 2 ^ w → y < 2 ^ w
below w x y e = rw e (mod-lt x (pow_pos w))

pub overflow_cast-result-in_default-4 : goal.overflow_cast-result-in_default-4
overflow_cast-result-in_default-4 c =
    let w : ℕ = c.args.width.bits in
    omega (arith, rotated-fits w (c.args.by % w) c.cut-word.result (mod-lt c.args.by c.args.width.some) c.args.width.most (below w c.args.word c.cut-word.result c.cut-word.ensures))

pub returns-in-8 : goal.returns-in-8
returns-in-8 c = rotated-at c.args.width.bits 8 c.args.by c.args.word c.cut-word.result c.rotate_right.result c.in-8.is (omega arith) c.cut-word.ensures c.rotate_right.ensures

pub returns-in-16 : goal.returns-in-16
returns-in-16 c = rotated-at c.args.width.bits 16 c.args.by c.args.word c.cut-word.result c.rotate_right-in-16.result c.in-16.is (omega arith) c.cut-word.ensures c.rotate_right-in-16.ensures

pub returns-in-32 : goal.returns-in-32
returns-in-32 c = rotated-at c.args.width.bits 32 c.args.by c.args.word c.cut-word.result c.rotate_right-in-32.result c.in-32.is (omega arith) c.cut-word.ensures c.rotate_right-in-32.ensures

pub returns-in_default : goal.returns-in_default
returns-in_default c =
    let w : ℕ = c.args.width.bits in
    rotated-shifts w (c.args.by % w) c.cut-word.result (mod-lt c.args.by c.args.width.some) c.args.width.most (below w c.args.word c.cut-word.result c.cut-word.ensures)
    ∙ ap (rotr w (c.args.by % w)) c.cut-word.ensures
