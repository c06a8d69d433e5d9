use Rattle.std.proofs.Common.{ℕ, ◌+◌, ◌%◌, ◌^◌, ap, ◌∙◌}
use lib.Bits.{bit_and, and_mask}
use Rattle.forms.proofs.Modular.{wrapped_sum}
use Rattle.coder.proofs.modular.sum.Goals as goal

pub returns : goal.returns
returns c =
    let x : ℕ = (c.args.word + c.args.other) % 2 ^ 32 in
    ap (bit_and x) c.largest.ensures ∙ and_mask x c.args.width.bits ∙ wrapped_sum c.args.width.bits 32 c.args.other c.args.word c.args.width.most
