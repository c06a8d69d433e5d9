use Rattle.std.proofs.Common.{ℕ, ◌+◌, ◌-◌, ◌%◌, ◌^◌, ap, ◌∙◌, arith}
use lib.Bits.{bit_and, and_mask}
use Rattle.forms.proofs.Modular.{wrapped-difference}
use Rattle.coder.proofs.modular.difference.Goals as goal

pub returns : goal.returns
returns c =
    let x : ℕ = (c.args.word + (2 ^ 32 - c.args.other)) % 2 ^ 32 in
    ap (bit_and x) c.largest.ensures ∙ and_mask x c.args.width.bits ∙ wrapped-difference c.args.width.bits 32 c.args.other c.args.word c.args.width.most (omega arith)
