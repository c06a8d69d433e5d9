use Rattle.std.proofs.Common.{ap, ◌∙◌}
use lib.Bits.{bit_and, and_mask}
use Rattle.coder.proofs.modular.cut.Goals as goal

pub returns : goal.returns
returns c = ap (bit_and c.args.number) c.largest.ensures ∙ and_mask c.args.number c.args.width.bits
