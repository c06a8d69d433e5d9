use Rattle.std.proofs.Common.{◌-◌, ap, ◌∙◌, arith}
use lib.Bits.{bit_and, and_mask}
use Rattle.std.proofs.lemmas.Nat.{one_shl}
use Rattle.fields.proofs.word.low.Goals as goal

pub returns-else-count-ge64 : goal.returns-else-count-ge64
returns-else-count-ge64 c =
    ap (λ z. bit_and c.args.value (z - 1)) (one_shl c.args.count 64 (omega arith)) ∙ and_mask c.args.value c.args.count
