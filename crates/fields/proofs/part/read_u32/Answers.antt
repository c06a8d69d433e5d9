use Rattle.std.proofs.Common.{arith}
use Rattle.std.proofs.lemmas.Bool.Decides.{nat_tests}
use Rattle.bits.proofs.Laws.{field-four}
use Rattle.fields.proofs.part.read_u32.Goals as goal

pub returns : goal.returns
returns c =
    let e = field-four c.args.part.now 0 (omega arith) (λ i. (c.type_inv.part i).fits) in
    let h = c.from_le_bytes.ensures in
    grind (arith, nat_tests)
