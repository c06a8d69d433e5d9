use Rattle.std.proofs.Common.{arith}
use Rattle.std.proofs.lemmas.Bool.Decides.{nat_tests}
use Rattle.bits.proofs.Places.{bytes-four}
use Rattle.fields.proofs.part.write_u32.Goals as goal

pub returns : goal.returns
returns c =
    let b = bytes-four c.args.value in
    let a = c.copy_from_slice.ensures.after in
    let t = c.to_le_bytes.ensures in
    record { written = grind (arith, nat_tests); bytes = grind (arith, nat_tests) }
