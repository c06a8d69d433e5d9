use Rattle.std.proofs.Common.{◌^◌, ◌≤◌, arith, pow_mono}
use Rattle.bits.specs.Bits.{bits_of}
use Rattle.reading.proofs.Looks.{taking-small}
use Rattle.reading.proofs.source.Source.take_number.Goals as goal

pub overflow_cast-taken : goal.overflow_cast-taken
overflow_cast-taken c =
    let t = c.in_ok-taken.taken in
    let small = taking-small 64 c.args.count (bits_of c.args.self.bytes.now) c.args.at.bits 0 t.value t.end.at.bits t.end.last.bits (c.in_ok-taken.ensures 0) in
    let most : 2 ^ c.args.count ≤ 2 ^ 32 = pow_mono {j = 32} (omega (arith, c.if-count-gt32.false)) in
    omega (arith, small, most)
