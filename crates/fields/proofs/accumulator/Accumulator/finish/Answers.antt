use Rattle.std.proofs.Common.{◌≡◌, ℕ, ◌+◌, ◌*◌, List, add-zero, arith}
use Rattle.std.proofs.lemmas.Bool.Decides.{nat_tests}
use Rattle.bits.specs.Bits.{bits, put_bits}
use Rattle.bits.proofs.Places.{put_whole, Bytes-from}
use Rattle.fields.proofs.accumulator.Accumulator.finish.Goals as goal

pub returns : goal.returns
returns c =
    let f : List ℕ = c.args.buffer.now in
    let g : List ℕ = c.put_by_bytes.new.buffer in
    let p : ℕ = c.args.self.place in
    let bs = bits c.args.self.have c.args.self.word in
    let e : g ≡ put_bits f (8 * p) bs = put_whole f g (8 * p + 0) (8 * p) bs (Bytes-from g (λ i. (c.type_inv.buffer i).fits)) (add-zero (8 * p)) c.put_by_bytes.ensures in
    record { finished = grind (arith, nat_tests); bytes = grind (arith, nat_tests) }
