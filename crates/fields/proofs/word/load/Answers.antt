use Rattle.std.proofs.Common.{ℕ, ◌+◌, ◌-◌, ◌≡◌, List, take, drop, rules, arith}
use Rattle.bits.proofs.Raw.{part-eight}
use Rattle.bits.proofs.Places.{Bytes-from}
use Rattle.fields.proofs.word.load.Goals as goal

pub returns : goal.returns
returns c =
    let f : List ℕ = c.args.file.now in
    let a : List ℕ = c.unwrap.result in
    let e : a ≡ take (c.args.p + 8 - c.args.p) (drop c.args.p f) = search rules in
    part-eight f a c.args.p (c.args.p + 8 - c.args.p) c.requires (Bytes-from f (λ i. (c.type_inv.file i).fits)) (omega arith) e c.from_le_bytes.result c.from_le_bytes.ensures
