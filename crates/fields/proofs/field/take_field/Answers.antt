use Rattle.std.proofs.Common.{◌≡◌, ℕ, ◌%◌, ◌^◌, List, ap, ◌∙◌, arith}
use Rattle.std.proofs.lemmas.Bool.Decides.{nat_tests}
use Rattle.bits.specs.Bits.{field_at}
use Rattle.bits.proofs.Places.{field-front}
use Rattle.fields.proofs.field.take_field.Goals as goal

pub returns : goal.returns
returns c =
    let f : List ℕ = c.args.file.now in
    let at : ℕ = c.bits-at.result in
    let n : ℕ = c.args.count in
    let e : c.low.result ≡ field_at f at n = c.low.ensures ∙ ap (λ z. z % 2 ^ n) c.word_at.ensures ∙ field-front f at 64 n (omega arith) in
    grind (arith, nat_tests)
