use Rattle.std.proofs.Common.{◌≡◌, ℕ, ◌+◌, ◌*◌, ◌≤◌, Bool, true, false, cond, List, ◌++◌, length, sym, ap, ◌∙◌, arith}
use Rattle.std.proofs.lemmas.Bool.Decides.{nat_tests}
use Rattle.bits.specs.Bits.{bits, put_bits}
use Rattle.layout.specs.Recording as recordings
use Rattle.layout.specs.Channels.{ruled}
use Rattle.channel.specs.Records.{settings_of}
use Rattle.channel.specs.Descriptions.{description_bits, describes}
use Rattle.channel.proofs.Describing.{repeats-first, length-recorded}
use Rattle.channel.proofs.Putting.{two_fields}
use Rattle.channel.proofs.record.Channel.put_description.Goals as goal

there : (s : recordings.Channel) (D : List Bool) (at size : ℕ) → size ≤ 16777216 → true ≡ ruled s → at + length D ≤ 8 * size → describes s D at size ≡ true
there s D at size h r l = let e : ruled s ≡ true = sym r in grind (arith, nat_tests)

pub returns-then-recorded : goal.returns-then-recorded
returns-then-recorded c =
    let s = settings_of c.args.self.now in
    let f : List ℕ = c.args.buffer.now in
    let at : ℕ = c.args.at.bits in
    let D = description_bits c.args.recorded s in
    let w : D ≡ bits 24 s.repeats ++ description_bits false s = ap (λ t. description_bits t s) c.if-recorded.true ∙ repeats-first s in
    let l = length-recorded s in
    let fit : at + length D ≤ 8 * length f = omega (arith, c.bits.ensures, c.plus-end.ensures, c.description_len.ensures.len, c.description_len.ensures.most) in
    let t : describes s D at (length f) ≡ true = there s D at (length f) (omega arith) (sym c.if-not-keeps_rules.false ∙ c.keeps_rules.ensures) fit in
    let u = two_fields f c.put_field.new.buffer c.put_field-then-recorded.new.buffer at c.plus.result.bits s.repeats 24 c.fields-fields.result c.fields_len-len.result (description_bits false s) c.put_field-then-recorded.result
    (omega arith) (omega arith) (omega (arith, ap length (ap (λ t. description_bits t s) c.if-recorded.true))) c.fields_len-len.ensures.len (omega (arith, c.fields_len-len.ensures.most)) c.fields-fields.ensures
    c.plus.ensures c.put_field.ensures.bytes c.put_field-then-recorded.ensures.put c.put_field-then-recorded.ensures.bytes in
    record { put = u.0 ∙ sym t; bytes = u.1 ∙ ap (put_bits f at) (sym w) ∙ ap (λ b. cond b (put_bits f at D) f) (sym t) }
