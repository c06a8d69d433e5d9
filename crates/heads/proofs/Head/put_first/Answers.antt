use Rattle.std.proofs.Common.{◌≡◌, ℕ, ◌+◌, ◌*◌, ◌≤◌, true, false, cond, List, length, sym, ap, ◌∙◌, arith}
use Rattle.fields.specs.Fields.{is_field}
use Rattle.bits.specs.Bits.{bits, put_bits}
use Rattle.calls.proofs.Buffers.{field_put, number_put}
use Rattle.heads.specs.Heads.{first_bits, flags_in}
use Rattle.heads.proofs.Sizes.{three-put, four-put}
use Rattle.heads.proofs.Head.put_first.Goals as goal

-- the fields of every head, by what each call left
three : (f a b d : List ℕ) (stamp byte i j k : ℕ) → 56 ≤ 8 * length f → length a ≡ length f → length b ≡ length f → i ≡ 0 → j ≡ 16 → k ≡ 48 →
    a ≡ cond (is_field i 16 (length f)) (put_bits f i (bits 16 0x4c53)) f → b ≡ cond (is_field j 32 (length a)) (put_bits a j (bits 32 stamp)) a → d ≡ cond (is_field k 8 (length b)) (put_bits b k (bits 8 byte)) b →
    d ≡ put_bits f 0 (first_bits stamp byte false)
three f a b d stamp byte i j k h la lb ei ej ek ea eb ed =
    field_put b d 48 k 8 byte (omega arith) (omega arith) ek ed
    ∙ ap (λ z. put_bits z 48 (bits 8 byte)) (
    field_put a b 16 j 32 stamp (omega arith) (omega arith) ej eb
    ∙ ap (λ z. put_bits z 16 (bits 32 stamp)) (field_put f a 0 i 16 0x4c53 (omega arith) (omega arith) ei ea))
    ∙ three-put f stamp byte h

pub returns-then-not-self-clause-bytes : goal.returns-then-not-self-clause-bytes
returns-then-not-self-clause-bytes c =
    let stamp : ℕ = c.args.self.now.stamp in
    let t = three c.args.buffer.now c.put_field.new.buffer c.put_field-2.new.buffer c.put_field-3.new.buffer stamp c.flag_byte.result c.new.result.bits c.new-2.result.bits c.new-3.result.bits
    (omega (arith, c.requires)) c.put_field.auto.buffer (c.put_field-2.auto.buffer ∙ c.put_field.auto.buffer) c.new.ensures c.new-2.ensures c.new-3.ensures c.put_field.ensures.bytes c.put_field-2.ensures.bytes c.put_field-3.ensures.bytes in
    t ∙ ap (λ z. put_bits c.args.buffer.now 0 (first_bits stamp z false)) c.flag_byte.ensures
    ∙ sym (ap (λ z. put_bits c.args.buffer.now 0 (first_bits stamp (flags_in c.args.self.now) z)) c.if-not-self.true)

pub returns-clause-bytes : goal.returns-clause-bytes
returns-clause-bytes c =
    let f : List ℕ = c.args.buffer.now in
    let stamp : ℕ = c.args.self.now.stamp in
    let e : c.args.self.now.flags.sized ≡ true = c.if-not-self.false in
    let h : 88 ≤ 8 * length f = rw (sym (ap (λ t. 56 + cond t 32 0) e)) c.requires in
    let k : length c.put_field-3.new.buffer ≡ length f = c.put_field-3.auto.buffer ∙ c.put_field-2.auto.buffer ∙ c.put_field.auto.buffer in
    let t = three f c.put_field.new.buffer c.put_field-2.new.buffer c.put_field-3.new.buffer stamp c.flag_byte.result c.new.result.bits c.new-2.result.bits c.new-3.result.bits
    (omega arith) c.put_field.auto.buffer (c.put_field-2.auto.buffer ∙ c.put_field.auto.buffer) c.new.ensures c.new-2.ensures c.new-3.ensures c.put_field.ensures.bytes c.put_field-2.ensures.bytes c.put_field-3.ensures.bytes in
    let u = number_put c.put_field-3.new.buffer c.put_u32.new.buffer 7 c.new-4.result.bytes 0 (omega arith) c.new-4.ensures c.put_u32.ensures.bytes in
    u ∙ ap (λ z. put_bits z 56 (bits 32 0)) t ∙ four-put f stamp c.flag_byte.result h ∙ ap (λ z. put_bits f 0 (first_bits stamp z true)) c.flag_byte.ensures
    ∙ sym (ap (λ z. put_bits f 0 (first_bits stamp (flags_in c.args.self.now) z)) e)
