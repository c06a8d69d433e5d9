use Rattle.std.proofs.Common.{◌≡◌, ℕ, ◌+◌, ◌*◌, List, length, Option, option_copied, sym, ap, ◌∙◌, arith}
use Rattle.bits.specs.Bits.{bits_of, put_bits}
use Rattle.bits.proofs.Laws.{put_bits-none}
use Rattle.calls.proofs.Buffers.{field_put}
use Rattle.heads.proofs.Sizes.{extra-size, extra-none, extra-put}
use Rattle.heads.proofs.put_extra.Goals as goal

pub returns-in_default-clause-place : goal.returns-in_default-clause-place
returns-in_default-clause-place c = omega (arith, ap length (extra-none (option_copied c.args.extra) (ap option_copied c.in_default.is)))

pub returns-in_default-clause-bytes : goal.returns-in_default-clause-bytes
returns-in_default-clause-bytes c =
    let z = extra-none (option_copied c.args.extra) (ap option_copied c.in_default.is) in
    sym (ap (put_bits c.args.buffer.now (8 * c.args.at)) z ∙ put_bits-none c.args.buffer.now (8 * c.args.at) c.are_bytes.ensures)

pub put_bytes-requires : goal.put_bytes-requires
put_bytes-requires c = omega (arith, extra-size (option_copied c.args.extra) c.in-Some.bytes.now (ap option_copied c.in-Some.is), c.requires.room, c.put_field.auto.buffer)

pub returns : goal.returns
returns c =
    let f : List ℕ = c.args.buffer.now in
    let at : ℕ = c.args.at in
    let bs : List ℕ = c.in-Some.bytes.now in
    let o : Option (List ℕ) = option_copied c.args.extra in
    let e : o ≡ _ = ap option_copied c.in-Some.is in
    let l = extra-size o bs e in
    let w = field_put f c.put_field.new.buffer (8 * at) c.new.result.bits 16 (length bs) (omega arith) (omega (arith, l, c.requires.room)) c.new.ensures c.put_field.ensures.bytes in
    record {
      place = omega (arith, l);
      bytes = c.put_bytes.ensures ∙ ap (λ z. put_bits z (8 * (at + 2)) (bits_of bs)) w ∙ extra-put f at (8 * (at + 2)) o bs e (omega arith) c.requires.room;
    }
