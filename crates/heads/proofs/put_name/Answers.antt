use Rattle.std.proofs.Common.{◌≡◌, ℕ, ◌+◌, ◌*◌, List, length, Option, option_copied, sym, ap, ◌∙◌, arith}
use Rattle.bits.specs.Bits.{bits, put_bits}
use Rattle.bits.proofs.Laws.{put_bits-none}
use Rattle.calls.proofs.Buffers.{field_put}
use Rattle.heads.proofs.Sizes.{name-size, name-none, name-put}
use Rattle.heads.proofs.put_name.Goals as goal

pub returns-in_default-clause-place : goal.returns-in_default-clause-place
returns-in_default-clause-place c = omega (arith, ap length (name-none (option_copied c.args.name) (ap option_copied c.in_default.is)))

pub returns-in_default-clause-bytes : goal.returns-in_default-clause-bytes
returns-in_default-clause-bytes c =
    let z = name-none (option_copied c.args.name) (ap option_copied c.in_default.is) in
    sym (ap (put_bits c.args.buffer.now (8 * c.args.at)) z ∙ put_bits-none c.args.buffer.now (8 * c.args.at) c.are_bytes.ensures)

pub put_bytes-requires : goal.put_bytes-requires
put_bytes-requires c = omega (arith, name-size (option_copied c.args.name) c.in-Some.bytes.now (ap option_copied c.in-Some.is) c.requires.fits, c.requires.room)

pub returns : goal.returns
returns c =
    let f : List ℕ = c.args.buffer.now in
    let at : ℕ = c.args.at in
    let bs : List ℕ = c.in-Some.bytes.now in
    let o : Option (List ℕ) = option_copied c.args.name in
    let e : o ≡ _ = ap option_copied c.in-Some.is in
    let l = name-size o bs e c.requires.fits in
    let g : List ℕ = c.put_bytes.new.buffer in
    let k : length g ≡ length f = c.put_bytes.auto.buffer in
    let w = field_put g c.put_field.new.buffer (8 * (at + length bs)) c.new.result.bits 8 0 (omega arith) (omega (arith, k, l, c.requires.room)) c.new.ensures c.put_field.ensures.bytes in
    record {
      place = omega (arith, l);
      bytes = w ∙ ap (λ z. put_bits z (8 * (at + length bs)) (bits 8 0)) c.put_bytes.ensures ∙ name-put f at (8 * (at + length bs)) o bs e c.requires.fits (omega arith) c.requires.room;
    }
