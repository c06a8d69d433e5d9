use Rattle.std.proofs.Common.{◌≡◌, ℕ, ◌+◌, ◌-◌, ◌*◌, ◌≤◌, List, length, take, drop, ap, ◌∙◌, arith, length-drop, length-take}
use borrow.Rule.Slice.PartMut.{put_mid}
use Rattle.std.proofs.lemmas.List.{drop-drop}
use Rattle.std.proofs.lemmas.Bool.Decides.{nat_tests}
use Rattle.bits.specs.Bits.{bits, bytes, put_bits, stored, Bytes}
use Rattle.bits.proofs.Laws.{put-stored}
use Rattle.fields.proofs.part.put_u32.Goals as goal

-- four bytes put back in the middle
back : (f ys : List ℕ) (p k v : ℕ) → k ≡ 4 → p + 4 ≤ length f → Bytes f → ys ≡ bytes 4 (bits 32 v) → put_mid p k f ys ≡ put_bits f (8 * p) (bits 32 v)
unfolding stored
back f ys p k v e h b s =
    let d : drop k (drop p f) ≡ drop (p + 4) f = drop-drop k p f ∙ ap (λ z. drop (p + z) f) e in
    let t = put-stored f p 4 v h b in
    cc

pub returns : goal.returns
returns c =
    let f : List ℕ = c.args.buffer.now in
    let p : ℕ = c.bytes-p.result in
    let l : length (take (p + 4 - p) (drop p f)) ≡ 4 = simp (length-take, length-drop) (omega arith) in
    let w : c.write_u32.new.part ≡ bytes 4 (bits 32 c.args.value) = let y = c.write_u32.ensures.bytes in grind (arith, nat_tests) in
    let e : put_mid p (p + 4 - p) f c.write_u32.new.part ≡ put_bits f (8 * p) (bits 32 c.args.value) = back f c.write_u32.new.part p (p + 4 - p) c.args.value (omega arith) (omega arith) c.are_bytes.ensures w in
    let u = c.write_u32.ensures.written in
    record { put = grind (arith, nat_tests); bytes = grind (arith, nat_tests) }
