use Rattle.std.proofs.Common.{◌≡◌, ℕ, ◌+◌, ◌-◌, ◌*◌, ◌≤◌, true, cond, List, length, take, drop, sym, ap, ◌∙◌, arith}
use borrow.Rule.Slice.PartMut.{put_mid}
use Rattle.std.proofs.lemmas.List.{drop-drop}
use Rattle.bits.specs.Bits.{bits, bytes, put_bits, stored, Bytes}
use Rattle.bits.proofs.Laws.{put-stored, bytes-front}
use Rattle.bits.proofs.Places.{bytes-four}
use Rattle.fields.specs.Fields.{is_raw}
use Rattle.fields.proofs.Within.{raw-room}
use Rattle.fields.proofs.raw.put_raw_word.Goals as goal

-- the first bytes of a number, put back in the middle
back : (f ys b4 : List ℕ) (p n k v : ℕ) → k ≡ n → n ≤ 4 → p + n ≤ length f → Bytes f → b4 ≡ bytes 4 (bits 32 v) → ys ≡ take (n - 0) b4 → put_mid p k f ys ≡ put_bits f (8 * p) (bits (8 * n) v)
unfolding stored
back f ys b4 p n k v e m h b i s =
    let d : drop k (drop p f) ≡ drop (p + n) f = drop-drop k p f ∙ ap (λ z. drop (p + z) f) e in
    let z : n - 0 ≡ n = omega arith in
    let t = put-stored f p n v h b in
    let u : take n (bytes 4 (bits 32 v)) ≡ bytes n (bits (8 * n) v) = bytes-front n 4 v m in
    cc

pub returns : goal.returns
returns c =
    let f : List ℕ = c.args.raw.now in
    let p : ℕ = c.bytes-p.result in
    let n : ℕ = c.args.size in
    let ys : List ℕ = c.copy_from_slice.new.self in
    let (a, b, h) = raw-room p n (length f) c.lies_raw.result c.lies_raw.ensures c.if-not-lies_raw.false in
    let t : true ≡ is_raw c.args.at.bytes n (length f) = sym c.if-not-lies_raw.false ∙ c.lies_raw.ensures ∙ ap (λ z. is_raw z n (length f)) c.bytes-p.ensures in
    let w : c.to_le_bytes-bytes.result ≡ bytes 4 (bits 32 c.args.word) = c.to_le_bytes-bytes.ensures ∙ sym (bytes-four c.args.word) in
    let e : put_mid p (p + n - p) f ys ≡ put_bits f (8 * p) (bits (8 * n) c.args.word) =
    back f ys c.to_le_bytes-bytes.result p n (p + n - p) c.args.word (omega arith) b h c.are_bytes.ensures w c.copy_from_slice.ensures.after in
    record {
      put = t;
      bytes = e ∙ ap (λ z. put_bits f (8 * z) (bits (8 * n) c.args.word)) c.bytes-p.ensures ∙ ap (λ z. cond z (put_bits f (8 * c.args.at.bytes) (bits (8 * n) c.args.word)) f) t;
    }
