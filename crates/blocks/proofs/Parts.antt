-- Raw words in a part of a slice that is lent.
use Rattle.std.proofs.Common.{◌≡◌, ℕ, ◌+◌, ◌-◌, ◌*◌, ◌≤◌, true, cond, List, [], ◌++◌, length, take, drop, sym, ap, ◌∙◌, append-nil, mul_comm, mul-add, arith, drop_of_length-le}
use borrow.Rule.Slice.PartMut.{put_mid}
use Rattle.std.proofs.lemmas.List.{drop-drop}
use Rattle.std.proofs.lemmas.Bool.Decides.{nat_tests}
use Rattle.fields.specs.Fields.{is_raw}
use Rattle.bits.specs.Bits.{bits, bytes, put_bits, stored, Bytes}
use Rattle.bits.proofs.Raw.{part_length}
use Rattle.bits.proofs.Fields.{Bytes-take, Bytes-drop}
use Rattle.bits.proofs.Laws.{put-stored}

module _ (f : List ℕ) (p n : ℕ) (h : p + n ≤ length f) where
  -- bits put into the part, and the part put back
  put-part : (ys : List ℕ) (v : ℕ) → Bytes f → ys ≡ put_bits (take n (drop p f)) 0 (bits (8 * n) v) → put_mid p n f ys ≡ put_bits f (8 * p) (bits (8 * n) v)
  unfolding stored
  put-part ys v b e =
      let none : drop (0 + n) (take n (drop p f)) ≡ [] = drop_of_length-le (take n (drop p f)) {i = 0 + n} (omega (arith, part_length f p n h)) in
      let a : put_bits (take n (drop p f)) 0 (bits (8 * n) v) ≡ bytes n (bits (8 * n) v) ++ drop (0 + n) (take n (drop p f)) =
      put-stored (take n (drop p f)) 0 n v (omega (arith, part_length f p n h)) (Bytes-take n (drop p f) (Bytes-drop p f b)) in
      let w : ys ≡ bytes n (bits (8 * n) v) = e ∙ a ∙ ap (λ z. bytes n (bits (8 * n) v) ++ z) none ∙ append-nil (bytes n (bits (8 * n) v)) in
      ap (λ z. take p f ++ (z ++ drop n (drop p f))) w ∙ ap (λ z. take p f ++ (bytes n (bits (8 * n) v) ++ z)) (drop-drop n p f) ∙ sym (put-stored f p n v h b)

-- a word of s bytes at an index, in the part that is lent
module _ (f : List ℕ) (i s at : ℕ) (some : 1 ≤ s) (most : s ≤ 4) (h : s * (i + 1) ≤ length f) (zero : at ≡ 0) where
  lent : List ℕ
  lent = take (i * s + s - i * s) (drop (i * s) f)

  inside : i * s + s ≤ length f
  inside = omega (arith, h, mul-add s i 1, mul_comm i s)

  width : i * s + s - i * s ≡ s
  width = omega arith

  whole : lent ≡ take s (drop (i * s) f)
  unfolding lent
  whole = ap (λ z. take z (drop (i * s) f)) width

  is-raw : is_raw at s (length lent) ≡ true
  is-raw = go at s (length lent) zero some most (ap length whole ∙ part_length f (i * s) s inside)
    where
      go : (a k l : ℕ) → a ≡ 0 → 1 ≤ k → k ≤ 4 → l ≡ k → is_raw a k l ≡ true
      go a k l x y z w = grind (arith, nat_tests)

  pub lent-put : (ys : List ℕ) (v : ℕ) → Bytes f → ys ≡ cond (is_raw at s (length (take (i * s + s - i * s) (drop (i * s) f)))) (put_bits (take (i * s + s - i * s) (drop (i * s) f)) (8 * at) (bits (8 * s) v)) (take (i * s + s - i * s) (drop (i * s) f)) →
      put_mid (i * s) (i * s + s - i * s) f ys ≡ put_bits f (8 * (s * i)) (bits (8 * s) v)
  unfolding lent
  lent-put ys v b e =
      let w : ys ≡ put_bits (take s (drop (i * s) f)) 0 (bits (8 * s) v) = e ∙ ap (λ z. cond z (put_bits lent (8 * at) (bits (8 * s) v)) lent) is-raw ∙ ap (λ z. put_bits lent (8 * z) (bits (8 * s) v)) zero ∙ ap (λ z. put_bits z 0 (bits (8 * s) v)) whole in
      ap (λ z. put_mid (i * s) z f ys) width ∙ put-part f (i * s) s inside ys v b w ∙ ap (λ z. put_bits f (8 * z) (bits (8 * s) v)) (mul_comm i s)
