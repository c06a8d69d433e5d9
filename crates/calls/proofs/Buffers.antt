-- Buffers that hold some bits, and zeros behind them.
use Rattle.std.proofs.Common.{◌≡◌, ℕ, ◌+◌, ◌-◌, ◌*◌, ◌/◌, ◌≤◌, Bool, true, false, cond, leb, List, [], ◌++◌, length, take, drop, replicate, sym, ap, ◌∙◌, append_assoc, append-nil, arith, length-append, drop_of_length-le}
use Rattle.std.proofs.lemmas.List.{length-replicate, take_at, drop_at, replicate-append-replicate}
use Rattle.std.proofs.lemmas.Bool.Decides.{nat_tests}
use Rattle.fields.specs.Fields.{is_field}
use Rattle.bits.specs.Bits.{bits, bits_of, bytes_of, put_bits, overwritten, cleared_from, Bytes}
use Rattle.bits.proofs.Files.{length-bits_of, drop_past}
use Rattle.bits.proofs.Places.{bits_of-put_bits}
use Rattle.bits.proofs.Laws.{put_bits-twice, bits_of-zeros, bits_of-append-put, cut-bytes_of}

-- a buffer holds these bits, and zeros behind them
abbrev pub Filled : List ℕ → List Bool → Type 0
Filled b w = (k : ℕ) × (bits_of b ≡ w ++ replicate k false)

pub filled-size : (b : List ℕ) (w : List Bool) → Filled b w → length w ≤ 8 * length b
filled-size b w (k, e) = omega (arith, length-bits_of b, ap length e, length-append w (replicate k false), length-replicate k false)

rest-size : (b : List ℕ) (w : List Bool) (k : ℕ) → bits_of b ≡ w ++ replicate k false → length w + k ≡ 8 * length b
rest-size b w k e = omega (arith, length-bits_of b, ap length e, length-append w (replicate k false), length-replicate k false)

pub fresh : (n : ℕ) → Filled (replicate n 0) []
fresh n = (8 * n, bits_of-zeros n)

-- bits put behind what is there
pub put-end : (b : List ℕ) (w : List Bool) (at : ℕ) (v : List Bool) → Filled b w → length w ≡ at → at + length v ≤ 8 * length b → Filled (put_bits b at v) (w ++ v)
put-end b w at v (k, e) l h = (k - length v, bits_of-append-put b w v k at e l (omega (arith, rest-size b w k e)))

-- bits written again
pub put-again : (b : List ℕ) (a m c : List Bool) (at : ℕ) (v : List Bool) → Filled b (a ++ (m ++ c)) → length a ≡ at → length m ≡ length v → Filled (put_bits b at v) (a ++ (v ++ c))
unfolding overwritten
put-again b a m c at v (k, e) la lm =
    let z : List Bool = replicate k false in
    let e1 : bits_of b ≡ a ++ (m ++ (c ++ z)) = e ∙ append_assoc a (m ++ c) z ∙ ap (λ y. a ++ y) (append_assoc m c z) in
    let s : at + length v ≤ 8 * length b = omega (arith, rest-size b (a ++ (m ++ c)) k e, length-append a (m ++ c), length-append m c) in
    let p : bits_of (put_bits b at v) ≡ take at (bits_of b) ++ (v ++ drop (at + length v) (bits_of b)) = bits_of-put_bits b at v s in
    let t : take at (bits_of b) ≡ a = ap (take at) e1 ∙ take_at a (m ++ (c ++ z)) at la in
    let d : drop (at + length v) (bits_of b) ≡ c ++ z = ap (drop (at + length v)) e1 ∙ drop_past a (m ++ (c ++ z)) at (length v) la ∙ drop_at m (c ++ z) (length v) lm in
    let g = append_assoc a (v ++ c) z in
    let g2 = append_assoc v c z in
    (k, cc)

-- zeros behind what is there are there
pub zeros-end : (b : List ℕ) (w : List Bool) (j : ℕ) → Filled b w → length w + j ≤ 8 * length b → Filled b (w ++ replicate j false)
zeros-end b w j (k, e) h =
    let q : j + (k - j) ≡ k = omega (arith, rest-size b w k e) in
    (k - j, e ∙ ap (λ z. w ++ z) (ap (λ n. replicate n false) (sym q) ∙ sym (replicate-append-replicate j (k - j) false)) ∙ sym (append_assoc w (replicate j false) (replicate (k - j) false)))

none : (xs : List Bool) (n : ℕ) → length xs ≤ n → drop n xs ≡ []
none xs n h = drop_of_length-le xs {i = n} h

-- zeros from a place on
pub cleared : (b : List ℕ) (w v : List Bool) (at : ℕ) → Filled b (w ++ v) → length w ≡ at → Filled (cleared_from b at) w
unfolding cleared_from overwritten
cleared b w v at (k, e) l =
    let n : ℕ = 8 * length b - at in
    let lz : length (replicate n false) ≡ n = length-replicate n false in
    let f : length w + length v + k ≡ 8 * length b = omega (arith, rest-size b (w ++ v) k e, length-append w v) in
    let e1 : bits_of b ≡ w ++ (v ++ replicate k false) = e ∙ append_assoc w v (replicate k false) in
    let p : bits_of (put_bits b at (replicate n false)) ≡ take at (bits_of b) ++ (replicate n false ++ drop (at + length (replicate n false)) (bits_of b)) = bits_of-put_bits b at (replicate n false) (omega arith) in
    let t : take at (bits_of b) ≡ w = ap (take at) e1 ∙ take_at w (v ++ replicate k false) at l in
    let d : drop (at + length (replicate n false)) (bits_of b) ≡ [] = none (bits_of b) (at + length (replicate n false)) (omega (arith, length-bits_of b)) in
    (n, p ∙ ap (λ x. x ++ (replicate n false ++ drop (at + length (replicate n false)) (bits_of b))) t ∙ ap (λ x. w ++ (replicate n false ++ x)) d ∙ ap (λ x. w ++ x) (append-nil (replicate n false)))

-- the bytes that the bits make
pub cut : (b : List ℕ) (w : List Bool) (n : ℕ) → Filled b w → Bytes b → length w ≡ 8 * n → take n b ≡ bytes_of w
cut b w n (k, e) h l =
    let q : (length w + 7) / 8 ≡ n = omega arith in
    ap (λ m. take m b) (sym q) ∙ cut-bytes_of b w k h e

-- ## Fields that were put

-- two puts, one behind the other
pub put-put : (f : List ℕ) (at q : ℕ) (xs ys : List Bool) → q ≡ at + length xs → at + length xs + length ys ≤ 8 * length f → put_bits (put_bits f at xs) q ys ≡ put_bits f at (xs ++ ys)
put-put f at q xs ys e h = ap (λ z. put_bits (put_bits f at xs) z ys) e ∙ put_bits-twice f at xs ys h

-- a field that fits was put
pub field_put : (f x : List ℕ) (at q n v : ℕ) → n ≤ 64 → at + n ≤ 8 * length f → q ≡ at → x ≡ cond (is_field q n (length f)) (put_bits f q (bits n v)) f → x ≡ put_bits f at (bits n v)
field_put f x at q n v a b i e =
    let t : is_field at n (length f) ≡ true = grind (arith, nat_tests) in
    e ∙ ap (λ z. cond (is_field z n (length f)) (put_bits f z (bits n v)) f) i ∙ ap (λ z. cond z (put_bits f at (bits n v)) f) t

-- a number in four bytes that fit was put
pub number_put : (f x : List ℕ) (p q v : ℕ) → p + 4 ≤ length f → q ≡ p → x ≡ cond (leb (q + 4) (length f)) (put_bits f (8 * q) (bits 32 v)) f → x ≡ put_bits f (8 * p) (bits 32 v)
number_put f x p q v b i e =
    let t : leb (p + 4) (length f) ≡ true = grind (arith, nat_tests) in
    e ∙ ap (λ z. cond (leb (z + 4) (length f)) (put_bits f (8 * z) (bits 32 v)) f) i ∙ ap (λ z. cond z (put_bits f (8 * p) (bits 32 v)) f) t
