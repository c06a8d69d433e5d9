-- Bits that wait in a word for the rest of their eight bytes.
use Rattle.std.proofs.Common.{◌≡◌, ℕ, zero, suc, ◌+◌, ◌-◌, ◌*◌, ◌/◌, ◌%◌, ◌^◌, ◌<◌, ◌≤◌, List, ◌++◌, length, sym, refl, ap, ◌∙◌, append_assoc, mod-lt, mod-eq_of_lt, add_comm, arith, pow_pos, pow-add, shr_lt}
use native.Mathlib.Nat.{mul-mod_left, mod-mod}
use lib.Pow.{mod-pow-add, field, high, low}
use lib.Bits.{bit_or, or_shifted_r}
use lib.Arith.{digits_lt}
use Rattle.std.proofs.lemmas.Nat.{shl-shr, shl_whole}
use Rattle.bits.specs.Bits.{bits, put_bits, stored, Bytes}
use Rattle.bits.proofs.Numbers.{length-bits, bits-same, bits-split, bits_mod}
use Rattle.bits.proofs.Fields.{mod_mod_le}
use Rattle.bits.proofs.Laws.{put_bits-twice, put-stored}

-- a word and a number above it
pub joined : (w have m : ℕ) → w < 2 ^ have → have ≤ 64 → bit_or w ((m * 2 ^ have) % 2 ^ 64) ≡ m % 2 ^ (64 - have) * 2 ^ have + w
joined w have m h l =
    let k : ℕ = 64 - have in
    let e : k + have ≡ 64 = omega arith in
    let m3 : m * 2 ^ have % 2 ^ (k + have) ≡ (m * 2 ^ have / 2 ^ have % 2 ^ k) * 2 ^ have + m * 2 ^ have % 2 ^ have = mod-pow-add (m * 2 ^ have) k have in
    let m4 : m * 2 ^ have / 2 ^ have ≡ m = shl-shr m have in
    let m5 : m * 2 ^ have % 2 ^ have ≡ 0 = mul-mod_left m (2 ^ have) in
    let m6 : m * 2 ^ have % 2 ^ (k + have) ≡ m % 2 ^ k * 2 ^ have = m3 ∙ omega (arith, ap (λ z. z % 2 ^ k * 2 ^ have) m4, m5) in
    let m7 : m * 2 ^ have % 2 ^ 64 ≡ m % 2 ^ k * 2 ^ have = ap (λ z. m * 2 ^ have % 2 ^ z) (sym e) ∙ m6 in
    ap (bit_or w) m7 ∙ or_shifted_r (m % 2 ^ k) have w h

-- the bits of such a word
pub joined-bits : (w have m n : ℕ) → w < 2 ^ have → bits (have + n) (m * 2 ^ have + w) ≡ bits have w ++ bits n m
joined-bits w have m n h =
    let s = bits-split have n (m * 2 ^ have + w) in
    let a : (m * 2 ^ have + w) % 2 ^ have ≡ w = low m have h in
    let b : (m * 2 ^ have + w) / 2 ^ have ≡ m = high m have h in
    let c : bits have (m * 2 ^ have + w) ≡ bits have w = bits-same have (m * 2 ^ have + w) w (a ∙ sym (mod-eq_of_lt h)) in
    cc

module _ (w have v n : ℕ) (h : w < 2 ^ have) (l : have < 64) (ln : n ≤ 64) where
  -- room in the word
  pub small_is : have + n < 64 → bit_or w ((v % 2 ^ n * 2 ^ have) % 2 ^ 64) ≡ v % 2 ^ n * 2 ^ have + w
  small_is r =
      let lm : v % 2 ^ n < 2 ^ n = mod-lt v (pow_pos n) in
      let s : (v % 2 ^ n * 2 ^ have) % 2 ^ 64 ≡ v % 2 ^ n * 2 ^ have = shl_whole (v % 2 ^ n) n have 64 lm (omega arith) in
      ap (bit_or w) s ∙ or_shifted_r (v % 2 ^ n) have w h

  pub small-lt : have + n < 64 → bit_or w ((v % 2 ^ n * 2 ^ have) % 2 ^ 64) < 2 ^ (have + n)
  small-lt r =
      let a : v % 2 ^ n * 2 ^ have + w < 2 ^ n * 2 ^ have = digits_lt (mod-lt v (pow_pos n)) h in
      let p : 2 ^ (have + n) ≡ 2 ^ n * 2 ^ have = ap (λ z. 2 ^ z) (add_comm have n) ∙ pow-add 2 n have in
      rw (small_is r, p) a

  pub small-bits : have + n < 64 → bits (have + n) (bit_or w ((v % 2 ^ n * 2 ^ have) % 2 ^ 64)) ≡ bits have w ++ bits n v
  small-bits r =
      let a : bits (have + n) (bit_or w ((v % 2 ^ n * 2 ^ have) % 2 ^ 64)) ≡ bits have w ++ bits n (v % 2 ^ n) = ap (bits (have + n)) (small_is r) ∙ joined-bits w have (v % 2 ^ n) n h in
      let b = bits_mod n v in
      cc

  -- put behind what waits
  pub small_put : (f : List ℕ) (p : ℕ) → have + n < 64 → 8 * p + have + n ≤ 8 * length f → put_bits f (8 * p) (bits (have + n) (bit_or w ((v % 2 ^ n * 2 ^ have) % 2 ^ 64))) ≡ put_bits (put_bits f (8 * p) (bits have w)) (8 * p + have) (bits n v)
  small_put f p r lf =
      let a = small-bits r in
      let l1 = length-bits have w in
      let l2 = length-bits n v in
      let t = put_bits-twice f (8 * p) (bits have w) (bits n v) (omega arith) in
      cc

  -- the word is full
  pub full-bits : 64 ≤ have + n → bits 64 (bit_or w ((v % 2 ^ n * 2 ^ have) % 2 ^ 64)) ≡ bits have w ++ bits (64 - have) v
  full-bits r =
      let k : ℕ = 64 - have in
      let m : ℕ = v % 2 ^ n in
      let e : have + k ≡ 64 = omega arith in
      let a : bits 64 (bit_or w ((m * 2 ^ have) % 2 ^ 64)) ≡ bits (have + k) (m % 2 ^ k * 2 ^ have + w) = ap (bits 64) (joined w have m h (omega arith)) ∙ ap (λ z. bits z (m % 2 ^ k * 2 ^ have + w)) (sym e) in
      let b : bits k (m % 2 ^ k) ≡ bits k v = bits-same k (m % 2 ^ k) v (mod-mod m (2 ^ k) ∙ mod_mod_le v n k (omega arith)) in
      a ∙ joined-bits w have (m % 2 ^ k) k h ∙ ap (λ z. bits have w ++ z) b

  pub full-rest : 64 ≤ have + n → bits (have + n - 64) (v % 2 ^ n / 2 ^ (64 - have)) ≡ bits (have + n - 64) (v / 2 ^ (64 - have))
  full-rest r =
      let k : ℕ = 64 - have in
      let j : ℕ = have + n - 64 in
      let e : j + k ≡ n = omega arith in
      let a : v % 2 ^ n / 2 ^ k ≡ v / 2 ^ k % 2 ^ j = ap (λ z. v % 2 ^ z / 2 ^ k) (sym e) ∙ field v j k in
      ap (bits j) a ∙ bits_mod j (v / 2 ^ k)

  pub full-rest-lt : 64 ≤ have + n → v % 2 ^ n / 2 ^ (64 - have) < 2 ^ (have + n - 64)
  full-rest-lt r =
      let e : have + n - 64 + (64 - have) ≡ n = omega arith in
      shr_lt (have + n - 64) (64 - have) (rw e (mod-lt v (pow_pos n)))

  pub full_put : (f g : List ℕ) (p rest : ℕ) → Bytes f → 64 ≤ have + n → 8 * p + have + n ≤ 8 * length f → g ≡ stored f p 8 (bit_or w ((v % 2 ^ n * 2 ^ have) % 2 ^ 64)) → bits (have + n - 64) rest ≡ bits (have + n - 64) (v / 2 ^ (64 - have)) → put_bits g (8 * (p + 8)) (bits (have + n - 64) rest) ≡ put_bits (put_bits f (8 * p) (bits have w)) (8 * p + have) (bits n v)
  full_put f g p rest bf r lf eg er =
      let W : ℕ = bit_or w ((v % 2 ^ n * 2 ^ have) % 2 ^ 64) in
      let k : ℕ = 64 - have in
      let j : ℕ = have + n - 64 in
      let s : put_bits f (8 * p) (bits 64 W) ≡ stored f p 8 W = put-stored f p 8 W (omega arith) bf in
      let l64 = length-bits 64 W in
      let lj = length-bits j rest in
      let lh = length-bits have w in
      let ln2 = length-bits n v in
      let e8 : 8 * p + 64 ≡ 8 * (p + 8) = omega arith in
      let t : put_bits (put_bits f (8 * p) (bits 64 W)) (8 * p + length (bits 64 W)) (bits j rest) ≡ put_bits f (8 * p) (bits 64 W ++ bits j rest) = put_bits-twice f (8 * p) (bits 64 W) (bits j rest) (omega arith) in
      let u : put_bits (put_bits f (8 * p) (bits have w)) (8 * p + length (bits have w)) (bits n v) ≡ put_bits f (8 * p) (bits have w ++ bits n v) = put_bits-twice f (8 * p) (bits have w) (bits n v) (omega arith) in
      let d : bits 64 W ≡ bits have w ++ bits k v = full-bits r in
      let e : k + j ≡ n = omega arith in
      let x : bits (k + j) v ≡ bits k v ++ bits j (v / 2 ^ k) = bits-split k j v in
      let q2 = append_assoc (bits have w) (bits k v) (bits j (v / 2 ^ k)) in
      cc

-- the rest of a field that fills the word exactly
pub rest-none : (j x y : ℕ) → j ≡ 0 → bits j x ≡ bits j y
unfolding bits
rest-none zero x y e = refl
rest-none (suc j) x y e = absurd (omega arith)

pub none_lt : (j : ℕ) → 0 < 2 ^ j
none_lt j = pow_pos j
