-- Words within w bits: what wrapping and rotating at a machine's width give, over the width.
use Rattle.std.proofs.Common.{◌≡◌, ℕ, ◌+◌, ◌-◌, ◌*◌, ◌/◌, ◌%◌, ◌^◌, ◌<◌, ◌≤◌, sym, ap, ◌∙◌, ⊎_elim, lt_of_lt_of_le, mod-lt, mod-eq_of_lt, add-mul, div-one, arith, pow_pos, pow_mono, pow-add, shr_lt}
use native.Mathlib.Nat.{mod_self, mul-mod_left, div-eq_of_lt, mod-one, add-mul-mod_self_right, add-mod-mod}
use lib.Bits.{bit_and, bit_or, and_mask, or_shifted_r, or_self}
use lib.Pow.{mod-mod-pow, mod-pow-add, split}
use Rattle.std.proofs.lemmas.Nat.{shl-shr, shl_whole, one_shl}
use Rattle.std.proofs.lemmas.Bool.{cases_eq, cases_lt}
use Rattle.forms.specs.Coders.{minus, plus, rotr}
use Rattle.forms.proofs.Coders.{rotr-below}

-- a number of n bits, cut to w of them
pub narrowed : (w n x : ℕ) → w ≤ n → x % 2 ^ n % 2 ^ w ≡ x % 2 ^ w
narrowed w n x h = let e : n - w + w ≡ n = omega arith in rw e at (mod-mod-pow x (n - w) w)

-- a difference that wraps at n bits, cut to w
pub wrapped-difference : (w n p x : ℕ) → w ≤ n → p < 2 ^ n → (x + (2 ^ n - p)) % 2 ^ n % 2 ^ w ≡ minus w p x
wrapped-difference w n p x h l =
    let j : ℕ = n - w in
    let e : j + w ≡ n = omega arith in
    let q : ℕ = p / 2 ^ w in
    let r : ℕ = p % 2 ^ w in
    let lr : r < 2 ^ w = mod-lt p (pow_pos w) in
    let lq : q < 2 ^ j = shr_lt j w (rw e l) in
    let s : q * 2 ^ w + r ≡ p = split p w in
    let t : 2 ^ n ≡ 2 ^ j * 2 ^ w = ap (λ z. 2 ^ z) (sym e) ∙ pow-add 2 j w in
    let a : ℕ = 2 ^ j - q - 1 in
    let u : 2 ^ j ≡ a + (q + 1) = omega arith in
    let m : 2 ^ j * 2 ^ w ≡ a * 2 ^ w + (q * 2 ^ w + 1 * 2 ^ w) = ap (λ z. z * 2 ^ w) u ∙ add-mul a (q + 1) (2 ^ w) ∙ ap (λ z. a * 2 ^ w + z) (add-mul q 1 (2 ^ w)) in
    let y : x + (2 ^ n - p) ≡ x + (2 ^ w - r) + a * 2 ^ w = omega (arith, m, t, s) in
    narrowed w n (x + (2 ^ n - p)) h ∙ ap (λ z. z % 2 ^ w) y ∙ add-mul-mod_self_right (x + (2 ^ w - r)) a (2 ^ w)

-- a sum that wraps at n bits, cut to w
pub wrapped_sum : (w n p x : ℕ) → w ≤ n → (x + p) % 2 ^ n % 2 ^ w ≡ plus w p x
wrapped_sum w n p x h = narrowed w n (x + p) h ∙ sym (add-mod-mod x p (2 ^ w))

-- a rotation of w bits, as a machine has it
turned : (w k x : ℕ) → 0 < k → k < w → x < 2 ^ w → bit_or (x / 2 ^ k) ((x * 2 ^ ((w - k) % w)) % 2 ^ w) ≡ rotr w k x
turned w k x h0 h l =
    let j : ℕ = w - k in
    let e : k + j ≡ w = omega arith in
    let f : j % w ≡ j = mod-eq_of_lt (omega arith) in
    let e2 : j + k ≡ w = omega arith in
    let top : x / 2 ^ k < 2 ^ j = shr_lt j k (rw e2 l) in
    let m1 : x * 2 ^ j % 2 ^ (k + j) ≡ (x * 2 ^ j / 2 ^ j % 2 ^ k) * 2 ^ j + x * 2 ^ j % 2 ^ j = mod-pow-add (x * 2 ^ j) k j in
    let m2 : x * 2 ^ j / 2 ^ j ≡ x = shl-shr x j in
    let m3 : x * 2 ^ j % 2 ^ j ≡ 0 = mul-mod_left x (2 ^ j) in
    let m4 : x * 2 ^ j % 2 ^ (k + j) ≡ x % 2 ^ k * 2 ^ j = m1 ∙ omega (arith, ap (λ z. z % 2 ^ k * 2 ^ j) m2, m3) in
    let m5 : (x * 2 ^ (j % w)) % 2 ^ w ≡ x % 2 ^ k * 2 ^ j = ap (λ z. (x * 2 ^ z) % 2 ^ w) f ∙ ap (λ z. (x * 2 ^ j) % 2 ^ z) (sym e) ∙ m4 in
    ap (bit_or (x / 2 ^ k)) m5 ∙ or_shifted_r (x % 2 ^ k) j (x / 2 ^ k) top

unturned : (w k x : ℕ) → k ≡ 0 → x < 2 ^ w → bit_or (x / 2 ^ k) ((x * 2 ^ ((w - k) % w)) % 2 ^ w) ≡ rotr w k x
unturned w k x z l =
    let d : x / 2 ^ k ≡ x = ap (λ n. x / 2 ^ n) z ∙ div-one x in
    let r : x % 2 ^ k ≡ 0 = ap (λ n. x % 2 ^ n) z ∙ mod-one x in
    let f : (w - k) % w ≡ 0 = ap (λ n. (w - n) % w) z ∙ ap (λ n. n % w) (omega arith) ∙ mod_self w in
    let m : (x * 2 ^ ((w - k) % w)) % 2 ^ w ≡ x = ap (λ n. (x * 2 ^ n) % 2 ^ w) f ∙ ap (λ n. n % 2 ^ w) (omega arith) ∙ mod-eq_of_lt l in
    let o : bit_or (x / 2 ^ k) ((x * 2 ^ ((w - k) % w)) % 2 ^ w) ≡ x = ap (λ n. bit_or n ((x * 2 ^ ((w - k) % w)) % 2 ^ w)) d ∙ ap (bit_or x) m ∙ or_self x in
    o ∙ omega (arith, ap (λ n. n * 2 ^ (w - k)) r, d)

pub rotated-right : (w b x : ℕ) → 0 < w → x < 2 ^ w → bit_or (x / 2 ^ (b % w)) ((x * 2 ^ ((w - b % w) % w)) % 2 ^ w) ≡ rotr w (b % w) x
rotated-right w b x h l =
    let k : b % w < w = mod-lt b h in
    ⊎_elim (λ (z : b % w ≡ 0). unturned w (b % w) x z l) (λ (z : b % w ≡ 0 → ⊥). turned w (b % w) x (omega arith) k l) (cases_eq (b % w) 0)

-- the same for the word of a number, at a width known to be n
pub rotated-at : (w n b x y r : ℕ) → w ≡ n → 0 < n → y ≡ x % 2 ^ w → r ≡ bit_or (y / 2 ^ (b % n)) ((y * 2 ^ ((n - b % n) % n)) % 2 ^ n) → r ≡ rotr w (b % w) (x % 2 ^ w)
rotated-at w n b x y r e h d i =
    let l : y < 2 ^ n = rw (d, e) (mod-lt x (pow_pos n)) in
    i ∙ rotated-right n b y h l ∙ ap (λ z. rotr n (b % n) z) d ∙ ap (λ z. rotr z (b % z) (x % 2 ^ w)) (sym e)

-- by shifts within 64 bits, at any width up to 32
pub rotated-shifts : (w k y : ℕ) → k < w → w ≤ 32 → y < 2 ^ w → (bit_and y ((1 * 2 ^ k) % 2 ^ 64 - 1) * 2 ^ (w - k)) % 2 ^ 64 + y / 2 ^ k ≡ rotr w k y
rotated-shifts w k y h m l =
    let a : bit_and y ((1 * 2 ^ k) % 2 ^ 64 - 1) ≡ y % 2 ^ k = ap (λ z. bit_and y (z - 1)) (one_shl k 64 (omega arith)) ∙ and_mask y k in
    let b : (y % 2 ^ k * 2 ^ (w - k)) % 2 ^ 64 ≡ y % 2 ^ k * 2 ^ (w - k) = shl_whole (y % 2 ^ k) k (w - k) 64 (mod-lt y (pow_pos k)) (omega arith) in
    ap (λ z. (z * 2 ^ (w - k)) % 2 ^ 64 + y / 2 ^ k) a ∙ ap (λ z. z + y / 2 ^ k) b

pub rotated-fits : (w k y : ℕ) → k < w → w ≤ 32 → y < 2 ^ w → (bit_and y ((1 * 2 ^ k) % 2 ^ 64 - 1) * 2 ^ (w - k)) % 2 ^ 64 + y / 2 ^ k < 2 ^ 32
rotated-fits w k y h m l =
    let a = rotr-below w k (omega arith) y l in
    let p : 2 ^ w ≤ 2 ^ 32 = pow_mono m in
    rw (rotated-shifts w k y h m l) (lt_of_lt_of_le a p)

-- a turn by the width is none
pub rotr_mod : (w k y : ℕ) → 0 < w → k ≤ w → y < 2 ^ w → rotr w (k % w) y ≡ rotr w k y
rotr_mod w k y h l b = ⊎_elim
    (λ (e : k < w). ap (λ z. rotr w z y) (mod-eq_of_lt e))
    (λ (e : w ≤ k).
    let i : k ≡ w = omega arith in
    let z : k % w ≡ 0 = ap (λ n. n % w) i ∙ mod_self w in
    let d1 : y / 2 ^ k ≡ 0 = ap (λ n. y / 2 ^ n) i ∙ div-eq_of_lt b in
    let r1 : y % 2 ^ k ≡ y = ap (λ n. y % 2 ^ n) i ∙ mod-eq_of_lt b in
    let s1 : w - k ≡ 0 = omega arith in
    let p1 : y % 2 ^ k * 2 ^ (w - k) ≡ y = ap (λ n. n * 2 ^ (w - k)) r1 ∙ ap (λ n. y * 2 ^ n) s1 ∙ omega arith in
    let d0 : y / 2 ^ (k % w) ≡ y = ap (λ n. y / 2 ^ n) z ∙ div-one y in
    let r0 : y % 2 ^ (k % w) ≡ 0 = ap (λ n. y % 2 ^ n) z ∙ mod-one y in
    omega (arith, p1, d1, d0, ap (λ n. n * 2 ^ (w - k % w)) r0))
    (cases_lt k w)
