-- Fields of a file: what is read, and what a write leaves.
use Rattle.std.proofs.Common.{◌≡◌, ℕ, zero, suc, ◌+◌, ◌-◌, ◌*◌, ◌/◌, ◌%◌, ◌^◌, ◌<◌, ◌≤◌, List, [], ◌∷◌, ◌++◌, length, get_or, take, drop, sym, ap, ◌∙◌, mod-lt, mul_assoc, add-mul, add_comm, mul-lt-mul_of_pos_right, arith, pow_pos, pow-add, shr-shr, shr_lt}
use native.Mathlib.Nat.{zero-mod}
use lib.Pow.{mod-pow-add, mod-mod-pow, field, high, low}
use lib.Bits.{bit_or, or_shifted}
use lib.Arith.{digits_lt}
use Rattle.std.proofs.lemmas.List.{take_at, drop_at, drop_all, drop_more}
use Rattle.bits.specs.Bits.{bits, number, bits_of, bytes, overwritten, stored, field_at, Bytes}
use Rattle.bits.proofs.Numbers.{length-bits, number-bits, bits-same, bits-split, number-take, number-drop}
use Rattle.bits.proofs.Files.{length-bits_of, bits_of-append, take-bits_of, drop-bits_of, bytes-Bytes, bits_of-bytes}

-- a field by the number of the whole file
pub field-number : (f : List ℕ) (a n : ℕ) → field_at f a n ≡ number (bits_of f) / 2 ^ a % 2 ^ n
unfolding field_at
field-number f a n = number-take n (drop a (bits_of f)) ∙ ap (λ z. z % 2 ^ n) (number-drop a (bits_of f))

pub field_lt : (f : List ℕ) (a n : ℕ) → field_at f a n < 2 ^ n
field_lt f a n = rw field-number (mod-lt (number (bits_of f) / 2 ^ a) (pow_pos n))

pub field_past : (f : List ℕ) (a n : ℕ) → 8 * length f ≤ a → field_at f a n ≡ 0
unfolding field_at number
field_past f a n h =
    let d : drop a (bits_of f) ≡ [] = drop_all a (bits_of f) (omega (arith, length-bits_of f)) in
    number-take n (drop a (bits_of f)) ∙ rw d (zero-mod (2 ^ n))

pub field-split : (f : List ℕ) (a j k : ℕ) → field_at f a (j + k) ≡ field_at f (a + j) k * 2 ^ j + field_at f a j
field-split f a j k =
    let N : ℕ = number (bits_of f) in
    let e : N / 2 ^ a / 2 ^ j ≡ N / 2 ^ (a + j) = shr-shr N a j in
    let m : N / 2 ^ a % 2 ^ (k + j) ≡ (N / 2 ^ a / 2 ^ j % 2 ^ k) * 2 ^ j + N / 2 ^ a % 2 ^ j = mod-pow-add (N / 2 ^ a) k j in
    let c1 : k + j ≡ j + k = add_comm k j in
    let f1 = field-number f a (j + k) in
    let f2 = field-number f (a + j) k in
    let f3 = field-number f a j in
    cc

pub mod_mod_le : (x m n : ℕ) → n ≤ m → x % 2 ^ m % 2 ^ n ≡ x % 2 ^ n
mod_mod_le x m n h = let e : m - n + n ≡ m = omega arith in rw e at (mod-mod-pow x (m - n) n)

pub field-within : (f : List ℕ) (a m s k : ℕ) → s + k ≤ m → field_at f (a + s) k ≡ field_at f a m / 2 ^ s % 2 ^ k
field-within f a m s k h =
    let N : ℕ = number (bits_of f) in
    let e : N / 2 ^ a / 2 ^ s ≡ N / 2 ^ (a + s) = shr-shr N a s in
    let g : m - s + s ≡ m = omega arith in
    let i : N / 2 ^ a % 2 ^ m / 2 ^ s ≡ N / 2 ^ a / 2 ^ s % 2 ^ (m - s) = rw g at (field (N / 2 ^ a) (m - s) s) in
    let l : k ≤ m - s = omega arith in
    let j = mod_mod_le (N / 2 ^ a / 2 ^ s) (m - s) k l in
    let f1 = field-number f (a + s) k in
    let f2 = field-number f a m in
    cc

-- a byte
pub bits_of-from : (f : List ℕ) (p : ℕ) → p < length f → drop (8 * p) (bits_of f) ≡ bits 8 (get_or f p 0) ++ bits_of (drop (p + 1) f)
unfolding bits_of
bits_of-from f p h = drop-bits_of p f (omega arith) ∙ ap bits_of (drop_more f p 0 h)

pub field-byte : (f : List ℕ) (p : ℕ) → p < length f → field_at f (8 * p) 8 ≡ get_or f p 0 % 256
unfolding field_at
field-byte f p h =
    ap (λ z. number (take 8 z)) (bits_of-from f p h)
    ∙ ap number (take_at (bits 8 (get_or f p 0)) (bits_of (drop (p + 1) f)) 8 (length-bits 8 (get_or f p 0)))
    ∙ number-bits 8 (get_or f p 0)

-- one byte more
pub field-more : (f : List ℕ) (p q k : ℕ) → p < length f → q ≡ p + 1 → field_at f (8 * p) (8 + k) ≡ field_at f (8 * q) k * 256 + get_or f p 0 % 256
field-more f p q k h e =
    let a : 8 * p + 8 ≡ 8 * q = omega arith in
    let s = field-split f (8 * p) 8 k in
    let b = field-byte f p h in
    cc

-- what is stored
pub bits_of-stored : (f : List ℕ) (p n v : ℕ) → p + n ≤ length f → bits_of (stored f p n v) ≡ overwritten (bits_of f) (8 * p) (bits (8 * n) v)
unfolding stored overwritten
bits_of-stored f p n v h =
    let M : List ℕ = bytes n (bits (8 * n) v) in
    let a = bits_of-append (take p f) (M ++ drop (p + n) f) in
    let b = bits_of-append M (drop (p + n) f) in
    let m = bits_of-bytes n (bits (8 * n) v) (length-bits (8 * n) v) in
    let t = take-bits_of p f (omega arith) in
    let d = drop-bits_of (p + n) f h in
    let l : 8 * p + length (bits (8 * n) v) ≡ 8 * (p + n) = rw length-bits (omega arith) in
    cc

pub Bytes-append : (f g : List ℕ) → Bytes f → Bytes g → Bytes (f ++ g)
unfolding Bytes
Bytes-append [] g hf hg = hg
Bytes-append (x ∷ xs) g hf hg = (hf.0, Bytes-append xs g hf.1 hg)

pub Bytes-take : (n : ℕ) (f : List ℕ) → Bytes f → Bytes (take n f)
unfolding Bytes
Bytes-take zero f h = tt
Bytes-take (suc n) [] h = tt
Bytes-take (suc n) (x ∷ xs) h = (h.0, Bytes-take n xs h.1)

pub Bytes-drop : (n : ℕ) (f : List ℕ) → Bytes f → Bytes (drop n f)
unfolding Bytes
Bytes-drop zero f h = h
Bytes-drop (suc n) [] h = tt
Bytes-drop (suc n) (x ∷ xs) h = Bytes-drop n xs h.1

pub Bytes-stored : (f : List ℕ) (p n v : ℕ) → Bytes f → Bytes (stored f p n v)
unfolding stored
Bytes-stored f p n v h =
    Bytes-append (take p f) (bytes n (bits (8 * n) v) ++ drop (p + n) f) (Bytes-take p f h)
    (Bytes-append (bytes n (bits (8 * n) v)) (drop (p + n) f) (bytes-Bytes n (bits (8 * n) v)) (Bytes-drop (p + n) f h))

pub take-bits : (s k w : ℕ) → take s (bits (s + k) w) ≡ bits s w
take-bits s k w = ap (take s) (bits-split s k w) ∙ take_at (bits s w) (bits k (w / 2 ^ s)) s (length-bits s w)

pub drop_bits : (s k w : ℕ) → drop s (bits (s + k) w) ≡ bits k (w / 2 ^ s)
drop_bits s k w = ap (drop s) (bits-split s k w) ∙ drop_at (bits s w) (bits k (w / 2 ^ s)) s (length-bits s w)

-- a word with a field replaced
pub merged-bits : (m w s v n : ℕ) → s + n ≤ m → bits m ((w / 2 ^ (s + n) * 2 ^ n + v % 2 ^ n) * 2 ^ s + w % 2 ^ s) ≡ overwritten (bits m w) s (bits n v)
unfolding overwritten
merged-bits m w s v n h =
    let hi : ℕ = w / 2 ^ (s + n) in
    let mid : ℕ = hi * 2 ^ n + v % 2 ^ n in
    let r : ℕ = mid * 2 ^ s + w % 2 ^ s in
    let j : ℕ = m - (s + n) in
    let e : m ≡ s + (n + j) = omega arith in
    let e2 : m ≡ (s + n) + j = omega arith in
    let ls : w % 2 ^ s < 2 ^ s = mod-lt w (pow_pos s) in
    let ln : v % 2 ^ n < 2 ^ n = mod-lt v (pow_pos n) in
    let r0 : r % 2 ^ s ≡ w % 2 ^ s = low mid s ls in
    let r1 : r / 2 ^ s ≡ mid = high mid s ls in
    let r2 : mid % 2 ^ n ≡ v % 2 ^ n = low hi n ln in
    let r3 : mid / 2 ^ n ≡ hi = high hi n ln in
    let b0 : bits s r ≡ bits s w = bits-same s r w r0 in
    let b1 : bits n mid ≡ bits n v = bits-same n mid v r2 in
    let s1 : bits (s + (n + j)) r ≡ bits s r ++ bits (n + j) (r / 2 ^ s) = bits-split s (n + j) r in
    let s2 : bits (n + j) mid ≡ bits n mid ++ bits j (mid / 2 ^ n) = bits-split n j mid in
    let t : take s (bits m w) ≡ bits s w = ap (λ z. take s (bits z w)) e ∙ take-bits s (n + j) w in
    let d : drop (s + length (bits n v)) (bits m w) ≡ bits j hi
    = ap (λ z. drop (s + z) (bits m w)) (length-bits n v) ∙ ap (λ z. drop (s + n) (bits z w)) e2 ∙ drop_bits (s + n) j w in
    cc

pub merged-lt : (m w s v n : ℕ) → s + n ≤ m → w < 2 ^ m → (w / 2 ^ (s + n) * 2 ^ n + v % 2 ^ n) * 2 ^ s + w % 2 ^ s < 2 ^ m
merged-lt m w s v n h l =
    let j : ℕ = m - (s + n) in
    let e : j + (s + n) ≡ m = omega arith in
    let a : w / 2 ^ (s + n) < 2 ^ j = shr_lt j (s + n) (rw e l) in
    let b : w / 2 ^ (s + n) * 2 ^ n + v % 2 ^ n < 2 ^ j * 2 ^ n = digits_lt a (mod-lt v (pow_pos n)) in
    let c : (w / 2 ^ (s + n) * 2 ^ n + v % 2 ^ n) * 2 ^ s + w % 2 ^ s < 2 ^ j * 2 ^ n * 2 ^ s = digits_lt b (mod-lt w (pow_pos s)) in
    let e2 : j + n + s ≡ m = omega arith in
    let p : 2 ^ m ≡ 2 ^ j * 2 ^ n * 2 ^ s = ap (λ z. 2 ^ z) (sym e2) ∙ pow-add 2 (j + n) s ∙ ap (λ z. z * 2 ^ s) (pow-add 2 j n) in
    rw p c

-- the same, by the operations of a machine
pub merged-or : (w s v n : ℕ) → bit_or (bit_or (w / 2 ^ (s + n) * 2 ^ (s + n)) (v % 2 ^ n * 2 ^ s)) (w % 2 ^ s) ≡ (w / 2 ^ (s + n) * 2 ^ n + v % 2 ^ n) * 2 ^ s + w % 2 ^ s
merged-or w s v n =
    let hi : ℕ = w / 2 ^ (s + n) in
    let ls : w % 2 ^ s < 2 ^ s = mod-lt w (pow_pos s) in
    let ln : v % 2 ^ n < 2 ^ n = mod-lt v (pow_pos n) in
    let p : 2 ^ (s + n) ≡ 2 ^ n * 2 ^ s = ap (λ z. 2 ^ z) (add_comm s n) ∙ pow-add 2 n s in
    let q : v % 2 ^ n * 2 ^ s < 2 ^ (s + n) = rw p (mul-lt-mul_of_pos_right ln (pow_pos s)) in
    let o1 : bit_or (hi * 2 ^ (s + n)) (v % 2 ^ n * 2 ^ s) ≡ hi * 2 ^ (s + n) + v % 2 ^ n * 2 ^ s = or_shifted hi (s + n) (v % 2 ^ n * 2 ^ s) q in
    let o2 : hi * 2 ^ (s + n) ≡ hi * 2 ^ n * 2 ^ s = ap (λ z. hi * z) p ∙ sym (mul_assoc hi (2 ^ n) (2 ^ s)) in
    let o3 : (hi * 2 ^ n + v % 2 ^ n) * 2 ^ s ≡ hi * 2 ^ n * 2 ^ s + v % 2 ^ n * 2 ^ s = add-mul (hi * 2 ^ n) (v % 2 ^ n) (2 ^ s) in
    let o4 : bit_or (hi * 2 ^ (s + n)) (v % 2 ^ n * 2 ^ s) ≡ (hi * 2 ^ n + v % 2 ^ n) * 2 ^ s = o1 ∙ ap (λ z. z + v % 2 ^ n * 2 ^ s) o2 ∙ sym o3 in
    ap (λ z. bit_or z (w % 2 ^ s)) o4 ∙ or_shifted (hi * 2 ^ n + v % 2 ^ n) s (w % 2 ^ s) ls
