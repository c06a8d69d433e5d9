-- Fields by whole bytes and words: what loads, stores and shifts do to the bits of a file.
use Rattle.std.proofs.Common.{◌≡◌, ℕ, zero, suc, ◌+◌, ◌-◌, ◌*◌, ◌/◌, ◌%◌, ◌^◌, ◌<◌, ◌≤◌, Bool, List, [], ◌∷◌, ◌++◌, length, get_or, take, drop, set, sym, ap, ◌∙◌, add-zero, mod-lt, mod-eq_of_lt, mul_assoc, div-one, arith, length-drop, length-take, pow_pos, pow-add, shr_lt}
use native.Mathlib.Nat.{div-div-eq-div-mul, mul-mod_left}
use lib.Pow.{mod-pow-add}
use lib.Bits.{bit_or, or_shifted_r}
use Rattle.std.proofs.lemmas.Nat.{shl-shr, shl_whole}
use Rattle.std.proofs.lemmas.List.{take-append-drop, take_at, set_split}
use Rattle.bits.specs.Bits.{bits, number, bits_of, bytes, bytes_of, overwritten, put_bits, stored, field_at, Bytes}
use Rattle.bits.proofs.Numbers.{length-bits, number-bits, bits-number-at, bits-split}
use Rattle.bits.proofs.Files.{length-bits_of, bits_of-append, take-bits_of, drop-bits_of, bits_of-bytes, bytes_of-bits_of, length-overwritten, overwritten-twice, overwritten-within}
use Rattle.bits.proofs.Fields.{field-number, field_lt, field-split, field-within, field-byte, field-more, bits_of-from, bits_of-stored, take-bits, drop_bits, merged-bits, mod_mod_le}

pub Bytes-from : (f : List ℕ) → ((i : ℕ) → get_or f i 0 < 256) → Bytes f
unfolding Bytes
Bytes-from [] h = tt
Bytes-from (x ∷ xs) h = (h 0, Bytes-from xs (λ i. h (suc i)))

pub Bytes-at : (f : List ℕ) (i : ℕ) → Bytes f → get_or f i 0 < 256
unfolding Bytes
Bytes-at [] i h = omega arith
Bytes-at (x ∷ xs) zero h = h.0
Bytes-at (x ∷ xs) (suc i) h = Bytes-at xs i h.1

pub Bytes-none : (f : List ℕ) → length f ≤ 0 → Bytes f
unfolding Bytes
Bytes-none [] h = tt
Bytes-none (x ∷ xs) h = absurd (omega arith)

pub Bytes-set : (f : List ℕ) (p r : ℕ) → Bytes f → r < 256 → Bytes (set f p r)
unfolding Bytes
Bytes-set [] p r h l = tt
Bytes-set (x ∷ xs) zero r h l = (l, h.1)
Bytes-set (x ∷ xs) (suc p) r h l = (h.0, Bytes-set xs p r h.1 l)

-- bytes of a word
pub bytes-step : (n k w : ℕ) → bytes (suc n) (bits (8 + k) w) ≡ (w % 256) ∷ bytes n (bits k (w / 256))
unfolding bytes
bytes-step n k w =
    let t = take-bits 8 k w in
    let d : drop 8 (bits (8 + k) w) ≡ bits k (w / 256) = drop_bits 8 k w in
    let m : number (bits 8 w) ≡ w % 256 = number-bits 8 w in
    cc

pub bytes-eight : (w : ℕ) → bytes 8 (bits 64 w) ≡ (w % 256) ∷ (w / 256 % 256) ∷ (w / 65536 % 256) ∷ (w / 16777216 % 256) ∷ (w / 4294967296 % 256) ∷ (w / 1099511627776 % 256) ∷ (w / 281474976710656 % 256) ∷ (w / 72057594037927936 % 256) ∷ []
unfolding bytes
bytes-eight w =
    let b0 : bytes 8 (bits 64 w) ≡ (w % 256) ∷ bytes 7 (bits 56 (w / 256)) = bytes-step 7 56 w in
    let b1 : bytes 7 (bits 56 (w / 256)) ≡ (w / 256 % 256) ∷ bytes 6 (bits 48 (w / 256 / 256)) = bytes-step 6 48 (w / 256) in
    let e1 : w / 256 / 256 ≡ w / 65536 = div-div-eq-div-mul w 256 256 in
    let b2 : bytes 6 (bits 48 (w / 65536)) ≡ (w / 65536 % 256) ∷ bytes 5 (bits 40 (w / 65536 / 256)) = bytes-step 5 40 (w / 65536) in
    let e2 : w / 65536 / 256 ≡ w / 16777216 = div-div-eq-div-mul w 65536 256 in
    let b3 : bytes 5 (bits 40 (w / 16777216)) ≡ (w / 16777216 % 256) ∷ bytes 4 (bits 32 (w / 16777216 / 256)) = bytes-step 4 32 (w / 16777216) in
    let e3 : w / 16777216 / 256 ≡ w / 4294967296 = div-div-eq-div-mul w 16777216 256 in
    let b4 : bytes 4 (bits 32 (w / 4294967296)) ≡ (w / 4294967296 % 256) ∷ bytes 3 (bits 24 (w / 4294967296 / 256)) = bytes-step 3 24 (w / 4294967296) in
    let e4 : w / 4294967296 / 256 ≡ w / 1099511627776 = div-div-eq-div-mul w 4294967296 256 in
    let b5 : bytes 3 (bits 24 (w / 1099511627776)) ≡ (w / 1099511627776 % 256) ∷ bytes 2 (bits 16 (w / 1099511627776 / 256)) = bytes-step 2 16 (w / 1099511627776) in
    let e5 : w / 1099511627776 / 256 ≡ w / 281474976710656 = div-div-eq-div-mul w 1099511627776 256 in
    let b6 : bytes 2 (bits 16 (w / 281474976710656)) ≡ (w / 281474976710656 % 256) ∷ bytes 1 (bits 8 (w / 281474976710656 / 256)) = bytes-step 1 8 (w / 281474976710656) in
    let e6 : w / 281474976710656 / 256 ≡ w / 72057594037927936 = div-div-eq-div-mul w 281474976710656 256 in
    let b7 : bytes 1 (bits 8 (w / 72057594037927936)) ≡ (w / 72057594037927936 % 256) ∷ [] = bytes-step 0 0 (w / 72057594037927936) in
    cc

pub bytes-four : (w : ℕ) → bytes 4 (bits 32 w) ≡ (w % 256) ∷ (w / 256 % 256) ∷ (w / 65536 % 256) ∷ (w / 16777216 % 256) ∷ []
unfolding bytes
bytes-four w =
    let b0 : bytes 4 (bits 32 w) ≡ (w % 256) ∷ bytes 3 (bits 24 (w / 256)) = bytes-step 3 24 w in
    let b1 : bytes 3 (bits 24 (w / 256)) ≡ (w / 256 % 256) ∷ bytes 2 (bits 16 (w / 256 / 256)) = bytes-step 2 16 (w / 256) in
    let e1 : w / 256 / 256 ≡ w / 65536 = div-div-eq-div-mul w 256 256 in
    let b2 : bytes 2 (bits 16 (w / 65536)) ≡ (w / 65536 % 256) ∷ bytes 1 (bits 8 (w / 65536 / 256)) = bytes-step 1 8 (w / 65536) in
    let e2 : w / 65536 / 256 ≡ w / 16777216 = div-div-eq-div-mul w 65536 256 in
    let b3 : bytes 1 (bits 8 (w / 16777216)) ≡ (w / 16777216 % 256) ∷ [] = bytes-step 0 0 (w / 16777216) in
    cc

-- a field of no bits
pub put-none : (f : List ℕ) (a n v : ℕ) → n ≡ 0 → bits_of f ≡ overwritten (bits_of f) a (bits n v)
unfolding overwritten bits
put-none f a zero v e = rw add-zero (sym (take-append-drop a (bits_of f)))
put-none f a (suc n) v e = absurd (omega arith)

-- a field in two parts
pub put-more : (old : List Bool) (at k j n v : ℕ) → k + j ≡ n → at + n ≤ length old → overwritten (overwritten old at (bits k v)) (at + k) (bits j (v / 2 ^ k)) ≡ overwritten old at (bits n v)
put-more old at k j n v e h =
    let l1 = length-bits k v in
    let l2 = length-bits j (v / 2 ^ k) in
    let t = overwritten-twice old at (bits k v) (bits j (v / 2 ^ k)) (omega (arith, l1, l2)) in
    let s = bits-split k j v in
    cc

-- one byte
pub set-bits : (f : List ℕ) (p r : ℕ) → p < length f → bits_of (set f p r) ≡ overwritten (bits_of f) (8 * p) (bits 8 r)
unfolding overwritten bits_of
set-bits f p r h =
    let a : bits_of (set f p r) ≡ bits_of (take p f) ++ (bits 8 r ++ bits_of (drop (suc p) f)) = ap bits_of (set_split f p r h) ∙ bits_of-append (take p f) (r ∷ drop (suc p) f) in
    let t = take-bits_of p f (omega arith) in
    let d = drop-bits_of (suc p) f h in
    let l : 8 * p + length (bits 8 r) ≡ 8 * suc p = rw length-bits (omega arith) in
    cc

-- a part of one byte
pub put_byte : (f : List ℕ) (p s n v r : ℕ) → p < length f → s + n ≤ 8 → r ≡ (get_or f p 0 / 2 ^ (s + n) * 2 ^ n + v % 2 ^ n) * 2 ^ s + get_or f p 0 % 2 ^ s → bits_of (set f p r) ≡ overwritten (bits_of f) (8 * p + s) (bits n v)
put_byte f p s n v r h l e =
    let x : ℕ = get_or f p 0 in
    let b : bits 8 r ≡ overwritten (bits 8 x) s (bits n v) = ap (bits 8) e ∙ merged-bits 8 x s v n l in
    let t : take 8 (drop (8 * p) (bits_of f)) ≡ bits 8 x = ap (take 8) (bits_of-from f p h) ∙ take_at (bits 8 x) (bits_of (drop (p + 1) f)) 8 (length-bits 8 x) in
    let w = overwritten-within (bits_of f) (8 * p) 8 s (bits n v) (omega (arith, length-bits n v)) (omega (arith, length-bits_of f)) in
    let g = set-bits f p r h in
    cc

-- a field of eight bytes
pub put_word : (f : List ℕ) (p s n v r w : ℕ) → p + 8 ≤ length f → s + n ≤ 64 → w ≡ field_at f (8 * p) 64 → r ≡ (w / 2 ^ (s + n) * 2 ^ n + v % 2 ^ n) * 2 ^ s + w % 2 ^ s → bits_of (stored f p 8 r) ≡ overwritten (bits_of f) (8 * p + s) (bits n v)
unfolding field_at
put_word f p s n v r w h l e1 e2 =
    let T : List Bool = take 64 (drop (8 * p) (bits_of f)) in
    let lT : length T ≡ 64 = simp (length-take, length-drop, length-bits_of) (omega arith) in
    let t : bits 64 w ≡ T = ap (bits 64) e1 ∙ bits-number-at 64 T lT in
    let b : bits 64 r ≡ overwritten (bits 64 w) s (bits n v) = ap (bits 64) e2 ∙ merged-bits 64 w s v n l in
    let x = overwritten-within (bits_of f) (8 * p) 64 s (bits n v) (omega (arith, length-bits n v)) (omega (arith, length-bits_of f)) in
    let g : bits_of (stored f p 8 r) ≡ overwritten (bits_of f) (8 * p) (bits 64 r) = bits_of-stored f p 8 r h in
    cc

-- what the bits say, the bytes say
pub put_whole : (f g : List ℕ) (a b : ℕ) (bs : List Bool) → Bytes g → a ≡ b → bits_of g ≡ overwritten (bits_of f) a bs → g ≡ put_bits f b bs
unfolding put_bits
put_whole f g a b bs h i e = let z = bytes_of-bits_of g h in cc

pub bits_of-put_bits : (f : List ℕ) (at : ℕ) (bs : List Bool) → at + length bs ≤ 8 * length f → bits_of (put_bits f at bs) ≡ overwritten (bits_of f) at bs
unfolding put_bits bytes_of
bits_of-put_bits f at bs h =
    let l : length (overwritten (bits_of f) at bs) ≡ 8 * length f = length-overwritten (bits_of f) at bs (omega (arith, length-bits_of f)) ∙ length-bits_of f in
    let m : length (overwritten (bits_of f) at bs) ≡ 8 * ((length (overwritten (bits_of f) at bs) + 7) / 8) = omega arith in
    bits_of-bytes ((length (overwritten (bits_of f) at bs) + 7) / 8) (overwritten (bits_of f) at bs) m

-- a part of a byte, read
pub take-byte : (f : List ℕ) (p s k : ℕ) → p < length f → s + k ≤ 8 → get_or f p 0 < 256 → get_or f p 0 / 2 ^ s % 2 ^ k ≡ field_at f (8 * p + s) k
take-byte f p s k h l b =
    let m : get_or f p 0 % 256 ≡ get_or f p 0 = mod-eq_of_lt b in
    let x = field-byte f p h in
    let w = field-within f (8 * p) 8 s k l in
    cc

-- two parts of a field, joined
pub take_more : (f : List ℕ) (a j k n x y : ℕ) → j + k ≡ n → n ≤ 64 → x ≡ field_at f a j → y ≡ field_at f (a + j) k → bit_or x ((y * 2 ^ j) % 2 ^ 64) ≡ field_at f a n
take_more f a j k n x y e l ex ey =
    let lx : x < 2 ^ j = rw ex (field_lt f a j) in
    let ly : y < 2 ^ k = rw ey (field_lt f (a + j) k) in
    let s : (y * 2 ^ j) % 2 ^ 64 ≡ y * 2 ^ j = shl_whole y k j 64 ly (omega arith) in
    let o : bit_or x (y * 2 ^ j) ≡ y * 2 ^ j + x = or_shifted_r y j x lx in
    let g = field-split f a j k in
    cc

-- the high part of a word
pub take-high : (f : List ℕ) (p s w : ℕ) → s ≤ 64 → w ≡ field_at f (8 * p) 64 → w / 2 ^ s ≡ field_at f (8 * p + s) (64 - s)
take-high f p s w h e =
    let g : 64 - s + s ≡ 64 = omega arith in
    let lw : w < 2 ^ 64 = rw e (field_lt f (8 * p) 64) in
    let i : w / 2 ^ s < 2 ^ (64 - s) = shr_lt (64 - s) s (rw g lw) in
    let m : w / 2 ^ s % 2 ^ (64 - s) ≡ w / 2 ^ s = mod-eq_of_lt i in
    let x = field-within f (8 * p) 64 s (64 - s) (omega arith) in
    cc

pub field_next : (f : List ℕ) (p q k : ℕ) → p < length f → q ≡ p + 1 → get_or f p 0 < 256 → field_at f (8 * p) (8 + k) ≡ field_at f (8 * q) k * 256 + get_or f p 0
field_next f p q k h e l = field-more f p q k h e ∙ ap (λ z. field_at f (8 * q) k * 256 + z) (mod-eq_of_lt l)

pub field-eight : (f : List ℕ) (p : ℕ) → p + 8 ≤ length f → ((i : ℕ) → get_or f i 0 < 256) → get_or f p 0 + get_or f (p + 1) 0 * 256 + get_or f (p + 2) 0 * 65536 + get_or f (p + 3) 0 * 16777216 + get_or f (p + 4) 0 * 4294967296 + get_or f (p + 5) 0 * 1099511627776 + get_or f (p + 6) 0 * 281474976710656 + get_or f (p + 7) 0 * 72057594037927936 ≡ field_at f (8 * p) 64
field-eight f p h t =
    let m0 = field_next f p (p + 1) 56 (omega arith) (omega arith) (t p) in
    let m1 = field_next f (p + 1) (p + 2) 48 (omega arith) (omega arith) (t (p + 1)) in
    let m2 = field_next f (p + 2) (p + 3) 40 (omega arith) (omega arith) (t (p + 2)) in
    let m3 = field_next f (p + 3) (p + 4) 32 (omega arith) (omega arith) (t (p + 3)) in
    let m4 = field_next f (p + 4) (p + 5) 24 (omega arith) (omega arith) (t (p + 4)) in
    let m5 = field_next f (p + 5) (p + 6) 16 (omega arith) (omega arith) (t (p + 5)) in
    let m6 = field_next f (p + 6) (p + 7) 8 (omega arith) (omega arith) (t (p + 6)) in
    let m7 = field_next f (p + 7) (p + 8) 0 (omega arith) (omega arith) (t (p + 7)) in
    let z = field_lt f (8 * (p + 8)) 0 in
    omega arith

pub high_byte : (f : List ℕ) (p s k : ℕ) → s ≤ 8 → s + k ≡ 64 → p + 9 ≤ length f → get_or f (p + 8) 0 < 256 → get_or f (p + 8) 0 % 2 ^ s ≡ field_at f (8 * p + s + k) s
high_byte f p s k h e l lb =
    let i : 8 * (p + 8) + 0 ≡ 8 * p + s + k = omega arith in
    let t = take-byte f (p + 8) 0 s (omega arith) (omega arith) lb in
    let d : get_or f (p + 8) 0 / 1 ≡ get_or f (p + 8) 0 = div-one (get_or f (p + 8) 0) in
    ap (λ z. z % 2 ^ s) (sym d) ∙ t ∙ ap (λ z. field_at f z s) i

-- a place
pub place : (at : ℕ) → at ≡ 8 * (at / 8) + at % 8
place at = omega arith

-- no bits
pub take_none : (f : List ℕ) (a n : ℕ) → n ≡ 0 → 0 ≡ field_at f a n
take_none f a n e =
    let z : 0 ≡ field_at f a 0 = omega (arith, field_lt f a 0) in
    z ∙ ap (field_at f a) (sym e)

-- the 64 bits that begin in a word and end in the next byte
pub take-window : (f : List ℕ) (p s w : ℕ) → s < 8 → p + 9 ≤ length f → w ≡ field_at f (8 * p) 64 → get_or f (p + 8) 0 < 256 → bit_or (w / 2 ^ s) (((get_or f (p + 8) 0 * 2 ^ 1) % 2 ^ 64 * 2 ^ (63 - s)) % 2 ^ 64) ≡ field_at f (8 * p + s) 64
take-window f p s w h l ew lb =
    let b : ℕ = get_or f (p + 8) 0 in
    let k : ℕ = 64 - s in
    let e0 : k ≡ 1 + (63 - s) = omega arith in
    let e3 : 64 ≡ s + k = omega arith in
    let m1 : (b * 2 ^ 1) % 2 ^ 64 ≡ b * 2 = mod-eq_of_lt (omega arith) in
    let e1 : 2 ^ k ≡ 2 * 2 ^ (63 - s) = ap (λ z. 2 ^ z) e0 ∙ pow-add 2 1 (63 - s) in
    let m2 : b * 2 * 2 ^ (63 - s) ≡ b * 2 ^ k = mul_assoc b 2 (2 ^ (63 - s)) ∙ ap (λ z. b * z) (sym e1) in
    let m3 : b * 2 ^ k % 2 ^ (s + k) ≡ (b * 2 ^ k / 2 ^ k % 2 ^ s) * 2 ^ k + b * 2 ^ k % 2 ^ k = mod-pow-add (b * 2 ^ k) s k in
    let m4 : b * 2 ^ k / 2 ^ k ≡ b = shl-shr b k in
    let m5 : b * 2 ^ k % 2 ^ k ≡ 0 = mul-mod_left b (2 ^ k) in
    let m6 : b * 2 ^ k % 2 ^ (s + k) ≡ b % 2 ^ s * 2 ^ k = m3 ∙ omega (arith, ap (λ z. z % 2 ^ s * 2 ^ k) m4, m5) in
    let y : b % 2 ^ s ≡ field_at f (8 * p + s + k) s = high_byte f p s k (omega arith) (omega arith) (omega arith) lb in
    let ly : b % 2 ^ s < 2 ^ s = mod-lt b (pow_pos s) in
    let x = take-high f p s w (omega arith) ew in
    let t = take_more f (8 * p + s) k s 64 (w / 2 ^ s) (b % 2 ^ s) (omega arith) (omega arith) x y in
    let sh : (b % 2 ^ s * 2 ^ k) % 2 ^ 64 ≡ b % 2 ^ s * 2 ^ k = shl_whole (b % 2 ^ s) s k 64 ly (omega arith) in
    let q : ((b * 2 ^ 1) % 2 ^ 64 * 2 ^ (63 - s)) % 2 ^ 64 ≡ b % 2 ^ s * 2 ^ k
    = ap (λ z. (z * 2 ^ (63 - s)) % 2 ^ 64) m1 ∙ ap (λ z. z % 2 ^ 64) m2 ∙ ap (λ z. b * 2 ^ k % 2 ^ z) e3 ∙ m6 in
    ap (λ z. bit_or (w / 2 ^ s) z) (q ∙ sym sh) ∙ t

-- the front of a field
pub field-front : (f : List ℕ) (a m n : ℕ) → n ≤ m → field_at f a m % 2 ^ n ≡ field_at f a n
field-front f a m n h =
    let x = field-number f a m in
    let y = field-number f a n in
    let z = mod_mod_le (number (bits_of f) / 2 ^ a) m n h in
    cc

-- a field that ends in the byte past a word
pub put-long : (f g : List ℕ) (p s n v r w k : ℕ) (h : List ℕ) → p + 9 ≤ length f → s + k ≡ 64 → k ≤ n → n ≤ 64 → s < 8 → w ≡ field_at f (8 * p) 64 → r ≡ (w / 2 ^ (s + k) * 2 ^ k + v % 2 ^ k) * 2 ^ s + w % 2 ^ s → g ≡ stored f p 8 r → bits_of h ≡ overwritten (bits_of g) (8 * (p + 8) + 0) (bits (n - k) (v / 2 ^ k)) → bits_of h ≡ overwritten (bits_of f) (8 * p + s) (bits n v)
put-long f g p s n v r w k h l e1 l2 l3 l4 ew er eg eh =
    let a = put_word f p s k v r w (omega arith) (omega arith) ew er in
    let j : k + (n - k) ≡ n = omega arith in
    let m = put-more (bits_of f) (8 * p + s) k (n - k) n v j (omega (arith, length-bits_of f)) in
    let i : 8 * (p + 8) + 0 ≡ 8 * p + s + k = omega arith in
    cc
