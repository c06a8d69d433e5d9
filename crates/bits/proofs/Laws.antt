-- The laws for users: what a put leaves to read, appending, padding, fields at byte places.
use Rattle.std.proofs.Common.{◌≡◌, ℕ, zero, suc, ◌+◌, ◌-◌, ◌*◌, ◌/◌, ◌%◌, ◌^◌, ◌<◌, ◌≤◌, Bool, false, List, [], ◌++◌, length, get_or, take, drop, set, replicate, sym, refl, ap, ◌∙◌, append_assoc, add-zero, arith, length-append, length-drop, length-set, length-take}
use native.Mathlib.Nat.{zero-mod, mod-le, div-eq_of_lt}
use Rattle.std.proofs.lemmas.List.{append-nil, take-append-drop, length-take-le, take_at, drop_at, take-append-le, drop-append-le, drop-drop, drop-take, take-take, drop_all, length-replicate, drop-replicate, take-replicate, replicate-append-replicate}
use Rattle.bits.specs.Bits.{bits, number, bits_of, bytes, bytes_of, overwritten, put_bits, cleared_from, stored, field_at, Bytes}
use Rattle.bits.proofs.Numbers.{length-bits, bits_mod, number-bits, bits-number-at, number-inj, number_append}
use Rattle.bits.proofs.Files.{length-bits_of, length-bytes, bits_of-append, bits-zero, overwritten-twice, take-bits_of, bits_of-inj, bits_of-bytes, bits_of-bytes_of, bytes_of-bits_of, bytes-Bytes, number-zeros, overwritten-read, length-overwritten, drop_past, take_past}
use Rattle.bits.proofs.Fields.{field_lt, take-bits, bits_of-from, Bytes-take, Bytes-append, Bytes-stored, bits_of-stored}
use Rattle.bits.proofs.Places.{bits_of-put_bits, put_whole, put_byte, Bytes-set, Bytes-at, field_next}

pub Bytes-bytes_of : (bs : List Bool) → Bytes (bytes_of bs)
unfolding bytes_of
Bytes-bytes_of bs = bytes-Bytes ((length bs + 7) / 8) bs

pub length-bytes_of : (bs : List Bool) → length (bytes_of bs) ≡ (length bs + 7) / 8
unfolding bytes_of
length-bytes_of bs = length-bytes ((length bs + 7) / 8) bs

pub Bytes-put_bits : (f : List ℕ) (at : ℕ) (bs : List Bool) → Bytes (put_bits f at bs)
unfolding put_bits
Bytes-put_bits f at bs = Bytes-bytes_of (overwritten (bits_of f) at bs)

pub length-put_bits : (f : List ℕ) (at : ℕ) (bs : List Bool) → at + length bs ≤ 8 * length f → length (put_bits f at bs) ≡ length f
length-put_bits f at bs h =
    let l : length (overwritten (bits_of f) at bs) ≡ length (bits_of f) = length-overwritten (bits_of f) at bs (omega (arith, length-bits_of f)) in
    omega (arith, length-bits_of (put_bits f at bs), ap length (bits_of-put_bits f at bs h), l, length-bits_of f)

-- nothing is put
pub put_bits-none : (f : List ℕ) (at : ℕ) → Bytes f → put_bits f at [] ≡ f
unfolding put_bits overwritten
put_bits-none f at h = rw add-zero (ap bytes_of (take-append-drop at (bits_of f)) ∙ bytes_of-bits_of f h)

-- what stands there is put again
pub put_bits-same : (f : List ℕ) (at n : ℕ) → at + n ≤ 8 * length f → Bytes f → put_bits f at (take n (drop at (bits_of f))) ≡ f
unfolding put_bits overwritten
put_bits-same f at n h b =
    let B : List Bool = bits_of f in
    let T : List Bool = take n (drop at B) in
    let l : length T ≡ n = simp (length-take, length-drop, length-bits_of) (omega arith) in
    let d : drop n (drop at B) ≡ drop (at + n) B = drop-drop n at B in
    let t = take-append-drop n (drop at B) in
    let u = take-append-drop at B in
    let e : take at B ++ (T ++ drop (at + length T) B) ≡ B = cc in
    ap bytes_of e ∙ bytes_of-bits_of f b

-- the low bits of a byte, put where they stand
pub put_low : (f : List ℕ) (p s w : ℕ) → p < length f → s ≤ 8 → Bytes f → w ≡ get_or f p 0 % 2 ^ s → put_bits f (8 * p) (bits s w) ≡ f
put_low f p s w h l b e =
    let x : ℕ = get_or f p 0 in
    let k : s + (8 - s) ≡ 8 = omega arith in
    let m : bits s w ≡ bits s x = ap (bits s) e ∙ bits_mod s x in
    let t : take s (bits (s + (8 - s)) x) ≡ bits s x = take-bits s (8 - s) x in
    let d : drop (8 * p) (bits_of f) ≡ bits 8 x ++ bits_of (drop (p + 1) f) = bits_of-from f p h in
    let u : take s (bits 8 x ++ bits_of (drop (p + 1) f)) ≡ take s (bits 8 x) = take-append-le s (bits 8 x) (bits_of (drop (p + 1) f)) (omega (arith, length-bits 8 x)) in
    let q : bits s w ≡ take s (drop (8 * p) (bits_of f)) = cc in
    ap (put_bits f (8 * p)) q ∙ put_bits-same f (8 * p) s (omega arith) b

-- two puts in a row are one
pub put_bits-twice : (f : List ℕ) (at : ℕ) (xs ys : List Bool) → at + length xs + length ys ≤ 8 * length f → put_bits (put_bits f at xs) (at + length xs) ys ≡ put_bits f at (xs ++ ys)
unfolding put_bits
put_bits-twice f at xs ys h =
    let b : bits_of (bytes_of (overwritten (bits_of f) at xs)) ≡ overwritten (bits_of f) at xs = bits_of-put_bits f at xs (omega arith) in
    let t = overwritten-twice (bits_of f) at xs ys (omega (arith, length-bits_of f)) in
    cc

-- a field that was put is read back
pub field-put_bits : (f : List ℕ) (at n v : ℕ) → at + n ≤ 8 * length f → field_at (put_bits f at (bits n v)) at n ≡ v % 2 ^ n
unfolding field_at
field-put_bits f at n v h =
    let l = length-bits n v in
    let r = overwritten-read (bits_of f) at (bits n v) (omega (arith, length-bits n v, length-bits_of f)) in
    let b = bits_of-put_bits f at (bits n v) (omega (arith, length-bits n v)) in
    let m = number-bits n v in
    cc

-- and the others are as they were
pub overwritten-before : (old : List Bool) (at b m : ℕ) (new : List Bool) → b + m ≤ at → at ≤ length old → take m (drop b (overwritten old at new)) ≡ take m (drop b old)
unfolding overwritten
overwritten-before old at b m new h l =
    let R : List Bool = new ++ drop (at + length new) old in
    let lt : length (take at old) ≡ at = length-take-le at old l in
    let d : drop b (take at old ++ R) ≡ drop b (take at old) ++ R = drop-append-le b (take at old) R (omega arith) in
    let t : take m (drop b (take at old) ++ R) ≡ take m (drop b (take at old)) = take-append-le m (drop b (take at old)) R (simp length-drop (omega arith)) in
    let e : b + (at - b) ≡ at = omega arith in
    let dt : drop b (take at old) ≡ take (at - b) (drop b old) = rw e at (drop-take b (at - b) old) in
    let tt2 : take m (take (at - b) (drop b old)) ≡ take m (drop b old) = take-take m (at - b) (drop b old) (omega arith) in
    cc

pub overwritten-after : (old : List Bool) (at b : ℕ) (new : List Bool) → at + length new ≤ b → at ≤ length old → drop b (overwritten old at new) ≡ drop b old
unfolding overwritten
overwritten-after old at b new h l =
    let n : ℕ = at + length new in
    let k : ℕ = b - n in
    let e : n + k ≡ b = omega arith in
    let lA : length (take at old ++ new) ≡ n = simp (length-append, length-take) (omega arith) in
    let a : take at old ++ (new ++ drop n old) ≡ (take at old ++ new) ++ drop n old = sym (append_assoc (take at old) new (drop n old)) in
    let d : drop (n + k) ((take at old ++ new) ++ drop n old) ≡ drop k (drop n old) = drop_past (take at old ++ new) (drop n old) n k lA in
    let d2 : drop k (drop n old) ≡ drop (n + k) old = drop-drop k n old in
    cc

pub field-put_bits-before : (f : List ℕ) (at b m : ℕ) (bs : List Bool) → at + length bs ≤ 8 * length f → b + m ≤ at → field_at (put_bits f at bs) b m ≡ field_at f b m
unfolding field_at
field-put_bits-before f at b m bs h l =
    let p = bits_of-put_bits f at bs h in
    let o = overwritten-before (bits_of f) at b m bs l (omega (arith, length-bits_of f)) in
    cc

pub field-put_bits-after : (f : List ℕ) (at b m : ℕ) (bs : List Bool) → at + length bs ≤ 8 * length f → at + length bs ≤ b → field_at (put_bits f at bs) b m ≡ field_at f b m
unfolding field_at
field-put_bits-after f at b m bs h l =
    let p = bits_of-put_bits f at bs h in
    let o = overwritten-after (bits_of f) at b bs l (omega (arith, length-bits_of f)) in
    cc

-- appending, where the rest is zero
zeros : (m : ℕ) → number (bits_of (replicate m 0)) ≡ 0
unfolding bits_of
zeros zero = number-zeros 0
zeros (suc m) = number_append (bits 8 0) (bits_of (replicate m 0)) ∙ omega (arith, ap (λ z. z * 2 ^ length (bits 8 0)) (zeros m), number-bits 8 0)

pub bits_of-zeros : (m : ℕ) → bits_of (replicate m 0) ≡ replicate (8 * m) false
bits_of-zeros m = number-inj (bits_of (replicate m 0)) (replicate (8 * m) false)
    (length-bits_of (replicate m 0) ∙ ap (λ z. 8 * z) (length-replicate m 0) ∙ sym (length-replicate (8 * m) false))
    (zeros m ∙ sym (number-zeros (8 * m)))

pub bits_of-append-put : (f : List ℕ) (w bs : List Bool) (k at : ℕ) → bits_of f ≡ w ++ replicate k false → length w ≡ at → length bs ≤ k → bits_of (put_bits f at bs) ≡ (w ++ bs) ++ replicate (k - length bs) false
unfolding overwritten
bits_of-append-put f w bs k at e l h =
    let n : ℕ = length bs in
    let le : length (bits_of f) ≡ at + k = ap length e ∙ simp (length-append, length-replicate) (ap (λ z. z + k) l) in
    let p : bits_of (put_bits f at bs) ≡ take at (bits_of f) ++ (bs ++ drop (at + n) (bits_of f)) = bits_of-put_bits f at bs (omega (arith, length-bits_of f)) in
    let t : take at (bits_of f) ≡ w = ap (take at) e ∙ take_at w (replicate k false) at l in
    let d : drop (at + n) (bits_of f) ≡ replicate (k - n) false = ap (drop (at + n)) e ∙ drop_past w (replicate k false) at n l ∙ drop-replicate n k false in
    let a = append_assoc w bs (replicate (k - n) false) in
    cc

-- cutting to whole bytes
pub cut-bytes_of : (f : List ℕ) (w : List Bool) (k : ℕ) → Bytes f → bits_of f ≡ w ++ replicate k false → take ((length w + 7) / 8) f ≡ bytes_of w
cut-bytes_of f w k h e =
    let m : ℕ = (length w + 7) / 8 in
    let j : ℕ = (length w + 7) / 8 * 8 - length w in
    let le : length (bits_of f) ≡ length w + k = ap length e ∙ simp (length-append, length-replicate) in
    let lf = length-bits_of f in
    let i : 8 * m ≡ length w + j = omega arith in
    let q : j ≤ k = omega arith in
    let t : take (8 * m) (bits_of f) ≡ bits_of (take m f) = take-bits_of m f (omega arith) in
    let u : take (length w + j) (w ++ replicate k false) ≡ w ++ take j (replicate k false) = take_past w (replicate k false) (length w) j refl in
    let v : take j (replicate k false) ≡ replicate j false = take-replicate j k false q in
    let b : bits_of (bytes_of w) ≡ w ++ replicate j false = bits_of-bytes_of w in
    let s : bits_of (take m f) ≡ bits_of (bytes_of w) = cc in
    bits_of-inj (take m f) (bytes_of w) (Bytes-take m f h) (Bytes-bytes_of w) s

-- a field where the bits before it are known
pub field_of : (f : List ℕ) (w r : List Bool) (at n : ℕ) → bits_of f ≡ w ++ r → length w ≡ at → field_at f at n ≡ number (take n r)
unfolding field_at
field_of f w r at n e l = ap (λ z. number (take n z)) (ap (drop at) e ∙ drop_at w r at l)

pub field_is : (f : List ℕ) (w r : List Bool) (at n v : ℕ) → bits_of f ≡ w ++ (bits n v ++ r) → length w ≡ at → field_at f at n ≡ v % 2 ^ n
field_is f w r at n v e l =
    field_of f w (bits n v ++ r) at n e l ∙ ap number (take_at (bits n v) r n (length-bits n v)) ∙ number-bits n v

-- the bits of a field that is there
pub bits-field : (f : List ℕ) (at n : ℕ) → at + n ≤ 8 * length f → bits n (field_at f at n) ≡ take n (drop at (bits_of f))
unfolding field_at
bits-field f at n h = bits-number-at n (take n (drop at (bits_of f))) (simp (length-take, length-drop, length-bits_of) (omega arith))

-- 32 bits at a byte's place
pub field-four : (f : List ℕ) (p : ℕ) → p + 4 ≤ length f → ((i : ℕ) → get_or f i 0 < 256) → field_at f (8 * p) 32 ≡ get_or f p 0 + get_or f (p + 1) 0 * 256 + get_or f (p + 2) 0 * 65536 + get_or f (p + 3) 0 * 16777216
field-four f p h t =
    let m0 = field_next f p (p + 1) 24 (omega arith) (omega arith) (t p) in
    let m1 = field_next f (p + 1) (p + 2) 16 (omega arith) (omega arith) (t (p + 1)) in
    let m2 = field_next f (p + 2) (p + 3) 8 (omega arith) (omega arith) (t (p + 2)) in
    let m3 = field_next f (p + 3) (p + 4) 0 (omega arith) (omega arith) (t (p + 3)) in
    let z = field_lt f (8 * (p + 4)) 0 in
    omega arith

-- 8, 16 and 24 bits at a byte's place
pub field-one : (f : List ℕ) (p : ℕ) → p + 1 ≤ length f → ((i : ℕ) → get_or f i 0 < 256) → field_at f (8 * p) 8 ≡ get_or f p 0
field-one f p h t =
    let m0 = field_next f p (p + 1) 0 (omega arith) (omega arith) (t p) in
    let z = field_lt f (8 * (p + 1)) 0 in
    omega arith

pub field-two : (f : List ℕ) (p : ℕ) → p + 2 ≤ length f → ((i : ℕ) → get_or f i 0 < 256) → field_at f (8 * p) 16 ≡ get_or f p 0 + get_or f (p + 1) 0 * 256
field-two f p h t =
    let m0 = field_next f p (p + 1) 8 (omega arith) (omega arith) (t p) in
    let m1 = field-one f (p + 1) (omega arith) t in
    omega arith

pub field-three : (f : List ℕ) (p : ℕ) → p + 3 ≤ length f → ((i : ℕ) → get_or f i 0 < 256) → field_at f (8 * p) 24 ≡ get_or f p 0 + get_or f (p + 1) 0 * 256 + get_or f (p + 2) 0 * 65536
field-three f p h t =
    let m0 = field_next f p (p + 1) 16 (omega arith) (omega arith) (t p) in
    let i : p + 1 + 1 ≡ p + 2 = omega arith in
    let m1 = rw i at (field-two f (p + 1) (omega arith) t) in
    omega arith

-- the low bytes of a number
pub bytes-front : (n m : ℕ) (v : ℕ) → n ≤ m → take n (bytes m (bits (8 * m) v)) ≡ bytes n (bits (8 * n) v)
bytes-front n m v h =
    let e : 8 * n + 8 * (m - n) ≡ 8 * m = omega arith in
    let B : List ℕ = bytes m (bits (8 * m) v) in
    let lB : length B ≡ m = length-bytes m (bits (8 * m) v) in
    let t : take (8 * n) (bits_of B) ≡ bits_of (take n B) = take-bits_of n B (omega arith) in
    let c : bits_of B ≡ bits (8 * m) v = bits_of-bytes m (bits (8 * m) v) (length-bits (8 * m) v) in
    let d : take (8 * n) (bits (8 * n + 8 * (m - n)) v) ≡ bits (8 * n) v = take-bits (8 * n) (8 * (m - n)) v in
    let q : bits_of (bytes n (bits (8 * n) v)) ≡ bits (8 * n) v = bits_of-bytes n (bits (8 * n) v) (length-bits (8 * n) v) in
    let s : bits_of (take n B) ≡ bits_of (bytes n (bits (8 * n) v)) = cc in
    bits_of-inj (take n B) (bytes n (bits (8 * n) v)) (Bytes-take n B (bytes-Bytes m (bits (8 * m) v))) (bytes-Bytes n (bits (8 * n) v)) s

-- whole bytes that are put
pub put-stored : (f : List ℕ) (p n v : ℕ) → p + n ≤ length f → Bytes f → put_bits f (8 * p) (bits (8 * n) v) ≡ stored f p n v
put-stored f p n v h b =
    bits_of-inj (put_bits f (8 * p) (bits (8 * n) v)) (stored f p n v) (Bytes-put_bits f (8 * p) (bits (8 * n) v)) (Bytes-stored f p n v b)
    (bits_of-put_bits f (8 * p) (bits (8 * n) v) (omega (arith, length-bits (8 * n) v)) ∙ sym (bits_of-stored f p n v h))

-- ## Clearing

Bytes-zeros : (m : ℕ) → Bytes (replicate m 0)
unfolding Bytes
Bytes-zeros zero = tt
Bytes-zeros (suc m) = (omega arith, Bytes-zeros m)

-- from a whole byte on
pub clear-bytes : (f : List ℕ) (p : ℕ) → p ≤ length f → Bytes f → cleared_from f (8 * p) ≡ take p f ++ replicate (length f - p) 0
unfolding cleared_from overwritten
clear-bytes f p h b =
    let m : ℕ = length f - p in
    let k : ℕ = 8 * length f - 8 * p in
    let lk : length (replicate k false) ≡ k = length-replicate k false in
    let lf = length-bits_of f in
    let e : 8 * m ≡ k = omega arith in
    let t : take (8 * p) (bits_of f) ≡ bits_of (take p f) = take-bits_of p f h in
    let d : drop (8 * p + length (replicate k false)) (bits_of f) ≡ [] = drop_all (8 * p + length (replicate k false)) (bits_of f) (omega arith) in
    let n : replicate k false ++ [] ≡ replicate k false = append-nil (replicate k false) in
    let z : bits_of (replicate m 0) ≡ replicate (8 * m) false = bits_of-zeros m in
    let a : bits_of (take p f ++ replicate m 0) ≡ bits_of (take p f) ++ bits_of (replicate m 0) = bits_of-append (take p f) (replicate m 0) in
    let q : bits_of (take p f ++ replicate m 0) ≡ take (8 * p) (bits_of f) ++ (replicate k false ++ drop (8 * p + length (replicate k false)) (bits_of f)) = cc in
    sym (put_whole f (take p f ++ replicate m 0) (8 * p) (8 * p) (replicate k false)
    (Bytes-append (take p f) (replicate m 0) (Bytes-take p f b) (Bytes-zeros m)) refl q)

-- from within a byte on: that byte's low bits stay
pub clear_within : (f g : List ℕ) (p s r : ℕ) → p < length f → s < 8 → Bytes f → r ≡ get_or f p 0 % 2 ^ s → g ≡ take (p + 1) (set f p r) ++ replicate (length f - (p + 1)) 0 → g ≡ cleared_from f (8 * p + s)
unfolding cleared_from
clear_within f g p s r h l b er eg =
    let x : ℕ = get_or f p 0 in
    let k : ℕ = 8 - s in
    let ls : s + k ≡ 8 = omega arith in
    let lx : x < 2 ^ 8 = Bytes-at f p b in
    let q : x / 2 ^ (s + k) ≡ 0 = ap (λ z. x / 2 ^ z) ls ∙ div-eq_of_lt lx in
    let e : r ≡ (x / 2 ^ (s + k) * 2 ^ k + 0 % 2 ^ k) * 2 ^ s + x % 2 ^ s =
    er ∙ omega (arith, ap (λ z. (z * 2 ^ k + 0 % 2 ^ k) * 2 ^ s) q, ap (λ z. (0 * 2 ^ k + z) * 2 ^ s) (zero-mod (2 ^ k))) in
    let w : bits_of (set f p r) ≡ overwritten (bits_of f) (8 * p + s) (bits k 0) = put_byte f p s k 0 r h (omega arith) e in
    let lr : r < 256 = omega (arith, mod-le x (2 ^ s)) in
    let bs : Bytes (set f p r) = Bytes-set f p r b lr in
    let i : set f p r ≡ put_bits f (8 * p + s) (bits k 0) = put_whole f (set f p r) (8 * p + s) (8 * p + s) (bits k 0) bs refl w in
    let n : length (set f p r) ≡ length f = length-set f p r in
    let c : cleared_from (set f p r) (8 * (p + 1)) ≡ take (p + 1) (set f p r) ++ replicate (length (set f p r) - (p + 1)) 0 = clear-bytes (set f p r) (p + 1) (omega arith) bs in
    let z : bits k 0 ≡ replicate k false = bits-zero k in
    let m : ℕ = 8 * length f - 8 * (p + 1) in
    let lz : length (replicate k false) ≡ k = length-replicate k false in
    let lm : length (replicate m false) ≡ m = length-replicate m false in
    let t : put_bits (put_bits f (8 * p + s) (replicate k false)) (8 * p + s + length (replicate k false)) (replicate m false) ≡ put_bits f (8 * p + s) (replicate k false ++ replicate m false) = put_bits-twice f (8 * p + s) (replicate k false) (replicate m false) (omega arith) in
    let u : replicate k false ++ replicate m false ≡ replicate (k + m) false = replicate-append-replicate k m false in
    let v : k + m ≡ 8 * length f - (8 * p + s) = omega arith in
    let y : 8 * p + s + length (replicate k false) ≡ 8 * (p + 1) = omega arith in
    cc

-- past the end
pub clear_none : (f : List ℕ) (at : ℕ) → 8 * length f ≤ at → Bytes f → f ≡ cleared_from f at
unfolding cleared_from
clear_none f at h b =
    let z : 8 * length f - at ≡ 0 = omega arith in
    sym (ap (λ k. put_bits f at (replicate k false)) z ∙ put_bits-none f at b)
