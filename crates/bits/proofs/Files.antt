-- Files, their bits, and fields in them.
use Rattle.std.proofs.Common.{◌≡◌, ℕ, zero, suc, ◌+◌, ◌-◌, ◌*◌, ◌/◌, ◌%◌, ◌^◌, ◌≤◌, Bool, false, List, [], ◌∷◌, ◌++◌, length, take, drop, replicate, sym, refl, ap, ◌∙◌, append_assoc, mod-eq_of_lt, suc-add, zero-add, arith, length-append, length-drop, length-take, pow_mono}
use native.Mathlib.Nat.{zero-mod}
use Rattle.std.proofs.lemmas.List.{take-append-drop, length-take-le, take_at, drop_at, drop-append-le, drop-drop, take-take, length-replicate}
use Rattle.bits.specs.Bits.{worth, bits, number, bits_of, bytes, bytes_of, overwritten, Bytes}
use Rattle.bits.proofs.Numbers.{number_lt, number_append, length-bits, number-bits, number-inj, bits-number-at, number-take, number-drop}

pub length-bits_of : (f : List ℕ) → length (bits_of f) ≡ 8 * length f
unfolding bits_of
length-bits_of [] = refl
length-bits_of (x ∷ xs) = omega (arith, length-append (bits 8 x) (bits_of xs), length-bits 8 x, length-bits_of xs)

pub bits_of-append : (f g : List ℕ) → bits_of (f ++ g) ≡ bits_of f ++ bits_of g
unfolding bits_of
bits_of-append [] g = refl
bits_of-append (x ∷ xs) g = rw (bits_of-append xs g, append_assoc)

pub take-bits_of : (p : ℕ) (f : List ℕ) → p ≤ length f → take (8 * p) (bits_of f) ≡ bits_of (take p f)
take-bits_of p f h =
    let e : bits_of f ≡ bits_of (take p f) ++ bits_of (drop p f) = ap bits_of (sym (take-append-drop p f)) ∙ bits_of-append (take p f) (drop p f) in
    let l : length (bits_of (take p f)) ≡ 8 * p = length-bits_of (take p f) ∙ ap (λ n. 8 * n) (length-take-le p f h) in
    ap (take (8 * p)) e ∙ take_at (bits_of (take p f)) (bits_of (drop p f)) (8 * p) l

pub drop-bits_of : (p : ℕ) (f : List ℕ) → p ≤ length f → drop (8 * p) (bits_of f) ≡ bits_of (drop p f)
drop-bits_of p f h =
    let e : bits_of f ≡ bits_of (take p f) ++ bits_of (drop p f) = ap bits_of (sym (take-append-drop p f)) ∙ bits_of-append (take p f) (drop p f) in
    let l : length (bits_of (take p f)) ≡ 8 * p = length-bits_of (take p f) ∙ ap (λ n. 8 * n) (length-take-le p f h) in
    ap (drop (8 * p)) e ∙ drop_at (bits_of (take p f)) (bits_of (drop p f)) (8 * p) l

-- bytes of bits, and back
pub length-bytes : (n : ℕ) (bs : List Bool) → length (bytes n bs) ≡ n
unfolding bytes
length-bytes zero bs = refl
length-bytes (suc n) bs = ap suc (length-bytes n (drop 8 bs))

pub bytes-Bytes : (n : ℕ) (bs : List Bool) → Bytes (bytes n bs)
unfolding bytes Bytes
bytes-Bytes zero bs = tt
bytes-Bytes (suc n) bs =
    let l : length (take 8 bs) ≤ 8 = simp length-take (omega arith) in
    (omega (arith, number_lt (take 8 bs), pow_mono l), bytes-Bytes n (drop 8 bs))

pub bits_of-bytes : (n : ℕ) (bs : List Bool) → length bs ≡ 8 * n → bits_of (bytes n bs) ≡ bs
unfolding bits_of bytes
bits_of-bytes zero [] l = refl
bits_of-bytes zero (b ∷ bs) l = absurd (omega arith)
bits_of-bytes (suc n) bs l =
    let t : length (take 8 bs) ≡ 8 = simp length-take (omega arith) in
    let d : length (drop 8 bs) ≡ 8 * n = simp length-drop (omega arith) in
    let a = bits-number-at 8 (take 8 bs) t in
    let b = bits_of-bytes n (drop 8 bs) d in
    let e = take-append-drop 8 bs in
    cc

pub bytes-bits_of : (f : List ℕ) → Bytes f → bytes (length f) (bits_of f) ≡ f
unfolding bits_of bytes Bytes
bytes-bits_of [] h = refl
bytes-bits_of (x ∷ xs) h =
    let t = take_at (bits 8 x) (bits_of xs) 8 (length-bits 8 x) in
    let d = drop_at (bits 8 x) (bits_of xs) 8 (length-bits 8 x) in
    let n = number-bits 8 x in
    let m : x % 256 ≡ x = mod-eq_of_lt h.0 in
    let i = bytes-bits_of xs h.1 in
    cc

pub bits_of-inj : (f g : List ℕ) → Bytes f → Bytes g → bits_of f ≡ bits_of g → f ≡ g
bits_of-inj f g hf hg e =
    let l : length f ≡ length g = omega (arith, length-bits_of f, length-bits_of g, ap length e) in
    let a = bytes-bits_of f hf in
    let b = bytes-bits_of g hg in
    cc

-- number zeros
pub number-zeros : (k : ℕ) → number (replicate k false) ≡ 0
unfolding number worth
number-zeros zero = refl
number-zeros (suc k) = omega (arith, number-zeros k)

pub bits-zero : (j : ℕ) → bits j 0 ≡ replicate j false
bits-zero j = number-inj (bits j 0) (replicate j false) (length-bits j 0 ∙ sym (length-replicate j false)) (number-bits j 0 ∙ zero-mod (2 ^ j) ∙ sym (number-zeros j))

-- the bytes of bits depend on the number that the bits make alone
pub bytes_same : (n : ℕ) (xs ys : List Bool) → number xs ≡ number ys → bytes n xs ≡ bytes n ys
unfolding bytes
bytes_same zero xs ys e = refl
bytes_same (suc n) xs ys e =
    let t : number (take 8 xs) ≡ number (take 8 ys) = number-take 8 xs ∙ ap (λ z. z % 2 ^ 8) e ∙ sym (number-take 8 ys) in
    let d : number (drop 8 xs) ≡ number (drop 8 ys) = number-drop 8 xs ∙ ap (λ z. z / 2 ^ 8) e ∙ sym (number-drop 8 ys) in
    let i = bytes_same n (drop 8 xs) (drop 8 ys) d in
    cc

-- zeros past the end do not matter
pub number-padded : (k : ℕ) (bs : List Bool) → number (bs ++ replicate k false) ≡ number bs
number-padded k bs = number_append bs (replicate k false) ∙ rw number-zeros (omega arith)

pub bytes-padded : (n k : ℕ) (bs : List Bool) → bytes n (bs ++ replicate k false) ≡ bytes n bs
bytes-padded n k bs = bytes_same n (bs ++ replicate k false) bs (number-padded k bs)

pub bits_of-bytes_of : (bs : List Bool) → bits_of (bytes_of bs) ≡ bs ++ replicate ((length bs + 7) / 8 * 8 - length bs) false
unfolding bytes_of
bits_of-bytes_of bs =
    let n : ℕ = (length bs + 7) / 8 in
    let k : ℕ = n * 8 - length bs in
    let l : length (bs ++ replicate k false) ≡ 8 * n = simp (length-append, length-replicate) (omega arith) in
    ap bits_of (sym (bytes-padded n k bs)) ∙ bits_of-bytes n (bs ++ replicate k false) l

pub bytes_of-bits_of : (f : List ℕ) → Bytes f → bytes_of (bits_of f) ≡ f
unfolding bytes_of
bytes_of-bits_of f h =
    let l : (length (bits_of f) + 7) / 8 ≡ length f = omega (arith, length-bits_of f) in
    let a = bytes-bits_of f h in
    cc

-- overwriting
pub length-overwritten : (old : List Bool) (at : ℕ) (new : List Bool) → at + length new ≤ length old → length (overwritten old at new) ≡ length old
unfolding overwritten
length-overwritten old at new h = simp (length-append, length-take, length-drop) (omega arith)

pub drop_past : {X : Type 0} (p q : List X) (n k : ℕ) → length p ≡ n → drop (n + k) (p ++ q) ≡ drop k q
drop_past p q n k l = sym (drop-drop k n (p ++ q)) ∙ ap (drop k) (drop_at p q n l)

pub take_past : {X : Type 0} (p q : List X) (n k : ℕ) → length p ≡ n → take (n + k) (p ++ q) ≡ p ++ take k q
take_past [] q zero k l = rw zero-add refl
take_past [] q (suc n) k l = absurd (omega arith)
take_past (x ∷ p) q zero k l = absurd (omega arith)
take_past (x ∷ p) q (suc n) k l = let h : length p ≡ n = omega arith in rw suc-add (ap (λ z. x ∷ z) (take_past p q n k h))

pub take-add : {X : Type 0} (m n : ℕ) (xs : List X) → m ≤ length xs → take (m + n) xs ≡ take m xs ++ take n (drop m xs)
take-add m n xs h =
    ap (take (m + n)) (sym (take-append-drop m xs)) ∙ take_past (take m xs) (drop m xs) m n (length-take-le m xs h)

pub overwritten-twice : (old : List Bool) (at : ℕ) (xs ys : List Bool) → at + length xs + length ys ≤ length old → overwritten (overwritten old at xs) (at + length xs) ys ≡ overwritten old at (xs ++ ys)
unfolding overwritten
overwritten-twice old at xs ys h =
    let A : List Bool = take at old in
    let R : List Bool = drop (at + length xs) old in
    let l : length (A ++ xs) ≡ at + length xs = simp (length-append, length-take) (omega arith) in
    let e : A ++ (xs ++ R) ≡ (A ++ xs) ++ R = sym (append_assoc A xs R) in
    let t : take (at + length xs) (A ++ (xs ++ R)) ≡ A ++ xs = ap (take (at + length xs)) e ∙ take_at (A ++ xs) R (at + length xs) l in
    let d : drop (at + length xs + length ys) (A ++ (xs ++ R)) ≡ drop (at + length xs + length ys) old
    = ap (drop (at + length xs + length ys)) e ∙ drop_past (A ++ xs) R (at + length xs) (length ys) l ∙ drop-drop (length ys) (at + length xs) old in
    let n : at + length (xs ++ ys) ≡ at + length xs + length ys = simp length-append (omega arith) in
    let a1 = append_assoc A xs (ys ++ drop (at + length xs + length ys) old) in
    let a2 = append_assoc xs ys (drop (at + length xs + length ys) old) in
    cc

within-parts : (old : List Bool) (a k s : ℕ) (new T : List Bool) → length (overwritten T s new) ≡ k → take s T ≡ take s (drop a old) → take (a + s) old ≡ take a old ++ take s (drop a old)
    → drop (a + s + length new) old ≡ drop (s + length new) T ++ drop (a + k) old → overwritten old a (overwritten T s new) ≡ overwritten old (a + s) new
unfolding overwritten
within-parts old a k s new T li t1 t2 d =
    let a1 = append_assoc (take s T) (new ++ drop (s + length new) T) (drop (a + k) old) in
    let a2 = append_assoc new (drop (s + length new) T) (drop (a + k) old) in
    let a3 = append_assoc (take a old) (take s (drop a old)) (new ++ drop (a + s + length new) old) in
    cc

pub overwritten-within : (old : List Bool) (a k s : ℕ) (new : List Bool) → s + length new ≤ k → a + k ≤ length old → overwritten old a (overwritten (take k (drop a old)) s new) ≡ overwritten old (a + s) new
overwritten-within old a k s new h l =
    let T : List Bool = take k (drop a old) in
    let lT : length T ≡ k = simp (length-take, length-drop) (omega arith) in
    let li : length (overwritten T s new) ≡ k = length-overwritten T s new (omega arith) ∙ lT in
    let t1 : take s T ≡ take s (drop a old) = take-take s k (drop a old) (omega arith) in
    let t2 : take (a + s) old ≡ take a old ++ take s (drop a old) = take-add a s old (omega arith) in
    let d0 : drop a old ≡ T ++ drop (a + k) old = sym (take-append-drop k (drop a old)) ∙ ap (λ z. T ++ z) (drop-drop k a old) in
    let d1 : drop (s + length new) (drop a old) ≡ drop (s + length new) T ++ drop (a + k) old
    = ap (drop (s + length new)) d0 ∙ drop-append-le (s + length new) T (drop (a + k) old) (omega arith) in
    let d2 : drop (s + length new) (drop a old) ≡ drop (a + s + length new) old = drop-drop (s + length new) a old ∙ ap (λ z. drop z old) (omega arith) in
    within-parts old a k s new T li t1 t2 (sym d2 ∙ d1)

pub overwritten-read : (old : List Bool) (at : ℕ) (new : List Bool) → at + length new ≤ length old → take (length new) (drop at (overwritten old at new)) ≡ new
unfolding overwritten
overwritten-read old at new h =
    let l : length (take at old) ≡ at = length-take-le at old (omega arith) in
    ap (take (length new)) (drop_at (take at old) (new ++ drop (at + length new) old) at l)
    ∙ take_at new (drop (at + length new) old) (length new) refl
