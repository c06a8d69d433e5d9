-- Raw words, one by one and all together.
use Rattle.std.proofs.Common.{◌≡◌, ℕ, zero, suc, ◌+◌, ◌-◌, ◌*◌, ◌/◌, ◌<◌, ◌≤◌, List, [], ◌∷◌, length, get_or, take, drop, sym, refl, ap, ◌∙◌, append-nil, mul-zero, mul-suc, arith, length-append, length-drop, length-take}
use native.Mathlib.Nat.{div-eq_of_lt, div-eq-sub-div}
use Rattle.std.proofs.Math.Nat.{mul-div_cancel_left}
use Rattle.std.proofs.Math.Seq.{take-add}
use Rattle.std.proofs.lemmas.List.{drop-drop, drop-take, take_at}
use Rattle.bits.specs.Bits.{bits, number, bits_of, bytes, field_at, Bytes}
use Rattle.bits.specs.Raw.{raw_words, raw_bytes, words_in}
use Rattle.bits.proofs.Files.{length-bits_of, take-bits_of, drop-bits_of, length-bytes}
use Rattle.bits.proofs.Fields.{Bytes-take, Bytes-drop}
use Rattle.bits.proofs.Places.{Bytes-at, field-eight}

pub length-raw_words : (k n : ℕ) (raw : List ℕ) → length (raw_words k n raw) ≡ n
unfolding raw_words
length-raw_words k zero raw = refl
length-raw_words k (suc n) raw = ap suc (length-raw_words k n (drop k raw))

pub length-raw_bytes : (k : ℕ) (xs : List ℕ) → length (raw_bytes k xs) ≡ k * length xs
unfolding raw_bytes
length-raw_bytes k [] = sym (mul-zero k)
length-raw_bytes k (x ∷ xs) = omega (arith, length-append (bytes k (bits (8 * k) x)) (raw_bytes k xs), length-bytes k (bits (8 * k) x), length-raw_bytes k xs, mul-suc k (length xs))

-- a field of what is left
pub field-drop : (raw : List ℕ) (p at n : ℕ) → p ≤ length raw → field_at (drop p raw) at n ≡ field_at raw (8 * p + at) n
unfolding field_at
field-drop raw p at n h =
    ap (λ z. number (take n (drop at z))) (sym (drop-bits_of p raw h)) ∙ ap (λ z. number (take n z)) (drop-drop at (8 * p) (bits_of raw))

-- the word at an index
pub word_at : (k n : ℕ) (raw : List ℕ) (i : ℕ) → i < n → k * n ≤ length raw → get_or (raw_words k n raw) i 0 ≡ field_at raw (8 * (k * i)) (8 * k)
unfolding raw_words
word_at k zero raw i h l = absurd (omega arith)
word_at k (suc n) raw zero h l = ap (λ z. field_at raw z (8 * k)) (omega (arith, mul-zero k))
word_at k (suc n) raw (suc i) h l =
    let m : k * suc n ≡ k * n + k = mul-suc k n in
    let j : k * suc i ≡ k * i + k = mul-suc k i in
    let d : k * n ≤ length (drop k raw) = simp length-drop (omega arith) in
    word_at k n (drop k raw) i (omega arith) d ∙ field-drop raw k (8 * (k * i)) (8 * k) (omega arith) ∙ ap (λ z. field_at raw z (8 * k)) (omega arith)

-- A part of a file
module _ (f : List ℕ) (p n : ℕ) (h : p + n ≤ length f) where
  pub part_length : length (take n (drop p f)) ≡ n
  part_length = simp (length-take, length-drop) (omega arith)

  -- a field is that of the part
  pub field-part : field_at (take n (drop p f)) 0 (8 * n) ≡ field_at f (8 * p) (8 * n)
  unfolding field_at
  field-part =
      let l : n ≤ length (drop p f) = simp length-drop (omega arith) in
      let a : take (8 * n) (bits_of (drop p f)) ≡ bits_of (take n (drop p f)) = take-bits_of n (drop p f) l in
      let b : drop (8 * p) (bits_of f) ≡ bits_of (drop p f) = drop-bits_of p f (omega arith) in
      let k : length (bits_of (take n (drop p f))) ≡ 8 * n = length-bits_of (take n (drop p f)) ∙ ap (λ z. 8 * z) part_length in
      let c : take (8 * n) (bits_of (take n (drop p f))) ≡ bits_of (take n (drop p f)) = ap (take (8 * n)) (sym (append-nil (bits_of (take n (drop p f))))) ∙ take_at (bits_of (take n (drop p f))) [] (8 * n) k in
      ap number (c ∙ sym a ∙ ap (take (8 * n)) (sym b))

-- eight bytes of a part, as one number
pub part-eight : (f a : List ℕ) (p n : ℕ) → p + 8 ≤ length f → Bytes f → n ≡ 8 → a ≡ take n (drop p f) → (v : ℕ) → v ≡ get_or a 0 0 + get_or a 1 0 * 256 + get_or a 2 0 * 65536 + get_or a 3 0 * 16777216 + get_or a 4 0 * 4294967296 + get_or a 5 0 * 1099511627776 + get_or a 6 0 * 281474976710656 + get_or a 7 0 * 72057594037927936 → v ≡ field_at f (8 * p) 64
part-eight f a p n h t m e v w =
    let k : a ≡ take 8 (drop p f) = e ∙ ap (λ z. take z (drop p f)) m in
    let l : length a ≡ 8 = ap length k ∙ part_length f p 8 h in
    let b : Bytes a = rw k (Bytes-take 8 (drop p f) (Bytes-drop p f t)) in
    w ∙ field-eight a 0 (omega arith) (λ i. Bytes-at a i b) ∙ ap (λ z. field_at z 0 64) k ∙ field-part f p 8 h

-- the whole words of raw bytes: none where a word does not fit, and else the first and those behind it
pub words-none : (k : ℕ) (raw : List ℕ) → length raw < k → words_in k raw ≡ []
unfolding raw_words
words-none k raw h = ap (λ n. raw_words k n raw) (div-eq_of_lt h)

pub words_more : (k : ℕ) (raw : List ℕ) → 1 ≤ k → k ≤ length raw → words_in k raw ≡ field_at raw 0 (8 * k) ∷ words_in k (drop k raw)
unfolding raw_words
words_more k raw s h =
    let d : length raw - k ≡ length (drop k raw) = simp length-drop refl in
    ap (λ z. raw_words k z raw) (div-eq-sub-div s h ∙ add-one ((length raw - k) / k)) ∙ ap (λ z. field_at raw 0 (8 * k) ∷ raw_words k (z / k) (drop k raw)) d
  where
    add-one : (n : ℕ) → n + 1 ≡ suc n
    add-one n = omega arith

-- the first n words
first-words : (k n : ℕ) (raw : List ℕ) → k * n ≤ length raw → raw_words k n (take (k * n) raw) ≡ raw_words k n raw
unfolding raw_words
first-words k zero raw h = refl
first-words k (suc n) raw h =
    let m : k * suc n ≡ k + k * n = omega (arith, mul-suc k n) in
    let l : k + k * n ≤ length raw = omega arith in
    let T : List ℕ = take (k + k * n) raw in
    let lT : length T ≡ k + k * n = simp length-take (omega arith) in
    let a : take k T ≡ take k raw = ap (take k) (take-add k (k * n) raw) ∙ take_at (take k raw) (take (k * n) (drop k raw)) k (simp length-take (omega arith)) in
    let f : field_at T 0 (8 * k) ≡ field_at raw 0 (8 * k) = sym (field-part T 0 k (omega arith)) ∙ ap (λ z. field_at z 0 (8 * k)) a ∙ field-part raw 0 k (omega arith) in
    let d : drop k T ≡ take (k * n) (drop k raw) = drop-take k (k * n) raw in
    let r = first-words k n (drop k raw) (simp length-drop (omega arith)) in
    ap (λ z. raw_words k (suc n) (take z raw)) m ∙ ap (λ z. z ∷ raw_words k n (drop k T)) f ∙ ap (λ z. field_at raw 0 (8 * k) ∷ z) (ap (raw_words k n) d ∙ r)

pub words_in-first : (k n : ℕ) (raw : List ℕ) → 1 ≤ k → k * n ≤ length raw → words_in k (take (k * n) raw) ≡ raw_words k n raw
words_in-first k n raw s h =
    let l : length (take (k * n) raw) ≡ k * n = simp length-take (omega arith) in
    ap (λ z. raw_words k (z / k) (take (k * n) raw)) l ∙ ap (λ z. raw_words k z (take (k * n) raw)) (mul-div_cancel_left n s) ∙ first-words k n raw h
