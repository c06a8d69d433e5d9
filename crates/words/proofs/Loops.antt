-- A loop that reads words and puts them as raw bytes.
use Rattle.std.proofs.Common.{◌≡◌, ℕ, suc, ◌+◌, ◌-◌, ◌*◌, ◌<◌, ◌≤◌, Bool, true, false, cond, leb, List, length, sym, ap, ◌∙◌, arith}
use Rattle.std.proofs.lemmas.Bool.Decides.{nat_tests}
use Rattle.std.proofs.lemmas.Bool.{le-leb, lt-leb}
use Rattle.bits.specs.Bits.{bits, bits_of, put_bits}
use Rattle.fields.specs.Fields.{is_raw}
use Rattle.forms.specs.Code.{Code}
use Rattle.forms.specs.Coding.{Coding}
use Rattle.faults.specs.Faults as answers
use Rattle.faults.specs.Faults.{gives}
use Rattle.coder.specs.Steps.{take_answer}
use Rattle.format.specs.Format.{Outcome, got, fault}
use Rattle.format.specs.Word.{word}
use Rattle.layout.specs.Slim.{most_bytes}
use Rattle.words.specs.Spread.{spread, coder_spread}
use Rattle.words.proofs.Passing.{took, took-not}

-- a raw word that was put, and one that was not
raw-fits : (to k len : ℕ) → true ≡ is_raw to k len → to + k ≤ len
raw-fits to k len h = grind (arith, nat_tests)

raw-passes : (to k len : ℕ) → 1 ≤ k → k ≤ 4 → false ≡ is_raw to k len → len < to + k
raw-passes to k len a b h = grind (arith, nat_tests)

module _ {M : Type 0} (code : M → Code) (step : M → ℕ → M) (size : M → ℕ) (f : List ℕ) (n : ℕ) where
  -- one word read, and the others
  abbrev next : ℕ → M → List ℕ → ℕ → Bool → Outcome ℕ → Bool × List ℕ
  next j m out to b o =
      elim o [
        | got x p l ↦ cond b (spread code step size f j (step m x) p (put_bits out (8 * to) (bits (8 * size m) x)) (to + size m)) (false, out)
        | fault i p ↦ (false, out)
      ]

  module _ (i : ℕ) (m : M) (at : ℕ) (out : List ℕ) (to : ℕ) (h : i < n) where
    steps : spread code step size f (n - i) m at out to ≡ next (n - (i + 1)) m out to (leb (to + size m) (length out)) ((word (code m)).reads (bits_of f) at 0)
    unfolding spread
    steps = let j : n - i ≡ suc (n - (i + 1)) = omega arith in ap (λ z. spread code step size f z m at out to) j

    pub spread-fault : (x y : ℕ) → (word (code m)).reads (bits_of f) at 0 ≡ fault x y → (false, out) ≡ spread code step size f (n - i) m at out to
    spread-fault x y e = sym (steps ∙ ap (next (n - (i + 1)) m out to (leb (to + size m) (length out))) e)

    -- a word, and whether its raw bytes were put
    module _ (x p l : ℕ) (e : (word (code m)).reads (bits_of f) at 0 ≡ got x p l) (q k : ℕ) (place : q ≡ to) (wide : k ≡ size m) (some : 1 ≤ k) (most : k ≤ 4)
        (r : Bool) (now : List ℕ) (is : r ≡ is_raw q k (length out)) (puts : now ≡ cond (is_raw q k (length out)) (put_bits out (8 * q) (bits (8 * k) x)) out) where
      pub spread-more : true ≡ r → (spread code step size f (n - (i + 1)) (step m x) p now (to + k) ≡ spread code step size f (n - i) m at out to) × (to + k ≤ length out)
      spread-more t =
          let b : q + k ≤ length out = raw-fits q k (length out) (t ∙ is) in
          let c : to + size m ≤ length out = omega arith in
          let w : now ≡ put_bits out (8 * to) (bits (8 * size m) x) =
          puts ∙ ap (λ z. cond z (put_bits out (8 * q) (bits (8 * k) x)) out) (sym (t ∙ is)) ∙ ap (λ z. put_bits out (8 * z) (bits (8 * k) x)) place ∙ ap (λ z. put_bits out (8 * to) (bits (8 * z) x)) wide in
          let S : List ℕ → ℕ → Bool × List ℕ = λ o z. spread code step size f (n - (i + 1)) (step m x) p o (to + z) in (
            ap (λ z. S now z) wide ∙ ap (λ z. S z (size m)) w
                ∙ sym (steps ∙ ap (next (n - (i + 1)) m out to (leb (to + size m) (length out))) e ∙ ap (λ z. next (n - (i + 1)) m out to z (got x p l)) (le-leb (to + size m) (length out) c)),
            omega arith,
          )

      pub spread-full : false ≡ r → (false, now) ≡ spread code step size f (n - i) m at out to
      spread-full t =
          let b : length out < q + k = raw-passes q k (length out) some most (t ∙ is) in
          let c : length out < to + size m = omega arith in
          let w : now ≡ out = puts ∙ ap (λ z. cond z (put_bits out (8 * q) (bits (8 * k) x)) out) (sym (t ∙ is)) in
          ap (λ z. (false, z)) w ∙ sym (steps ∙ ap (next (n - (i + 1)) m out to (leb (to + size m) (length out))) e ∙ ap (λ z. next (n - (i + 1)) m out to z (got x p l)) (lt-leb (to + size m) (length out) c))

  pub spread_end : (i : ℕ) (m : M) (at : ℕ) (out : List ℕ) (to : ℕ) → n ≤ i → (true, out) ≡ spread code step size f (n - i) m at out to
  unfolding spread
  spread_end i m at out to h = let j : n - i ≡ 0 = omega arith in sym (ap (λ z. spread code step size f z m at out to) j)

-- ## The words of one coder

module _ (C : Coding (ℕ × Unit {0})) (k : ℕ) (f : List ℕ) (n : ℕ) where
  -- n words that are left
  abbrev pub left : ℕ → ℕ → ℕ → List ℕ → ℕ → Bool × List ℕ
  left j m at out to = spread C.code C.after (λ m. k) f j (m, tt) at out to

  module _ (i m at : ℕ) (out : List ℕ) (to : ℕ) (h : i < n) (q : ℕ) (same : q ≡ at) where
    pub coder_fault : (x y : ℕ) → answers.fault x y ≡ take_answer C (m, tt) f q → (false, out) ≡ left (n - i) m at out to
    coder_fault x y e =
        spread-fault C.code C.after (λ m. k) f n i (m, tt) at out to h x y (ap (λ z. (word (C.code (m, tt))).reads (bits_of f) z 0) (sym same) ∙ took-not C (m, tt) f q x y 0 e)

    module _ (x len : ℕ) (next : ℕ × Unit {0}) (e : gives (x, len, next) ≡ take_answer C (m, tt) f q) (p s : ℕ) (place : p ≡ to) (wide : s ≡ k) (some : 1 ≤ s) (most : s ≤ 4)
        (r : Bool) (now : List ℕ) (is : r ≡ is_raw p s (length out)) (puts : now ≡ cond (is_raw p s (length out)) (put_bits out (8 * p) (bits (8 * s) x)) out) where
      reads : (word (C.code (m, tt))).reads (bits_of f) at 0 ≡ got x (at + len) at
      reads = ap (λ z. (word (C.code (m, tt))).reads (bits_of f) z 0) (sym same) ∙ (took C (m, tt) f q x len next 0 e).0 ∙ ap (λ z. got x (z + len) z) same

      pub coder_more : true ≡ r → (left (n - (i + 1)) next.0 (at + len) now (to + s) ≡ left (n - i) m at out to) × (to + s ≤ length out)
      coder_more t =
          let (a, b) = spread-more C.code C.after (λ m. k) f n i (m, tt) at out to h x (at + len) at reads p s place wide some most r now is puts t in
          (ap (λ z. left (n - (i + 1)) z.0 (at + len) now (to + s)) (took C (m, tt) f q x len next 0 e).1 ∙ a, b)

      pub coder_full : false ≡ r → (false, now) ≡ left (n - i) m at out to
      coder_full t = spread-full C.code C.after (λ m. k) f n i (m, tt) at out to h x (at + len) at reads p s place wide some most r now is puts t

  pub coder_end : (i m at : ℕ) (out : List ℕ) (to : ℕ) → n ≤ i → (true, out) ≡ left (n - i) m at out to
  coder_end i m at out to h = spread_end C.code C.after (λ m. k) f n i (m, tt) at out to h

  pub coder_all : (p q a b : ℕ) (out : List ℕ) → p ≡ a → q ≡ b → length f ≤ 16777216 → left n 0 p out q ≡ coder_spread C k f a n out b
  coder_all p q a b out u v h =
      ap (λ z. left n 0 z out q) u ∙ ap (left n 0 a out) v ∙ sym (ap (λ t. cond t (left n 0 a out b) (false, out)) (le-leb (length f) most_bytes h))
