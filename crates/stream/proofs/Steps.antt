-- The loop over the words, one step and all together.
use Rattle.std.proofs.Common.{◌≡◌, ℕ, ◌+◌, ◌*◌, ◌/◌, ◌<◌, ◌≤◌, Bool, true, false, cond, ◌||◌, ltb, leb, List, [], ◌∷◌, length, Some, None, Option, sym, ap, ◌∙◌, mul-le-mul_left, arith}
use native.Mathlib.Nat.{mul-div-le}
use Rattle.std.proofs.lemmas.Bool.{lt-ltb, le-ltb, le-leb}
use Rattle.std.proofs.lemmas.Bool.Decides.{nat_tests}
use Rattle.bits.specs.Bits.{bits, put_bits}
use Rattle.bits.specs.Raw.{raw_words}
use Rattle.bits.proofs.Numbers.{length-bits}
use Rattle.fields.specs.Fields.{is_field}
use Rattle.forms.specs.Coding.{Coding, encoded}
use Rattle.layout.specs.Slim.{most_bytes}
use Rattle.calls.specs.Calls.{form_in, memory_of}
use Rattle.stream.specs.Stream.{Stream, stopped, streamed, unfit, put_stream}

-- so many words lie within the raw bytes
pub words-within : (n size l : ℕ) → n ≤ l / size → size * n ≤ l
words-within n size l b = omega (arith, mul-le-mul_left size b, mul-div-le l size)

-- ## One word

module _ (C : Coding (ℕ × Unit {0})) (len x : ℕ) (xs ys : List ℕ) (is : ys ≡ x ∷ xs) (i m : ℕ) (at : ℕ) (b : List ℕ) where
  -- by what the coder answers
  next : Option (List Bool × (ℕ × Unit {0})) → Stream
  next o =
      elim (stopped len at o) [
        | None ↦ streamed C len (i + 1) (memory_of o) (at + length (form_in o)) (put_bits b at (form_in o)) xs
        | Some f ↦ record { words = i; at = at; memory = m; fault = Some f; bytes = b }
      ]

  steps : (o : Option (List Bool × (ℕ × Unit {0}))) → o ≡ encoded C (m, tt) x → streamed C len i m at b ys ≡ next o
  unfolding streamed next
  steps o e = ap (streamed C len i m at b) is ∙ ap next (sym e)

  -- no form
  pub stop-none : None ≡ encoded C (m, tt) x → streamed C len i m at b ys ≡ record { words = i; at = at; memory = m; fault = Some 7; bytes = b }
  unfolding next
  stop-none e = steps None e

  module _ (n v : ℕ) (k : ℕ × Unit {0}) (e : Some (bits n v, k) ≡ encoded C (m, tt) x) where
    -- by whether the form passes the end
    chosen : Bool → Stream
    chosen t =
        elim (cond {A = Option ℕ} t (Some 2) None) [
          | None ↦ streamed C len (i + 1) k.0 (at + length (bits n v)) (put_bits b at (bits n v)) xs
          | Some f ↦ record { words = i; at = at; memory = m; fault = Some f; bytes = b }
        ]

    chooses : (t : Bool) → ltb (8 * len) (at + n) ≡ t → streamed C len i m at b ys ≡ chosen t
    unfolding next chosen
    chooses t d = steps (Some (bits n v, k)) e ∙ ap (λ z. chosen (ltb (8 * len) (at + z))) (length-bits n v) ∙ ap chosen d

    -- no room
    pub stop-room : 8 * len < at + n → streamed C len i m at b ys ≡ record { words = i; at = at; memory = m; fault = Some 2; bytes = b }
    unfolding chosen
    stop-room r = chooses true (lt-ltb (8 * len) (at + n) r)

    pub goes_on-is : at + n ≤ 8 * len → streamed C len i m at b ys ≡ streamed C len (i + 1) k.0 (at + n) (put_bits b at (bits n v)) xs
    unfolding chosen
    goes_on-is r = chooses false (le-ltb (8 * len) (at + n) r) ∙ ap (λ z. streamed C len (i + 1) k.0 (at + z) (put_bits b at (bits n v)) xs) (length-bits n v)

-- no word is left
pub stream_all : (C : Coding (ℕ × Unit {0})) (len n m at : ℕ) (b ys : List ℕ) → ys ≡ [] → streamed C len n m at b ys ≡ record { words = n; at = at; memory = m; fault = None; bytes = b }
unfolding streamed
stream_all C len n m at b ys h = ap (streamed C len n m at b) h

-- ## With the bits that wait

-- a field that was put, and one that was not
put_fits : (at n len : ℕ) → true ≡ is_field at n len → at + n ≤ 8 * len
put_fits at n len h = grind (arith, nat_tests)

put-passes : (at n len : ℕ) → n ≤ 64 → false ≡ is_field at n len → 8 * len < at + n
put-passes at n len s h = grind (arith, nat_tests)

module _ (C : Coding (ℕ × Unit {0})) (len x : ℕ) (xs ys : List ℕ) (is : ys ≡ x ∷ xs) (i m : ℕ) (at E : ℕ) (H : List ℕ) (L : Stream) (same : at ≡ E) (inv : streamed C len i m at H ys ≡ L)
    (n v : ℕ) (k : ℕ × Unit {0}) (e : Some (bits n v, k) ≡ encoded C (m, tt) x) (r : Bool) (J : List ℕ) (F : ℕ) (p : r ≡ is_field E n len) (j : J ≡ cond r (put_bits H E (bits n v)) H) (f : F ≡ cond r (E + n) E) where
  pub push-more : true ≡ r → (streamed C len (i + 1) k.0 (at + n) J xs ≡ L) × (at + n ≡ F) × (at + n ≤ 8 * len)
  push-more t =
      let b : E + n ≤ 8 * len = put_fits E n len (t ∙ p) in
      let a : at + n ≤ 8 * len = omega arith in
      let q : J ≡ put_bits H at (bits n v) = j ∙ ap (λ z. cond z (put_bits H E (bits n v)) H) (sym t) ∙ ap (λ z. put_bits H z (bits n v)) (sym same) in
      let u : F ≡ E + n = f ∙ ap (λ z. cond z (E + n) E) (sym t) in
      (ap (λ z. streamed C len (i + 1) k.0 (at + n) z xs) q ∙ sym (goes_on-is C len x xs ys is i m at H n v k e a) ∙ inv, omega arith, a)

  pub push-stop : n ≤ 64 → false ≡ r → (L ≡ record { words = i; at = at; memory = m; fault = Some 2; bytes = J }) × (F ≡ at)
  push-stop s t =
      let b : 8 * len < E + n = put-passes E n len s (t ∙ p) in
      let q : J ≡ H = j ∙ ap (λ z. cond z (put_bits H E (bits n v)) H) (sym t) in
      let u : F ≡ E = f ∙ ap (λ z. cond z (E + n) E) (sym t) in
      (sym inv ∙ stop-room C len x xs ys is i m at H n v k e (omega arith) ∙ ap (λ z. record { words = i; at = at; memory = m; fault = Some 2; bytes = z }) (sym q), omega arith)

-- ## The end

-- nothing is unfit
pub fit : (size raw count at len : ℕ) → len ≤ most_bytes → at ≤ 8 * len → count ≤ raw / size → unfit size raw count at len ≡ false
fit size raw count at len a b c = go (raw / size) c
  where
    go : (w : ℕ) → count ≤ w → (ltb most_bytes len || (ltb (8 * len) at || ltb w count)) ≡ false
    go w d = ap (λ z. z || (ltb (8 * len) at || ltb w count)) (le-ltb most_bytes len a) ∙ ap (λ z. z || ltb w count) (le-ltb (8 * len) at b) ∙ le-ltb w count d

-- what was put, and the bits that waited are written
pub ended : (C : Coding (ℕ × Unit {0})) (k size m : ℕ) (raw : List ℕ) (count at start : ℕ) (b : List ℕ) → size ≡ k → length b ≤ most_bytes → at ≤ 8 * length b → count ≤ length raw / size → start ≡ at →
    (i p e m' F : ℕ) (f : Option ℕ) (H new old : List ℕ) → p ≡ e → F ≡ e → e ≤ 8 * length b → length old ≡ length b → new ≡ cond (leb F (8 * length old)) H old →
    streamed C (length b) 0 m start b (raw_words k count raw) ≡ record { words = i; at = e; memory = m'; fault = f; bytes = H } →
    record { words = i; at = p; memory = m'; fault = f; bytes = new } ≡ put_stream C k m raw count at b
ended C k size m raw count at start b s few in' enough st i p e m' F f H new old pe fe el ol w r =
    let t : leb F (8 * length old) ≡ true = le-leb F (8 * length old) (omega arith) in
    let n : new ≡ H = w ∙ ap (λ z. cond z H old) t in
    let u : unfit k (length raw) count at (length b) ≡ false = fit k (length raw) count at (length b) few in' (rw (← s) enough) in
    ap (λ z. record { words = i; at = z; memory = m'; fault = f; bytes = new }) pe ∙ ap (λ z. record { words = i; at = e; memory = m'; fault = f; bytes = z }) n ∙ sym r
    ∙ ap (λ z. streamed C (length b) 0 m z b (raw_words k count raw)) st
    ∙ sym (ap (λ z. cond z (record { words = 0; at = at; memory = m; fault = Some 1; bytes = b }) (streamed C (length b) 0 m at b (raw_words k count raw))) u)
