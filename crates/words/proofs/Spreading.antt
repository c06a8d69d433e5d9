-- The words that are spread are those that are read and fit.
use Rattle.std.proofs.Common.{◌≡◌, ℕ, zero, suc, ◌+◌, ◌-◌, ◌*◌, ◌<◌, ◌≤◌, Bool, true, false, cond, eqb, leb, List, [], ◌∷◌, ◌++◌, length, sym, refl, ap, ◌∙◌, ⊎_elim, arith, length-append}
use Rattle.std.proofs.lemmas.Bool.{le-leb, lt-leb, leb-true, cases_lt, cases_eq, eq-eqb, ne_eqb}
use Rattle.bits.specs.Bits.{bits, bytes, bits_of, put_bits, Bytes}
use Rattle.bits.proofs.Files.{length-bytes, length-bits_of, bits_of-append, bits_of-bytes}
use Rattle.bits.proofs.Numbers.{length-bits}
use Rattle.bits.proofs.Laws.{Bytes-put_bits, length-put_bits, put_bits-none, put_bits-twice}
use Rattle.format.specs.Format.{Outcome, got, fault}
use Rattle.format.specs.Word.{word}
use Rattle.layout.specs.Recording.{Channel}
use Rattle.layout.specs.Channels.{code_at}
use Rattle.layout.specs.Turns.{Spot, Turn, channel_of, memory_of, word_bytes, advance, next_turn, raw_bytes}
use Rattle.layout.proofs.Spots.{Inside, advance-inside}
use Rattle.frames.proofs.Counts.{SomeBytes}
use Rattle.words.specs.Words.{word_next}
use Rattle.words.specs.Spread.{raw_of, fitting, spread, turn_spread}

-- ## Raw bytes

pub raw-length : (cs : List Channel) (s : Spot) (xs : List ℕ) → length (raw_of cs s xs) ≡ raw_bytes cs s (length xs)
unfolding raw_of raw_bytes
raw-length cs s [] = refl
raw-length cs s (x ∷ xs) =
    length-append (bytes (word_bytes cs s) (bits (8 * word_bytes cs s) x)) (raw_of cs (advance cs s) xs)
    ∙ ap (λ z. z + length (raw_of cs (advance cs s) xs)) (length-bytes (word_bytes cs s) (bits (8 * word_bytes cs s) x)) ∙ ap (λ z. word_bytes cs s + z) (raw-length cs (advance cs s) xs)

-- the bits of a word and of others
raw-bits : (cs : List Channel) (s : Spot) (x : ℕ) (xs : List ℕ) → bits_of (raw_of cs s (x ∷ xs)) ≡ bits (8 * word_bytes cs s) x ++ bits_of (raw_of cs (advance cs s) xs)
unfolding raw_of
raw-bits cs s x xs =
    let k = word_bytes cs s in
    bits_of-append (bytes k (bits (8 * k) x)) (raw_of cs (advance cs s) xs) ∙ ap (λ z. z ++ bits_of (raw_of cs (advance cs s) xs)) (bits_of-bytes k (bits (8 * k) x) (length-bits (8 * k) x))

-- one word more, where it is read and fits
module _ (cs : List Channel) (f : List ℕ) (n : ℕ) (t : Turn) (room : ℕ) where
  abbrev pub more : ℕ → ℕ → List ℕ
  more x p = x ∷ fitting cs f n (next_turn cs t x) p (room - word_bytes cs t.spot)

  abbrev pub chosen : Bool → Outcome ℕ → List ℕ
  chosen b o = elim o [ got x p l ↦ cond b (more x p) [] | fault i p ↦ [] ]

-- what fits has room
module _ (cs : List Channel) (f : List ℕ) (n : ℕ) (t : Turn) (room : ℕ)
    (rest : (x p : ℕ) → raw_bytes cs (advance cs t.spot) (length (fitting cs f n (next_turn cs t x) p (room - word_bytes cs t.spot))) ≤ room - word_bytes cs t.spot) where
  room_for : (o : Outcome ℕ) (b : Bool) → leb (word_bytes cs t.spot) room ≡ b → raw_bytes cs t.spot (length (chosen cs f n t room b o)) ≤ room
  unfolding raw_bytes
  room_for (got x p l) true e = omega (arith, leb-true (word_bytes cs t.spot) room e, rest x p)
  room_for (got x p l) false e = omega arith
  room_for (fault i p) b e = omega arith

pub fits : (cs : List Channel) (f : List ℕ) (n : ℕ) (t : Turn) (at room : ℕ) → raw_bytes cs t.spot (length (fitting cs f n t at room)) ≤ room
unfolding fitting raw_bytes
fits cs f zero t at room = omega arith
fits cs f (suc n) t at room = room_for cs f n t room (λ x p. fits cs f n (next_turn cs t x) p (room - word_bytes cs t.spot)) (word_next cs t f at) (leb (word_bytes cs t.spot) room) refl

-- ## Word by word

more-eqb : (a b : ℕ) → eqb a b ≡ eqb (suc a) (suc b)
more-eqb a b = ⊎_elim (λ (e : a ≡ b). eq-eqb a b e ∙ sym (eq-eqb (suc a) (suc b) (ap suc e))) (λ (h : a ≡ b → ⊥). ne_eqb a b h ∙ sym (ne_eqb (suc a) (suc b) (λ e. h (omega arith)))) (cases_eq a b)

-- room from a place on
room-leb : (to k len : ℕ) → 0 < k → leb (to + k) len ≡ leb k (len - to)
room-leb to k len h =
    ⊎_elim (λ (a : len < to + k). lt-leb (to + k) len a ∙ sym (lt-leb k (len - to) (omega arith))) (λ (a : to + k ≤ len). le-leb (to + k) len a ∙ sym (le-leb k (len - to) (omega arith))) (cases_lt len (to + k))

-- what is put for words
abbrev put : List Channel → ℕ → Spot → List ℕ → ℕ → List ℕ → Bool × List ℕ
put cs n s out to ws = (eqb (length ws) n, put_bits out (8 * to) (bits_of (raw_of cs s ws)))

put-none : (cs : List Channel) (n : ℕ) (s : Spot) (out : List ℕ) (to : ℕ) → Bytes out → (eqb 0 n, out) ≡ put cs n s out to []
unfolding raw_of bits_of
put-none cs n s out to b = ap (λ z. (eqb 0 n, z)) (sym (put_bits-none out (8 * to) b))

put-not : (cs : List Channel) (n : ℕ) (s : Spot) (out : List ℕ) (to : ℕ) → Bytes out → (false, out) ≡ put cs (suc n) s out to []
put-not cs n s out to b = ap (λ z. (z, out)) (sym (ne_eqb 0 (suc n) (λ e. omega arith))) ∙ put-none cs (suc n) s out to b

-- a word and others
put-more : (cs : List Channel) (n : ℕ) (s : Spot) (out : List ℕ) (to x : ℕ) (ws : List ℕ) → to + word_bytes cs s ≤ length out → raw_bytes cs (advance cs s) (length ws) ≤ length out - (to + word_bytes cs s) →
    put cs n (advance cs s) (put_bits out (8 * to) (bits (8 * word_bytes cs s) x)) (to + word_bytes cs s) ws ≡ put cs (suc n) s out to (x ∷ ws)
put-more cs n s out to x ws h l =
    let k = word_bytes cs s in
    let B = bits (8 * word_bytes cs s) x in
    let R = bits_of (raw_of cs (advance cs s) ws) in
    let lB = length-bits (8 * word_bytes cs s) x in
    let lR : length R ≡ 8 * raw_bytes cs (advance cs s) (length ws) = length-bits_of (raw_of cs (advance cs s) ws) ∙ ap (λ z. 8 * z) (raw-length cs (advance cs s) ws) in
    let a : 8 * (to + word_bytes cs s) ≡ 8 * to + length B = omega (arith, lB) in
    let j : put_bits (put_bits out (8 * to) B) (8 * (to + k)) R ≡ put_bits out (8 * to) (bits_of (raw_of cs s (x ∷ ws))) =
    ap (λ z. put_bits (put_bits out (8 * to) B) z R) a ∙ put_bits-twice out (8 * to) B R (omega (arith, lB, lR)) ∙ ap (put_bits out (8 * to)) (sym (raw-bits cs s x ws)) in
    ap (λ z. (z, put_bits (put_bits out (8 * to) B) (8 * (to + k)) R)) (more-eqb (length ws) n) ∙ ap (λ z. (eqb (suc (length ws)) (suc n), z)) j

module _ (cs : List Channel) (f : List ℕ) (n : ℕ) (t : Turn) (out : List ℕ) (to : ℕ) (bytes : Bytes out)
    (rest : (x p : ℕ) (now : List ℕ) → Bytes now → turn_spread cs f n (next_turn cs t x) p now (to + word_bytes cs t.spot) ≡ put cs n (advance cs t.spot) now (to + word_bytes cs t.spot) (fitting cs f n (next_turn cs t x) p (length now - (to + word_bytes cs t.spot)))) where
  abbrev went : Bool → Outcome ℕ → Bool × List ℕ
  went b o =
      elim o [
        | got x p l ↦ cond b (turn_spread cs f n (next_turn cs t x) p (put_bits out (8 * to) (bits (8 * word_bytes cs t.spot) x)) (to + word_bytes cs t.spot)) (false, out)
        | fault i p ↦ (false, out)
      ]

  step : (o : Outcome ℕ) (b : Bool) → leb (to + word_bytes cs t.spot) (length out) ≡ b → went b o ≡ put cs (suc n) t.spot out to (chosen cs f n t (length out - to) b o)
  step (got x p l) true e =
      let k = word_bytes cs t.spot in
      let h : to + word_bytes cs t.spot ≤ length out = leb-true (to + word_bytes cs t.spot) (length out) e in
      let now = put_bits out (8 * to) (bits (8 * word_bytes cs t.spot) x) in
      let ln : length (put_bits out (8 * to) (bits (8 * word_bytes cs t.spot) x)) ≡ length out = length-put_bits out (8 * to) (bits (8 * word_bytes cs t.spot) x) (omega (arith, h, length-bits (8 * word_bytes cs t.spot) x)) in
      let room : length now - (to + k) ≡ length out - to - k = omega (arith, ln) in
      let ws = fitting cs f n (next_turn cs t x) p (length out - to - word_bytes cs t.spot) in
      rest x p now (Bytes-put_bits out (8 * to) (bits (8 * k) x)) ∙ ap (λ z. put cs n (advance cs t.spot) now (to + k) (fitting cs f n (next_turn cs t x) p z)) room
      ∙ put-more cs n t.spot out to x ws h (omega (arith, fits cs f n (next_turn cs t x) p (length out - to - word_bytes cs t.spot)))
  step (got x p l) false e = put-not cs n t.spot out to bytes
  step (fault i p) b e = put-not cs n t.spot out to bytes

pub spreads : (cs : List Channel) → SomeBytes cs → (f : List ℕ) (n : ℕ) (t : Turn) (at : ℕ) (out : List ℕ) (to : ℕ) → Inside cs t.spot → Bytes out →
    turn_spread cs f n t at out to ≡ put cs n t.spot out to (fitting cs f n t at (length out - to))
unfolding spread fitting word_next
spreads cs some f zero t at out to i b = put-none cs 0 t.spot out to b
spreads cs some f (suc n) t at out to i b =
    let k = word_bytes cs t.spot in
    step cs f n t out to b (λ x p now c. spreads cs some f n (next_turn cs t x) p now (to + word_bytes cs t.spot) (advance-inside cs t.spot i) c)
    ((word (code_at (channel_of cs t.spot) (memory_of t))).reads (bits_of f) at 0) (leb (to + word_bytes cs t.spot) (length out)) refl
    ∙ ap (λ z. put cs (suc n) t.spot out to (chosen cs f n t (length out - to) z ((word (code_at (channel_of cs t.spot) (memory_of t))).reads (bits_of f) at 0))) (room-leb to k (length out) (some t.spot i))
