-- A section's words, spread.
use Rattle.std.proofs.Common.{◌≡◌, ℕ, zero, suc, ◌+◌, ◌-◌, ◌*◌, ◌/◌, ◌<◌, ◌≤◌, Bool, true, false, cond, ◌&&◌, eqb, leb, List, [], ◌∷◌, length, sym, refl, ap, ◌∙◌, arith}
use Rattle.std.proofs.lemmas.Bool.{le-leb}
use Rattle.bits.specs.Bits.{bits, bits_of, put_bits, Bytes}
use Rattle.fields.specs.Fields.{is_raw}
use Rattle.forms.specs.Code.{Code}
use Rattle.forms.specs.Coding.{Coding}
use Rattle.format.specs.Format.{Outcome, got, fault}
use Rattle.format.specs.Word.{word}
use Rattle.layout.specs.Recording as recordings
use Rattle.layout.specs.Channels.{width, code_at, pile, memory_after}
use Rattle.layout.specs.Slim.{most_bytes}
use Rattle.layout.specs.Turns.{first, Turn, channel_of, memory_of, word_bytes, next_turn, first_turn}
use Rattle.channel.specs.declared.record.Channel.{Channel}
use Rattle.calls.specs.Calls.{settings}
use Rattle.frames.specs.Frames.{countable}
use Rattle.frames.proofs.Tables.{described, row_is, rows-many, table_kept}
use Rattle.words.specs.Words.{word_next}
use Rattle.words.specs.Spread.{raw_of, spreadable, spread_answer, spread_bytes, spread, coder_spread, turn_spread}
use Rattle.words.proofs.OneRow.{alone, stays, one-row}
use Rattle.words.proofs.Rows.{is-readable}
use Rattle.words.proofs.Spreading.{spreads}
use Rattle.words.proofs.Loops.{spread-fault, spread-more, spread-full, spread_end}

-- ## One channel

module _ (c : recordings.Channel) (f : List ℕ) (n g m : ℕ) (out : List ℕ) (to : ℕ)
    (rest : (h x p : ℕ) (now : List ℕ) → turn_spread (c ∷ []) f n (alone h x) p now (to + width c.kind / 8) ≡ spread (pile c).code (pile c).after (λ m. width c.kind / 8) f n (x, tt) p now (to + width c.kind / 8)) where
  alone-step : (o : Outcome ℕ) (b : Bool) →
      ◌≡◌ {A = Bool × List ℕ}
      (elim o [
        | got x p l ↦ cond b (turn_spread (c ∷ []) f n (next_turn (c ∷ []) (alone g m) x) p (put_bits out (8 * to) (bits (8 * (width c.kind / 8)) x)) (to + width c.kind / 8)) (false, out)
        | fault i p ↦ (false, out)
      ])
      (elim o [
        | got x p l ↦ cond b (spread (pile c).code (pile c).after (λ m. width c.kind / 8) f n ((pile c).after (m, tt) x) p (put_bits out (8 * to) (bits (8 * (width c.kind / 8)) x)) (to + width c.kind / 8)) (false, out)
        | fault i p ↦ (false, out)
      ])
  alone-step (got x p l) true =
      ap (λ s. turn_spread (c ∷ []) f n (record { spot = s; memories = memory_after c m x ∷ [] }) p (put_bits out (8 * to) (bits (8 * (width c.kind / 8)) x)) (to + width c.kind / 8)) (stays c g)
      ∙ rest (cond (leb c.repeats (suc g)) 0 (suc g)) (memory_after c m x) p (put_bits out (8 * to) (bits (8 * (width c.kind / 8)) x))
  alone-step (got x p l) false = refl
  alone-step (fault i p) b = refl

alone-spreads : (c : recordings.Channel) (f : List ℕ) (n g m at : ℕ) (out : List ℕ) (to : ℕ) →
    turn_spread (c ∷ []) f n (alone g m) at out to ≡ spread (pile c).code (pile c).after (λ m. width c.kind / 8) f n (m, tt) at out to
unfolding spread
alone-spreads c f zero g m at out to = refl
alone-spreads c f (suc n) g m at out to =
    alone-step c f n g m out to (λ h x p now. alone-spreads c f n h x p now (to + width c.kind / 8)) ((word (code_at c m)).reads (bits_of f) at 0) (leb (to + width c.kind / 8) (length out))

pub spread-alone : (t : List Channel) (n : ℕ) (f : List ℕ) (at : ℕ) (out : List ℕ) (to : ℕ) (C : Coding (ℕ × Unit {0})) (k : ℕ) → length t ≡ 1 → C ≡ pile (described t 0) → k ≡ width (described t 0).kind / 8 → length f ≤ 16777216 →
    coder_spread C k f at n out to ≡ turn_spread (settings t) f n (first_turn (settings t)) at out to
spread-alone t n f at out to C k h e s l =
    let c = described t 0 in
    ap (λ z. cond z (spread C.code C.after (λ m. k) f n (0, tt) at out to) (false, out)) (le-leb (length f) most_bytes l)
    ∙ ap (λ z. spread z.code z.after (λ m. k) f n (0, tt) at out to) e ∙ ap (λ z. spread (pile c).code (pile c).after (λ m. z) f n (0, tt) at out to) s
    ∙ sym (alone-spreads c f n 0 0 at out to) ∙ ap (λ cs. turn_spread cs f n (first_turn cs) at out to) (sym (one-row t h))

-- ## What is answered and left

module _ (t : List Channel) (f : List ℕ) (at n : ℕ) (out : List ℕ) (to : ℕ) (r : Bool) (now : List ℕ) (rows : countable (settings t) ≡ true) (few : length f ≤ 16777216) (bytes : Bytes out)
    (is : (r, now) ≡ turn_spread (settings t) f n (first_turn (settings t)) at out to) where
  whole : ◌≡◌ {A = Bool × List ℕ} (r, now) (eqb (length (spreadable (settings t) f at n (length out - to))) n, put_bits out (8 * to) (bits_of (raw_of (settings t) first (spreadable (settings t) f at n (length out - to)))))
  whole = is ∙ spreads (settings t) (table_kept (settings t) rows).bytes f n (first_turn (settings t)) at out to (table_kept (settings t) rows).some bytes

  pub spread-answer : r ≡ spread_answer (settings t) f at n (length out) to
  spread-answer = ap (λ z. z.0) whole ∙ sym (ap (λ z. z && eqb (length (spreadable (settings t) f at n (length out - to))) n) (is-readable (settings t) (length f) rows few))

  pub spread-left : now ≡ spread_bytes (settings t) f at n out to
  spread-left =
      ap (λ z. z.1) whole
      ∙ sym (ap (λ z. cond z (put_bits out (8 * to) (bits_of (raw_of (settings t) first (spreadable (settings t) f at n (length out - to))))) out) (is-readable (settings t) (length f) rows few))

-- ## Several channels

module _ (t : List Channel) (f : List ℕ) (n : ℕ) where
  abbrev cs : List recordings.Channel
  cs = settings t

  abbrev code : Turn → Code
  code T = code_at (channel_of cs T.spot) (memory_of T)

  abbrev size : Turn → ℕ
  size T = word_bytes cs T.spot

  module _ (rows : countable (settings t) ≡ true) (i : ℕ) (T : Turn) (inside : T.spot.channel < length t) (at : ℕ) (out : List ℕ) (to : ℕ) (h : i < n) (q : ℕ) (same : q ≡ at) where
    stands : (o : Outcome ℕ) → o ≡ word_next cs T f q → (word (code T)).reads (bits_of f) at 0 ≡ o
    unfolding word_next
    stands o e = ap (λ z. (word (code T)).reads (bits_of f) z 0) (sym same) ∙ sym e

    pub rows-fault : (x y : ℕ) → fault x y ≡ word_next cs T f q → (false, out) ≡ turn_spread cs f (n - i) T at out to
    rows-fault x y e = spread-fault code (next_turn cs) size f n i T at out to h x y (stands (fault x y) e)

    module _ (x len : ℕ) (e : got x (q + len) q ≡ word_next cs T f q) (p s : ℕ) (place : p ≡ to) (wide : s ≡ width (described t T.spot.channel).kind / 8) (most : s ≤ 4)
        (r : Bool) (now : List ℕ) (is : r ≡ is_raw p s (length out)) (puts : now ≡ cond (is_raw p s (length out)) (put_bits out (8 * p) (bits (8 * s) x)) out) where
      reads : (word (code T)).reads (bits_of f) at 0 ≡ got x (at + len) at
      reads = stands (got x (q + len) q) e ∙ ap (λ z. got x (z + len) z) same

      sized : s ≡ word_bytes cs T.spot
      sized = wide ∙ sym (ap (λ (c : recordings.Channel). width c.kind / 8) (row_is t T.spot.channel inside))

      some : 1 ≤ s
      some = omega (arith, sized, (table_kept (settings t) rows).bytes T.spot (omega (arith, rows-many t, inside)))

      pub rows_more : (S : Turn) → S ≡ next_turn cs T x → true ≡ r → (turn_spread cs f (n - (i + 1)) S (at + len) now (to + s) ≡ turn_spread cs f (n - i) T at out to) × (to + s ≤ length out)
      rows_more S b v =
          let (a, l) = spread-more code (next_turn cs) size f n i T at out to h x (at + len) at reads p s place sized some most r now is puts v in
          (ap (λ z. turn_spread cs f (n - (i + 1)) z (at + len) now (to + s)) b ∙ a, l)

      pub rows-full : false ≡ r → (false, now) ≡ turn_spread cs f (n - i) T at out to
      rows-full v = spread-full code (next_turn cs) size f n i T at out to h x (at + len) at reads p s place sized some most r now is puts v

  pub rows_end : (i : ℕ) (T : Turn) (at : ℕ) (out : List ℕ) (to : ℕ) → n ≤ i → (true, out) ≡ turn_spread cs f (n - i) T at out to
  rows_end i T at out to h = spread_end code (next_turn cs) size f n i T at out to h

  pub rows_all : (p q a b : ℕ) (out : List ℕ) → p ≡ a → q ≡ b → turn_spread cs f n (first_turn cs) p out q ≡ turn_spread cs f n (first_turn cs) a out b
  rows_all p q a b out u v = ap (λ z. turn_spread cs f n (first_turn cs) z out q) u ∙ ap (turn_spread cs f n (first_turn cs) a out) v
