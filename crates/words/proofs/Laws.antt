-- The words that are spread are all of them exactly where they are read and have room.
use Rattle.std.proofs.Common.{◌≡◌, ℕ, zero, suc, ◌-◌, ◌≤◌, Bool, true, false, leb, List, ◌∷◌, length, sym, refl, ap, ◌∙◌, arith}
use Rattle.std.proofs.lemmas.Bool.{le-leb}
use Rattle.bits.specs.Bits.{bits_of}
use Rattle.format.specs.Format.{Outcome, got, fault, next, each_read}
use Rattle.format.specs.Word.{word}
use Rattle.format.proofs.Laws.{next-got, got-got}
use Rattle.layout.specs.Recording.{Channel}
use Rattle.layout.specs.Channels.{code_at}
use Rattle.layout.specs.Turns.{Turn, first, channel_of, memory_of, word_bytes, next_turn, raw_bytes, words_from, first_turn}
use Rattle.words.specs.Words.{word_next}
use Rattle.words.specs.Spread.{fitting, spreadable}
use Rattle.words.proofs.Passing.{any_last}
use Rattle.words.proofs.OneRow.{turn_read, turns-read}
use Rattle.words.proofs.Spreading.{chosen, fits}

module _ (cs : List Channel) (f : List ℕ) where
  -- what is read at a place, whatever was tried before
  abbrev reading : Turn → ℕ → ℕ → Outcome ℕ
  reading t at l = (word (code_at (channel_of cs t.spot) (memory_of t))).reads (bits_of f) at l

  same_word : (t : Turn) (at l : ℕ) → word_next cs t f at ≡ reading t at l
  unfolding word_next
  same_word t at l = any_last (code_at (channel_of cs t.spot) (memory_of t)) (bits_of f) at 0 l

  -- what follows a word
  abbrev others : ℕ → Turn → ℕ → ℕ → ℕ → Outcome (List ℕ)
  others n t x q k = next (turn_read cs n (next_turn cs t x) (bits_of f) q k) (λ xs r j. got (x ∷ xs) r j)

  next_fits : (n : ℕ) (t : Turn) (at room x p l : ℕ) → word_next cs t f at ≡ got x p l → word_bytes cs t.spot ≤ room → fitting cs f (suc n) t at room ≡ x ∷ fitting cs f n (next_turn cs t x) p (room - word_bytes cs t.spot)
  unfolding fitting
  next_fits n t at room x p l e h =
      ap (chosen cs f n t room (leb (word_bytes cs t.spot) room)) e ∙ ap (λ b. chosen cs f n t room b (got x p l)) (le-leb (word_bytes cs t.spot) room h)

  all_fit : (n : ℕ) (t : Turn) (at l room : ℕ) (ws : List ℕ) (p q : ℕ) → turn_read cs n t (bits_of f) at l ≡ got ws p q → raw_bytes cs t.spot n ≤ room → (fitting cs f n t at room ≡ ws) × (length ws ≡ n)
  unfolding each_read fitting raw_bytes
  all_fit zero t at l room ws p q e h = let (a, _, _) = got-got e in (a, sym (ap length a))
  all_fit (suc n) t at l room ws p q e h =
      let (x, u, v, a, b) = next-got (reading t at l) (others n t) ws p q e in
      let (ys, r, j, c, d) = next-got (turn_read cs n (next_turn cs t x) (bits_of f) u v) (λ xs r j. got (x ∷ xs) r j) ws p q b in
      let (i, _, _) = got-got d in
      let (k, m) = all_fit n (next_turn cs t x) u v (room - word_bytes cs t.spot) ys r j c (omega arith) in
      (next_fits n t at room x u v (same_word t at l ∙ a) (omega arith) ∙ ap (λ z. x ∷ z) k ∙ i, sym (ap length i) ∙ ap suc m)

  module _ (n : ℕ) (t : Turn) (at l room : ℕ)
      (rest : (x p m : ℕ) → length (fitting cs f n (next_turn cs t x) p (room - word_bytes cs t.spot)) ≡ n →
      (q : ℕ) × (j : ℕ) × (turn_read cs n (next_turn cs t x) (bits_of f) p m ≡ got (fitting cs f n (next_turn cs t x) p (room - word_bytes cs t.spot)) q j)) where
    read-on : (o : Outcome ℕ) (b : Bool) → reading t at l ≡ o → length (chosen cs f n t room b o) ≡ suc n → (q : ℕ) × (j : ℕ) × (next (reading t at l) (others n t) ≡ got (chosen cs f n t room b o) q j)
    unfolding next
    read-on (got x p m) true e h =
        let (q, j, r) = rest x p m (omega arith) in
        (q, j, ap (λ o. next o (others n t)) e ∙ ap (λ o. next o (λ xs r j. got (x ∷ xs) r j)) r)
    read-on (got x p m) false e h = absurd (omega arith)
    read-on (fault i p) b e h = absurd (omega arith)

  all_read : (n : ℕ) (t : Turn) (at l room : ℕ) → length (fitting cs f n t at room) ≡ n → (p : ℕ) × (q : ℕ) × (turn_read cs n t (bits_of f) at l ≡ got (fitting cs f n t at room) p q)
  unfolding each_read fitting
  all_read zero t at l room h = (at, l, refl)
  all_read (suc n) t at l room h =
      let o = same_word t at l in
      let s : fitting cs f (suc n) t at room ≡ chosen cs f n t room (leb (word_bytes cs t.spot) room) (reading t at l) = ap (chosen cs f n t room (leb (word_bytes cs t.spot) room)) o in
      let (p, q, r) = read-on n t at l room (λ x u m k. all_read n (next_turn cs t x) u m (room - word_bytes cs t.spot) k) (reading t at l) (leb (word_bytes cs t.spot) room) refl (ap length (sym s) ∙ h) in
      (p, q, r ∙ ap (λ z. got z p q) (sym s))

-- words that are read and have room are spread
pub read-spread : (cs : List Channel) (f : List ℕ) (at l n room : ℕ) (ws : List ℕ) (p q : ℕ) → (words_from cs n (first_turn cs)).reads (bits_of f) at l ≡ got ws p q → raw_bytes cs first n ≤ room →
    (spreadable cs f at n room ≡ ws) × (length ws ≡ n)
read-spread cs f at l n room ws p q e h = all_fit cs f n (first_turn cs) at l room ws p q (sym (turns-read cs n (first_turn cs) (bits_of f) at l) ∙ e) h

-- where all are spread, they are read and have room
pub spread-read : (cs : List Channel) (f : List ℕ) (at l n room : ℕ) → length (spreadable cs f at n room) ≡ n →
    ((p : ℕ) × (q : ℕ) × ((words_from cs n (first_turn cs)).reads (bits_of f) at l ≡ got (spreadable cs f at n room) p q)) × (raw_bytes cs first n ≤ room)
spread-read cs f at l n room h =
    let (p, q, r) = all_read cs f n (first_turn cs) at l room h in
    let k = fits cs f n (first_turn cs) at room in
    ((p, q, turns-read cs n (first_turn cs) (bits_of f) at l ∙ r), omega (arith, k, ap (raw_bytes cs first) h))
