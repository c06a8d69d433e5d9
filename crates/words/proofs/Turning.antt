-- The word whose turn it is, and the turn behind it.
use Rattle.std.proofs.Common.{◌≡◌, ℕ, zero, suc, ◌+◌, ◌-◌, ◌*◌, ◌<◌, ◌≤◌, true, cond, leb, List, [], ◌∷◌, length, get_or, take, set, sym, refl, ap, ◌∙◌, arith}
use Rattle.std.proofs.lemmas.List.{get_or-take}
use Rattle.std.proofs.lemmas.Bool.{le-leb, lt-leb, lt-ltb, le-ltb}
use Rattle.bits.specs.Bits.{bits_of}
use Rattle.forms.specs.Coding.{Coding}
use Rattle.format.specs.Format.{got, fault}
use Rattle.format.specs.Word.{word}
use Rattle.faults.specs.Faults as answers
use Rattle.faults.specs.Faults.{Answer, gives}
use Rattle.layout.specs.Recording as recordings
use Rattle.layout.specs.Channels.{pile, memory_after}
use Rattle.layout.specs.Turns as turns
use Rattle.layout.specs.Turns.{Spot, channel_of, memory_of, following, advance, next_turn}
use Rattle.coder.specs.Steps.{take_answer}
use Rattle.channel.specs.declared.record.Channel.{Channel}
use Rattle.channel.specs.Words.{kept_taken}
use Rattle.calls.specs.Calls.{settings}
use Rattle.frames.specs.Frames.{countable}
use Rattle.frames.proofs.Tables.{described, rows-many, row_is, table_kept}
use Rattle.words.specs.Words.{word_next}
use Rattle.words.proofs.Passing.{took, took-not}

-- ## A word that was taken, with its memory as a number

pub kept_gives : (a : Answer (ℕ × ℕ × (ℕ × Unit {0}))) (x n k : ℕ) → gives (x, n, k) ≡ kept_taken a → gives (x, n, (k, tt)) ≡ a
kept_gives (gives (y, j, m)) x n k e = ap up e
  where
    up : Answer (ℕ × ℕ × ℕ) → Answer (ℕ × ℕ × (ℕ × Unit {0}))
    up (gives (z, i, l)) = gives (z, i, (l, tt))
    up (answers.fault i p) = answers.fault i p
kept_gives (answers.fault i p) x n k e = let z : ◌≡◌ {A = ℕ} 0 1 = cc in absurd (omega arith)

pub kept-fault : (a : Answer (ℕ × ℕ × (ℕ × Unit {0}))) (i p : ℕ) → answers.fault i p ≡ kept_taken a → answers.fault i p ≡ a
kept-fault (gives (y, j, m)) i p e = let z : ◌≡◌ {A = ℕ} 0 1 = cc in absurd (omega arith)
kept-fault (answers.fault j q) i p e = ap up e
  where
    up : Answer (ℕ × ℕ × ℕ) → Answer (ℕ × ℕ × (ℕ × Unit {0}))
    up (gives (z, i, l)) = gives (z, i, (l, tt))
    up (answers.fault i p) = answers.fault i p

-- memories that are set are set among the first
take-set : (xs : List ℕ) (k i y : ℕ) → take k (set xs i y) ≡ set (take k xs) i y
take-set [] zero i y = refl
take-set [] (suc k) i y = refl
take-set (x ∷ xs) zero zero y = refl
take-set (x ∷ xs) zero (suc i) y = refl
take-set (x ∷ xs) (suc k) zero y = refl
take-set (x ∷ xs) (suc k) (suc i) y = ap (λ l. x ∷ l) (take-set xs k i y)

-- a table has so few rows that each has a memory
pub row-few : (t : List Channel) (i : ℕ) → countable (settings t) ≡ true → i < length t → i < 32
row-few t i h l = omega (arith, (table_kept (settings t) h).few, rows-many t)

module _ (t : List Channel) (channel given : ℕ) (ms : List ℕ) (inside : channel < length t) where
  abbrev now : turns.Turn
  now = record { spot = record { channel = channel; given = given }; memories = take (length t) ms }

  channel-is : channel_of (settings t) now.spot ≡ described t channel
  channel-is = row_is t channel inside

  memory-is : memory_of now ≡ get_or ms channel 0
  memory-is = get_or-take (length t) ms channel 0 inside

  -- the code reads what is described
  module _ (C : Coding (ℕ × Unit {0})) (f : List ℕ) (at : ℕ) (is : C ≡ pile (described t channel)) where
    reads-next : (word (C.code (get_or ms channel 0, tt))).reads (bits_of f) at 0 ≡ word_next (settings t) now f at
    unfolding word_next
    reads-next =
        ap (λ z. (word (z.code (get_or ms channel 0, tt))).reads (bits_of f) at 0) is ∙ ap (λ z. (word ((pile z).code (get_or ms channel 0, tt))).reads (bits_of f) at 0) (sym channel-is)
        ∙ ap (λ z. (word ((pile (channel_of (settings t) now.spot)).code (z, tt))).reads (bits_of f) at 0) (sym memory-is)

    pub next-fault : (i p : ℕ) → answers.fault i p ≡ kept_taken (take_answer C (get_or ms channel 0, tt) f at) → fault i p ≡ word_next (settings t) now f at
    next-fault i p e = sym (took-not C (get_or ms channel 0, tt) f at i p 0 (kept-fault (take_answer C (get_or ms channel 0, tt) f at) i p e)) ∙ reads-next

    module _ (x n k : ℕ) (e : gives (x, n, k) ≡ kept_taken (take_answer C (get_or ms channel 0, tt) f at)) where
      had : ((word (C.code (get_or ms channel 0, tt))).reads (bits_of f) at 0 ≡ got x (at + n) at) × ((k, tt) ≡ C.after (get_or ms channel 0, tt) x) × (n ≤ 8 * length f - at)
      had = took C (get_or ms channel 0, tt) f at x n (k, tt) 0 (kept_gives (take_answer C (get_or ms channel 0, tt) f at) x n k e)

      pub next_word : got x (at + n) at ≡ word_next (settings t) now f at
      next_word = sym had.0 ∙ reads-next

      pub next-within : n ≤ 8 * length f - at
      next-within = had.2

      next-memory : k ≡ memory_after (channel_of (settings t) now.spot) (memory_of now) x
      next-memory =
          ap (λ z. z.0) had.1 ∙ ap (λ z. (z.after (get_or ms channel 0, tt) x).0) is ∙ ap (λ z. ((pile z).after (get_or ms channel 0, tt) x).0) (sym channel-is)
          ∙ ap (λ z. memory_after (channel_of (settings t) now.spot) z x) (sym memory-is)

      behind : (s : Spot) → s ≡ advance (settings t) now.spot → record { spot = s; memories = take (length t) (set ms channel k) } ≡ next_turn (settings t) now x
      behind s b =
          ap (λ z. record { spot = z; memories = take (length t) (set ms channel k) }) b
          ∙ ap (λ z. record { spot = advance (settings t) now.spot; memories = z }) (take-set ms (length t) channel k)
          ∙ ap (λ z. record { spot = advance (settings t) now.spot; memories = set (take (length t) ms) channel z }) next-memory

      -- by the channel's repeats
      module _ (r : ℕ) (repeats : r ≡ (described t channel).repeats) where
        by-repeats : (channel_of (settings t) now.spot).repeats ≡ r
        by-repeats = ap (λ (c : recordings.Channel). c.repeats) channel-is ∙ sym repeats

        pub next-stays : given + 1 < r → record { spot = record { channel = channel; given = given + 1 }; memories = take (length t) (set ms channel k) } ≡ next_turn (settings t) now x
        next-stays h =
            let g : given + 1 ≡ suc given = omega arith in
            let l : leb (channel_of (settings t) now.spot).repeats (suc given) ≡ leb r (suc given) = ap (λ z. leb z (suc given)) by-repeats in
            behind (record { channel = channel; given = given + 1 })
            (ap (λ z. record { channel = channel; given = z }) g
            ∙ sym (ap (λ b. cond b (record { channel = following (length (settings t)) channel; given = 0 }) (record { channel = channel; given = suc given })) (l ∙ lt-leb r (suc given) (omega arith))))

        pub next_way : (j : ℕ) → r ≤ given + 1 → j ≡ following (length t) channel → record { spot = record { channel = j; given = 0 }; memories = take (length t) (set ms channel k) } ≡ next_turn (settings t) now x
        next_way j h b =
            let l : leb (channel_of (settings t) now.spot).repeats (suc given) ≡ leb r (suc given) = ap (λ z. leb z (suc given)) by-repeats in
            behind (record { channel = j; given = 0 })
            (ap (λ z. record { channel = z; given = 0 }) (b ∙ ap (λ z. following z channel) (sym (rows-many t)))
            ∙ sym (ap (λ b. cond b (record { channel = following (length (settings t)) channel; given = 0 }) (record { channel = channel; given = suc given })) (l ∙ le-leb r (suc given) (omega arith))))

-- the channel behind one
pub follows : (n i j : ℕ) → i + 1 < n → j ≡ i + 1 → j ≡ following n i
follows n i j h e = let s : j ≡ suc i = omega arith in s ∙ sym (ap (λ b. cond b (suc i) 0) (lt-ltb (suc i) n (omega arith)))

pub starts-over : (n i j : ℕ) → n ≤ i + 1 → j ≡ 0 → j ≡ following n i
starts-over n i j h e = e ∙ sym (ap (λ b. cond b (suc i) 0) (le-ltb (suc i) n (omega arith)))
