-- The words of several channels in turn.
use Rattle.std.proofs.Common.{◌≡◌, ℕ, ◌+◌, ◌-◌, ◌/◌, ◌<◌, ◌≤◌, Bool, true, false, cond, ◌&&◌, leb, List, length, take, replicate, Some, None, refl, sym, ap, ◌∙◌, arith}
use Rattle.std.proofs.lemmas.List.{take-replicate}
use Rattle.std.proofs.lemmas.Bool.{le-leb}
use Rattle.bits.specs.Bits.{bits_of}
use Rattle.forms.specs.Coding.{Coding}
use Rattle.forms.proofs.Codes.{none-some, some_same}
use Rattle.format.specs.Format.{Outcome, got, fault}
use Rattle.format.specs.Word.{word}
use Rattle.layout.specs.Recording as recordings
use Rattle.layout.specs.Channels.{code_at, pile}
use Rattle.layout.specs.Slim.{most_bytes}
use Rattle.layout.specs.Turns.{Turn, channel_of, memory_of, next_turn, words_from, first_turn}
use Rattle.channel.specs.declared.record.Channel.{Channel}
use Rattle.channel.specs.declared.channel_coder.ChannelCoder.{ChannelCoder}
use Rattle.channel.specs.declared.channel_coder.ChannelCoder.TheVariants.{Byte, Half, Full}
use Rattle.channel.specs.Piles.{coder_width}
use Rattle.calls.specs.Calls.{settings}
use Rattle.frames.specs.Frames.{countable}
use Rattle.frames.proofs.Tables.{described, rows-many, table_kept}
use Rattle.words.specs.Words.{places, readable, pass_answer, coder_answer, coder_words, word_next}
use Rattle.words.proofs.Passing.{pass-more, pass-fault, pass-end, any_last}
use Rattle.words.proofs.OneRow.{turn_read, turns-read, row-alone}

module _ (cs : List recordings.Channel) (f : List ℕ) (n : ℕ) where
  -- what stands at a place, whatever was tried before
  stands : (T : Turn) (p l q : ℕ) (o : Outcome ℕ) → q ≡ p → o ≡ word_next cs T f q → (word (code_at (channel_of cs T.spot) (memory_of T))).reads (bits_of f) p l ≡ o
  unfolding word_next
  stands T p l q o s e =
      any_last (code_at (channel_of cs T.spot) (memory_of T)) (bits_of f) p l 0 ∙ ap (λ z. (word (code_at (channel_of cs T.spot) (memory_of T))).reads (bits_of f) z 0) (sym s) ∙ sym e

  module _ (i : ℕ) (T : Turn) (p l q : ℕ) (h : i < n) (same : q ≡ p) where
    pub rows_more : (S : Turn) (x len : ℕ) → got x (q + len) q ≡ word_next cs T f q → S ≡ next_turn cs T x →
        places (turn_read cs (n - (i + 1)) S (bits_of f) (p + len) p) ≡ places (turn_read cs (n - i) T (bits_of f) p l)
    rows_more S x len e s =
        ap (λ z. places (turn_read cs (n - (i + 1)) z (bits_of f) (p + len) p)) s
        ∙ sym (pass-more (λ t. word (code_at (channel_of cs t.spot) (memory_of t))) (next_turn cs) (bits_of f) n i T p l x (p + len) p h (stands T p l q (got x (q + len) q) same e ∙ ap (λ z. got x (z + len) z) same))

    pub rows-fault : (x y : ℕ) → fault x y ≡ word_next cs T f q → fault x y ≡ places (turn_read cs (n - i) T (bits_of f) p l)
    rows-fault x y e = sym (pass-fault (λ t. word (code_at (channel_of cs t.spot) (memory_of t))) (next_turn cs) (bits_of f) n i T p l x y h (stands T p l q (fault x y) same e))

  pub rows_end : (i : ℕ) (T : Turn) (p l q k : ℕ) → n ≤ i → q ≡ p → k ≡ l → got tt q k ≡ places (turn_read cs (n - i) T (bits_of f) p l)
  rows_end i T p l q k h a b =
      ap (λ z. got tt z k) a ∙ ap (got tt p) b ∙ sym (pass-end (λ t. word (code_at (channel_of cs t.spot) (memory_of t))) (next_turn cs) (bits_of f) n i T p l h)

  pub rows_all : (p l q k : ℕ) → p ≡ q → l ≡ k → places (turn_read cs n (first_turn cs) (bits_of f) p l) ≡ places ((words_from cs n (first_turn cs)).reads (bits_of f) q k)
  rows_all p l q k a b =
      ap (λ z. places (turn_read cs n (first_turn cs) (bits_of f) z l)) a ∙ ap (λ z. places (turn_read cs n (first_turn cs) (bits_of f) q z)) b
      ∙ ap places (sym (turns-read cs n (first_turn cs) (bits_of f) q k))

-- before the first word
pub first-is : (t : List Channel) (channel given : ℕ) (ms : List ℕ) → countable (settings t) ≡ true → channel ≡ 0 → given ≡ 0 → ms ≡ replicate 32 0 →
    record { spot = record { channel = channel; given = given }; memories = take (length t) ms } ≡ first_turn (settings t)
first-is t channel given ms h a b e =
    ap (λ z. record { spot = record { channel = z; given = given }; memories = take (length t) ms }) a
    ∙ ap (λ z. record { spot = record { channel = 0; given = z }; memories = take (length t) ms }) b
    ∙ ap (λ z. record { spot = record { channel = 0; given = 0 }; memories = z })
    (ap (take (length t)) e ∙ take-replicate (length t) 32 0 (omega (arith, rows-many t, (table_kept (settings t) h).few)) ∙ ap (λ z. replicate z 0) (sym (rows-many t)))

-- ## What is answered

pub is-readable : (cs : List recordings.Channel) (len : ℕ) → countable cs ≡ true → len ≤ 16777216 → readable cs len ≡ true
is-readable cs len h l = ap (λ z. z && leb len most_bytes) h ∙ le-leb len most_bytes l

pub passes : (t : List Channel) (f : List ℕ) (at last n : ℕ) (o : Outcome (Unit {0})) → countable (settings t) ≡ true → length f ≤ 16777216 →
    o ≡ places ((words_from (settings t) n (first_turn (settings t))).reads (bits_of f) at last) → o ≡ pass_answer (settings t) f at last n
passes t f at last n o h l e = e ∙ sym (ap (λ z. cond z (places ((words_from (settings t) n (first_turn (settings t))).reads (bits_of f) at last)) (fault 1 0)) (is-readable (settings t) (length f) h l))

pub passes-one : (t : List Channel) (f : List ℕ) (at last n : ℕ) (C : Coding (ℕ × Unit {0})) (o : Outcome (Unit {0})) → countable (settings t) ≡ true → length f ≤ 16777216 → length t ≤ 1 → C ≡ pile (described t 0) →
    o ≡ coder_answer C f at last n → o ≡ pass_answer (settings t) f at last n
passes-one t f at last n C o h l m p e =
    let a : length t ≡ 1 = omega (arith, rows-many t, (table_kept (settings t) h).some) in
    passes t f at last n o h l (e ∙ ap (λ z. cond z (places ((coder_words C n (0, tt)).reads (bits_of f) at last)) (fault 1 0)) (le-leb (length f) most_bytes l) ∙ row-alone t n f at last C a p)

-- rows that were made of a table keep their rule
pub kept-rule : (b : Bool) (x t : List Channel) → Some x ≡ cond b (Some t) None → b ≡ true
kept-rule true x t e = refl
kept-rule false x t e = absurd (none-some (sym e))

pub same-rows : (b : Bool) (x t : List Channel) → Some x ≡ cond b (Some t) None → x ≡ t
same-rows true x t e = some_same e
same-rows false x t e = absurd (none-some (sym e))

-- a channel's words are whole bytes
pub whole-width : (k : ChannelCoder) → (coder_width k + 7) / 8 ≡ coder_width k / 8
whole-width (Byte p) = refl
whole-width (Half p) = refl
whole-width (Full p) = refl
