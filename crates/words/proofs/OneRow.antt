-- The words of one channel are those of its coder.
use Rattle.std.proofs.Common.{◌≡◌, ℕ, zero, suc, Bool, true, false, cond, leb, List, [], ◌∷◌, length, sym, refl, ap, ◌∙◌, arith}
use Rattle.bits.specs.Bits.{bits_of}
use Rattle.forms.specs.Coding.{Coding}
use Rattle.format.specs.Cells.{File}
use Rattle.format.specs.Format.{Outcome, got, fault, next, each, each_read}
use Rattle.format.specs.Word.{word}
use Rattle.layout.specs.Recording as recordings
use Rattle.layout.specs.Channels.{pile, code_at, memory_after}
use Rattle.layout.specs.Turns.{Spot, Turn, channel_of, memory_of, advance, next_turn, words_from, first_turn}
use Rattle.channel.specs.declared.record.Channel.{Channel}
use Rattle.calls.specs.Calls.{settings}
use Rattle.frames.proofs.Tables.{described}
use Rattle.words.specs.Words.{places, coder_words}
use Rattle.words.proofs.Passing.{coder_reads}

-- a value goes on in two ways that are the same
next-same : {A B : Type 0} (o : Outcome A) (g h : A → ℕ → ℕ → Outcome B) → ((a : A) (q m : ℕ) → g a q m ≡ h a q m) → next o g ≡ next o h
unfolding next
next-same (got a q m) g h e = e a q m
next-same (fault n q) g h e = refl

-- the words from a turn on
abbrev pub turn_read : List recordings.Channel → ℕ → Turn → File → ℕ → ℕ → Outcome (List ℕ)
turn_read cs n t f p l = each_read (λ t. word (code_at (channel_of cs t.spot) (memory_of t))) (next_turn cs) n t f p l

pub turns-read : (cs : List recordings.Channel) (n : ℕ) (t : Turn) (f : File) (p l : ℕ) → (words_from cs n t).reads f p l ≡ turn_read cs n t f p l
unfolding words_from each
turns-read cs n t f p l = refl

-- a channel alone
abbrev pub alone : ℕ → ℕ → Turn
alone g m = record { spot = record { channel = 0; given = g }; memories = m ∷ [] }

pub stays : (c : recordings.Channel) (g : ℕ) → advance (c ∷ []) (record { channel = 0; given = g }) ≡ record { channel = 0; given = cond (leb c.repeats (suc g)) 0 (suc g) }
stays c g = go (leb c.repeats (suc g))
  where
    go : (t : Bool) → ◌≡◌ {A = Spot} (cond t (record { channel = 0; given = 0 }) (record { channel = 0; given = suc g })) (record { channel = 0; given = cond t 0 (suc g) })
    go true = refl
    go false = refl

alone-reads : (c : recordings.Channel) (n g m : ℕ) (f : File) (p l : ℕ) → turn_read (c ∷ []) n (alone g m) f p l ≡ each_read (λ m. word ((pile c).code m)) (pile c).after n (m, tt) f p l
unfolding each_read
alone-reads c zero g m f p l = refl
alone-reads c (suc n) g m f p l =
    next-same ((word (code_at c m)).reads f p l) _ _ (λ x q k.
    ap (λ o. next o (λ xs r j. got (x ∷ xs) r j))
    (ap (λ s. turn_read (c ∷ []) n (record { spot = s; memories = memory_after c m x ∷ [] }) f q k) (stays c g) ∙ alone-reads c n (cond (leb c.repeats (suc g)) 0 (suc g)) (memory_after c m x) f q k))

-- a table of one row
pub one-row : (t : List Channel) → length t ≡ 1 → settings t ≡ described t 0 ∷ []
one-row [] h = absurd (omega arith)
one-row (r ∷ []) h = refl
one-row (r ∷ s ∷ t) h = absurd (omega arith)

pub row-alone : (t : List Channel) (n : ℕ) (f : List ℕ) (p l : ℕ) (C : Coding (ℕ × Unit {0})) → length t ≡ 1 → C ≡ pile (described t 0) →
    places ((coder_words C n (0, tt)).reads (bits_of f) p l) ≡ places ((words_from (settings t) n (first_turn (settings t))).reads (bits_of f) p l)
row-alone t n f p l C h e =
    let c = described t 0 in
    ap (λ z. places ((coder_words z n (0, tt)).reads (bits_of f) p l)) e
    ∙ ap places (coder_reads (pile c) n (0, tt) (bits_of f) p l ∙ sym (alone-reads c n 0 0 (bits_of f) p l) ∙ sym (turns-read (c ∷ []) n (first_turn (c ∷ [])) (bits_of f) p l))
    ∙ ap (λ cs. places ((words_from cs n (first_turn cs)).reads (bits_of f) p l)) (sym (one-row t h))
