-- The words of a section: each channel of the table gives its repeats in turn, frame after frame, and has a memory of its own.
use Rattle.std.specs.Prelude.{ℕ, suc, ◌%◌, List, [], ◌∷◌, ◌++◌, length, replicate, slice_index, slice_index_or, slice_set}
use Rattle.forms.specs.Code.{Code}
use Rattle.forms.specs.Coding.{Coding}
use Rattle.format.specs.Format.{Format, each}
use Rattle.format.specs.Word.{word}

pub record Turn (M : Type 0) : Type 0 where
  pub place : ℕ
  pub memories : List M

-- K are the channels' settings, each with its coder; `none` is a channel where there is none.
-- The words go to the channels in an order of their numbers, again and again.
module _ {K M : Type 0} (coding : K → Coding M) (none : K) (order : List ℕ) (cs : List K) where
  -- the number of the channel of the word at a place
  abbrev pub channel_at : ℕ → ℕ
  channel_at k = slice_index order (k % length order)

  abbrev pub memory_at : Turn M → M
  memory_at t = slice_index_or t.memories (channel_at t.place) (coding none).start

  -- the code of the next word: that of its channel's coder, in that channel's memory
  abbrev pub code_at : Turn M → Code
  code_at t = (coding (slice_index_or cs (channel_at t.place) none)).code (memory_at t)

  abbrev pub next_turn : Turn M → ℕ → Turn M
  next_turn t x = record {
    place = suc t.place;
    memories = slice_set t.memories (channel_at t.place) ((coding (slice_index_or cs (channel_at t.place) none)).after (memory_at t) x);
  }

  -- n words, from some memories on
  unfoldable pub words_from : List M → ℕ → Format (List ℕ)
  words_from ms n = each (λ t. word (code_at t)) next_turn n (record { place = 0; memories = ms })

-- the channels' numbers in a frame: each as often as it repeats
unfoldable pub frame : {K : Type 0} → (K → ℕ) → ℕ → List K → List ℕ
frame repeats i [] = []
frame repeats i (c ∷ cs) = replicate (repeats c) i ++ frame repeats (suc i) cs

unfoldable pub starts : {K M : Type 0} → (K → Coding M) → List K → List M
starts coding [] = []
starts coding (c ∷ cs) = (coding c).start ∷ starts coding cs

abbrev pub words_of : {K M : Type 0} → (K → ℕ) → (K → Coding M) → K → List K → ℕ → Format (List ℕ)
words_of repeats coding none cs n = words_from coding none (frame repeats 0 cs) cs (starts coding cs) n
