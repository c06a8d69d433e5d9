-- Whose word is next: each channel gives its repeats in turn, frame after frame.
use Rattle.std.specs.Prelude.{ℕ, zero, suc, ◌+◌, ◌-◌, ◌/◌, false, cond, List, length, replicate, Some, None, Option, ◌==◌, nat_le, nat_lt, slice_index, slice_index_or, slice_set}
use Rattle.std.specs.Option.{option_map}
use Rattle.format.specs.Format.{Format, each}
use Rattle.format.specs.Word.{word}
use Rattle.layout.specs.Recording.{Channel, Section}
use Rattle.layout.specs.Channels.{width, code_at, memory_after}

-- a channel where there is none: every number 0, every flag false
abbrev pub no_channel : Channel
no_channel = record { repeats = 0; delta = false; turn = 0; algorithm = 0; kind = 0; narrow = 0; value = 0 }

-- the channel whose word is next, and how many words it has given in a row
pub record Spot : Type 0 where
  pub channel : ℕ
  pub given : ℕ

abbrev pub first : Spot
first = record { channel = 0; given = 0 }

abbrev pub channel_of : List Channel → Spot → Channel
channel_of cs s = slice_index_or cs s.channel no_channel

-- a channel gives way once its repeats are reached or passed, and the first follows the last
abbrev pub following : ℕ → ℕ → ℕ
following n i = cond (nat_lt (suc i) n) (suc i) 0

abbrev pub advance : List Channel → Spot → Spot
advance cs s =
    cond (nat_le (channel_of cs s).repeats (suc s.given))
    (record { channel = following (length cs) s.channel; given = 0 })
    (record { channel = s.channel; given = suc s.given })

-- ## Raw bytes

-- how many raw bytes the next word has
abbrev pub word_bytes : List Channel → Spot → ℕ
word_bytes cs s = width (channel_of cs s).kind / 8

-- how many raw bytes the next n words have
unfoldable pub raw_bytes : List Channel → Spot → ℕ → ℕ
raw_bytes cs s zero = 0
raw_bytes cs s (suc n) = word_bytes cs s + raw_bytes cs (advance cs s) n

abbrev pub raw_size : Section → ℕ
raw_size s = raw_bytes s.channels first (length s.words)

-- how many words some raw bytes are, looking at most so far; None where they end inside a word
unfoldable pub count_words : List Channel → Spot → ℕ → ℕ → Option ℕ
count_words cs s zero raw = cond (raw == 0) (Some 0) None
count_words cs s (suc k) raw =
    cond (raw == 0) (Some 0) (cond (nat_le (word_bytes cs s) raw) (option_map suc (count_words cs (advance cs s) k (raw - word_bytes cs s))) None)

-- ## Words

-- each channel has a memory of its own
pub record Turn : Type 0 where
  pub spot : Spot
  pub memories : List ℕ

abbrev pub memory_of : Turn → ℕ
memory_of t = slice_index t.memories t.spot.channel

abbrev pub next_turn : List Channel → Turn → ℕ → Turn
next_turn cs t x = record {
  spot = advance cs t.spot;
  memories = slice_set t.memories t.spot.channel (memory_after (channel_of cs t.spot) (memory_of t) x);
}

-- n words from a turn on, each in its channel's code
unfoldable pub words_from : List Channel → ℕ → Turn → Format (List ℕ)
words_from cs n t = each (λ t. word (code_at (channel_of cs t.spot) (memory_of t))) (next_turn cs) n t

-- the words of a section: memories start afresh
abbrev pub first_turn : List Channel → Turn
first_turn cs = record { spot = first; memories = replicate (length cs) 0 }
