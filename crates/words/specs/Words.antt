-- The words of a section, read from a file.
use Rattle.std.specs.Prelude.{ℕ, ◌+◌, ◌-◌, ◌*◌, ◌<◌, ◌≤◌, Bool, cond, ◌&&◌, List, length, take, Ok, Err, Result, nat_le}
use Rattle.bits.specs.Bits.{bits_of}
use Rattle.forms.specs.Coding.{Coding}
use Rattle.format.specs.Format.{Outcome, got, fault, Format, each}
use Rattle.format.specs.Word.{word}
use Rattle.faults.specs.Faults.{number_of}
use Rattle.faults.specs.declared.kind.Fault.{Fault}
use Rattle.layout.specs.Recording.{Channel}
use Rattle.layout.specs.Channels.{code_at}
use Rattle.layout.specs.Turns as turns
use Rattle.layout.specs.Turns.{channel_of, memory_of, next_turn, words_from, first_turn}
use Rattle.layout.specs.Slim.{most_bytes}
use Rattle.coder.specs.declared.step.Taken.{Taken}
use Rattle.frames.specs.Frames.{countable}
use Rattle.fields.specs.declared.place.Cursor.{Cursor}
use Rattle.words.specs.declared.turn.Turn.{Turn}

-- what reading gives, without the values
abbrev pub places : {A : Type 0} → Outcome A → Outcome (Unit {0})
places (got a p l) = got tt p l
places (fault n q) = fault n q

-- a section may have these channels, and a file this many bytes
abbrev pub readable : List Channel → ℕ → Bool
readable cs len = countable cs && nat_le len most_bytes

-- n words passed from a place on; fault 1 where nothing can be read
abbrev pub pass_answer : List Channel → List ℕ → ℕ → ℕ → ℕ → Outcome (Unit {0})
pass_answer cs f at last n = cond (readable cs (length f)) (places ((words_from cs n (first_turn cs)).reads (bits_of f) at last)) (fault 1 0)

-- what the code answers
abbrev pub told : Result Cursor Fault → Outcome (Unit {0})
told (Ok p) = got tt p.at.bits p.last.bits
told (Err f) = fault (number_of f.kind) f.place.bits

-- ## One channel

-- n words of one coder, from a memory on
unfoldable pub coder_words : Coding (ℕ × Unit {0}) → ℕ → ℕ × Unit {0} → Format (List ℕ)
coder_words C n m = each (λ m. word (C.code m)) C.after n m

abbrev pub coder_answer : Coding (ℕ × Unit {0}) → List ℕ → ℕ → ℕ → ℕ → Outcome (Unit {0})
coder_answer C f at last n = cond (nat_le (length f) most_bytes) (places ((coder_words C n (0, tt)).reads (bits_of f) at last)) (fault 1 0)

-- ## Several channels, word by word

-- the turn that the code keeps for n channels
abbrev pub turn_of : ℕ → Turn → turns.Turn
turn_of n t = record { spot = record { channel = t.channel; given = t.given }; memories = take n t.memories }

-- it names one of n channels, which has not given too many
abbrev pub Running : ℕ → Turn → Type 0
Running n t = (t.channel < n) × (t.given ≤ 16777215)

-- the word whose turn it is, read at a place
unfoldable pub word_next : List Channel → turns.Turn → List ℕ → ℕ → Outcome ℕ
word_next cs t f at = (word (code_at (channel_of cs t.spot) (memory_of t))).reads (bits_of f) at 0

-- a word that was taken at a place
abbrev pub taken : ℕ → Result (Taken ℕ) Fault → Outcome ℕ
taken at (Ok t) = got t.word (at + t.len) at
taken at (Err f) = fault (number_of f.kind) f.place.bits

-- its form lies within so many bytes
abbrev pub Within : ℕ → ℕ → Result (Taken ℕ) Fault → Type 0
Within at len (Ok t) = t.len ≤ 8 * len - at
Within at len (Err f) = Unit {0}

-- the turn behind it
abbrev pub turn_behind : List Channel → turns.Turn → Result (Taken ℕ) Fault → turns.Turn
turn_behind cs t (Ok w) = next_turn cs t w.word
turn_behind cs t (Err f) = t
