-- The words of a section as raw bytes.
use Rattle.std.specs.Prelude.{ℕ, zero, suc, ◌+◌, ◌-◌, ◌*◌, Bool, true, false, cond, ◌&&◌, List, [], ◌∷◌, ◌++◌, length, ◌==◌, nat_le}
use Rattle.bits.specs.Bits.{bits, bytes, bits_of, put_bits}
use Rattle.forms.specs.Code.{Code}
use Rattle.forms.specs.Coding.{Coding}
use Rattle.format.specs.Format.{got, fault}
use Rattle.format.specs.Word.{word}
use Rattle.layout.specs.Recording.{Channel}
use Rattle.layout.specs.Channels.{code_at}
use Rattle.layout.specs.Turns.{Spot, first, Turn, channel_of, memory_of, word_bytes, advance, next_turn, first_turn}
use Rattle.layout.specs.Slim.{most_bytes}
use Rattle.words.specs.Words.{readable, word_next}

-- the raw bytes of words, from a spot on: low byte first, each as wide as its channel's words
unfoldable pub raw_of : List Channel → Spot → List ℕ → List ℕ
raw_of cs s [] = []
raw_of cs s (x ∷ xs) = bytes (word_bytes cs s) (bits (8 * word_bytes cs s) x) ++ raw_of cs (advance cs s) xs

-- of the next n words in a file, those before the first that is not read or has no room in so many bytes
unfoldable pub fitting : List Channel → List ℕ → ℕ → Turn → ℕ → ℕ → List ℕ
fitting cs f zero t at room = []
fitting cs f (suc n) t at room =
    elim (word_next cs t f at) [
      | got x p l ↦ cond (nat_le (word_bytes cs t.spot) room) (x ∷ fitting cs f n (next_turn cs t x) p (room - word_bytes cs t.spot)) []
      | fault i p ↦ []
    ]

-- the words of a section that are spread
abbrev pub spreadable : List Channel → List ℕ → ℕ → ℕ → ℕ → List ℕ
spreadable cs f at n room = fitting cs f n (first_turn cs) at room

-- are these all of them?
abbrev pub spread_answer : List Channel → List ℕ → ℕ → ℕ → ℕ → ℕ → Bool
spread_answer cs f at n len to = readable cs (length f) && length (spreadable cs f at n (len - to)) == n

-- what the bytes then hold
abbrev pub spread_bytes : List Channel → List ℕ → ℕ → ℕ → List ℕ → ℕ → List ℕ
spread_bytes cs f at n out to = cond (readable cs (length f)) (put_bits out (8 * to) (bits_of (raw_of cs first (spreadable cs f at n (length out - to))))) out

-- ## Word by word

-- n words read and put in turn: whether all were, and the bytes. The code and the size of each word depend on a memory, which the word moves on
module _ {M : Type 0} (code : M → Code) (step : M → ℕ → M) (size : M → ℕ) (f : List ℕ) where
  unfoldable pub spread : ℕ → M → ℕ → List ℕ → ℕ → Bool × List ℕ
  spread zero m at out to = (true, out)
  spread (suc n) m at out to =
      elim ((word (code m)).reads (bits_of f) at 0) [
        | got x p l ↦ cond (nat_le (to + size m) (length out)) (spread n (step m x) p (put_bits out (8 * to) (bits (8 * size m) x)) (to + size m)) (false, out)
        | fault i p ↦ (false, out)
      ]

-- one channel
abbrev pub coder_spread : Coding (ℕ × Unit {0}) → ℕ → List ℕ → ℕ → ℕ → List ℕ → ℕ → Bool × List ℕ
coder_spread C size f at n out to = cond (nat_le (length f) most_bytes) (spread C.code C.after (λ m. size) f n (0, tt) at out to) (false, out)

-- several
abbrev pub turn_spread : List Channel → List ℕ → ℕ → Turn → ℕ → List ℕ → ℕ → Bool × List ℕ
turn_spread cs f n t at out to = spread (λ t. code_at (channel_of cs t.spot) (memory_of t)) (next_turn cs) (λ t. word_bytes cs t.spot) f n t at out to
