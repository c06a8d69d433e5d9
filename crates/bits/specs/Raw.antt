-- Raw words: numbers in whole bytes, the low byte first.
use Rattle.std.specs.Prelude.{ℕ, zero, suc, ◌*◌, ◌/◌, List, [], ◌∷◌, ◌++◌, length, drop}
use Rattle.bits.specs.Bits.{bits, bytes, field_at}

-- the first n words of k bytes each
unfoldable pub raw_words : ℕ → ℕ → List ℕ → List ℕ
raw_words k zero raw = []
raw_words k (suc n) raw = field_at raw 0 (8 * k) ∷ raw_words k n (drop k raw)

-- the bytes of words, k bytes each
unfoldable pub raw_bytes : ℕ → List ℕ → List ℕ
raw_bytes k [] = []
raw_bytes k (x ∷ xs) = bytes k (bits (8 * k) x) ++ raw_bytes k xs

-- the whole words of raw bytes, k bytes each
abbrev pub words_in : ℕ → List ℕ → List ℕ
words_in k raw = raw_words k (length raw / k) raw
