-- Bit strings, lowest bit first: bit k of a file is bit k % 8 of its byte k / 8.
use Rattle.std.specs.Prelude.{ℕ, zero, suc, ◌+◌, ◌-◌, ◌*◌, ◌/◌, ◌%◌, ◌<◌, Bool, true, false, List, [], ◌∷◌, ◌++◌, length, take, drop, replicate, ◌==◌}

-- ## Numbers

-- the lowest bit of a number
unfoldable pub odd : ℕ → Bool
odd v = v % 2 == 1

-- what a bit counts as
unfoldable pub worth : Bool → ℕ
worth true = 1
worth false = 0

-- the n lowest bits of v, lowest first
unfoldable pub bits : ℕ → ℕ → List Bool
bits zero v = []
bits (suc n) v = odd v ∷ bits n (v / 2)

-- the number that bits make, lowest first
unfoldable pub number : List Bool → ℕ
number [] = 0
number (b ∷ bs) = number bs * 2 + worth b

-- ## Bytes

-- each number is a byte
unfoldable pub Bytes : List ℕ → Type 0
Bytes [] = Unit {0}
Bytes (x ∷ xs) = (x < 256) × Bytes xs

-- the bits of a file
unfoldable pub bits_of : List ℕ → List Bool
bits_of [] = []
bits_of (x ∷ xs) = bits 8 x ++ bits_of xs

-- the first n bytes of bits, with zeros past the end
unfoldable pub bytes : ℕ → List Bool → List ℕ
bytes zero bs = []
bytes (suc n) bs = number (take 8 bs) ∷ bytes n (drop 8 bs)

-- the file of some bits, whose last byte is filled up with zeros
unfoldable pub bytes_of : List Bool → List ℕ
bytes_of bs = bytes ((length bs + 7) / 8) bs

-- ## Fields in a file

-- the number in the n bits from a place on, where what is past the end is zero
unfoldable pub field_at : List ℕ → ℕ → ℕ → ℕ
field_at file at n = number (take n (drop at (bits_of file)))

-- bits with some overwritten, from a place on
unfoldable pub overwritten : List Bool → ℕ → List Bool → List Bool
overwritten old at new = take at old ++ (new ++ drop (at + length new) old)

-- a file with some of its bits overwritten, from a place on
unfoldable pub put_bits : List ℕ → ℕ → List Bool → List ℕ
put_bits file at bs = bytes_of (overwritten (bits_of file) at bs)

-- a file with every bit zero from a place on
unfoldable pub cleared_from : List ℕ → ℕ → List ℕ
cleared_from file at = put_bits file at (replicate (8 * length file - at) false)

-- a file with n bytes replaced by those of v, lowest first
unfoldable pub stored : List ℕ → ℕ → ℕ → ℕ → List ℕ
stored file p n v = take p file ++ (bytes n (bits (8 * n) v) ++ drop (p + n) file)
