-- What the calls on fields answer and leave.
use Rattle.std.specs.Prelude.{ℕ, ◌+◌, ◌-◌, ◌*◌, min, Bool, false, cond, List, nat_le}
use Rattle.bits.specs.Bits.{bits, put_bits}

-- the n bits from a place on lie within so many bytes
abbrev pub within : ℕ → ℕ → ℕ → Bool
within at n size = nat_le (at + n) (8 * size)

-- a field: at most 64 bits, all of them within so many bytes
abbrev pub is_field : ℕ → ℕ → ℕ → Bool
is_field at n size = cond (nat_le n 64) (within at n size) false

-- how many of the 64 bits from a place on there are
abbrev pub remaining : ℕ → ℕ → ℕ
remaining at size = min 64 (8 * size - at)

-- the bytes with the bits put that wait in a word: the first of them belongs at the byte `place`
abbrev pub held : List ℕ → ℕ → ℕ → ℕ → List ℕ
held file place word have = put_bits file (8 * place) (bits have word)

-- the bit behind those that wait
abbrev pub held_end : ℕ → ℕ → ℕ
held_end place have = 8 * place + have

-- a raw word: one to four bytes, all of them within so many
abbrev pub is_raw : ℕ → ℕ → ℕ → Bool
is_raw at k size = cond (nat_le 1 k) (cond (nat_le k 4) (nat_le (at + k) size) false) false
