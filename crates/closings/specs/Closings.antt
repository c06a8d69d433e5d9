-- Whether a closing can be written, and where it ends.
use Rattle.std.specs.Prelude.{ℕ, ◌+◌, ◌*◌, ◌/◌, Bool, false, cond, ◌&&◌, List, ◌++◌, length, replicate, Some, None, Option, nat_le}
use Rattle.bits.specs.Bits.{bits, put_bits}
use Rattle.format.specs.Format.{gap}
use Rattle.layout.specs.Slim.{most_bytes, Closing, leftovers_of}
use Rattle.calls.specs.Parts.{closing_bits}

-- the buffer keeps the limit, there are at most 7 leftovers, and the closing fits
abbrev pub closing_fits : ℕ → Closing → ℕ → Bool
closing_fits at e len = nat_le len most_bytes && (nat_le (length (leftovers_of e)) 7 && nat_le (at + length (closing_bits at e)) (8 * len))

-- the byte behind a closing
abbrev pub closing_end : ℕ → Closing → ℕ → Option ℕ
closing_end at e len = cond (closing_fits at e len) (Some ((at + length (closing_bits at e)) / 8)) None

abbrev pub closing_bytes : ℕ → Closing → List ℕ → List ℕ
closing_bytes at e b = cond (closing_fits at e (length b)) (put_bits b at (closing_bits at e)) b

-- a number's bits, and zeros up to a whole byte
abbrev pub padded_bits : ℕ → ℕ → ℕ → List Bool
padded_bits at value count = bits count value ++ replicate (gap (at + count)) false

-- the byte behind them, where they lie within so many bytes
abbrev pub padded_end : ℕ → ℕ → ℕ → ℕ → Option ℕ
padded_end at value count len = cond (nat_le (at + length (padded_bits at value count)) (8 * len)) (Some ((at + length (padded_bits at value count)) / 8)) None

abbrev pub padded_bytes : ℕ → ℕ → ℕ → List ℕ → List ℕ
padded_bytes at value count b = cond (nat_le (at + length (padded_bits at value count)) (8 * length b)) (put_bits b at (padded_bits at value count)) b
