-- Fields of one width, one after another from the first bit on.
use Rattle.std.specs.Prelude.{ℕ, zero, suc, ◌+◌, ◌-◌, ◌*◌, ◌/◌, ◌%◌, ◌^◌, min, Bool, false, cond, List, length, ℤ, pos, negsuc, bit_or, bit_xor, nat_le}
use Rattle.bits.specs.Bits.{bits, put_bits, field_at}
use Rattle.fields.specs.Fields.{remaining}

-- the value of a field, by its index
abbrev pub mixed : ℕ → ℕ
mixed i = (i * 11400714819323198485) % 2 ^ 64

-- so many fields of a width lie within so many bytes
abbrev pub packs : ℕ → ℕ → ℕ → Bool
packs width count size = cond (nat_le width 64) (nat_le (width * count) (8 * size)) false

-- how many bytes they take, or -1
abbrev pub packed_size : ℕ → ℕ → ℕ → ℤ
packed_size width count size = cond (packs width count size) (pos ((width * count + 7) / 8)) (negsuc 0)

-- a file with so many fields put
unfoldable pub packed : List ℕ → ℕ → ℕ → List ℕ
packed file width zero = file
packed file width (suc i) = put_bits (packed file width i) (width * i) (bits width (mixed i))

-- a checksum with one more value: turned by a bit, then xor
abbrev pub summed : ℕ → ℕ → ℕ
summed sum v = bit_xor (bit_or ((sum * 2) % 2 ^ 64) (sum / 2 ^ 63)) v

-- the checksum of so many fields more, from a place on; 0 where the file ends before
unfoldable pub checksum : List ℕ → ℕ → ℕ → ℕ → ℕ → ℕ
checksum file width zero at sum = sum
checksum file width (suc n) at sum =
    cond (nat_le width (remaining at (length file))) (checksum file width n (min (at + width) (2 ^ 64 - 1)) (summed sum (field_at file at width))) 0
