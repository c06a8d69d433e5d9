-- Whether a head can be written, and what it then holds.
use Rattle.std.specs.Prelude.{ℕ, ◌*◌, ◌/◌, Bool, cond, ◌&&◌, List, [], ◌++◌, length, Some, None, Option, nat_le, option_copied}
use Rattle.bits.specs.Bits.{bits, put_bits}
use Rattle.layout.specs.Slim.{most_bytes, is_given}
use Rattle.calls.specs.Parts.{marks_byte}
use Rattle.calls.specs.Calls.{marks, head, name_fits, extra_fits}
use Rattle.heads.specs.declared.Head.{Head}

-- the buffer keeps the limit, name and extra bytes keep theirs, and the head fits
abbrev pub head_fits : Option (List ℕ) → Option (List ℕ) → List Bool → ℕ → Bool
head_fits name extra head len = nat_le len most_bytes && ((name_fits name && extra_fits extra) && nat_le (length head) (8 * len))

-- what every head has, and a size of 0 if flagged
abbrev pub first_bits : ℕ → ℕ → Bool → List Bool
first_bits stamp byte sized = bits 16 0x4c53 ++ (bits 32 stamp ++ (bits 8 byte ++ cond sized (bits 32 0) []))

-- ## What a caller gives

-- the flag byte
abbrev pub flags_in : Head → ℕ
flags_in h = marks_byte (marks h.flags) (is_given (option_copied h.name)) (is_given (option_copied h.extra))

-- the head, with a size of 0
abbrev pub head_of : Head → List Bool
head_of h = head h.stamp h.flags (option_copied h.name) (option_copied h.extra)

-- the head goes into a buffer of so many bytes
abbrev pub fits : Head → ℕ → Bool
fits h len = head_fits (option_copied h.name) (option_copied h.extra) (head_of h) len

-- the byte behind it
abbrev pub head_end : Head → ℕ → Option ℕ
head_end h len = cond (fits h len) (Some (length (head_of h) / 8)) None

-- what the buffer then holds
abbrev pub head_bytes : Head → List ℕ → List ℕ
head_bytes h b = cond (fits h (length b)) (put_bits b 0 (head_of h)) b
