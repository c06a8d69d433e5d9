-- The head of a file that is accepted.
use Rattle.std.specs.Prelude.{◌≡◌, ℕ, cond, List, Some, None}
use Rattle.bits.specs.Bits.{bits_of}
use Rattle.format.specs.Format.{got}
use Rattle.layout.specs.Recording.{Recording}
use Rattle.layout.specs.Slim.{flag_byte, raw_total}
use Rattle.reading.specs.Heads.{Head, head}

-- the head of a recording
abbrev pub head_of : Recording → Head
head_of r = record { stamp = r.stamp; flags = flag_byte r; size = cond r.sized (Some (raw_total r.sections)) None; name = r.name; extra = r.extra }

-- the head that is read alone is that of the recording
abbrev pub HeadAgrees : List ℕ → Recording → Type 0
HeadAgrees f r = (p : ℕ) × (l : ℕ) × (head.reads (bits_of f) 0 0 ≡ got (head_of r) p l)
