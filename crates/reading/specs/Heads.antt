-- The head of a file, read alone.
use Rattle.std.specs.Prelude.{◌≡◌, ℕ, ◌+◌, ◌≤◌, Bool, true, false, List, length, take, drop, Some, None, Option, nat_eq, nat_lt}
use Rattle.std.specs.Option.{option_map}
use Rattle.format.specs.Format.{Format, field, whole, ◌>>=◌, ◌∈◌}
use Rattle.layout.specs.Slim.{any, flag, flagged, name_bytes, extra_bytes, most_name}
use Rattle.reading.specs.declared.part.Part.{Part}
use Rattle.reading.specs.declared.front.Front.{Front}

pub record Head : Type 0 where
  pub stamp : ℕ
  pub flags : ℕ
  pub size : Option ℕ
  pub name : Option (List ℕ)
  pub extra : Option (List ℕ)

abbrev pub size_of : Option ℕ → ℕ
size_of None = 0
size_of (Some n) = n

-- the size, where it is flagged; it is not judged
unfoldable pub size_field : Bool → Format (Option ℕ)
size_field true = do
  n ← size_of ∈ field 32 any 0
  whole (Some n)
size_field false = whole None

-- the fields of a file in front of its sections
unfoldable pub head : Format Head
head = do
  _ ← (λ h. 0x4c53) ∈ field 16 (nat_eq 0x4c53) 12
  s ← (λ h. h.stamp) ∈ field 32 any 0
  g ← (λ h. h.flags) ∈ field 8 (λ g. nat_lt g 64) 3
  z ← (λ h. h.size) ∈ size_field (flag 0 g)
  n ← (λ h. h.name) ∈ flagged (flag 1 g) (name_bytes most_name)
  x ← (λ h. h.extra) ∈ flagged (flag 2 g) extra_bytes
  whole (record { stamp = s; flags = g; size = z; name = n; extra = x })

-- the bytes of a part of the file
abbrev pub part_bytes : List ℕ → Part → List ℕ
part_bytes file p = take p.len (drop p.at.bytes file)

-- a part, if there is one, begins at a byte and lies within the file
abbrev pub PartAt : List ℕ → ℕ → Option Part → Type 0
PartAt file at None = Unit {0}
PartAt file at (Some p) = (p.at.bytes ≡ at) × (at + p.len ≤ length file)

-- how many bytes the size takes, and the name with its zero byte
abbrev pub size_room : Option ℕ → ℕ
size_room None = 0
size_room (Some n) = 4

abbrev pub name_room : Option Part → ℕ
name_room None = 0
name_room (Some p) = p.len + 1

-- the byte of the name, behind the two first bytes, the stamp, the flags and the size
abbrev pub name_place : Front → ℕ
name_place h = 7 + size_room h.size

-- the byte of the extra bytes, behind the name and their count
abbrev pub extra_place : Front → ℕ
extra_place h = name_place h + name_room h.name + 2

abbrev pub head_in : List ℕ → Front → Head
head_in file h = record { stamp = h.stamp; flags = h.flags; size = h.size; name = option_map (part_bytes file) h.name; extra = option_map (part_bytes file) h.extra }
