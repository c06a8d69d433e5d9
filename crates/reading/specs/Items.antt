-- The items that are handed out for a file's head.
use Rattle.std.specs.Prelude.{◌≡◌, ℕ, ◌+◌, cond, List, length, take, drop, Some, None, Option, nat_lt}
use Rattle.std.specs.Option.{option_map}
use Rattle.bits.specs.Bits.{bits_of}
use Rattle.faults.specs.Faults.{Answer, gives}
use Rattle.faults.specs.Faults as faults
use Rattle.format.specs.Format.{Outcome, got, fault}
use Rattle.layout.specs.Slim.{most_bytes}
use Rattle.reading.specs.Heads as heads
use Rattle.reading.specs.Heads.{part_bytes}
use Rattle.reading.specs.declared.part.Part.{Part}
use Rattle.reading.specs.declared.item.Head.{Head}
use Rattle.reading.specs.declared.item.Item.{Item}
use Rattle.reading.specs.declared.item.Item.TheVariants.{Number, Bytes}

-- an item is a number or some bytes
pub data Said : Type 0 where
  number : ℕ → Said
  bytes : List ℕ → Said

pub record Items : Type 0 where
  pub stamp : Said
  pub flags : Said
  pub size : Option Said
  pub name : Option Said
  pub extra : Option Said

-- the items of a head
abbrev pub items_of : heads.Head → Items
items_of h = record { stamp = number h.stamp; flags = number h.flags; size = option_map number h.size; name = option_map bytes h.name; extra = option_map bytes h.extra }

-- fault 1 where the file is too long, and else what the description of the head gives
abbrev pub headed : Outcome heads.Head → Answer Items
headed (got h p l) = gives (items_of h)
headed (fault n q) = faults.fault n q

abbrev pub head_answer : List ℕ → Answer Items
head_answer file = cond (nat_lt most_bytes (length file)) (faults.fault 1 0) (headed ((heads.head).reads (bits_of file) 0 0))

-- ## The items of the code

abbrev pub said : Item → Said
said (Number n) = number n
said (Bytes s) = bytes s.now

abbrev pub said_part : List ℕ → Part → Said
said_part file p = bytes (part_bytes file p)

abbrev pub handed : Head → Items
handed h = record { stamp = said h.stamp; flags = said h.flags; size = option_map said h.size; name = option_map said h.name; extra = option_map said h.extra }

-- ## Where the bytes stand

-- bytes, if there are any, are those of the file from a byte on
abbrev pub StandsAt : List ℕ → ℕ → Option Item → Type 0
StandsAt file at None = Unit {0}
StandsAt file at (Some (Number n)) = Unit {0}
StandsAt file at (Some (Bytes s)) = s.now ≡ take (length s.now) (drop at file)

-- how many bytes an item takes: a number four, others a zero byte more than they have
abbrev pub room : Option Item → ℕ
room None = 0
room (Some (Number n)) = 4
room (Some (Bytes s)) = length s.now + 1

-- the byte of the name, behind the two first bytes, the stamp, the flags and the size
abbrev pub name_byte : Head → ℕ
name_byte h = 7 + room h.size

-- the byte of the extra bytes, behind the name and their count
abbrev pub extra_byte : Head → ℕ
extra_byte h = name_byte h + room h.name + 2
