-- A file unpacked: the raw bytes of its sections, and its leftovers.
use Rattle.std.specs.Prelude.{◌≡◌, ℕ, ◌≤◌, cond, List, [], ◌∷◌, ◌++◌, length, take, drop, nat_le}
use Rattle.faults.specs.Faults as faults
use Rattle.faults.specs.Faults.{Answer, gives}
use Rattle.format.specs.Format.{Outcome, got, fault}
use Rattle.layout.specs.Recording.{Section, Recording}
use Rattle.layout.specs.Turns.{first}
use Rattle.layout.specs.Slim.{Body, read}
use Rattle.layout.specs.Claims.{Gives}
use Rattle.words.specs.Spread.{raw_of}

abbrev pub section_bytes : Section → List ℕ
section_bytes s = raw_of s.channels first s.words

-- one section's after the other's
unfoldable pub sections_bytes : List Section → List ℕ
sections_bytes [] = []
sections_bytes (s ∷ ss) = section_bytes s ++ sections_bytes ss

-- behind them the leftovers
abbrev pub contents : List Section → List ℕ → List ℕ
contents ss ls = sections_bytes ss ++ ls

abbrev pub contents_of : Recording → List ℕ
contents_of r = contents r.sections r.leftovers

-- bytes with others written over their front
abbrev pub fronted : List ℕ → List ℕ → List ℕ
fronted bs out = bs ++ drop (length bs) out

-- ## The call

-- what was read, as the answer of a call that has room for so many bytes
abbrev pub room_answer : Outcome Recording → ℕ → Answer ℕ
room_answer (got r p l) room = cond (nat_le (length (contents_of r)) room) (gives (length (contents_of r))) (faults.fault 2 0)
room_answer (fault n q) room = faults.fault n q

abbrev pub unpack_answer : List ℕ → ℕ → Answer ℕ
unpack_answer f room = room_answer (read f) room

-- what the bytes then hold
abbrev pub room_bytes : Outcome Recording → List ℕ → List ℕ
room_bytes (got r p l) out = cond (nat_le (length (contents_of r)) (length out)) (fronted (contents_of r) out) out
room_bytes (fault n q) out = out

abbrev pub unpack_bytes : List ℕ → List ℕ → List ℕ
unpack_bytes f out = room_bytes (read f) out

-- where the file f gives a recording and there is room, the recording's bytes are written, and their number is answered
abbrev pub Unpacks : List ℕ → List ℕ → Answer ℕ → List ℕ → Type 0
Unpacks f out answer left =
    (r : Recording) → Gives f r → length (contents_of r) ≤ length out → (answer ≡ gives (length (contents_of r))) × (take (length (contents_of r)) left ≡ contents_of r)

-- ## All sections

-- sections and leftovers are read, and there is room for their bytes
abbrev pub RoomFor : Outcome Body → ℕ → Type 0
RoomFor (got b p l) room = (length b.leftovers ≤ 7) × (length (contents b.sections b.leftovers) ≤ room)
RoomFor (fault n q) room = ⊥

abbrev pub body_answer : Outcome Body → Answer ℕ
body_answer (got b p l) = gives (length (contents b.sections b.leftovers))
body_answer (fault n q) = faults.fault n q

abbrev pub body_left : Outcome Body → List ℕ → List ℕ
body_left (got b p l) out = fronted (contents b.sections b.leftovers) out
body_left (fault n q) out = out
