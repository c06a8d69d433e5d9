-- The items that are handed out.
use Rattle.std.proofs.Common.{◌≡◌, ℕ, ◌+◌, ◌<◌, ◌≤◌, Bool, true, false, cond, ltb, List, length, take, drop, IsErrAnd, Some, None, Ok, Err, Option, Result, sym, refl, ap, ◌∙◌, subst, arith, length-drop}
use Rattle.std.proofs.lemmas.Bool.{le-ltb, lt-ltb}
use Rattle.std.proofs.lemmas.List.{length-take-le}
use Rattle.std.specs.Option.{option_map}
use Rattle.bits.specs.Bits.{bits_of}
use Rattle.faults.specs.Faults.{gives}
use Rattle.faults.specs.declared.kind.Kind.TheVariants.{WrongLength}
use Rattle.faults.specs.declared.kind.Fault.{Fault}
use Rattle.faults.specs.Faults as faults
use Rattle.format.specs.Format.{got, fault}
use Rattle.layout.specs.Slim.{most_bytes}
use Rattle.reading.specs.Heads as heads
use Rattle.reading.specs.Heads.{part_bytes, head_in, PartAt, size_room, name_room}
use Rattle.reading.specs.Items.{Said, number, bytes, headed, head_answer, handed, said, said_part, StandsAt, room}
use Rattle.reading.specs.declared.part.Part.{Part}
use Rattle.reading.specs.declared.front.Front.{Front}
use Rattle.reading.specs.declared.item.Head.{Head}
use Rattle.reading.specs.declared.item.Item.{Item}
use Rattle.reading.specs.declared.item.Item.TheVariants.{Number, Bytes}

part-said : (file : List ℕ) (o : Option Part) → option_map (said_part file) o ≡ option_map bytes (option_map (part_bytes file) o)
part-said file None = refl
part-said file (Some p) = refl

-- what is handed out is what the description gives
pub items-are : (file : List ℕ) (h : Front) (q m : ℕ) (size name extra : Option Said) → length file ≤ 16777216 → size ≡ option_map number h.size → name ≡ option_map (said_part file) h.name → extra ≡ option_map (said_part file) h.extra →
    got (head_in file h) q m ≡ (heads.head).reads (bits_of file) 0 0 →
    gives (record { stamp = number h.stamp; flags = number h.flags; size = size; name = name; extra = extra }) ≡ head_answer file
items-are file h q m size name extra few a b c e =
    let t : ltb most_bytes (length file) ≡ false = le-ltb most_bytes (length file) few in
    let b' = b ∙ part-said file h.name in
    let c' = c ∙ part-said file h.extra in
    ap (λ (z : Option Said). gives (record { stamp = number h.stamp; flags = number h.flags; size = z; name = name; extra = extra })) a
    ∙ ap (λ (z : Option Said). gives (record { stamp = number h.stamp; flags = number h.flags; size = option_map number h.size; name = z; extra = extra })) b'
    ∙ ap (λ (z : Option Said). gives (record { stamp = number h.stamp; flags = number h.flags; size = option_map number h.size; name = option_map bytes (option_map (part_bytes file) h.name); extra = z })) c'
    ∙ ap headed e
    ∙ ap (λ (x : Bool). cond x (faults.fault 1 0) (headed ((heads.head).reads (bits_of file) 0 0))) (sym t)

-- a file that is too long
pub too_long : (file : List ℕ) (r : Fault) → 16777216 < length file → r ≡ record { kind = WrongLength; place = record { bits = 0 } } →
    faults.fault (faults.number_of r.kind) r.place.bits ≡ head_answer file
too_long file r many e =
    let t : ltb most_bytes (length file) ≡ true = lt-ltb most_bytes (length file) many in
    ap (λ (x : Fault). faults.fault (faults.number_of x.kind) x.place.bits) e
    ∙ ap (λ (x : Bool). cond x (faults.fault 1 0) (headed ((heads.head).reads (bits_of file) 0 0))) (sym t)

pub handed_on : (file : List ℕ) (r : Result Head Fault) (e : Fault) → IsErrAnd r (λ x. x ≡ e) → faults.fault (faults.number_of e.kind) e.place.bits ≡ head_answer file → faults.answered handed r ≡ head_answer file
handed_on file (Ok h) e x d = absurd x
handed_on file (Err y) e x d = ap (λ (z : Fault). faults.fault (faults.number_of z.kind) z.place.bits) x ∙ d

-- a part lies within the file
pub part_inside : (file : List ℕ) (at : ℕ) (p : Part) (o : Option Part) → o ≡ Some p → PartAt file at o → p.at.bytes + p.len ≤ length file
part_inside file at p o e h = let (a, b) = subst (λ (z : Option Part). PartAt file at z) e h in omega (arith, a, b)

-- a fault that is handed on
pub head_passed : (file : List ℕ) (r : Result Head Fault) (e : Fault) → length file ≤ 16777216 → IsErrAnd r (λ x. x ≡ e) →
    fault (faults.number_of e.kind) e.place.bits ≡ (heads.head).reads (bits_of file) 0 0 → faults.answered handed r ≡ head_answer file
head_passed file r e few x d =
    let t : ltb most_bytes (length file) ≡ false = le-ltb most_bytes (length file) few in
    handed_on file r e x (ap headed d ∙ ap (λ (b : Bool). cond b (faults.fault 1 0) (headed ((heads.head).reads (bits_of file) 0 0))) (sym t))

some_is : {A : Type 0} {a b : A} → Some a ≡ Some b → a ≡ b
some_is {A} {a} {b} e = cc

apart : {A : Type 0} {a : A} → Some a ≡ None → ⊥
apart {A} {a} e = let z : ◌≡◌ {A = ℕ} 0 1 = cc in omega arith

bytes-are : {a b : List ℕ} → bytes a ≡ bytes b → a ≡ b
bytes-are {a} {b} e = cc

other-kind : {a : List ℕ} {n : ℕ} → bytes a ≡ number n → ⊥
other-kind {a} {n} e = let z : ◌≡◌ {A = ℕ} 0 1 = cc in omega arith

-- the bytes of a part within the file
part_length : (file : List ℕ) (a : ℕ) (p : Part) → PartAt file a (Some p) → length (part_bytes file p) ≡ p.len
part_length file a p (at, inside) = length-take-le p.len (drop p.at.bytes file) (simp length-drop (omega arith))

pub stands : (file : List ℕ) (r : Option Item) (o : Option Part) (a b : ℕ) → option_map said r ≡ option_map (said_part file) o → PartAt file a o → a ≡ b → StandsAt file b r
stands file None o a b e h i = tt
stands file (Some (Number n)) o a b e h i = tt
stands file (Some (Bytes s)) None a b e h i = absurd (apart e)
stands file (Some (Bytes s)) (Some p) a b e h i =
    let same : s.now ≡ part_bytes file p = bytes-are (some_is e) in
    let l : length s.now ≡ p.len = ap length same ∙ part_length file a p h in
    same ∙ ap (λ (n : ℕ). take n (drop p.at.bytes file)) (sym l) ∙ ap (λ (x : ℕ). take (length s.now) (drop x file)) (h.0 ∙ i)

pub room-size : (r : Option Item) (o : Option ℕ) → option_map said r ≡ option_map number o → room r ≡ size_room o
room-size None None e = refl
room-size None (Some n) e = absurd (apart (sym e))
room-size (Some (Number n)) None e = absurd (apart e)
room-size (Some (Number n)) (Some m) e = refl
room-size (Some (Bytes s)) None e = absurd (apart e)
room-size (Some (Bytes s)) (Some m) e = absurd (other-kind (some_is e))

pub room-name : (file : List ℕ) (a : ℕ) (r : Option Item) (o : Option Part) → option_map said r ≡ option_map (said_part file) o → PartAt file a o → room r ≡ name_room o
room-name file a None None e h = refl
room-name file a None (Some p) e h = absurd (apart (sym e))
room-name file a (Some (Number n)) None e h = absurd (apart e)
room-name file a (Some (Number n)) (Some p) e h = absurd (other-kind (sym (some_is e)))
room-name file a (Some (Bytes s)) None e h = absurd (apart e)
room-name file a (Some (Bytes s)) (Some p) e h = ap (λ (n : ℕ). n + 1) (ap length (bytes-are (some_is e)) ∙ part_length file a p h)
