-- Parts that are there only where they are flagged, and items made of them.
use Rattle.std.proofs.Common.{◌≡◌, ℕ, ◌+◌, ◌*◌, Bool, true, false, List, IfOk, IsSomeAnd, Some, None, Ok, Err, Option, Result, sym, refl, ap, ◌∙◌, subst, arith}
use Rattle.std.specs.Option.{option_map, MatchOption}
use Rattle.fields.specs.declared.place.Cursor.{Cursor}
use Rattle.faults.specs.declared.kind.Fault.{Fault}
use Rattle.format.specs.Cells.{File}
use Rattle.format.specs.Format.{Outcome, got, Format, field}
use Rattle.layout.specs.Slim.{any, flagged}
use Rattle.reading.specs.declared.taken.Taken.{Taken}
use Rattle.reading.specs.declared.part.Part.{Part}
use Rattle.reading.specs.declared.item.Item.{Item}
use Rattle.reading.specs.Told.{told}
use Rattle.reading.specs.Flags.{absent, some, Present}
use Rattle.bits.specs.Bits.{bits_of}
use Rattle.reading.specs.Heads.{size_field, size_room, name_room, part_bytes, PartAt}
use Rattle.reading.specs.Items.{said, said_part}
use Rattle.reading.proofs.Names.{field-got}
use Rattle.reading.proofs.Fronts.{flagged-off, flagged-on, flagged-not, size-off, size-on, size-not}

module _ {T : Type 0} (P : Result (Taken T) Fault → Type 0) (from : Cursor) where
  -- what is told of the part
  pub optional-told : {B : Type 0} (parts : Option T → B) (t : Bool) (r : Result (Taken (Option T)) Fault) (o : Outcome B) → (t ≡ false → r ≡ absent from) → (t ≡ true → Present P r) →
      (t ≡ false → got (parts None) from.at.bits from.last.bits ≡ o) → (t ≡ true → (x : Result (Taken T) Fault) → P x → told parts (some x) ≡ o) → told parts r ≡ o
  optional-told parts true r o a b none one = let (x, p, e) = b refl in ap (told parts) e ∙ one refl x p
  optional-told parts false r o a b none one = ap (told parts) (a refl) ∙ none refl

  -- what holds of the part, if it was read
  pub optional_ok : (Q : Taken (Option T) → Type 0) (t : Bool) (r : Result (Taken (Option T)) Fault) → (t ≡ false → r ≡ absent from) → (t ≡ true → Present P r) →
      Q (record { value = None; end = from }) → ((x : Result (Taken T) Fault) → P x → IfOk x (λ y. Q (record { value = Some y.value; end = y.end }))) → IfOk r Q
  optional_ok Q true r a b none one = let (x, p, e) = b refl in subst (λ (z : Result (Taken (Option T)) Fault). IfOk z Q) (sym e) (some_ok x (one x p))
    where
      some_ok : (x : Result (Taken T) Fault) → IfOk x (λ y. Q (record { value = Some y.value; end = y.end })) → IfOk (some x) Q
      some_ok (Ok y) h = h
      some_ok (Err e) h = h
  optional_ok Q false r a b none one = subst (λ (z : Result (Taken (Option T)) Fault). IfOk z Q) (sym (a refl)) none

module _ (t : Bool) (on : t ≡ true) (f : File) (p l : ℕ) where
  pub flagged-told : {T : Type 0} (parts : T → List ℕ) (F : Format (List ℕ)) (x : Result (Taken T) Fault) → told parts x ≡ F.reads f p l → told (option_map parts) (some x) ≡ (flagged t F).reads f p l
  flagged-told parts F (Ok y) h = flagged-on t F f p l on h
  flagged-told parts F (Err y) h = flagged-not t F f p l on h

  pub size-told : (x : Result (Taken ℕ) Fault) → told (λ v. v) x ≡ (field 32 any 0).reads f p l → told (λ z. z) (some x) ≡ (size_field t).reads f p l
  size-told (Ok y) h = size-on t f p l on h
  size-told (Err y) h = size-not t f p l on h

-- the place behind a size
pub size_behind : (f : File) (p l : ℕ) (x : Result (Taken ℕ) Fault) → told (λ v. v) x ≡ (field 32 any 0).reads f p l → IfOk x (λ y. y.end.at.bits ≡ p + 8 * size_room (Some y.value))
size_behind f p l (Ok y) h = let (_, _, to, _) = field-got 32 f p l y.value y.end.at.bits y.end.last.bits h in omega (arith, to)
size_behind f p l (Err y) h = tt

-- the item of a part that may be absent
pub item-of : (file : List ℕ) (P : Part → Item → Type 0) (o : Option Part) (r : Option Item) → MatchOption o (r ≡ None) (λ x. IsSomeAnd r (P x)) → ((x : Part) (y : Item) → P x y → said y ≡ said_part file x) →
    option_map said r ≡ option_map (said_part file) o
item-of file P None r h each = ap (option_map said) h
item-of file P (Some x) None h each = absurd h
item-of file P (Some x) (Some y) h each = ap Some (each x y h)

-- a part of the file, if it is flagged: its bytes, and what holds of it
module _ (file : List ℕ) (F : Format (List ℕ)) (t : Bool) (from : Cursor) (P : Result (Taken Part) Fault → Type 0) (r : Result (Taken (Option Part)) Fault) (off : t ≡ false → r ≡ absent from) (on : t ≡ true → Present P r) where
  pub flagged-part : ((x : Result (Taken Part) Fault) → P x → told (part_bytes file) x ≡ F.reads (bits_of file) from.at.bits from.last.bits) →
      told (option_map (part_bytes file)) r ≡ (flagged t F).reads (bits_of file) from.at.bits from.last.bits
  flagged-part each =
      optional-told P from (option_map (part_bytes file)) t r _ off on (flagged-off t F (bits_of file) from.at.bits from.last.bits)
      (λ e x m. flagged-told t e (bits_of file) from.at.bits from.last.bits (part_bytes file) F x (each x m))

  pub part-stands : (at : ℕ) → ((x : Result (Taken Part) Fault) → P x → IfOk x (λ y. PartAt file at (Some y.value))) → IfOk r (λ z. PartAt file at z.value)
  part-stands at each = optional_ok P from (λ (z : Taken (Option Part)). PartAt file at z.value) t r off on tt each

  pub name_behind : ((x : Result (Taken Part) Fault) → P x → IfOk x (λ y. y.end.at.bits ≡ from.at.bits + 8 * (y.value.len + 1))) → IfOk r (λ z. z.end.at.bits ≡ from.at.bits + 8 * name_room z.value)
  name_behind each = optional_ok P from (λ (z : Taken (Option Part)). z.end.at.bits ≡ from.at.bits + 8 * name_room z.value) t r off on (omega arith) each

-- the size, if it is flagged, and the place behind it
module _ (f : File) (t : Bool) (from : Cursor) (P : Result (Taken ℕ) Fault → Type 0) (r : Result (Taken (Option ℕ)) Fault) (off : t ≡ false → r ≡ absent from) (on : t ≡ true → Present P r)
    (each : (x : Result (Taken ℕ) Fault) → P x → told (λ v. v) x ≡ (field 32 any 0).reads f from.at.bits from.last.bits) where
  pub flagged-size : told (λ z. z) r ≡ (size_field t).reads f from.at.bits from.last.bits
  flagged-size = optional-told P from (λ z. z) t r _ off on (size-off t f from.at.bits from.last.bits) (λ e x m. size-told t e f from.at.bits from.last.bits x (each x m))

  pub size-behind : IfOk r (λ z. z.end.at.bits ≡ from.at.bits + 8 * size_room z.value)
  size-behind = optional_ok P from (λ (z : Taken (Option ℕ)). z.end.at.bits ≡ from.at.bits + 8 * size_room z.value) t r off on (omega arith) (λ x m. size_behind f from.at.bits from.last.bits x (each x m))
