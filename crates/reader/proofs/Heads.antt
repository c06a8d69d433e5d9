-- The fields of a section's head, as they are taken.
use Rattle.std.proofs.Common.{◌≡◌, ℕ, ◌+◌, ◌<◌, ◌≤◌, Bool, true, false, ◌&&◌, leb, ◌⊎◌, List, Some, None, Ok, Err, Option, Result, refl, ap, inl, inr, le-leb}
use borrow.Author.Tests.{lt-leb}
use Rattle.std.proofs.lemmas.Bool.{lt-ltb}
use Rattle.fields.specs.declared.place.Cursor.{Cursor}
use Rattle.faults.specs.declared.kind.Fault.{Fault}
use Rattle.format.specs.Cells.{File}
use Rattle.format.specs.Format.{Outcome, got, fault, field, whole, times}
use Rattle.layout.specs.Recording.{Channel}
use Rattle.layout.specs.Slim.{Flags, any, positive, most_bytes, most_channels, channel_count, recorded, channel}
use Rattle.calls.specs.Parts.{described}
use Rattle.reading.specs.declared.taken.Taken.{Taken}
use Rattle.reading.specs.Told.{told}
use Rattle.reading.specs.Flags.{absent, some, Present}
use Rattle.reading.proofs.Optional.{optional-told}
use Rattle.reading.proofs.Steps.{then-on, then-not, whole-on, choose-on, choose-off, judged-on, judged-off, judged-not, field-on, field_off, field-not}
use Rattle.reader.specs.Sections.{raw_field, pointer_field, head}

-- ## The raw size

module _ (total : ℕ) (f : File) (p l : ℕ) where
  pub raw-not : {x y : ℕ} → fault x y ≡ (field 32 any 0).reads f p l → fault x y ≡ (raw_field total).reads f p l
  unfolding raw_field
  raw-not e = judged-not _ _ _ (field-not 32 positive 8 f p l e)

  pub raw-zero : {v q m : ℕ} → got v q m ≡ (field 32 any 0).reads f p l → v ≡ 0 → fault 8 p ≡ (raw_field total).reads f p l
  unfolding raw_field
  raw-zero e z = judged-not _ _ _ (field_off 32 positive 8 f p l e (ap positive z))

  pub raw-over : {v q m : ℕ} → got v q m ≡ (field 32 any 0).reads f p l → 0 < v → most_bytes < total + v → fault 9 m ≡ (raw_field total).reads f p l
  unfolding raw_field
  raw-over {v} e z h = judged-off _ _ _ (field-on 32 positive 8 f p l e (lt-ltb 0 v z)) (lt-leb (total + v) most_bytes h)

  pub raw-on : {v q m : ℕ} → got v q m ≡ (field 32 any 0).reads f p l → 0 < v → total + v ≤ most_bytes → got v q m ≡ (raw_field total).reads f p l
  unfolding raw_field
  raw-on {v} e z h = judged-on _ _ _ (field-on 32 positive 8 f p l e (lt-ltb 0 v z)) (le-leb (total + v) most_bytes h)

-- ## The pointer

module _ (f : File) (p l : ℕ) where
  pub pointer_none : (t : Bool) → t ≡ false → got None p l ≡ (pointer_field t).reads f p l
  unfolding pointer_field whole
  pointer_none t e = rw e refl

  pub pointer-not : {x y : ℕ} (t : Bool) → t ≡ true → fault x y ≡ (field 32 any 0).reads f p l → fault x y ≡ (pointer_field t).reads f p l
  unfolding pointer_field
  pointer-not t e h = rw e (then-not _ _ h)

  pub pointer-on : {v q m : ℕ} (t : Bool) → t ≡ true → got v q m ≡ (field 32 any 0).reads f p l → got (Some v) q m ≡ (pointer_field t).reads f p l
  unfolding pointer_field
  pointer-on t e h = rw e (then-on _ _ h (whole-on _ _ _ _))

module _ (f : File) (t : Bool) (from : Cursor) where
  -- the answer of a call that takes the number, where the pointer is flagged
  pointer-told : (x : Result (Taken ℕ) Fault) → t ≡ true → told (λ v. v) x ≡ (field 32 any 0).reads f from.at.bits from.last.bits → told (λ z. z) (some x) ≡ (pointer_field t).reads f from.at.bits from.last.bits
  pointer-told (Ok y) e h = pointer-on f from.at.bits from.last.bits t e h
  pointer-told (Err y) e h = pointer-not f from.at.bits from.last.bits t e h

  pub flagged-pointer : (P : Result (Taken ℕ) Fault → Type 0) (r : Result (Taken (Option ℕ)) Fault) → (t ≡ false → r ≡ absent from) → (t ≡ true → Present P r) →
      ((x : Result (Taken ℕ) Fault) → P x → told (λ v. v) x ≡ (field 32 any 0).reads f from.at.bits from.last.bits) → told (λ z. z) r ≡ (pointer_field t).reads f from.at.bits from.last.bits
  flagged-pointer P r off on each = optional-told P from (λ z. z) t r _ off on (pointer_none f from.at.bits from.last.bits t) (λ e x m. pointer-told x e (each x m))

-- ## The number of channels

abbrev few : ℕ → Bool
few c = positive c && leb c most_channels

none-few : (v : ℕ) → v ≡ 0 → few v ≡ false
none-few v e = rw e refl

many-few : (v : ℕ) → 32 < v → few v ≡ false
many-few v h = by-test (positive v) (lt-leb v most_channels h)
  where
    by-test : {y : Bool} (x : Bool) → y ≡ false → (x && y) ≡ false
    by-test true e = e
    by-test false e = refl

not-few : (v : ℕ) → (v ≡ 0) ⊎ ((v ≡ 0 → ⊥) × (32 < v)) → few v ≡ false
not-few v (inl e) = none-few v e
not-few v (inr (_, h)) = many-few v h

is-few : (v : ℕ) → 0 < v → v ≤ 32 → few v ≡ true
is-few v a b = rw (lt-ltb 0 v a, le-leb v most_channels b) refl

module _ (g : Flags) (f : File) (p l : ℕ) where
  pub count-single : g.single ≡ true → got 1 p l ≡ (channel_count g).reads f p l
  count-single s = choose-on _ _ _ s (whole-on _ _ _ _)

  pub count-not : {x y : ℕ} → g.single ≡ false → fault x y ≡ (field 24 any 0).reads f p l → fault x y ≡ (channel_count g).reads f p l
  count-not s e = choose-off _ _ _ s (field-not 24 few 5 f p l e)

  pub count-off : {v q m : ℕ} → g.single ≡ false → got v q m ≡ (field 24 any 0).reads f p l → (v ≡ 0) ⊎ ((v ≡ 0 → ⊥) × (32 < v)) → fault 5 p ≡ (channel_count g).reads f p l
  count-off {v} s e h = choose-off _ _ _ s (field_off 24 few 5 f p l e (not-few v h))

  pub count-on : {v q m : ℕ} → g.single ≡ false → got v q m ≡ (field 24 any 0).reads f p l → 0 < v → v ≤ 32 → got v q m ≡ (channel_count g).reads f p l
  count-on {v} s e a b = choose-off _ _ _ s (field-on 24 few 5 f p l e (is-few v a b))

  -- ## The channels

  pub channels-not : {x y : ℕ} → fault x y ≡ (channel_count g).reads f p l → fault x y ≡ (described g).reads f p l
  unfolding described
  channels-not e = then-not _ _ e

  pub channels-on : {n q m : ℕ} {o : Outcome (List Channel)} → got n q m ≡ (channel_count g).reads f p l → o ≡ (times n (channel (recorded g n))).reads f q m → o ≡ (described g).reads f p l
  unfolding described
  channels-on e h = then-on _ _ e h

  -- ## The head

  module _ (total : ℕ) where
    pub head-no-raw : {x y : ℕ} → fault x y ≡ (raw_field total).reads f p l → fault x y ≡ (head g total).reads f p l
    unfolding head
    head-no-raw e = then-not _ _ e

    pub head-no-pointer : {v q m x y : ℕ} → got v q m ≡ (raw_field total).reads f p l → fault x y ≡ (pointer_field g.pointed).reads f q m → fault x y ≡ (head g total).reads f p l
    unfolding head
    head-no-pointer e d = then-on _ _ e (then-not _ _ d)

    pub head-no-channels : {v q m q₂ m₂ x y : ℕ} {t : Option ℕ} → got v q m ≡ (raw_field total).reads f p l → got t q₂ m₂ ≡ (pointer_field g.pointed).reads f q m →
        fault x y ≡ (described g).reads f q₂ m₂ → fault x y ≡ (head g total).reads f p l
    unfolding head
    head-no-channels e d b = then-on _ _ e (then-on _ _ d (then-not _ _ b))

    pub head-on : {v q m q₂ m₂ q₃ m₃ : ℕ} {t : Option ℕ} {cs : List Channel} → got v q m ≡ (raw_field total).reads f p l → got t q₂ m₂ ≡ (pointer_field g.pointed).reads f q m →
        got cs q₃ m₃ ≡ (described g).reads f q₂ m₂ → got (record { raw = v; pointer = t; channels = cs }) q₃ m₃ ≡ (head g total).reads f p l
    unfolding head
    head-on e d b = then-on _ _ e (then-on _ _ d (then-on _ _ b (whole-on _ _ _ _)))
