-- Reading what closes a section.
use Rattle.std.proofs.Common.{◌≡◌, ℕ, ◌<◌, Bool, false, List, [], refl, ap, arith}
use Rattle.std.proofs.lemmas.Bool.{lt-ltb, eq-eqb, ne_eqb}
use Rattle.bits.specs.Bits.{bytes}
use Rattle.format.specs.Cells.{File}
use Rattle.format.specs.Format.{Outcome, got, fault, field}
use Rattle.layout.specs.Slim.{any, positive, block, Closing, another, ended, is_tag, leftover, closing}
use Rattle.reading.proofs.Steps.{then-on, then-not, whole-on, choose-on, choose-off, field-on, field_off, field-not}

module _ (f : File) (p l : ℕ) where
  -- ## The leftovers

  pub no-count : {x y : ℕ} → fault x y ≡ (field 3 any 0).reads f p l → fault x y ≡ leftover.reads f p l
  unfolding leftover
  no-count e = then-not _ _ (field-not 3 positive 10 f p l e)

  pub zero-count : {v q m : ℕ} → got v q m ≡ (field 3 any 0).reads f p l → v ≡ 0 → fault 10 p ≡ leftover.reads f p l
  unfolding leftover
  zero-count {v} {q} {m} e z = then-not _ _ (field_off 3 positive 10 f p l e (ap positive z))

  pub no-leftovers : {v q m x y : ℕ} → got v q m ≡ (field 3 any 0).reads f p l → 0 < v → fault x y ≡ (block v).reads f q m → fault x y ≡ leftover.reads f p l
  unfolding leftover
  no-leftovers {v} e z d = then-on _ _ (field-on 3 positive 10 f p l e (lt-ltb 0 v z)) (then-not _ _ d)

  pub leftovers : {v q m q' m' : ℕ} {ls : List ℕ} → got v q m ≡ (field 3 any 0).reads f p l → 0 < v → got ls q' m' ≡ (block v).reads f q m → got (ended ls) q' m' ≡ leftover.reads f p l
  unfolding leftover
  leftovers {v} e z d = then-on _ _ (field-on 3 positive 10 f p l e (lt-ltb 0 v z)) (then-on _ _ d (whole-on _ _ _ _))

  -- ## The tag

  pub no-tag : {x y : ℕ} → fault x y ≡ (field 4 any 0).reads f p l → fault x y ≡ closing.reads f p l
  unfolding closing
  no-tag e = then-not _ _ (field-not 4 is_tag 17 f p l e)

  pub bad-tag : {v q m : ℕ} → got v q m ≡ (field 4 any 0).reads f p l → is_tag v ≡ false → fault 17 p ≡ closing.reads f p l
  unfolding closing
  bad-tag e h = then-not _ _ (field_off 4 is_tag 17 f p l e h)

  pub goes_on-is : {v q m : ℕ} → got v q m ≡ (field 4 any 0).reads f p l → v ≡ 8 → got another q m ≡ closing.reads f p l
  unfolding closing
  goes_on-is {v} e i = then-on _ _ (field-on 4 is_tag 17 f p l e (ap is_tag i)) (choose-on _ _ _ (eq-eqb v 8 i) (whole-on _ _ _ _))

  pub ends : {v q m : ℕ} → got v q m ≡ (field 4 any 0).reads f p l → v ≡ 15 → got (ended []) q m ≡ closing.reads f p l
  unfolding closing
  ends {v} e i = then-on _ _ (field-on 4 is_tag 17 f p l e (ap is_tag i)) (choose-off _ _ _ (ne_eqb v 8 (λ h. omega arith)) (choose-on _ _ _ (eq-eqb v 15 i) (whole-on _ _ _ _)))

  pub ends_with : {v q m : ℕ} {o : Outcome Closing} → got v q m ≡ (field 4 any 0).reads f p l → v ≡ 14 → o ≡ leftover.reads f q m → o ≡ closing.reads f p l
  unfolding closing
  ends_with {v} e i d = then-on _ _ (field-on 4 is_tag 17 f p l e (ap is_tag i)) (choose-off _ _ _ (ne_eqb v 8 (λ h. omega arith)) (choose-off _ _ _ (ne_eqb v 15 (λ h. omega arith)) d))

pub other_tag : (v : ℕ) → (v ≡ 8 → ⊥) → (v ≡ 14 → ⊥) → (v ≡ 15 → ⊥) → is_tag v ≡ false
other_tag v a b c = let x = ne_eqb v 8 a in let y = ne_eqb v 14 b in let z = ne_eqb v 15 c in rw (x, y, z) refl

-- no bytes
pub no_bytes : (bs : List Bool) → bytes 0 bs ≡ []
unfolding bytes
no_bytes bs = refl
