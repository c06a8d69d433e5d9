-- What closes a section, as it is taken.
use Rattle.std.proofs.Common.{◌≡◌, ℕ, ◌+◌, ◌-◌, ◌*◌, ◌/◌, ◌%◌, ◌^◌, ◌<◌, ◌≤◌, min, Bool, true, false, cond, not, ◌||◌, ◌⊎◌, inl, inr, List, length, Option, sym, refl, ap, ◌∙◌, arith, le-leb}
use borrow.Author.Tests.{lt-leb}
use Rattle.bits.specs.Bits.{bits_of}
use Rattle.bits.proofs.Files.{length-bits_of}
use Rattle.format.specs.Cells.{File, size}
use Rattle.format.specs.Format.{got, fault, Format, judged, gap, padding}
use Rattle.layout.specs.Slim as slim
use Rattle.layout.specs.Slim.{goes_on, closing}
use Rattle.reading.specs.declared.closing.Closing.{Closing}
use Rattle.reading.specs.declared.closing.Closing.TheVariants.{Another, Ended}
use Rattle.reading.specs.Blocks.{closing_of}
use Rattle.reading.proofs.Steps.{judged-on, judged-off, judged-not}
use Rattle.reader.specs.Sections.{agrees}
use Rattle.reader.specs.Counts.{follows}

-- whether another section follows
pub goes_on-is : (f : File) (e : Closing) → goes_on (closing_of f e) ≡ follows e
goes_on-is f Another = refl
goes_on-is f (Ended b) = refl

pub named : (f : File) (e : Closing) (t : Option ℕ) (place : ℕ) (b : Bool) → b ≡ agrees t (cond (follows e) place 0) → agrees t (cond (goes_on (closing_of f e)) place 0) ≡ b
named f e t place b h = ap (λ z. agrees t (cond z place 0)) (goes_on-is f e) ∙ sym h

-- ## Room for another section

with-room : (t room : Bool) → room ≡ true → (not t || room) ≡ true
with-room true room e = e
with-room false room e = refl

without-room : (t room : Bool) → t ≡ true → room ≡ false → (not t || room) ≡ false
without-room t room e h = rw (e, h) refl

at-end : (t room : Bool) → t ≡ false → (not t || room) ≡ true
at-end t room e = rw e refl

module _ (f : File) (p l : ℕ) (room : Bool) where
  abbrev pub End : Format slim.Closing
  End = judged closing (λ e q. not (goes_on e) || room) 9

  pub end-not : {x y : ℕ} → fault x y ≡ closing.reads f p l → fault x y ≡ End.reads f p l
  end-not e = judged-not _ _ _ e

  pub end-room : {q m : ℕ} (e : slim.Closing) → got e q m ≡ closing.reads f p l → room ≡ true → got e q m ≡ End.reads f p l
  end-room e h r = judged-on _ _ _ h (with-room (goes_on e) room r)

  pub end-over : {q m : ℕ} (e : Closing) → got (closing_of f e) q m ≡ closing.reads f p l → follows e ≡ true → room ≡ false → fault 9 m ≡ End.reads f p l
  end-over e h g r = judged-off _ _ _ h (without-room (goes_on (closing_of f e)) room (goes_on-is f e ∙ g) r)

  pub end-last : {q m : ℕ} (e : Closing) → got (closing_of f e) q m ≡ closing.reads f p l → follows e ≡ false → got (closing_of f e) q m ≡ End.reads f p l
  end-last e h g = judged-on _ _ _ h (at-end (goes_on (closing_of f e)) room (goes_on-is f e ∙ g))

  pub end-fits : {q m : ℕ} (e : Closing) {t : Bool} → got (closing_of f e) q m ≡ closing.reads f p l → t ≡ follows e → ((t ≡ true) × (room ≡ true)) ⊎ (t ≡ false) → got (closing_of f e) q m ≡ End.reads f p l
  end-fits e h t (inl (_, r)) = end-room (closing_of f e) h r
  end-fits e h t (inr z) = end-last e h (sym t ∙ z)

-- ## Pad bits

padded : (p : ℕ) → p + (8 - p % 8) % 8 ≡ 8 * ((p + 7) / 8)
padded p = omega arith

module _ (f : List ℕ) (p l b e : ℕ) where
  pub padding-on : length f ≤ 16777216 → b ≡ (p + 7) / 8 → e ≡ min (8 * b) (2 ^ 64 - 1) → e ≤ 8 * length f → got tt e l ≡ padding.reads (bits_of f) p l
  unfolding padding gap
  padding-on s i j h =
      let z : e ≡ p + (8 - p % 8) % 8 = omega (arith, padded p) in
      let t = le-leb (p + (8 - p % 8) % 8) (size (bits_of f)) (omega (arith, length-bits_of f, z)) in
      rw (t, z) refl

  pub padding-not : length f ≤ 16777216 → b ≡ (p + 7) / 8 → e ≡ min (8 * b) (2 ^ 64 - 1) → 8 * length f < e → fault 11 p ≡ padding.reads (bits_of f) p l
  unfolding padding gap
  padding-not s i j h =
      let t = lt-leb (p + (8 - p % 8) % 8) (size (bits_of f)) (omega (arith, length-bits_of f, padded p)) in
      rw t refl
