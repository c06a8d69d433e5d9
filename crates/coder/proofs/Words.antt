-- The step of one word, from what a coder and a field answer.
use Rattle.std.proofs.Common.{◌≡◌, ℕ, ◌+◌, ◌*◌, ◌≤◌, Bool, true, false, cond, leb, List, length, Some, None, Option, sym, ap, ◌∙◌}
use Rattle.std.proofs.lemmas.Bool.{le-leb}
use Rattle.bits.specs.Bits.{bits, put_bits, field_at}
use Rattle.bits.proofs.Numbers.{length-bits}
use Rattle.faults.specs.Faults.{gives, fault}
use Rattle.fields.specs.Fields.{is_field, within, remaining}
use Rattle.fields.specs.declared.field.Window.{Window}
use Rattle.forms.specs.Coding.{Coding, Sound, Decoding, decoded, encoded}
use Rattle.forms.proofs.Windows.{decoded-window}
use Rattle.coder.specs.Told.{wrote, form_bits}
use Rattle.coder.specs.declared.form.Coded.{Coded}
use Rattle.coder.specs.Steps.{laid, laid_bytes, seen, take_answer}

-- a field of at most 64 bits is one where it lies within
few : (at n size : ℕ) → n ≤ 64 → is_field at n size ≡ within at n size
few at n size h = ap (λ b. cond b (within at n size) false) (le-leb n 64 h)

module _ {M : Type 0} (n v : ℕ) (k : M) (o : Option (List Bool × M)) (e : Some (bits n v, k) ≡ o) (short : n ≤ 64) (at : ℕ) (b g : List ℕ)
    (r : Bool) (a : r ≡ is_field at n (length b)) (d : g ≡ cond (is_field at n (length b)) (put_bits b at (bits n v)) b) where
  test : (t : Bool) → r ≡ t → leb (at + length (bits n v)) (8 * length b) ≡ t
  test t i = ap (λ z. leb (at + z) (8 * length b)) (length-bits n v) ∙ sym (few at n (length b) short) ∙ sym a ∙ i

  pub laid-there : r ≡ true → (gives (n, k) ≡ laid at (length b) o) × (g ≡ laid_bytes at b o)
  laid-there i =
      let l = length-bits n v in
      let t = test true i in (
        let p : laid at (length b) (Some (bits n v, k)) ≡ gives (length (bits n v), k) = ap (λ z. cond z (gives (length (bits n v), k)) (fault 2 at)) t in
            ap (λ z. gives (z, k)) (sym l) ∙ sym p ∙ ap (laid at (length b)) e,
        let q : laid_bytes at b (Some (bits n v, k)) ≡ put_bits b at (bits n v) = ap (λ z. cond z (put_bits b at (bits n v)) b) t in
            d ∙ ap (λ z. cond z (put_bits b at (bits n v)) b) (sym a ∙ i) ∙ sym q ∙ ap (laid_bytes at b) e,
      )

  pub laid-not : r ≡ false → (fault 2 at ≡ laid at (length b) o) × (g ≡ laid_bytes at b o)
  laid-not i =
      let t = test false i in (
        let p : laid at (length b) (Some (bits n v, k)) ≡ fault 2 at = ap (λ z. cond z (gives (length (bits n v), k)) (fault 2 at)) t in
            sym p ∙ ap (laid at (length b)) e,
        let q : laid_bytes at b (Some (bits n v, k)) ≡ b = ap (λ z. cond z (put_bits b at (bits n v)) b) t in
            d ∙ ap (λ z. cond z (put_bits b at (bits n v)) b) (sym a ∙ i) ∙ sym q ∙ ap (laid_bytes at b) e,
      )

-- what a coder finds in a window, it finds in the file
pub looked : {M : Type 0} {w : ℕ} (C : Coding M) → Sound w C → (m : M) (f : List ℕ) (at : ℕ) (win : Window) → win.bits ≡ field_at f at 64 → win.len ≡ remaining at (length f) →
    (o : Decoding M) → o ≡ decoded C m (bits win.len win.bits) → seen at o ≡ take_answer C m f at
looked C K m f at win a b o e = ap (seen at) (e ∙ decoded-window C K m f at win.len win.bits a b)

-- a form that was asked for
pub given-form : {M : Type 0} (C : Coding M) (m : M) (x : ℕ) (o : Option (Coded M)) (d : Coded M) → wrote o ≡ encoded C m x → o ≡ Some d → Some (form_bits d.form, d.next) ≡ encoded C m x
given-form C m x o d a h = sym (ap wrote h) ∙ a

pub no_form : {M : Type 0} (C : Coding M) (m : M) (x : ℕ) (o : Option (Coded M)) → wrote o ≡ encoded C m x → o ≡ None → None ≡ encoded C m x
no_form C m x o a h = sym (ap wrote h) ∙ a
