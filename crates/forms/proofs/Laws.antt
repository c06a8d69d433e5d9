-- The laws of every coder, from the rules.
use Rattle.std.proofs.Common.{◌≡◌, ℕ, Bool, List, length, take, drop, Some, None, Option, sym, refl, ap, ◌∙◌, ⊎_elim, arith, take-append-drop}
use Rattle.forms.specs.Code.{Means, Found, form, short, walk, form_of}
use Rattle.forms.specs.Rules.{Begins, ExactlyOne, Partial}
use Rattle.forms.specs.Coding.{Coding, Sound, behind, encoded, told, decoded}
use Rattle.forms.specs.Laws.{RightForm, RightWord, CoderLaws}
use Rattle.forms.proofs.Codes.{walk-form, walk-means, form_of-means, form_of-has, none-some}
use Rattle.forms.proofs.Rules.{remaining}

module _ {M : Type 0} {w : ℕ} (C : Coding M) (sound : Sound w C) where
  writes : (m : M) (x : ℕ) → RightForm C m x (encoded C m x)
  unfolding encoded
  writes m x = go (form_of (C.code m) x) refl
    where
      go : (o : Option (List Bool)) → form_of (C.code m) x ≡ o → RightForm C m x (behind o (C.after m x))
      go None e = λ s h. let (u, d) = form_of-has (C.code m) x s h in none-some (sym e ∙ d)
      go (Some s) e = (form_of-means (C.code m) x s e, refl)

  -- where a walk ends within a form, the bits do
  ends-within : (m : M) (bs : List Bool) → walk (C.code m) bs ≡ short → Partial (Means (C.code m)) bs
  ends-within m bs e = ⊎_elim
      (λ (o : ExactlyOne (Means (C.code m)) bs).
      let (s, v, (r, h, d), _) = o in
      let z : form v (length s) ≡ short = sym (walk-form (C.code m) s r v h) ∙ ap (walk (C.code m)) (sym d) ∙ e in
      let q : ◌≡◌ {A = ℕ} 0 1 = cc in absurd (omega arith))
      (λ p. p)
      (remaining (sound m) bs).0

  begins : (m : M) (bs : List Bool) (o : Option ℕ) (n : ℕ) → walk (C.code m) bs ≡ form o n → Begins (Means (C.code m)) bs (take n bs) o
  begins m bs o n e = (drop n bs, (walk-means (C.code m) bs o n e).1, sym (take-append-drop n bs))

  reads : (m : M) (bs : List Bool) → RightWord C m bs (decoded C m bs)
  unfolding decoded
  reads m bs = go (walk (C.code m) bs) refl
    where
      go : (o : Found) → walk (C.code m) bs ≡ o → RightWord C m bs (told (C.after m) o)
      go (form (Some x) n) e = (begins m bs (Some x) n e, refl)
      go (form None n) e = begins m bs None n e
      go short e = ends-within m bs e

  pub coder_laws : CoderLaws w C
  coder_laws = record { rules = sound; remaining = λ m. remaining (sound m); writes = writes; reads = reads }
