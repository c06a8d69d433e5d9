-- What a change of words over a coder answers, from what the coder within answers.
use Rattle.std.proofs.Common.{◌≡◌, ℕ, ◌-◌, ◌^◌, ◌<◌, ◌≤◌, Bool, false, List, Some, None, Option, sym, refl, ap, ◌∙◌, subst, arith}
use Rattle.forms.specs.Code.{Means, Found, form, short, walk, form_of, renamed}
use Rattle.forms.specs.Rules.{Rules}
use Rattle.forms.specs.Coding.{Coding, Sound, behind, encoded, Decoding, word, dead, partial, told, decoded}
use Rattle.forms.proofs.Codes.{found, walk-renamed, walk-means}
use Rattle.forms.specs.Coders.{minus, plus, rotr, turn, delta, delta_if}
use Rattle.forms.proofs.Rules.{Swaps, form_of-renamed, form_of-over}
use Rattle.forms.proofs.Coders.{turn-swaps, delta-swaps}

-- the answers of the coder within, for the changed words and with the memory beside its own
abbrev pub moved : {M N : Type 0} → (M → N) → Option (List Bool × M) → Option (List Bool × N)
moved wrap None = None
moved wrap (Some (s, n)) = Some (s, wrap n)

abbrev pub back : {M N : Type 0} → (ℕ → ℕ) → (ℕ → M → N) → Decoding M → Decoding N
back g wrap (word x n m) = word (g x) n (wrap (g x) m)
back g wrap (dead n) = dead n
back g wrap partial = partial

-- a word too large has no form
pub encoded-over : {M : Type 0} {w : ℕ} (C : Coding M) → Sound w C → (m : M) (x : ℕ) → 2 ^ w ≤ x → encoded C m x ≡ None
unfolding encoded
encoded-over C K m x h = ap (λ o. behind o (C.after m x)) (form_of-over (C.code m) (K m) x h)

-- K is C at words that f changes and g changes back; the memory n of K has the memory m of C within
module _ {M N : Type 0} {w : ℕ} {f g : ℕ → ℕ} (swaps : Swaps w f g) (C : Coding M) (m : M) (rules : Rules w (Means (C.code m)))
    (K : Coding N) (n : N) (code : K.code n ≡ renamed g (C.code m)) (wrap : ℕ → M → N) (after : (x : ℕ) → K.after n x ≡ wrap x (C.after m (f x))) where
  pub changed-encoded : (x : ℕ) → x < 2 ^ w → encoded K n x ≡ moved (wrap x) (encoded C m (f x))
  unfolding encoded
  changed-encoded x h =
      let e : form_of (K.code n) x ≡ form_of (C.code m) (f x) = ap (λ t. form_of t x) code ∙ form_of-renamed swaps (C.code m) rules x h in
      go (form_of (K.code n) x) (form_of (C.code m) (f x)) e
    where
      go : (o q : Option (List Bool)) → o ≡ q → behind o (K.after n x) ≡ moved (wrap x) (behind q (C.after m (f x)))
      go None None e = refl
      go (Some s) (Some t) e = let a : s ≡ t = cc in let b = after x in cc
      go None (Some t) e = let z : ◌≡◌ {A = ℕ} 0 1 = cc in absurd (omega arith)
      go (Some s) None e = let z : ◌≡◌ {A = ℕ} 0 1 = cc in absurd (omega arith)

  pub changed-decoded : (bs : List Bool) → decoded K n bs ≡ back g wrap (decoded C m bs)
  unfolding decoded
  changed-decoded bs =
      let e : walk (K.code n) bs ≡ found g (walk (C.code m) bs) = ap (λ t. walk t bs) code ∙ walk-renamed g (C.code m) bs in
      ap (told (K.after n)) e ∙ go (walk (C.code m) bs) refl
    where
      go : (o : Found) → walk (C.code m) bs ≡ o → told (K.after n) (found g o) ≡ back g wrap (told (C.after m) o)
      go (form (Some y) k) e =
          let l : y < 2 ^ w = rules.below _ y (walk-means (C.code m) bs (Some y) k e).1 in
          let a : K.after n (g y) ≡ wrap (g y) (C.after m y) = after (g y) ∙ ap (λ z. wrap (g y) (C.after m z)) (swaps.f-g y l) in
          ap (word (g y) k) a
      go (form None k) e = refl
      go short e = refl

-- a word that was read is one of w bits
pub decoded-below : {M : Type 0} {w : ℕ} (C : Coding M) → Sound w C → (m : M) (bs : List Bool) (x n : ℕ) (k : M) → word x n k ≡ decoded C m bs → x < 2 ^ w
unfolding decoded
decoded-below {M} {w} C K m bs x n k e = go (walk (C.code m) bs) refl e
  where
    go : (o : Found) → walk (C.code m) bs ≡ o → word x n k ≡ told (C.after m) o → x < 2 ^ w
    go (form (Some y) j) a d =
        let i : y ≡ x = cc in
        subst (λ (z : ℕ). z < 2 ^ w) i ((K m).below _ y (walk-means (C.code m) bs (Some y) j a).1)
    go (form None j) a d = let z : ◌≡◌ {A = ℕ} 0 1 = cc in absurd (omega arith)
    go short a d = let z : ◌≡◌ {A = ℕ} 0 1 = cc in absurd (omega arith)

module _ {M : Type 0} {w : ℕ} (C : Coding M) (sound : Sound w C) where
  -- delta
  pub delta-encoded : (m : ℕ × M) (x : ℕ) → x < 2 ^ w → encoded (delta w C) m x ≡ moved (λ k. (x, k)) (encoded C m.1 (minus w m.0 x))
  delta-encoded m x h = changed-encoded (delta-swaps w m.0) C m.1 (sound m.1) (delta w C) m refl (λ y k. (y, k)) (λ y. refl) x h

  pub delta-decoded : (m : ℕ × M) (bs : List Bool) → decoded (delta w C) m bs ≡ back (plus w m.0) (λ y k. (y, k)) (decoded C m.1 bs)
  delta-decoded m bs = changed-decoded (delta-swaps w m.0) C m.1 (sound m.1) (delta w C) m refl (λ y k. (y, k)) (λ y. refl) bs

  -- turn
  pub turn-encoded : (b : ℕ) → b ≤ w → (m : M) (x : ℕ) → x < 2 ^ w → encoded (turn w b C) m x ≡ encoded C m (rotr w b x)
  turn-encoded b l m x h = changed-encoded (turn-swaps w b l) C m (sound m) (turn w b C) m refl (λ y k. k) (λ y. refl) x h ∙ same (encoded C m (rotr w b x))
    where
      same : (o : Option (List Bool × M)) → moved (λ k. k) o ≡ o
      same None = refl
      same (Some (s, k)) = refl

  pub turn-decoded : (b : ℕ) → b ≤ w → (m : M) (bs : List Bool) → decoded (turn w b C) m bs ≡ back (rotr w (w - b)) (λ y k. k) (decoded C m bs)
  turn-decoded b l m bs = changed-decoded (turn-swaps w b l) C m (sound m) (turn w b C) m refl (λ y k. k) (λ y. refl) bs

-- a delta that is off
module _ {M : Type 0} (w : ℕ) (C : Coding M) (on : Bool) (off : on ≡ false) (m : ℕ × M) where
  beside-moves : (o : Option (List Bool)) (k : M) → behind {M = ℕ × M} o (m.0, k) ≡ moved (λ j. (m.0, j)) (behind o k)
  beside-moves None k = refl
  beside-moves (Some s) k = refl

  beside-tells : (o : Found) → told {M = ℕ × M} (λ x. (m.0, C.after m.1 x)) o ≡ back (λ x. x) (λ x k. (m.0, k)) (told (C.after m.1) o)
  beside-tells (form (Some x) n) = refl
  beside-tells (form None n) = refl
  beside-tells short = refl

  pub off-encoded : (x : ℕ) (o : Option (List Bool × M)) → o ≡ encoded C m.1 x → moved (λ k. (m.0, k)) o ≡ encoded (delta_if w on C) m x
  unfolding encoded
  off-encoded x o e = ap (moved (λ k. (m.0, k))) e ∙ sym (beside-moves (form_of (C.code m.1) x) (C.after m.1 x)) ∙ ap (λ b. encoded (delta_if w b C) m x) (sym off)

  pub off-decoded : (bs : List Bool) (o : Decoding M) → o ≡ decoded C m.1 bs → back (λ x. x) (λ x k. (m.0, k)) o ≡ decoded (delta_if w on C) m bs
  unfolding decoded
  off-decoded bs o e = ap (back (λ x. x) (λ x k. (m.0, k))) e ∙ sym (beside-tells (walk (C.code m.1) bs)) ∙ ap (λ b. decoded (delta_if w b C) m bs) (sym off)
