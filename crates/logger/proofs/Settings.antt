-- Settings that keep the rules, under delta.
use Rattle.std.proofs.Common.{◌≡◌, ℕ, ◌^◌, Bool, true, false, cond, eqb, ltb, leb, Some, None, Option, sym, refl, ap, ◌∙◌}
use Rattle.forms.proofs.Codes.{none-some, some_same}
use Rattle.logger.specs.Host.{ruled}

module _ {A : Type 0} (d n p a b : ℕ) (bad plain differing : A) where
  pub ruled-delta : ◌≡◌ {A = Option (ℕ × ℕ)} (Some (a, b)) (cond (ltb 0 n) (cond (leb n 16) (cond (ltb p (2 ^ 16)) (Some (n, p)) None) None) None) → d ≡ 1 →
      (a ≡ n) × (b ≡ p) × (ruled d n p bad plain differing ≡ differing)
  ruled-delta h e = go (ltb 0 n) refl (leb n 16) refl (ltb p (2 ^ 16)) refl h
    where
      go : (x : Bool) → ltb 0 n ≡ x → (y : Bool) → leb n 16 ≡ y → (z : Bool) → ltb p (2 ^ 16) ≡ z → ◌≡◌ {A = Option (ℕ × ℕ)} (Some (a, b)) (cond x (cond y (cond z (Some (n, p)) None) None) None) →
          (a ≡ n) × (b ≡ p) × (ruled d n p bad plain differing ≡ differing)
      go false i y j z k q = absurd (none-some (sym q))
      go true i false j z k q = absurd (none-some (sym q))
      go true i true j false k q = absurd (none-some (sym q))
      go true i true j true k q =
          let r : ◌≡◌ {A = ℕ × ℕ} (a, b) (n, p) = some_same q in
          let R : Bool → Bool → Bool → ℕ → A = λ s t u v. cond s (cond t (cond u (cond (eqb v 0) plain (cond (eqb v 1) differing bad)) bad) bad) bad in
          (ap (λ w. w.0) r, ap (λ w. w.1) r, ap (λ s. R s (leb n 16) (ltb p (2 ^ 16)) d) i ∙ ap (λ s. R true s (ltb p (2 ^ 16)) d) j ∙ ap (λ s. R true true s d) k ∙ ap (R true true true) e)
