-- Blocks of any coder that keeps the rules: what they are, and that two are apart.
use Rattle.std.proofs.Common.{◌≡◌, ℕ, Bool, List, [], ◌∷◌, ◌++◌, length, Some, None, Option, sym, refl, ap, ◌∙◌, subst, append_assoc, arith}
use Rattle.std.proofs.lemmas.List.{append_cancel_left}
use Rattle.forms.specs.Code.{form_of}
use Rattle.forms.specs.Coding.{Coding, Sound}
use Rattle.forms.specs.Blocks.{Block, followed, block_bits, Apart}
use Rattle.forms.proofs.Codes.{some_same, none-some, form_of-means}
use Rattle.forms.proofs.Rules.{one, form_of-is}

module _ {M : Type 0} {w : ℕ} (C : Coding M) (sound : Sound w C) where
  same : (m : M) (xs ys : List ℕ) (bs cs r : List Bool) → length xs ≡ length ys → Block C m xs bs → Block C m ys cs → cs ≡ bs ++ r → xs ≡ ys
  same m [] [] bs cs r l a b e = refl
  same m [] (y ∷ ys) bs cs r l a b e = absurd (omega arith)
  same m (x ∷ xs) [] bs cs r l a b e = absurd (omega arith)
  same m (x ∷ xs) (y ∷ ys) bs cs r l (s, p, h, d, a) (t, q, k, f, b) e =
      let whole : t ++ q ≡ s ++ (p ++ r) = sym f ∙ e ∙ ap (λ (z : List Bool). z ++ r) d ∙ append_assoc s p r in
      let o = one (sound m) t s q (p ++ r) (Some y) (Some x) k h whole in
      let y-is : y ≡ x = some_same o.1 in
      let rest : q ≡ p ++ r = append_cancel_left s q (p ++ r) (ap (λ (z : List Bool). z ++ q) (sym o.0) ∙ whole) in
      let b2 : Block C (C.after m x) ys q = subst (λ (v : ℕ). Block C (C.after m v) ys q) y-is b in
      let tails = same (C.after m x) xs ys p q r (omega arith) a b2 rest in
      ap (λ (z : List ℕ). x ∷ z) tails ∙ ap (λ (v : ℕ). v ∷ ys) (sym y-is)

  pub apart : (m : M) → Apart C m
  apart m xs ys bs cs l ne a b = (λ r e. ne (same m xs ys bs cs r l a b e), λ r e. ne (sym (same m ys xs cs bs r (sym l) b a e)))

  -- the bits that are computed are the block, and there is no other
  pub block_of : (m : M) (xs : List ℕ) (bs : List Bool) → block_bits C m xs ≡ Some bs → Block C m xs bs
  unfolding block_bits
  block_of m [] bs e = sym (some_same e)
  block_of m (x ∷ xs) bs e = go (form_of (C.code m) x) refl (block_bits C (C.after m x) xs) (λ r d. block_of (C.after m x) xs r d) e
    where
      go : (o : Option (List Bool)) → form_of (C.code m) x ≡ o → (q : Option (List Bool)) → ((r : List Bool) → q ≡ Some r → Block C (C.after m x) xs r) → followed o q ≡ Some bs → Block C m (x ∷ xs) bs
      go None a q d e = absurd (none-some e)
      go (Some s) a None d e = absurd (none-some e)
      go (Some s) a (Some r) d e = (s, r, form_of-means (C.code m) x s a, sym (some_same e), d r refl)

  pub of-block : (m : M) (xs : List ℕ) (bs : List Bool) → Block C m xs bs → block_bits C m xs ≡ Some bs
  unfolding block_bits
  of-block m [] bs e = ap Some (sym e)
  of-block m (x ∷ xs) bs (s, r, h, d, a) =
      let f = form_of-is (C.code m) (sound m) s x h in
      let g = of-block (C.after m x) xs r a in
      ap (λ o. followed o (block_bits C (C.after m x) xs)) f ∙ ap (followed (Some s)) g ∙ ap Some (sym d)
