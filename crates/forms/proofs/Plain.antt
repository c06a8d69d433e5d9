-- What a coder without memory answers.
use Rattle.std.proofs.Common.{◌≡◌, ℕ, Bool, List, Some, None, ap}
use Rattle.forms.specs.Code.{Code, form, short, walk, form_of}
use Rattle.forms.specs.Coding.{behind, encoded, word, dead, partial, told, decoded}
use Rattle.forms.specs.Coders.{plain}

module _ (t : Code) (m : Unit {0}) where
  pub plain_form : (x : ℕ) (s : List Bool) → form_of t x ≡ Some s → Some (s, m) ≡ encoded (plain t) m x
  unfolding encoded
  plain_form x s e = let a : behind (form_of t x) m ≡ Some (s, m) = ap (λ o. behind o m) e in cc

  pub plain-none : (x : ℕ) → form_of t x ≡ None → None ≡ encoded (plain t) m x
  unfolding encoded
  plain-none x e = let a : behind (form_of t x) m ≡ None = ap (λ o. behind o m) e in cc

  pub plain_word : (bs : List Bool) (x n : ℕ) → walk t bs ≡ form (Some x) n → word x n m ≡ decoded (plain t) m bs
  unfolding decoded
  plain_word bs x n e = let a : told (λ y. m) (walk t bs) ≡ word x n m = ap (told (λ y. m)) e in cc

  pub plain-dead : (bs : List Bool) (n : ℕ) → walk t bs ≡ form None n → dead n ≡ decoded (plain t) m bs
  unfolding decoded
  plain-dead bs n e = let a : told (λ y. m) (walk t bs) ≡ dead n = ap (told (λ y. m)) e in cc

  pub plain-partial : (bs : List Bool) → walk t bs ≡ short → partial ≡ decoded (plain t) m bs
  unfolding decoded
  plain-partial bs e = let a : told (λ y. m) (walk t bs) ≡ partial = ap (told (λ y. m)) e in cc
