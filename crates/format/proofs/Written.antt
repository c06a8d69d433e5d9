-- The bits that a format writes for a value, by its parts.
use Rattle.std.proofs.Common.{◌≡◌, ℕ, ◌+◌, Bool, true, false, cond, List, [], ◌++◌, length, refl, ap, ◌∙◌}
use Rattle.bits.specs.Bits as strings
use Rattle.format.specs.Cells.{filled}
use Rattle.format.specs.Format.{Format, Part, field, whole, choose, ◌>>=◌, judged}
use Rattle.format.proofs.Filling.{filled-append, filled-bits}

pub field-bits : (n : ℕ) (ok : ℕ → Bool) (bad : ℕ) (p v : ℕ) → filled ((field n ok bad).cells p v) ≡ strings.bits n v
unfolding field
field-bits n ok bad p v = filled-bits n v

pub whole-bits : {A : Type 0} (a₀ : A) (p : ℕ) (a : A) → filled ((whole a₀).cells p a) ≡ []
unfolding whole filled
whole-bits a₀ p a = refl

pub choose-bits : {A : Type 0} (t : Bool) (F G : Format A) (p : ℕ) (a : A) (x y : List Bool) → filled (F.cells p a) ≡ x → filled (G.cells p a) ≡ y → filled ((choose t F G).cells p a) ≡ cond t x y
unfolding choose
choose-bits true F G p a x y f g = f
choose-bits false F G p a x y f g = g

pub then-bits : {A B : Type 0} (P : Part B A) (g : A → Format B) (p : ℕ) (b : B) (x y : List Bool) →
    filled (P.form.cells p (P.of b)) ≡ x → ((q : ℕ) → filled ((g (P.of b)).cells q b) ≡ y) → filled ((P >>= g).cells p b) ≡ x ++ y
unfolding ◌>>=◌
then-bits P g p b x y h k =
    let q = p + length (P.form.cells p (P.of b)) in
    filled-append (P.form.cells p (P.of b)) ((g (P.of b)).cells q b) ∙ ap (λ z. z ++ filled ((g (P.of b)).cells q b)) h ∙ ap (λ z. x ++ z) (k q)

pub judged-bits : {A : Type 0} (F : Format A) (ok : A → ℕ → Bool) (bad : ℕ) (p : ℕ) (a : A) (x : List Bool) → filled (F.cells p a) ≡ x → filled ((judged F ok bad).cells p a) ≡ x
unfolding judged
judged-bits F ok bad p a x h = h
