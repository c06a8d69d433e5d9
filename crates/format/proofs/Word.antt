-- The law of a word follows from the rules of its code.
use Rattle.std.proofs.Common.{◌≡◌, ℕ, ◌+◌, Bool, List, length, take, drop, Some, None, sym, ap, ◌∙◌, subst, arith, take-append-drop, length-take}
use mathlib.Core.Path.{subst⁻¹}
use Rattle.forms.specs.Code.{Code, Means, Found, form, short, walk, form_of}
use Rattle.forms.specs.Rules.{Rules}
use Rattle.forms.proofs.Codes.{walk-form, walk-means}
use Rattle.forms.proofs.Rules.{form_of-is}
use Rattle.format.specs.Cells.{marked, Fits, Stands}
use Rattle.format.specs.Format.{got}
use Rattle.format.specs.Lawful.{Lawful}
use Rattle.format.specs.Word.{given, told, word}
use Rattle.format.proofs.Standing.{length_marked, fits-marked, marked-fits}
use Rattle.format.proofs.Laws.{faulted, got-got}

told-got : (p : ℕ) (o : Found) (x q m : ℕ) → told p o ≡ got x q m → (n : ℕ) × (o ≡ form (Some x) n) × (q ≡ p + n)
told-got p (form (Some y) n) x q m e = let (a, b, _) = got-got e in (n, ap (λ z. form (Some z) n) a, sym b)
told-got p (form None n) x q m e = absurd (faulted e)
told-got p short x q m e = absurd (faulted e)

pub law-word : {w : ℕ} (t : Code) → Rules w (Means t) → Lawful (word t)
unfolding word Stands
law-word t rules = record {
  back = λ f p l x q m i e.
      let (n, a, b) = told-got p (walk t (drop p f)) x q m e in
      let (j, h) = walk-means t (drop p f) (Some x) n a in
      let s : given (form_of t x) ≡ take n (drop p f) = ap given (form_of-is t rules (take n (drop p f)) x h) in
      let k : length (take n (drop p f)) ≡ n = simp length-take (omega arith) in (
        (take n (drop p f), h),
        subst⁻¹ (λ (z : List Bool). Fits (drop p f) (marked z)) s (subst (λ (z : List Bool). Fits z (marked (take n (drop p f)))) (take-append-drop n (drop p f)) (fits-marked (take n (drop p f)) (drop n (drop p f)))),
        b ∙ ap (λ (z : ℕ). p + z) (sym (length_marked (given (form_of t x)) ∙ ap length s ∙ k)),
      );
  forth = λ f p l x i v h.
      let (u, a) = v in
      let s : given (form_of t x) ≡ u = ap given (form_of-is t rules u x a) in
      let (r, d) = marked-fits (drop p f) u (subst (λ (z : List Bool). Fits (drop p f) (marked z)) s h) in
      let k : length (marked (given (form_of t x))) ≡ length u = length_marked (given (form_of t x)) ∙ ap length s in (
        p,
        ap (told p) (ap (walk t) d ∙ walk-form t u r (Some x) a) ∙ ap (λ (z : ℕ). got x (p + z) p) (sym k),
      );
}
