-- A window of 64 bits is enough to read a form.
use Rattle.std.proofs.Common.{◌≡◌, ℕ, ◌-◌, ◌*◌, ◌^◌, ◌<◌, ◌≤◌, min, Bool, List, ◌++◌, length, take, drop, Some, Option, sym, ap, ◌∙◌, subst, ⊎_elim, append_assoc, arith, length-drop, take-append-drop, length-take}
use Rattle.std.proofs.lemmas.List.{take_all}
use Rattle.std.proofs.lemmas.Bool.{cases_lt}
use Rattle.bits.specs.Bits.{bits, bits_of, field_at}
use Rattle.bits.proofs.Numbers.{length-bits, bits-number-at}
use Rattle.bits.proofs.Files.{length-bits_of}
use Rattle.forms.specs.Code.{Code, Means, Found, form, walk, form_of}
use Rattle.forms.specs.Rules.{Rules}
use Rattle.forms.proofs.Codes.{walk-form, walk-means, form_of-means}
use Rattle.format.specs.Word.{told, word}

window-bits : (f : List ℕ) (at : ℕ) → bits (min 64 (8 * length f - at)) (field_at f at 64) ≡ take 64 (drop at (bits_of f))
unfolding field_at
window-bits f at =
    let l = length-bits_of f in
    bits-number-at (min 64 (8 * length f - at)) (take 64 (drop at (bits_of f))) (simp (length-take, length-drop) (omega (arith, l)))

pub walk-front : {w : ℕ} (t : Code) → Rules w (Means t) → (bs : List Bool) → walk t (take 64 bs) ≡ walk t bs
walk-front t rules bs =
    ⊎_elim
    (λ (h : length bs < 64). ap (walk t) (take_all 64 bs (omega arith)))
    (λ (h : 64 ≤ length bs).
    let (s, o, (r, m, e), _) = rules.exactly (take 64 bs) (simp length-take (omega arith)) in
    let d : bs ≡ s ++ (r ++ drop 64 bs) = sym (take-append-drop 64 bs) ∙ ap (λ (z : List Bool). z ++ drop 64 bs) e ∙ append_assoc s r (drop 64 bs) in
    ap (walk t) e ∙ walk-form t s r o m ∙ sym (ap (walk t) d ∙ walk-form t s (r ++ drop 64 bs) o m))
    (cases_lt (length bs) 64)

-- what a step that looks at a window finds
pub read_step : {w : ℕ} (t : Code) → Rules w (Means t) → (f : List ℕ) (at last there window : ℕ) → window ≡ field_at f at 64 → there ≡ min 64 (8 * length f - at) →
    (o : Found) → o ≡ walk t (bits there window) → told at o ≡ (word t).reads (bits_of f) at last
unfolding word
read_step t rules f at last there window a b o e =
    ap (told at) (e ∙ ap (λ (n : ℕ). walk t (bits n window)) b ∙ ap (λ (v : ℕ). walk t (bits (min 64 (8 * length f - at)) v)) a ∙ ap (walk t) (window-bits f at) ∙ walk-front t rules (drop at (bits_of f)))

pub found_below : {w : ℕ} (t : Code) → Rules w (Means t) → (bs : List Bool) (x n : ℕ) → form (Some x) n ≡ walk t bs → x < 2 ^ w
found_below t rules bs x n e = rules.below _ x (walk-means t bs (Some x) n (sym e)).1

pub found_within : (t : Code) (bs : List Bool) (o : Option ℕ) (n : ℕ) → form o n ≡ walk t bs → n ≤ length bs
found_within t bs o n e = (walk-means t bs o n (sym e)).0

pub form-below : {w : ℕ} (t : Code) → Rules w (Means t) → (x n v : ℕ) → Some (bits n v) ≡ form_of t x → x < 2 ^ w
form-below t rules x n v e = rules.below _ x (form_of-means t x _ (sym e))

pub form-short : {w : ℕ} (t : Code) → Rules w (Means t) → (x n v : ℕ) → Some (bits n v) ≡ form_of t x → n ≤ 64
form-short t rules x n v e = subst (λ (k : ℕ). k ≤ 64) (length-bits n v) (rules.short _ _ (form_of-means t x _ (sym e)))
