-- A window of 64 bits is enough to read a form.
use Rattle.std.proofs.Common.{◌≡◌, ℕ, ◌-◌, ◌*◌, ◌<◌, ◌≤◌, min, Bool, List, ◌++◌, length, take, drop, Some, None, Option, sym, refl, ap, ◌∙◌, subst, ⊎_elim, append_assoc, arith, length-drop, take-append-drop, length-take}
use Rattle.std.proofs.lemmas.List.{take_all}
use Rattle.std.proofs.lemmas.Bool.{cases_lt}
use Rattle.bits.specs.Bits.{bits, bits_of, field_at}
use Rattle.bits.proofs.Numbers.{length-bits, bits-number-at}
use Rattle.bits.proofs.Files.{length-bits_of}
use Rattle.forms.specs.Code.{Code, Means, Found, form, short, walk, form_of}
use Rattle.forms.specs.Rules.{Rules}
use Rattle.forms.specs.Coding.{Coding, Sound, behind, encoded, word, told, decoded}
use Rattle.forms.proofs.Codes.{walk-form, walk-means, form_of-means, none-some, some_same}

-- the bits of a window are the next 64, or those that there are
window-bits : (f : List ℕ) (at : ℕ) → bits (min 64 (8 * length f - at)) (field_at f at 64) ≡ take 64 (drop at (bits_of f))
unfolding field_at
window-bits f at =
    let l = length-bits_of f in
    bits-number-at (min 64 (8 * length f - at)) (take 64 (drop at (bits_of f))) (simp (length-take, length-drop) (omega (arith, l)))

pub walk-front : {w : ℕ} (t : Code) → Rules w (Means t) → (bs : List Bool) → walk t (take 64 bs) ≡ walk t bs
walk-front t rules bs =
    ⊎_elim
    (λ (h : length bs < 64). ap (walk t) (take_all 64 bs (omega arith)))
    (λ (h : 64 ≤ length bs).
    let (s, o, (r, m, e), _) = rules.exactly (take 64 bs) (simp length-take (omega arith)) in
    let d : bs ≡ s ++ (r ++ drop 64 bs) = sym (take-append-drop 64 bs) ∙ ap (λ (z : List Bool). z ++ drop 64 bs) e ∙ append_assoc s r (drop 64 bs) in
    ap (walk t) e ∙ walk-form t s r o m ∙ sym (ap (walk t) d ∙ walk-form t s (r ++ drop 64 bs) o m))
    (cases_lt (length bs) 64)

-- what stands at the front of a window stands at the front of all that remains
pub decoded-window : {M : Type 0} {w : ℕ} (C : Coding M) → Sound w C → (m : M) (f : List ℕ) (at n v : ℕ) → v ≡ field_at f at 64 → n ≡ min 64 (8 * length f - at) →
    decoded C m (bits n v) ≡ decoded C m (drop at (bits_of f))
unfolding decoded
decoded-window C K m f at n v a b =
    ap (told (C.after m))
    (ap (λ (k : ℕ). walk (C.code m) (bits k v)) b ∙ ap (λ (z : ℕ). walk (C.code m) (bits (min 64 (8 * length f - at)) z)) a
    ∙ ap (walk (C.code m)) (window-bits f at) ∙ walk-front (C.code m) (K m) (drop at (bits_of f)))

-- a form that a coder gives
pub encoded-means : {M : Type 0} (C : Coding M) (m : M) (x : ℕ) (s : List Bool) (k : M) → encoded C m x ≡ Some (s, k) → Means (C.code m) s (Some x) × (k ≡ C.after m x)
unfolding encoded
encoded-means {M} C m x s k e = go (form_of (C.code m) x) refl e
  where
    go : (o : Option (List Bool)) → form_of (C.code m) x ≡ o → behind o (C.after m x) ≡ Some (s, k) → Means (C.code m) s (Some x) × (k ≡ C.after m x)
    go None a d = absurd (none-some d)
    go (Some u) a d =
        let p : ◌≡◌ {A = List Bool × M} (u, C.after m x) (s, k) = some_same d in
        let q : u ≡ s = ap (λ z. z.0) p in
        (form_of-means (C.code m) x s (a ∙ ap Some q), sym (ap (λ z. z.1) p))

-- is short
pub encoded-short : {M : Type 0} {w : ℕ} (C : Coding M) → Sound w C → (m : M) (x : ℕ) (n v : ℕ) (k : M) → Some (bits n v, k) ≡ encoded C m x → n ≤ 64
encoded-short C K m x n v k e = subst (λ (j : ℕ). j ≤ 64) (length-bits n v) ((K m).short _ _ (encoded-means C m x (bits n v) k (sym e)).0)

-- a form that was read is short
pub decoded-short : {M : Type 0} {w : ℕ} (C : Coding M) → Sound w C → (m : M) (bs : List Bool) (x n : ℕ) (k : M) → word x n k ≡ decoded C m bs → n ≤ 64
unfolding decoded
decoded-short {M} {w} C K m bs x n k e = go (walk (C.code m) bs) refl e
  where
    go : (o : Found) → walk (C.code m) bs ≡ o → word x n k ≡ told (C.after m) o → n ≤ 64
    go (form (Some y) j) a d =
        let i : j ≡ n = cc in
        let (b, h) = walk-means (C.code m) bs (Some y) j a in
        let l : length (take j bs) ≤ 64 = (K m).short _ _ h in
        omega (arith, length-take j bs)
    go (form None j) a d = let z : ◌≡◌ {A = ℕ} 0 1 = cc in absurd (omega arith)
    go short a d = let z : ◌≡◌ {A = ℕ} 0 1 = cc in absurd (omega arith)
