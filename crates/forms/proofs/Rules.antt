-- What the rules give, and what gives the rules.
use Rattle.std.proofs.Common.{◌≡◌, ℕ, ◌+◌, ◌-◌, ◌^◌, ◌<◌, ◌≤◌, Bool, false, ◌⊎◌, List, [], ◌++◌, length, take, drop, replicate, Some, None, Option, sym, refl, ap, ◌∙◌, subst, inl, inr, ⊎_elim, append_assoc, append-nil, arith, length-append, length-drop, length-take}
use mathlib.Core.Path.{subst⁻¹}
use lib.ListN.{length-replicate}
use Rattle.std.proofs.lemmas.List.{take-append-le, take-append-drop, take_at}
use Rattle.std.proofs.lemmas.Bool.{cases_lt}
use Rattle.bits.proofs.Files.{take_past}
use Rattle.forms.specs.Code.{Code, Means, form_of, renamed, Within}
use Rattle.forms.specs.Rules.{Meaning, ExactlyOne, Partial, Rules, Remaining}
use Rattle.forms.proofs.Codes as codes

-- a code whose forms are within 64 bits keeps rule 1
pub rules-of : (w : ℕ) (t : Code) → Within 64 t → ((s : List Bool) (x : ℕ) → Means t s (Some x) → x < 2 ^ w) →
    ((s u : List Bool) (x : ℕ) → Means t s (Some x) → Means t u (Some x) → s ≡ u) → Rules w (Means t)
rules-of w t h below alone = record {
  exactly = λ bs l.
      let (s, o, r, m, e) = codes.begun 64 t h bs (omega arith) in
      (s, o, (r, m, e), λ u q b. codes.one t u s b.0 r q o b.1 m (sym b.2 ∙ e));
  short = codes.within-length 64 t h;
  below = below;
  alone = alone;
}

-- by the rules alone: of two forms that begin one string, each is the other
pub one : {w : ℕ} {S : Meaning} → Rules w S → (s u r q : List Bool) (o v : Option ℕ) → S s o → S u v → s ++ r ≡ u ++ q → (s ≡ u) × (o ≡ v)
one {w} {S} rules s u r q o v h k e =
    let z : List Bool = replicate 64 false in
    let bs : List Bool = take 64 ((s ++ r) ++ z) in
    let len : length (take 64 ((s ++ r) ++ replicate 64 false)) ≡ 64 = simp (length-take, length-append, length-replicate) (omega arith) in
    let (a, b, _, only) = rules.exactly (take 64 ((s ++ r) ++ replicate 64 false)) len in
    let front = fronted s r (rules.short s o h) in
    let front₂ : take 64 ((s ++ r) ++ replicate 64 false) ≡ u ++ take (64 - length u) (q ++ replicate 64 false) =
    ap (λ (y : List Bool). take 64 (y ++ replicate 64 false)) e ∙ fronted u q (rules.short u v k) in
    let (x₁, y₁) = only s o (_, h, front) in
    let (x₂, y₂) = only u v (_, k, front₂) in
    (x₁ ∙ sym x₂, y₁ ∙ sym y₂)
  where
    fronted : (s r : List Bool) → length s ≤ 64 → take 64 ((s ++ r) ++ replicate 64 false) ≡ s ++ take (64 - length s) (r ++ replicate 64 false)
    fronted s r l =
        let e : length s + (64 - length s) ≡ 64 = omega arith in
        ap (take 64) (append_assoc s r (replicate 64 false)) ∙ subst (λ (n : ℕ). take n (s ++ (r ++ replicate 64 false)) ≡ s ++ take (64 - length s) (r ++ replicate 64 false)) e (take_past s (r ++ replicate 64 false) (length s) (64 - length s) refl)

-- of two strings that begin one, the shorter begins the longer
begins-both : (p q r t : List Bool) → p ++ r ≡ q ++ t → length p ≤ length q → q ≡ p ++ drop (length p) q
begins-both p q r t e l =
    let a : take (length p) (p ++ r) ≡ p = take_at p r (length p) refl in
    let b : take (length p) (q ++ t) ≡ take (length p) q = take-append-le (length p) q t l in
    let c : take (length p) q ≡ p = sym b ∙ ap (take (length p)) (sym e) ∙ a in
    sym (take-append-drop (length p) q) ∙ ap (λ (z : List Bool). z ++ drop (length p) q) c

module _ {w : ℕ} {S : Meaning} (rules : Rules w S) where
  only : (bs s r : List Bool) (o : Option ℕ) → S s o → bs ≡ s ++ r → ExactlyOne S bs
  only bs s r o h e = (s, o, (r, h, e), λ u q b. one rules u s b.0 r q o b.1 h (sym b.2 ∙ e))

  whole : (bs : List Bool) → 64 ≤ length bs → ExactlyOne S bs
  whole bs l =
      let (s, o, (r, h, e), _) = rules.exactly (take 64 bs) (simp length-take (omega arith)) in
      only bs s (r ++ drop 64 bs) o h (sym (take-append-drop 64 bs) ∙ ap (λ (z : List Bool). z ++ drop 64 bs) e ∙ append_assoc s r (drop 64 bs))

  -- fewer bits than 64: what they begin with once zeros follow
  few : (bs : List Bool) → length bs < 64 → ExactlyOne S bs ⊎ Partial S bs
  few bs l =
      let z : List Bool = replicate (64 - length bs) false in
      let len : length (bs ++ replicate (64 - length bs) false) ≡ 64 = simp (length-append, length-replicate) (omega arith) in
      let (s, o, (r, h, e), _) = rules.exactly (bs ++ replicate (64 - length bs) false) len in
      ⊎_elim
      (λ (k : length bs < length s).
      let d = begins-both bs s z r e (omega arith) in
      inr (s, o, drop (length bs) s, h, d, simp length-drop (omega arith)))
      (λ (k : length s ≤ length bs). inl (only bs s (drop (length s) bs) o h (begins-both s bs r z (sym e) k)))
      (cases_lt (length bs) (length s))

  never_both : (bs : List Bool) → ExactlyOne S bs → Partial S bs → ⊥
  never_both bs (s, o, (r, h, e), _) (u, q, t, k, d, l) =
      let f : s ++ (r ++ t) ≡ u ++ [] = sym (append_assoc s r t) ∙ ap (λ (z : List Bool). z ++ t) (sym e) ∙ sym d ∙ sym (append-nil u) in
      let (same, _) = one rules s u (r ++ t) [] o q h k f in
      let a : length u ≡ length s + length r + length t = ap length d ∙ simp length-append (omega (arith, simp length-append at (ap length e))) in
      omega (arith, ap length same)

  pub remaining : Remaining S
  remaining bs = (⊎_elim (few bs) (λ (k : 64 ≤ length bs). inl (whole bs k)) (cases_lt (length bs) 64), never_both bs)

-- a word's form, found
pub form_of-is : {w : ℕ} (t : Code) → Rules w (Means t) → (s : List Bool) (x : ℕ) → Means t s (Some x) → form_of t x ≡ Some s
form_of-is t rules s x m =
    let (u, e) = codes.form_of-has t x s m in
    e ∙ ap Some (rules.alone u s x (codes.form_of-means t x u e) m)

-- and not found where the word is too large
pub form_of-over : {w : ℕ} (t : Code) → Rules w (Means t) → (x : ℕ) → 2 ^ w ≤ x → form_of t x ≡ None
form_of-over {w} t rules x h = codes.form_of-none t x (λ s m. let l = rules.below s x m in omega arith)

-- f and g undo each other on the words of w bits, and stay there
pub record Swaps (w : ℕ) (f g : ℕ → ℕ) : Type 0 where
  pub f-below : (x : ℕ) → x < 2 ^ w → f x < 2 ^ w
  pub g-below : (x : ℕ) → x < 2 ^ w → g x < 2 ^ w
  pub f-g : (x : ℕ) → x < 2 ^ w → f (g x) ≡ x
  pub g-f : (x : ℕ) → x < 2 ^ w → g (f x) ≡ x

module _ {w : ℕ} {f g : ℕ → ℕ} (swaps : Swaps w f g) (t : Code) (rules : Rules w (Means t)) where
  -- what a word's form meant before
  pub inner : (s : List Bool) (x : ℕ) → Means (renamed g t) s (Some x) → (x < 2 ^ w) × Means t s (Some (f x))
  inner s x m = let (u, h, e) = codes.means-renamed g t s (Some x) m in go u h e
    where
      go : (u : Option ℕ) → Means t s u → Some x ≡ codes.named g u → (x < 2 ^ w) × Means t s (Some (f x))
      go None h e = absurd (codes.none-some (sym e))
      go (Some y) h e =
          let l = rules.below s y h in
          let d : x ≡ g y = codes.some_same e in (
            subst⁻¹ (λ (n : ℕ). n < 2 ^ w) d (swaps.g-below y l),
            subst⁻¹ (λ (n : ℕ). Means t s (Some (f n))) d (subst⁻¹ (λ (n : ℕ). Means t s (Some n)) (swaps.f-g y l) h),
          )

  pub outer : (s : List Bool) (x : ℕ) → x < 2 ^ w → Means t s (Some (f x)) → Means (renamed g t) s (Some x)
  outer s x l m = subst (λ (n : ℕ). Means (renamed g t) s (Some n)) (swaps.g-f x l) (codes.renamed-means g t s (Some (f x)) m)

  pub renamed-rules : Rules w (Means (renamed g t))
  renamed-rules = record {
    exactly = λ bs l.
        let (s, o, (r, m, e), only) = rules.exactly bs l in (
          s,
          codes.named g o,
          (r, codes.renamed-means g t s o m, e),
          λ u q b.
              let (v, h, d) = codes.means-renamed g t u q b.1 in
              let (x, y) = only u v (b.0, h, b.2) in
              (x, d ∙ ap (codes.named g) y),
        );
    short = λ s o m. let (v, h, d) = codes.means-renamed g t s o m in rules.short s v h;
    below = λ s x m. (inner s x m).0;
    alone = λ s u x m n. rules.alone s u (f x) (inner s x m).1 (inner u x n).1;
  }

  pub form_of-renamed : (x : ℕ) → x < 2 ^ w → form_of (renamed g t) x ≡ form_of t (f x)
  form_of-renamed x l = go (form_of t (f x)) refl
    where
      go : (o : Option (List Bool)) → form_of t (f x) ≡ o → form_of (renamed g t) x ≡ o
      go (Some s) e = form_of-is (renamed g t) renamed-rules s x (outer s x l (codes.form_of-means t (f x) s e))
      go None e = codes.form_of-none (renamed g t) x (λ s m. let (u, d) = codes.form_of-has t (f x) s (inner s x m).1 in codes.none-some (sym e ∙ d))
