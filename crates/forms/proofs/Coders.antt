-- The coders keep the rules.
use Rattle.std.proofs.Common.{◌≡◌, ℕ, ◌+◌, ◌-◌, ◌*◌, ◌/◌, ◌%◌, ◌^◌, ◌<◌, ◌≤◌, Bool, true, false, cond, ltb, List, [], ◌∷◌, ◌++◌, length, Some, None, Option, sym, refl, ap, ◌∙◌, subst, append-nil, lt_of_lt_of_le, mod-lt, mod-eq_of_lt, arith, pow_pos, pow_mono, pow-add, shr_lt, ltb-false}
use mathlib.Core.Path.{subst⁻¹}
use native.Mathlib.Nat.{mod-add-mod, add-mod_right}
use lib.Arith.{digits_lt}
use lib.Pow.{high, low, split}
use Rattle.std.proofs.lemmas.Bool.{cond-true, cond-false}
use Rattle.bits.specs.Bits.{bits, number}
use Rattle.bits.proofs.Numbers.{number_lt, bits-number-at}
use Rattle.forms.specs.Code.{Code, ends, Means, Within}
use Rattle.forms.specs.Rules.{Rules}
use Rattle.forms.specs.Coding.{Coding, Sound}
use Rattle.forms.specs.Coders.{minus, plus, rotr, null, constant, after_few, reduced, turn, delta, beside, delta_if}
use Rattle.forms.proofs.Codes.{means-field, within-field, within_more, some_same, none-some}
use Rattle.forms.proofs.Rules.{rules-of, Swaps, renamed-rules}

pub ends-means : (u : Option ℕ) (s : List Bool) (o : Option ℕ) → Means (ends u) s o → (s ≡ []) × (o ≡ u)
unfolding Means
ends-means u [] o m = (refl, m)
ends-means u (b ∷ s) o m = absurd m

pub means-ends : (u o : Option ℕ) → o ≡ u → Means (ends u) [] o
unfolding Means
means-ends u o e = e

pub ends-within : (n : ℕ) (u : Option ℕ) → Within n (ends u)
unfolding Within
ends-within n u = tt

number-within : (n : ℕ) (s : List Bool) → length s ≡ n → number s < 2 ^ n
number-within n s e = subst (λ (k : ℕ). number s < 2 ^ k) e (number_lt s)

-- null
pub null_is : (w : ℕ) (s : List Bool) (x : ℕ) → Means (null w) s (Some x) → (x < 2 ^ w) × (s ≡ bits w x)
null_is w s x m =
    let h = means-field w (λ v. ends (Some v)) s (Some x) m in
    let (a, b) = ends-means _ h.tail (Some x) h.then in
    let e : x ≡ number h.head = some_same b in (
      subst⁻¹ (λ (n : ℕ). n < 2 ^ w) e (number-within w h.head h.wide),
      h.split ∙ ap (λ (z : List Bool). h.head ++ z) a ∙ append-nil h.head ∙ sym (bits-number-at w h.head h.wide) ∙ ap (bits w) (sym e),
    )

pub null-rules : (w : ℕ) → w ≤ 32 → Rules w (Means (null w))
null-rules w l = rules-of w (null w) (within_more (w + 0) 64 (null w) (omega arith) (within-field w 0 (λ v. ends (Some v)) (λ v. ends-within 0 (Some v))))
    (λ s x m. (null_is w s x m).0)
    (λ s u x m n. (null_is w s x m).1 ∙ sym (null_is w u x n).1)

-- constant
pub constant-rules : (w c : ℕ) → c < 2 ^ w → Rules w (Means (constant c))
constant-rules w c l = rules-of w (constant c) (ends-within 64 (Some c))
    (λ s x m. subst⁻¹ (λ (n : ℕ). n < 2 ^ w) (some_same (ends-means _ s _ m).1) l)
    (λ s u x m n. (ends-means _ s _ m).0 ∙ sym (ends-means _ u _ n).0)

-- differences
module _ (w p : ℕ) where
  pub minus_plus : (x : ℕ) → x < 2 ^ w → minus w p (plus w p x) ≡ x
  minus_plus x h =
      let l = mod-lt p (pow_pos w) in
      mod-add-mod (x + p % 2 ^ w) (2 ^ w) (2 ^ w - p % 2 ^ w)
      ∙ ap (λ (n : ℕ). n % 2 ^ w) (omega arith)
      ∙ add-mod_right x (2 ^ w) ∙ mod-eq_of_lt h

  pub plus-minus : (x : ℕ) → x < 2 ^ w → plus w p (minus w p x) ≡ x
  plus-minus x h =
      let l = mod-lt p (pow_pos w) in
      mod-add-mod (x + (2 ^ w - p % 2 ^ w)) (2 ^ w) (p % 2 ^ w)
      ∙ ap (λ (n : ℕ). n % 2 ^ w) (omega arith)
      ∙ add-mod_right x (2 ^ w) ∙ mod-eq_of_lt h

  pub delta-swaps : Swaps w (minus w p) (plus w p)
  delta-swaps = record {
    f-below = λ x h. mod-lt _ (pow_pos w);
    g-below = λ x h. mod-lt _ (pow_pos w);
    f-g = minus_plus;
    g-f = plus-minus;
  }

-- reduced
module _ (w R p : ℕ) where
  abbrev pub farther : ℕ → Code
  farther d = ends (cond (ltb (minus w p d) (2 ^ R - 1)) None (Some d))

  abbrev pub few : ℕ → Code
  few v = after_few w R p v (ltb v (2 ^ R - 1))

  few-within : (v : ℕ) (b : Bool) → Within (w + 0) (after_few w R p v b)
  unfolding after_few
  few-within v true = ends-within (w + 0) (Some (plus w p v))
  few-within v false = within-field w 0 farther (λ d. ends-within 0 _)

  -- the form of x
  abbrev pub reduced_form : ℕ → List Bool
  reduced_form x = cond (ltb (minus w p x) (2 ^ R - 1)) (bits R (minus w p x)) (bits R (2 ^ R - 1) ++ bits w x)

  far-is : (d x : ℕ) (b : Bool) → ltb (minus w p d) (2 ^ R - 1) ≡ b → cond b None (Some d) ≡ Some x → (d ≡ x) × (ltb (minus w p x) (2 ^ R - 1) ≡ false)
  far-is d x true h e = absurd (none-some e)
  far-is d x false h e = let q : d ≡ x = some_same e in (q, subst (λ (n : ℕ). ltb (minus w p n) (2 ^ R - 1) ≡ false) q h)

  after_is : R ≤ w → (a t : List Bool) (x : ℕ) (b : Bool) → length a ≡ R → ltb (number a) (2 ^ R - 1) ≡ b → Means (after_few w R p (number a) b) t (Some x) →
      (x < 2 ^ w) × (a ++ t ≡ reduced_form x)
  unfolding after_few
  after_is small a t x true l e m =
      let lt = number-within R a l in
      let le : 2 ^ R ≤ 2 ^ w = pow_mono small in
      let (n, y) = ends-means _ t _ m in
      let x-is : x ≡ plus w p (number a) = some_same y in
      let back : minus w p x ≡ number a = ap (minus w p) x-is ∙ minus_plus w p (number a) (lt_of_lt_of_le lt le) in
      let test : ltb (minus w p x) (2 ^ R - 1) ≡ true = ap (λ (n : ℕ). ltb n (2 ^ R - 1)) back ∙ e in (
        subst⁻¹ (λ (n : ℕ). n < 2 ^ w) x-is (mod-lt _ (pow_pos w)),
        ap (λ (z : List Bool). a ++ z) n ∙ append-nil a ∙ sym (bits-number-at R a l) ∙ ap (bits R) (sym back) ∙ sym (cond-true (ltb (minus w p x) (2 ^ R - 1)) _ _ test),
      )
  after_is small a t x false l e m =
      let lt = number-within R a l in
      let h = means-field w farther t (Some x) m in
      let (n, y) = ends-means _ h.tail _ h.then in
      let q = far-is (number h.head) x _ refl (sym y) in
      let over = ltb-false (number a) (2 ^ R - 1) e in
      let full : number a ≡ 2 ^ R - 1 = omega arith in
      let tail : t ≡ bits w x = h.split ∙ ap (λ (z : List Bool). h.head ++ z) n ∙ append-nil h.head ∙ sym (bits-number-at w h.head h.wide) ∙ ap (bits w) q.0 in (
        subst (λ (n : ℕ). n < 2 ^ w) q.0 (number-within w h.head h.wide),
        ap (λ (z : List Bool). z ++ t) (sym (bits-number-at R a l) ∙ ap (bits R) full) ∙ ap (λ (z : List Bool). bits R (2 ^ R - 1) ++ z) tail ∙ sym (cond-false (ltb (minus w p x) (2 ^ R - 1)) _ _ q.1),
      )

  reduced-is : R ≤ w → (s : List Bool) (x : ℕ) → Means (reduced w R p) s (Some x) → (x < 2 ^ w) × (s ≡ reduced_form x)
  reduced-is small s x m =
      let h = means-field R few s (Some x) m in
      let (l, e) = after_is small h.head h.tail x _ h.wide refl h.then in
      (l, h.split ∙ e)

  pub reduced-rules : R ≤ w → w ≤ 32 → Rules w (Means (reduced w R p))
  reduced-rules small wide = rules-of w (reduced w R p)
      (within_more (R + (w + 0)) 64 (reduced w R p) (omega arith) (within-field R (w + 0) few (λ v. few-within v (ltb v (2 ^ R - 1)))))
      (λ s x m. (reduced-is small s x m).0)
      (λ s u x m n. (reduced-is small s x m).1 ∙ sym (reduced-is small u x n).1)

-- turns
module _ (w b : ℕ) (fits : b ≤ w) where
  parts : (w - b) + b ≡ w
  parts = omega arith

  all : 2 ^ b * 2 ^ (w - b) ≡ 2 ^ w
  all = sym (pow-add 2 b (w - b)) ∙ ap (λ (n : ℕ). 2 ^ n) (omega arith)

  top : (x : ℕ) → x < 2 ^ w → x / 2 ^ b < 2 ^ (w - b)
  top x h = shr_lt (w - b) b (subst⁻¹ (λ (n : ℕ). x < 2 ^ n) parts h)

  pub rotr-below : (x : ℕ) → x < 2 ^ w → rotr w b x < 2 ^ w
  rotr-below x h = subst (λ (n : ℕ). rotr w b x < n) all (digits_lt (mod-lt x (pow_pos b)) (top x h))

  pub rotr-back : (x : ℕ) → x < 2 ^ w → rotr w (w - b) (rotr w b x) ≡ x
  rotr-back x h =
      let lo : rotr w b x % 2 ^ (w - b) ≡ x / 2 ^ b = low (x % 2 ^ b) (w - b) (top x h) in
      let hi : rotr w b x / 2 ^ (w - b) ≡ x % 2 ^ b = high (x % 2 ^ b) (w - b) (top x h) in
      let back : w - (w - b) ≡ b = omega arith in
      rw (lo, hi, back) (split x b)

pub turn-swaps : (w b : ℕ) → b ≤ w → Swaps w (rotr w b) (rotr w (w - b))
turn-swaps w b h =
    let k : w - b ≤ w = omega arith in
    let back : w - (w - b) ≡ b = omega arith in
    record {
      f-below = rotr-below w b h;
      g-below = rotr-below w (w - b) k;
      f-g = λ x l. subst (λ (n : ℕ). rotr w n (rotr w (w - b) x) ≡ x) back (rotr-back w (w - b) k x l);
      g-f = rotr-back w b h;
    }

-- adapters
pub turn-sound : {M : Type 0} (w b : ℕ) (C : Coding M) → b ≤ w → Sound w C → Sound w (turn w b C)
turn-sound w b C h K m = renamed-rules (turn-swaps w b h) (C.code m) (K m)

pub delta-sound : {M : Type 0} (w : ℕ) (C : Coding M) → Sound w C → Sound w (delta w C)
delta-sound w C K m = renamed-rules (delta-swaps w m.0) (C.code m.1) (K m.1)

pub beside-sound : {M : Type 0} (w : ℕ) (C : Coding M) → Sound w C → Sound w (beside C)
beside-sound w C K m = K m.1

pub delta_if-sound : {M : Type 0} (w : ℕ) (on : Bool) (C : Coding M) → Sound w C → Sound w (delta_if w on C)
delta_if-sound w true C K = delta-sound w C K
delta_if-sound w false C K = beside-sound w C K

pub within : (b w : ℕ) → 0 < w → b % w ≤ w
within b w h = let l = mod-lt b h in omega arith
