-- What the coders read from the bits of a number, and the form that each writes.
use Rattle.std.proofs.Common.{◌≡◌, ℕ, ◌+◌, ◌-◌, ◌*◌, ◌/◌, ◌%◌, ◌^◌, ◌<◌, ◌≤◌, Bool, true, false, cond, ltb, List, [], ◌++◌, Some, None, Option, sym, refl, ap, ◌∙◌, subst, append-nil, mod-eq_of_lt, arith, le-ltb, lt-ltb}
use mathlib.Core.Path.{subst⁻¹}
use lib.Pow.{ones_lt, high, low}
use Rattle.std.proofs.lemmas.Bool.{cond-true, cond-false}
use Rattle.bits.specs.Bits.{bits}
use Rattle.bits.proofs.Numbers.{length-bits, number-bits, bits-split}
use Rattle.forms.specs.Code.{Code, ends, Means, form, short, walk, form_of, field}
use Rattle.forms.specs.Coders.{minus, plus, null, constant, after_few, reduced}
use Rattle.forms.proofs.Codes.{field-means, field-few, field-under, walk-form}
use Rattle.forms.proofs.Rules.{form_of-is}
use Rattle.forms.proofs.Coders.{means-ends, null-rules, constant-rules, reduced-rules, farther, few, plus-minus}

-- the n lowest of a bits
cut : (n a x : ℕ) → n ≤ a → bits a x ≡ bits n x ++ bits (a - n) (x / 2 ^ n)
cut n a x l = let e : n + (a - n) ≡ a = omega arith in subst (λ (k : ℕ). bits k x ≡ bits n x ++ bits (a - n) (x / 2 ^ n)) e (bits-split n (a - n) x)

-- a form that is the n lowest bits, read
pub read_at : (t : Code) (n a x : ℕ) (o : Option ℕ) → n ≤ a → Means t (bits n x) o → walk t (bits a x) ≡ form o n
read_at t n a x o l m = ap (walk t) (cut n a x l) ∙ walk-form t (bits n x) (bits (a - n) (x / 2 ^ n)) o m ∙ ap (form o) (length-bits n x)

-- a field that is the n lowest bits of x, with k more behind it
field_at : (n k x : ℕ) (next : ℕ → Code) (o : Option ℕ) → Means (next (x % 2 ^ n)) (bits k (x / 2 ^ n)) o → Means (field n next) (bits (n + k) x) o
field_at n k x next o m =
    subst⁻¹ (λ (s : List Bool). Means (field n next) s o) (bits-split n k x)
    (field-means n next (bits n x) (bits k (x / 2 ^ n)) o (length-bits n x) (subst⁻¹ (λ (v : ℕ). Means (next v) (bits k (x / 2 ^ n)) o) (number-bits n x) m))

-- and with none
field-last : (n x : ℕ) (next : ℕ → Code) (o : Option ℕ) → Means (next (x % 2 ^ n)) [] o → Means (field n next) (bits n x) o
field-last n x next o m =
    subst (λ (s : List Bool). Means (field n next) s o) (append-nil (bits n x))
    (field-means n next (bits n x) [] o (length-bits n x) (subst⁻¹ (λ (v : ℕ). Means (next v) [] o) (number-bits n x) m))

few_bits : (n a x : ℕ) (next : ℕ → Code) → a < n → walk (field n next) (bits a x) ≡ short
few_bits n a x next l = field-few n next (bits a x) (subst⁻¹ (λ (k : ℕ). k < n) (length-bits a x) l)

under-bits : (n a x : ℕ) (next : ℕ → Code) → n ≤ a → walk (next (x % 2 ^ n)) (bits (a - n) (x / 2 ^ n)) ≡ short → walk (field n next) (bits a x) ≡ short
under-bits n a x next l e =
    ap (walk (field n next)) (cut n a x l)
    ∙ field-under n next (bits n x) (bits (a - n) (x / 2 ^ n)) (length-bits n x) (subst⁻¹ (λ (v : ℕ). walk (next v) (bits (a - n) (x / 2 ^ n)) ≡ short) (number-bits n x) e)

-- null
null-means : (w x : ℕ) → Means (null w) (bits w x) (Some (x % 2 ^ w))
null-means w x = field-last w x (λ v. ends (Some v)) (Some (x % 2 ^ w)) (means-ends _ _ refl)

pub null-few : (w a x : ℕ) → a < w → walk (null w) (bits a x) ≡ short
null-few w a x l = few_bits w a x (λ v. ends (Some v)) l

pub null-reads : (w a x : ℕ) → w ≤ a → walk (null w) (bits a x) ≡ form (Some (x % 2 ^ w)) w
null-reads w a x l = read_at (null w) w a x _ l (null-means w x)

pub null-writes : (w x : ℕ) → w ≤ 32 → x < 2 ^ w → form_of (null w) x ≡ Some (bits w x)
null-writes w x h l = form_of-is (null w) (null-rules w h) (bits w x) x (subst (λ (n : ℕ). Means (null w) (bits w x) (Some n)) (mod-eq_of_lt l) (null-means w x))

-- constant
pub constant-reads : (c : ℕ) (bs : List Bool) → walk (constant c) bs ≡ form (Some c) 0
unfolding walk
constant-reads c bs = refl

pub constant-writes : (w c : ℕ) → c < 2 ^ w → form_of (constant c) c ≡ Some []
constant-writes w c l = form_of-is (constant c) (constant-rules w c l) [] c (means-ends _ _ refl)

-- reduced
module _ (w R p : ℕ) where
  near : (v : ℕ) → Means (after_few w R p v true) [] (Some (plus w p v))
  unfolding after_few
  near v = means-ends _ _ refl

  far : (v x : ℕ) (o : Option ℕ) → o ≡ cond (ltb (minus w p (x % 2 ^ w)) (2 ^ R - 1)) None (Some (x % 2 ^ w)) → Means (after_few w R p v false) (bits w x) o
  unfolding after_few
  far v x o e = field-last w x (farther w R p) o (means-ends _ _ e)

  part : (v a x : ℕ) → a < w → walk (after_few w R p v false) (bits a x) ≡ short
  unfolding after_few
  part v a x l = few_bits w a x (farther w R p) l

  near-means : (x : ℕ) → x % 2 ^ R < 2 ^ R - 1 → Means (reduced w R p) (bits R x) (Some (plus w p (x % 2 ^ R)))
  near-means x l = field-last R x (few w R p) _
      (subst⁻¹ (λ (b : Bool). Means (after_few w R p (x % 2 ^ R) b) [] (Some (plus w p (x % 2 ^ R)))) (lt-ltb (x % 2 ^ R) (2 ^ R - 1) l) (near (x % 2 ^ R)))

  far-means : (x : ℕ) (o : Option ℕ) → 2 ^ R - 1 ≤ x % 2 ^ R → o ≡ cond (ltb (minus w p ((x / 2 ^ R) % 2 ^ w)) (2 ^ R - 1)) None (Some ((x / 2 ^ R) % 2 ^ w)) →
      Means (reduced w R p) (bits (R + w) x) o
  far-means x o l e = field_at R w x (few w R p) o
      (subst⁻¹ (λ (b : Bool). Means (after_few w R p (x % 2 ^ R) b) (bits w (x / 2 ^ R)) o) (le-ltb (x % 2 ^ R) (2 ^ R - 1) l) (far (x % 2 ^ R) (x / 2 ^ R) o e))

  pub reduced-few : (a x : ℕ) → a < R → walk (reduced w R p) (bits a x) ≡ short
  reduced-few a x l = few_bits R a x (few w R p) l

  pub reduced-near : (a x : ℕ) → R ≤ a → x % 2 ^ R < 2 ^ R - 1 → walk (reduced w R p) (bits a x) ≡ form (Some (plus w p (x % 2 ^ R))) R
  reduced-near a x l h = read_at (reduced w R p) R a x _ l (near-means x h)

  pub reduced-part : (a x : ℕ) → R ≤ a → a < R + w → 2 ^ R - 1 ≤ x % 2 ^ R → walk (reduced w R p) (bits a x) ≡ short
  reduced-part a x k l h = under-bits R a x (few w R p) k
      (subst⁻¹ (λ (b : Bool). walk (after_few w R p (x % 2 ^ R) b) (bits (a - R) (x / 2 ^ R)) ≡ short) (le-ltb (x % 2 ^ R) (2 ^ R - 1) h) (part (x % 2 ^ R) (a - R) (x / 2 ^ R) (omega arith)))

  pub reduced-far : (a x : ℕ) → R + w ≤ a → 2 ^ R - 1 ≤ x % 2 ^ R → 2 ^ R - 1 ≤ minus w p ((x / 2 ^ R) % 2 ^ w) →
      walk (reduced w R p) (bits a x) ≡ form (Some ((x / 2 ^ R) % 2 ^ w)) (R + w)
  reduced-far a x l h k = read_at (reduced w R p) (R + w) a x _ l (far-means x _ h (sym (cond-false _ _ _ (le-ltb _ _ k))))

  pub reduced-dead : (a x : ℕ) → R + w ≤ a → 2 ^ R - 1 ≤ x % 2 ^ R → minus w p ((x / 2 ^ R) % 2 ^ w) < 2 ^ R - 1 →
      walk (reduced w R p) (bits a x) ≡ form None (R + w)
  reduced-dead a x l h k = read_at (reduced w R p) (R + w) a x _ l (far-means x _ h (sym (cond-true _ _ _ (lt-ltb _ _ k))))

  pub reduced-writes-near : (x : ℕ) → R ≤ w → w ≤ 32 → x < 2 ^ w → minus w p x < 2 ^ R - 1 → form_of (reduced w R p) x ≡ Some (bits R (minus w p x))
  reduced-writes-near x r h l k =
      let e : minus w p x % 2 ^ R ≡ minus w p x = mod-eq_of_lt (omega arith) in
      form_of-is (reduced w R p) (reduced-rules w R p r h) (bits R (minus w p x)) x
      (subst (λ (n : ℕ). Means (reduced w R p) (bits R (minus w p x)) (Some n)) (ap (plus w p) e ∙ plus-minus w p x l)
      (near-means (minus w p x) (subst⁻¹ (λ (n : ℕ). n < 2 ^ R - 1) e k)))

  pub reduced-writes-far : (x : ℕ) → R ≤ w → w ≤ 32 → x < 2 ^ w → 2 ^ R - 1 ≤ minus w p x → form_of (reduced w R p) x ≡ Some (bits (R + w) (x * 2 ^ R + (2 ^ R - 1)))
  reduced-writes-far x r h l k =
      let hi : (x * 2 ^ R + (2 ^ R - 1)) / 2 ^ R ≡ x = high x R (ones_lt R) in
      let lo : (x * 2 ^ R + (2 ^ R - 1)) % 2 ^ R ≡ 2 ^ R - 1 = low x R (ones_lt R) in
      let d : (x * 2 ^ R + (2 ^ R - 1)) / 2 ^ R % 2 ^ w ≡ x = ap (λ (n : ℕ). n % 2 ^ w) hi ∙ mod-eq_of_lt l in
      form_of-is (reduced w R p) (reduced-rules w R p r h) (bits (R + w) (x * 2 ^ R + (2 ^ R - 1))) x
      (far-means (x * 2 ^ R + (2 ^ R - 1)) (Some x) (omega (arith, lo))
      (subst⁻¹ (λ (n : ℕ). Some x ≡ cond (ltb (minus w p n) (2 ^ R - 1)) None (Some n)) d (sym (cond-false _ _ _ (le-ltb _ _ k)))))
