-- What is read and written in unary.
use Rattle.std.proofs.Common.{◌≡◌, ℕ, zero, suc, ◌+◌, ◌-◌, ◌*◌, ◌/◌, ◌%◌, ◌^◌, ◌<◌, ◌≤◌, Bool, true, false, cond, eqb, ltb, leb, List, [], ◌∷◌, ◌++◌, Some, None, Option, sym, refl, ap, ◌∙◌, subst, append-nil, add-zero, pow-suc, zero-add, div-one, arith, pow_pos, shr-shr, le-ltb, lt-ltb, eq-eqb, ne_eqb}
use mathlib.Core.Path.{subst⁻¹}
use native.Mathlib.Nat.{sub-zero}
use Rattle.std.proofs.lemmas.Bool.{cond-true, cond-false, le-leb, lt-leb}
use Rattle.bits.specs.Bits.{odd, bits}
use Rattle.bits.proofs.Numbers.{length-bits, number-bits, bits-same, bits-split}
use Rattle.forms.specs.Code.{Means, Found, form, short, longer, walk, form_of, field}
use Rattle.forms.specs.Coding.{behind, encoded, word, told, decoded}
use Rattle.forms.proofs.Codes.{field-means, field-few}
use Rattle.forms.proofs.Coders.{means-ends}
use Rattle.forms.proofs.Reading.{read_at}
use Rattle.forms.proofs.Rules.{form_of-is, form_of-over}
use Rattle.unary.specs.Unary.{large, climb, code_of, unary}
use Rattle.unary.specs.Sound.{climb-rules, unary-sound}

-- the coder's answers, in the memory b
pub writes : (m b : Bool) (x : ℕ) (s : List Bool) → m ≡ b → form_of (code_of b) x ≡ Some s → Some (s, leb 7 x) ≡ encoded unary m x
unfolding encoded
writes m b x s e f = sym (ap (λ k. behind (form_of (code_of k) x) (leb 7 x)) e ∙ ap (λ o. behind o (leb 7 x)) f)

pub reads : (m b : Bool) (bs : List Bool) (f : Found) → m ≡ b → walk (code_of b) bs ≡ f → told (leb 7) f ≡ decoded unary m bs
unfolding decoded
reads m b bs f e w = sym (ap (λ k. told (leb 7) (walk (code_of k) bs)) e ∙ ap (told (leb 7)) w)

-- no word: too large, in each memory
pub no_word : (m : Bool) (x : ℕ) → 16 ≤ x → None ≡ encoded unary m x
unfolding encoded
no_word m x l = sym (ap (λ o. behind o (leb 7 x)) (form_of-over (code_of m) (unary-sound m) x l))

-- the memory behind a word
pub is-small : (x n : ℕ) → x < 7 → word x n false ≡ word x n (leb 7 x)
is-small x n l = ap (word x n) (sym (lt-leb 7 x l))

pub is-large : (x n : ℕ) → 7 ≤ x → word x n true ≡ word x n (leb 7 x)
is-large x n l = ap (word x n) (sym (le-leb 7 x l))

-- ## Reading

-- a form that n bits come before
abbrev pub more : ℕ → Found → Found
more n (form o k) = form o (n + k)
more n short = short

more-zero : (f : Found) → f ≡ more 0 f
more-zero (form o k) = ap (form o) (sym (zero-add k))
more-zero short = refl

more-longer : (n : ℕ) (f : Found) → more n (longer f) ≡ more (n + 1) f
unfolding longer
more-longer n (form o k) = let e : n + suc k ≡ (n + 1) + k = omega arith in ap (form o) e
more-longer n short = refl

-- the next bit
module _ (k n a x : ℕ) where
  goes_on-is : x % 2 ≡ 1 → walk (climb (suc k) n) (bits (suc a) x) ≡ longer (walk (climb k (suc n)) (bits a (x / 2)))
  unfolding climb walk bits odd
  goes_on-is h = ap (λ b. walk (climb (suc k) n) (b ∷ bits a (x / 2))) (eq-eqb (x % 2) 1 h)

  stops : x % 2 ≡ 0 → walk (climb (suc k) n) (bits (suc a) x) ≡ form (Some n) 1
  unfolding climb walk longer bits odd
  stops h = ap (λ b. walk (climb (suc k) n) (b ∷ bits a (x / 2))) (ne_eqb (x % 2) 1 (λ e. omega arith))

  lacks : walk (climb (suc k) n) (bits 0 x) ≡ short
  unfolding climb walk bits
  lacks = refl

-- what is found in a bits of v behind n ones
abbrev pub rest : ℕ → ℕ → ℕ → Found
rest a v n = more n (walk (climb (7 - n) n) (bits (a - n) (v / 2 ^ n)))

module _ (a v : ℕ) where
  pub none_yet : walk (climb 7 0) (bits a v) ≡ rest a v 0
  none_yet = ap (walk (climb 7 0)) (simp (sub-zero, div-one)) ∙ more-zero (walk (climb 7 0) (bits (a - 0) (v / 2 ^ 0)))

  pub one_more : (n : ℕ) → n < 7 → n < a → (v / 2 ^ n) % 2 ≡ 1 → rest a v n ≡ rest a v (n + 1)
  one_more n l h o =
      let i : 7 - n ≡ suc (7 - (n + 1)) = omega arith in
      let j : a - n ≡ suc (a - (n + 1)) = omega arith in
      let s : suc n ≡ n + 1 = omega arith in
      let d : v / 2 ^ n / 2 ≡ v / 2 ^ (n + 1) = shr-shr v n 1 in
      let g = goes_on-is (7 - (n + 1)) n (a - (n + 1)) (v / 2 ^ n) o in
      let m = more-longer n (walk (climb (7 - (n + 1)) (suc n)) (bits (a - (n + 1)) (v / 2 ^ n / 2))) in
      cc

  pub small : (n : ℕ) → n < 7 → n < a → (v / 2 ^ n) % 2 ≡ 0 → rest a v n ≡ form (Some n) (n + 1)
  small n l h o =
      let i : 7 - n ≡ suc (7 - (n + 1)) = omega arith in
      let j : a - n ≡ suc (a - (n + 1)) = omega arith in
      let g = stops (7 - (n + 1)) n (a - (n + 1)) (v / 2 ^ n) o in
      let e : walk (climb (7 - n) n) (bits (a - n) (v / 2 ^ n)) ≡ form (Some n) 1 = cc in
      ap (more n) e

  pub ended : (n : ℕ) → n < 7 → a ≤ n → rest a v n ≡ short
  ended n l h =
      let i : 7 - n ≡ suc (7 - (n + 1)) = omega arith in
      let j : a - n ≡ 0 = omega arith in
      let g = lacks (7 - (n + 1)) n 0 (v / 2 ^ n) in
      let e : walk (climb (7 - n) n) (bits (a - n) (v / 2 ^ n)) ≡ short = cc in
      ap (more n) e

-- seven ones, and 4 bits
means-large : (x : ℕ) (o : Option ℕ) → o ≡ cond (ltb (x % 16) 7) None (Some (x % 16)) → Means (field 4 large) (bits 4 x) o
means-large x o e =
    subst (λ (s : List Bool). Means (field 4 large) s o) (append-nil (bits 4 x))
    (field-means 4 large (bits 4 x) [] o (length-bits 4 x) (means-ends _ _ (e ∙ ap (λ (d : ℕ). cond (ltb d 7) None (Some d)) (sym (number-bits 4 x)))))

means-alive : (x d : ℕ) → d ≡ x % 16 → 7 ≤ d → Means (field 4 large) (bits 4 x) (Some d)
means-alive x d e l = means-large x (Some d) (ap Some e ∙ sym (cond-false _ _ _ (le-ltb (x % 16) 7 (omega arith))))

means-dead : (x : ℕ) → x % 16 < 7 → Means (field 4 large) (bits 4 x) None
means-dead x l = means-large x None (sym (cond-true _ _ _ (lt-ltb (x % 16) 7 l)))

module _ (a v : ℕ) where
  pub large-ended : a < 11 → rest a v 7 ≡ short
  unfolding climb
  large-ended l = ap (more 7) (field-few 4 large (bits (a - 7) (v / 128)) (rw length-bits (omega arith)))

  large-read : (o : Option ℕ) → 11 ≤ a → Means (field 4 large) (bits 4 (v / 128)) o → rest a v 7 ≡ form o 11
  unfolding climb
  large-read o l m = ap (more 7) (read_at (field 4 large) 4 (a - 7) (v / 128) o (omega arith) m)

  pub large-alive : (d : ℕ) → 11 ≤ a → d ≡ v / 128 % 16 → 7 ≤ d → rest a v 7 ≡ form (Some d) 11
  large-alive d l e h = large-read (Some d) l (means-alive (v / 128) d e h)

  pub large-dead : 11 ≤ a → v / 128 % 16 < 7 → rest a v 7 ≡ form None 11
  large-dead l h = large-read None l (means-dead (v / 128) h)

-- ## Writing

means-small : (j k n : ℕ) → j < k → Means (climb k n) (bits (suc j) (2 ^ j - 1)) (Some (n + j))
unfolding climb Means bits odd
means-small j zero n l = absurd (omega arith)
means-small zero (suc k) n l = ap Some (add-zero n)
means-small (suc j) (suc k) n l =
    let p = pow-suc 2 j in
    let q = pow_pos j in
    let o : eqb ((2 ^ suc j - 1) % 2) 1 ≡ true = eq-eqb ((2 ^ suc j - 1) % 2) 1 (omega arith) in
    let h : (2 ^ suc j - 1) / 2 ≡ 2 ^ j - 1 = omega arith in
    let s : suc n + j ≡ n + suc j = omega arith in
    subst⁻¹ (λ b. Means (climb (suc k) n) (b ∷ bits (suc j) ((2 ^ suc j - 1) / 2)) (Some (n + suc j))) o
    (subst⁻¹ (λ (y : ℕ). Means (climb k (suc n)) (bits (suc j) y) (Some (n + suc j))) h
    (subst (λ (y : ℕ). Means (climb k (suc n)) (bits (suc j) (2 ^ j - 1)) (Some y)) s (means-small j k (suc n) (omega arith))))

pub small-form : (x : ℕ) → x < 7 → form_of (climb 7 0) x ≡ Some (bits (x + 1) (2 ^ x - 1))
small-form x l =
    let e : suc x ≡ x + 1 = omega arith in
    form_of-is (climb 7 0) climb-rules (bits (x + 1) (2 ^ x - 1)) x
    (subst (λ (n : ℕ). Means (climb 7 0) (bits n (2 ^ x - 1)) (Some x)) e
    (subst (λ (y : ℕ). Means (climb 7 0) (bits (suc x) (2 ^ x - 1)) (Some y)) (zero-add x) (means-small x 7 0 l)))

behind-ones : (y : ℕ) (o : Option ℕ) → y % 128 ≡ 127 → Means (field 4 large) (bits 4 (y / 128)) o → Means (climb 7 0) (bits 11 y) o
unfolding climb Means bits odd
behind-ones y o e m =
    subst⁻¹ (λ (s : List Bool). Means (climb 7 0) s o) (bits-split 7 4 y ∙ ap (λ (s : List Bool). s ++ bits 4 (y / 128)) (bits-same 7 y 127 e)) m

pub large-form : (x : ℕ) → 7 ≤ x → x < 16 → form_of (climb 7 0) x ≡ Some (bits 11 (x * 128 + 127))
large-form x l h =
    form_of-is (climb 7 0) climb-rules (bits 11 (x * 128 + 127)) x
    (behind-ones (x * 128 + 127) (Some x) (omega arith) (means-alive ((x * 128 + 127) / 128) x (omega arith) l))
