-- The unary code keeps the rules.
use Rattle.std.specs.Prelude.{◌≡◌, ℕ, zero, suc, ◌+◌, ◌^◌, ◌<◌, ◌≤◌, Bool, true, false, cond, List, [], ◌∷◌, ◌++◌, Some, None, nat_lt, refl}
use Rattle.std.proofs.Common.{sym, ap, subst, ◌∙◌, append-nil, arith, ltb-false}
use Rattle.std.proofs.Math.Path.{subst⁻¹}
use Rattle.bits.specs.Bits.{bits, number}
use Rattle.bits.proofs.Numbers.{number_lt, bits-number-at}
use Rattle.forms.specs.Code.{Means, field, Within}
use Rattle.forms.specs.Coding.{Sound}
use Rattle.forms.specs.Rules.{Rules}
use Rattle.forms.proofs.Codes.{means-field, within-field, within_more, some_same, none-some}
use Rattle.forms.proofs.Rules.{rules-of}
use Rattle.forms.proofs.Coders.{ends-means, null-rules}
use Rattle.unary.specs.Unary.{large, climb, unary}

-- a large word and its form
alive : (d x : ℕ) (b : Bool) → nat_lt d 7 ≡ b → cond b None (Some d) ≡ Some x → (d ≡ x) × (7 ≤ d)
alive d x true h e = absurd (none-some e)
alive d x false h e = (some_same e, ltb-false d 7 h)

large_is : (s : List Bool) (x : ℕ) → Means (field 4 large) s (Some x) → (7 ≤ x) × (x < 16) × (s ≡ bits 4 x)
large_is s x m =
    let h = means-field 4 large s (Some x) m in
    let (n, y) = ends-means _ h.tail _ h.then in
    let (d, l) = alive (number h.head) x _ refl (sym y) in
    let u : number h.head < 16 = subst (λ (k : ℕ). number h.head < 2 ^ k) h.wide (number_lt h.head) in
    (omega arith, omega arith, h.split ∙ ap (λ (z : List Bool). h.head ++ z) n ∙ append-nil h.head ∙ sym (bits-number-at 4 h.head h.wide) ∙ ap (bits 4) d)

climb-within : (k n : ℕ) → Within (k + 4) (climb k n)
unfolding climb Within
climb-within zero n = within-field 4 0 large (λ d. tt)
climb-within (suc k) n = subst⁻¹ (λ (j : ℕ). Within j (climb (suc k) n)) {x = suc k + 4} {y = suc (k + 4)} (omega arith) (tt, climb-within k (suc n))

-- the words from n on, each with one form
climb-words : (k n : ℕ) → n + k ≡ 7 → (s : List Bool) (x : ℕ) → Means (climb k n) s (Some x) → (n ≤ x) × (x < 16)
unfolding climb Means
climb-words zero n e s x m = let (a, b, c) = large_is s x m in (omega arith, b)
climb-words (suc k) n e [] x m = absurd m
climb-words (suc k) n e (false ∷ s) x m = let i : x ≡ n = some_same (ends-means _ s _ m).1 in (omega arith, omega arith)
climb-words (suc k) n e (true ∷ s) x m = let (a, b) = climb-words k (suc n) (omega arith) s x m in (omega arith, b)

climb-alone : (k n : ℕ) → n + k ≡ 7 → (s u : List Bool) (x : ℕ) → Means (climb k n) s (Some x) → Means (climb k n) u (Some x) → s ≡ u
unfolding climb Means
climb-alone zero n e s u x a b = (large_is s x a).2 ∙ sym (large_is u x b).2
climb-alone (suc k) n e [] u x a b = absurd a
climb-alone (suc k) n e (c ∷ s) [] x a b = absurd b
climb-alone (suc k) n e (false ∷ s) (false ∷ u) x a b = ap (λ (z : List Bool). false ∷ z) ((ends-means _ s _ a).0 ∙ sym (ends-means _ u _ b).0)
climb-alone (suc k) n e (true ∷ s) (true ∷ u) x a b = ap (λ (z : List Bool). true ∷ z) (climb-alone k (suc n) (omega arith) s u x a b)
climb-alone (suc k) n e (false ∷ s) (true ∷ u) x a b =
    let i : x ≡ n = some_same (ends-means _ s _ a).1 in
    let (l, h) = climb-words k (suc n) (omega arith) u x b in
    absurd (omega arith)
climb-alone (suc k) n e (true ∷ s) (false ∷ u) x a b =
    let i : x ≡ n = some_same (ends-means _ u _ b).1 in
    let (l, h) = climb-words k (suc n) (omega arith) s x a in
    absurd (omega arith)

pub climb-rules : Rules 4 (Means (climb 7 0))
climb-rules = rules-of 4 (climb 7 0) (within_more 11 64 (climb 7 0) (omega arith) (climb-within 7 0))
    (λ s x m. (climb-words 7 0 refl s x m).1)
    (climb-alone 7 0 refl)

pub unary-sound : Sound 4 unary
unary-sound false = climb-rules
unary-sound true = null-rules 4 (omega arith)
