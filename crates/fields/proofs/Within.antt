-- Raw words that lie within a slice.
use Rattle.std.proofs.Common.{◌≡◌, ℕ, ◌+◌, ◌*◌, ◌≤◌, Bool, true, cond, List, length, Some, None, sym, ap, ◌∙◌, arith}
use Rattle.std.proofs.lemmas.Bool.Decides.{nat_tests}
use Rattle.bits.specs.Bits.{field_at}
use Rattle.fields.specs.Fields.{is_raw}

pub raw-room : (p k size : ℕ) (r : Bool) → r ≡ is_raw p k size → r ≡ true → (1 ≤ k) × (k ≤ 4) × (p + k ≤ size)
raw-room p k size r a b = (grind (arith, nat_tests), grind (arith, nat_tests), grind (arith, nat_tests))

pub raw-there : (f : List ℕ) (p q k n : ℕ) (r : Bool) → r ≡ is_raw p k (length f) → r ≡ true → p ≡ q → k ≡ n → (v : ℕ) → v ≡ field_at f (8 * p) (8 * n) →
    Some v ≡ cond (is_raw q k (length f)) (Some (field_at f (8 * q) (8 * k))) None
raw-there f p q k n r a b i j v e =
    let t : is_raw q k (length f) ≡ true = ap (λ z. is_raw z k (length f)) (sym i) ∙ sym a ∙ b in
    let w : v ≡ field_at f (8 * q) (8 * k) = e ∙ ap (λ z. field_at f (8 * z) (8 * n)) i ∙ ap (λ z. field_at f (8 * q) (8 * z)) (sym j) in
    ap Some w ∙ sym (ap (λ z. cond z (Some (field_at f (8 * q) (8 * k))) None) t)
