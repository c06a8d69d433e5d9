-- Whether a head fits, and what is then answered.
use Rattle.std.proofs.Common.{◌≡◌, ℕ, ◌+◌, ◌*◌, ◌/◌, ◌<◌, ◌≤◌, Bool, true, false, cond, not, ◌&&◌, ◌||◌, eqb, leb, List, [], ◌∷◌, length, Option, refl, ap, ◌∙◌, arith}
use Rattle.std.proofs.lemmas.Bool.Decides.{nat_tests}
use Rattle.std.specs.List.{list_any}
use Rattle.layout.specs.Slim.{most_bytes}
use Rattle.calls.specs.Parts.{Marks, name_bits, extra_bits}
use Rattle.calls.specs.Calls.{zero_free, name_fits, extra_fits}
use Rattle.calls.proofs.Chains.{head_length}
use Rattle.heads.specs.Heads.{head_fits}

-- no byte is zero exactly if none is the zero that is looked for
pub zero_free-any : (bs : List ℕ) → not (list_any (λ b. eqb b 0) bs) ≡ zero_free bs
unfolding zero_free
zero_free-any [] = refl
zero_free-any (b ∷ bs) = ap not refl ∙ by_test (eqb b 0) (zero_free-any bs)
  where
    by_test : (t : Bool) → not (list_any (λ b. eqb b 0) bs) ≡ zero_free bs → not (t || list_any (λ b. eqb b 0) bs) ≡ (not t && zero_free bs)
    by_test true e = refl
    by_test false e = e

-- it does not fit
pub too_long : (name extra : Option (List ℕ)) (h : List Bool) (len size : ℕ) → 8 * size ≡ length h → len < size → head_fits name extra h len ≡ false
too_long name extra h len size e l = by_tests (leb len most_bytes) (name_fits name && extra_fits extra)
  where
    long : leb (length h) (8 * len) ≡ false
    long = grind (arith, nat_tests)

    by_tests : (a b : Bool) → a && (b && leb (length h) (8 * len)) ≡ false
    by_tests false b = refl
    by_tests true false = refl
    by_tests true true = long

-- it fits
pub fitting : (name extra : Option (List ℕ)) (h : List Bool) (len size : ℕ) → 8 * size ≡ length h → len ≤ most_bytes → name_fits name ≡ true → extra_fits extra ≡ true → size ≤ len → head_fits name extra h len ≡ true
fitting name extra h len size e m n x l =
    let a : leb len most_bytes ≡ true = grind (arith, nat_tests) in
    let b : leb (length h) (8 * len) ≡ true = grind (arith, nat_tests) in
    ap (λ t. t && ((name_fits name && extra_fits extra) && leb (length h) (8 * len))) a
    ∙ ap (λ t. (t && extra_fits extra) && leb (length h) (8 * len)) n
    ∙ ap (λ t. t && leb (length h) (8 * len)) x ∙ b

-- the bits of the parts within those of the whole
pub name-room : (m : Marks) (name extra : Option (List ℕ)) (p n : ℕ) → p ≡ 56 + cond m.sized 32 0 → head_length m name extra ≤ n → p + length (name_bits name) ≤ n
unfolding head_length
name-room m name extra p n e h = omega arith

pub extra-room : (m : Marks) (name extra : Option (List ℕ)) (p q n : ℕ) → p ≡ 56 + cond m.sized 32 0 → q ≡ p + length (name_bits name) → head_length m name extra ≤ n → q + length (extra_bits extra) ≤ n
unfolding head_length
extra-room m name extra p q n e f h = omega arith

pub first-room : (m : Marks) (name extra : Option (List ℕ)) (n : ℕ) → head_length m name extra ≤ n → 56 + cond m.sized 32 0 ≤ n
unfolding head_length
first-room m name extra n h = omega arith

pub whole_length : (m : Marks) (name extra : Option (List ℕ)) (p q r : ℕ) → p ≡ 56 + cond m.sized 32 0 → q ≡ p + length (name_bits name) → 8 * r ≡ q + length (extra_bits extra) → r ≡ head_length m name extra / 8
unfolding head_length
whole_length m name extra p q r e f g = omega arith
