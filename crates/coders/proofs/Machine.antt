-- What shifts and masks say.
use Rattle.std.proofs.Common.{◌≡◌, ℕ, ◌+◌, ◌-◌, ◌*◌, ◌%◌, ◌^◌, ◌<◌, ◌≤◌, Bool, true, false, ltb, sym, ap, ◌∙◌, arith}
use lib.Bits.{bit_and, bit_or}
use lib.Pow.{ones_lt}
use Rattle.std.proofs.lemmas.Bool.{ltb-true, ltb-false}
use Rattle.forms.specs.Coders.{minus, plus}
use Rattle.std.proofs.lemmas.Nat.{one_shl, shl_whole, and_mask, or_shifted}

pub ones : (n : ℕ) → n ≤ 32 → (1 * 2 ^ n) % 2 ^ 64 ≡ 2 ^ n
ones n h = one_shl n 64 (omega arith)

pub mask : (n x : ℕ) → n ≤ 32 → bit_and x ((1 * 2 ^ n) % 2 ^ 64 - 1) ≡ x % 2 ^ n
mask n x h = let p = ones n h in simp (p, and_mask)

-- ones, and a word above them
pub joined : (w R x : ℕ) → R + w ≤ 64 → R ≤ 32 → x < 2 ^ w → bit_or ((x * 2 ^ R) % 2 ^ 64) ((1 * 2 ^ R) % 2 ^ 64 - 1) ≡ x * 2 ^ R + (2 ^ R - 1)
joined w R x h k l =
    let p = ones R k in
    let q : (x * 2 ^ R) % 2 ^ 64 ≡ x * 2 ^ R = shl_whole x w R 64 l (omega arith) in
    rw (p, q) (or_shifted x R (2 ^ R - 1) (ones_lt R))

-- a test against the width, which the code has as v
pub in_width : (v W x : ℕ) (r : Bool) → v ≡ W → r ≡ ltb x (2 ^ v) → r ≡ true → x < 2 ^ W
in_width v W x r e a b = rw (← e) (ltb-true x (2 ^ v) (sym a ∙ b))

pub past-width : (v W x : ℕ) (r : Bool) → v ≡ W → r ≡ ltb x (2 ^ v) → r ≡ false → 2 ^ W ≤ x
past-width v W x r e a b = rw (← e) (ltb-false x (2 ^ v) (sym a ∙ b))

-- sums and differences at the width, which the code has as v
pub plus-at : (v W p x y r : ℕ) → v ≡ W → x ≡ y → r ≡ plus v p x → r ≡ plus W p y
plus-at v W p x y r e i h = h ∙ ap (λ z. plus z p x) e ∙ ap (plus W p) i

pub minus-at : (v W p x y r : ℕ) → v ≡ W → x ≡ y → r ≡ minus v p x → r ≡ minus W p y
minus-at v W p x y r e i h = h ∙ ap (λ z. minus z p x) e ∙ ap (minus W p) i
