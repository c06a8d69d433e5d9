-- What stands before the rows.
use Rattle.std.proofs.Common.{◌≡◌, ℕ, ◌+◌, ◌-◌, ◌*◌, ◌^◌, ◌≤◌, min, Bool, true, false, cond, List, [], ◌++◌, length, sym, refl, ap, ◌∙◌, append_assoc, append-nil, arith, length-append}
use Rattle.std.proofs.lemmas.Bool.Decides.{nat_tests}
use Rattle.bits.specs.Bits.{bits, put_bits}
use Rattle.bits.proofs.Numbers.{length-bits, bits-split}
use Rattle.fields.specs.Fields.{is_field}
use Rattle.channel.proofs.Putting.{two_fields}
use Rattle.state.specs.declared.Flags.{Flags}
use Rattle.openings.specs.Steps.{front}

zeros : (t : Bool) → bits 32 0 ++ cond t (bits 32 0) [] ≡ bits (cond t 64 32) 0
zeros true = sym (bits-split 32 32 0)
zeros false = append-nil (bits 32 0)

-- the raw size and the pointer are one field of zeros
front-is : (g : Flags) (z n : ℕ) → z ≡ cond g.pointed 64 32 → front g n ≡ bits z 0 ++ cond g.single [] (bits 24 n)
unfolding front
front-is g z n e =
    sym (append_assoc (bits 32 0) (cond g.pointed (bits 32 0) []) (cond g.single [] (bits 24 n)))
    ∙ ap (λ y. y ++ cond g.single [] (bits 24 n)) (zeros g.pointed ∙ ap (λ k. bits k 0) (sym e))

pub front-single : (g : Flags) (z n : ℕ) → z ≡ cond g.pointed 64 32 → g.single ≡ true → front g n ≡ bits z 0
front-single g z n e s = front-is g z n e ∙ ap (λ t. bits z 0 ++ cond t [] (bits 24 n)) s ∙ append-nil (bits z 0)

pub front-counted : (g : Flags) (z n : ℕ) → z ≡ cond g.pointed 64 32 → g.single ≡ false → front g n ≡ bits z 0 ++ bits 24 n
front-counted g z n e s = front-is g z n e ∙ ap (λ t. bits z 0 ++ cond t [] (bits 24 n)) s

pub length-single : (g : Flags) (z n : ℕ) → z ≡ cond g.pointed 64 32 → g.single ≡ true → length (front g n) ≡ z
length-single g z n e s = ap length (front-single g z n e s) ∙ length-bits z 0

pub length-counted : (g : Flags) (z n : ℕ) → z ≡ cond g.pointed 64 32 → g.single ≡ false → length (front g n) ≡ z + 24
length-counted g z n e s = ap length (front-counted g z n e s) ∙ simp (length-append, length-bits)

pub zeros-few : (t : Bool) (z : ℕ) → z ≡ cond t 64 32 → z ≤ 64
zeros-few true z e = omega arith
zeros-few false z e = omega arith

-- whatever the count, the front is as long
pub length-any : (g : Flags) (n m : ℕ) → length (front g n) ≡ length (front g m)
length-any g n m = by_flag g.single refl
  where
    by_flag : (t : Bool) → g.single ≡ t → length (front g n) ≡ length (front g m)
    by_flag true e = length-single g _ n refl e ∙ sym (length-single g _ m refl e)
    by_flag false e = length-counted g _ n refl e ∙ sym (length-counted g _ m refl e)

is_field-fits : (at n size : ℕ) → n ≤ 64 → at + n ≤ 8 * size → is_field at n size ≡ true
is_field-fits at n size h l = grind (arith, nat_tests)

pub put-single : (f h : List ℕ) (g : Flags) (at p z n : ℕ) → z ≡ cond g.pointed 64 32 → g.single ≡ true → length f ≤ 16777216 → at + length (front g n) ≤ 8 * length f →
    p ≡ min (at + z) (2 ^ 64 - 1) → h ≡ cond (is_field at z (length f)) (put_bits f at (bits z 0)) f → (p ≡ at + length (front g n)) × (h ≡ put_bits f at (front g n))
put-single f h g at p z n e s few room ep eh =
    let l = length-single g z n e s in
    let k = zeros-few g.pointed z e in
    (omega arith, eh ∙ ap (λ t. cond t (put_bits f at (bits z 0)) f) (is_field-fits at z (length f) k (omega arith)) ∙ ap (put_bits f at) (sym (front-single g z n e s)))

pub put-counted : (f b h : List ℕ) (g : Flags) (at p q z n : ℕ) (r : Bool) → z ≡ cond g.pointed 64 32 → g.single ≡ false → length f ≤ 16777216 → at + length (front g n) ≤ 8 * length f →
    p ≡ min (at + z) (2 ^ 64 - 1) → q ≡ min (p + 24) (2 ^ 64 - 1) → b ≡ cond (is_field at z (length f)) (put_bits f at (bits z 0)) f →
    r ≡ is_field p 24 (length b) → h ≡ cond (is_field p 24 (length b)) (put_bits b p (bits 24 n)) b → (q ≡ at + length (front g n)) × (h ≡ put_bits f at (front g n))
put-counted f b h g at p q z n r e s few room ep eq eb er eh =
    let l = length-counted g z n e s in
    let k = zeros-few g.pointed z e in
    let d = length-bits 24 n in
    let w = two_fields f b h at p 0 z n 24 (bits 24 n) r k few (omega arith) (sym d) (omega arith) (ap (λ m. bits m n) d) ep eb er eh in
    (omega arith, w.1 ∙ ap (put_bits f at) (sym (front-counted g z n e s)))
