use Rattle.std.proofs.Common.{◌≡◌, ℕ, suc, ◌+◌, ◌-◌, ◌%◌, ◌^◌, ◌≤◌, min, true, false, cond, leb, List, length, sym, ap, ◌∙◌, arith}
use native.Mathlib.Nat.{sub-zero}
use lib.Bits.{bit_and, and_mask}
use Rattle.std.proofs.lemmas.Nat.{one_shl}
use Rattle.std.proofs.lemmas.Bool.{le-leb, lt-leb, cond-true, cond-false}
use Rattle.bits.specs.Bits.{field_at}
use Rattle.bits.proofs.Places.{field-front}
use Rattle.fields.specs.Fields.{remaining}
use Rattle.field_bench.specs.Packing.{checksum, summed}
use Rattle.field_bench.proofs.fields_checksum.Goals as goal
use Rattle.field_bench.proofs.fields_checksum.Goals.{then-width-eq64, else-width-eq64}

-- one field is read, and then the others
one_more : (f : List ℕ) (w n m at s : ℕ) → n ≡ suc m → checksum f w n at s ≡ cond (leb w (remaining at (length f))) (checksum f w m (min (at + w) (2 ^ 64 - 1)) (summed s (field_at f at w))) 0
unfolding checksum
one_more f w n m at s e = rw e

none_left : (f : List ℕ) (w n at s : ℕ) → n ≡ 0 → checksum f w n at s ≡ s
unfolding checksum
none_left f w n at s e = rw e

-- where the whole width is allowed
allowed : (w x y : ℕ) → w ≤ 64 → y ≡ x → y ≡ cond (leb w 64) x 0
allowed w x y h e = e ∙ sym (cond-true (leb w 64) x 0 (le-leb w 64 h))

whole : (w : ℕ) → w ≡ 64 → 18446744073709551615 ≡ 2 ^ w - 1
whole w e = ap (λ z. 2 ^ z - 1) (sym e)

-- the field that begins a window
front : (f : List ℕ) (at w m x : ℕ) → w ≤ 64 → x ≡ field_at f at 64 → m ≡ 2 ^ w - 1 → bit_and x m ≡ field_at f at w
front f at w m x h e k = ap (bit_and x) k ∙ and_mask x w ∙ ap (λ z. z % 2 ^ w) e ∙ field-front f at 64 w h

pub loop-init : goal.loop-init
loop-init c =
    let f : List ℕ = c.args.file.now in
    let w : ℕ = c.args.width in
    ap (λ z. checksum f w (c.args.count - 0) z 0) c.new-at.ensures ∙ ap (λ z. checksum f w z 0 0) (sub-zero c.args.count)

pub returns-then-window-width : goal.returns-then-window-width
returns-then-window-width c =
    let f : List ℕ = c.args.file.now in
    let w : ℕ = c.args.width in
    let n : ℕ = c.args.count - c.loop.counter in
    let at : ℕ = c.loop.at.bits in
    let s = one_more f w n (c.args.count - (c.loop.counter + 1)) at c.loop.sum (omega arith) in
    let b : leb w (remaining at (length f)) ≡ false = lt-leb w (remaining at (length f)) (omega (arith, c.window_at-window.ensures.len)) in
    allowed w (checksum f w c.args.count 0 0) 0 (omega arith) (sym (s ∙ cond-false (leb w (remaining at (length f))) _ _ b) ∙ c.loop.invariant)

pub loop-preserved : goal.loop-preserved
loop-preserved c =
    let f : List ℕ = c.args.file.now in
    let w : ℕ = c.args.width in
    let n : ℕ = c.args.count - c.loop.counter in
    let m : ℕ = c.args.count - (c.loop.counter + 1) in
    let at : ℕ = c.loop.at.bits in
    let s = one_more f w n m at c.loop.sum (omega arith) in
    let b : leb w (remaining at (length f)) ≡ true = le-leb w (remaining at (length f)) (omega (arith, c.window_at-window.ensures.len)) in
    let k : c.if-width-eq64.mask ≡ 2 ^ w - 1 = elim c.if-width-eq64.branch [ then-width-eq64 x ↦ x.mask-is ∙ whole w x.if-width-eq64.true | else-width-eq64 x ↦ x.mask-is ∙ ap (λ z. z - 1) (one_shl w 64 (omega arith)) ] in
    let v = front f at w c.if-width-eq64.mask c.window_at-window.result.bits (omega arith) c.window_at-window.ensures.bits k in
    let p = c.plus-at.ensures in
    let r = c.rotate_left.ensures in
    let q = cond-true (leb w (remaining at (length f))) (checksum f w m (min (at + w) (2 ^ 64 - 1)) (summed c.loop.sum (field_at f at w))) 0 b in
    let i : checksum f w n at c.loop.sum ≡ checksum f w c.args.count 0 0 = c.loop.invariant in
    cc

pub returns : goal.returns
returns c =
    let e = none_left c.args.file.now c.args.width (c.args.count - c.loop.counter) c.loop.at.bits c.loop.sum (omega arith) in
    allowed c.args.width (checksum c.args.file.now c.args.width c.args.count 0 0) c.loop.sum (omega arith) (sym e ∙ c.loop.invariant)
