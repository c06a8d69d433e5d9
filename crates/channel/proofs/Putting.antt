-- Two fields one behind the other.
use Rattle.std.proofs.Common.{◌≡◌, ℕ, ◌+◌, ◌-◌, ◌*◌, ◌^◌, ◌≤◌, min, Bool, true, cond, List, ◌++◌, length, ap, ◌∙◌, arith}
use Rattle.std.proofs.lemmas.Bool.Decides.{nat_tests}
use Rattle.bits.specs.Bits.{bits, put_bits}
use Rattle.bits.proofs.Numbers.{length-bits}
use Rattle.bits.proofs.Laws.{length-put_bits, put_bits-twice}
use Rattle.fields.specs.Fields.{is_field}

is_field-fits : (at n size : ℕ) → n ≤ 64 → at + n ≤ 8 * size → is_field at n size ≡ true
is_field-fits at n size h l = grind (arith, nat_tests)

pub two_fields : (f g h : List ℕ) (at p v k x n : ℕ) (D : List Bool) (r : Bool) → k ≤ 64 → length f ≤ 16777216 → at + (k + length D) ≤ 8 * length f → n ≡ length D → n ≤ 64 → bits (length D) x ≡ D →
    p ≡ min (at + k) (2 ^ 64 - 1) → g ≡ cond (is_field at k (length f)) (put_bits f at (bits k v)) f → r ≡ is_field p n (length g) → h ≡ cond (is_field p n (length g)) (put_bits g p (bits n x)) g →
    (r ≡ true) × (h ≡ put_bits f at (bits k v ++ D))
two_fields f g h at p v k x n D r lk lf fit en ln ed ep eg er eh =
    let lv = length-bits k v in
    let g1 : g ≡ put_bits f at (bits k v) = eg ∙ ap (λ t. cond t (put_bits f at (bits k v)) f) (is_field-fits at k (length f) lk (omega arith)) in
    let lg : length g ≡ length f = ap length g1 ∙ length-put_bits f at (bits k v) (omega arith) in
    let p1 : p ≡ at + length (bits k v) = omega arith in
    let i : is_field p n (length g) ≡ true = is_field-fits p n (length g) ln (omega arith) in
    let b : bits n x ≡ D = ap (λ z. bits z x) en ∙ ed in
    let t = put_bits-twice f at (bits k v) D (omega arith) in (
      er ∙ i,
      eh ∙ ap (λ t. cond t (put_bits g p (bits n x)) g) i ∙ ap (λ z. put_bits z p (bits n x)) g1 ∙ ap (λ z. put_bits (put_bits f at (bits k v)) z (bits n x)) p1 ∙ ap (put_bits (put_bits f at (bits k v)) (at + length (bits k v))) b ∙ t,
    )
