use Rattle.std.proofs.Common.{◌≡◌, ℕ, ◌+◌, ◌-◌, ◌*◌, ◌≤◌, List, sym, ap, ◌∙◌, arith}
use Rattle.bits.specs.Bits.{field_at}
use Rattle.bits.proofs.Fields.{field_past}
use Rattle.bits.proofs.Places.{take-byte, take_more, take_none}
use Rattle.fields.proofs.word.+take_by_bytes.Goals as goal
use Rattle.fields.proofs.word.+take_by_bytes.Goals.{then-count-eq0-via-then-count-eq0, then-count-eq0-via-else-count-eq0+then-p-file}

pub returns-then-count-eq0 : goal.returns-then-count-eq0
returns-then-count-eq0 t c =
    let f : List ℕ = c.args.file.now in
    let a : ℕ = 8 * c.args.p + c.args.shift in
    elim c.then-count-eq0.branch [
      | then-count-eq0-via-then-count-eq0 w ↦ take_none f a c.args.count w.if-count-eq0.true
      | then-count-eq0-via-else-count-eq0+then-p-file w ↦ sym (field_past f a c.args.count (omega arith))
    ]

pub returns-then-part-count : goal.returns-then-part-count
returns-then-part-count t c =
    let f : List ℕ = c.args.file.now in
    let p : ℕ = c.args.p in
    let s : ℕ = c.args.shift in
    let n : ℕ = c.args.count in
    let k : ℕ = c.min-part.result in
    let m : s + k ≡ 8 = omega (arith, c.min-part.ensures) in
    let b = take-byte f p s k (omega arith) (omega arith) (c.type_inv.file p).fits in
    let i : 8 * (p + 1) + 0 ≡ 8 * p + s + k = omega arith in
    take_more f (8 * p + s) k (n - k) n c.low-bits.result c.take_by_bytes.result (omega arith) (omega arith)
    (c.low-bits.ensures ∙ b) (c.take_by_bytes.ensures ∙ ap (λ z. field_at f z (n - k)) i)

pub returns-else-part-count : goal.returns-else-part-count
returns-else-part-count t c =
    let f : List ℕ = c.args.file.now in
    let p : ℕ = c.args.p in
    let s : ℕ = c.args.shift in
    let n : ℕ = c.args.count in
    let k : ℕ = c.min-part.result in
    let m : s + k ≤ 8 = omega (arith, c.min-part.ensures) in
    let q : k ≡ n = omega (arith, c.min-part.ensures) in
    let b = take-byte f p s k (omega arith) m (c.type_inv.file p).fits in
    c.low-bits.ensures ∙ b ∙ ap (λ z. field_at f (8 * p + s) z) q
