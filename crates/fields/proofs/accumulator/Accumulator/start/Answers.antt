use Rattle.std.proofs.Common.{◌≡◌, ℕ, ◌+◌, ◌*◌, ◌/◌, ◌%◌, ◌≤◌, List, length, sym, ap, ◌∙◌, arith}
use Rattle.std.proofs.lemmas.Bool.{leb-true}
use Rattle.bits.specs.Bits.{bits, put_bits, Bytes}
use Rattle.bits.proofs.Laws.{put_bits-none, put_low}
use Rattle.fields.proofs.accumulator.Accumulator.start.Goals as goal
use Rattle.fields.proofs.accumulator.Accumulator.start.Goals.{then-have-eq0, else-have-eq0}

no_bits : (f : List ℕ) (at n w : ℕ) → n ≡ 0 → Bytes f → put_bits f at (bits n w) ≡ f
unfolding bits
no_bits f at n w e b = ap (λ (k : ℕ). put_bits f at (bits k w)) e ∙ put_bits-none f at b

pub returns : goal.returns
returns c =
    let f : List ℕ = c.args.buffer.now in
    let at : ℕ = c.bits-at.result in
    let fit : at + 0 ≤ 8 * length f = leb-true (at + 0) (8 * length f) (sym c.lies_within.ensures ∙ c.if-not-lies_within.false) in
    let e = c.bits-at.ensures in
    let s : put_bits f (8 * (at / 8)) (bits (at % 8) c.if-have-eq0.word) ≡ f = elim c.if-have-eq0.branch [
      | then-have-eq0 x ↦ no_bits f (8 * (at / 8)) (at % 8) c.if-have-eq0.word x.if-have-eq0.true c.are_bytes.ensures
      | else-have-eq0 x ↦ put_low f (at / 8) (at % 8) c.if-have-eq0.word (omega arith) (omega arith) c.are_bytes.ensures (x.word-is ∙ x.low-word.ensures)
    ] in
    (s, omega arith)
