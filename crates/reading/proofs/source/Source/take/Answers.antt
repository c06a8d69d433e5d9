use Rattle.std.proofs.Common.{ℕ, sym, ap, ◌∙◌, arith}
use Rattle.bits.specs.Bits.{bits_of}
use Rattle.format.specs.Format.{got}
use Rattle.reading.proofs.Looks.{fault-is, no_bits, not_left, too_wide, plus-is, took, nothing-there, value_there}
use Rattle.reading.proofs.Steps.{passed}
use Rattle.reading.proofs.source.Source.take.Goals as goal
use Rattle.reading.proofs.source.Source.take.Goals.{then-count-eq0-via-then-count-eq0, then-count-eq0-via-else-count-eq0+then-not-remains}

pub returns-then-count-eq0 : goal.returns-then-count-eq0
returns-then-count-eq0 c l =
    fault-is c.at.ensures
    (elim c.then-count-eq0.branch [
      | then-count-eq0-via-then-count-eq0 w ↦ no_bits (bits_of c.args.self.bytes.now) c.args.at.bits c.args.count l w.if-count-eq0.true
      | then-count-eq0-via-else-count-eq0+then-not-remains w ↦ not_left (bits_of c.args.self.bytes.now) c.args.at.bits c.args.count l w.remains.result w.remains.ensures w.if-not-remains.true
    ])

pub returns-in_err-value : goal.returns-in_err-value
returns-in_err-value c l =
    let (none, same) = nothing-there c.take_field.result c.at-2.result c.in_err-value.field-0.0 (sym c.in_err-value.was ∙ c.ok_or.ensures.value) in
    passed (λ v. v) _ _ _ c.from_residual.ensures.1
    (fault-is (same ∙ c.at-2.ensures)
    (too_wide c.args.self.bytes.now c.args.at.bits c.args.count l (sym none ∙ c.take_field.ensures) (sym c.if-not-remains.ensures)))

pub returns : goal.returns
returns c l =
    let left = sym c.if-not-remains.ensures in
    let some = value_there c.take_field.result c.at-2.result c.in_ok-value.value (sym c.in_ok-value.was ∙ c.ok_or.ensures.value) in
    let behind = plus-is c.args.self.bytes.now c.args.at.bits c.args.count c.plus.result.bits c.args.self.small left c.plus.ensures in
    ap (λ (q : ℕ). got c.in_ok-value.value q c.args.at.bits) behind
    ∙ took c.args.self.bytes.now c.args.at.bits c.args.count l c.in_ok-value.value (sym some ∙ c.take_field.ensures) left (omega (arith, c.if-count-eq0.false))
