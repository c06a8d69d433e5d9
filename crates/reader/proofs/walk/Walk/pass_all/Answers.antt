use Rattle.std.proofs.Common.{ap, ◌∙◌, arith}
use Rattle.reader.specs.Walks.{Standing, standing}
use Rattle.reader.specs.declared.totals.Totals.{Totals}
use Rattle.reader.proofs.Walks.{stopped, all-start, all-not, all-bounds, all-ended, all-more}
use Rattle.reader.proofs.walk.Walk.pass_all.Goals as goal

pub loop-section-init : goal.loop-section-init
loop-section-init c = all-start (standing c.args.self.now) c.requires.0 c.requires.1

pub returns-in_err-section-clause-totals : goal.returns-in_err-section-clause-totals
returns-in_err-section-clause-totals c =
    let s : Standing = standing c.loop-section.self in
    stopped (λ (t : Totals). t) (standing c.pass.new.self) _ _ _ c.from_residual.ensures.1
    (all-not s (standing c.args.self.now) c.loop-section.words c.loop-section.invariant _ _ c.loop-section.self.counted (c.in_err-section.ensures.section s.tried))

pub overflow_add-words : goal.overflow_add-words
overflow_add-words c =
    let s : Standing = standing c.loop-section.self in
    let (a, b) = all-bounds s (standing c.args.self.now) c.loop-section.words c.loop-section.invariant (standing c.pass.new.self) c.in_ok-section.section (c.in_ok-section.ensures.section s.tried) in
    omega (arith, a, b, c.loop-section.invariant.few)

pub returns-in-Ended : goal.returns-in-Ended
returns-in-Ended c =
    let s : Standing = standing c.loop-section.self in
    record {
      totals = all-ended s (standing c.args.self.now) c.loop-section.words c.loop-section.invariant (standing c.pass.new.self) c.in_ok-section.section (c.in_ok-section.ensures.section s.tried) c.in_ok-section.ensures.moves c.in-Ended.leftovers c.in-Ended.is;
      size = ap (λ (z : Standing). z.size) c.in_ok-section.ensures.moves ∙ c.loop-section.invariant.size;
    }

pub loop-section-preserved : goal.loop-section-preserved
loop-section-preserved c =
    let s : Standing = standing c.loop-section.self in
    all-more s (standing c.args.self.now) c.loop-section.words c.loop-section.invariant (standing c.pass.new.self) c.in_ok-section.section (c.in_ok-section.ensures.section s.tried) c.in_ok-section.ensures.moves c.in_default.is
