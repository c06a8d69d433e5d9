use Rattle.std.proofs.Common.{◌<◌, ℕ, ◌+◌, ap, ◌∙◌, arith}
use Rattle.reader.specs.Walks.{Standing, standing}
use Rattle.reader.proofs.Finding.{sought-start, sought-passes, sought-on, sought_found}
use Rattle.reader.proofs.walk.Walk.find.Goals as goal

pub loop-init : goal.loop-init
loop-init c = (sought-start (standing c.args.self.now) c.args.section c.requires.first.0 c.requires.first.1 c.requires.there, c.requires.first.0)

pub returns-in_err-pass : goal.returns-in_err-pass
returns-in_err-pass c =
    let (w, many) = c.loop.invariant in
    absurd (sought-passes (standing c.loop.self) (standing c.args.self.now) c.args.section w (omega (arith, many, c.loop-test.true)) _ _ (c.in_err-pass.ensures.section 0))

pub loop-preserved : goal.loop-preserved
loop-preserved c =
    let (w, many) = c.loop.invariant in
    let less : c.loop.self.sections < c.args.section = omega (arith, many, c.loop-test.true) in (
      sought-on (standing c.loop.self) (standing c.args.self.now) c.args.section w less (standing c.pass.new.self) c.in_ok-pass.field-0 (c.in_ok-pass.ensures.section 0) c.in_ok-pass.ensures.moves,
      ap (λ (z : Standing). z.sections) c.in_ok-pass.ensures.moves ∙ ap (λ (n : ℕ). n + 1) many,
    )

pub returns : goal.returns
returns c =
    let (w, many) = c.loop.invariant in
    sought_found (standing c.loop.self) (standing c.args.self.now) c.args.section w (omega (arith, many, c.loop-test.false, c.loop.auto.counter-end)) c.open.new.self.rows c.open.result (c.open.ensures.head 0) c.open.ensures.rest
