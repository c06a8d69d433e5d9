use Rattle.reading.proofs.Steps.{whole-on, choose-on, choose-off}
use Rattle.reading.proofs.source.Source.take_repeats.Goals as goal

pub returns-then-not-recorded : goal.returns-then-not-recorded
returns-then-not-recorded c = choose-off _ _ _ c.if-not-recorded.true (whole-on _ _ _ _)

pub returns : goal.returns
returns c = choose-on _ _ _ c.if-not-recorded.false (c.take_number.ensures _)
