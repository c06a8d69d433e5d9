use Rattle.std.proofs.Common.{refl}
use Rattle.format.specs.Format.{gap}
use Rattle.closings.proofs.gap_at.Goals as goal

pub returns-clause-gap : goal.returns-clause-gap
unfolding gap
returns-clause-gap c = refl
