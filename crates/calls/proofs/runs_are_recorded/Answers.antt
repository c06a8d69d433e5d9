use Rattle.calls.proofs.Law.{runs_are_recorded}
use Rattle.calls.proofs.runs_are_recorded.Goals as goal

pub returns : goal.returns
returns c = runs_are_recorded
