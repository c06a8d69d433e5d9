use Rattle.forms.proofs.Bench.{cases-hold}
use Rattle.coder.proofs.laws.worked_cases.Goals as goal

pub returns : goal.returns
returns c = cases-hold
