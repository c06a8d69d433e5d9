use Rattle.layout.proofs.Example.{example_stands}
use Rattle.layout.proofs.example_stands.Goals as goal

pub returns : goal.returns
returns c = example_stands
