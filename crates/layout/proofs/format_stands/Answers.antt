use Rattle.layout.proofs.Stands.{format_stands}
use Rattle.layout.proofs.format_stands.Goals as goal

pub returns : goal.returns
returns c = format_stands
