use Rattle.forms.proofs.Laws.{coder_laws}
use Rattle.coder.proofs.laws.coder_laws.Goals as goal

pub returns : goal.returns
returns g c = λ d. coder_laws (g.C.Coder.coding d) (g.C.Coder.sound d)
