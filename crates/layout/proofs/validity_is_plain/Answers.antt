use Rattle.layout.proofs.Validity.{validity_is_plain}
use Rattle.layout.proofs.validity_is_plain.Goals as goal

pub returns : goal.returns
returns c = validity_is_plain
