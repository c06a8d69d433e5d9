use Rattle.std.proofs.Common.{not, ap, ◌∙◌}
use Rattle.heads.proofs.Fits.{zero_free-any}
use Rattle.heads.proofs.zero_free.Goals as goal

pub returns : goal.returns
returns c = ap not c.contains.ensures.value ∙ zero_free-any c.args.bytes.now
