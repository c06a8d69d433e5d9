use Rattle.std.proofs.Common.{sym}
use Rattle.openings.proofs.Fronts.{length-single, length-counted}
use Rattle.openings.proofs.front_len.Goals as goal

pub returns-then-flags-clause-len : goal.returns-then-flags-clause-len
returns-then-flags-clause-len c = sym (length-single c.args.flags c.zeros_len-zeros.result 0 c.zeros_len-zeros.ensures c.if-flags.true)

pub returns-else-flags-clause-len : goal.returns-else-flags-clause-len
returns-else-flags-clause-len c = sym (length-counted c.args.flags c.zeros_len-zeros.result 0 c.zeros_len-zeros.ensures c.if-flags.false)
