use Rattle.std.proofs.Common.{arith, option_copied}
use Rattle.std.proofs.lemmas.Grind.{common_steps}
use Rattle.heads.proofs.Sizes.{extra-length}
use Rattle.heads.proofs.extra_size.Goals as goal

pub returns-clause-size : goal.returns-clause-size
returns-clause-size c =
    let l = extra-length (option_copied c.args.extra) in
    grind (arith, common_steps)
