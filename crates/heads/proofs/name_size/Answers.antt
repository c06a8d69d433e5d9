use Rattle.std.proofs.Common.{arith, option_copied}
use Rattle.std.proofs.lemmas.Grind.{common_steps}
use Rattle.heads.proofs.Sizes.{name-length}
use Rattle.heads.proofs.name_size.Goals as goal

pub returns-clause-size : goal.returns-clause-size
returns-clause-size c =
    let l = name-length (option_copied c.args.name) c.requires in
    grind (arith, common_steps)
