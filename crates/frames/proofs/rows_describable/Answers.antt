use Rattle.std.proofs.Common.{◌∙◌, rules}
use Rattle.std.proofs.lemmas.Iterator.{YieldsList-from_slice}
use Rattle.std.proofs.lemmas.Iterator.Search.{all_from_yields_List}
use Rattle.channel.specs.Records.{settings_of}
use Rattle.frames.proofs.Describable.{is_describable, describable-all}
use Rattle.frames.proofs.rows_describable.Goals as goal

pub returns : goal.returns
returns c =
    all_from_yields_List (λ row. is_describable c.args.recorded (settings_of row)) _ _ c.all.result c.all.ensures.ran (YieldsList-from_slice c.args.table.now cc) (λ x b q k. search rules)
    ∙ describable-all c.args.recorded c.args.table.now
