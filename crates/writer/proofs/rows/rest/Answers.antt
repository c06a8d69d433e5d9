use Rattle.std.proofs.Common.{◌<◌, List, length, get_or, set, ap, ◌∙◌, arith}
use Rattle.std.proofs.lemmas.List.Edits.{map_over_more}
use Rattle.std.proofs.lemmas.List.{get_or_default}
use Rattle.channel.specs.declared.record.Channel.{Channel}
use Rattle.channel.specs.Records.{rested}
use Rattle.calls.specs.Calls.{no_row}
use Rattle.writer.proofs.rows.rest.Goals as goal

pub loop-row-preserved : goal.loop-row-preserved
loop-row-preserved c =
    let t : List Channel = c.loop-row.table in
    let i = c.loop-row.row-index in
    let h : i < length t = omega (arith, c.loop-row-test.true, c.loop-row.auto.table) in
    ap (set t i) c.at_rest.ensures ∙ map_over_more rested c.args.table.now t i (get_or t i no_row) c.loop-row-test.true c.loop-row.invariant (get_or_default t i no_row (get_or t i no_row) h)
