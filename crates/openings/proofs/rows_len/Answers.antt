use Rattle.std.proofs.Common.{◌≡◌, length, ◌∙◌, sum_by, rules, arith}
use Rattle.std.proofs.lemmas.List.{length-map}
use Rattle.channel.specs.Records.{settings_of}
use Rattle.channel.specs.Descriptions.{description_bits}
use Rattle.calls.specs.Calls.{settings}
use Rattle.openings.proofs.Rows.{length-rows, most-rows}
use Rattle.openings.proofs.rows_len.Goals as goal

pub returns : goal.returns
returns c =
    let e : c.sum.result ≡ sum_by (λ row. length (description_bits c.args.recorded (settings_of row))) c.args.table.now = search rules in
    let l = e ∙ length-rows c.args.recorded c.args.table.now in
    let m = most-rows c.args.recorded (settings c.args.table.now) in
    record { len = l; most = omega (arith, l, m, length-map c.args.table.now settings_of, c.requires) }
