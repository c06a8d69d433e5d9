use Rattle.std.proofs.Common.{◌+◌, length, sym, ap, ◌∙◌, arith}
use Rattle.channel.specs.Records.{settings_of}
use Rattle.channel.specs.Descriptions.{description_bits}
use Rattle.channel.proofs.Describing.{length-recorded}
use Rattle.channel.proofs.record.Channel.description_len.Goals as goal

pub returns-then-recorded : goal.returns-then-recorded
returns-then-recorded c =
    let s = settings_of c.args.self.now in
    let e = c.fields_len.ensures in
    record { len = ap (λ n. 24 + n) e.len ∙ sym (length-recorded s) ∙ ap (λ t. length (description_bits t s)) (sym c.if-recorded.true); most = omega (arith, e.most) }
