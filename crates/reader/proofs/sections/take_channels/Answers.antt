use Rattle.std.proofs.Common.{◌≡◌, ℕ, ◌≤◌, Bool, List, length, take, ap, ◌∙◌, arith}
use Rattle.std.proofs.lemmas.List.{length-take-le}
use Rattle.bits.specs.Bits.{bits_of}
use Rattle.format.specs.Cells.{File}
use Rattle.format.specs.Format.{times}
use Rattle.layout.specs.Slim.{channel}
use Rattle.calls.specs.Calls.{flags}
use Rattle.channel.specs.declared.record.Channel.{Channel}
use Rattle.reading.proofs.Steps.{passed}
use Rattle.reader.specs.Sections.{rows_in}
use Rattle.reader.proofs.Heads.{channels-not, channels-on}
use Rattle.reader.proofs.Rows.{rows-told, rows-rest, rows_most}
use Rattle.reader.proofs.sections.take_channels.Goals as goal

pub returns-in_err-count-clause-rows : goal.returns-in_err-count-clause-rows
returns-in_err-count-clause-rows c =
    passed (rows_in _) _ _ _ c.from_residual.ensures.1
    (channels-not (flags c.args.flags) (bits_of c.args.source.bytes.now) c.args.from.at.bits c.args.from.last.bits c.in_err-count.ensures.count)

pub returns : goal.returns
returns c =
    let f : File = bits_of c.args.source.bytes.now in
    let n = c.in_ok-count.count in
    let t : List Channel = c.args.table.now in
    let fits : n.value ≤ length t = omega (arith, c.in_ok-count.ensures.most) in
    let many : length (take n.value t) ≡ n.value = length-take-le n.value t fits in
    record {
      rows = channels-on (flags c.args.flags) f c.args.from.at.bits c.args.from.last.bits c.in_ok-count.ensures.count
          (rows-told c.take_rows.new.rows _ c.take_rows.result c.take_rows.ensures.many
          ∙ c.take_rows.ensures.rows
          ∙ ap (λ (k : ℕ). (times k (channel c.records_repeats-recorded.result)).reads f n.end.at.bits n.end.last.bits) many
          ∙ ap (λ (kept : Bool). (times n.value (channel kept)).reads f n.end.at.bits n.end.last.bits) c.records_repeats-recorded.ensures);
      rest = rows-rest c.take_rows.new.rows _ c.take_rows.result c.take_rows.ensures.many c.take_rows.ensures.rest;
      most = rows_most c.take_rows.new.rows c.take_rows.result (omega (arith, many, c.in_ok-count.ensures.most)) c.take_rows.ensures.many;
    }
