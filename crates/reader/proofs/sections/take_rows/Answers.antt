use Rattle.std.proofs.Common.{◌≡◌, ℕ, ◌<◌, List, map, length, take, refl, ap, ◌∙◌, subst, arith}
use Rattle.bits.specs.Bits.{bits_of}
use Rattle.format.specs.Cells.{File}
use Rattle.format.specs.Format.{got}
use Rattle.channel.specs.declared.record.Channel.{Channel}
use Rattle.channel.specs.Records.{rested}
use Rattle.reading.proofs.Steps.{passed}
use Rattle.reader.specs.Sections.{rows_in}
use Rattle.reader.proofs.Rows.{rows_start, rows_step, rows-fault, rows_end, rest_more}
use Rattle.reader.proofs.sections.take_rows.Goals as goal

pub loop-row-init : goal.loop-row-init
loop-row-init c = (rows_start c.args.recorded (bits_of c.args.source.bytes.now) (length c.args.rows.now) c.args.from.at.bits c.args.from.last.bits c.args.rows.now, refl)

pub returns-in_err-taken-clause-rows : goal.returns-in_err-taken-clause-rows
returns-in_err-taken-clause-rows c =
    let f : File = bits_of c.args.source.bytes.now in
    let t : List Channel = c.loop-row.rows in
    let (so_far, _) = c.loop-row.invariant in
    let i : ℕ = c.loop-row.row-index in
    let inside : i < length c.args.rows.now = omega (arith, c.loop-row-test.true, c.loop-row.auto.rows) in
    passed (rows_in _) _ _ _ c.from_residual.ensures.1
    (rows-fault c.args.recorded f (length c.args.rows.now) c.args.from.at.bits c.args.from.last.bits t i c.loop-row.end.at.bits c.loop-row.end.last.bits _ _ inside so_far (c.in_err-taken.ensures.settings c.loop-row.end.last.bits))

pub loop-row-preserved : goal.loop-row-preserved
loop-row-preserved c =
    let f : File = bits_of c.args.source.bytes.now in
    let t : List Channel = c.loop-row.rows in
    let i : ℕ = c.loop-row.row-index in
    let x = c.in_ok-taken.taken in
    let (so_far, resting) = c.loop-row.invariant in
    let inside : i < length t = omega (arith, c.loop-row-test.true) in
    let wanted : i < length c.args.rows.now = omega (arith, inside, c.loop-row.auto.rows) in (
      rows_step c.args.recorded f (length c.args.rows.now) c.args.from.at.bits c.args.from.last.bits t x.value i c.loop-row.end.at.bits c.loop-row.end.last.bits x.end.at.bits x.end.last.bits
          wanted inside so_far (c.in_ok-taken.ensures.settings c.loop-row.end.last.bits),
      rest_more t i x.value inside resting c.in_ok-taken.ensures.rest,
    )

pub returns : goal.returns
returns c =
    let f : File = bits_of c.args.source.bytes.now in
    let t : List Channel = c.loop-row.rows in
    let i : ℕ = c.loop-row.row-index in
    let (so_far, resting) = c.loop-row.invariant in
    let many : length t ≡ length c.args.rows.now = omega (arith, c.loop-row.auto.rows) in
    let all : i ≡ length t = omega (arith, c.loop-row-test.false, c.loop-row.auto.row-index-end) in
    record {
      rows = ap (λ (n : ℕ). got (rows_in t n) c.loop-row.end.at.bits c.loop-row.end.last.bits) many
          ∙ rows_end c.args.recorded f (length c.args.rows.now) c.args.from.at.bits c.args.from.last.bits t i c.loop-row.end.at.bits c.loop-row.end.last.bits (all ∙ many) so_far;
      rest = (omega arith, subst (λ (n : ℕ). map rested (take n t) ≡ take n t) all resting);
      many = refl;
    }
