use Rattle.std.proofs.Common.{ℕ, ◌+◌, Bool, List, length, drop, sym, ap, ◌∙◌, arith}
use Rattle.bits.specs.Bits.{put_bits}
use Rattle.bits.proofs.Laws.{put_bits-none}
use Rattle.channel.specs.declared.record.Channel.{Channel}
use Rattle.channel.specs.Descriptions.{description_bits}
use Rattle.calls.specs.Calls.{settings}
use Rattle.openings.specs.Steps.{rows_bits}
use Rattle.openings.proofs.Rows.{row, row-ruled, rows_next, length-next, rows_end, put-row}
use Rattle.openings.proofs.put_rows.Goals as goal

pub loop-row-preserved : goal.loop-row-preserved
loop-row-preserved c =
    let kept : Bool = c.args.recorded in
    let t : List Channel = c.args.table.now in
    let i : ℕ = c.loop-row.row-index in
    let b : List ℕ = c.loop-row.buffer in
    let p : ℕ = c.loop-row.place.bits in
    let D = description_bits kept (row t i) in
    let R = rows_bits kept (settings (drop (i + 1) t)) in
    let (put, size, len, able, _) = c.loop-row.invariant in
    let h = c.loop-row-test.true in
    let n = length-next kept t i h in
    let (ruled, rest) = row-ruled kept t i h able in
    let (w, q, l, y) = put-row b c.put_description.new.buffer p c.plus-place.result.bits c.description_len.result D R (row t i)
    (omega (arith, c.requires.few, len)) ruled (omega (arith, n, size, len, c.requires.room)) c.description_len.ensures.len c.plus-place.ensures c.put_description.ensures.bytes in
    (w ∙ ap (put_bits b p) (sym (rows_next kept t i h)) ∙ put, omega (arith, q, n, size), l ∙ len, rest, y)

pub returns : goal.returns
returns c =
    let kept : Bool = c.args.recorded in
    let t : List Channel = c.args.table.now in
    let (put, size, _, _, y) = c.loop-row.invariant in
    let e = rows_end kept t c.loop-row.row-index c.loop-row-test.false in
    record {
      place = omega (arith, size, ap length e);
      bytes = sym (put_bits-none c.loop-row.buffer c.loop-row.place.bits y) ∙ ap (put_bits c.loop-row.buffer c.loop-row.place.bits) (sym e) ∙ put;
    }
