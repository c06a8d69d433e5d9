use Rattle.std.proofs.Common.{ℕ, List, arith}
use Rattle.channel.specs.declared.record.Channel.{Channel}
use Rattle.calls.specs.Calls.{settings}
use Rattle.frames.proofs.Tables.{described, table_kept, row-ruled, repeats-kept, rows-many}
use Rattle.frames.proofs.Whole.{words-end, bytes-end}
use Rattle.frames.proofs.Steps.{words-on, bytes_on}
use Rattle.frames.proofs.section.Rows.frame.Goals as goal

pub row_bytes-bytes-requires : goal.row_bytes-bytes-requires
row_bytes-bytes-requires c = row-ruled c.args.self.table.now c.loop-row.row-index c.args.self.countable c.loop-row-test.true

pub overflow_add-words : goal.overflow_add-words
overflow_add-words c =
    let t : List Channel = c.args.self.table.now in
    let i : ℕ = c.loop-row.row-index in
    let (_, _, w, _) = c.loop-row.invariant in
    let l = c.loop-row-test.true in
    omega (arith, w, l, c.repeats-words.ensures, (repeats-kept (described t i) (row-ruled t i c.args.self.countable l)).few, (table_kept (settings t) c.args.self.countable).few, rows-many t)

pub overflow_add-bytes : goal.overflow_add-bytes
overflow_add-bytes c =
    let t : List Channel = c.args.self.table.now in
    let (_, _, _, b) = c.loop-row.invariant in
    omega (arith, b, c.loop-row-test.true, c.row_bytes-bytes.ensures.most, (table_kept (settings t) c.args.self.countable).few, rows-many t)

pub loop-row-preserved : goal.loop-row-preserved
loop-row-preserved c =
    let t : List Channel = c.args.self.table.now in
    let i : ℕ = c.loop-row.row-index in
    let l = c.loop-row-test.true in
    let (words, bytes, few, small) = c.loop-row.invariant in
    let r = c.repeats-words.ensures in
    let b = c.row_bytes-bytes.ensures in
    (omega (arith, words, words-on t i l, r), omega (arith, bytes, bytes_on t i l, b.bytes), omega (arith, few, r, (repeats-kept (described t i) (row-ruled t i c.args.self.countable l)).few), omega (arith, small, b.most))

pub returns : goal.returns
returns c =
    let t : List Channel = c.args.self.table.now in
    let i : ℕ = c.loop-row.row-index in
    let (words, bytes, _, _) = c.loop-row.invariant in
    record { words = omega (arith, words, words-end (settings t) i (omega (arith, rows-many t, c.loop-row-test.false))); bytes = omega (arith, bytes, bytes-end (settings t) i (omega (arith, rows-many t, c.loop-row-test.false))) }
