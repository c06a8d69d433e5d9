use Rattle.std.proofs.Common.{ℕ, ◌%◌, ◌<◌, ◌≤◌, List, arith}
use Rattle.std.proofs.lemmas.Bool.{eq-eqb, ne_eqb}
use Rattle.layout.specs.Turns.{first}
use Rattle.channel.specs.declared.record.Channel.{Channel}
use Rattle.calls.specs.Calls.{settings}
use Rattle.frames.specs.Frames.{row_bytes}
use Rattle.frames.proofs.Counts.{count}
use Rattle.frames.proofs.Tables.{described, row-ruled, rows-many}
use Rattle.frames.proofs.Whole.{bytes-end}
use Rattle.frames.proofs.Steps.{ends-whole, ends-cut, row-least, goes-past}
use Rattle.frames.proofs.section.Rows.words_within.Goals as goal

pub row_bytes-bytes-requires : goal.row_bytes-bytes-requires
row_bytes-bytes-requires c = row-ruled c.args.self.table.now c.loop-row.row-index c.args.self.countable c.loop-row-test.true

pub returns-then-left-size-eq0 : goal.returns-then-left-size-eq0
returns-then-left-size-eq0 c =
    let t : List Channel = c.args.self.table.now in
    let i : ℕ = c.loop-row.row-index in
    let left : ℕ = c.loop-row.left in
    let size : ℕ = c.word_bytes-size.result in
    let m : left < row_bytes (described t i) = omega (arith, c.if-left-bytes.true, c.row_bytes-bytes.ensures.bytes) in
    ends-whole t i c.loop-row.words left size (count (settings t) first c.args.raw) c.args.self.countable c.loop-row-test.true c.word_bytes-size.ensures.bytes m c.loop-row.invariant.0 (eq-eqb (left % size) 0 c.if-left-size-eq0.true)

pub returns-else-left-size-eq0 : goal.returns-else-left-size-eq0
returns-else-left-size-eq0 c =
    let t : List Channel = c.args.self.table.now in
    let i : ℕ = c.loop-row.row-index in
    let left : ℕ = c.loop-row.left in
    let size : ℕ = c.word_bytes-size.result in
    let m : left < row_bytes (described t i) = omega (arith, c.if-left-bytes.true, c.row_bytes-bytes.ensures.bytes) in
    ends-cut t i c.loop-row.words left size (count (settings t) first c.args.raw) c.args.self.countable c.loop-row-test.true c.word_bytes-size.ensures.bytes m c.loop-row.invariant.0 (ne_eqb (left % size) 0 c.if-left-size-eq0.false)

pub overflow_add-words : goal.overflow_add-words
overflow_add-words c =
    let t : List Channel = c.args.self.table.now in
    let (_, _, most) = c.loop-row.invariant in
    omega (arith, most, row-least t c.loop-row.row-index c.args.self.countable c.loop-row-test.true, c.repeats-words.ensures, c.row_bytes-bytes.ensures.bytes, c.if-left-bytes.false, c.ranges.raw.fits)

pub loop-row-preserved : goal.loop-row-preserved
loop-row-preserved c =
    let t : List Channel = c.args.self.table.now in
    let i : ℕ = c.loop-row.row-index in
    let (words, within, most) = c.loop-row.invariant in
    let l = c.loop-row-test.true in
    let past : row_bytes (described t i) ≤ c.loop-row.left = omega (arith, c.if-left-bytes.false, c.row_bytes-bytes.ensures.bytes) in
    goes-past t i c.loop-row.words c.loop-row.left c.repeats-words.result c.row_bytes-bytes.result c.args.raw (count (settings t) first c.args.raw)
    c.args.self.countable l past within words most c.repeats-words.ensures c.row_bytes-bytes.ensures.bytes

pub returns : goal.returns
returns c =
    let t : List Channel = c.args.self.table.now in
    let (_, within, _) = c.loop-row.invariant in
    absurd (omega (arith, within, bytes-end (settings t) c.loop-row.row-index (omega (arith, rows-many t, c.loop-row-test.false))))
