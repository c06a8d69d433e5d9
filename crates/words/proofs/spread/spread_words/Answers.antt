use Rattle.std.proofs.Common.{◌≡◌, ℕ, ◌+◌, ◌/◌, ◌<◌, true, false, cond, List, length, Some, None, sym, ap, ◌∙◌, arith}
use Rattle.channel.specs.declared.record.Channel.{Channel}
use Rattle.channel.specs.Piles.{coder_coding, coder_width}
use Rattle.calls.specs.Calls.{settings}
use Rattle.layout.specs.Turns.{first_turn}
use Rattle.frames.specs.Frames.{countable}
use Rattle.words.specs.Spread.{turn_spread}
use Rattle.words.proofs.Rows.{kept-rule, same-rows, whole-width}
use Rattle.frames.proofs.Tables.{rows-many, row-ruled, table_kept}
use Rattle.words.proofs.Sections.{spread-alone, spread-answer, spread-left}
use Rattle.words.proofs.spread.spread_words.Goals as goal

rule : (t x : List Channel) → Some x ≡ cond (countable (settings t)) (Some t) None → countable (settings t) ≡ true
rule t x e = kept-rule (countable (settings t)) x t e

pub bounds-table-0 : goal.bounds-table-0
bounds-table-0 c =
    let t : List Channel = c.args.table.now in
    let h = rule t c.in-Some.rows.table.now c.in-Some.ensures in
    omega (arith, rows-many t, (table_kept (settings t) h).some)

pub returns-then-table-gt1 : goal.returns-then-table-gt1
returns-then-table-gt1 c =
    let t : List Channel = c.args.table.now in
    let f : List ℕ = c.args.file.now in
    let h = rule t c.in-Some.rows.table.now c.in-Some.ensures in
    let same = same-rows (countable (settings t)) c.in-Some.rows.table.now t c.in-Some.ensures in
    let e = c.spread_rows.ensures ∙ ap (λ x. turn_spread (settings x) f c.args.count (first_turn (settings x)) c.args.at.bits c.args.out.now c.args.from.bytes) same in
    record {
      answer = spread-answer t f c.args.at.bits c.args.count c.args.out.now c.args.from.bytes c.spread_rows.result c.spread_rows.new.out h c.if-file-gt-MOST_BYTES.false c.are_bytes.ensures e;
      bytes = spread-left t f c.args.at.bits c.args.count c.args.out.now c.args.from.bytes c.spread_rows.result c.spread_rows.new.out h c.if-file-gt-MOST_BYTES.false c.are_bytes.ensures e;
    }

pub returns-in_default-coder : goal.returns-in_default-coder
returns-in_default-coder c =
    let t : List Channel = c.args.table.now in
    let h = rule t c.in-Some.rows.table.now c.in-Some.ensures in
    let l : 0 < length t = omega (arith, rows-many t, (table_kept (settings t) h).some) in
    let z : true ≡ false = sym (row-ruled t 0 h l) ∙ c.in_default-coder.ensures in
    let y : ◌≡◌ {A = ℕ} 0 1 = cc in absurd (omega arith)

pub returns : goal.returns
returns c =
    let t : List Channel = c.args.table.now in
    let f : List ℕ = c.args.file.now in
    let h = rule t c.in-Some.rows.table.now c.in-Some.ensures in
    let one : length t ≡ 1 = omega (arith, c.if-table-gt1.false, rows-many t, (table_kept (settings c.args.table.now) h).some) in
    let k = c.in-Some-coder.coder in
    let e = c.run.ensures
    ∙ spread-alone t c.args.count f c.args.at.bits c.args.out.now c.args.from.bytes (coder_coding k) ((coder_width k + 7) / 8) one c.in-Some-coder.ensures.1 (whole-width k ∙ ap (λ z. z / 8) c.in-Some-coder.ensures.2) c.if-file-gt-MOST_BYTES.false in
    record {
      answer = spread-answer t f c.args.at.bits c.args.count c.args.out.now c.args.from.bytes c.run.result c.run.new.buffer h c.if-file-gt-MOST_BYTES.false c.are_bytes.ensures e;
      bytes = spread-left t f c.args.at.bits c.args.count c.args.out.now c.args.from.bytes c.run.result c.run.new.buffer h c.if-file-gt-MOST_BYTES.false c.are_bytes.ensures e;
    }
