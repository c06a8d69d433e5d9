use Rattle.std.proofs.Common.{◌≡◌, ℕ, ◌<◌, true, false, List, length, None, sym, ◌∙◌, rules, arith}
use Rattle.channel.specs.declared.record.Channel.{Channel}
use Rattle.channel.specs.Piles.{coder_coding}
use Rattle.calls.specs.Calls.{settings}
use Rattle.frames.specs.Frames.{countable}
use Rattle.frames.proofs.Tables.{rows-many, row-ruled, table_kept}
use Rattle.words.specs.Words.{told}
use Rattle.words.proofs.Rows.{kept-rule, passes-one}
use Rattle.words.proofs.pass.pass_words.Goals as goal

pub bounds-table-0 : goal.bounds-table-0
bounds-table-0 c =
    let t : List Channel = c.args.table.now in
    let h = kept-rule (countable (settings t)) c.in_ok-rows.rows.table.now t (rw c.in_ok-rows.ensures.ok_part at c.of.ensures) in
    omega (arith, rows-many t, (table_kept (settings t) h).some)

pub returns-in_err-coder : goal.returns-in_err-coder
returns-in_err-coder c =
    let t : List Channel = c.args.table.now in
    let h = kept-rule (countable (settings t)) c.in_ok-rows.rows.table.now t (rw c.in_ok-rows.ensures.ok_part at c.of.ensures) in
    let l : 0 < length t = omega (arith, rows-many t, (table_kept (settings t) h).some) in
    let n : None ≡ c.coder.result = search rules in
    let z : true ≡ false = sym (row-ruled t 0 h l) ∙ (rw (sym n) at c.coder.ensures) in
    let y : ◌≡◌ {A = ℕ} 0 1 = cc in absurd (omega arith)

pub returns : goal.returns
returns c =
    let t : List Channel = c.args.table.now in
    let h = kept-rule (countable (settings t)) c.in_ok-rows.rows.table.now t (rw c.in_ok-rows.ensures.ok_part at c.of.ensures) in
    passes-one t c.args.file.now c.args.from.at.bits c.args.from.last.bits c.args.count (coder_coding c.in_ok-coder.coder) (told c.run.result)
    h c.if-file-gt-MOST_BYTES.false c.if-table-gt1.false (rw c.in_ok-coder.ensures.ok_part at c.coder.ensures).1 c.run.ensures
