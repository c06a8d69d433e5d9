use Rattle.std.proofs.Common.{ℕ, ◌+◌, ◌/◌, ◌≤◌, List, length, ap, sym, ◌∙◌, arith}
use Rattle.bits.specs.Raw.{words_in}
use Rattle.forms.proofs.Windows.{encoded-short}
use Rattle.blocks.proofs.Folds.{measured-more, measured-none, measured-all}
use Rattle.blocks.proofs.block.measure.Goals as goal

-- the words that an iterator still gives
abbrev left : (w : ℕ) → List ℕ → List ℕ
left w raw = words_in ((w + 7) / 8) raw

pub returns-in_err-coded-clause-bits : goal.returns-in_err-coded-clause-bits
returns-in_err-coded-clause-bits g c =
    let C = g.C.Coder.coding c.args.coder.now in
    let l = c.loop-word in
    let t = c.next.new.self in
    let i = l.word-iterator in
    c.from_residual.ensures ∙ sym (measured-none C l.memory c.in-Some.word (left t.width.bits t.left.now) (left i.width.bits i.left.now) c.in-Some.ensures.steps l.len c.in_err-coded.ensures) ∙ l.invariant.0

pub loop-word-preserved : goal.loop-word-preserved
loop-word-preserved g c =
    let C = g.C.Coder.coding c.args.coder.now in
    let l = c.loop-word in
    let t = c.next.new.self in
    let i = l.word-iterator in
    let d = c.in_ok-coded.coded in
    let s : d.form.len ≤ 64 = encoded-short C (g.C.Coder.sound c.args.coder.now) l.memory c.in-Some.word d.form.len d.form.bits d.next c.in_ok-coded.ensures in (
      sym (measured-more C l.memory c.in-Some.word (left t.width.bits t.left.now) (left i.width.bits i.left.now) c.in-Some.ensures.steps l.len d.form.len d.form.bits d.next c.in_ok-coded.ensures) ∙ l.invariant.0,
      omega (arith, s, l.invariant.1, ap length c.in-Some.ensures.steps),
    )

pub returns-clause-bits : goal.returns-clause-bits
returns-clause-bits g c =
    let C = g.C.Coder.coding c.args.coder.now in
    let l = c.loop-word in
    let i = l.word-iterator in
    sym (measured-all C l.memory (left i.width.bits i.left.now) l.len c.in-None.ensures.steps.0) ∙ l.invariant.0
