use Rattle.std.proofs.Common.{◌≡◌, ℕ, ◌+◌, ◌-◌, ◌≤◌, sym, ap, ◌∙◌, arith}
use Rattle.faults.specs.Faults.{number_of}
use Rattle.blocks.specs.Loops.{read_words, end_of}
use Rattle.blocks.proofs.Folds.{read_more, read-not, read_none, taken-short}
use Rattle.blocks.proofs.block.scan.Goals as goal

pub loop-init : goal.loop-init
loop-init g c =
    let C = g.C.Coder.coding c.args.coder.now in
    let f = c.args.block.now in
    let n : ℕ = c.args.count in (
      ap (λ m. end_of (read_words C m f c.new-at.result.bits (n - 0))) c.start-memory.ensures ∙ ap (λ p. end_of (read_words C C.start f p (n - 0))) c.new-at.ensures ∙ ap (λ k. end_of (read_words C C.start f 0 k)) (omega arith),
      omega (arith, c.new-at.ensures),
    )

pub returns-in-Err : goal.returns-in-Err
returns-in-Err g c =
    let C = g.C.Coder.coding c.args.coder.now in
    let i : ℕ = c.loop.counter in
    let n : ℕ = c.args.count in
    let f = c.in-Err.fault in
    sym (read-not C c.loop.memory c.args.block.now c.loop.at.bits (n - i) (n - (i + 1)) (number_of f.kind) f.place.bits (omega arith) c.in-Err.ensures)
    ∙ c.loop.invariant.0

pub loop-preserved : goal.loop-preserved
loop-preserved g c =
    let C = g.C.Coder.coding c.args.coder.now in
    let f = c.args.block.now in
    let i : ℕ = c.loop.counter in
    let n : ℕ = c.args.count in
    let t = c.in-Ok.taken in
    let s : t.len ≤ 64 = taken-short C (g.C.Coder.sound c.args.coder.now) c.loop.memory f c.loop.at.bits t.word t.len t.next c.in-Ok.ensures in
    let p : c.new-at-in-loop.result.bits ≡ c.loop.at.bits + t.len = omega (arith, c.new-at-in-loop.ensures, c.bits.ensures) in (
      ap (λ z. end_of (read_words C t.next f z (n - (i + 1)))) p
          ∙ sym (read_more C c.loop.memory f c.loop.at.bits (n - i) (n - (i + 1)) t.word t.len t.next (omega arith) c.in-Ok.ensures)
          ∙ c.loop.invariant.0,
      omega (arith, s, p, c.loop.invariant.1),
    )

pub returns : goal.returns
returns g c =
    let C = g.C.Coder.coding c.args.coder.now in
    let z : c.args.count - c.loop.counter ≡ 0 = omega arith in
    sym (ap end_of (read_none C c.loop.memory c.args.block.now c.loop.at.bits (c.args.count - c.loop.counter) z)) ∙ c.loop.invariant.0
