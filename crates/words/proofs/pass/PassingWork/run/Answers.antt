use Rattle.std.proofs.Common.{◌≡◌, ℕ, ◌+◌, ◌-◌, List, Err, refl, ap, ◌∙◌, rules}
use Rattle.faults.specs.Faults.{number_of}
use Rattle.words.specs.Words.{places, told}
use Rattle.words.proofs.Passing.{left, took, coder_more, coder_fault, coder_end, coder_all, stands_behind}
use Rattle.words.proofs.Turning.{kept_gives, kept-fault}
use Rattle.words.proofs.pass.PassingWork.run.Goals as goal

pub returns-in_err-word : goal.returns-in_err-word
returns-in_err-word g c =
    let C = g.C.PileCoder.coding c.args.coder.now in
    let s = c.args.self in
    let f : List ℕ = s.file.now in
    let x = c.in_err-word.field-0.0 in
    let l = c.loop in
    let e : c.from_residual.result ≡ Err x = search rules in
    ap told e
    ∙ coder_fault C f s.count l.counter l.memory l.cursor.at.bits l.cursor.last.bits l.cursor.at.bits c.loop-test.true refl (number_of x.kind) x.place.bits (kept-fault _ (number_of x.kind) x.place.bits c.in_err-word.ensures)
    ∙ l.invariant ∙ coder_all C f s.count s.from.at.bits s.from.last.bits s.from.at.bits s.from.last.bits refl refl c.if-self-gt-MOST_BYTES.false

pub loop-preserved : goal.loop-preserved
loop-preserved g c =
    let C = g.C.PileCoder.coding c.args.coder.now in
    let s = c.args.self in
    let f : List ℕ = s.file.now in
    let n : ℕ = s.count in
    let w = c.in_ok-word.word in
    let l = c.loop in
    let t = kept_gives _ w.word w.len w.next c.in_ok-word.ensures in
    let (_, _, k) = took C (l.memory, tt) f l.cursor.at.bits w.word w.len (w.next, tt) 0 t in
    let d = c.past-cursor.result in
    let (a, b) = stands_behind l.cursor d w.len f c.past-cursor.ensures.behind k c.if-self-gt-MOST_BYTES.false c.past-cursor.ensures.fits in
    ap (λ z. places (left C f n (n - (l.counter + 1)) w.next z d.last.bits)) a ∙ ap (λ z. places (left C f n (n - (l.counter + 1)) w.next (l.cursor.at.bits + w.len) z)) b
    ∙ coder_more C f n l.counter l.memory l.cursor.at.bits l.cursor.last.bits l.cursor.at.bits c.loop-test.true refl w.word w.len (w.next, tt) t ∙ l.invariant

pub returns : goal.returns
returns g c =
    let C = g.C.PileCoder.coding c.args.coder.now in
    let s = c.args.self in
    let f : List ℕ = s.file.now in
    let l = c.loop in
    coder_end C f s.count l.counter l.memory l.cursor.at.bits l.cursor.last.bits l.cursor.at.bits l.cursor.last.bits c.loop-test.false refl refl
    ∙ l.invariant ∙ coder_all C f s.count s.from.at.bits s.from.last.bits s.from.at.bits s.from.last.bits refl refl c.if-self-gt-MOST_BYTES.false
