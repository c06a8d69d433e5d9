use Rattle.std.proofs.Common.{◌≡◌, ℕ, ◌+◌, ◌-◌, ◌/◌, List, refl, sym, ap, ◌∙◌, arith}
use Rattle.faults.specs.Faults.{number_of}
use Rattle.words.specs.Spread.{spread}
use Rattle.words.proofs.Passing.{took, stands_behind}
use Rattle.words.proofs.Turning.{kept_gives, kept-fault}
use Rattle.words.proofs.Loops.{coder_fault, coder_more, coder_full, coder_end, coder_all}
use Rattle.words.proofs.spread.SpreadingWork.run.Goals as goal

pub returns-in_default : goal.returns-in_default
returns-in_default g c =
    let C = g.C.PileCoder.coding c.args.coder.now in
    let k : ℕ = (g.C.PileCoder.wide c.args.coder.now + 7) / 8 in
    let s = c.args.self in
    let f : List ℕ = s.file.now in
    let l = c.loop in
    let x = c.in_default.field-0 in
    coder_fault C k f s.count l.counter l.memory l.cursor.at.bits l.out l.to c.loop-test.true l.cursor.at.bits refl (number_of x.kind) x.place.bits (kept-fault _ (number_of x.kind) x.place.bits c.in_default.ensures)
    ∙ l.invariant ∙ coder_all C k f s.count s.at.bits c.bytes-to.result s.at.bits s.to.bytes c.args.out.now refl c.bytes-to.ensures c.if-self-gt-MOST_BYTES.false

pub returns-then-not-put_raw_word : goal.returns-then-not-put_raw_word
returns-then-not-put_raw_word g c =
    let C = g.C.PileCoder.coding c.args.coder.now in
    let k : ℕ = (g.C.PileCoder.wide c.args.coder.now + 7) / 8 in
    let s = c.args.self in
    let f : List ℕ = s.file.now in
    let l = c.loop in
    let w = c.in-Ok.word in
    let e : c.bytes-size.result ≡ k = c.bytes-size.ensures ∙ ap (λ z. (z + 7) / 8) c.width.ensures in
    let t = kept_gives _ w.word w.len w.next c.in-Ok.ensures in
    coder_full C k f s.count l.counter l.memory l.cursor.at.bits l.out l.to c.loop-test.true l.cursor.at.bits refl w.word w.len (w.next, tt) t
    c.new.result.bytes c.bytes-size.result c.new.ensures e (omega (arith, c.width.result.some, c.bytes-size.ensures)) (omega (arith, c.width.result.most, c.bytes-size.ensures))
    c.put_raw_word.result c.put_raw_word.new.raw c.put_raw_word.ensures.put c.put_raw_word.ensures.bytes (sym c.if-not-put_raw_word.true)
    ∙ l.invariant ∙ coder_all C k f s.count s.at.bits c.bytes-to.result s.at.bits s.to.bytes c.args.out.now refl c.bytes-to.ensures c.if-self-gt-MOST_BYTES.false

pub loop-preserved : goal.loop-preserved
loop-preserved g c =
    let C = g.C.PileCoder.coding c.args.coder.now in
    let k : ℕ = (g.C.PileCoder.wide c.args.coder.now + 7) / 8 in
    let s = c.args.self in
    let f : List ℕ = s.file.now in
    let n : ℕ = s.count in
    let l = c.loop in
    let w = c.in-Ok.word in
    let e : c.bytes-size.result ≡ k = c.bytes-size.ensures ∙ ap (λ z. (z + 7) / 8) c.width.ensures in
    let t = kept_gives _ w.word w.len w.next c.in-Ok.ensures in
    let (_, _, u) = took C (l.memory, tt) f l.cursor.at.bits w.word w.len (w.next, tt) 0 t in
    let (a, _) = stands_behind l.cursor c.past-cursor.result w.len f c.past-cursor.ensures.behind u c.if-self-gt-MOST_BYTES.false c.past-cursor.ensures.fits in
    ap (λ z. spread C.code C.after (λ m. k) f (n - (l.counter + 1)) (w.next, tt) z c.put_raw_word.new.raw (l.to + c.bytes-size.result)) a
    ∙ (coder_more C k f n l.counter l.memory l.cursor.at.bits l.out l.to c.loop-test.true l.cursor.at.bits refl w.word w.len (w.next, tt) t
    c.new.result.bytes c.bytes-size.result c.new.ensures e (omega (arith, c.width.result.some, c.bytes-size.ensures)) (omega (arith, c.width.result.most, c.bytes-size.ensures))
    c.put_raw_word.result c.put_raw_word.new.raw c.put_raw_word.ensures.put c.put_raw_word.ensures.bytes (sym c.if-not-put_raw_word.false)).0
    ∙ l.invariant

pub returns : goal.returns
returns g c =
    let C = g.C.PileCoder.coding c.args.coder.now in
    let k : ℕ = (g.C.PileCoder.wide c.args.coder.now + 7) / 8 in
    let s = c.args.self in
    let f : List ℕ = s.file.now in
    let l = c.loop in
    coder_end C k f s.count l.counter l.memory l.cursor.at.bits l.out l.to c.loop-test.false
    ∙ l.invariant ∙ coder_all C k f s.count s.at.bits c.bytes-to.result s.at.bits s.to.bytes c.args.out.now refl c.bytes-to.ensures c.if-self-gt-MOST_BYTES.false
