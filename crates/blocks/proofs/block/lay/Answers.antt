use Rattle.std.proofs.Common.{◌≡◌, ℕ, ◌+◌, ◌-◌, ◌*◌, ◌/◌, ◌%◌, ◌≤◌, cond, leb, List, length, refl, ap, ◌∙◌, arith}
use Rattle.bits.specs.Raw.{words_in}
use Rattle.fields.specs.Fields.{is_field, held, held_end}
use Rattle.forms.proofs.Windows.{encoded-short}
use Rattle.blocks.specs.Blocks.{bytes_per}
use Rattle.blocks.specs.Loops.{measured, laid}
use Rattle.blocks.proofs.Folds.{lay-more, lay-none, lay-end}
use Rattle.blocks.proofs.block.lay.Goals as goal

-- the words that an iterator still gives
abbrev left : (w : ℕ) → List ℕ → List ℕ
left w raw = words_in ((w + 7) / 8) raw

pub returns-in_default : goal.returns-in_default
returns-in_default g c = let h = c.in_default.ensures in let e = c.new.ensures in absurd (omega arith)

pub loop-word-init : goal.loop-word-init
loop-word-init g c =
    let C = g.C.Coder.coding c.args.coder.now in
    let xs : List ℕ = words_in (bytes_per (g.C.Coder.wide c.args.coder.now)) c.args.raw.now in
    let it = c.into_iter-word-iterator.result in
    let ys : List ℕ = left it.width.bits it.left.now in
    let r : ys ≡ xs = ap (λ z. left z.width.bits z.left.now) c.into_iter-word-iterator.ensures.into_iter_gives ∙ c.words-word-items.ensures ∙ ap (λ z. left z c.args.raw.now) c.word_width.ensures in
    let w = c.in-Some.waiting in
    let s = c.start-memory.ensures in
    let h : held c.args.out.now w.place w.word w.have ≡ c.args.out.now = c.in-Some.ensures.0 in
    let e : held_end w.place w.have ≡ 0 = c.in-Some.ensures.1 ∙ c.new.ensures in (
      ap (laid C c.start-memory.result (held c.args.out.now w.place w.word w.have) (held_end w.place w.have)) r ∙ ap (λ m. laid C m (held c.args.out.now w.place w.word w.have) (held_end w.place w.have) xs) s ∙ ap (λ b. laid C C.start b (held_end w.place w.have) xs) h ∙ ap (λ p. laid C C.start c.args.out.now p xs) e,
      ap (measured C c.start-memory.result (held_end w.place w.have)) r ∙ ap (λ m. measured C m (held_end w.place w.have) xs) s ∙ ap (λ p. measured C C.start p xs) e ∙ c.requires.measured,
    )

pub returns-in_default-encode : goal.returns-in_default-encode
returns-in_default-encode g c =
    let C = g.C.Coder.coding c.args.coder.now in
    let l = c.loop-word in
    let w = l.waiting in
    let t = c.next.new.self in
    let i = l.word-iterator in
    absurd (lay-none C l.memory c.in-Some-word.word (left t.width.bits t.left.now) (left i.width.bits i.left.now) c.in-Some-word.ensures.steps (held_end w.place w.have) c.args.len l.invariant.1 c.in_default-encode.ensures)

pub loop-word-preserved : goal.loop-word-preserved
loop-word-preserved g c =
    let C = g.C.Coder.coding c.args.coder.now in
    let l = c.loop-word in
    let w = l.waiting in
    let v = c.push.new.self in
    let t = c.next.new.self in
    let i = l.word-iterator in
    let d = c.in-Some-encode.coded in
    let s : d.form.len ≤ 64 = encoded-short C (g.C.Coder.sound c.args.coder.now) l.memory c.in-Some-word.word d.form.len d.form.bits d.next c.in-Some-encode.ensures in
    let f : (c.args.len + 7) / 8 ≤ length l.out = rw l.auto.out c.requires.room in
    lay-more C l.memory c.in-Some-word.word (left t.width.bits t.left.now) (left i.width.bits i.left.now) c.in-Some-word.ensures.steps
    (held l.out w.place w.word w.have) _ (held_end w.place w.have) c.args.len (length l.out) d.form.len d.form.bits d.next l.invariant.0 l.invariant.1 c.in-Some-encode.ensures s f
    c.push.result (held c.push.new.buffer v.place v.word v.have) (held_end v.place v.have) c.push.ensures.pushed c.push.ensures.held c.push.ensures.end

pub returns : goal.returns
returns g c =
    let C = g.C.Coder.coding c.args.coder.now in
    let out : List ℕ = c.args.out.now in
    let l = c.loop-word in
    let w = l.waiting in
    let i = l.word-iterator in
    let v = c.push-2.new.self in
    let z : length l.out ≡ length out = l.auto.out in
    let y : length c.push-2.new.buffer ≡ length out = c.push-2.auto.buffer ∙ z in
    lay-end C l.memory C.start (words_in (bytes_per (g.C.Coder.wide c.args.coder.now)) c.args.raw.now) (left i.width.bits i.left.now) out (held l.out w.place w.word w.have) (held_end w.place w.have) c.args.len ((8 - c.args.len % 8) % 8)
    c.are_bytes.ensures c.in-None.ensures.steps.0 l.invariant.0 l.invariant.1 c.requires.measured c.requires.room refl
    c.push-2.result (held c.push-2.new.buffer v.place v.word v.have) (held_end v.place v.have) (c.push-2.ensures.pushed ∙ ap (is_field (held_end w.place w.have) ((8 - c.args.len % 8) % 8)) z) c.push-2.ensures.held c.push-2.ensures.end
    c.finish.new.buffer c.push-2.new.buffer (c.finish.ensures.bytes ∙ ap (λ j. cond (leb (held_end v.place v.have) (8 * j)) (held c.push-2.new.buffer v.place v.word v.have) c.push-2.new.buffer) y)
