use Rattle.std.proofs.Common.{◌≡◌, ℕ, ◌+◌, ◌-◌, ◌/◌, ◌*◌, ◌<◌, ◌≤◌, List, length, take, drop, Some, None, refl, sym, ap, ◌∙◌, arith}
use Rattle.std.specs.Option.{option_map}
use Rattle.faults.specs.Faults.{number_of}
use Rattle.bits.specs.Raw.{raw_words, words_in}
use Rattle.bits.proofs.Raw.{length-raw_words, words_in-first}
use Rattle.fields.specs.Fields.{is_field, held, held_end}
use Rattle.forms.proofs.Windows.{encoded-short}
use Rattle.stream.specs.Stream.{streamed}
use Rattle.stream.proofs.Steps.{words-within, stop-none, stream_all, push-more, push-stop, ended}
use Rattle.stream.proofs.words.StreamingWork.run.Goals as goal

-- the words that an iterator still gives
abbrev left : (w : ℕ) → List ℕ → List ℕ
left w raw = words_in ((w + 7) / 8) raw

pub loop-word-init : goal.loop-word-init
loop-word-init g c =
    let C = g.C.PileCoder.coding c.args.coder.now in
    let k : ℕ = (g.C.PileCoder.wide c.args.coder.now + 7) / 8 in
    let n : ℕ = c.args.self.count in
    let raw : List ℕ = c.args.self.raw.now in
    let it = c.into_iter-word-iterator.result in
    let w = c.in-Some.waiting in
    let size : c.bytes-size.result ≡ k = c.bytes-size.ensures ∙ ap (λ z. (z + 7) / 8) c.width.ensures in
    let s : 1 ≤ c.bytes-size.result = omega (arith, c.width.result.some, c.bytes-size.ensures) in
    let m : c.bytes-size.result * n ≤ length raw = words-within n c.bytes-size.result (length raw) c.if-self-size.false in
    let y : left it.width.bits it.left.now ≡ raw_words k n raw =
    ap (λ z. left z.width.bits z.left.now) c.into_iter-word-iterator.ensures.into_iter_gives ∙ c.words-word-items.ensures ∙ ap (λ z. left z (take (c.bytes-size.result * n) raw)) c.width-2.ensures
    ∙ ap (λ z. words_in k (take (z * n) raw)) size ∙ words_in-first k n raw (omega (arith, s, size)) (rw size at m) in (
      ap (streamed C (length c.args.buffer.now) 0 c.args.self.memory c.args.self.at.bits (held c.args.buffer.now w.place w.word w.have)) y ∙ ap (λ z. streamed C (length c.args.buffer.now) 0 c.args.self.memory c.args.self.at.bits z (raw_words k n raw)) c.in-Some.ensures.0,
      sym c.in-Some.ensures.1,
      omega (arith, c.bits.ensures, c.if-bits-buffer.false),
      refl,
      omega (arith, ap length y ∙ length-raw_words k n raw),
    )

pub returns-in_default-encode_from : goal.returns-in_default-encode_from
returns-in_default-encode_from g c =
    let C = g.C.PileCoder.coding c.args.coder.now in
    let k : ℕ = (g.C.PileCoder.wide c.args.coder.now + 7) / 8 in
    let b : List ℕ = c.args.buffer.now in
    let l = c.loop-word in
    let (inv, same, within, fine, count) = l.invariant in
    let w = l.waiting in
    let i = l.word-iterator in
    let t = c.next.new.self in
    let size : c.bytes-size.result ≡ k = c.bytes-size.ensures ∙ ap (λ z. (z + 7) / 8) c.width.ensures in
    ended C k c.bytes-size.result c.args.self.memory c.args.self.raw.now c.args.self.count c.args.self.at.bits c.args.self.at.bits b size c.if-buffer-gt-MOST_BYTES.false (omega (arith, c.bits.ensures, c.if-bits-buffer.false)) c.if-self-size.false refl
    l.done.words l.done.at.bits l.done.at.bits l.done.memory (held_end w.place w.have) (Some 7) (held l.buffer w.place w.word w.have) c.finish.new.buffer l.buffer
    refl (sym same) within l.auto.buffer c.finish.ensures.bytes
    (sym inv ∙ stop-none C (length b) c.in-Some-word.word (left t.width.bits t.left.now) (left i.width.bits i.left.now) c.in-Some-word.ensures.steps l.done.words l.done.memory l.done.at.bits (held l.buffer w.place w.word w.have) c.in_default-encode_from.ensures)

pub returns-then-not-push : goal.returns-then-not-push
returns-then-not-push g c =
    let C = g.C.PileCoder.coding c.args.coder.now in
    let k : ℕ = (g.C.PileCoder.wide c.args.coder.now + 7) / 8 in
    let b : List ℕ = c.args.buffer.now in
    let l = c.loop-word in
    let (inv, same, within, fine, count) = l.invariant in
    let w = l.waiting in
    let i = l.word-iterator in
    let t = c.next.new.self in
    let size : c.bytes-size.result ≡ k = c.bytes-size.ensures ∙ ap (λ z. (z + 7) / 8) c.width.ensures in
    let d = c.in-Some-encode_from.coded in
    let v = c.push.new.self in
    let s : d.form.len ≤ 64 = encoded-short C (g.C.PileCoder.sound c.args.coder.now) (l.done.memory, tt) c.in-Some-word.word d.form.len d.form.bits (d.next, tt) c.in-Some-encode_from.ensures in
    let (r, f) = push-stop C (length b) c.in-Some-word.word (left t.width.bits t.left.now) (left i.width.bits i.left.now) c.in-Some-word.ensures.steps l.done.words l.done.memory l.done.at.bits (held_end w.place w.have) (held l.buffer w.place w.word w.have) _ same inv
    d.form.len d.form.bits (d.next, tt) c.in-Some-encode_from.ensures c.push.result (held c.push.new.buffer v.place v.word v.have) (held_end v.place v.have)
    (c.push.ensures.pushed ∙ ap (is_field (held_end w.place w.have) d.form.len) l.auto.buffer) c.push.ensures.held c.push.ensures.end
    s (sym c.if-not-push.true) in
    ended C k c.bytes-size.result c.args.self.memory c.args.self.raw.now c.args.self.count c.args.self.at.bits c.args.self.at.bits b size c.if-buffer-gt-MOST_BYTES.false (omega (arith, c.bits.ensures, c.if-bits-buffer.false)) c.if-self-size.false refl
    l.done.words l.done.at.bits l.done.at.bits l.done.memory (held_end v.place v.have) (Some 2) (held c.push.new.buffer v.place v.word v.have) c.finish-then-not-push.new.buffer c.push.new.buffer
    refl f within (c.push.auto.buffer ∙ l.auto.buffer) c.finish-then-not-push.ensures.bytes r

pub loop-word-preserved : goal.loop-word-preserved
loop-word-preserved g c =
    let C = g.C.PileCoder.coding c.args.coder.now in
    let b : List ℕ = c.args.buffer.now in
    let l = c.loop-word in
    let (inv, same, within, fine, count) = l.invariant in
    let w = l.waiting in
    let i = l.word-iterator in
    let t = c.next.new.self in
    let d = c.in-Some-encode_from.coded in
    let v = c.push.new.self in
    let (r, f, u) = push-more C (length b) c.in-Some-word.word (left t.width.bits t.left.now) (left i.width.bits i.left.now) c.in-Some-word.ensures.steps l.done.words l.done.memory l.done.at.bits (held_end w.place w.have) (held l.buffer w.place w.word w.have) _ same inv
    d.form.len d.form.bits (d.next, tt) c.in-Some-encode_from.ensures c.push.result (held c.push.new.buffer v.place v.word v.have) (held_end v.place v.have)
    (c.push.ensures.pushed ∙ ap (is_field (held_end w.place w.have) d.form.len) l.auto.buffer) c.push.ensures.held c.push.ensures.end
    (sym c.if-not-push.false) in
    let p : c.new.result.bits ≡ l.done.at.bits + d.form.len = omega (arith, c.new.ensures, c.bits-in-loop-word.ensures) in (
      ap (λ z. streamed C (length b) (l.done.words + 1) d.next z (held c.push.new.buffer v.place v.word v.have) (left t.width.bits t.left.now)) p ∙ r,
      p ∙ f,
      omega (arith, p, u),
      refl,
      omega (arith, count, ap length c.in-Some-word.ensures.steps),
    )

pub returns : goal.returns
returns g c =
    let C = g.C.PileCoder.coding c.args.coder.now in
    let k : ℕ = (g.C.PileCoder.wide c.args.coder.now + 7) / 8 in
    let b : List ℕ = c.args.buffer.now in
    let l = c.loop-word in
    let (inv, same, within, fine, count) = l.invariant in
    let w = l.waiting in
    let i = l.word-iterator in
    let size : c.bytes-size.result ≡ k = c.bytes-size.ensures ∙ ap (λ z. (z + 7) / 8) c.width.ensures in
    ended C k c.bytes-size.result c.args.self.memory c.args.self.raw.now c.args.self.count c.args.self.at.bits c.args.self.at.bits b size c.if-buffer-gt-MOST_BYTES.false (omega (arith, c.bits.ensures, c.if-bits-buffer.false)) c.if-self-size.false refl
    l.done.words l.done.at.bits l.done.at.bits l.done.memory (held_end w.place w.have) (option_map number_of l.done.fault) (held l.buffer w.place w.word w.have) c.finish-2.new.buffer l.buffer
    refl (sym same) within l.auto.buffer c.finish-2.ensures.bytes
    (sym inv ∙ stream_all C (length b) l.done.words l.done.memory l.done.at.bits (held l.buffer w.place w.word w.have) (left i.width.bits i.left.now) c.in-None.ensures.steps.0
    ∙ ap (λ z. record { words = l.done.words; at = l.done.at.bits; memory = l.done.memory; fault = option_map number_of z; bytes = held l.buffer w.place w.word w.have }) (sym fine))
