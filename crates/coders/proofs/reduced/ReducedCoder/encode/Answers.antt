use Rattle.std.proofs.Common.{◌≡◌, ℕ, ◌+◌, ◌-◌, ◌^◌, ◌<◌, ◌≤◌, Some, sym, ap, ◌∙◌, arith}
use Rattle.bits.specs.Bits.{bits}
use Rattle.forms.specs.Coders.{minus, reduced}
use Rattle.forms.proofs.Coders.{reduced-rules}
use Rattle.forms.proofs.Plain.{plain_form, plain-none}
use Rattle.forms.proofs.Rules.{form_of-over}
use Rattle.forms.proofs.Reading.{reduced-writes-near, reduced-writes-far}
use Rattle.coders.proofs.Machine.{ones, joined, in_width, past-width}
use Rattle.coders.proofs.reduced.ReducedCoder.encode.Goals as goal

pub returns-then-not-is_word : goal.returns-then-not-is_word
returns-then-not-is_word g c =
    let s = c.args.self.now in
    let h = past-width c.word_width-width.result.bits g.row.W c.args.word c.is_word.result c.word_width-width.ensures c.is_word.ensures c.if-not-is_word.true in
    plain-none (reduced g.row.W s.narrow s.pedestal) c.args.memory c.args.word (form_of-over (reduced g.row.W s.narrow s.pedestal) (reduced-rules g.row.W s.narrow s.pedestal s.most s.width.1) c.args.word h)

pub returns-then-above-ones : goal.returns-then-above-ones
returns-then-above-ones g c =
    let s = c.args.self.now in
    let W : ℕ = g.row.W in
    let x : ℕ = c.args.word in
    let n : s.narrow ≤ 32 = let a = s.most in let b = s.width.1 in omega arith in
    let l : x < 2 ^ W = in_width c.word_width-width.result.bits W x c.is_word.result c.word_width-width.ensures c.is_word.ensures c.if-not-is_word.false in
    let e : c.difference-above.result ≡ minus W s.pedestal x = c.difference-above.ensures ∙ ap (λ z. minus z s.pedestal x) c.word_width-width.ensures in
    let k : minus W s.pedestal x < 2 ^ s.narrow - 1 = omega (arith, e, ones s.narrow n, c.if-above-ones.true) in
    plain_form (reduced W s.narrow s.pedestal) c.args.memory x (bits s.narrow c.difference-above.result)
    (reduced-writes-near W s.narrow s.pedestal x s.most s.width.1 l k ∙ ap (λ (z : ℕ). Some (bits s.narrow z)) (sym e))

pub returns-else-above-ones : goal.returns-else-above-ones
returns-else-above-ones g c =
    let s = c.args.self.now in
    let W : ℕ = g.row.W in
    let x : ℕ = c.args.word in
    let m = s.most in
    let w = s.width.1 in
    let n : s.narrow ≤ 32 = omega arith in
    let l : x < 2 ^ W = in_width c.word_width-width.result.bits W x c.is_word.result c.word_width-width.ensures c.is_word.ensures c.if-not-is_word.false in
    let e : c.difference-above.result ≡ minus W s.pedestal x = c.difference-above.ensures ∙ ap (λ z. minus z s.pedestal x) c.word_width-width.ensures in
    let k : 2 ^ s.narrow - 1 ≤ minus W s.pedestal x = omega (arith, e, ones s.narrow n, c.if-above-ones.false) in
    plain_form (reduced W s.narrow s.pedestal) c.args.memory x _
    (reduced-writes-far W s.narrow s.pedestal x s.most s.width.1 l k ∙ ap (λ (z : ℕ). Some (bits (s.narrow + W) z)) (sym (joined W s.narrow x (omega arith) n l)))
