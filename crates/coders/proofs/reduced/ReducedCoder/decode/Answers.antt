use Rattle.std.proofs.Common.{◌≡◌, ℕ, ◌+◌, ◌-◌, ◌*◌, ◌/◌, ◌%◌, ◌^◌, ◌<◌, ◌≤◌, Some, sym, ap, ◌∙◌, arith}
use Rattle.bits.specs.Bits.{bits}
use Rattle.forms.specs.Code.{form}
use Rattle.forms.specs.Coders.{minus, plus, reduced}
use Rattle.forms.proofs.Plain.{plain_word, plain-dead, plain-partial}
use Rattle.forms.proofs.Reading.{reduced-few, reduced-near, reduced-part, reduced-far, reduced-dead}
use lib.Bits.{bit_and}
use Rattle.coders.proofs.Machine.{ones, mask, plus-at, minus-at}
use Rattle.coders.proofs.reduced.ReducedCoder.decode.Goals as goal

pub returns-then-window-self : goal.returns-then-window-self
returns-then-window-self g c =
    let s = c.args.self.now in
    let a = c.args.window in
    plain-partial (reduced g.row.W s.narrow s.pedestal) c.args.memory (bits a.len a.bits) (reduced-few g.row.W s.narrow s.pedestal a.len a.bits c.if-window-self.true)

pub returns-then-above-ones : goal.returns-then-above-ones
returns-then-above-ones g c =
    let s = c.args.self.now in
    let W : ℕ = g.row.W in
    let R : ℕ = s.narrow in
    let a = c.args.window in
    let x : ℕ = a.bits in
    let n : R ≤ 32 = let i = s.most in let j = s.width.1 in omega arith in
    let m = mask R x n in
    let l : x % 2 ^ R < 2 ^ R - 1 = omega (arith, m, ones R n, c.if-above-ones.true) in
    let e : c.sum.result ≡ plus W s.pedestal (x % 2 ^ R) = plus-at c.word_width-width.result.bits W s.pedestal (bit_and x ((1 * 2 ^ R) % 2 ^ 64 - 1)) (x % 2 ^ R) c.sum.result c.word_width-width.ensures m c.sum.ensures in
    plain_word (reduced W R s.pedestal) c.args.memory (bits a.len x) c.sum.result R
    (reduced-near W R s.pedestal a.len x c.if-window-self.false l ∙ ap (λ (z : ℕ). form (Some z) R) (sym e))

pub returns-then-window-len : goal.returns-then-window-len
returns-then-window-len g c =
    let s = c.args.self.now in
    let R : ℕ = s.narrow in
    let a = c.args.window in
    let x : ℕ = a.bits in
    let n : R ≤ 32 = let i = s.most in let j = s.width.1 in omega arith in
    let l : 2 ^ R - 1 ≤ x % 2 ^ R = omega (arith, mask R x n, ones R n, c.if-above-ones.false) in
    plain-partial (reduced g.row.W R s.pedestal) c.args.memory (bits a.len x)
    (reduced-part g.row.W R s.pedestal a.len x c.if-window-self.false c.if-window-len.true l)

pub returns-then-difference-ones : goal.returns-then-difference-ones
returns-then-difference-ones g c =
    let s = c.args.self.now in
    let W : ℕ = g.row.W in
    let R : ℕ = s.narrow in
    let a = c.args.window in
    let x : ℕ = a.bits in
    let n : R ≤ 32 = let i = s.most in let j = s.width.1 in omega arith in
    let o = ones R n in
    let l : 2 ^ R - 1 ≤ x % 2 ^ R = omega (arith, mask R x n, o, c.if-above-ones.false) in
    let v = mask W (x / 2 ^ R) s.width.1 in
    let d : c.difference.result ≡ minus W s.pedestal ((x / 2 ^ R) % 2 ^ W) = minus-at c.word_width-width.result.bits W s.pedestal (bit_and (x / 2 ^ R) ((1 * 2 ^ W) % 2 ^ 64 - 1)) ((x / 2 ^ R) % 2 ^ W) c.difference.result c.word_width-width.ensures v c.difference.ensures in
    let k : minus W s.pedestal ((x / 2 ^ R) % 2 ^ W) < 2 ^ R - 1 = omega (arith, d, o, c.if-difference-ones.true) in
    plain-dead (reduced W R s.pedestal) c.args.memory (bits a.len x) (R + W) (reduced-dead W R s.pedestal a.len x c.if-window-len.false l k)

pub returns : goal.returns
returns g c =
    let s = c.args.self.now in
    let W : ℕ = g.row.W in
    let R : ℕ = s.narrow in
    let a = c.args.window in
    let x : ℕ = a.bits in
    let n : R ≤ 32 = let i = s.most in let j = s.width.1 in omega arith in
    let o = ones R n in
    let l : 2 ^ R - 1 ≤ x % 2 ^ R = omega (arith, mask R x n, o, c.if-above-ones.false) in
    let v = mask W (x / 2 ^ R) s.width.1 in
    let d : c.difference.result ≡ minus W s.pedestal ((x / 2 ^ R) % 2 ^ W) = minus-at c.word_width-width.result.bits W s.pedestal (bit_and (x / 2 ^ R) ((1 * 2 ^ W) % 2 ^ 64 - 1)) ((x / 2 ^ R) % 2 ^ W) c.difference.result c.word_width-width.ensures v c.difference.ensures in
    let k : 2 ^ R - 1 ≤ minus W s.pedestal ((x / 2 ^ R) % 2 ^ W) = omega (arith, d, o, c.if-difference-ones.false) in
    plain_word (reduced W R s.pedestal) c.args.memory (bits a.len x) _ (R + W)
    (reduced-far W R s.pedestal a.len x c.if-window-len.false l k ∙ ap (λ (z : ℕ). form (Some z) (R + W)) (sym v))
