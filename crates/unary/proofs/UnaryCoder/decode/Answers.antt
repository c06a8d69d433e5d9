use Rattle.std.proofs.Common.{◌≡◌, ℕ, ◌/◌, ◌%◌, ◌^◌, ◌<◌, true, false, Some, None, sym, ap, ◌∙◌, arith}
use lib.Bits.{bit_and, and_mask}
use Rattle.bits.specs.Bits.{bits}
use Rattle.forms.specs.Code.{form, short}
use Rattle.forms.proofs.Reading.{null-few, null-reads}
use Rattle.unary.proofs.Walks.{reads, rest, none_yet, one_more, small, ended, large-ended, large-alive, large-dead, is-small, is-large}
use Rattle.unary.proofs.UnaryCoder.decode.Goals as goal

pub returns-then-window-lt4 : goal.returns-then-window-lt4
returns-then-window-lt4 c =
    let a = c.args.window in
    reads c.args.memory true (bits a.len a.bits) short c.if-memory.true (null-few 4 a.len a.bits c.if-window-lt4.true)

pub returns-then-memory : goal.returns-then-memory
returns-then-memory c =
    let a = c.args.window in
    reads c.args.memory true (bits a.len a.bits) (form (Some (bit_and a.bits 15)) 4) c.if-memory.true
    (null-reads 4 a.len a.bits c.if-window-lt4.false ∙ ap (λ (x : ℕ). form (Some x) 4) (sym (and_mask a.bits 4)))

pub loop-ones-init : goal.loop-ones-init
loop-ones-init c = none_yet c.args.window.len c.args.window.bits

pub returns-then-window-ones : goal.returns-then-window-ones
returns-then-window-ones c =
    let a = c.args.window in
    let n = c.loop-ones.ones in
    reads c.args.memory false (bits a.len a.bits) short c.if-memory.false
    (c.loop-ones.invariant ∙ ended a.len a.bits n c.loop-ones-test.true c.if-window-ones.true)

pub returns-then-window-ones-eq0 : goal.returns-then-window-ones-eq0
returns-then-window-ones-eq0 c =
    let a = c.args.window in
    let n = c.loop-ones.ones in
    let z : (a.bits / 2 ^ n) % 2 ≡ 0 = sym (and_mask (a.bits / 2 ^ n) 1) ∙ c.if-window-ones-eq0.true in
    is-small n _ c.loop-ones-test.true
    ∙ reads c.args.memory false (bits a.len a.bits) _ c.if-memory.false
    (c.loop-ones.invariant ∙ small a.len a.bits n c.loop-ones-test.true c.if-window-ones.false z)

pub loop-ones-preserved : goal.loop-ones-preserved
loop-ones-preserved c =
    let a = c.args.window in
    let n = c.loop-ones.ones in
    let m = and_mask (a.bits / 2 ^ n) 1 in
    let o : (a.bits / 2 ^ n) % 2 ≡ 1 = omega (arith, m, c.if-window-ones-eq0.false) in
    c.loop-ones.invariant ∙ one_more a.len a.bits n c.loop-ones-test.true c.if-window-ones.false o

pub returns-then-window-lt11 : goal.returns-then-window-lt11
returns-then-window-lt11 c =
    let a = c.args.window in
    let e : c.loop-ones.ones ≡ 7 = omega arith in
    reads c.args.memory false (bits a.len a.bits) short c.if-memory.false
    (c.loop-ones.invariant ∙ ap (rest a.len a.bits) e ∙ large-ended a.len a.bits c.if-window-lt11.true)

pub returns-then-word-lt7 : goal.returns-then-word-lt7
returns-then-word-lt7 c =
    let a = c.args.window in
    let e : c.loop-ones.ones ≡ 7 = omega arith in
    let d : (a.bits / 128) % 16 < 7 = omega (arith, and_mask (a.bits / 128) 4, c.if-word-lt7.true) in
    reads c.args.memory false (bits a.len a.bits) (form None 11) c.if-memory.false
    (c.loop-ones.invariant ∙ ap (rest a.len a.bits) e ∙ large-dead a.len a.bits c.if-window-lt11.false d)

pub returns : goal.returns
returns c =
    let a = c.args.window in
    let e : c.loop-ones.ones ≡ 7 = omega arith in
    let d : ℕ = bit_and (a.bits / 128) 15 in
    is-large d _ c.if-word-lt7.false
    ∙ reads c.args.memory false (bits a.len a.bits) _ c.if-memory.false
    (c.loop-ones.invariant ∙ ap (rest a.len a.bits) e ∙ large-alive a.len a.bits d c.if-window-lt11.false (and_mask (a.bits / 128) 4) c.if-word-lt7.false)
