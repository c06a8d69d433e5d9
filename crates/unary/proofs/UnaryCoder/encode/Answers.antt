use Rattle.std.proofs.Common.{◌≡◌, ℕ, ◌+◌, ◌-◌, ◌*◌, ◌%◌, ◌^◌, true, false, Some, sym, ap, ◌∙◌, arith}
use lib.Bits.{bit_or}
use Rattle.std.proofs.lemmas.Nat.{one_shl, or_shifted}
use Rattle.bits.specs.Bits.{bits}
use Rattle.forms.proofs.Reading.{null-writes}
use Rattle.unary.proofs.Walks.{writes, no_word, small-form, large-form}
use Rattle.unary.proofs.UnaryCoder.encode.Goals as goal

pub returns-then-word-ge16 : goal.returns-then-word-ge16
returns-then-word-ge16 c = no_word c.args.memory c.args.word c.if-word-ge16.true

pub returns-then-memory : goal.returns-then-memory
returns-then-memory c =
    let x = c.args.word in
    writes c.args.memory true x (bits 4 x) c.if-memory.true (null-writes 4 x (omega arith) c.if-word-ge16.false)

pub returns-then-large : goal.returns-then-large
returns-then-large c =
    let x = c.args.word in
    let e : x * 128 % 18446744073709551616 ≡ x * 128 = omega (arith, c.if-word-ge16.false) in
    let j : bit_or (x * 128 % 18446744073709551616) 127 ≡ x * 128 + 127 = ap (λ (y : ℕ). bit_or y 127) e ∙ or_shifted x 7 127 (omega arith) in
    writes c.args.memory false x _ c.if-memory.false
    (large-form x c.if-large.true c.if-word-ge16.false ∙ ap (λ (y : ℕ). Some (bits 11 y)) (sym j))

pub returns-else-large : goal.returns-else-large
returns-else-large c =
    let x = c.args.word in
    let p : (1 * 2 ^ x) % 2 ^ 64 ≡ 2 ^ x = one_shl x 64 (omega (arith, c.if-large.false)) in
    writes c.args.memory false x _ c.if-memory.false
    (small-form x c.if-large.false ∙ ap (λ (y : ℕ). Some (bits (x + 1) (y - 1))) (sym p))
