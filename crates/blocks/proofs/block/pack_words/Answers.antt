use Rattle.std.proofs.Common.{◌≡◌, ℕ, ◌+◌, ◌/◌, ◌<◌, ◌≤◌, length, Err, Some, None, sym, ap, ◌∙◌, rules, arith}
use Rattle.faults.specs.Faults.{answered}
use Rattle.bits.proofs.Raw.{length-raw_words}
use Rattle.blocks.specs.Blocks.{bytes_per}
use Rattle.blocks.proofs.Packing.{packed_none, packed-short, packed-done, faulted}
use Rattle.blocks.proofs.block.pack_words.Goals as goal

pub measure-requires : goal.measure-requires
measure-requires g c =
    let k : ℕ = bytes_per (g.C.Coder.wide c.args.coder.now) in
    let l : length c.args.raw.now / k ≤ 65536 = rw (sym c.word_size-size.ensures.size) c.if-raw-size-gt-MOST_WORDS.false in
    record { few = rw (length-raw_words k (length c.args.raw.now / k) c.args.raw.now) l }

pub returns-in_err-len : goal.returns-in_err-len
returns-in_err-len g c =
    let k : ℕ = bytes_per (g.C.Coder.wide c.args.coder.now) in
    let e : c.from_residual.result ≡ Err c.at_start-2.result = search rules in
    let m : None ≡ c.measure.result = search rules in
    let (a, b) = packed_none k c.word_size-size.result (g.C.Coder.coding c.args.coder.now) c.args.raw.now c.word_size-size.ensures.size c.if-raw-size-ne0.false c.if-raw-size-gt-MOST_WORDS.false c.args.out.now (m ∙ c.measure.ensures.bits) in
    record { answer = ap (answered (λ n. n)) e ∙ faulted c.at_start-2.result _ c.at_start-2.ensures ∙ a; bytes = b; most = rw e tt }

pub returns-then-div_ceil-out : goal.returns-then-div_ceil-out
returns-then-div_ceil-out g c =
    let k : ℕ = bytes_per (g.C.Coder.wide c.args.coder.now) in
    let m : Some c.in_ok-len.len ≡ c.measure.result = search rules in
    let l : length c.args.out.now < (c.in_ok-len.len + 7) / 8 = omega (arith, c.div_ceil.ensures, c.if-div_ceil-out.true) in
    let (a, b) = packed-short k c.word_size-size.result (g.C.Coder.coding c.args.coder.now) c.args.raw.now c.word_size-size.ensures.size c.if-raw-size-ne0.false c.if-raw-size-gt-MOST_WORDS.false c.args.out.now c.in_ok-len.len (m ∙ c.measure.ensures.bits) l in
    record { answer = faulted c.at_start-then-div_ceil-out.result _ c.at_start-then-div_ceil-out.ensures ∙ a; bytes = b; most = tt }

pub returns : goal.returns
returns g c =
    let k : ℕ = bytes_per (g.C.Coder.wide c.args.coder.now) in
    let m : Some c.in_ok-len.len ≡ c.measure.result = search rules in
    let l : (c.in_ok-len.len + 7) / 8 ≤ length c.args.out.now = omega (arith, c.div_ceil.ensures, c.if-div_ceil-out.false) in
    let (a, b) = packed-done k c.word_size-size.result (g.C.Coder.coding c.args.coder.now) c.args.raw.now c.word_size-size.ensures.size c.if-raw-size-ne0.false c.if-raw-size-gt-MOST_WORDS.false c.args.out.now c.lay.new.out c.in_ok-len.len (m ∙ c.measure.ensures.bits) l c.lay.ensures in
    record { answer = a; bytes = b; most = search rules }
