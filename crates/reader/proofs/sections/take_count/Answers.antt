use Rattle.std.proofs.Common.{ℕ, arith}
use Rattle.bits.specs.Bits.{bits_of}
use Rattle.format.specs.Cells.{File}
use Rattle.calls.specs.Calls.{flags}
use Rattle.reading.proofs.Looks.{fault-is}
use Rattle.reading.proofs.Steps.{passed, with-is}
use Rattle.reader.proofs.Heads.{count-single, count-not, count-off, count-on}
use Rattle.reader.proofs.sections.take_count.Goals as goal

pub returns-then-flags-clause-count : goal.returns-then-flags-clause-count
returns-then-flags-clause-count c = count-single (flags c.args.flags) (bits_of c.args.source.bytes.now) c.args.from.at.bits c.args.from.last.bits c.if-flags.true

pub returns-in_err-count-clause-count : goal.returns-in_err-count-clause-count
returns-in_err-count-clause-count c =
    let f : File = bits_of c.args.source.bytes.now in
    passed (λ n. n) _ _ _ c.from_residual.ensures.1
    (count-not (flags c.args.flags) f c.args.from.at.bits c.args.from.last.bits c.if-flags.false (c.in_err-count.ensures c.args.from.last.bits))

pub returns-then-rows-eq0-clause-count : goal.returns-then-rows-eq0-clause-count
returns-then-rows-eq0-clause-count c =
    fault-is c.at.ensures
    (count-off (flags c.args.flags) (bits_of c.args.source.bytes.now) c.args.from.at.bits c.args.from.last.bits c.if-flags.false (c.in_ok-count.ensures c.args.from.last.bits) c.then-rows-eq0.either)

pub returns-clause-count : goal.returns-clause-count
returns-clause-count c =
    with-is (λ (n : ℕ). n) c.with.ensures
    (count-on (flags c.args.flags) (bits_of c.args.source.bytes.now) c.args.from.at.bits c.args.from.last.bits c.if-flags.false (c.in_ok-count.ensures c.args.from.last.bits) (omega (arith, c.if-rows-eq0.false)) c.if-rows-gt-MOST_CHANNELS.false)
