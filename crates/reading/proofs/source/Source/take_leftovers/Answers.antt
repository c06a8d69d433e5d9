use Rattle.std.proofs.Common.{arith}
use Rattle.bits.specs.Bits.{bits_of}
use Rattle.format.specs.Cells.{File}
use Rattle.reading.specs.Blocks.{closing_of}
use Rattle.reading.proofs.Looks.{fault-is, taking-small}
use Rattle.reading.proofs.Steps.{passed, with-is}
use Rattle.reading.proofs.Closings.{no-count, zero-count, no-leftovers, leftovers}
use Rattle.reading.proofs.source.Source.take_leftovers.Goals as goal

pub returns-in_err-count : goal.returns-in_err-count
returns-in_err-count c l =
    let f : File = bits_of c.args.self.bytes.now in
    passed (closing_of f) _ _ _ c.from_residual.ensures.1 (no-count f c.args.at.bits l (c.in_err-count.ensures l))

pub returns-then-count-eq0 : goal.returns-then-count-eq0
returns-then-count-eq0 c l =
    fault-is c.at.ensures
    (zero-count (bits_of c.args.self.bytes.now) c.args.at.bits l (c.in_ok-count.ensures l) c.if-count-eq0.true)

pub take_block-requires : goal.take_block-requires
take_block-requires c =
    let t = c.in_ok-count.count in
    let small = taking-small 32 3 (bits_of c.args.self.bytes.now) c.args.at.bits 0 t.value t.end.at.bits t.end.last.bits (c.in_ok-count.ensures 0) in
    (omega (arith, c.if-count-eq0.false), omega (arith, small))

pub returns-in_err-leftovers : goal.returns-in_err-leftovers
returns-in_err-leftovers c l =
    let f : File = bits_of c.args.self.bytes.now in
    passed (closing_of f) _ _ _ c.from_residual-in_err-leftovers.ensures.1
    (no-leftovers f c.args.at.bits l (c.in_ok-count.ensures l) (omega (arith, c.if-count-eq0.false)) (c.in_err-leftovers.ensures _))

pub returns : goal.returns
returns c l =
    let f : File = bits_of c.args.self.bytes.now in
    with-is (closing_of f) c.with.ensures (leftovers f c.args.at.bits l (c.in_ok-count.ensures l) (omega (arith, c.if-count-eq0.false)) (c.in_ok-leftovers.ensures _))
