use Rattle.std.proofs.Common.{arith}
use Rattle.bits.specs.Bits.{bits_of}
use Rattle.format.specs.Cells.{File}
use Rattle.reading.proofs.Looks.{fault-is}
use Rattle.reading.proofs.Steps.{passed}
use Rattle.reader.proofs.Heads.{raw-not, raw-zero, raw-over, raw-on}
use Rattle.reader.proofs.walk.Walk.take_raw.Goals as goal

pub returns-in_err-raw : goal.returns-in_err-raw
returns-in_err-raw c l =
    let f : File = bits_of c.args.self.now.source.bytes.now in
    passed (λ v. v) _ _ _ c.from_residual.ensures.1 (raw-not c.args.self.now.raw f c.args.self.now.end.at.bits l (c.in_err-raw.ensures l))

pub returns-then-raw-eq0 : goal.returns-then-raw-eq0
returns-then-raw-eq0 c l = fault-is c.at.ensures (raw-zero c.args.self.now.raw (bits_of c.args.self.now.source.bytes.now) c.args.self.now.end.at.bits l (c.in_ok-raw.ensures l) c.if-raw-eq0.true)

pub returns-then-raw-self : goal.returns-then-raw-self
returns-then-raw-self c l =
    fault-is c.at-then-raw-self.ensures
    (raw-over c.args.self.now.raw (bits_of c.args.self.now.source.bytes.now) c.args.self.now.end.at.bits l (c.in_ok-raw.ensures l) (omega (arith, c.if-raw-eq0.false)) (omega (arith, c.if-raw-self.true, c.args.self.now.few)))

pub returns : goal.returns
returns c l =
    raw-on c.args.self.now.raw (bits_of c.args.self.now.source.bytes.now) c.args.self.now.end.at.bits l (c.in_ok-raw.ensures l) (omega (arith, c.if-raw-eq0.false)) (omega (arith, c.if-raw-self.false, c.args.self.now.few))
