use Rattle.std.proofs.Common.{arith}
use Rattle.reading.proofs.Looks.{fault-is}
use Rattle.reader.proofs.Closings.{padding-on, padding-not}
use Rattle.reader.proofs.ends.take_padding.Goals as goal

pub returns-then-bits-source : goal.returns-then-bits-source
returns-then-bits-source c = fault-is c.at.ensures (padding-not c.args.source.bytes.now c.args.from.at.bits c.args.from.last.bits c.whole_byte.result.bytes c.first_bit-at.result.bits c.args.source.small c.whole_byte.ensures c.first_bit-at.ensures (omega (arith, c.if-bits-source.true, c.bits.ensures)))

pub returns : goal.returns
returns c = padding-on c.args.source.bytes.now c.args.from.at.bits c.args.from.last.bits c.whole_byte.result.bytes c.first_bit-at.result.bits c.args.source.small c.whole_byte.ensures c.first_bit-at.ensures (omega (arith, c.if-bits-source.false, c.bits.ensures))
