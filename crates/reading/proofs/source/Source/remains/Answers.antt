use Rattle.std.proofs.Common.{◌∙◌, arith}
use Rattle.std.proofs.lemmas.Bool.{le-ltb}
use Rattle.reading.proofs.Looks.{none_left, few_or_enough}
use Rattle.reading.proofs.source.Source.remains.Goals as goal

pub returns-then-bits-end : goal.returns-then-bits-end
returns-then-bits-end c = few_or_enough c.args.self.bytes.now c.args.at.bits c.args.count c.bits-then-bits-end.result (c.bits-then-bits-end.ensures ∙ c.plus.ensures) c.args.self.small

pub returns-else-bits-end : goal.returns-else-bits-end
returns-else-bits-end c = le-ltb _ _ c.if-bits-end.false ∙ none_left c.args.self.bytes.now c.args.at.bits c.args.count (omega arith) c.requires
