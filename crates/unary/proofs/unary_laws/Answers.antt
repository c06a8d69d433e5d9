use Rattle.unary.proofs.unary_laws.Goals as goal

pub returns : goal.returns
returns c = c.coder_laws.ensures (record {})
