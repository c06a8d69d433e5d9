use Rattle.fields.proofs.word.+take_by_bytes.Given as goal

abbrev pub decreases-take_by_bytes : goal.decreases-take_by_bytes
decreases-take_by_bytes l = l.count
