use Rattle.std.proofs.Common.{◌≡◌, ℕ, ◌+◌, ◌-◌, ◌/◌, None, ◌∷◌, length, take, drop, rules}
use Rattle.bits.specs.Raw.{words_in}
use Rattle.coder.proofs.RawWords.{ended, begun}
use Rattle.coder.proofs.raw_words.RawWordsIterator.next.Goals as goal

pub returns-in_err-word-clause-steps : goal.returns-in_err-word-clause-steps
returns-in_err-word-clause-steps c =
    let s = c.args.self.now in
    let n = ended s.width.bits c.bytes-size.result c.new.result.bytes s.width.some s.width.most c.bytes-size.ensures c.new.ensures s.left.now c.in_err-word.ensures in
    rw c.from_residual.ensures (n, n)

pub returns-clause-steps : goal.returns-clause-steps
returns-clause-steps c =
    let s = c.args.self.now in
    begun s.width.bits c.bytes-size.result c.new.result.bytes s.width.some s.width.most c.bytes-size.ensures c.new.ensures s.left.now c.in_ok-word.word c.in_ok-word.ensures

pub returns-clause-goes : goal.returns-clause-goes
returns-clause-goes c =
    let s = c.args.self.now in
    let e : words_in ((s.width.bits + 7) / 8) s.left.now ≡ c.in_ok-word.word ∷ words_in ((s.width.bits + 7) / 8) (take (length s.left.now - c.bytes-size.result) (drop c.bytes-size.result s.left.now)) = begun s.width.bits c.bytes-size.result c.new.result.bytes s.width.some s.width.most c.bytes-size.ensures c.new.ensures s.left.now c.in_ok-word.word c.in_ok-word.ensures in
    search rules
