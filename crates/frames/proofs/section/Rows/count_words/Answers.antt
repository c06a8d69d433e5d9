use Rattle.std.proofs.Common.{Some, None, ◌∙◌, arith}
use Rattle.calls.specs.Calls.{settings}
use Rattle.frames.proofs.Steps.{frame-some, left-within, few_words, counted}
use Rattle.frames.proofs.section.Rows.count_words.Goals as goal

pub nonzero_rem-raw : goal.nonzero_rem-raw
nonzero_rem-raw c = omega (arith, (frame-some (settings c.args.self.table.now) c.args.self.countable).0, c.frame-frame.ensures.bytes)

pub words_within-requires : goal.words_within-requires
words_within-requires c =
    let h = c.args.self.countable in
    left-within (settings c.args.self.table.now) c.args.raw c.frame-frame.result.bytes h c.frame-frame.ensures.bytes

pub nonzero_div-result : goal.nonzero_div-result
nonzero_div-result c = omega (arith, (frame-some (settings c.args.self.table.now) c.args.self.countable).0, c.frame-frame.ensures.bytes)

pub overflow_mul-result : goal.overflow_mul-result
overflow_mul-result c =
    let (a, _) = few_words (settings c.args.self.table.now) c.args.raw c.frame-frame.result.words c.frame-frame.result.bytes c.in_ok-words.words c.args.self.countable
    c.frame-frame.ensures.words c.frame-frame.ensures.bytes c.in_ok-words.ensures in
    omega (arith, a, c.ranges.raw.fits)

pub overflow_add-result : goal.overflow_add-result
overflow_add-result c =
    let (_, b) = few_words (settings c.args.self.table.now) c.args.raw c.frame-frame.result.words c.frame-frame.result.bytes c.in_ok-words.words c.args.self.countable
    c.frame-frame.ensures.words c.frame-frame.ensures.bytes c.in_ok-words.ensures in
    omega (arith, b, c.ranges.raw.fits)

pub returns : goal.returns
returns c =
    counted (settings c.args.self.table.now) c.args.raw c.frame-frame.result.words c.frame-frame.result.bytes (Some c.in_ok-words.words) c.args.self.countable
    c.frame-frame.ensures.words c.frame-frame.ensures.bytes c.in_ok-words.ensures

pub returns-in_err-words : goal.returns-in_err-words
returns-in_err-words c =
    c.from_residual.ensures ∙ counted (settings c.args.self.table.now) c.args.raw c.frame-frame.result.words c.frame-frame.result.bytes None c.args.self.countable
    c.frame-frame.ensures.words c.frame-frame.ensures.bytes c.in_err-words.ensures
