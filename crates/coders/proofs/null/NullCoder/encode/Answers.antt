use Rattle.bits.specs.Bits.{bits}
use Rattle.forms.specs.Coders.{null}
use Rattle.forms.proofs.Coders.{null-rules}
use Rattle.forms.proofs.Plain.{plain_form, plain-none}
use Rattle.forms.proofs.Rules.{form_of-over}
use Rattle.forms.proofs.Reading.{null-writes}
use Rattle.coders.proofs.Machine.{in_width, past-width}
use Rattle.coders.proofs.null.NullCoder.encode.Goals as goal

pub returns-then-not-is_word : goal.returns-then-not-is_word
returns-then-not-is_word g c =
    let h = past-width c.word_width.result.bits g.row.W c.args.word c.is_word.result c.word_width.ensures c.is_word.ensures c.if-not-is_word.true in
    plain-none (null g.row.W) c.args.memory c.args.word (form_of-over (null g.row.W) (null-rules g.row.W c.args.self.now.width.1) c.args.word h)

pub returns : goal.returns
returns g c =
    let h = in_width c.word_width.result.bits g.row.W c.args.word c.is_word.result c.word_width.ensures c.is_word.ensures c.if-not-is_word.false in
    plain_form (null g.row.W) c.args.memory c.args.word (bits g.row.W c.args.word) (null-writes g.row.W c.args.word c.args.self.now.width.1 h)
