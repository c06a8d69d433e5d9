use Rattle.bits.specs.Bits.{bits}
use Rattle.forms.specs.Coders.{constant}
use Rattle.forms.proofs.Reading.{constant-reads}
use Rattle.forms.proofs.Plain.{plain_word}
use Rattle.coders.proofs.constant.ConstantCoder.decode.Goals as goal

pub returns : goal.returns
returns g c =
    let s = c.args.self.now in
    let bs = bits c.args.window.len c.args.window.bits in
    plain_word (constant s.word) c.args.memory bs s.word 0 (constant-reads s.word bs)
