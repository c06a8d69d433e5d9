use Rattle.std.proofs.Common.{ℕ, sym, ap, ◌∙◌}
use Rattle.faults.specs.Faults.{answered}
use Rattle.forms.proofs.Blocks.{apart}
use Rattle.blocks.specs.Blocks.{bytes_per}
use Rattle.blocks.proofs.Exact.{packed-back}
use Rattle.blocks.proofs.block.pack.Goals as goal

pub returns : goal.returns
returns g c =
    let C = g.C.Coder.coding c.args.coder.now in
    let K = g.C.Coder.sound c.args.coder.now in
    let k : ℕ = bytes_per (g.C.Coder.wide c.args.coder.now) in
    record {
      answer = c.pack_words.ensures.answer;
      bytes = c.pack_words.ensures.bytes;
      apart = apart C K;
      back = λ n e. packed-back k C K c.args.raw.now c.args.out.now c.pack_words.new.out n (sym (ap (answered (λ z. z)) e) ∙ c.pack_words.ensures.answer) c.pack_words.ensures.bytes;
      most = c.pack_words.ensures.most;
    }
