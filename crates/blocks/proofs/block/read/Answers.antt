use Rattle.blocks.proofs.Exact.{reads-exactly}
use Rattle.blocks.proofs.block.read.Goals as goal

pub returns : goal.returns
returns g c =
    record {
      answer = c.read_words.ensures.answer;
      bytes = c.read_words.ensures.bytes;
      exact = λ m. reads-exactly (g.C.Coder.coding c.args.coder.now) (g.C.Coder.sound c.args.coder.now) c.args.block.now m c.args.count;
      most = c.read_words.ensures.most;
    }
