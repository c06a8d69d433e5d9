use Rattle.std.proofs.Common.{length, sym, ap, ◌∙◌}
use Rattle.faults.specs.Faults.{fault}
use Rattle.blocks.specs.Blocks.{read_answer, read_bytes}
use Rattle.logger.specs.Host.{plain_channel, delta_channel}
use Rattle.logger.proofs.Settings.{ruled-delta}
use Rattle.logger.proofs.read_channel.Goals as goal

pub returns-in-1 : goal.returns-in-1
returns-in-1 c =
    let n = c.args.narrow in
    let p = c.args.pedestal in
    let i = c.in_ok-inner.inner in
    let f = c.args.block.now in
    let k = c.args.count in
    let out = c.args.out.now in
    let h = rw c.in_ok-inner.ensures.ok_part at c.new.ensures in
    let (a, b, r) = ruled-delta c.args.delta n p i.narrow i.pedestal (fault 6 0) (read_answer 2 (plain_channel n p) f k (length out)) (read_answer 2 (delta_channel n p) f k (length out)) h c.in-1.is in
    let (_, _, s) = ruled-delta c.args.delta n p i.narrow i.pedestal out (read_bytes 2 (plain_channel n p) f k out) (read_bytes 2 (delta_channel n p) f k out) h c.in-1.is in
    record {
      answer = c.read-in-1.ensures.answer ∙ ap (λ z. read_answer 2 (delta_channel z i.pedestal) f k (length out)) a ∙ ap (λ z. read_answer 2 (delta_channel n z) f k (length out)) b ∙ sym r;
      bytes = c.read-in-1.ensures.bytes ∙ ap (λ z. read_bytes 2 (delta_channel z i.pedestal) f k out) a ∙ ap (λ z. read_bytes 2 (delta_channel n z) f k out) b ∙ sym s;
      most = c.read-in-1.ensures.most;
    }
