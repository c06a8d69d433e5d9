use Rattle.std.proofs.Common.{length, sym, ap, ◌∙◌}
use Rattle.faults.specs.Faults.{fault}
use Rattle.blocks.specs.Blocks.{pack_answer, pack_bytes}
use Rattle.logger.specs.Host.{plain_channel, delta_channel}
use Rattle.logger.proofs.Settings.{ruled-delta}
use Rattle.logger.proofs.pack_channel.Goals as goal

pub returns-in-1 : goal.returns-in-1
returns-in-1 c =
    let n = c.args.narrow in
    let p = c.args.pedestal in
    let i = c.in_ok-inner.inner in
    let raw = c.args.raw.now in
    let out = c.args.out.now in
    let h = rw c.in_ok-inner.ensures.ok_part at c.new.ensures in
    let (a, b, r) = ruled-delta c.args.delta n p i.narrow i.pedestal (fault 6 0) (pack_answer 2 (plain_channel n p) raw (length out)) (pack_answer 2 (delta_channel n p) raw (length out)) h c.in-1.is in
    let (_, _, s) = ruled-delta c.args.delta n p i.narrow i.pedestal out (pack_bytes 2 (plain_channel n p) raw out) (pack_bytes 2 (delta_channel n p) raw out) h c.in-1.is in
    record {
      answer = c.pack-in-1.ensures.answer ∙ ap (λ z. pack_answer 2 (delta_channel z i.pedestal) raw (length out)) a ∙ ap (λ z. pack_answer 2 (delta_channel n z) raw (length out)) b ∙ sym r;
      bytes = c.pack-in-1.ensures.bytes ∙ ap (λ z. pack_bytes 2 (delta_channel z i.pedestal) raw out) a ∙ ap (λ z. pack_bytes 2 (delta_channel n z) raw out) b ∙ sym s;
      most = c.pack-in-1.ensures.most;
    }
