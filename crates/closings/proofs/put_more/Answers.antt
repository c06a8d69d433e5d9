use Rattle.std.proofs.Common.{ℕ, List, length, ap, ◌∙◌, arith}
use Rattle.layout.specs.Slim.{another}
use Rattle.closings.specs.Closings.{padded_bits, closing_end, closing_bytes}
use Rattle.closings.proofs.Padded.{more-padded, end_by, bytes-by}
use Rattle.closings.proofs.put_more.Goals as goal

pub returns : goal.returns
returns c =
    let b : List ℕ = c.args.buffer.now in
    let at : ℕ = c.bits-at.result in
    let e = more-padded at in
    record {
      place = c.put_padded.ensures.place ∙ end_by at (length b) another (padded_bits at 8 4) c.if-buffer-gt-MOST_BYTES.false (omega arith) e ∙ ap (λ z. closing_end z another (length b)) c.bits-at.ensures;
      bytes = c.put_padded.ensures.bytes ∙ bytes-by at b another (padded_bits at 8 4) c.if-buffer-gt-MOST_BYTES.false (omega arith) e ∙ ap (λ z. closing_bytes z another b) c.bits-at.ensures;
    }
