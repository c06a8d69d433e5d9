use Rattle.std.proofs.Common.{◌≡◌, ℕ, List, [], length, ap, ◌∙◌, arith}
use Rattle.std.proofs.lemmas.List.{nil_from_length}
use Rattle.std.proofs.lemmas.Bool.Decides.{nat_tests}
use Rattle.layout.specs.Slim.{ended}
use Rattle.calls.specs.Parts.{closing_bits}
use Rattle.closings.specs.Closings.{padded_bits, closing_end, closing_bytes}
use Rattle.closings.proofs.Padded.{end-padded, end_by, bytes-by}
use Rattle.closings.proofs.put_end.Goals as goal

pub returns-then-is_empty : goal.returns-then-is_empty
returns-then-is_empty c =
    let b : List ℕ = c.args.buffer.now in
    let at : ℕ = c.bits-at.result in
    let ls : List ℕ = c.args.leftovers.now in
    let k : length ls ≡ 0 = grind (arith, nat_tests) in
    let z : ls ≡ [] = nil_from_length ls k in
    let e : closing_bits at (ended ls) ≡ padded_bits at 15 4 = ap (λ l. closing_bits at (ended l)) z ∙ end-padded at in
    record {
      place = c.put_padded.ensures.place ∙ end_by at (length b) (ended ls) (padded_bits at 15 4) c.if-buffer-gt-MOST_BYTES.false (omega (arith, k)) e ∙ ap (λ z. closing_end z (ended ls) (length b)) c.bits-at.ensures;
      bytes = c.put_padded.ensures.bytes ∙ bytes-by at b (ended ls) (padded_bits at 15 4) c.if-buffer-gt-MOST_BYTES.false (omega (arith, k)) e ∙ ap (λ z. closing_bytes z (ended ls) b) c.bits-at.ensures;
    }
