use Rattle.std.proofs.Common.{◌≡◌, ℕ, Bool, cond, List, length, replicate, None, Option, option_copied, sym, ap, ◌∙◌, arith}
use Rattle.bits.specs.Bits.{put_bits, cleared_from}
use Rattle.calls.specs.Calls.{head, begin_fault, unless}
use Rattle.writer.proofs.Begun.{zeros-behind, no-fault, head_put}
use Rattle.writer.proofs.begin.begin.Goals as goal

pub invariant_of-result-clause-place : goal.invariant_of-result-clause-place
invariant_of-result-clause-place c =
    (head_put c.args.stamp c.args.flags (option_copied c.args.name) (option_copied c.args.extra) (length c.args.buffer.now) c.put_head.result c.in_ok-at.at c.in_ok-at.ensures.ok_part c.put_head.ensures.place).1.place

pub invariant_of-result-clause-head : goal.invariant_of-result-clause-head
invariant_of-result-clause-head c =
    (head_put c.args.stamp c.args.flags (option_copied c.args.name) (option_copied c.args.extra) (length c.args.buffer.now) c.put_head.result c.in_ok-at.at c.in_ok-at.ensures.ok_part c.put_head.ensures.place).1.least

pub returns-clause-bytes : goal.returns-clause-bytes
returns-clause-bytes c =
    let b : List ℕ = c.args.buffer.now in
    let name : Option (List ℕ) = option_copied c.args.name in
    let extra : Option (List ℕ) = option_copied c.args.extra in
    let h : List Bool = head c.args.stamp c.args.flags name extra in
    let (fits, k) = head_put c.args.stamp c.args.flags (option_copied c.args.name) (option_copied c.args.extra) (length c.args.buffer.now) c.put_head.result c.in_ok-at.at c.in_ok-at.ensures.ok_part c.put_head.ensures.place in
    let o : begin_fault name extra h (length b) ≡ None = no-fault name extra h (length b) fits in
    let at : c.first_bit.result.bits ≡ length h = c.first_bit.ensures ∙ omega (arith, k.bits, k.limit, k.place) in
    let w : c.clear_from.new.buffer ≡ put_bits (replicate (length b) 0) 0 h =
    c.clear_from.ensures
    ∙ ap (λ z. cleared_from c.put_head.new.buffer z) at
    ∙ ap (λ z. cleared_from z (length h)) (c.put_head.ensures.bytes ∙ ap (λ t. cond t (put_bits b 0 h) b) fits)
    ∙ zeros-behind b h (omega (arith, k.bits, k.place)) in
    w ∙ sym (ap (λ o. unless o b (put_bits (replicate (length b) 0) 0 h)) o)
