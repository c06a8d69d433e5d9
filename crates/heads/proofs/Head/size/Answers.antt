use Rattle.std.proofs.Common.{ℕ, cond, option_copied, arith, ap}
use Rattle.calls.specs.Calls.{marks}
use Rattle.calls.proofs.Chains.{head_length, head-length}
use Rattle.heads.specs.declared.Head.{Head}
use Rattle.heads.proofs.Head.size.Goals as goal
use Rattle.heads.proofs.Head.size.Goals.{then-self, else-self}

pub returns : goal.returns
unfolding head_length
returns c =
    let h : Head = c.args.self.now in
    let l = head-length h.stamp (marks h.flags) (option_copied h.name) (option_copied h.extra) 0 in
    elim c.if-self.branch [
      | then-self w ↦ let e = ap {B = ℕ} (λ t. cond t 32 0) w.if-self.true in omega arith
      | else-self w ↦ let e = ap {B = ℕ} (λ t. cond t 32 0) w.if-self.false in omega arith
    ]
