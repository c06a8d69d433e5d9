use Rattle.std.proofs.Common.{◌≡◌, ℕ, ◌≤◌, List, length, ap, ◌∙◌, subst}
use Rattle.bits.specs.Bits.{bits_of}
use Rattle.faults.specs.Faults.{number_of}
use Rattle.format.specs.Format.{got, fault}
use Rattle.calls.specs.Calls.{flags}
use Rattle.state.specs.declared.Flags.{Flags}
use Rattle.reading.specs.Heads as heads
use Rattle.reading.specs.Heads.{head_in}
use Rattle.reader.proofs.Walks.{head-is, head-long, not_begun}
use Rattle.reader.proofs.walk.Walk.start.Goals as goal

pub returns-in_err-source : goal.returns-in_err-source
returns-in_err-source c =
    let (many, is) = c.in_err-source.ensures in
    not_begun c.args.file.now _ _ c.from_residual.ensures.1 (head-long c.args.file.now many is)

pub returns-in_err-head : goal.returns-in_err-head
returns-in_err-head c =
    let e = c.in_err-head.field-0.0 in
    let few = subst (λ (g : List ℕ). length g ≤ 16777216) c.in_ok-source.ensures c.in_ok-source.source.small in
    let head = subst (λ (g : List ℕ). fault (number_of e.kind) e.place.bits ≡ (heads.head).reads (bits_of g) 0 0) c.in_ok-source.ensures c.in_err-head.ensures.head in
    not_begun c.args.file.now _ _ c.from_residual-in_err-head.ensures.1 (head-is c.args.file.now _ few head)

pub returns : goal.returns
returns c =
    let f : List ℕ = c.args.file.now in
    let t = c.in_ok-head.head in
    let h : heads.Head = head_in f t.value in
    let few = subst (λ (g : List ℕ). length g ≤ 16777216) c.in_ok-source.ensures c.in_ok-source.source.small in
    let head = subst (λ (g : List ℕ). got (head_in g t.value) t.end.at.bits t.end.last.bits ≡ (heads.head).reads (bits_of g) 0 0) c.in_ok-source.ensures c.in_ok-head.ensures.head in (
      h,
      head-is f _ few head,
      ap (λ (g : List ℕ). record { file = g; size = h.size; flags = flags c.flags_in.result; place = t.end.at.bits; tried = t.end.last.bits; sections = 0; raw = 0 }) c.in_ok-source.ensures
          ∙ ap (λ (g : Flags). record { file = f; size = h.size; flags = flags g; place = t.end.at.bits; tried = t.end.last.bits; sections = 0; raw = 0 }) c.flags_in.ensures,
    )
