use Rattle.std.proofs.Common.{◌≡◌, ℕ, ◌+◌, ◌/◌, ◌%◌, List, Ok, Err, of_calls, ap, ◌∙◌, arith}
use Rattle.bits.specs.Bits.{bits_of}
use Rattle.format.specs.Cells.{File}
use Rattle.format.specs.Format.{fault}
use Rattle.layout.specs.Slim.{name_bytes, extra_bytes, flag}
use Rattle.reading.specs.Heads.{head_in, PartAt, name_place, extra_place}
use Rattle.reading.specs.declared.taken.Taken.{Taken}
use Rattle.reading.specs.declared.front.Front.{Front}
use Rattle.reading.proofs.Looks.{fault-is}
use Rattle.reading.proofs.Steps.{passed, with-is, with_ok}
use Rattle.reading.proofs.Optional.{flagged-size, size-behind, flagged-part, part-stands, name_behind}
use Rattle.reading.proofs.Fronts.{at-start, behind-flags, part_moved, no_magic, wrong_magic, no-stamp, no-flags, bad-flags, no_size, no_name, no_extra, whole-head}
use Rattle.reading.proofs.source.Source.take_head.Goals as goal

pub returns-in_err-magic-clause-head : goal.returns-in_err-magic-clause-head
returns-in_err-magic-clause-head c =
    let f : File = bits_of c.args.self.bytes.now in
    passed (head_in c.args.self.bytes.now) _ _ _ c.from_residual.ensures.1 (no_magic f (at-start f c.new-start.result.bits _ c.new-start.ensures (c.in_err-magic.ensures 0)))

pub returns-then-magic-ne-MAGIC-clause-head : goal.returns-then-magic-ne-MAGIC-clause-head
returns-then-magic-ne-MAGIC-clause-head c =
    let f : File = bits_of c.args.self.bytes.now in
    let e₁ = at-start f c.new-start.result.bits _ c.new-start.ensures (c.in_ok-magic.ensures 0) in
    fault-is c.at.ensures (ap (λ (p : ℕ). fault 12 p) c.new-start.ensures ∙ wrong_magic f e₁ c.if-magic-ne-MAGIC.true)

pub returns-in_err-stamp-clause-head : goal.returns-in_err-stamp-clause-head
returns-in_err-stamp-clause-head c =
    let f : File = bits_of c.args.self.bytes.now in
    let e₁ = at-start f c.new-start.result.bits _ c.new-start.ensures (c.in_ok-magic.ensures 0) in
    passed (head_in c.args.self.bytes.now) _ _ _ c.from_residual-in_err-stamp.ensures.1 (no-stamp f e₁ c.if-magic-ne-MAGIC.false (c.in_err-stamp.ensures _))

pub returns-in_err-flags-clause-head : goal.returns-in_err-flags-clause-head
returns-in_err-flags-clause-head c =
    let f : File = bits_of c.args.self.bytes.now in
    let e₁ = at-start f c.new-start.result.bits _ c.new-start.ensures (c.in_ok-magic.ensures 0) in
    passed (head_in c.args.self.bytes.now) _ _ _ c.from_residual-in_err-flags.ensures.1 (no-flags f e₁ c.if-magic-ne-MAGIC.false (c.in_ok-stamp.ensures _) (c.in_err-flags.ensures _))

pub returns-then-flags-ge64-clause-head : goal.returns-then-flags-ge64-clause-head
returns-then-flags-ge64-clause-head c =
    let f : File = bits_of c.args.self.bytes.now in
    let e₁ = at-start f c.new-start.result.bits _ c.new-start.ensures (c.in_ok-magic.ensures 0) in
    fault-is c.at-then-flags-ge64.ensures (bad-flags f e₁ c.if-magic-ne-MAGIC.false (c.in_ok-stamp.ensures _) (c.in_ok-flags.ensures _) c.if-flags-ge64.true)

pub returns-in_err-size-clause-head : goal.returns-in_err-size-clause-head
returns-in_err-size-clause-head c =
    let f : File = bits_of c.args.self.bytes.now in
    let e₁ = at-start f c.new-start.result.bits _ c.new-start.ensures (c.in_ok-magic.ensures 0) in
    let g : ℕ = c.in_ok-flags.flags.value in
    let size = flagged-size f (flag 0 g) c.in_ok-flags.flags.end _ (Err c.in_err-size.field-0.0) (λ e. c.in_err-size.ensures.absent (c.is_set-sized.ensures ∙ e)) (λ e. c.in_err-size.ensures.present (c.is_set-sized.ensures ∙ e)) (λ x m. search (of_calls, m)) in
    passed (head_in c.args.self.bytes.now) _ _ _ c.from_residual-in_err-size.ensures.1
    (no_size f e₁ c.if-magic-ne-MAGIC.false (c.in_ok-stamp.ensures _) (c.in_ok-flags.ensures _) c.if-flags-ge64.false size)

pub take_flagged-requires-2 : goal.take_flagged-requires-2
take_flagged-requires-2 c =
    let f : File = bits_of c.args.self.bytes.now in
    let e₁ = at-start f c.new-start.result.bits _ c.new-start.ensures (c.in_ok-magic.ensures 0) in
    let g : ℕ = c.in_ok-flags.flags.value in
    let a = behind-flags f _ _ _ _ _ _ _ _ _ e₁ (c.in_ok-stamp.ensures _) (c.in_ok-flags.ensures _) in
    let b = size-behind f (flag 0 g) c.in_ok-flags.flags.end _ (Ok c.in_ok-size.size) (λ e. c.in_ok-size.ensures.absent (c.is_set-sized.ensures ∙ e)) (λ e. c.in_ok-size.ensures.present (c.is_set-sized.ensures ∙ e)) (λ x m. search (of_calls, m)) in
    let whole : c.in_ok-size.size.end.at.bits % 8 ≡ 0 = omega (arith, a, b) in
    search whole

pub returns-in_err-name-clause-head : goal.returns-in_err-name-clause-head
returns-in_err-name-clause-head c =
    let file : List ℕ = c.args.self.bytes.now in
    let f : File = bits_of file in
    let e₁ = at-start f c.new-start.result.bits _ c.new-start.ensures (c.in_ok-magic.ensures 0) in
    let g : ℕ = c.in_ok-flags.flags.value in
    let size = flagged-size f (flag 0 g) c.in_ok-flags.flags.end _ (Ok c.in_ok-size.size) (λ e. c.in_ok-size.ensures.absent (c.is_set-sized.ensures ∙ e)) (λ e. c.in_ok-size.ensures.present (c.is_set-sized.ensures ∙ e)) (λ x m. search (of_calls, m)) in
    let name = flagged-part file (name_bytes 255) (flag 1 g) c.in_ok-size.size.end _ (Err c.in_err-name.field-0.0) (λ e. c.in_err-name.ensures.absent (c.is_set-named.ensures ∙ e)) (λ e. c.in_err-name.ensures.present (c.is_set-named.ensures ∙ e)) (λ x m. search (of_calls, m)) in
    passed (head_in file) _ _ _ c.from_residual-in_err-name.ensures.1
    (no_name f e₁ c.if-magic-ne-MAGIC.false (c.in_ok-stamp.ensures _) (c.in_ok-flags.ensures _) c.if-flags-ge64.false size name)

pub take_flagged-requires-3 : goal.take_flagged-requires-3
take_flagged-requires-3 c =
    let file : List ℕ = c.args.self.bytes.now in
    let f : File = bits_of file in
    let e₁ = at-start f c.new-start.result.bits _ c.new-start.ensures (c.in_ok-magic.ensures 0) in
    let g : ℕ = c.in_ok-flags.flags.value in
    let a = behind-flags f _ _ _ _ _ _ _ _ _ e₁ (c.in_ok-stamp.ensures _) (c.in_ok-flags.ensures _) in
    let b = size-behind f (flag 0 g) c.in_ok-flags.flags.end _ (Ok c.in_ok-size.size) (λ e. c.in_ok-size.ensures.absent (c.is_set-sized.ensures ∙ e)) (λ e. c.in_ok-size.ensures.present (c.is_set-sized.ensures ∙ e)) (λ x m. search (of_calls, m)) in
    let d = name_behind file (name_bytes 255) (flag 1 g) c.in_ok-size.size.end _ (Ok c.in_ok-name.name) (λ e. c.in_ok-name.ensures.absent (c.is_set-named.ensures ∙ e)) (λ e. c.in_ok-name.ensures.present (c.is_set-named.ensures ∙ e)) (λ x m. search (of_calls, m)) in
    let whole : c.in_ok-name.name.end.at.bits % 8 ≡ 0 = omega (arith, a, b, d) in
    search whole

pub returns-in_err-extra-clause-head : goal.returns-in_err-extra-clause-head
returns-in_err-extra-clause-head c =
    let file : List ℕ = c.args.self.bytes.now in
    let f : File = bits_of file in
    let e₁ = at-start f c.new-start.result.bits _ c.new-start.ensures (c.in_ok-magic.ensures 0) in
    let g : ℕ = c.in_ok-flags.flags.value in
    let size = flagged-size f (flag 0 g) c.in_ok-flags.flags.end _ (Ok c.in_ok-size.size) (λ e. c.in_ok-size.ensures.absent (c.is_set-sized.ensures ∙ e)) (λ e. c.in_ok-size.ensures.present (c.is_set-sized.ensures ∙ e)) (λ x m. search (of_calls, m)) in
    let name = flagged-part file (name_bytes 255) (flag 1 g) c.in_ok-size.size.end _ (Ok c.in_ok-name.name) (λ e. c.in_ok-name.ensures.absent (c.is_set-named.ensures ∙ e)) (λ e. c.in_ok-name.ensures.present (c.is_set-named.ensures ∙ e)) (λ x m. search (of_calls, m)) in
    let extra = flagged-part file extra_bytes (flag 2 g) c.in_ok-name.name.end _ (Err c.in_err-extra.field-0.0) (λ e. c.in_err-extra.ensures.absent (c.is_set-extended.ensures ∙ e)) (λ e. c.in_err-extra.ensures.present (c.is_set-extended.ensures ∙ e)) (λ x m. search (of_calls, m)) in
    passed (head_in file) _ _ _ c.from_residual-in_err-extra.ensures.1
    (no_extra f e₁ c.if-magic-ne-MAGIC.false (c.in_ok-stamp.ensures _) (c.in_ok-flags.ensures _) c.if-flags-ge64.false size name extra)

pub returns : goal.returns
returns c =
    let file : List ℕ = c.args.self.bytes.now in
    let f : File = bits_of file in
    let e₁ = at-start f c.new-start.result.bits _ c.new-start.ensures (c.in_ok-magic.ensures 0) in
    let g : ℕ = c.in_ok-flags.flags.value in
    let size = flagged-size f (flag 0 g) c.in_ok-flags.flags.end _ (Ok c.in_ok-size.size) (λ e. c.in_ok-size.ensures.absent (c.is_set-sized.ensures ∙ e)) (λ e. c.in_ok-size.ensures.present (c.is_set-sized.ensures ∙ e)) (λ x m. search (of_calls, m)) in
    let name = flagged-part file (name_bytes 255) (flag 1 g) c.in_ok-size.size.end _ (Ok c.in_ok-name.name) (λ e. c.in_ok-name.ensures.absent (c.is_set-named.ensures ∙ e)) (λ e. c.in_ok-name.ensures.present (c.is_set-named.ensures ∙ e)) (λ x m. search (of_calls, m)) in
    let extra = flagged-part file extra_bytes (flag 2 g) c.in_ok-name.name.end _ (Ok c.in_ok-extra.extra) (λ e. c.in_ok-extra.ensures.absent (c.is_set-extended.ensures ∙ e)) (λ e. c.in_ok-extra.ensures.present (c.is_set-extended.ensures ∙ e)) (λ x m. search (of_calls, m)) in
    let a = behind-flags f _ _ _ _ _ _ _ _ _ e₁ (c.in_ok-stamp.ensures _) (c.in_ok-flags.ensures _) in
    let b = size-behind f (flag 0 g) c.in_ok-flags.flags.end _ (Ok c.in_ok-size.size) (λ e. c.in_ok-size.ensures.absent (c.is_set-sized.ensures ∙ e)) (λ e. c.in_ok-size.ensures.present (c.is_set-sized.ensures ∙ e)) (λ x m. search (of_calls, m)) in
    let d = name_behind file (name_bytes 255) (flag 1 g) c.in_ok-size.size.end _ (Ok c.in_ok-name.name) (λ e. c.in_ok-name.ensures.absent (c.is_set-named.ensures ∙ e)) (λ e. c.in_ok-name.ensures.present (c.is_set-named.ensures ∙ e)) (λ x m. search (of_calls, m)) in
    let name_at = part-stands file (name_bytes 255) (flag 1 g) c.in_ok-size.size.end _ (Ok c.in_ok-name.name) (λ e. c.in_ok-name.ensures.absent (c.is_set-named.ensures ∙ e)) (λ e. c.in_ok-name.ensures.present (c.is_set-named.ensures ∙ e)) (c.in_ok-size.size.end.at.bits / 8) (λ x m. search (of_calls, m)) in
    let extra_at = part-stands file extra_bytes (flag 2 g) c.in_ok-name.name.end _ (Ok c.in_ok-extra.extra) (λ e. c.in_ok-extra.ensures.absent (c.is_set-extended.ensures ∙ e)) (λ e. c.in_ok-extra.ensures.present (c.is_set-extended.ensures ∙ e)) (c.in_ok-name.name.end.at.bits / 8 + 2) (λ x m. search (of_calls, m)) in
    record {
      head = with-is (head_in file) c.with.ensures (whole-head f e₁ c.if-magic-ne-MAGIC.false (c.in_ok-stamp.ensures _) (c.in_ok-flags.ensures _) c.if-flags-ge64.false size name extra);
      name = with_ok (λ (t : Taken Front). PartAt file (name_place t.value) t.value.name) c.with.ensures (part_moved file _ _ c.in_ok-name.name.value (omega (arith, a, b)) name_at);
      extra = with_ok (λ (t : Taken Front). PartAt file (extra_place t.value) t.value.extra) c.with.ensures (part_moved file _ _ c.in_ok-extra.extra.value (omega (arith, a, b, d)) extra_at);
    }
