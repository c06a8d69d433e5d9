use Rattle.std.proofs.Common.{ℕ, List, drop, ap, ◌∙◌, arith}
use Rattle.bits.specs.Bits.{bits_of}
use Rattle.format.specs.Cells.{File}
use Rattle.format.specs.Format.{got}
use Rattle.layout.specs.Slim.{ended}
use Rattle.reading.specs.Blocks.{closing_of}
use Rattle.reading.proofs.Looks.{fault-is}
use Rattle.reading.proofs.Steps.{passed, with-is}
use Rattle.reading.proofs.Closings.{no-tag, bad-tag, goes_on-is, ends, ends_with, other_tag, no_bytes}
use Rattle.reading.proofs.source.Source.take_closing.Goals as goal

pub returns-in_err-tag : goal.returns-in_err-tag
returns-in_err-tag c l =
    let f : File = bits_of c.args.self.bytes.now in
    passed (closing_of f) _ _ _ c.from_residual.ensures.1 (no-tag f c.args.at.bits l (c.in_err-tag.ensures l))

pub returns-in-8 : goal.returns-in-8
returns-in-8 c l =
    let f : File = bits_of c.args.self.bytes.now in
    with-is (closing_of f) c.with.ensures (goes_on-is f c.args.at.bits l (c.in_ok-tag.ensures l) c.in-8.is)

pub returns-in-15 : goal.returns-in-15
returns-in-15 c l =
    let f : File = bits_of c.args.self.bytes.now in
    let t = c.in_ok-tag.tag in
    with-is (closing_of f) c.with-in-15.ensures
    (ap (λ (bs : List ℕ). got (ended bs) t.end.at.bits t.end.last.bits) (no_bytes (drop t.end.at.bits f)) ∙ ends f c.args.at.bits l (c.in_ok-tag.ensures l) c.in-15.is)

pub returns-in-14 : goal.returns-in-14
returns-in-14 c l = ends_with (bits_of c.args.self.bytes.now) c.args.at.bits l (c.in_ok-tag.ensures l) c.in-14.is (c.take_leftovers.ensures _)

pub returns-in_default : goal.returns-in_default
returns-in_default c l =
    fault-is c.at.ensures
    (bad-tag (bits_of c.args.self.bytes.now) c.args.at.bits l (c.in_ok-tag.ensures l)
    (other_tag c.in_ok-tag.tag.value (λ h. omega arith) (λ h. omega arith) (λ h. omega arith)))
