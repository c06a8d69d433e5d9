use Rattle.std.proofs.Common.{◌≡◌, sym, ap, ◌∙◌, arith}
use Rattle.bits.specs.Bits.{bits_of}
use Rattle.format.specs.Format.{got}
use Rattle.reading.specs.Blocks.{closing_of}
use Rattle.reading.proofs.Looks.{fault-is}
use Rattle.reader.specs.Sections.{head_in}
use Rattle.reader.specs.Counts.{outline_in}
use Rattle.reader.specs.Walks.{Standing, standing}
use Rattle.reader.proofs.Sound.{head-sound}
use Rattle.reader.proofs.Walks.{stopped, next-is, next-not, next-no-head, rest-read, rest-bounds}
use Rattle.reader.proofs.walk.Walk.pass.Goals as goal

pub returns-then-self-ge-MOST_SECTIONS-clause-section : goal.returns-then-self-ge-MOST_SECTIONS-clause-section
returns-then-self-ge-MOST_SECTIONS-clause-section c l = fault-is c.at.ensures (next-not (standing c.args.self.now) l c.if-self-ge-MOST_SECTIONS.true)

pub returns-in_err-opening-clause-section : goal.returns-in_err-opening-clause-section
returns-in_err-opening-clause-section c l =
    let s : Standing = standing c.args.self.now in
    stopped (outline_in (bits_of s.file)) (standing c.open.new.self) _ _ _ c.from_residual.ensures.1
    (next-no-head s l c.if-self-ge-MOST_SECTIONS.false (c.in_err-opening.ensures.head l))

pub pass_rest-requires : goal.pass_rest-requires
pass_rest-requires c =
    let s : Standing = standing c.args.self.now in
    let o = c.in_ok-opening.opening in
    (head-sound s.flags s.raw (bits_of s.file) s.place 0 (head_in c.open.new.self.rows o.value) o.end.at.bits o.end.last.bits (sym (c.in_ok-opening.ensures.head 0))).0

pub returns-in_err-passed-clause-section : goal.returns-in_err-passed-clause-section
returns-in_err-passed-clause-section c l =
    let s : Standing = standing c.args.self.now in
    let o = c.in_ok-opening.opening in
    stopped (outline_in (bits_of s.file)) (standing c.open.new.self) _ _ _ c.from_residual-in_err-passed.ensures.1
    (rest-read s l (standing c.open.new.self) c.in_ok-opening.ensures.stays (head_in c.open.new.self.rows o.value) o.end.at.bits o.end.last.bits (c.in_ok-opening.ensures.head l) _ c.in_err-passed.ensures
    ∙ next-is s l c.if-self-ge-MOST_SECTIONS.false)

pub overflow_add-self-2 : goal.overflow_add-self-2
overflow_add-self-2 c =
    let s : Standing = standing c.args.self.now in
    let v : Standing = standing c.open.new.self in
    let o = c.in_ok-opening.opening in
    let x = c.in_ok-passed.passed in
    let most = rest-bounds s 0 v c.in_ok-opening.ensures.stays (head_in c.open.new.self.rows o.value) o.end.at.bits o.end.last.bits (c.in_ok-opening.ensures.head 0)
    x.value.raw x.value.words (closing_of (bits_of v.file) x.value.closing) x.end.at.bits x.end.last.bits c.if-self-ge-MOST_SECTIONS.false c.in_ok-passed.ensures in
    let raw : v.raw ≡ s.raw = ap (λ (z : Standing). z.raw) c.in_ok-opening.ensures.stays in
    omega (arith, most, raw)

pub invariant_of-self : goal.invariant_of-self
invariant_of-self c =
    let s : Standing = standing c.args.self.now in
    let v : Standing = standing c.open.new.self in
    let o = c.in_ok-opening.opening in
    let x = c.in_ok-passed.passed in
    let most = rest-bounds s 0 v c.in_ok-opening.ensures.stays (head_in c.open.new.self.rows o.value) o.end.at.bits o.end.last.bits (c.in_ok-opening.ensures.head 0)
    x.value.raw x.value.words (closing_of (bits_of v.file) x.value.closing) x.end.at.bits x.end.last.bits c.if-self-ge-MOST_SECTIONS.false c.in_ok-passed.ensures in
    let raw : v.raw ≡ s.raw = ap (λ (z : Standing). z.raw) c.in_ok-opening.ensures.stays in
    let many : v.sections ≡ s.sections = ap (λ (z : Standing). z.sections) c.in_ok-opening.ensures.stays in
    record { counted = omega (arith, many, c.if-self-ge-MOST_SECTIONS.false); few = omega (arith, most, raw) }

pub returns-clause-section : goal.returns-clause-section
returns-clause-section c l =
    let s : Standing = standing c.args.self.now in
    let v : Standing = standing c.open.new.self in
    let o = c.in_ok-opening.opening in
    let x = c.in_ok-passed.passed in
    ap (λ (z : Standing). got (outline_in (bits_of z.file) x.value) x.end.at.bits x.end.last.bits) (sym c.in_ok-opening.ensures.stays)
    ∙ rest-read s l v c.in_ok-opening.ensures.stays (head_in c.open.new.self.rows o.value) o.end.at.bits o.end.last.bits (c.in_ok-opening.ensures.head l) _ c.in_ok-passed.ensures
    ∙ next-is s l c.if-self-ge-MOST_SECTIONS.false
