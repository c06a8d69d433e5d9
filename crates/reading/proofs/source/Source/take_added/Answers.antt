use Rattle.std.proofs.Common.{◌≡◌, ℕ, suc, ◌+◌, ◌<◌, eqb, sym, ap, ◌∙◌, arith}
use Rattle.bits.specs.Bits.{bits_of}
use Rattle.format.specs.Cells.{File}
use Rattle.format.specs.Format.{got}
use Rattle.reading.specs.Descriptions.{with_added}
use Rattle.channel.proofs.Named.{size-width, size_none, size_some, named_null, named-reduced, named-constant, unnamed}
use Rattle.reading.proofs.Looks.{taking-small}
use Rattle.reading.proofs.Steps.{passed, with-is}
use Rattle.reading.proofs.Describing.{word-field, is-algorithm, no-width, other-algorithm, six-not-one, reduced-not, reduced-less, reduced-on, constant-not, constant-on, nothing-on}
use Rattle.reading.proofs.source.Source.take_added.Goals as goal

pub returns-in_default : goal.returns-in_default
returns-in_default c n d b =
    let z = size_none c.args.kind c.in_default.field-0 c.in_default.ensures in
    nothing-on n d b c.args.algorithm c.args.kind (bits_of c.args.self.bytes.now) c.args.from.at.bits c.args.from.last.bits
    (no-width 0 c.args.kind c.args.algorithm 1 (sym z) (λ h. omega arith)) (no-width 0 c.args.kind c.args.algorithm 6 (sym z) (λ h. omega arith))

pub returns-in_default-try_from : goal.returns-in_default-try_from
returns-in_default-try_from c n d b =
    let (x, y) = unnamed c.args.algorithm c.in_default-try_from.field-0 c.in_default-try_from.ensures in
    nothing-on n d b c.args.algorithm c.args.kind (bits_of c.args.self.bytes.now) c.args.from.at.bits c.args.from.last.bits
    (other-algorithm c.args.kind c.args.algorithm 1 x) (other-algorithm c.args.kind c.args.algorithm 6 y)

pub returns-in-Null : goal.returns-in-Null
returns-in-Null c n d b =
    let a = named_null c.args.algorithm (rw c.in-Null.is at c.in-Ok-try_from.ensures) in
    nothing-on n d b c.args.algorithm c.args.kind (bits_of c.args.self.bytes.now) c.args.from.at.bits c.args.from.last.bits
    (other-algorithm c.args.kind c.args.algorithm 1 (λ h. omega arith)) (other-algorithm c.args.kind c.args.algorithm 6 (λ h. omega arith))

pub returns-in_err-pedestal-in-Reduced : goal.returns-in_err-pedestal-in-Reduced
returns-in_err-pedestal-in-Reduced c n d b =
    let f : File = bits_of c.args.self.bytes.now in
    let t = c.args.kind in
    let w = c.bits.result in
    let e = c.bits.ensures ∙ size-width t c.in-Ok.size c.in-Ok.ensures in
    let h : 0 < w = omega (arith, c.bits.ensures, size_some c.in-Ok.size) in
    let a = c.args.algorithm in
    let p = c.args.from.at.bits in
    let l = c.args.from.last.bits in
    passed (with_added n d b a t) _ _ _ c.from_residual.ensures.1
    (reduced-not n d b a t f p l
    (is-algorithm w t a 1 e h (named-reduced a (rw c.in-Reduced.is at c.in-Ok-try_from.ensures)))
    (word-field w t f p l _ e h (c.in_err-pedestal-in-Reduced.ensures l)))

pub returns-in_err-less-in-Reduced : goal.returns-in_err-less-in-Reduced
returns-in_err-less-in-Reduced c n d b =
    let f : File = bits_of c.args.self.bytes.now in
    let t = c.args.kind in
    let w = c.bits.result in
    let e = c.bits.ensures ∙ size-width t c.in-Ok.size c.in-Ok.ensures in
    let h : 0 < w = omega (arith, c.bits.ensures, size_some c.in-Ok.size) in
    let a = c.args.algorithm in
    let p = c.args.from.at.bits in
    let l = c.args.from.last.bits in
    passed (with_added n d b a t) _ _ _ c.from_residual-in_err-less-in-Reduced.ensures.1
    (reduced-less n d b a t f p l
    (is-algorithm w t a 1 e h (named-reduced a (rw c.in-Reduced.is at c.in-Ok-try_from.ensures)))
    (word-field w t f p l _ e h (c.in_ok-pedestal-in-Reduced.ensures l))
    (c.in_err-less-in-Reduced.ensures _))

pub overflow_add-less : goal.overflow_add-less
overflow_add-less c =
    let t = c.in_ok-less-in-Reduced.less in
    omega (arith, taking-small 32 5 (bits_of c.args.self.bytes.now) c.in_ok-pedestal-in-Reduced.pedestal.end.at.bits 0 t.value t.end.at.bits t.end.last.bits (c.in_ok-less-in-Reduced.ensures 0))

pub returns-in_ok-less-in-Reduced : goal.returns-in_ok-less-in-Reduced
returns-in_ok-less-in-Reduced c n d b =
    let f : File = bits_of c.args.self.bytes.now in
    let t = c.args.kind in
    let w = c.bits.result in
    let e = c.bits.ensures ∙ size-width t c.in-Ok.size c.in-Ok.ensures in
    let h : 0 < w = omega (arith, c.bits.ensures, size_some c.in-Ok.size) in
    let a = c.args.algorithm in
    let p = c.args.from.at.bits in
    let l = c.args.from.last.bits in
    let x = c.in_ok-less-in-Reduced.less in
    let v = c.in_ok-pedestal-in-Reduced.pedestal.value in
    let up : x.value + 1 ≡ suc x.value = omega arith in
    with-is (with_added n d b a t) c.with.ensures
    (ap (λ (r : ℕ). got (record { repeats = n; delta = eqb d 1; turn = b; algorithm = a; kind = t; narrow = r; value = v }) x.end.at.bits x.end.last.bits) up
    ∙ reduced-on n d b a t f p l
    (is-algorithm w t a 1 e h (named-reduced a (rw c.in-Reduced.is at c.in-Ok-try_from.ensures)))
    (word-field w t f p l _ e h (c.in_ok-pedestal-in-Reduced.ensures l))
    (c.in_ok-less-in-Reduced.ensures _))

pub returns-in_err-word-in-Constant : goal.returns-in_err-word-in-Constant
returns-in_err-word-in-Constant c n d b =
    let f : File = bits_of c.args.self.bytes.now in
    let t = c.args.kind in
    let w = c.bits-in-Constant.result in
    let e = c.bits-in-Constant.ensures ∙ size-width t c.in-Ok.size c.in-Ok.ensures in
    let h : 0 < w = omega (arith, c.bits-in-Constant.ensures, size_some c.in-Ok.size) in
    let a = c.args.algorithm in
    let p = c.args.from.at.bits in
    let l = c.args.from.last.bits in
    passed (with_added n d b a t) _ _ _ c.from_residual-in_err-word-in-Constant.ensures.1
    (constant-not n d b a t f p l (six-not-one t a (named-constant a (rw c.in-Constant.is at c.in-Ok-try_from.ensures)))
    (is-algorithm w t a 6 e h (named-constant a (rw c.in-Constant.is at c.in-Ok-try_from.ensures)))
    (word-field w t f p l _ e h (c.in_err-word-in-Constant.ensures l)))

pub returns-in_ok-word-in-Constant : goal.returns-in_ok-word-in-Constant
returns-in_ok-word-in-Constant c n d b =
    let f : File = bits_of c.args.self.bytes.now in
    let t = c.args.kind in
    let w = c.bits-in-Constant.result in
    let e = c.bits-in-Constant.ensures ∙ size-width t c.in-Ok.size c.in-Ok.ensures in
    let h : 0 < w = omega (arith, c.bits-in-Constant.ensures, size_some c.in-Ok.size) in
    let a = c.args.algorithm in
    let p = c.args.from.at.bits in
    let l = c.args.from.last.bits in
    with-is (with_added n d b a t) c.with-in-Constant.ensures
    (constant-on n d b a t f p l (six-not-one t a (named-constant a (rw c.in-Constant.is at c.in-Ok-try_from.ensures)))
    (is-algorithm w t a 6 e h (named-constant a (rw c.in-Constant.is at c.in-Ok-try_from.ensures)))
    (word-field w t f p l _ e h (c.in_ok-word-in-Constant.ensures l)))
