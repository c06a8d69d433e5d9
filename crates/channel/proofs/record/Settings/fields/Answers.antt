use Rattle.std.proofs.Common.{◌∙◌, arith}
use Rattle.channel.specs.Records.{described}
use Rattle.channel.proofs.Named.{size-width, size_none, named_null, named-reduced, named-constant, unnamed}
use Rattle.channel.proofs.Packing.{covered, packed-reduced, packed-constant, packed-plain}
use Rattle.channel.proofs.record.Settings.fields.Goals as goal

pub returns-in_default : goal.returns-in_default
returns-in_default c =
    let s = c.args.self.now in
    let w = size_none s.kind c.in_default.field-0 c.in_default.ensures in
    let z = covered (described s) c.requires in
    absurd (omega arith)

pub returns-in_default-try_from : goal.returns-in_default-try_from
returns-in_default-try_from c =
    let s = c.args.self.now in
    let (x, y) = unnamed s.algorithm c.in_default-try_from.field-0 c.in_default-try_from.ensures in
    packed-plain (described s) c.requires x y

pub returns-in-Null : goal.returns-in-Null
returns-in-Null c =
    let s = c.args.self.now in
    let a = named_null s.algorithm (rw c.in-Null.is at c.in-Ok-try_from.ensures) in
    packed-plain (described s) c.requires (λ i. omega arith) (λ i. omega arith)

pub returns-in-Reduced : goal.returns-in-Reduced
returns-in-Reduced c =
    let s = c.args.self.now in
    packed-reduced (described s) c.bits.result (c.bits.ensures ∙ size-width s.kind c.in-Ok.size c.in-Ok.ensures) c.requires (named-reduced s.algorithm (rw c.in-Reduced.is at c.in-Ok-try_from.ensures))

pub returns-in-Constant : goal.returns-in-Constant
returns-in-Constant c =
    let s = c.args.self.now in
    packed-constant (described s) _ (size-width s.kind c.in-Ok.size c.in-Ok.ensures) c.requires (named-constant s.algorithm (rw c.in-Constant.is at c.in-Ok-try_from.ensures))
