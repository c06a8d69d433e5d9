use Rattle.std.proofs.Common.{sym, ◌∙◌, arith}
use Rattle.std.proofs.lemmas.Bool.Decides.{nat_tests}
use Rattle.channel.specs.Records.{described}
use Rattle.channel.proofs.Describing.{fields-length, fields-plain}
use Rattle.channel.proofs.Named.{size-width, size_none, named_null, named-reduced, named-constant, unnamed}
use Rattle.channel.proofs.record.Settings.fields_len.Goals as goal

pub returns-in_default-clause-len : goal.returns-in_default-clause-len
returns-in_default-clause-len c =
    let w = size_none c.args.self.now.kind c.in_default.field-0 c.in_default.ensures in
    let l = fields-length (described c.args.self.now) 0 (sym w) in
    grind (arith, nat_tests)

pub returns-in_default-try_from-clause-len : goal.returns-in_default-try_from-clause-len
returns-in_default-try_from-clause-len c =
    let s = c.args.self.now in
    let (x, y) = unnamed s.algorithm c.in_default-try_from.field-0 c.in_default-try_from.ensures in
    sym (fields-plain (described s) x y)

pub returns-in-Null-clause-len : goal.returns-in-Null-clause-len
returns-in-Null-clause-len c =
    let s = c.args.self.now in
    let a = named_null s.algorithm (rw c.in-Null.is at c.in-Ok-try_from.ensures) in
    sym (fields-plain (described s) (λ i. omega arith) (λ i. omega arith))

pub returns-in-Reduced-clause-len : goal.returns-in-Reduced-clause-len
returns-in-Reduced-clause-len c =
    let s = c.args.self.now in
    let e = size-width s.kind c.in-Ok.size c.in-Ok.ensures in
    let a = named-reduced s.algorithm (rw c.in-Reduced.is at c.in-Ok-try_from.ensures) in
    let l = fields-length (described s) c.bits.result (c.bits.ensures ∙ e) in
    grind (arith, nat_tests)

pub returns-in-Constant-clause-len : goal.returns-in-Constant-clause-len
returns-in-Constant-clause-len c =
    let s = c.args.self.now in
    let e = size-width s.kind c.in-Ok.size c.in-Ok.ensures in
    let a = named-constant s.algorithm (rw c.in-Constant.is at c.in-Ok-try_from.ensures) in
    let b = c.bits-in-Constant in
    let l = fields-length (described s) b.result (b.ensures ∙ e) in
    grind (arith, nat_tests)
