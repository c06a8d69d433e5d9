use Rattle.std.proofs.Common.{rules}
use Rattle.forms.specs.Coding.{encoded}
use Rattle.forms.proofs.Windows.{encoded-short}
use Rattle.coder.proofs.Words.{given-form, laid-there, laid-not}
use Rattle.coder.proofs.steps.put_word.Goals as goal

pub returns-then-not-put_field : goal.returns-then-not-put_field
returns-then-not-put_field g c =
    let d = c.in_ok-coded.coded in
    let C = g.C.Coder.coding c.args.coder.now in
    let e = given-form C c.args.memory c.args.word c.encode.result d c.encode.ensures c.in_ok-coded.ensures.ok_part in
    let h = encoded-short C (g.C.Coder.sound c.args.coder.now) c.args.memory c.args.word d.form.len d.form.bits d.next e in
    let (a, b) = laid-not d.form.len d.form.bits d.next (encoded C c.args.memory c.args.word) e h c.args.at.bits c.args.buffer.now c.put_field.new.buffer c.put_field.result c.put_field.ensures.put c.put_field.ensures.bytes c.if-not-put_field.true in
    record { answer = rw c.at-then-not-put_field.ensures a; bytes = b }

pub returns : goal.returns
returns g c =
    let d = c.in_ok-coded.coded in
    let C = g.C.Coder.coding c.args.coder.now in
    let e = given-form C c.args.memory c.args.word c.encode.result d c.encode.ensures c.in_ok-coded.ensures.ok_part in
    let h = encoded-short C (g.C.Coder.sound c.args.coder.now) c.args.memory c.args.word d.form.len d.form.bits d.next e in
    let (a, b) = laid-there d.form.len d.form.bits d.next (encoded C c.args.memory c.args.word) e h c.args.at.bits c.args.buffer.now c.put_field.new.buffer c.put_field.result c.put_field.ensures.put c.put_field.ensures.bytes c.if-not-put_field.false in
    record { answer = a; bytes = b }
