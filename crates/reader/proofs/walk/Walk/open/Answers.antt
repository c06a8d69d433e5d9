use Rattle.std.proofs.Common.{Ok, Err, of_calls}
use Rattle.bits.specs.Bits.{bits_of}
use Rattle.format.specs.Cells.{File}
use Rattle.calls.specs.Calls.{flags}
use Rattle.reading.proofs.Steps.{passed, with-is}
use Rattle.reader.specs.Sections.{head_in}
use Rattle.reader.proofs.Heads.{flagged-pointer, head-no-raw, head-no-pointer, head-no-channels, head-on}
use Rattle.reader.proofs.walk.Walk.open.Goals as goal

pub returns-in_err-raw-clause-head : goal.returns-in_err-raw-clause-head
returns-in_err-raw-clause-head c l =
    passed (head_in _) _ _ _ c.from_residual.ensures.1
    (head-no-raw (flags c.args.self.now.flags) (bits_of c.args.self.now.source.bytes.now) c.args.self.now.end.at.bits l c.args.self.now.raw (c.in_err-raw.ensures l))

pub returns-in_err-pointer-clause-head : goal.returns-in_err-pointer-clause-head
returns-in_err-pointer-clause-head c l =
    let f : File = bits_of c.args.self.now.source.bytes.now in
    let pointer = flagged-pointer f c.args.self.now.flags.pointed c.in_ok-raw.raw.end _ (Err c.in_err-pointer.field-0.0) c.in_err-pointer.ensures.absent c.in_err-pointer.ensures.present (λ x m. search (of_calls, m)) in
    passed (head_in _) _ _ _ c.from_residual-in_err-pointer.ensures.1
    (head-no-pointer (flags c.args.self.now.flags) f c.args.self.now.end.at.bits l c.args.self.now.raw (c.in_ok-raw.ensures l) pointer)

pub returns-in_err-rows-clause-head : goal.returns-in_err-rows-clause-head
returns-in_err-rows-clause-head c l =
    let f : File = bits_of c.args.self.now.source.bytes.now in
    let pointer = flagged-pointer f c.args.self.now.flags.pointed c.in_ok-raw.raw.end _ (Ok c.in_ok-pointer.pointer) c.in_ok-pointer.ensures.absent c.in_ok-pointer.ensures.present (λ x m. search (of_calls, m)) in
    passed (head_in _) _ _ _ c.from_residual-in_err-rows.ensures.1
    (head-no-channels (flags c.args.self.now.flags) f c.args.self.now.end.at.bits l c.args.self.now.raw (c.in_ok-raw.ensures l) pointer c.in_err-rows.ensures.rows)

pub invariant_of-with : goal.invariant_of-with
invariant_of-with c = record { few = c.in_ok-rows.ensures.most }

pub returns-clause-head : goal.returns-clause-head
returns-clause-head c l =
    let f : File = bits_of c.args.self.now.source.bytes.now in
    let pointer = flagged-pointer f c.args.self.now.flags.pointed c.in_ok-raw.raw.end _ (Ok c.in_ok-pointer.pointer) c.in_ok-pointer.ensures.absent c.in_ok-pointer.ensures.present (λ x m. search (of_calls, m)) in
    with-is (head_in _) c.with.ensures (head-on (flags c.args.self.now.flags) f c.args.self.now.end.at.bits l c.args.self.now.raw (c.in_ok-raw.ensures l) pointer c.in_ok-rows.ensures.rows)
