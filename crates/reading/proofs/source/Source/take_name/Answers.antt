use Rattle.std.proofs.Common.{◌≡◌, ℕ, ◌+◌, ◌-◌, ◌*◌, ◌/◌, List, Some, drop, refl, ◌∙◌, arith}
use Rattle.bits.specs.Bits.{bits_of, bytes}
use Rattle.format.specs.Cells.{File}
use Rattle.reading.specs.Heads.{part_bytes, PartAt}
use Rattle.reading.specs.declared.part.Part.{Part}
use Rattle.reading.specs.declared.taken.Taken.{Taken}
use Rattle.reading.proofs.Looks.{fault-is}
use Rattle.reading.proofs.Steps.{passed, with-is, with_ok}
use Rattle.reading.proofs.Names.{name-last, name-begins, name_faults, name-long, name-next, name_done}
use Rattle.reading.proofs.source.Source.take_name.Goals as goal

pub loop-len-init : goal.loop-len-init
loop-len-init c = (omega arith, name-begins 255 (bits_of c.args.self.bytes.now) c.args.at.bits)

pub returns-in_err-byte-clause-bytes : goal.returns-in_err-byte-clause-bytes
returns-in_err-byte-clause-bytes c l =
    let f : File = bits_of c.args.self.bytes.now in
    passed (part_bytes c.args.self.bytes.now) _ _ _ c.from_residual.ensures.1
    (name_faults f c.loop-len.place.bits 0 _ _ (255 - c.loop-len.len) _ (bytes c.loop-len.len (drop c.args.at.bits f)) (c.in_err-byte.ensures 0) c.loop-len.invariant.1 ∙ name-last 255 f c.args.at.bits l c.args.at.bits)

pub returns-then-byte-eq0 : goal.returns-then-byte-eq0
returns-then-byte-eq0 c =
    let file : List ℕ = c.args.self.bytes.now in
    let p : ℕ = c.args.at.bits in
    let t = c.in_ok-byte.byte in
    let done = λ (l : ℕ). name_done file p c.loop-len.len c.loop-len.place.bits 0 t.value t.end.at.bits t.end.last.bits (c.in_ok-byte.ensures 0)
    c.loop-len.invariant.0 c.loop-len.invariant.1 c.loop-len.len c.byte-start.result.bytes l refl c.are_bytes.ensures c.requires c.byte-start.ensures c.if-byte-eq0.true in
    record {
      bytes = λ l. with-is (part_bytes file) c.with.ensures (done l).0;
      place = with_ok (λ (t : Taken Part). PartAt file (p / 8) (Some t.value)) c.with.ensures (done 0).1;
      behind = with_ok (λ (t : Taken Part). t.end.at.bits ≡ p + 8 * (t.value.len + 1)) c.with.ensures (done 0).2;
    }

pub loop-len-preserved : goal.loop-len-preserved
loop-len-preserved c =
    let t = c.in_ok-byte.byte in
    name-next c.args.self.bytes.now c.args.at.bits c.loop-len.len c.loop-len.place.bits 0 t.value t.end.at.bits t.end.last.bits (c.in_ok-byte.ensures 0)
    c.loop-len.invariant.0 c.loop-len.invariant.1 (omega (arith, c.loop-len-test.true)) c.if-byte-eq0.false

pub returns-in_err-end-clause-bytes : goal.returns-in_err-end-clause-bytes
returns-in_err-end-clause-bytes c l =
    let f : File = bits_of c.args.self.bytes.now in
    passed (part_bytes c.args.self.bytes.now) _ _ _ c.from_residual-in_err-end.ensures.1
    (name_faults f c.loop-len.place.bits 0 _ _ (255 - c.loop-len.len) _ (bytes c.loop-len.len (drop c.args.at.bits f)) (c.in_err-end.ensures 0) c.loop-len.invariant.1 ∙ name-last 255 f c.args.at.bits l c.args.at.bits)

pub returns-then-end-ne0-clause-bytes : goal.returns-then-end-ne0-clause-bytes
returns-then-end-ne0-clause-bytes c l =
    let f : File = bits_of c.args.self.bytes.now in
    let t = c.in_ok-end.end in
    fault-is c.at.ensures
    (name-long 255 255 f c.loop-len.place.bits 0 t.value t.end.at.bits t.end.last.bits _ (bytes c.loop-len.len (drop c.args.at.bits f)) (255 - c.loop-len.len) (omega (arith, c.loop-len-test.false)) (c.in_ok-end.ensures 0) c.if-end-ne0.true c.loop-len.invariant.1
    ∙ name-last 255 f c.args.at.bits l c.args.at.bits)

pub returns : goal.returns
returns c =
    let file : List ℕ = c.args.self.bytes.now in
    let p : ℕ = c.args.at.bits in
    let t = c.in_ok-end.end in
    let count : 255 ≡ c.loop-len.len = omega arith in
    let done = λ (l : ℕ). name_done file p c.loop-len.len c.loop-len.place.bits 0 t.value t.end.at.bits t.end.last.bits (c.in_ok-end.ensures 0)
    c.loop-len.invariant.0 c.loop-len.invariant.1 255 c.byte-start.result.bytes l count c.are_bytes.ensures c.requires c.byte-start.ensures c.if-end-ne0.false in
    record {
      bytes = λ l. with-is (part_bytes file) c.with-2.ensures (done l).0;
      place = with_ok (λ (t : Taken Part). PartAt file (p / 8) (Some t.value)) c.with-2.ensures (done 0).1;
      behind = with_ok (λ (t : Taken Part). t.end.at.bits ≡ p + 8 * (t.value.len + 1)) c.with-2.ensures (done 0).2;
    }
