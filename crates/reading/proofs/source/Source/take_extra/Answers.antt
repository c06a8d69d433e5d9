use Rattle.std.proofs.Common.{ℕ, ◌+◌, ◌/◌, List, Some, arith}
use Rattle.bits.specs.Bits.{bits_of}
use Rattle.reading.specs.Heads.{part_bytes, PartAt}
use Rattle.reading.specs.declared.part.Part.{Part}
use Rattle.reading.specs.declared.taken.Taken.{Taken}
use Rattle.reading.proofs.Looks.{taking-small}
use Rattle.reading.proofs.Steps.{passed, with-is, with_ok}
use Rattle.reading.proofs.Names.{no-extra-count, some-extra, extra-none, extra-done}
use Rattle.reading.proofs.source.Source.take_extra.Goals as goal

pub returns-in_err-count-clause-bytes : goal.returns-in_err-count-clause-bytes
returns-in_err-count-clause-bytes c l =
    passed (part_bytes c.args.self.bytes.now) _ _ _ c.from_residual.ensures.1 (no-extra-count (bits_of c.args.self.bytes.now) c.args.at.bits l (c.in_err-count.ensures l))

pub returns-then-part-eq0 : goal.returns-then-part-eq0
returns-then-part-eq0 c =
    let file : List ℕ = c.args.self.bytes.now in
    let t = c.in_ok-count.count in
    let done = λ (l : ℕ). extra-none file c.args.at.bits l t.value t.end.at.bits t.end.last.bits c.byte.result.bytes (c.in_ok-count.ensures l) c.byte.ensures c.if-part-eq0.true in
    record { bytes = λ l. with-is (part_bytes file) c.with.ensures (done l).0; place = with_ok (λ (t : Taken Part). PartAt file (c.args.at.bits / 8 + 2) (Some t.value)) c.with.ensures (done 0).1 }

pub take_block-requires : goal.take_block-requires
take_block-requires c =
    let t = c.in_ok-count.count in
    let small = taking-small 32 16 (bits_of c.args.self.bytes.now) c.args.at.bits 0 t.value t.end.at.bits t.end.last.bits (c.in_ok-count.ensures 0) in
    (omega (arith, c.if-part-eq0.false), omega (arith, small))

pub returns-in_err-block-clause-bytes : goal.returns-in_err-block-clause-bytes
returns-in_err-block-clause-bytes c l =
    passed (part_bytes c.args.self.bytes.now) _ _ _ c.from_residual-in_err-block.ensures.1
    (some-extra (bits_of c.args.self.bytes.now) c.args.at.bits l (c.in_ok-count.ensures l) c.if-part-eq0.false (c.in_err-block.ensures _))

pub returns : goal.returns
returns c =
    let file : List ℕ = c.args.self.bytes.now in
    let t = c.in_ok-count.count in
    let b = c.in_ok-block.block in
    let done = λ (l : ℕ). extra-done file c.args.at.bits l t.value t.end.at.bits t.end.last.bits c.byte.result.bytes (c.in_ok-count.ensures l) c.byte.ensures
    _ b.end.at.bits b.end.last.bits c.are_bytes.ensures c.requires c.if-part-eq0.false (c.in_ok-block.ensures _) in
    record { bytes = λ l. with-is (part_bytes file) c.with-2.ensures (done l).0; place = with_ok (λ (t : Taken Part). PartAt file (c.args.at.bits / 8 + 2) (Some t.value)) c.with-2.ensures (done 0).1 }
