use Rattle.std.proofs.Common.{◌≡◌, ℕ, List, length, ap, ◌∙◌, arith}
use Rattle.faults.specs.Faults.{answered}
use Rattle.reader.specs.Unpacking.{unpack_answer, unpack_bytes, body_answer, body_left}
use Rattle.reader.specs.Walks.{Standing, all_sections}
use Rattle.reader.specs.declared.totals.Totals.{Totals}
use Rattle.reader.proofs.Walks.{head-back}
use Rattle.reader.proofs.Recordings.{handed-on, fault_stands}
use Rattle.reader.proofs.Unpacking.{unread-answer, unread-bytes, unpacks, checked-short, checked-few, no-room-answer, no-room-bytes, checked-head, room_for, written-answer, written-bytes}
use Rattle.reader.proofs.unpack.unpack.Goals as goal

pub returns-in_err-totals : goal.returns-in_err-totals
returns-in_err-totals c =
    let f : List ℕ = c.args.file.now in
    let out : List ℕ = c.args.out.now in
    let a : answered (λ (n : ℕ). n) c.from_residual.result ≡ unpack_answer f (length out)
    = handed-on (λ (n : ℕ). n) _ _ _ c.from_residual.ensures.1 (unread-answer f (length out) _ _ c.in_err-totals.ensures.answer) in
    let b : out ≡ unpack_bytes f out = unread-bytes f out _ _ c.in_err-totals.ensures.answer in
    record { answer = a; bytes = b; accepted = unpacks f out _ out a b }

pub overflow_add-totals : goal.overflow_add-totals
overflow_add-totals c =
    let (a, b) = checked-few c.args.file.now c.in_ok-totals.totals c.in_ok-totals.ensures.answer in
    omega (arith, a, b)

pub returns-then-totals-out : goal.returns-then-totals-out
returns-then-totals-out c =
    let f : List ℕ = c.args.file.now in
    let out : List ℕ = c.args.out.now in
    let t = c.in_ok-totals.totals in
    let a = fault_stands c.at_start.ensures (no-room-answer f t c.in_ok-totals.ensures.answer (length out) (omega (arith, c.if-totals-out.true))) in
    let b : out ≡ unpack_bytes f out = no-room-bytes f t c.in_ok-totals.ensures.answer out (omega (arith, c.if-totals-out.true)) in
    record { answer = a; bytes = b; accepted = unpacks f out _ out a b }

pub returns-in_err-walk : goal.returns-in_err-walk
returns-in_err-walk c =
    let f : List ℕ = c.args.file.now in
    absurd (checked-head f c.in_ok-totals.totals c.in_ok-totals.ensures.answer (head-back f _ (checked-short f c.in_ok-totals.totals c.in_ok-totals.ensures.answer) c.in_err-walk.ensures))

pub write_all-requires-clause-room : goal.write_all-requires-clause-room
write_all-requires-clause-room c =
    let f : List ℕ = c.args.file.now in
    let out : List ℕ = c.args.out.now in
    let t : Totals = c.in_ok-totals.totals in
    let w = c.in_ok-walk.walk in
    let (h, e, same) = c.in_ok-walk.ensures in
    let d = head-back f _ (checked-short f t c.in_ok-totals.ensures.answer) e in
    room_for f t c.in_ok-totals.ensures.answer h w.end.at.bits w.end.last.bits d (length out) _ (ap all_sections same) (omega (arith, c.if-totals-out.false))

pub returns : goal.returns
returns c =
    let f : List ℕ = c.args.file.now in
    let out : List ℕ = c.args.out.now in
    let t : Totals = c.in_ok-totals.totals in
    let w = c.in_ok-walk.walk in
    let (h, e, same) = c.in_ok-walk.ensures in
    let d = head-back f _ (checked-short f t c.in_ok-totals.ensures.answer) e in
    let a = written-answer f t c.in_ok-totals.ensures.answer h w.end.at.bits w.end.last.bits d (length out) _ (omega (arith, c.if-totals-out.false))
    (c.write_all.ensures.answer ∙ ap (λ (s : Standing). body_answer (all_sections s)) same) in
    let b = written-bytes f t c.in_ok-totals.ensures.answer h w.end.at.bits w.end.last.bits d out _ (omega (arith, c.if-totals-out.false))
    (c.write_all.ensures.bytes ∙ ap (λ (s : Standing). body_left (all_sections s) out) same) in
    record { answer = a; bytes = b; accepted = unpacks f out _ _ a b }
