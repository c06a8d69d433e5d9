use Rattle.std.proofs.Common.{◌≡◌, ℕ, ◌-◌, ◌<◌, Bool, true, false, eqb, List, length, take, drop, Some, None, Err, sym, ◌∙◌, arith, rules, length-drop}
use Rattle.std.proofs.lemmas.List.{take_all}
use Rattle.std.proofs.lemmas.Bool.Decides.{nat_tests}
use Rattle.writer.specs.Answers.{put, trouble}
use Rattle.writer.proofs.Pouring.{goes_on-is, all-put, cut_off, stuck}
use Rattle.writer.proofs.states.Inside.pour_each.Goals as goal

-- what the test says of the bytes that are left
some_left : (n : ℕ) (t : Bool) → t ≡ eqb n 0 → t ≡ false → 0 < n
some_left n t e f = grind (arith, nat_tests)

none_left : (n : ℕ) (t : Bool) → t ≡ eqb n 0 → t ≡ true → n ≡ 0
none_left n t e f = grind (arith, nat_tests)

-- the bytes behind a word
rest_of : (k : ℕ) (xs : List ℕ) → take (length xs - k) (drop k xs) ≡ drop k xs
rest_of k xs = take_all (length xs - k) (drop k xs) (omega (arith, length-drop k xs))

pub returns-in_err-word : goal.returns-in_err-word
returns-in_err-word c =
    let l = c.loop-rest in
    let size = c.word_bytes-size in
    let h : 0 < length l.rest.now = some_left (length l.rest.now) c.is_empty.result c.is_empty.ensures c.loop-rest-test.true in
    let n : c.raw_word.result ≡ None = c.in_err-word.ensures.ok_part in
    let a : put c.from_residual.result ≡ Err (13, l.self.spot.at.bits) = search rules in
    let r = cut_off c.args.self.now.spot c.args.buffer.now c.args.table.now c.args.raw.now c.requires l.self.spot l.buffer l.table l.rest.now l.bits l.invariant l.self.turn
    c.new.result.bytes size.result c.new.ensures size.ensures.bytes size.ensures.most h (sym n ∙ c.raw_word.ensures) in
    record { answer = a ∙ r.answer; state = r.state; left = r.left; rows = r.rows }

pub returns-in_err-bits : goal.returns-in_err-bits
returns-in_err-bits c =
    let l = c.loop-rest in
    let size = c.word_bytes-size in
    let p = c.in_err-bits.ensures in
    let w : c.raw_word.result ≡ Some c.in_ok-word.word = c.in_ok-word.ensures.ok_part in
    let a : put c.from_residual-in_err-bits.result ≡ Err (trouble c.in_err-bits.field-0.0) = search rules in
    let r = stuck c.args.self.now.spot c.args.buffer.now c.args.table.now c.args.raw.now c.requires l.self.spot l.buffer l.table l.rest.now l.bits l.invariant l.self.turn
    c.new.result.bytes size.result c.in_ok-word.word (trouble c.in_err-bits.field-0.0) c.put.new.self.spot c.put.new.buffer c.put.new.table c.new.ensures size.ensures.bytes (sym w ∙ c.raw_word.ensures) p.answer p.state p.bytes p.table in
    record { answer = a ∙ r.answer; state = r.state; left = r.left; rows = r.rows }

pub loop-rest-preserved : goal.loop-rest-preserved
loop-rest-preserved c =
    let l = c.loop-rest in
    let size = c.word_bytes-size in
    let p = c.in_ok-bits.ensures in
    let w : c.raw_word.result ≡ Some c.in_ok-word.word = c.in_ok-word.ensures.ok_part in
    rw (rest_of size.result l.rest.now) (goes_on-is c.args.self.now.spot c.args.buffer.now c.args.table.now c.args.raw.now c.requires l.self.spot l.buffer l.table l.rest.now l.bits l.invariant l.self.turn
    c.new.result.bytes size.result c.in_ok-word.word c.in_ok-bits.field-0 c.put.new.self.spot c.put.new.buffer c.put.new.table c.new.ensures size.ensures.bytes (sym w ∙ c.raw_word.ensures) p.answer p.state p.bytes p.table)

pub returns : goal.returns
returns c =
    let l = c.loop-rest in
    all-put c.args.self.now.spot c.args.buffer.now c.args.table.now c.args.raw.now c.requires l.self.spot l.buffer l.table l.rest.now l.bits l.invariant l.self.turn
    (none_left (length l.rest.now) c.is_empty.result c.is_empty.ensures c.loop-rest-test.false)
