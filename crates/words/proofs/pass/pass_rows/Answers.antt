use Rattle.std.proofs.Common.{◌≡◌, ℕ, ◌+◌, ◌-◌, List, length, Err, refl, ap, ◌∙◌, rules, arith}
use native.Mathlib.Nat.{sub-zero}
use Rattle.bits.specs.Bits.{bits_of}
use Rattle.faults.specs.Faults.{number_of}
use Rattle.channel.specs.declared.record.Channel.{Channel}
use Rattle.calls.specs.Calls.{settings}
use Rattle.frames.proofs.Tables.{rows-many, table_kept}
use Rattle.words.specs.Words.{places, told, turn_of}
use Rattle.words.proofs.Passing.{stands_behind}
use Rattle.words.proofs.OneRow.{turn_read}
use Rattle.words.proofs.Rows.{rows_more, rows-fault, rows_end, rows_all, first-is}
use Rattle.words.proofs.pass.pass_rows.Goals as goal

pub loop-init : goal.loop-init
loop-init c =
    let t : List Channel = c.args.rows.table.now in
    let T = c.first_turn-turn.result in
    let h = c.args.rows.countable in
    let (a, b, m) = c.first_turn-turn.ensures in (
      ap (λ k. places (turn_read (settings t) k (turn_of (length t) T) (bits_of c.args.file.now) c.args.from.at.bits c.args.from.last.bits)) (sub-zero c.args.count)
          ∙ ap (λ z. places (turn_read (settings t) c.args.count z (bits_of c.args.file.now) c.args.from.at.bits c.args.from.last.bits)) (first-is t T.channel T.given T.memories h a b m),
      (omega (arith, a, rows-many t, (table_kept (settings t) h).some), omega (arith, b)),
    )

pub take_next-requires : goal.take_next-requires
take_next-requires c = c.loop.invariant.1

pub returns-in_err-word : goal.returns-in_err-word
returns-in_err-word c =
    let t : List Channel = c.args.rows.table.now in
    let f : List ℕ = c.args.file.now in
    let n : ℕ = c.args.count in
    let x = c.in_err-word.field-0.0 in
    let l = c.loop in
    let e : c.from_residual.result ≡ Err x = search rules in
    ap told e ∙ rows-fault (settings t) f n l.counter (turn_of (length t) l.turn) l.cursor.at.bits l.cursor.last.bits l.cursor.at.bits c.loop-test.true refl (number_of x.kind) x.place.bits c.in_err-word.ensures.word
    ∙ l.invariant.0 ∙ rows_all (settings t) f n c.args.from.at.bits c.args.from.last.bits c.args.from.at.bits c.args.from.last.bits refl refl

pub loop-preserved : goal.loop-preserved
loop-preserved c =
    let t : List Channel = c.args.rows.table.now in
    let f : List ℕ = c.args.file.now in
    let n : ℕ = c.args.count in
    let w = c.in_ok-word.word in
    let l = c.loop in
    let T = turn_of (length t) c.take_next.new.turn in
    let d = c.past-cursor.result in
    let (a, b) = stands_behind l.cursor d w.len f c.past-cursor.ensures.behind c.in_ok-word.ensures.within c.requires c.past-cursor.ensures.fits in (
      ap (λ z. places (turn_read (settings t) (n - (l.counter + 1)) T (bits_of f) z d.last.bits)) a ∙ ap (λ z. places (turn_read (settings t) (n - (l.counter + 1)) T (bits_of f) (l.cursor.at.bits + w.len) z)) b
          ∙ rows_more (settings t) f n l.counter (turn_of (length t) l.turn) l.cursor.at.bits l.cursor.last.bits l.cursor.at.bits c.loop-test.true refl T w.word w.len c.in_ok-word.ensures.word c.in_ok-word.ensures.turn
          ∙ l.invariant.0,
      c.in_ok-word.ensures.running,
    )

pub returns : goal.returns
returns c =
    let t : List Channel = c.args.rows.table.now in
    let f : List ℕ = c.args.file.now in
    let n : ℕ = c.args.count in
    let l = c.loop in
    rows_end (settings t) f n l.counter (turn_of (length t) l.turn) l.cursor.at.bits l.cursor.last.bits l.cursor.at.bits l.cursor.last.bits c.loop-test.false refl refl
    ∙ l.invariant.0 ∙ rows_all (settings t) f n c.args.from.at.bits c.args.from.last.bits c.args.from.at.bits c.args.from.last.bits refl refl
