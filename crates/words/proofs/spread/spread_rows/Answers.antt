use Rattle.std.proofs.Common.{ℕ, ◌+◌, ◌-◌, List, length, refl, sym, ap, ◌∙◌, arith}
use native.Mathlib.Nat.{sub-zero}
use Rattle.faults.specs.Faults.{number_of}
use Rattle.channel.specs.declared.record.Channel.{Channel}
use Rattle.calls.specs.Calls.{settings}
use Rattle.frames.proofs.Tables.{rows-many, table_kept}
use Rattle.words.specs.Words.{turn_of}
use Rattle.words.specs.Spread.{turn_spread}
use Rattle.words.proofs.Passing.{stands_behind}
use Rattle.words.proofs.Rows.{first-is}
use Rattle.words.proofs.Sections.{rows_more, rows-fault, rows-full, rows_end, rows_all}
use Rattle.words.proofs.spread.spread_rows.Goals as goal

pub loop-init : goal.loop-init
loop-init c =
    let t : List Channel = c.args.rows.table.now in
    let f : List ℕ = c.args.file.now in
    let T = c.first_turn-turn.result in
    let h = c.args.rows.countable in
    let (a, b, m) = c.first_turn-turn.ensures in (
      ap (λ k. turn_spread (settings t) f k (turn_of (length t) T) c.args.at.bits c.args.out.now c.bytes-behind.result) (sub-zero c.args.count)
          ∙ ap (λ z. turn_spread (settings t) f c.args.count z c.args.at.bits c.args.out.now c.bytes-behind.result) (first-is t T.channel T.given T.memories h a b m),
      (omega (arith, a, rows-many t, (table_kept (settings t) h).some), omega (arith, b)),
    )

pub bounds-rows-turn : goal.bounds-rows-turn
bounds-rows-turn c = c.loop.invariant.1.0

pub take_next-requires : goal.take_next-requires
take_next-requires c = c.loop.invariant.1

pub returns-in_default : goal.returns-in_default
returns-in_default c =
    let t : List Channel = c.args.rows.table.now in
    let f : List ℕ = c.args.file.now in
    let n : ℕ = c.args.count in
    let l = c.loop in
    let x = c.in_default.field-0 in
    rows-fault t f n c.args.rows.countable l.counter (turn_of (length t) l.turn) l.invariant.1.0 l.cursor.at.bits l.out l.behind c.loop-test.true l.cursor.at.bits refl (number_of x.kind) x.place.bits c.in_default.ensures.word
    ∙ l.invariant.0 ∙ rows_all t f n c.args.at.bits c.bytes-behind.result c.args.at.bits c.args.to.bytes c.args.out.now refl c.bytes-behind.ensures

pub returns-then-not-put_raw_word : goal.returns-then-not-put_raw_word
returns-then-not-put_raw_word c =
    let t : List Channel = c.args.rows.table.now in
    let f : List ℕ = c.args.file.now in
    let n : ℕ = c.args.count in
    let l = c.loop in
    let w = c.in-Ok.word in
    rows-full t f n c.args.rows.countable l.counter (turn_of (length t) l.turn) l.invariant.1.0 l.cursor.at.bits l.out l.behind c.loop-test.true l.cursor.at.bits refl w.word w.len c.in-Ok.ensures.word
    c.new.result.bytes c.word_bytes-size.result c.new.ensures c.word_bytes-size.ensures.bytes c.word_bytes-size.ensures.most
    c.put_raw_word.result c.put_raw_word.new.raw c.put_raw_word.ensures.put c.put_raw_word.ensures.bytes (sym c.if-not-put_raw_word.true)
    ∙ l.invariant.0 ∙ rows_all t f n c.args.at.bits c.bytes-behind.result c.args.at.bits c.args.to.bytes c.args.out.now refl c.bytes-behind.ensures

pub loop-preserved : goal.loop-preserved
loop-preserved c =
    let t : List Channel = c.args.rows.table.now in
    let f : List ℕ = c.args.file.now in
    let n : ℕ = c.args.count in
    let l = c.loop in
    let w = c.in-Ok.word in
    let T = turn_of (length t) c.take_next.new.turn in
    let (a, _) = stands_behind l.cursor c.past-cursor.result w.len f c.past-cursor.ensures.behind c.in-Ok.ensures.within c.requires c.past-cursor.ensures.fits in (
      ap (λ z. turn_spread (settings t) f (n - (l.counter + 1)) T z c.put_raw_word.new.raw (l.behind + c.word_bytes-size.result)) a
          ∙ (rows_more t f n c.args.rows.countable l.counter (turn_of (length t) l.turn) l.invariant.1.0 l.cursor.at.bits l.out l.behind c.loop-test.true l.cursor.at.bits refl w.word w.len c.in-Ok.ensures.word
          c.new.result.bytes c.word_bytes-size.result c.new.ensures c.word_bytes-size.ensures.bytes c.word_bytes-size.ensures.most
          c.put_raw_word.result c.put_raw_word.new.raw c.put_raw_word.ensures.put c.put_raw_word.ensures.bytes T c.in-Ok.ensures.turn (sym c.if-not-put_raw_word.false)).0
          ∙ l.invariant.0,
      c.in-Ok.ensures.running,
    )

pub returns : goal.returns
returns c =
    let t : List Channel = c.args.rows.table.now in
    let f : List ℕ = c.args.file.now in
    let n : ℕ = c.args.count in
    let l = c.loop in
    rows_end t f n l.counter (turn_of (length t) l.turn) l.cursor.at.bits l.out l.behind c.loop-test.false
    ∙ l.invariant.0 ∙ rows_all t f n c.args.at.bits c.bytes-behind.result c.args.at.bits c.args.to.bytes c.args.out.now refl c.bytes-behind.ensures
