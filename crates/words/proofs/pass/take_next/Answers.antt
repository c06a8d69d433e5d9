use Rattle.std.proofs.Common.{◌≡◌, ℕ, ◌<◌, true, false, List, length, None, Err, sym, ap, ◌∙◌, rules, arith}
use Rattle.faults.specs.Faults.{number_of}
use Rattle.layout.specs.Turns.{following}
use Rattle.channel.specs.declared.record.Channel.{Channel}
use Rattle.channel.specs.Piles.{coder_coding}
use Rattle.calls.specs.Calls.{settings}
use Rattle.words.specs.Words.{taken, turn_of, turn_behind}
use Rattle.frames.proofs.Tables.{row-ruled, repeats-kept, described}
use Rattle.words.proofs.Turning.{row-few, next-fault, next_word, next-within, next-stays, next_way, follows, starts-over}
use Rattle.words.proofs.pass.take_next.Goals as goal
use Rattle.words.proofs.pass.take_next.Goals.{then-channel-rows, else-channel-rows}

pub bounds-turn-channel : goal.bounds-turn-channel
bounds-turn-channel c = row-few c.args.rows.table.now c.args.turn.now.channel c.args.rows.countable c.requires.0

pub bounds-turn-channel-2 : goal.bounds-turn-channel-2
bounds-turn-channel-2 c = row-few c.args.rows.table.now c.args.turn.now.channel c.args.rows.countable c.requires.0

pub returns-in_err-coder : goal.returns-in_err-coder
returns-in_err-coder c =
    let n : None ≡ c.coder.result = search rules in
    let z : true ≡ false = sym (row-ruled c.args.rows.table.now c.args.turn.now.channel c.args.rows.countable c.requires.0) ∙ (rw (sym n) at c.coder.ensures) in
    let y : ◌≡◌ {A = ℕ} 0 1 = cc in absurd (omega arith)

pub returns-in_err-word : goal.returns-in_err-word
returns-in_err-word c =
    let T = c.args.turn.now in
    let x = c.in_err-word.field-0.0 in
    let C = coder_coding c.in_ok-coder.coder in
    let e : c.from_residual-in_err-word.result ≡ Err x = search rules in
    record {
      word = ap (taken c.args.at.bits) e ∙ next-fault c.args.rows.table.now T.channel T.given T.memories c.requires.0 C c.args.file.now c.args.at.bits (rw c.in_ok-coder.ensures.ok_part at c.coder.ensures).1 (number_of x.kind) x.place.bits c.in_err-word.ensures;
      within = rw e tt;
      turn = ap (turn_behind (settings c.args.rows.table.now) (turn_of (length c.args.rows.table.now) T)) (sym e);
      running = c.requires;
    }

pub overflow_add-turn : goal.overflow_add-turn
overflow_add-turn c = omega (arith, c.requires.1)

pub returns-after-channel-rows : goal.returns-after-channel-rows
returns-after-channel-rows c =
    let t : List Channel = c.args.rows.table.now in
    let T = c.args.turn.now in
    let i : ℕ = T.channel in
    let l : T.channel < length t = c.requires.0 in
    let w = c.in_ok-word.word in
    let C = coder_coding c.in_ok-coder.coder in
    let f : List ℕ = c.args.file.now in
    let j : ℕ = c.if-channel-rows.turn in
    let (b, k) : (j ≡ following (length t) i) × (j < length t) =
    elim c.if-channel-rows.branch [
      | then-channel-rows v ↦ (follows (length t) i j v.if-channel-rows.true v.turn-is, omega (arith, v.if-channel-rows.true, v.turn-is))
      | else-channel-rows v ↦ (starts-over (length t) i j v.if-channel-rows.false v.turn-is, omega (arith, v.turn-is, l))
    ] in
    record {
      word = next_word t i T.given T.memories l C f c.args.at.bits (rw c.in_ok-coder.ensures.ok_part at c.coder.ensures).1 w.word w.len w.next c.in_ok-word.ensures;
      within = next-within t i T.given T.memories l C f c.args.at.bits (rw c.in_ok-coder.ensures.ok_part at c.coder.ensures).1 w.word w.len w.next c.in_ok-word.ensures;
      turn = next_way t i T.given T.memories l C f c.args.at.bits (rw c.in_ok-coder.ensures.ok_part at c.coder.ensures).1 w.word w.len w.next c.in_ok-word.ensures c.repeats.result c.repeats.ensures j c.if-turn-repeats.true b;
      running = (k, omega arith);
    }

pub returns-else-turn-repeats : goal.returns-else-turn-repeats
returns-else-turn-repeats c =
    let t : List Channel = c.args.rows.table.now in
    let T = c.args.turn.now in
    let i : ℕ = T.channel in
    let l : T.channel < length t = c.requires.0 in
    let w = c.in_ok-word.word in
    let C = coder_coding c.in_ok-coder.coder in
    let f : List ℕ = c.args.file.now in
    record {
      word = next_word t i T.given T.memories l C f c.args.at.bits (rw c.in_ok-coder.ensures.ok_part at c.coder.ensures).1 w.word w.len w.next c.in_ok-word.ensures;
      within = next-within t i T.given T.memories l C f c.args.at.bits (rw c.in_ok-coder.ensures.ok_part at c.coder.ensures).1 w.word w.len w.next c.in_ok-word.ensures;
      turn = next-stays t i T.given T.memories l C f c.args.at.bits (rw c.in_ok-coder.ensures.ok_part at c.coder.ensures).1 w.word w.len w.next c.in_ok-word.ensures c.repeats.result c.repeats.ensures c.if-turn-repeats.false;
      running = (l, omega (arith, c.if-turn-repeats.false, c.repeats.ensures, (repeats-kept (described t i) (row-ruled t i c.args.rows.countable l)).few));
    }
