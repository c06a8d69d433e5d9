use Rattle.std.proofs.Common.{◌≡◌, ◌-◌, length}
use Rattle.bits.specs.Bits.{bits_of}
use Rattle.layout.specs.Turns.{first_turn}
use Rattle.calls.specs.Calls.{settings}
use Rattle.words.specs.Words.{places, turn_of, Running}
use Rattle.words.proofs.OneRow.{turn_read}
use Rattle.words.proofs.pass.pass_rows.Given as goal

-- what is left to read gives the rest of the answer
abbrev pub invariant-loop : goal.invariant-loop
invariant-loop l =
    let cs = settings l.rows.table.now in
    let f = bits_of l.file in
    (places (turn_read cs (l.count - l.counter) (turn_of (length l.rows.table.now) l.turn) f l.cursor.at.bits l.cursor.last.bits) ≡ places (turn_read cs l.count (first_turn cs) f l.initial.cursor.at.bits l.initial.cursor.last.bits))
    × Running (length l.rows.table.now) l.turn
