use Rattle.std.proofs.Common.{◌≡◌, ◌-◌, length}
use Rattle.layout.specs.Turns.{first_turn}
use Rattle.calls.specs.Calls.{settings}
use Rattle.words.specs.Words.{turn_of, Running}
use Rattle.words.specs.Spread.{turn_spread}
use Rattle.words.proofs.spread.spread_rows.Given as goal

-- what is left to spread gives the rest of the answer
abbrev pub invariant-loop : goal.invariant-loop
invariant-loop l =
    let cs = settings l.rows.table.now in
    (turn_spread cs l.file (l.count - l.counter) (turn_of (length l.rows.table.now) l.turn) l.cursor.at.bits l.out l.behind ≡ turn_spread cs l.file l.count (first_turn cs) l.initial.cursor.at.bits l.initial.out l.initial.behind)
    × Running (length l.rows.table.now) l.turn
