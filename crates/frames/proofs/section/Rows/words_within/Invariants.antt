use Rattle.std.proofs.Common.{◌≡◌, ◌+◌, ◌<◌, ◌≤◌, drop}
use Rattle.layout.specs.Turns.{first}
use Rattle.calls.specs.Calls.{settings}
use Rattle.frames.specs.Frames.{frame_bytes}
use Rattle.frames.proofs.Counts.{count, more}
use Rattle.frames.proofs.Rows.{at}
use Rattle.frames.proofs.section.Rows.words_within.Given as goal

-- the words so far, and those of the bytes that are left, which end before the frame does
abbrev pub invariant-loop-row : goal.invariant-loop-row
invariant-loop-row l =
    (more l.words (count (settings l.self.table.now) (at l.row-index 0) l.left) ≡ count (settings l.self.table.now) first l.raw)
    × (l.left < frame_bytes (drop l.row-index (settings l.self.table.now)))
    × (l.words + l.left ≤ l.raw)
