use Rattle.std.proofs.Common.{◌≡◌, ◌+◌, ◌*◌, ◌≤◌, drop}
use Rattle.calls.specs.Calls.{settings}
use Rattle.frames.specs.Frames.{frame_words, frame_bytes}
use Rattle.frames.proofs.section.Rows.frame.Given as goal

-- the sums so far and the rows that are left
abbrev pub invariant-loop-row : goal.invariant-loop-row
invariant-loop-row l =
    (l.words + frame_words (drop l.row-index (settings l.self.table.now)) ≡ frame_words (settings l.self.table.now))
    × (l.bytes + frame_bytes (drop l.row-index (settings l.self.table.now)) ≡ frame_bytes (settings l.self.table.now))
    × (l.words ≤ 16777215 * l.row-index)
    × (l.bytes ≤ 67108860 * l.row-index)
