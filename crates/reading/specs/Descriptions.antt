-- Channel descriptions, as they are read.
use Rattle.std.specs.Prelude.{ℕ, ◌==◌}
use Rattle.layout.specs.Recording.{Channel}
use Rattle.reading.specs.declared.added.Added.{Added}

-- the settings, of which the algorithm adds two
abbrev pub with_added : ℕ → ℕ → ℕ → ℕ → ℕ → Added → Channel
with_added n d b a t x = record { repeats = n; delta = (d == 1); turn = b; algorithm = a; kind = t; narrow = x.narrow; value = x.value }
