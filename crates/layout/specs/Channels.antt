-- A channel's settings: the rules for them, and the coder that they name.
use Rattle.std.specs.Prelude.{ℕ, ◌%◌, ◌^◌, Bool, false, cond, ◌&&◌, ◌||◌, ◌==◌, nat_le, nat_lt}
use Rattle.forms.specs.Code.{Code}
use Rattle.forms.specs.Coding.{Coding}
use Rattle.forms.specs.Coders.{plain, null, constant, reduced, turn, delta_if}
use Rattle.layout.specs.Recording.{Channel}

-- the width of a type's words, and 0 where the type is not covered
abbrev pub width : ℕ → ℕ
width t = cond (t == 1 || (t == 2 || t == 5)) 32 (cond (t == 3 || t == 4) 16 (cond (t == 7 || t == 8) 8 0))

-- what an algorithm asks of R and of the value
abbrev pub suits : ℕ → ℕ → ℕ → ℕ → Bool
suits w algorithm narrow value =
    cond (algorithm == 0) (narrow == 0 && value == 0)
    (cond (algorithm == 1) (nat_lt 0 narrow && (nat_le narrow w && nat_lt value (2 ^ w)))
    (cond (algorithm == 6) (narrow == 0 && nat_lt value (2 ^ w)) false))

-- the rules of a channel's settings
abbrev pub ruled : Channel → Bool
ruled c =
    nat_lt 0 c.repeats && (nat_le c.repeats 16777215 && (nat_lt c.turn (width c.kind) && suits (width c.kind) c.algorithm c.narrow c.value))

abbrev pub algorithm : Channel → Code
algorithm c =
    cond (c.algorithm == 0) (null (width c.kind))
    (cond (c.algorithm == 6) (constant c.value) (reduced (width c.kind) c.narrow c.value))

-- a channel's coder: the turn, then the delta if flagged, then the algorithm
abbrev pub pile : Channel → Coding (ℕ × Unit {0})
pile c = turn (width c.kind) (c.turn % width c.kind) (delta_if (width c.kind) c.delta (plain (algorithm c)))

-- its memory is the word before, 0 at the start: the code of the next word, and the memory behind a word
abbrev pub code_at : Channel → ℕ → Code
code_at c m = (pile c).code (m, tt)

abbrev pub memory_after : Channel → ℕ → ℕ → ℕ
memory_after c m x = ((pile c).after (m, tt) x).0
