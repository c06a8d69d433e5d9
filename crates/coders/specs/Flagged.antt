-- A delta that may be off.
use Rattle.std.specs.Prelude.{Bool, true, false}
use Rattle.coders.specs.declared.flagged.FlaggedDelta.{FlaggedDelta}
use Rattle.coders.specs.declared.flagged.FlaggedDelta.TheVariants.{On, Off}

abbrev pub is_on : {C : Type 0} → FlaggedDelta C → Bool
is_on (On d) = true
is_on (Off b) = false

-- the coder within
abbrev pub inner_of : {C : Type 0} → FlaggedDelta C → C
inner_of (On d) = d.inner
inner_of (Off b) = b.inner
