-- Rows that can be described.
use Rattle.std.proofs.Common.{◌≡◌, Bool, true, false, ◌&&◌, ◌||◌, eqb, List, [], ◌∷◌, refl}
use Rattle.std.specs.List.{list_all}
use Rattle.layout.specs.Recording as recordings
use Rattle.layout.specs.Channels.{ruled}
use Rattle.channel.specs.declared.record.Channel.{Channel}
use Rattle.channel.specs.Records.{settings_of}
use Rattle.calls.specs.Calls.{settings, describable}

-- a row can be described: it keeps the rules, and repeats that are not recorded are 1
abbrev pub is_describable : Bool → recordings.Channel → Bool
is_describable kept c = ruled c && (kept || eqb c.repeats 1)

-- the rows can be described exactly if each can
pub describable-all : (kept : Bool) (t : List Channel) → list_all (λ row. is_describable kept (settings_of row)) t ≡ describable kept (settings t)
unfolding describable
describable-all kept [] = refl
describable-all kept (r ∷ rs) = by_tests (ruled (settings_of r)) (kept || eqb (settings_of r).repeats 1) (describable-all kept rs)
  where
    by_tests : (a b : Bool) {x y : Bool} → x ≡ y → ((a && b) && x) ≡ (a && (b && y))
    by_tests true true e = e
    by_tests true false e = refl
    by_tests false b e = refl
