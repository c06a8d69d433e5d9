-- What is claimed of checking.
use Rattle.std.specs.Prelude.{◌≡◌, ℕ, List, [], ◌++◌}
use Rattle.faults.specs.Faults.{gives}
use Rattle.layout.specs.Recording.{Recording}
use Rattle.layout.specs.Claims.{Valid, PadsApart, file}
use Rattle.reader.specs.declared.totals.Totals.{Totals}
use Rattle.reader.specs.Counts.{recording_totals, check_answer}

-- The file f is accepted, with the numbers t.
abbrev pub Accepts : List ℕ → Totals → Type 0
Accepts f t = check_answer f ≡ gives t

pub record CheckingStands : Type 0 where
  -- a file is accepted exactly where it differs from a recording's file in pad bits alone, and its numbers are those of the recording
  pub only : (f : List ℕ) (t : Totals) → Accepts f t → (r : Recording) × Valid r × PadsApart f r × (t ≡ recording_totals r)
  pub every : (f : List ℕ) (r : Recording) → Valid r → PadsApart f r → Accepts f (recording_totals r)
  -- so the file of each recording is
  pub again : (r : Recording) → Valid r → Accepts (file r) (recording_totals r)
  -- an accepted file is no longer accepted with bytes behind it or without bytes of its end
  pub nothing_behind : (f g : List ℕ) (t u : Totals) → Accepts f t → Accepts (f ++ g) u → g ≡ []
  -- two recordings never have the same file
  pub apart : (r s : Recording) → Valid r → Valid s → file r ≡ file s → r ≡ s
