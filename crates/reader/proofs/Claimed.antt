-- Checking stands, since the format does.
use Rattle.std.proofs.Common.{◌≡◌, ℕ, List, [], ◌++◌, sym, refl, ap, arith}
use Rattle.faults.specs.Faults.{Answer, gives}
use Rattle.format.specs.Format.{Outcome, got, fault}
use Rattle.layout.specs.Recording.{Recording}
use Rattle.layout.specs.Slim.{read}
use Rattle.layout.specs.Claims.{Valid, Gives, PadsApart, file}
use Rattle.layout.proofs.Stands.{format_stands}
use Rattle.reader.specs.declared.totals.Totals.{Totals}
use Rattle.reader.specs.Counts.{recording_totals, answer_totals}
use Rattle.reader.specs.Claims.{Accepts, CheckingStands}

gives_apart : {t u : Totals} → ◌≡◌ {A = Answer Totals} (gives t) (gives u) → t ≡ u
gives_apart e = cc

-- an accepted file gives a recording
pub accepted : (o : Outcome Recording) (t : Totals) → answer_totals o ≡ gives t → (r : Recording) × (p : ℕ) × (l : ℕ) × (o ≡ got r p l) × (t ≡ recording_totals r)
accepted (got r p l) t e = (r, p, l, refl, sym (gives_apart e))
accepted (fault n q) t e = let z : ◌≡◌ {A = ℕ} 0 1 = cc in absurd (omega arith)

accepts : (f : List ℕ) (r : Recording) → Gives f r → Accepts f (recording_totals r)
accepts f r (p, l, e) = ap answer_totals e

only : (f : List ℕ) (t : Totals) → Accepts f t → (r : Recording) × Valid r × PadsApart f r × (t ≡ recording_totals r)
only f t e =
    let (r, p, l, d, same) = accepted (read f) t e in
    let (v, a) = format_stands.only f r (p, l, d) in
    (r, v, a, same)

every : (f : List ℕ) (r : Recording) → Valid r → PadsApart f r → Accepts f (recording_totals r)
every f r v a = accepts f r (format_stands.every f r v a)

again : (r : Recording) → Valid r → Accepts (file r) (recording_totals r)
again r v = accepts (file r) r (format_stands.again r v)

nothing_behind : (f g : List ℕ) (t u : Totals) → Accepts f t → Accepts (f ++ g) u → g ≡ []
nothing_behind f g t u a b =
    let (r, p, l, d, _) = accepted (read f) t a in
    let (s, q, m, e, _) = accepted (read (f ++ g)) u b in
    format_stands.nothing_behind f g r s (p, l, d) (q, m, e)

pub checking_stands : CheckingStands
checking_stands = record { only = only; every = every; again = again; nothing_behind = nothing_behind; apart = format_stands.apart }
