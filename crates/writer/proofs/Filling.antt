-- A fill is an opening and what is poured behind it.
use Rattle.std.proofs.Common.{◌≡◌, ℕ, ◌+◌, ◌*◌, Bool, true, false, cond, not, eqb, ltb, List, [], ◌∷◌, map, length, Some, None, Ok, Err, Option, Result, sym, refl, ap, ◌∙◌, arith}
use Rattle.std.proofs.lemmas.Bool.Decides.{nat_tests}
use Rattle.bits.specs.Bits.{cleared_from}
use Rattle.forms.proofs.Codes.{none-some}
use Rattle.layout.specs.Slim.{recorded}
use Rattle.channel.specs.declared.record.Channel.{Channel}
use Rattle.channel.specs.Records.{rested}
use Rattle.state.specs.declared.Edge.{Edge}
use Rattle.state.specs.declared.Spot.{Spot}
use Rattle.calls.specs.Calls as calls
use Rattle.calls.specs.Calls.{Trouble, answer, unless, settings, start, section, open_spot, open_result, open_bytes, open_table, wrong_count, describable, putting, put_spot, put_bytes, put_table, coded, next_row, form_in, moved_on, Putting, puts, longer, fill_puts, words_of, cut_short, earlier, later_fault, fill_answer, fill_result, fill_leaves, fill_bytes, fill_table}
use Rattle.calls.proofs.Keeping.{settings-rested}
use Rattle.writer.specs.Filling.{poured}
use Rattle.writer.proofs.Putting.{moved}

-- ## Answers apart

abbrev faulted : {A E : Type 0} → Result A E → Option E
faulted (Ok a) = None
faulted (Err f) = Some f

abbrev given : {A E : Type 0} → A → Result A E → A
given d (Ok a) = a
given d (Err f) = d

abbrev some_of : {A : Type 0} → A → Option A → A
some_of d None = d
some_of d (Some x) = x

-- a call that answered a fault met it
pub met : {A E : Type 0} (g : Trouble → E) (a : A) (o : Option Trouble) (x : E) → Err x ≡ answer o a g → (f : Trouble) × ((o ≡ Some f) × (x ≡ g f))
met g a None x e = absurd (none-some (sym (ap faulted e)))
met g a (Some f) x e = (f, (refl, ap (λ r. some_of x (faulted r)) e))

-- and one that did not answer one met none
pub met-none : {A E : Type 0} (g : Trouble → E) (a y : A) (o : Option Trouble) → Ok y ≡ answer o a g → (o ≡ None) × (y ≡ a)
met-none g a y None e = (refl, ap (given y) e)
met-none g a y (Some f) e = absurd (none-some (ap faulted e))

-- ## What an accepted opening leaves

-- the tests that it passed
pub passed : (e : Edge) (b : List ℕ) (t : List Channel) → calls.opening e b t ≡ None → (length b ≡ e.len) × (describable (recorded (calls.flags e.flags) (length (settings t))) (settings t) ≡ true)
passed e b t o = by_tests (eqb (length b) e.len) (wrong_count e.flags (length (settings t))) (describable (recorded (calls.flags e.flags) (length (settings t))) (settings t)) (ltb (8 * length b) (start e + length (section e t))) refl o
  where
    by_tests : (w x y z : Bool) → eqb (length b) e.len ≡ w → cond {A = Option Trouble} (not w) (Some (1, 0)) (cond x (Some (5, start e)) (cond (not y) (Some (6, start e)) (cond z (Some (2, start e)) None))) ≡ None → (length b ≡ e.len) × (y ≡ true)
    by_tests false x y z h o = absurd (none-some (sym o))
    by_tests true true y z h o = absurd (none-some (sym o))
    by_tests true false false z h o = absurd (none-some (sym o))
    by_tests true false true z h o = (grind (arith, nat_tests), refl)

-- ## Words leave the edge where it is

puts-edge : (ws : List ℕ) (s : Spot) (b : List ℕ) (t : List Channel) → (puts s b t ws).spot.edge ≡ s.edge
unfolding puts
puts-edge [] s b t = refl
puts-edge (w ∷ ws) s b t = by-fault (putting s b t w) (puts-edge ws (put_spot s b t w) (put_bytes s b t w) (put_table s b t w)) refl
  where
    P : Putting
    P = puts (put_spot s b t w) (put_bytes s b t w) (put_table s b t w) ws

    n : ℕ
    n = length (form_in (coded (next_row s t) w))

    one : (o : Option Trouble) → (unless o s (moved_on s (next_row s t) n)).edge ≡ s.edge
    one None = (moved s (next_row s t) n).edge
    one (Some f) = refl

    by-fault : (o : Option Trouble) → P.spot.edge ≡ (put_spot s b t w).edge → putting s b t w ≡ o →
        (elim o as (λ x. Putting) [ None ↦ longer n P | Some f ↦ record { fault = Some f; sum = 0; spot = s; bytes = b; table = t } ]).spot.edge ≡ s.edge
    by-fault None i q = i ∙ one (putting s b t w)
    by-fault (Some f) i q = refl

-- ## The fill

-- what is poured behind an accepted opening
pub same-puts : (e : Edge) (b : List ℕ) (t : List Channel) (raw : List ℕ) (s : Spot) (b' : List ℕ) (t' : List Channel) → s ≡ open_spot e (section e t) (length t) → b' ≡ open_bytes e b t → t' ≡ open_table e b t → calls.opening e b t ≡ None →
    (poured s b' t' raw ≡ fill_puts e b t raw) × (cut_short (settings t') raw ≡ cut_short (settings t) raw)
same-puts e b t raw s b' t' es eb et o =
    let u : t' ≡ map rested t = et ∙ ap (λ z. unless z t (map rested t)) o in
    let k : settings t' ≡ settings t = ap settings u ∙ settings-rested t in (
      ap (λ z. puts s b' t' (words_of z raw)) k
          ∙ ap (λ z. puts z b' t' (words_of (settings t) raw)) es
          ∙ ap (λ z. puts (open_spot e (section e t) (length t)) z t' (words_of (settings t) raw)) eb
          ∙ ap (λ z. puts (open_spot e (section e t) (length t)) (open_bytes e b t) z (words_of (settings t) raw)) et,
      ap (λ z. cut_short z raw) k,
    )

pub fill-edge : (e : Edge) (b : List ℕ) (t : List Channel) (raw : List ℕ) → (fill_puts e b t raw).spot.edge ≡ e
fill-edge e b t raw = puts-edge (words_of (settings t) raw) (open_spot e (section e t) (length t)) (open_bytes e b t) (open_table e b t)

-- the answer and what is left, by the two faults
pub record Fills (e : Edge) (b : List ℕ) (t : List Channel) (raw : List ℕ) (answer : Result (ℕ × Spot) (Edge × Trouble)) (bytes : List ℕ) (table : List Channel) : Type 0 where
  pub answers : answer ≡ fill_result e b t raw
  pub writes : bytes ≡ fill_bytes e b t raw
  pub rows : table ≡ fill_table e b t raw

pub fills-by : (e : Edge) (b : List ℕ) (t : List Channel) (raw : List ℕ) (o l : Option Trouble) → calls.opening e b t ≡ o → later_fault (fill_puts e b t raw) (cut_short (settings t) raw) ≡ l →
    Fills e b t raw (calls.answer (earlier o l) ((fill_puts e b t raw).sum, (fill_puts e b t raw).spot) (λ f. (e, f)))
    (fill_leaves o l b (cleared_from (fill_puts e b t raw).bytes (start e)) (fill_puts e b t raw).bytes)
    (fill_leaves o l t (map rested (fill_puts e b t raw).table) (fill_puts e b t raw).table)
fills-by e b t raw o l x y =
    let p : Putting = fill_puts e b t raw in
    let O = calls.opening e b t in
    let L = later_fault p (cut_short (settings t) raw) in
    record {
      answers = sym (ap (λ z. calls.answer (earlier z L) (p.sum, p.spot) (λ f. (e, f))) x ∙ ap (λ z. calls.answer (earlier o z) (p.sum, p.spot) (λ f. (e, f))) y);
      writes = sym (ap (λ z. fill_leaves z L b (cleared_from p.bytes (start e)) p.bytes) x ∙ ap (λ z. fill_leaves o z b (cleared_from p.bytes (start e)) p.bytes) y);
      rows = sym (ap (λ z. fill_leaves z L t (map rested p.table) p.table) x ∙ ap (λ z. fill_leaves o z t (map rested p.table) p.table) y);
    }
