-- Rows that are read one after the other into a table.
use Rattle.std.proofs.Common.{◌≡◌, ℕ, ◌+◌, ◌-◌, ◌<◌, ◌≤◌, Bool, List, [], ◌∷◌, ◌++◌, map, length, take, set, IfOk, Ok, Err, Result, sym, refl, ap, ◌∙◌, arith, length-append}
use Rattle.std.proofs.lemmas.List.{map-append, take_more_set, take-append-le}
use Rattle.faults.specs.declared.kind.Fault.{Fault}
use Rattle.format.specs.Cells.{File}
use Rattle.format.specs.Format.{Outcome, got, fault, times}
use Rattle.format.proofs.Loops.{before, left, left-start, left-more, left-fault, left_end}
use Rattle.layout.specs.Recording as recordings
use Rattle.layout.specs.Slim.{channel}
use Rattle.channel.specs.declared.record.Channel.{Channel}
use Rattle.channel.specs.Records.{settings_of, rested}
use Rattle.calls.specs.Calls.{settings}
use Rattle.reading.specs.declared.taken.Taken.{Taken}
use Rattle.reading.specs.Told.{told}
use Rattle.reader.specs.Sections.{rows_in, AtRest}

pub rows_more : (t : List Channel) (i : ℕ) (x : Channel) → i < length t → rows_in (set t i x) (i + 1) ≡ rows_in t i ++ settings_of x ∷ []
rows_more t i x h = ap settings (take_more_set t i x h) ∙ map-append settings_of (take i t) (x ∷ [])

pub rest_more : (t : List Channel) (i : ℕ) (x : Channel) → i < length t → map rested (take i t) ≡ take i t → x.memory ≡ 0 → map rested (take (i + 1) (set t i x)) ≡ take (i + 1) (set t i x)
rest_more t i x h r z =
    let e = take_more_set t i x h in
    let m : rested x ≡ x = ap (λ (k : ℕ). record { settings = x.settings; memory = k }) (sym z) in
    ap (map rested) e ∙ map-append rested (take i t) (x ∷ []) ∙ ap (λ ys. ys ++ rested x ∷ []) r ∙ ap (λ (y : Channel). take i t ++ y ∷ []) m ∙ sym e

-- the rows so far, and behind them those that are left to read
unfoldable pub so_far : Bool → File → ℕ → List recordings.Channel → ℕ → ℕ → ℕ → Outcome (List recordings.Channel)
so_far kept f n cs i p l = before cs (left (λ (u : Unit {0}). channel kept) (λ u a. tt) f (n - i) tt p l)

module _ (kept : Bool) (f : File) (n p₀ l₀ : ℕ) where
  abbrev wanted : Outcome (List recordings.Channel)
  wanted = (times n (channel kept)).reads f p₀ l₀

  pub rows_start : (t : List Channel) → so_far kept f n (rows_in t 0) 0 p₀ l₀ ≡ wanted
  unfolding times so_far
  rows_start t =
      let z : n - 0 ≡ n = omega arith in
      ap (λ k. before [] (left (λ (u : Unit {0}). channel kept) (λ u a. tt) f k tt p₀ l₀)) z ∙ left-start (λ (u : Unit {0}). channel kept) (λ u a. tt) f n tt p₀ l₀

  pub rows_step : (t : List Channel) (x : Channel) (i p l q m : ℕ) → i < n → i < length t → so_far kept f n (rows_in t i) i p l ≡ wanted → got (settings_of x) q m ≡ (channel kept).reads f p l →
      so_far kept f n (rows_in (set t i x) (i + 1)) (i + 1) q m ≡ wanted
  unfolding so_far
  rows_step t x i p l q m h k e r =
      ap (λ cs. so_far kept f n cs (i + 1) q m) (rows_more t i x k)
      ∙ sym (left-more (λ (u : Unit {0}). channel kept) (λ u a. tt) f n i tt p l (rows_in t i) (settings_of x) q m h (sym r)) ∙ e

  pub rows-fault : (t : List Channel) (i p l x y : ℕ) → i < n → so_far kept f n (rows_in t i) i p l ≡ wanted → fault x y ≡ (channel kept).reads f p l → fault x y ≡ wanted
  unfolding so_far
  rows-fault t i p l x y h e r = sym (left-fault (λ (u : Unit {0}). channel kept) (λ u a. tt) f n i tt p l (rows_in t i) x y h (sym r)) ∙ e

  pub rows_end : (t : List Channel) (i p l : ℕ) → i ≡ n → so_far kept f n (rows_in t i) i p l ≡ wanted → got (rows_in t n) p l ≡ wanted
  unfolding so_far
  rows_end t i p l d e =
      let z : n - i ≡ 0 = omega arith in
      ap (λ k. got (rows_in t k) p l) (sym d)
      ∙ sym (left_end (λ (u : Unit {0}). channel kept) (λ u a. tt) f tt p l (rows_in t i))
      ∙ ap (λ k. before (rows_in t i) (left (λ (u : Unit {0}). channel kept) (λ u a. tt) f k tt p l)) (sym z) ∙ e

-- the rows in front of others
pub rows_front : (rows more : List Channel) (n : ℕ) → n ≡ length rows → take n (rows ++ more) ≡ take n rows
rows_front rows more n e = take-append-le n rows more (omega (arith, e))

pub rows-told : (rows more : List Channel) (r : Result (Taken ℕ) Fault) → IfOk r (λ t. t.value ≡ length rows) → told (rows_in (rows ++ more)) r ≡ told (rows_in rows) r
rows-told rows more (Ok t) h = ap (λ (cs : List Channel). got (settings cs) t.end.at.bits t.end.last.bits) (rows_front rows more t.value h)
rows-told rows more (Err e) h = refl

pub rows-rest : (rows more : List Channel) (r : Result (Taken ℕ) Fault) → IfOk r (λ t. t.value ≡ length rows) → AtRest (λ n. n) rows r → AtRest (λ n. n) (rows ++ more) r
rows-rest rows more (Ok t) h (fits, same) = (omega (arith, fits, length-append rows more), rw (rows_front rows more t.value h) same)
rows-rest rows more (Err e) h d = tt

pub rows_most : (rows : List Channel) (r : Result (Taken ℕ) Fault) → length rows ≤ 32 → IfOk r (λ t. t.value ≡ length rows) → IfOk r (λ t. t.value ≤ 32)
rows_most rows (Ok t) h e = omega (arith, h, e)
rows_most rows (Err e) h d = tt
