-- A section is read in two stages: its head, and what follows the head.
use Rattle.std.proofs.Common.{◌≡◌, ℕ, ◌+◌, ◌/◌, Bool, true, false, cond, leb, List, Some, None, Option, sym, refl, ◌∙◌}
use Rattle.format.specs.Cells.{File, size, number}
use Rattle.format.specs.Format.{Outcome, got, fault, next, field, whole, ◌>>=◌, judged, choose, ahead, times}
use Rattle.layout.specs.Recording.{Channel}
use Rattle.layout.specs.Slim.{Flags, Piece, goes_on, body, piece, channel_count, counted, closed, recorded, channel}
use Rattle.layout.specs.Turns.{first, count_words}
use Rattle.calls.specs.Parts.{described}
use Rattle.reader.specs.Sections.{raw_field, pointer_field, head, agrees, rest}

-- two stages as one
pub stages : {A B C : Type 0} (o : Outcome A) (h : A → ℕ → ℕ → Outcome B) (k : B → ℕ → ℕ → Outcome C) (k' : A → ℕ → ℕ → Outcome C) →
    ((a : A) (q m : ℕ) → k' a q m ≡ next (h a q m) k) → next o k' ≡ next (next o h) k
unfolding next
stages (got a q m) h k k' e = e a q m
stages (fault n q) h k k' e = refl

pub next-same : {A B : Type 0} (o : Outcome A) (k k' : A → ℕ → ℕ → Outcome B) → ((a : A) (q m : ℕ) → k a q m ≡ k' a q m) → next o k ≡ next o k'
unfolding next
next-same (got a q m) k k' e = e a q m
next-same (fault n q) k k' e = refl

-- the pointer is judged behind the section
module _ (g : Flags) (room : Bool) (raw : ℕ) (f : File) where
  abbrev judge : Option ℕ → Piece → ℕ → ℕ → Outcome Piece
  judge t x q m = cond (agrees t (cond (goes_on x.closing) (q / 8) 0)) (got x q m) (fault 15 m)

  abbrev behind : Option ℕ → List Channel → ℕ → ℕ → Outcome Piece
  behind t cs q m = (rest room (record { raw = raw; pointer = t; channels = cs })).reads f q m

  descriptions : (t : Option ℕ) (p l : ℕ) → next ((body g room raw).reads f p l) (judge t) ≡ next ((described g).reads f p l) (behind t)
  unfolding body described ◌>>=◌ rest judged
  descriptions t p l =
      sym (stages ((channel_count g).reads f p l) (λ c q m. next ((times c (channel (recorded g c))).reads f q m) (λ cs q m. (counted (count_words cs first raw raw) (closed room cs)).reads f q m)) (judge t)
      (λ c q m. next ((times c (channel (recorded g c))).reads f q m) (behind t))
      (λ c q m. stages ((times c (channel (recorded g c))).reads f q m) (λ cs q m. (counted (count_words cs first raw raw) (closed room cs)).reads f q m) (judge t) (behind t) (λ cs q m. refl)))
      ∙ stages ((channel_count g).reads f p l) (λ c q m. (times c (channel (recorded g c))).reads f q m) (behind t) (λ c q m. next ((times c (channel (recorded g c))).reads f q m) (behind t)) (λ c q m. refl)

  unjudged : (o : Outcome Piece) → o ≡ next o (judge None)
  unfolding next
  unjudged (got x q m) = refl
  unjudged (fault n q) = refl

  -- behind the raw size
  pub pointed-body : (t : Bool) (p l : ℕ) →
      (choose t (ahead 32 (λ (x : Piece) q. cond (goes_on x.closing) (q / 8) 0) 15 (body g room raw)) (body g room raw)).reads f p l
      ≡ next ((pointer_field t).reads f p l) (λ t q m. next ((described g).reads f q m) (behind t))
  unfolding choose ahead pointer_field ◌>>=◌ field whole next
  pointed-body true p l = by-test (leb (p + 32) (size f))
    where
      by-test : (t : Bool) →
          cond t (next ((body g room raw).reads f (p + 32) p) (judge (Some (number f 32 p)))) (fault 11 p)
          ≡ next (next (cond t (got (number f 32 p) (p + 32) p) (fault 11 p)) (λ n q m. got (Some n) q m)) (λ t q m. next ((described g).reads f q m) (behind t))
      by-test true = descriptions (Some (number f 32 p)) (p + 32) p
      by-test false = refl
  pointed-body false p l = unjudged ((body g room raw).reads f p l) ∙ descriptions None p l

-- a section: its head, and what follows the head
pub section-stages : (g : Flags) (room : Bool) (total : ℕ) (f : File) (p l : ℕ) →
    (piece g room total).reads f p l ≡ next ((head g total).reads f p l) (λ h q m. (rest room h).reads f q m)
unfolding piece head raw_field ◌>>=◌ whole rest next
section-stages g room total f p l =
    next-same ((raw_field total).reads f p l) _ _ (λ raw q m. pointed-body g room raw f g.pointed q m)
    ∙ stages ((raw_field total).reads f p l) _ (λ h q m. (rest room h).reads f q m)
    (λ raw q m. next ((pointer_field g.pointed).reads f q m) (λ t q m. next ((described g).reads f q m) (λ cs q m. (rest room (record { raw = raw; pointer = t; channels = cs })).reads f q m)))
    (λ raw q m. stages ((pointer_field g.pointed).reads f q m) _ _ _ (λ t q m. stages ((described g).reads f q m) _ _ _ (λ cs q m. refl)))
