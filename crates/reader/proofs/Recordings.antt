-- A file is read in two stages: its head, and what follows the head.
use Rattle.std.proofs.Common.{◌≡◌, ℕ, ◌+◌, ◌*◌, ◌<◌, ◌≤◌, Bool, true, false, cond, eqb, ltb, leb, List, length, IsErrAnd, Some, None, Ok, Err, Option, Result, sym, refl, ap, ◌∙◌}
use Rattle.std.specs.Option.{MatchOption}
use Rattle.std.specs.Bool.{IsTrue}
use Rattle.std.proofs.lemmas.Bool.{lt-ltb, le-ltb, ltb-true, ltb-false, eq-eqb, ne_eqb}
use Rattle.bits.specs.Bits.{bits_of}
use Rattle.faults.specs.Faults as faults
use Rattle.faults.specs.Faults.{Answer, gives, answered, number_of}
use Rattle.fields.specs.declared.place.BitPlace.{BitPlace}
use Rattle.faults.specs.declared.kind.Kind.{Kind}
use Rattle.faults.specs.declared.kind.Fault.{Fault}
use Rattle.format.specs.Cells.{File, size, number}
use Rattle.format.specs.Format.{Outcome, got, fault, next, Format, field, whole, ◌>>=◌, judged, choose, ahead}
use Rattle.layout.specs.Recording.{Recording}
use Rattle.layout.specs.Slim.{any, most_bytes, most_name, flag, flagged, name_bytes, extra_bytes, raw_total, Body, chain, after_flags, recording, read}
use Rattle.reading.specs.Heads as heads
use Rattle.reading.specs.Heads.{size_field}
use Rattle.reading.proofs.Steps.{next-on, next-not, then-on, then-not, whole-on, judged-on, judged-off, judged-not}
use Rattle.reader.specs.declared.totals.Totals.{Totals}
use Rattle.reader.specs.Sections.{agrees}
use Rattle.reader.specs.Files.{section_flags, recording_of, after_head}
use Rattle.reader.specs.Counts.{seen, body_totals, answer_totals, check_answer}
use Rattle.reader.proofs.Stages.{stages}
use Rattle.reader.proofs.Sound.{seen_back}
use Rattle.reader.specs.Walks.{head_read}
use Rattle.reader.proofs.Passed.{unseen}
use Rattle.reader.proofs.Walks.{head-back}

-- the size is judged behind the sections
module _ (s g : ℕ) (f : File) where
  abbrev judge : Option ℕ → Recording → ℕ → ℕ → Outcome Recording
  judge z r q m = cond (agrees z (raw_total r.sections)) (got r q m) (fault 14 m)

  abbrev after : Option ℕ → Option (List ℕ) → Option (List ℕ) → ℕ → ℕ → Outcome Recording
  after z n x q m = (after_head (record { stamp = s; flags = g; size = z; name = n; extra = x })).reads f q m

  abbrev Name : Format (Option (List ℕ))
  Name = flagged (flag 1 g) (name_bytes most_name)

  abbrev Extra : Format (Option (List ℕ))
  Extra = flagged (flag 2 g) extra_bytes

  abbrev named : Option ℕ → ℕ → ℕ → Outcome Recording
  named z p l = next (Name.reads f p l) (λ n q m. next (Extra.reads f q m) (after z n))

  parts : (z : Option ℕ) (p l : ℕ) → next ((after_flags s g).reads f p l) (judge z) ≡ named z p l
  unfolding after_flags ◌>>=◌ after_head judged
  parts z p l =
      sym (stages (Name.reads f p l) _ (judge z) (λ n q m. next (Extra.reads f q m) (after z n))
      (λ n q m. stages (Extra.reads f q m) _ (judge z) (after z n) (λ x q m. refl)))

  unjudged : (o : Outcome Recording) → o ≡ next o (judge None)
  unfolding next
  unjudged (got x q m) = refl
  unjudged (fault n q) = refl

  -- behind the flags
  pub sized : (t : Bool) (p l : ℕ) →
      (choose t (ahead 32 (λ (r : Recording) q. raw_total r.sections) 14 (after_flags s g)) (after_flags s g)).reads f p l ≡ next ((size_field t).reads f p l) named
  unfolding choose ahead size_field ◌>>=◌ field whole next
  sized true p l = by-test (leb (p + 32) (size f))
    where
      by-test : (t : Bool) →
          cond t (next ((after_flags s g).reads f (p + 32) p) (judge (Some (number f 32 p)))) (fault 11 p) ≡ next (next (cond t (got (number f 32 p) (p + 32) p) (fault 11 p)) (λ n q m. got (Some n) q m)) named
      by-test true = parts (Some (number f 32 p)) (p + 32) p
      by-test false = refl
  sized false p l = unjudged ((after_flags s g).reads f p l) ∙ parts None p l

-- a file: its head, and what follows the head
pub file-stages : (f : File) (p l : ℕ) → recording.reads f p l ≡ next ((heads.head).reads f p l) (λ h q m. (after_head h).reads f q m)
unfolding recording heads.head ◌>>=◌ whole next
file-stages f p l =
    stages ((field 16 (eqb 0x4c53) 12).reads f p l) _ (λ h q m. (after_head h).reads f q m) _
    (λ u q m. stages ((field 32 any 0).reads f q m) _ (λ h q m. (after_head h).reads f q m) _
    (λ s q m. stages ((field 8 (λ g. ltb g 64) 3).reads f q m) _ (λ h q m. (after_head h).reads f q m) _
    (λ g q m. sized s g f (flag 0 g) q m
    ∙ stages ((size_field (flag 0 g)).reads f q m) _ (λ h q m. (after_head h).reads f q m) (named s g f)
    (λ z q m. stages ((flagged (flag 1 g) (name_bytes most_name)).reads f q m) _ (λ h q m. (after_head h).reads f q m) _
    (λ n q m. stages ((flagged (flag 2 g) extra_bytes).reads f q m) _ (λ h q m. (after_head h).reads f q m) _ (λ x q m. refl))))))

-- ## Checking

-- behind the limit on the file's length
checked : (f : List ℕ) → length f ≤ most_bytes →
    check_answer f ≡ answer_totals (next (recording.reads (bits_of f) 0 0) (λ r p l. cond (eqb p (8 * length f)) (got r p l) (fault 18 l)))
unfolding read
checked f h = let t = le-ltb most_bytes (length f) h in rw t refl

pub check-long : (f : List ℕ) → most_bytes < length f → faults.fault 1 0 ≡ check_answer f
unfolding read
check-long f h = let t = lt-ltb most_bytes (length f) h in rw t refl

module _ (f : List ℕ) (short : length f ≤ most_bytes) where
  abbrev bits : File
  bits = bits_of f

  not-read : {x y : ℕ} → fault x y ≡ recording.reads bits 0 0 → faults.fault x y ≡ check_answer f
  not-read {x} {y} e = ap answer_totals (next-not (recording.reads bits 0 0) (λ r p l. cond (eqb p (8 * length f)) (got r p l) (fault 18 l)) x y e) ∙ sym (checked f short)

  pub check-no-head : {x y : ℕ} → fault x y ≡ (heads.head).reads bits 0 0 → faults.fault x y ≡ check_answer f
  check-no-head {x} {y} e = not-read (next-not ((heads.head).reads bits 0 0) (λ h q m. (after_head h).reads bits q m) x y e ∙ sym (file-stages bits 0 0))

  module _ (h : heads.Head) (p l : ℕ) (e : got h p l ≡ (heads.head).reads bits 0 0) where
    abbrev Chain : Outcome Body
    Chain = (chain (section_flags h) 64 0).reads bits p l

    behind : (o : Outcome Recording) → o ≡ (after_head h).reads bits p l → o ≡ recording.reads bits 0 0
    behind o d = d ∙ next-on ((heads.head).reads bits 0 0) (λ h q m. (after_head h).reads bits q m) h p l e ∙ sym (file-stages bits 0 0)

    no-chain : {x y : ℕ} → fault x y ≡ Chain → fault x y ≡ (after_head h).reads bits p l
    unfolding after_head
    no-chain d = judged-not _ _ _ (then-not _ _ d)

    pub check-no-sections : {x y : ℕ} → fault x y ≡ seen body_totals Chain → faults.fault x y ≡ check_answer f
    check-no-sections {x} {y} d = not-read (behind (fault x y) (no-chain (unseen body_totals Chain x y d)))

    module _ (b : Body) (q m : ℕ) (d : got b q m ≡ Chain) where
      wrong_size : agrees h.size (raw_total b.sections) ≡ false → fault 14 m ≡ (after_head h).reads bits p l
      unfolding after_head
      wrong_size t = judged-off _ _ _ (then-on _ _ d (whole-on _ _ _ _)) t

      right-size : agrees h.size (raw_total b.sections) ≡ true → got (recording_of h b) q m ≡ (after_head h).reads bits p l
      unfolding after_head
      right-size t = judged-on _ _ _ (then-on _ _ d (whole-on _ _ _ _)) t

      at-end : agrees h.size (raw_total b.sections) ≡ true → answer_totals (cond (eqb q (8 * length f)) (got (recording_of h b) q m) (fault 18 m)) ≡ check_answer f
      at-end t =
          ap answer_totals (next-on (recording.reads bits 0 0) (λ r p l. cond (eqb p (8 * length f)) (got r p l) (fault 18 l)) (recording_of h b) q m (behind (got (recording_of h b) q m) (right-size t)))
          ∙ sym (checked f short)

    module _ (t : Totals) (q m : ℕ) (d : got t q m ≡ seen body_totals Chain) where
      pub check-size : agrees h.size t.raw ≡ false → faults.fault 14 m ≡ check_answer f
      check-size a =
          let (b, v, c) = seen_back body_totals Chain t q m d in
          not-read (behind (fault 14 m) (wrong_size b q m (sym c) (ap (λ (z : Totals). agrees h.size z.raw) (sym v) ∙ a)))

      pub check-behind : agrees h.size t.raw ≡ true → (q ≡ 8 * length f → ⊥) → faults.fault 18 m ≡ check_answer f
      check-behind a n =
          let (b, v, c) = seen_back body_totals Chain t q m d in
          let z = ne_eqb q (8 * length f) n in
          ap (λ (x : Bool). answer_totals (cond x (got (recording_of h b) q m) (fault 18 m))) (sym z) ∙ at-end b q m (sym c) (ap (λ (z : Totals). agrees h.size z.raw) (sym v) ∙ a)

      pub check-on : agrees h.size t.raw ≡ true → q ≡ 8 * length f → gives t ≡ check_answer f
      check-on a n =
          let (b, v, c) = seen_back body_totals Chain t q m d in
          let z = eq-eqb q (8 * length f) n in
          ap (λ (x : Totals). gives x) v
          ∙ ap (λ (x : Bool). answer_totals (cond x (got (recording_of h b) q m) (fault 18 m))) (sym z) ∙ at-end b q m (sym c) (ap (λ (z : Totals). agrees h.size z.raw) (sym v) ∙ a)

-- ## Answers

-- a fault that is handed on
pub handed-on : {T A : Type 0} (value : T → A) (r : Result T Fault) (e : Fault) (o : Answer A) → IsErrAnd r (λ x. x ≡ e) →
    faults.fault (number_of e.kind) e.place.bits ≡ o → answered value r ≡ o
handed-on value (Ok t) e o h d = absurd h
handed-on value (Err x) e o h d = ap (λ (z : Fault). faults.fault (number_of z.kind) z.place.bits) h ∙ d

-- a fault that was made
pub fault_stands : {A : Type 0} {r : Fault} {k : Kind} {at : BitPlace} {o : Answer A} → r ≡ record { kind = k; place = at } → faults.fault (number_of k) at.bits ≡ o → faults.fault (number_of r.kind) r.place.bits ≡ o
fault_stands e h = ap (λ (z : Fault). faults.fault (number_of z.kind) z.place.bits) e ∙ h

-- a test of a number that may be absent
pub test-agrees : (o : Option ℕ) (v : ℕ) (b : Bool) (P : ℕ → Type 0) → MatchOption o (IsTrue b) P → ((x : ℕ) → P x → b ≡ eqb x v) → b ≡ agrees o v
test-agrees None v b P h each = h
test-agrees (Some x) v b P h each = each x h

-- a walk did not begin
pub check-no-walk : (f : List ℕ) {x y : ℕ} → fault x y ≡ head_read f → faults.fault x y ≡ check_answer f
check-no-walk f {x} {y} e = by-test (ltb most_bytes (length f)) refl
  where
    by-test : (t : Bool) → ltb most_bytes (length f) ≡ t → faults.fault x y ≡ check_answer f
    by-test true h =
        let d : ◌≡◌ {A = Outcome heads.Head} (fault x y) (fault 1 0) = e ∙ ap (λ (b : Bool). cond b (fault 1 0) ((heads.head).reads (bits_of f) 0 0)) h in
        let a : x ≡ 1 = cc in
        let b : y ≡ 0 = cc in
        ap (λ (k : ℕ). faults.fault k y) a ∙ ap (λ (k : ℕ). faults.fault 1 k) b ∙ check-long f (ltb-true most_bytes (length f) h)
    by-test false h =
        let few = ltb-false most_bytes (length f) h in
        check-no-head f few (head-back f (fault x y) few e)
