-- Walks over the sections of a file.
use Rattle.std.proofs.Common.{◌≡◌, ℕ, ◌+◌, ◌-◌, ◌<◌, ◌≤◌, Bool, true, false, cond, ltb, List, length, IsErrAnd, Ok, Err, Result, sym, refl, ap, ◌∙◌, subst, arith}
use borrow.Author.Tests.{ltb-true, ltb-false}
use Rattle.std.proofs.lemmas.Bool.{lt-ltb, le-ltb}
use Rattle.bits.specs.Bits.{bits_of}
use Rattle.faults.specs.Faults.{number_of}
use Rattle.faults.specs.declared.kind.Kind.TheVariants.{WrongLength}
use Rattle.faults.specs.declared.kind.Fault.{Fault}
use Rattle.format.specs.Format.{Outcome, got, fault}
use Rattle.format.proofs.Laws.{faulted}
use Rattle.layout.specs.Slim as slim
use Rattle.layout.specs.Slim.{piece}
use Rattle.reading.specs.Heads as heads
use Rattle.reading.proofs.Looks.{fault-is}
use Rattle.reader.specs.declared.walk.Walk.{Walk}
use Rattle.reader.specs.Sections.{Head, head, rest}
use Rattle.reading.specs.declared.block.Block.{Block}
use Rattle.reading.specs.declared.closing.Closing.TheVariants.{Another, Ended}
use Rattle.reading.specs.Blocks.{closing_of}
use Rattle.reader.specs.declared.outline.Outline.{Outline}
use Rattle.reader.specs.Counts.{seen, outline, outline_in, body_totals}
use Rattle.reader.specs.Walks.{Standing, has_room, Begins, head_read, next_section, all_sections, moved, stepped}
use Rattle.reader.proofs.Passed.{section-no-head, section-rest, onward, onward-start, onward-end, pass-not, pass-bounds, pass-ended, pass-another}

-- a fault that is handed on
pub stopped : {T A : Type 0} (parts : T → A) (s : Standing) (r : Result T Fault) (e : Fault) (o : Outcome A) → IsErrAnd r (λ x. x ≡ e) → fault (number_of e.kind) e.place.bits ≡ o → stepped parts s r ≡ o
stopped parts s (Ok t) e o h d = absurd h
stopped parts s (Err x) e o h d = ap (λ (z : Fault). fault (number_of z.kind) z.place.bits) h ∙ d

-- the head of a file that is not too long
pub head-is : (f : List ℕ) (o : Outcome heads.Head) → length f ≤ 16777216 → o ≡ (heads.head).reads (bits_of f) 0 0 → o ≡ head_read f
head-is f o few e =
    let t : ltb 16777216 (length f) ≡ false = le-ltb 16777216 (length f) few in
    e ∙ ap (λ (x : Bool). cond x (fault 1 0) ((heads.head).reads (bits_of f) 0 0)) (sym t)

-- the head of one that is too long
pub head-long : (f : List ℕ) {e : Fault} → 16777216 < length f → e ≡ record { kind = WrongLength; place = record { bits = 0 } } → fault (number_of e.kind) e.place.bits ≡ head_read f
head-long f many e =
    let t : ltb 16777216 (length f) ≡ true = lt-ltb 16777216 (length f) many in
    fault-is e (ap (λ (x : Bool). cond x (fault 1 0) ((heads.head).reads (bits_of f) 0 0)) (sym t))

-- a walk that does not begin
pub not_begun : (f : List ℕ) (r : Result Walk Fault) (e : Fault) → IsErrAnd r (λ x. x ≡ e) → fault (number_of e.kind) e.place.bits ≡ head_read f → Begins f r
not_begun f (Ok w) e h d = absurd h
not_begun f (Err x) e h d = ap (λ (z : Fault). fault (number_of z.kind) z.place.bits) h ∙ d

pub head-back : (f : List ℕ) (o : Outcome heads.Head) → length f ≤ 16777216 → o ≡ head_read f → o ≡ (heads.head).reads (bits_of f) 0 0
head-back f o few e =
    let t : ltb 16777216 (length f) ≡ false = le-ltb 16777216 (length f) few in
    e ∙ ap (λ (x : Bool). cond x (fault 1 0) ((heads.head).reads (bits_of f) 0 0)) t

module _ (s : Standing) (l : ℕ) where
  abbrev read : Outcome (ℕ × ℕ × slim.Closing)
  read = seen outline ((piece s.flags (has_room s) s.raw).reads (bits_of s.file) s.place l)

  pub next-is : s.sections < 64 → read ≡ next_section s l
  next-is h = let t = lt-ltb s.sections 64 h in ap (λ (x : Bool). cond x read (fault 9 s.tried)) (sym t)

  pub next-not : 64 ≤ s.sections → fault 9 s.tried ≡ next_section s l
  next-not h = let t = le-ltb s.sections 64 h in ap (λ (x : Bool). cond x read (fault 9 s.tried)) (sym t)

  -- the head of the next section was not read
  pub next-no-head : {x y : ℕ} → s.sections < 64 → fault x y ≡ (head s.flags s.raw).reads (bits_of s.file) s.place l → fault x y ≡ next_section s l
  next-no-head h e = section-no-head s.flags (has_room s) s.raw (bits_of s.file) s.place l e ∙ next-is h

  -- it was, and what follows it is read from where the walk then stands
  module _ (v : Standing) (same : v ≡ s) (h : Head) (q m : ℕ) (e : got h q m ≡ (head s.flags s.raw).reads (bits_of s.file) s.place l) where
    pub rest-read : (o : Outcome (ℕ × ℕ × slim.Closing)) → o ≡ seen outline ((rest (has_room v) h).reads (bits_of v.file) q m) → o ≡ read
    rest-read o d = section-rest s.flags (has_room s) s.raw (bits_of s.file) s.place l e (subst (λ (z : Standing). o ≡ seen outline ((rest (has_room z) h).reads (bits_of z.file) q m)) same d)

    pub rest-bounds : (n k : ℕ) (c : slim.Closing) (q₁ m₁ : ℕ) → s.sections < 64 → got (n, k, c) q₁ m₁ ≡ seen outline ((rest (has_room v) h).reads (bits_of v.file) q m) → s.raw + n ≤ 16777216
    rest-bounds n k c q₁ m₁ less d = (pass-bounds s.flags (bits_of s.file) s.sections 0 s.raw s.place l (has_room s) less refl n k c q₁ m₁ (rest-read (got (n, k, c) q₁ m₁) d)).0

-- ## What passing a section answered

pub next-back : (s : Standing) (l : ℕ) (a : ℕ × ℕ × slim.Closing) (q m : ℕ) → got a q m ≡ next_section s l → (s.sections < 64) × (got a q m ≡ read s l)
next-back s l a q m e = by-test (ltb s.sections 64) refl
  where
    by-test : (t : Bool) → ltb s.sections 64 ≡ t → (s.sections < 64) × (got a q m ≡ read s l)
    by-test true h = (ltb-true s.sections 64 h, e ∙ sym (next-is s l (ltb-true s.sections 64 h)))
    by-test false h = absurd (faulted (next-not s l (ltb-false s.sections 64 h) ∙ sym e))

-- a fault is no matter of what would have been read
recast : {A B : Type 0} {x y n q : ℕ} → ◌≡◌ {A = Outcome A} (fault x y) (fault n q) → ◌≡◌ {A = Outcome B} (fault x y) (fault n q)
recast {A} {B} {x} {y} {n} {q} e =
    let a : x ≡ n = cc in
    let b : y ≡ q = cc in
    ap (λ (k : ℕ). fault k y) a ∙ ap (λ (k : ℕ). fault n k) b

-- ## The loop over all sections

-- the sections so far and those that are left are all of them
pub record Onward (s : Standing) (words : ℕ) (s₀ : Standing) : Type 0 where
  pub left : onward s.flags (bits_of s.file) (64 - s.sections) s.sections words s.raw s.place s.tried ≡ seen body_totals (all_sections s₀)
  pub few : words ≤ s.raw
  pub size : s.size ≡ s₀.size

pub all-start : (s : Standing) → s.sections ≡ 0 → s.raw ≡ 0 → Onward s 0 s
all-start s a b = record {
  left = ap (λ (k : ℕ). onward s.flags (bits_of s.file) (64 - k) k 0 s.raw s.place s.tried) a
      ∙ ap (λ (r : ℕ). onward s.flags (bits_of s.file) 64 0 0 r s.place s.tried) b
      ∙ onward-start s.flags (bits_of s.file) s.place s.tried;
  few = omega arith;
  size = refl;
}

module _ (s s₀ : Standing) (words : ℕ) (w : Onward s words s₀) where
  pub all-not : (x y : ℕ) → s.sections ≤ 64 → fault x y ≡ next_section s s.tried → fault x y ≡ seen body_totals (all_sections s₀)
  all-not x y most e = by-test (ltb s.sections 64) refl
    where
      by-test : (t : Bool) → ltb s.sections 64 ≡ t → fault x y ≡ seen body_totals (all_sections s₀)
      by-test true h =
          let less = ltb-true s.sections 64 h in
          pass-not s.flags (bits_of s.file) s.sections words s.raw s.place s.tried (has_room s) less refl x y (e ∙ sym (next-is s s.tried less)) ∙ w.left
      by-test false h =
          let over = ltb-false s.sections 64 h in
          let z : 64 - s.sections ≡ 0 = omega arith in
          recast (e ∙ sym (next-not s s.tried over))
          ∙ sym (ap (λ (k : ℕ). onward s.flags (bits_of s.file) k s.sections words s.raw s.place s.tried) z ∙ onward-end s.flags (bits_of s.file) s.sections words s.raw s.place s.tried)
          ∙ w.left

  module _ (v : Standing) (o : Outline) (e : got (outline_in (bits_of s.file) o) v.place v.tried ≡ next_section s s.tried) where
    abbrev known : (s.sections < 64) × (got (outline_in (bits_of s.file) o) v.place v.tried ≡ read s s.tried)
    known = next-back s s.tried (outline_in (bits_of s.file) o) v.place v.tried e

    pub all-bounds : (s.raw + o.raw ≤ 16777216) × (o.words ≤ o.raw)
    all-bounds =
        let (less, d) = known in
        pass-bounds s.flags (bits_of s.file) s.sections words s.raw s.place s.tried (has_room s) less refl o.raw o.words (closing_of (bits_of s.file) o.closing) v.place v.tried d

    module _ (moves : v ≡ moved s v.place v.tried o.raw) where
      pub all-ended : (b : Block) → o.closing ≡ Ended b → got (record { sections = v.sections; words = words + o.words; raw = v.raw; leftovers = b.len }) v.place v.tried ≡ seen body_totals (all_sections s₀)
      all-ended b c =
          let (less, d) = known in
          ap (λ (z : Standing). got (record { sections = z.sections; words = words + o.words; raw = z.raw; leftovers = b.len }) v.place v.tried) moves
          ∙ pass-ended s.flags (bits_of s.file) s.sections words s.raw s.place s.tried (has_room s) less refl o.raw o.words o.closing b v.place v.tried c d
          ∙ w.left

      pub all-more : o.closing ≡ Another → Onward v (words + o.words) s₀
      all-more c =
          let (less, d) = known in
          let (_, few) = all-bounds in
          record {
            left = ap (λ (z : Standing). onward z.flags (bits_of z.file) (64 - z.sections) z.sections (words + o.words) z.raw v.place v.tried) moves
                ∙ pass-another s.flags (bits_of s.file) s.sections words s.raw s.place s.tried (has_room s) less refl o.raw o.words o.closing v.place v.tried c d
                ∙ w.left;
            few = let z : v.raw ≡ s.raw + o.raw = ap (λ (z : Standing). z.raw) moves in omega (arith, w.few, few, z);
            size = ap (λ (z : Standing). z.size) moves ∙ w.size;
          }
