-- How formats are read, step by step; and what the answers of calls say.
use Rattle.std.proofs.Common.{◌≡◌, ℕ, ◌+◌, Bool, true, false, cond, leb, IsErrAnd, IfOk, Ok, Err, Result, sym, refl, ap, ◌∙◌}
use Rattle.faults.specs.Faults.{number_of}
use Rattle.faults.specs.declared.kind.Fault.{Fault}
use Rattle.format.specs.Cells.{File, size, number}
use Rattle.format.specs.Format.{Outcome, got, fault, next, Format, Part, field, whole, ◌>>=◌, ◌∈◌, judged, choose}
use Rattle.format.proofs.Laws.{faulted, got-got}
use Rattle.layout.specs.Slim.{any}
use Rattle.reading.specs.declared.taken.Taken.{Taken}
use Rattle.reading.specs.Told.{told}

-- ## Formats

pub next-on : {A B : Type 0} (o : Outcome A) (k : A → ℕ → ℕ → Outcome B) (a : A) (q m : ℕ) → got a q m ≡ o → k a q m ≡ next o k
unfolding next
next-on o k a q m e = rw (← e) refl

pub next-not : {A B : Type 0} (o : Outcome A) (k : A → ℕ → ℕ → Outcome B) (n q : ℕ) → fault n q ≡ o → fault n q ≡ next o k
unfolding next
next-not o k n q e = rw (← e) refl

-- a part was read, and then the rest
pub then-on : {A B : Type 0} (P : Part B A) (g : A → Format B) {f : File} {p l : ℕ} {a : A} {q m : ℕ} {o : Outcome B} →
    got a q m ≡ P.form.reads f p l → o ≡ (g a).reads f q m → o ≡ (P >>= g).reads f p l
unfolding ◌>>=◌
then-on P g {f} {p} {l} {a} {q} {m} {o} e h = h ∙ next-on (P.form.reads f p l) (λ a q m. (g a).reads f q m) a q m e

-- a part was not read
pub then-not : {A B : Type 0} (P : Part B A) (g : A → Format B) {f : File} {p l x y : ℕ} → fault x y ≡ P.form.reads f p l → fault x y ≡ (P >>= g).reads f p l
unfolding ◌>>=◌
then-not P g {f} {p} {l} {x} {y} e = next-not (P.form.reads f p l) (λ a q m. (g a).reads f q m) x y e

pub whole-on : {A : Type 0} (a : A) (f : File) (p l : ℕ) → got a p l ≡ (whole a).reads f p l
unfolding whole
whole-on a f p l = refl

-- a part, and what is made of it
pub then-whole : {A B : Type 0} (of : B → A) (F : Format A) (h : A → B) (f : File) (p l : ℕ) → next (F.reads f p l) (λ a q m. got (h a) q m) ≡ ((of ∈ F) >>= (λ a. whole (h a))).reads f p l
unfolding ◌>>=◌ whole
then-whole of F h f p l = refl

pub choose-on : {A : Type 0} (t : Bool) (F G : Format A) {f : File} {p l : ℕ} {o : Outcome A} → t ≡ true → o ≡ F.reads f p l → o ≡ (choose t F G).reads f p l
unfolding choose
choose-on t F G e h = rw e h

pub choose-off : {A : Type 0} (t : Bool) (F G : Format A) {f : File} {p l : ℕ} {o : Outcome A} → t ≡ false → o ≡ G.reads f p l → o ≡ (choose t F G).reads f p l
unfolding choose
choose-off t F G e h = rw e h

cond-on : {A : Type 0} (t : Bool) (x y : A) → t ≡ true → x ≡ cond t x y
cond-on t x y e = rw e refl

cond-off : {A : Type 0} (t : Bool) (x y : A) → t ≡ false → y ≡ cond t x y
cond-off t x y e = rw e refl

-- what was read is accepted
pub judged-on : {A : Type 0} (F : Format A) (ok : A → ℕ → Bool) (bad : ℕ) {f : File} {p l : ℕ} {a : A} {q m : ℕ} →
    got a q m ≡ F.reads f p l → ok a q ≡ true → got a q m ≡ (judged F ok bad).reads f p l
unfolding judged
judged-on F ok bad {f} {p} {l} {a} {q} {m} e h =
    cond-on (ok a q) (got a q m) (fault bad m) h ∙ next-on (F.reads f p l) (λ a q m. cond (ok a q) (got a q m) (fault bad m)) a q m e

-- what was read is refused
pub judged-off : {A : Type 0} (F : Format A) (ok : A → ℕ → Bool) (bad : ℕ) {f : File} {p l : ℕ} {a : A} {q m : ℕ} →
    got a q m ≡ F.reads f p l → ok a q ≡ false → fault bad m ≡ (judged F ok bad).reads f p l
unfolding judged
judged-off F ok bad {f} {p} {l} {a} {q} {m} e h =
    cond-off (ok a q) (got a q m) (fault bad m) h ∙ next-on (F.reads f p l) (λ a q m. cond (ok a q) (got a q m) (fault bad m)) a q m e

pub judged-not : {A : Type 0} (F : Format A) (ok : A → ℕ → Bool) (bad : ℕ) {f : File} {p l x y : ℕ} → fault x y ≡ F.reads f p l → fault x y ≡ (judged F ok bad).reads f p l
unfolding judged
judged-not F ok bad {f} {p} {l} {x} {y} e = next-not (F.reads f p l) (λ a q m. cond (ok a q) (got a q m) (fault bad m)) x y e

-- ## Fields that are judged

module _ (n : ℕ) (ok : ℕ → Bool) (bad : ℕ) (f : File) (p l : ℕ) where
  pub field-on : {v q m : ℕ} → got v q m ≡ (field n any 0).reads f p l → ok v ≡ true → got v q m ≡ (field n ok bad).reads f p l
  unfolding field
  field-on {v} {q} {m} e h = by-test (leb (p + n) (size f)) e
    where
      by-test : (t : Bool) → got v q m ≡ cond t (got (number f n p) (p + n) p) (fault 11 p) → got v q m ≡ cond t (cond (ok (number f n p)) (got (number f n p) (p + n) p) (fault bad p)) (fault 11 p)
      by-test true e = let (same, _, _) = got-got e in e ∙ cond-on (ok (number f n p)) (got (number f n p) (p + n) p) (fault bad p) (ap ok (sym same) ∙ h)
      by-test false e = e

  pub field_off : {v q m : ℕ} → got v q m ≡ (field n any 0).reads f p l → ok v ≡ false → fault bad p ≡ (field n ok bad).reads f p l
  unfolding field
  field_off {v} {q} {m} e h = by-test (leb (p + n) (size f)) e
    where
      by-test : (t : Bool) → got v q m ≡ cond t (got (number f n p) (p + n) p) (fault 11 p) → fault bad p ≡ cond t (cond (ok (number f n p)) (got (number f n p) (p + n) p) (fault bad p)) (fault 11 p)
      by-test true e = let (same, _, _) = got-got e in cond-off (ok (number f n p)) (got (number f n p) (p + n) p) (fault bad p) (ap ok (sym same) ∙ h)
      by-test false e = absurd (faulted (sym e))

  pub field-not : {x y : ℕ} → fault x y ≡ (field n any 0).reads f p l → fault x y ≡ (field n ok bad).reads f p l
  unfolding field
  field-not {x} {y} e = by-test (leb (p + n) (size f)) e
    where
      by-test : (t : Bool) → fault x y ≡ cond t (got (number f n p) (p + n) p) (fault 11 p) → fault x y ≡ cond t (cond (ok (number f n p)) (got (number f n p) (p + n) p) (fault bad p)) (fault 11 p)
      by-test true e = absurd (faulted e)
      by-test false e = e

-- ## Answers

-- a fault that is handed on
pub passed : {T A : Type 0} (parts : T → A) (r : Result (Taken T) Fault) (e : Fault) (o : Outcome A) → IsErrAnd r (λ x. x ≡ e) →
    fault (number_of e.kind) e.place.bits ≡ o → told parts r ≡ o
passed parts (Ok t) e o h d = absurd h
passed parts (Err x) e o h d = ap (λ (z : Fault). fault (number_of z.kind) z.place.bits) h ∙ d

-- another value with the same end
pub with-is : {T A : Type 0} (parts : T → A) {r x : Taken T} {o : Outcome A} → r ≡ x → told parts (Ok x) ≡ o → told parts (Ok r) ≡ o
with-is {T} parts {r} {x} e h = ap (λ (z : Taken T). told parts (Ok z)) e ∙ h

pub with_ok : {T : Type 0} (P : Taken T → Type 0) {r x : Taken T} → r ≡ x → P x → P r
with_ok P e h = rw e h

pub passed_none : {T : Type 0} (P : T → Type 0) (r : Result T Fault) (e : Fault) → IsErrAnd r (λ x. x ≡ e) → IfOk r P
passed_none P (Ok t) e h = absurd h
passed_none P (Err x) e h = tt
