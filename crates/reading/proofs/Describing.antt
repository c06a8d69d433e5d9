-- Reading a channel's description.
use Rattle.std.proofs.Common.{◌≡◌, ℕ, suc, ◌<◌, Bool, true, false, cond, ◌&&◌, eqb, IsErrAnd, Ok, Err, Result, sym, refl, ap, ◌∙◌, subst, arith}
use Rattle.std.specs.Result.{MatchResult}
use Rattle.std.proofs.lemmas.Bool.{lt-ltb, le-ltb, eq-eqb, ne_eqb}
use Rattle.faults.specs.Faults as faults
use Rattle.format.specs.Cells.{File}
use Rattle.format.specs.Format.{Outcome, got, fault, next, Format, field, whole, ◌>>=◌, judged, choose}
use Rattle.layout.specs.Recording.{Channel}
use Rattle.layout.specs.Channels.{width, ruled}
use Rattle.layout.specs.Slim.{any, positive, added, channel}
use Rattle.layout.proofs.Codes.{narrow-width}
use Rattle.channel.specs.Records.{channel_answer}
use Rattle.reading.specs.Told.{taking}
use Rattle.reading.proofs.Looks.{taking-is}
use Rattle.reading.proofs.Steps.{then-on, then-not, whole-on, choose-on, choose-off, judged-on, judged-off, judged-not}

-- ## What the algorithm adds

-- a field as wide as the words
pub word-field : (w t : ℕ) (f : File) (p l : ℕ) (o : Outcome ℕ) → w ≡ width t → 0 < w → o ≡ taking 32 w f p l → o ≡ (field (width t) any 0).reads f p l
word-field w t f p l o e h i = i ∙ taking-is 32 w f p l h (omega (arith, narrow-width t)) ∙ ap (λ (n : ℕ). (field n any 0).reads f p l) e

pub is-algorithm : (w t a k : ℕ) → w ≡ width t → 0 < w → a ≡ k → (positive (width t) && eqb a k) ≡ true
is-algorithm w t a k e h i = let h' : 0 < width t = omega arith in let j = lt-ltb 0 (width t) h' in let z = eq-eqb a k i in rw (j, z) refl

pub no-width : (w t a k : ℕ) → w ≡ width t → (0 < w → ⊥) → (positive (width t) && eqb a k) ≡ false
no-width w t a k e h = let j = le-ltb 0 (width t) (omega arith) in rw j refl

pub other-algorithm : (t a k : ℕ) → (a ≡ k → ⊥) → (positive (width t) && eqb a k) ≡ false
other-algorithm t a k h = by-test (positive (width t)) (ne_eqb a k h)
  where
    by-test : {y : Bool} (x : Bool) → y ≡ false → (x && y) ≡ false
    by-test true e = e
    by-test false e = refl

pub six-not-one : (t a : ℕ) → a ≡ 6 → (positive (width t) && eqb a 1) ≡ false
six-not-one t a e = other-algorithm t a 1 (λ h. omega arith)

abbrev settings : ℕ → ℕ → ℕ → ℕ → ℕ → ℕ → ℕ → Channel
settings n d b a t r v = record { repeats = n; delta = eqb d 1; turn = b; algorithm = a; kind = t; narrow = r; value = v }

module _ (n d b a t : ℕ) (f : File) (p l : ℕ) where
  pub reduced-not : {x y : ℕ} → (positive (width t) && eqb a 1) ≡ true → fault x y ≡ (field (width t) any 0).reads f p l → fault x y ≡ (added n d b a t).reads f p l
  unfolding added
  reduced-not i e = choose-on _ _ _ i (then-not _ _ e)

  pub reduced-less : {v q m x y : ℕ} → (positive (width t) && eqb a 1) ≡ true → got v q m ≡ (field (width t) any 0).reads f p l → fault x y ≡ (field 5 any 0).reads f q m →
      fault x y ≡ (added n d b a t).reads f p l
  unfolding added
  reduced-less i e d = choose-on _ _ _ i (then-on _ _ e (then-not _ _ d))

  pub reduced-on : {v q m r q' m' : ℕ} → (positive (width t) && eqb a 1) ≡ true → got v q m ≡ (field (width t) any 0).reads f p l → got r q' m' ≡ (field 5 any 0).reads f q m →
      got (settings n d b a t (suc r) v) q' m' ≡ (added n d b a t).reads f p l
  unfolding added
  reduced-on i e d = choose-on _ _ _ i (then-on _ _ e (then-on _ _ d (whole-on _ _ _ _)))

  pub constant-not : {x y : ℕ} → (positive (width t) && eqb a 1) ≡ false → (positive (width t) && eqb a 6) ≡ true → fault x y ≡ (field (width t) any 0).reads f p l →
      fault x y ≡ (added n d b a t).reads f p l
  unfolding added
  constant-not i j e = choose-off _ _ _ i (choose-on _ _ _ j (then-not _ _ e))

  pub constant-on : {v q m : ℕ} → (positive (width t) && eqb a 1) ≡ false → (positive (width t) && eqb a 6) ≡ true → got v q m ≡ (field (width t) any 0).reads f p l →
      got (settings n d b a t 0 v) q m ≡ (added n d b a t).reads f p l
  unfolding added
  constant-on i j e = choose-off _ _ _ i (choose-on _ _ _ j (then-on _ _ e (whole-on _ _ _ _)))

  pub nothing-on : (positive (width t) && eqb a 1) ≡ false → (positive (width t) && eqb a 6) ≡ false → got (settings n d b a t 0 0) p l ≡ (added n d b a t).reads f p l
  unfolding added
  nothing-on i j = choose-off _ _ _ i (choose-off _ _ _ j (whole-on _ _ _ _))

-- ## The whole description

-- it does not matter which field was tried before
channel-last : (kept : Bool) (f : File) (p l m : ℕ) → (channel kept).reads f p m ≡ (channel kept).reads f p l
unfolding channel judged ◌>>=◌ choose whole field next
channel-last true f p l m = refl
channel-last false f p l m = refl

module _ (kept : Bool) (f : File) (p l : ℕ) where
  abbrev Repeats : Format ℕ
  Repeats = choose kept (field 24 any 0) (whole 1)

  pub no-repeats : {x y : ℕ} → fault x y ≡ Repeats.reads f p p → fault x y ≡ (channel kept).reads f p l
  unfolding channel
  no-repeats e = judged-not _ _ _ (then-not _ _ e) ∙ channel-last kept f p l p

  pub no-delta : {n q₁ m₁ x y : ℕ} → got n q₁ m₁ ≡ Repeats.reads f p p → fault x y ≡ (field 1 any 0).reads f q₁ m₁ → fault x y ≡ (channel kept).reads f p l
  unfolding channel
  no-delta e₁ e = judged-not _ _ _ (then-on _ _ e₁ (then-not _ _ e)) ∙ channel-last kept f p l p

  pub no-turn : {n q₁ m₁ d q₂ m₂ x y : ℕ} → got n q₁ m₁ ≡ Repeats.reads f p p → got d q₂ m₂ ≡ (field 1 any 0).reads f q₁ m₁ → fault x y ≡ (field 5 any 0).reads f q₂ m₂ →
      fault x y ≡ (channel kept).reads f p l
  unfolding channel
  no-turn e₁ e₂ e = judged-not _ _ _ (then-on _ _ e₁ (then-on _ _ e₂ (then-not _ _ e))) ∙ channel-last kept f p l p

  pub no-algorithm : {n q₁ m₁ d q₂ m₂ b q₃ m₃ x y : ℕ} → got n q₁ m₁ ≡ Repeats.reads f p p → got d q₂ m₂ ≡ (field 1 any 0).reads f q₁ m₁ → got b q₃ m₃ ≡ (field 5 any 0).reads f q₂ m₂ →
      fault x y ≡ (field 4 any 0).reads f q₃ m₃ → fault x y ≡ (channel kept).reads f p l
  unfolding channel
  no-algorithm e₁ e₂ e₃ e = judged-not _ _ _ (then-on _ _ e₁ (then-on _ _ e₂ (then-on _ _ e₃ (then-not _ _ e)))) ∙ channel-last kept f p l p

  pub no_kind : {n q₁ m₁ d q₂ m₂ b q₃ m₃ a q₄ m₄ x y : ℕ} → got n q₁ m₁ ≡ Repeats.reads f p p → got d q₂ m₂ ≡ (field 1 any 0).reads f q₁ m₁ → got b q₃ m₃ ≡ (field 5 any 0).reads f q₂ m₂ →
      got a q₄ m₄ ≡ (field 4 any 0).reads f q₃ m₃ → fault x y ≡ (field 4 any 0).reads f q₄ m₄ → fault x y ≡ (channel kept).reads f p l
  unfolding channel
  no_kind e₁ e₂ e₃ e₄ e = judged-not _ _ _ (then-on _ _ e₁ (then-on _ _ e₂ (then-on _ _ e₃ (then-on _ _ e₄ (then-not _ _ e))))) ∙ channel-last kept f p l p

  pub no-added : {n q₁ m₁ d q₂ m₂ b q₃ m₃ a q₄ m₄ t q₅ m₅ x y : ℕ} → got n q₁ m₁ ≡ Repeats.reads f p p → got d q₂ m₂ ≡ (field 1 any 0).reads f q₁ m₁ → got b q₃ m₃ ≡ (field 5 any 0).reads f q₂ m₂ →
      got a q₄ m₄ ≡ (field 4 any 0).reads f q₃ m₃ → got t q₅ m₅ ≡ (field 4 any 0).reads f q₄ m₄ → fault x y ≡ (added n d b a t).reads f q₅ m₅ → fault x y ≡ (channel kept).reads f p l
  unfolding channel
  no-added e₁ e₂ e₃ e₄ e₅ e = judged-not _ _ _ (then-on _ _ e₁ (then-on _ _ e₂ (then-on _ _ e₃ (then-on _ _ e₄ (then-on _ _ e₅ e))))) ∙ channel-last kept f p l p

  pub accepted : {n q₁ m₁ d q₂ m₂ b q₃ m₃ a q₄ m₄ t q₅ m₅ q m : ℕ} {c : Channel} → got n q₁ m₁ ≡ Repeats.reads f p p → got d q₂ m₂ ≡ (field 1 any 0).reads f q₁ m₁ → got b q₃ m₃ ≡ (field 5 any 0).reads f q₂ m₂ →
      got a q₄ m₄ ≡ (field 4 any 0).reads f q₃ m₃ → got t q₅ m₅ ≡ (field 4 any 0).reads f q₄ m₄ → got c q m ≡ (added n d b a t).reads f q₅ m₅ → ruled c ≡ true → got c q m ≡ (channel kept).reads f p l
  unfolding channel
  accepted e₁ e₂ e₃ e₄ e₅ e h = judged-on _ _ _ (then-on _ _ e₁ (then-on _ _ e₂ (then-on _ _ e₃ (then-on _ _ e₄ (then-on _ _ e₅ e))))) h ∙ channel-last kept f p l p

  pub refused : {n q₁ m₁ d q₂ m₂ b q₃ m₃ a q₄ m₄ t q₅ m₅ q m : ℕ} {c : Channel} → got n q₁ m₁ ≡ Repeats.reads f p p → got d q₂ m₂ ≡ (field 1 any 0).reads f q₁ m₁ → got b q₃ m₃ ≡ (field 5 any 0).reads f q₂ m₂ →
      got a q₄ m₄ ≡ (field 4 any 0).reads f q₃ m₃ → got t q₅ m₅ ≡ (field 4 any 0).reads f q₄ m₄ → got c q m ≡ (added n d b a t).reads f q₅ m₅ → ruled c ≡ false → fault 6 m ≡ (channel kept).reads f p l
  unfolding channel
  refused e₁ e₂ e₃ e₄ e₅ e h = judged-off _ _ _ (then-on _ _ e₁ (then-on _ _ e₂ (then-on _ _ e₃ (then-on _ _ e₄ (then-on _ _ e₅ e))))) h ∙ channel-last kept f p l p

-- ## The record

gives_apart : {A : Type 0} {a b : A} → faults.gives a ≡ faults.gives b → a ≡ b
gives_apart {A} {a} {b} e = cc

abbrev Made : Type 0
Made = faults.Answer (Channel × ℕ)

module _ (c : Channel) where
  -- a record was made
  pub made : (x : Channel × ℕ) → ◌≡◌ {A = Made} (faults.gives x) (channel_answer c) → (ruled c ≡ true) × (x.0 ≡ c) × (x.1 ≡ 0)
  made x e = by-test (ruled c) e
    where
      by-test : (t : Bool) → ◌≡◌ {A = Made} (faults.gives x) (cond t (faults.gives (c, 0)) (faults.fault 6 0)) → (t ≡ true) × (x.0 ≡ c) × (x.1 ≡ 0)
      by-test true e = let z = gives_apart e in (refl, ap (λ x. x.0) z, ap (λ x. x.1) z)
      by-test false e = let z : ◌≡◌ {A = ℕ} 0 1 = cc in absurd (omega arith)

  -- none was
  pub unmade : (x y : ℕ) → ◌≡◌ {A = Made} (faults.fault x y) (channel_answer c) → ruled c ≡ false
  unmade x y e = by-test (ruled c) e
    where
      by-test : (t : Bool) → ◌≡◌ {A = Made} (faults.fault x y) (cond t (faults.gives (c, 0)) (faults.fault 6 0)) → t ≡ false
      by-test true e = let z : ◌≡◌ {A = ℕ} 0 1 = cc in absurd (omega arith)
      by-test false e = refl

-- the answer of the maker, where its fault is put in another's place
pub row-made : {R E D : Type 0} (P : E → D → Type 0) (o : Result R E) (m : Result R D) (x : R) → Ok x ≡ m → MatchResult o (λ x. m ≡ Ok x) (λ e. IsErrAnd m (P e)) → o ≡ Ok x
row-made P (Ok y) m x e h = let z = e ∙ h in cc
row-made {R} {E} {D} P (Err y) m x e h = absurd (subst (λ (z : Result R D). IsErrAnd z (P y)) (sym e) h)

pub row-unmade : {R E D : Type 0} (P : E → D → Type 0) (o : Result R E) (m : Result R D) (x : D) → Err x ≡ m → MatchResult o (λ x. m ≡ Ok x) (λ e. IsErrAnd m (P e)) → (e : E) × (o ≡ Err e) × P e x
row-unmade {R} {E} {D} P (Ok y) m x e h = let z : ◌≡◌ {A = Result R D} (Ok y) (Err x) = sym h ∙ sym e in cc
row-unmade {R} {E} {D} P (Err y) m x e h = (y, refl, subst (λ (z : Result R D). IsErrAnd z (P y)) (sym e) h)
