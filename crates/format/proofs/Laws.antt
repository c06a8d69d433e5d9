-- The laws of a format, and that each way to make one keeps them.
use Rattle.std.proofs.Common.{◌≡◌, ℕ, zero, suc, ◌+◌, ◌%◌, ◌^◌, ◌<◌, ◌≤◌, Bool, true, false, cond, eqb, leb, List, [], ◌∷◌, ◌++◌, length, get_or, replicate, sym, refl, ap, ◌∙◌, ap₂, add-zero, add_assoc, arith, length-append, eq-eqb, eqb-true, le-leb, leb-true}
use lib.ListN.{length-replicate}
use Rattle.std.proofs.lemmas.List.{append-nil}
use Rattle.std.proofs.lemmas.Bool.{cond-true}
use Rattle.format.specs.Cells.{File, size, number, pad, bits, Fits, Stands}
use Rattle.format.specs.Format.{Outcome, got, fault, next, Format, Part, field, whole, refuse, ◌>>=◌, ◌∈◌, padding, judged, choose, gap, once, one, each, each_read, EachValid, each_cells, times, ahead, mapped}
use Rattle.format.specs.Lawful.{Lawful}
use Rattle.format.proofs.Standing.{number-below, number-stands, stands-number, length-bits, stands-append, stands-front, stands-back, stands-inside, pads_stand}

pub faulted : {A : Type 0} {n q : ℕ} {a : A} {p l : ℕ} → fault n q ≡ got a p l → ⊥
faulted {A} {n} {q} {a} {p} {l} e = let z : ◌≡◌ {A = ℕ} 0 1 = cc in omega arith

-- a value that comes after `next` came of a value before it
pub next-got : {A B : Type 0} (o : Outcome A) (k : A → ℕ → ℕ → Outcome B) (b : B) (p l : ℕ) → next o k ≡ got b p l → (a : A) × (q : ℕ) × (m : ℕ) × (o ≡ got a q m) × (k a q m ≡ got b p l)
unfolding next
next-got (got a q m) k b p l e = (a, q, m, refl, e)
next-got (fault n q) k b p l e = absurd (faulted e)

pub next-on : {A B : Type 0} (o : Outcome A) (k : A → ℕ → ℕ → Outcome B) (a : A) (q m : ℕ) → o ≡ got a q m → next o k ≡ k a q m
unfolding next
next-on o k a q m e = rw e refl

-- a value that comes of a test came as the test held
pub cond-got : {A : Type 0} (t : Bool) (o : Outcome A) (n q : ℕ) (a : A) (p l : ℕ) → cond t o (fault n q) ≡ got a p l → (t ≡ true) × (o ≡ got a p l)
cond-got true o n q a p l e = (refl, e)
cond-got false o n q a p l e = absurd (faulted e)

pub got-got : {A : Type 0} {a b : A} {p q l m : ℕ} → got a p l ≡ got b q m → (a ≡ b) × (p ≡ q) × (l ≡ m)
got-got {A} {a} {b} {p} {q} {l} {m} e = (cc, cc, cc)

pub law-whole : {A : Type 0} (a₀ : A) → Lawful (whole a₀)
unfolding whole Stands Fits
law-whole a₀ = record {
  back = λ f p l a q m i e. (cc, tt, (let e' : q ≡ p = cc in omega arith));
  forth = λ f p l a i v s. (l, rw (add-zero, v));
}

pub law-refuse : {A : Type 0} (n : ℕ) → Lawful (refuse {A = A} n)
unfolding refuse
law-refuse n = record {
  back = λ f p l a q m i e. absurd (faulted e);
  forth = λ f p l a i v s. absurd v;
}

pub law-field : (n : ℕ) (ok : ℕ → Bool) (bad : ℕ) → Lawful (field n ok bad)
unfolding field
law-field n ok bad = record {
  back = λ f p l v q m i e.
      let o : Outcome ℕ = cond (ok (number f n p)) (got (number f n p) (p + n) p) (fault bad p) in
      let (t, e₁) = cond-got (leb (p + n) (size f)) o 11 p v q m e in
      let (u, e₂) = cond-got (ok (number f n p)) (got (number f n p) (p + n) p) bad p v q m e₁ in
      let (same, along, _) = got-got e₂ in
      let h = leb-true (p + n) (size f) t in
      rw (← same) ((number-below f n p, u), number-stands f n p h, sym along ∙ rw length-bits refl);
  forth = λ f p l v i ok s.
      let r = stands-number f n p v ok.0 i s in
      (p, rw (le-leb (p + n) (size f) r.0, r.1, ok.1, length-bits));
}

joined : {A B : Type 0} (P : Part B A) (g : A → Format B) (f : File) (p : ℕ) (b : B) (a : A) (r q : ℕ) →
    P.form.Valid p a × Stands f p (P.form.cells p a) × (r ≡ p + length (P.form.cells p a)) →
    (g a).Valid r b × Stands f r ((g a).cells r b) × (q ≡ r + length ((g a).cells r b)) →
    P.of b ≡ a →
    (P >>= g).Valid p b × Stands f p ((P >>= g).cells p b) × (q ≡ p + length ((P >>= g).cells p b))
unfolding ◌>>=◌
joined P g f p b a r q (v, s, at) (w, t, to) k =
    rw (k, ← at) ((v, w), stands-append f p _ _ s (rw (← at) t), rw length-append (omega arith))

-- a part, and what follows it, lawful for every part that is valid somewhere
pub law-after : {A B : Type 0} (P : Part B A) (g : A → Format B) → Lawful P.form → ((a : A) (p : ℕ) → P.form.Valid p a → Lawful (g a)) →
    ((a : A) (p q : ℕ) (b : B) → P.form.Valid p a → (g a).Valid q b → P.of b ≡ a) → Lawful (P >>= g)
unfolding ◌>>=◌
law-after P g F G keeps = record {
  back = λ f p l b q m i e.
      let (a, r, n, e₁, e₂) = next-got (P.form.reads f p l) (λ a q m. (g a).reads f q m) b q m e in
      let one = F.back f p l a r n i e₁ in
      let i' : r ≤ size f = omega (arith, stands-inside f p _ i one.1) in
      let two = (G a p one.0).back f r n b q m i' e₂ in
      joined P g f p b a r q one two (keeps a p r b one.0 two.0);
  forth = λ f p l b i v s.
      let a = P.of b in
      let c = P.form.cells p a in
      let d = (g a).cells (p + length c) b in
      let s₁ = stands-front f p c d s in
      let (m₁, e₁) = F.forth f p l a i v.0 s₁ in
      let (m₂, e₂) = (G a p v.0).forth f (p + length c) m₁ b (stands-inside f p c i s₁) v.1 (stands-back f p c d s) in
      (m₂, next-on _ _ a (p + length c) m₁ e₁ ∙ e₂ ∙ rw (length-append, add_assoc) refl);
}

pub law-then : {A B : Type 0} (P : Part B A) (g : A → Format B) → Lawful P.form → ((a : A) → Lawful (g a)) →
    ((a : A) (p q : ℕ) (b : B) → P.form.Valid p a → (g a).Valid q b → P.of b ≡ a) → Lawful (P >>= g)
law-then P g F G keeps = law-after P g F (λ a p v. G a) keeps

pub law-padding : Lawful padding
unfolding padding
law-padding = record {
  back = λ f p l u q m i e.
      let (t, e₁) = cond-got (leb (p + gap p) (size f)) (got tt (p + gap p) l) 11 p u q m e in
      let (_, along, _) = got-got e₁ in
      let h = leb-true (p + gap p) (size f) t in
      (tt, pads_stand f (gap p) p h, sym along ∙ rw length-replicate refl);
  forth = λ f p l u i v s.
      let h : p + gap p ≤ size f = rw length-replicate at (stands-inside f p (replicate (gap p) pad) i s) in
      (l, rw (le-leb (p + gap p) (size f) h, length-replicate));
}

carried : {A : Type 0} (ok : A → ℕ → Bool) (a b : A) (p q : ℕ) → a ≡ b → p ≡ q → ok a p ≡ true → ok b q ≡ true
carried ok a b p q e d h = rw (← e, ← d) h

pub law-judged : {A : Type 0} (F : Format A) (ok : A → ℕ → Bool) (bad : ℕ) → Lawful F → Lawful (judged F ok bad)
unfolding judged
law-judged F ok bad L = record {
  back = λ f p l a q m i e.
      let (a', q', m', e₁, e₂) = next-got (F.reads f p l) (λ a q m. cond (ok a q) (got a q m) (fault bad m)) a q m e in
      let (t, e₃) = cond-got (ok a' q') (got a' q' m') bad m' a q m e₂ in
      let (sa, sq, _) = got-got e₃ in
      let (v, s, to) = L.back f p l a q m i (e₁ ∙ e₃) in
      ((v, carried ok a' a q' _ sa (sq ∙ to) t), s, to);
  forth = λ f p l a i v s.
      let (m, e) = L.forth f p l a i v.0 s in
      (m, next-on (F.reads f p l) (λ a q m. cond (ok a q) (got a q m) (fault bad m)) a _ m e ∙ rw v.1);
}

pub law-choose : {A : Type 0} (t : Bool) (F G : Format A) → Lawful F → Lawful G → Lawful (choose t F G)
unfolding choose
law-choose true F G l m = l
law-choose false F G l m = m

once-got : {A : Type 0} (o : Outcome A) (p : ℕ) (a : A) (q m : ℕ) → once p o ≡ got a q m → (n : ℕ) × (o ≡ got a q n)
unfolding once
once-got (got a q m) p b r n e = (m, let (x, y, _) = got-got e in cc)
once-got (fault n q) p b r m e = absurd (faulted e)

once-on : {A : Type 0} (o : Outcome A) (p : ℕ) (a : A) (q m : ℕ) → o ≡ got a q m → once p o ≡ got a q p
unfolding once
once-on o p a q m e = rw e refl

pub law-one : {A : Type 0} (F : Format A) → Lawful F → Lawful (one F)
unfolding one
law-one F L = record {
  back = λ f p l a q m i e. let (n, d) = once-got (F.reads f p l) p a q m e in L.back f p l a q n i d;
  forth = λ f p l a i v s. let (n, d) = L.forth f p l a i v s in (p, once-on (F.reads f p l) p a _ n d);
}

-- one after the other, each with the memory that those before it leave
module _ {M A : Type 0} (F : M → Format A) (step : M → A → M) (L : (m : M) → Lawful (F m)) where
  each-joined : (n : ℕ) (m : M) (f : File) (p : ℕ) (a : A) (xs : List A) (r q : ℕ) →
      (F m).Valid p a × Stands f p ((F m).cells p a) × (r ≡ p + length ((F m).cells p a)) →
      ((length xs ≡ n) × EachValid F step (step m a) r xs) × Stands f r (each_cells F step (step m a) r xs) × (q ≡ r + length (each_cells F step (step m a) r xs)) →
      ((length (a ∷ xs) ≡ suc n) × EachValid F step m p (a ∷ xs)) × Stands f p (each_cells F step m p (a ∷ xs)) × (q ≡ p + length (each_cells F step m p (a ∷ xs)))
  unfolding EachValid each_cells
  each-joined n m f p a xs r q (v, s, at) ((e, w), t, to) =
      rw (← at) ((ap suc e, (v, w)), stands-append f p _ _ s (rw (← at) t), rw length-append (omega arith))

  each_back : (n : ℕ) (m : M) (f : File) (p l : ℕ) (xs : List A) (q k : ℕ) → p ≤ size f → each_read F step n m f p l ≡ got xs q k →
      ((length xs ≡ n) × EachValid F step m p xs) × Stands f p (each_cells F step m p xs) × (q ≡ p + length (each_cells F step m p xs))
  unfolding each_read EachValid each_cells Stands Fits
  each_back zero m f p l xs q k i e =
      let (a, b, _) = got-got e in
      rw (← a) ((refl, tt), tt, (omega arith))
  each_back (suc n) m f p l xs q k i e =
      let (a, r, j, e₁, e₂) = next-got ((F m).reads f p l) (λ a r j. next (each_read F step n (step m a) f r j) (λ xs q k. got (a ∷ xs) q k)) xs q k e in
      let (ys, q', k', e₃, e₄) = next-got (each_read F step n (step m a) f r j) (λ xs q k. got (a ∷ xs) q k) xs q k e₂ in
      let one = (L m).back f p l a r j i e₁ in
      let two = each_back n (step m a) f r j ys q' k' (omega (arith, stands-inside f p _ i one.1)) e₃ in
      let (same, to, _) = got-got e₄ in
      moved same to (each-joined n m f p a ys r q' one two)
    where
      moved : {ys xs : List A} {q' q : ℕ} → ys ≡ xs → q' ≡ q →
          ((length ys ≡ suc n) × EachValid F step m p ys) × Stands f p (each_cells F step m p ys) × (q' ≡ p + length (each_cells F step m p ys)) →
          ((length xs ≡ suc n) × EachValid F step m p xs) × Stands f p (each_cells F step m p xs) × (q ≡ p + length (each_cells F step m p xs))
      moved x y h = rw (← x, ← y) h

  each-forth : (n : ℕ) (m : M) (f : File) (p l : ℕ) (xs : List A) → p ≤ size f → length xs ≡ n → EachValid F step m p xs → Stands f p (each_cells F step m p xs) →
      (k : ℕ) × (each_read F step n m f p l ≡ got xs (p + length (each_cells F step m p xs)) k)
  unfolding each_read EachValid each_cells
  each-forth zero m f p l [] i e v s = (l, rw add-zero)
  each-forth zero m f p l (a ∷ xs) i e v s = absurd (omega arith)
  each-forth (suc n) m f p l [] i e v s = absurd (omega arith)
  each-forth (suc n) m f p l (a ∷ xs) i e v s =
      let c = (F m).cells p a in
      let d = each_cells F step (step m a) (p + length c) xs in
      let s₁ = stands-front f p c d s in
      let (j, e₁) = (L m).forth f p l a i v.0 s₁ in
      let (k, e₂) = each-forth n (step m a) f (p + length c) j xs (stands-inside f p c i s₁) (omega arith) v.1 (stands-back f p c d s) in (
        k,
        next-on ((F m).reads f p l) (λ a r j. next (each_read F step n (step m a) f r j) (λ xs q k. got (a ∷ xs) q k)) a (p + length c) j e₁
            ∙ next-on (each_read F step n (step m a) f (p + length c) j) (λ xs q k. got (a ∷ xs) q k) xs _ k e₂
            ∙ rw (length-append, add_assoc) refl,
      )

  pub law-each : (n : ℕ) (m : M) → Lawful (each F step n m)
  unfolding each
  law-each n m = record {
    back = each_back n m;
    forth = λ f p l xs i v s. each-forth n m f p l xs i v.0 v.1 s;
  }

pub law-times : {A : Type 0} (n : ℕ) (F : Format A) → Lawful F → Lawful (times n F)
unfolding times
law-times n F L = law-each (λ (u : Unit {0}). F) (λ u a. tt) (λ u. L) n tt

-- What validity says of the parts: these read a valid value's facts out of a sequence.
pub then-part : {A B : Type 0} (P : Part B A) (g : A → Format B) (p : ℕ) (b : B) → (P >>= g).Valid p b → P.form.Valid p (P.of b)
unfolding ◌>>=◌
then-part P g p b v = v.0

pub then-rest : {A B : Type 0} (P : Part B A) (g : A → Format B) (p : ℕ) (b : B) → (P >>= g).Valid p b →
    (g (P.of b)).Valid (p + length (P.form.cells p (P.of b))) b
unfolding ◌>>=◌
then-rest P g p b v = v.1

pub whole_is : {A : Type 0} (a₀ : A) (p : ℕ) (a : A) → (whole a₀).Valid p a → a ≡ a₀
unfolding whole
whole_is a₀ p a v = v

pub times-length : {A : Type 0} (n : ℕ) (F : Format A) (p : ℕ) (xs : List A) → (times n F).Valid p xs → length xs ≡ n
unfolding times each
times-length n F p xs v = v.0

pub field-valid : (n : ℕ) (ok : ℕ → Bool) (bad : ℕ) (p v : ℕ) → (field n ok bad).Valid p v → (v < 2 ^ n) × (ok v ≡ true)
unfolding field
field-valid n ok bad p v h = h

-- a value valid in one of two formats is so in the first, the test being true, or in the second
pub chosen : {A : Type 0} (t : Bool) (F G : Format A) (p : ℕ) (a : A) (Q : Type 0) → (choose t F G).Valid p a →
    (t ≡ true → F.Valid p a → Q) → (t ≡ false → G.Valid p a → Q) → Q
unfolding choose
chosen true F G p a Q v y z = y refl v
chosen false F G p a Q v y z = z refl v

pub one-valid : {A : Type 0} (F : Format A) (p : ℕ) (a : A) → (one F).Valid p a → F.Valid p a
unfolding one
one-valid F p a v = v

-- formats that end at a whole byte
abbrev pub Ends : {A : Type 0} → Format A → Type 0
Ends {A} F = (p : ℕ) (a : A) → F.Valid p a → (p + length (F.cells p a)) % 8 ≡ 0

pub ends-then : {A B : Type 0} (P : Part B A) (g : A → Format B) → ((a : A) → Ends (g a)) → Ends (P >>= g)
unfolding ◌>>=◌
ends-then P g E p b v = rw (length-append, ← add_assoc) (E (P.of b) _ b v.1)

-- and those that do so if they start at one
abbrev pub Keeps : {A : Type 0} → Format A → Type 0
Keeps {A} F = (p : ℕ) (a : A) → p % 8 ≡ 0 → F.Valid p a → (p + length (F.cells p a)) % 8 ≡ 0

pub ends-first : {A B : Type 0} (P : Part B A) (g : A → Format B) → Ends P.form → ((a : A) → Keeps (g a)) → Ends (P >>= g)
unfolding ◌>>=◌
ends-first P g E K p b v = rw (length-append, ← add_assoc) (K (P.of b) _ b (E p (P.of b) v.0) v.1)

pub keeps-whole : {A : Type 0} (a₀ : A) → Keeps (whole a₀)
unfolding whole
keeps-whole a₀ p a h v = rw add-zero h

pub ends-padded : {B : Type 0} (of : B → Unit {0}) (y : B) → Ends ((of ∈ padding) >>= (λ u. whole y))
unfolding ◌>>=◌ padding whole gap
ends-padded of y p b v = rw (length-append, length-replicate) (omega arith)

pub ends-refuse : {A : Type 0} (n : ℕ) → Ends (refuse {A = A} n)
unfolding refuse
ends-refuse n p a v = absurd v

pub ends_last : {A B : Type 0} (P : Part B A) (h : A → B) → Ends P.form → Ends (P >>= (λ a. whole (h a)))
unfolding ◌>>=◌ whole
ends_last P h E p b v = rw append-nil (E p (P.of b) v.0)

pub ahead-valid : {A : Type 0} (n : ℕ) (names : A → ℕ → ℕ) (bad : ℕ) (F : Format A) (p : ℕ) (a : A) → (ahead n names bad F).Valid p a → F.Valid (p + n) a
unfolding ahead
ahead-valid n names bad F p a v = v.0

ahead-named : {A : Type 0} (n : ℕ) (names : A → ℕ → ℕ) (bad : ℕ) (F : Format A) (f : File) (p : ℕ) (a : A) (q : ℕ) → p + n ≤ size f →
    F.Valid (p + n) a × Stands f (p + n) (F.cells (p + n) a) × (q ≡ p + n + length (F.cells (p + n) a)) → number f n p ≡ names a q →
    (ahead n names bad F).Valid p a × Stands f p ((ahead n names bad F).cells p a) × (q ≡ p + length ((ahead n names bad F).cells p a))
unfolding ahead
ahead-named n names bad F f p a q h (v, s, to) e =
    rw (← to, ← e) (
      (v, number-below f n p),
      stands-append f p (bits n (number f n p)) _ (number-stands f n p h) (rw length-bits s),
      rw (length-append, length-bits) (omega arith),
    )

pub law-ahead : {A : Type 0} (n : ℕ) (names : A → ℕ → ℕ) (bad : ℕ) (F : Format A) → Lawful F → Lawful (ahead n names bad F)
unfolding ahead
law-ahead {A} n names bad F L = record {
  back = λ f p l a q m i e.
      let k : A → ℕ → ℕ → Outcome A = λ a q m. cond (eqb (number f n p) (names a q)) (got a q m) (fault bad m) in
      let (t, e₁) = cond-got (leb (p + n) (size f)) (next (F.reads f (p + n) p) k) 11 p a q m e in
      let (b, r, j, e₂, e₃) = next-got (F.reads f (p + n) p) k a q m e₁ in
      let (u, e₄) = cond-got (eqb (number f n p) (names b r)) (got b r j) bad j a q m e₃ in
      let h = leb-true (p + n) (size f) t in
      let (sa, sq, _) = got-got e₄ in
      let one = L.back f (p + n) p a q m h (e₂ ∙ e₄) in
      ahead-named n names bad F f p a q h one (eqb-true _ _ u ∙ ap₂ names sa sq);
  forth = λ f p l a i v s.
      let d = F.cells (p + n) a in
      let x = names a (p + n + length d) in
      let c = bits n x in
      let r = stands-number f n p x v.1 i (stands-front f p c d s) in
      let s₂ : Stands f (p + n) d = rw length-bits at (stands-back f p c d s) in
      let (m, e) = L.forth f (p + n) p a r.0 v.0 s₂ in
      let to : p + n + length d ≡ p + length (c ++ d) = omega (arith, length-append c d, length-bits n x) in
      let g : eqb (number f n p) x ≡ true = eq-eqb (number f n p) x r.1 in (
        m,
        cond-true (leb (p + n) (size f)) _ _ (le-leb (p + n) (size f) r.0)
            ∙ next-on (F.reads f (p + n) p) (λ a q m. cond (eqb (number f n p) (names a q)) (got a q m) (fault bad m)) a (p + n + length d) m e
            ∙ cond-true (eqb (number f n p) x) _ _ g
            ∙ ap (λ z. got a z m) to,
      );
}

pub ends-ahead : {A : Type 0} (n : ℕ) (names : A → ℕ → ℕ) (bad : ℕ) (F : Format A) → Ends F → Ends (ahead n names bad F)
unfolding ahead
ends-ahead n names bad F E p a v = rw (length-append, length-bits, ← add_assoc) (E (p + n) a v.0)

pub law-mapped : {A B : Type 0} (to : B → A) (from : A → B) (F : Format A) → Lawful F → ((p : ℕ) (a : A) → F.Valid p a → to (from a) ≡ a) → Lawful (mapped to from F)
unfolding mapped
law-mapped {A} {B} to from F L same = record {
  back = λ f p l b q m i e.
      let (a, r, j, e₁, e₂) = next-got (F.reads f p l) (λ a q m. got (from a) q m) b q m e in
      let (x, y, _) = got-got e₂ in
      let one = L.back f p l a r j i e₁ in
      turned f p a b r q x y one (same p a one.0);
  forth = λ f p l b i v s.
      let (m, e) = L.forth f p l (to b) i v.0 s in
      (m, next-on (F.reads f p l) (λ a q m. got (from a) q m) (to b) _ m e ∙ ap (λ z. got z (p + length (F.cells p (to b))) m) v.1);
}
  where
    turned : (f : File) (p : ℕ) (a : A) (b : B) (r q : ℕ) → from a ≡ b → r ≡ q → F.Valid p a × Stands f p (F.cells p a) × (r ≡ p + length (F.cells p a)) → to (from a) ≡ a →
        (F.Valid p (to b) × (from (to b) ≡ b)) × Stands f p (F.cells p (to b)) × (q ≡ p + length (F.cells p (to b)))
    turned f p a b r q x y (v, s, at) z =
        let w : to b ≡ a = ap to (sym x) ∙ z in
        rw (w, ← y) ((v, x), s, at)

-- and the other way: a value's validity from that of its parts
pub part_then : {A B : Type 0} (P : Part B A) (g : A → Format B) (p : ℕ) (b : B) → P.form.Valid p (P.of b) →
    (g (P.of b)).Valid (p + length (P.form.cells p (P.of b))) b → (P >>= g).Valid p b
unfolding ◌>>=◌
part_then P g p b v w = (v, w)

pub choosing : {A : Type 0} (t : Bool) (F G : Format A) (p : ℕ) (a : A) → (t ≡ true → F.Valid p a) → (t ≡ false → G.Valid p a) → (choose t F G).Valid p a
unfolding choose
choosing true F G p a y z = y refl
choosing false F G p a y z = z refl

pub valid-field : (n : ℕ) (ok : ℕ → Bool) (bad : ℕ) (p v : ℕ) → v < 2 ^ n → ok v ≡ true → (field n ok bad).Valid p v
unfolding field
valid-field n ok bad p v h k = (h, k)

pub is_whole : {A : Type 0} (a₀ : A) (p : ℕ) (a : A) → a ≡ a₀ → (whole a₀).Valid p a
unfolding whole
is_whole a₀ p a e = e

pub valid-one : {A : Type 0} (F : Format A) (p : ℕ) (a : A) → F.Valid p a → (one F).Valid p a
unfolding one
valid-one F p a v = v

pub judged-valid : {A : Type 0} (F : Format A) (ok : A → ℕ → Bool) (bad : ℕ) (p : ℕ) (a : A) → (judged F ok bad).Valid p a →
    F.Valid p a × (ok a (p + length (F.cells p a)) ≡ true)
unfolding judged
judged-valid F ok bad p a v = v

pub refused : {A : Type 0} (n p : ℕ) (a : A) → (refuse {A = A} n).Valid p a → ⊥
unfolding refuse
refused n p a v = v

pub each-length : {M A : Type 0} (F : M → Format A) (step : M → A → M) (n : ℕ) (m : M) (p : ℕ) (xs : List A) → (each F step n m).Valid p xs → length xs ≡ n
unfolding each
each-length F step n m p xs v = v.0

pub times-each : {A : Type 0} (V : A → Type 0) (n : ℕ) (F : Format A) → ((p : ℕ) (a : A) → F.Valid p a → V a) → (p : ℕ) (xs : List A) → (times n F).Valid p xs →
    (i : ℕ) (d : A) → V d → V (get_or xs i d)
unfolding times each EachValid
times-each {A = A} V n F h p xs v i d k = go xs p v.1 i
  where
    go : (xs : List A) (p : ℕ) → EachValid (λ (u : Unit {0}). F) (λ u a. tt) tt p xs → (i : ℕ) → V (get_or xs i d)
    go [] p v i = k
    go (x ∷ xs) p v zero = h p x v.0
    go (x ∷ xs) p v (suc i) = go xs _ v.1 i

pub law-chosen : {A : Type 0} (t : Bool) (F G : Format A) → (t ≡ true → Lawful F) → (t ≡ false → Lawful G) → Lawful (choose t F G)
unfolding choose
law-chosen true F G y z = y refl
law-chosen false F G y z = z refl

pub mapped-valid : {A B : Type 0} (to : B → A) (from : A → B) (F : Format A) (p : ℕ) (b : B) → (mapped to from F).Valid p b → F.Valid p (to b) × (from (to b) ≡ b)
unfolding mapped
mapped-valid to from F p b v = v

pub ends-choose : {A : Type 0} (t : Bool) (F G : Format A) → Ends F → Ends G → Ends (choose t F G)
unfolding choose
ends-choose true F G e d = e
ends-choose false F G e d = d
