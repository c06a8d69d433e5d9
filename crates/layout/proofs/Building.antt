-- Validity put together and taken apart, and the places behind the parts.
use Rattle.std.proofs.Common.{◌≡◌, ℕ, ◌+◌, ◌^◌, ◌<◌, ◌≤◌, Bool, true, false, List, [], ◌∷◌, length, arith, length-append}
use Rattle.std.proofs.lemmas.Bool.{true≢false, false≢true}
use Rattle.format.specs.Format.{Format, Part, ◌>>=◌, padding, judged, choose, each, EachValid, times, ahead}
use Rattle.format.proofs.Standing.{length-bits}
use Rattle.layout.specs.Plain.{Every}

-- what is judged is valid where the judgement holds
pub valid-judged : {A : Type 0} (F : Format A) (ok : A → ℕ → Bool) (bad p : ℕ) (a : A) → F.Valid p a →
    ok a (p + length (F.cells p a)) ≡ true → (judged F ok bad).Valid p a
unfolding judged
valid-judged F ok bad p a v h = (v, h)

-- a part behind a field that names something of it is valid where the name has room
pub valid-ahead : {A : Type 0} (n : ℕ) (names : A → ℕ → ℕ) (bad : ℕ) (F : Format A) (p : ℕ) (a : A) → F.Valid (p + n) a →
    names a (p + n + length (F.cells (p + n) a)) < 2 ^ n → (ahead n names bad F).Valid p a
unfolding ahead
valid-ahead n names bad F p a v h = (v, h)

-- padding is always valid
pub valid-padding : (p : ℕ) (u : Unit {0}) → padding.Valid p u
unfolding padding
valid-padding p u = tt

-- each of n values of a format keeps what the format's values keep
pub times-every : {A : Type 0} (V : A → Type 0) (n : ℕ) (F : Format A) → ((p : ℕ) (a : A) → F.Valid p a → V a) → (p : ℕ) (xs : List A) →
    (times n F).Valid p xs → Every V xs
unfolding times each EachValid Every
times-every {A = A} V n F h p xs v = go xs p v.1
  where
    go : (xs : List A) (p : ℕ) → EachValid (λ (u : Unit {0}). F) (λ u a. tt) tt p xs → Every V xs
    go [] p v = tt
    go (x ∷ xs) p v = (h p x v.0, go xs _ v.1)

-- and n values that keep what makes them valid in a format are so in all
pub every-times : {A : Type 0} (V : A → Type 0) (n : ℕ) (F : Format A) → ((p : ℕ) (a : A) → V a → F.Valid p a) → (p : ℕ) (xs : List A) →
    length xs ≡ n → Every V xs → (times n F).Valid p xs
unfolding times each EachValid Every
every-times {A = A} V n F h p xs e v = (e, go xs p v)
  where
    go : (xs : List A) (p : ℕ) → Every V xs → EachValid (λ (u : Unit {0}). F) (λ u a. tt) tt p xs
    go [] p v = tt
    go (x ∷ xs) p v = (h p x v.0, go xs _ v.1)

-- where a sequence ends by a place, so do its first part and what follows it
pub then-within : {A B : Type 0} (P : Part B A) (g : A → Format B) (p : ℕ) (b : B) (n : ℕ) → p + length ((P >>= g).cells p b) ≤ n →
    ((p + length (P.form.cells p (P.of b)) ≤ n) × (p + length (P.form.cells p (P.of b)) + length ((g (P.of b)).cells (p + length (P.form.cells p (P.of b))) b) ≤ n))
unfolding ◌>>=◌
then-within P g p b n h =
    let l = rw length-append at h in
    (omega arith, omega arith)

-- and so does a part behind a field that names something of it
pub ahead_within : {A : Type 0} (n : ℕ) (names : A → ℕ → ℕ) (bad : ℕ) (F : Format A) (p : ℕ) (a : A) (m : ℕ) → p + length ((ahead n names bad F).cells p a) ≤ m →
    p + n + length (F.cells (p + n) a) ≤ m
unfolding ahead
ahead_within n names bad F p a m h = let l = rw (length-append, length-bits) at h in omega arith

-- and the one of two formats that a test takes
pub choose-within : {A : Type 0} (t : Bool) (F G : Format A) (p : ℕ) (a : A) (n : ℕ) → p + length ((choose t F G).cells p a) ≤ n →
    ((t ≡ true → p + length (F.cells p a) ≤ n) × (t ≡ false → p + length (G.cells p a) ≤ n))
unfolding choose
choose-within true F G p a n h = (λ e. h, λ e. absurd (true≢false e))
choose-within false F G p a n h = (λ e. absurd (false≢true e), λ e. h)
