-- Formats: what is written for a value, and how it is read, and the ways to put formats together.
use Rattle.std.specs.Prelude.{◌≡◌, ℕ, zero, suc, ◌+◌, ◌-◌, ◌%◌, ◌^◌, ◌<◌, Bool, true, false, cond, List, [], ◌∷◌, ◌++◌, length, replicate, ◌==◌, nat_le}
use Rattle.format.specs.Cells.{File, size, number, Cell, pad, bits}

-- What reading gives: a value, with the place behind it and the first bit of the field last tried,
-- or a fault, with its number and place.
pub data Outcome (A : Type 0) : Type 0 where
  got : A → ℕ → ℕ → Outcome A
  fault : ℕ → ℕ → Outcome A

unfoldable pub next : {A B : Type 0} → Outcome A → (A → ℕ → ℕ → Outcome B) → Outcome B
next (got a p l) k = k a p l
next (fault n q) k = fault n q

-- A format of the values A. Each part is told the place where it stands;
-- reading is also told the file and the first bit of the field last tried.
pub record Format (A : Type 0) : Type 1 where
  pub Valid : ℕ → A → Type 0
  pub cells : ℕ → A → List Cell
  pub reads : File → ℕ → ℕ → Outcome A

-- a field of n bits, whose number is judged by a test; fault `bad` where the test fails
unfoldable pub field : ℕ → (ℕ → Bool) → ℕ → Format ℕ
field n ok bad = record {
  Valid = λ p v. (v < 2 ^ n) × (ok v ≡ true);
  cells = λ p v. bits n v;
  reads = λ f p l.
      let v = number f n p in
      cond (nat_le (p + n) (size f)) (cond (ok v) (got v (p + n) p) (fault bad p)) (fault 11 p);
}

-- nothing is written, and the value is known
unfoldable pub whole : {A : Type 0} → A → Format A
whole a₀ = record {
  Valid = λ p a. a ≡ a₀;
  cells = λ p a. [];
  reads = λ f p l. got a₀ p l;
}

-- nothing can be written or read: a fault at the field last tried
unfoldable pub refuse : {A : Type 0} → ℕ → Format A
refuse bad = record {
  Valid = λ p a. ⊥;
  cells = λ p a. [];
  reads = λ f p l. fault bad l;
}

-- one of two formats, by a test
unfoldable pub choose : {A : Type 0} → Bool → Format A → Format A → Format A
choose true F G = F
choose false F G = G

-- A part of the values B: what it is of B, and its format
pub record Part (B A : Type 0) : Type 1 where
  pub of : B → A
  pub form : Format A

-- the part first, and then what follows it, which may depend on the part
infixr 20 ◌>>=◌
unfoldable pub ◌>>=◌ : {A B : Type 0} → Part B A → (A → Format B) → Format B
P >>= g = record {
  Valid = λ p b. P.form.Valid p (P.of b) × (g (P.of b)).Valid (p + length (P.form.cells p (P.of b))) b;
  cells = λ p b. P.form.cells p (P.of b) ++ (g (P.of b)).cells (p + length (P.form.cells p (P.of b))) b;
  reads = λ f p l. next (P.form.reads f p l) (λ a q m. (g a).reads f q m);
}

infixl 20 ◌∈◌
abbrev pub ◌∈◌ : {A B : Type 0} → (B → A) → Format A → Part B A
of ∈ F = record { of = of; form = F }

-- how many bits lie between a place and the next whole byte
unfoldable pub gap : ℕ → ℕ
gap p = (8 - p % 8) % 8

-- pad bits up to the next whole byte
unfoldable pub padding : Format (Unit {0})
padding = record {
  Valid = λ p u. Unit {0};
  cells = λ p u. replicate (gap p) pad;
  reads = λ f p l. cond (nat_le (p + gap p) (size f)) (got tt (p + gap p) l) (fault 11 p);
}

-- a judgement of what was read and of the place behind it, with the fault at the field last tried
unfoldable pub judged : {A : Type 0} → Format A → (A → ℕ → Bool) → ℕ → Format A
judged F ok bad = record {
  Valid = λ p a. F.Valid p a × (ok a (p + length (F.cells p a)) ≡ true);
  cells = F.cells;
  reads = λ f p l. next (F.reads f p l) (λ a q m. cond (ok a q) (got a q m) (fault bad m));
}

unfoldable pub once : {A : Type 0} → ℕ → Outcome A → Outcome A
once p (got a q m) = got a q p
once p (fault n q) = fault n p

-- as one field: every fault is at its first bit
unfoldable pub one : {A : Type 0} → Format A → Format A
one F = record {
  Valid = F.Valid;
  cells = F.cells;
  reads = λ f p l. once p (F.reads f p l);
}

-- n values one after the other, in formats that depend on a memory, which each value moves on
module _ {M A : Type 0} (F : M → Format A) (step : M → A → M) where
  unfoldable pub EachValid : M → ℕ → List A → Type 0
  EachValid m p [] = Unit {0}
  EachValid m p (a ∷ xs) = (F m).Valid p a × EachValid (step m a) (p + length ((F m).cells p a)) xs

  unfoldable pub each_cells : M → ℕ → List A → List Cell
  each_cells m p [] = []
  each_cells m p (a ∷ xs) = (F m).cells p a ++ each_cells (step m a) (p + length ((F m).cells p a)) xs

  unfoldable pub each_read : ℕ → M → File → ℕ → ℕ → Outcome (List A)
  each_read zero m f p l = got [] p l
  each_read (suc n) m f p l = next ((F m).reads f p l) (λ a q k. next (each_read n (step m a) f q k) (λ xs r j. got (a ∷ xs) r j))

  unfoldable pub each : ℕ → M → Format (List A)
  each n m = record {
    Valid = λ p xs. (length xs ≡ n) × EachValid m p xs;
    cells = each_cells m;
    reads = each_read n m;
  }

-- n values of one format
unfoldable pub times : {A : Type 0} → ℕ → Format A → Format (List A)
times n F = each (λ (u : Unit {0}). F) (λ u a. tt) n tt

-- a field of n bits in front of a part, which names what only the part and the place behind it tell; judged behind the part
unfoldable pub ahead : {A : Type 0} → ℕ → (A → ℕ → ℕ) → ℕ → Format A → Format A
ahead n names bad F = record {
  Valid = λ p a. F.Valid (p + n) a × (names a (p + n + length (F.cells (p + n) a)) < 2 ^ n);
  cells = λ p a. bits n (names a (p + n + length (F.cells (p + n) a))) ++ F.cells (p + n) a;
  reads = λ f p l.
      cond (nat_le (p + n) (size f))
      (next (F.reads f (p + n) p) (λ a q m. cond (number f n p == names a q) (got a q m) (fault bad m)))
      (fault 11 p);
}

-- values that stand for those of another format
unfoldable pub mapped : {A B : Type 0} → (B → A) → (A → B) → Format A → Format B
mapped to from F = record {
  Valid = λ p b. F.Valid p (to b) × (from (to b) ≡ b);
  cells = λ p b. F.cells p (to b);
  reads = λ f p l. next (F.reads f p l) (λ a q m. got (from a) q m);
}
