-- Bytes that are one field.
use Rattle.std.proofs.Common.{◌≡◌, ℕ, zero, suc, ◌+◌, ◌*◌, ◌<◌, ◌≤◌, Bool, true, false, leb, List, [], ◌∷◌, take, drop, refl, ap, ◌∙◌, add-zero, arith, le-leb, leb-false, leb-true}
use borrow.Author.Tests.{lt-leb}
use Rattle.std.proofs.lemmas.List.{drop-drop}
use Rattle.bits.specs.Bits as strings
use Rattle.bits.specs.Bits.{bytes}
use Rattle.format.specs.Cells.{File, size, number}
use Rattle.format.specs.Format.{Outcome, got, fault, next, once, field, one, each, each_read, times}
use Rattle.layout.specs.Slim.{byte, block}
use Rattle.reading.proofs.Steps.{next-on, next-not}

-- a byte
pub byte-on : (f : File) (p l : ℕ) → p + 8 ≤ size f → got (strings.number (take 8 (drop p f))) (p + 8) p ≡ byte.reads f p l
unfolding byte field number
byte-on f p l h = rw (le-leb (p + 8) (size f) h) refl

pub byte-not : (f : File) (p l : ℕ) → size f < p + 8 → fault 11 p ≡ byte.reads f p l
unfolding byte field
byte-not f p l h = rw (lt-leb (p + 8) (size f) h) refl

-- several
abbrev several : ℕ → File → ℕ → ℕ → Outcome (List ℕ)
several n f p l = each_read (λ (u : Unit {0}). byte) (λ u a. tt) n tt f p l

one_more : (n : ℕ) (f : File) (p l v r m : ℕ) (xs : List ℕ) → got v (p + 8) p ≡ byte.reads f p l → got xs r m ≡ several n f (p + 8) p → got (v ∷ xs) r m ≡ several (suc n) f p l
unfolding each_read
one_more n f p l v r m xs b e =
    next-on (several n f (p + 8) p) (λ xs r j. got (v ∷ xs) r j) xs r m e
    ∙ next-on (byte.reads f p l) (λ a q k. next (several n f q k) (λ xs r j. got (a ∷ xs) r j)) v (p + 8) p b

none_more : (n : ℕ) (f : File) (p l v x y : ℕ) → got v (p + 8) p ≡ byte.reads f p l → fault x y ≡ several n f (p + 8) p → fault x y ≡ several (suc n) f p l
unfolding each_read
none_more n f p l v x y b e =
    next-not (several n f (p + 8) p) (λ xs r j. got (v ∷ xs) r j) x y e
    ∙ next-on (byte.reads f p l) (λ a q k. next (several n f q k) (λ xs r j. got (a ∷ xs) r j)) v (p + 8) p b

none_at_all : (n : ℕ) (f : File) (p l x y : ℕ) → fault x y ≡ byte.reads f p l → fault x y ≡ several (suc n) f p l
unfolding each_read
none_at_all n f p l x y b = next-not (byte.reads f p l) (λ a q k. next (several n f q k) (λ xs r j. got (a ∷ xs) r j)) x y b

bytes-more : (n : ℕ) (f : File) (p : ℕ) → bytes (suc n) (drop p f) ≡ strings.number (take 8 (drop p f)) ∷ bytes n (drop (p + 8) f)
unfolding bytes
bytes-more n f p = ap (λ z. strings.number (take 8 (drop p f)) ∷ bytes n z) (drop-drop 8 p f)

several-on : (n : ℕ) (f : File) (p l : ℕ) → p + 8 * n ≤ size f → (m : ℕ) × (got (bytes n (drop p f)) (p + 8 * n) m ≡ several n f p l)
unfolding each_read bytes
several-on zero f p l h = (l, ap (λ (q : ℕ). got [] q l) (add-zero p))
several-on (suc n) f p l h =
    let (m, e) = several-on n f (p + 8) p (omega arith) in
    let behind : p + 8 * suc n ≡ p + 8 + 8 * n = omega arith in (
      m,
      ap (λ z. got z (p + 8 * suc n) m) (bytes-more n f p) ∙ ap (λ (q : ℕ). got (strings.number (take 8 (drop p f)) ∷ bytes n (drop (p + 8) f)) q m) behind
          ∙ one_more n f p l (strings.number (take 8 (drop p f))) (p + 8 + 8 * n) m (bytes n (drop (p + 8) f)) (byte-on f p l (omega arith)) e,
    )

here-or-later : (n : ℕ) (f : File) (p l : ℕ) → (p + 8 ≤ size f → (q : ℕ) × (fault 11 q ≡ several n f (p + 8) p)) → (q : ℕ) × (fault 11 q ≡ several (suc n) f p l)
here-or-later n f p l later = by-test (leb (p + 8) (size f)) refl
  where
    by-test : (t : Bool) → leb (p + 8) (size f) ≡ t → (q : ℕ) × (fault 11 q ≡ several (suc n) f p l)
    by-test true e =
        let i = leb-true (p + 8) (size f) e in
        let (q, d) = later i in
        (q, none_more n f p l (strings.number (take 8 (drop p f))) 11 q (byte-on f p l i) d)
    by-test false e = (p, none_at_all n f p l 11 p (byte-not f p l (omega (arith, leb-false (p + 8) (size f) e))))

several-not : (n : ℕ) (f : File) (p l : ℕ) → 0 < n → size f < p + 8 * n → (q : ℕ) × (fault 11 q ≡ several n f p l)
several-not zero f p l k h = absurd (omega arith)
several-not (suc n) f p l k h = here-or-later n f p l (λ i. several-not n f (p + 8) p (omega arith) (omega arith))

pub block_on : (n : ℕ) (f : File) (p l : ℕ) → p + 8 * n ≤ size f → got (bytes n (drop p f)) (p + 8 * n) p ≡ (block n).reads f p l
unfolding block one times each once
block_on n f p l h = let (m, e) = several-on n f p l h in ap (once p) e

pub block-not : (n : ℕ) (f : File) (p l : ℕ) → 0 < n → size f < p + 8 * n → fault 11 p ≡ (block n).reads f p l
unfolding block one times each once
block-not n f p l k h = let (q, e) = several-not n f p l k h in ap (once p) e
