-- A loop that reads values and does not keep them, and a word as a coder takes it.
use Rattle.std.proofs.Common.{◌≡◌, ℕ, suc, ◌+◌, ◌-◌, ◌*◌, ◌<◌, ◌≤◌, ◌^◌, min, cond, List, ◌∷◌, length, drop, Some, None, sym, refl, ap, ◌∙◌, arith, length-drop}
use Rattle.std.proofs.lemmas.Bool.{le-leb, lt-leb}
use Rattle.fields.specs.declared.place.Cursor.{Cursor}
use Rattle.layout.specs.Slim.{most_bytes}
use Rattle.bits.specs.Bits.{bits_of}
use Rattle.bits.proofs.Files.{length-bits_of}
use Rattle.forms.specs.Code.{Code, Found, form, short, walk}
use Rattle.forms.specs.Coding as codings
use Rattle.forms.specs.Coding.{Coding, decoded}
use Rattle.forms.proofs.Codes.{walk-means}
use Rattle.format.specs.Cells.{File}
use Rattle.format.specs.Format.{Outcome, got, fault, next, Format, each, each_read}
use Rattle.format.specs.Word as words
use Rattle.format.specs.Word.{word}
use Rattle.faults.specs.Faults as answers
use Rattle.faults.specs.Faults.{Answer, gives}
use Rattle.coder.specs.Steps.{seen, take_answer}
use Rattle.words.specs.Words.{places, coder_words, coder_answer}

-- ## The loop

-- what follows does not change the places
kept : {A : Type 0} (a : A) (o : Outcome (List A)) → places (next o (λ xs r j. got (a ∷ xs) r j)) ≡ places o
unfolding next
kept a (got xs r j) = refl
kept a (fault n q) = refl

module _ {M A : Type 0} (F : M → Format A) (step : M → A → M) (f : File) where
  -- one value read, and the others
  first : (n : ℕ) (m : M) (o : Outcome A) → Outcome (List A)
  first n m o = next o (λ a q k. next (each_read F step n (step m a) f q k) (λ xs r j. got (a ∷ xs) r j))

  pub pass-more : (n i : ℕ) (m : M) (p l : ℕ) (a : A) (q k : ℕ) → i < n → (F m).reads f p l ≡ got a q k →
      places (each_read F step (n - i) m f p l) ≡ places (each_read F step (n - (i + 1)) (step m a) f q k)
  unfolding each_read next first
  pass-more n i m p l a q k h e =
      let j : n - i ≡ suc (n - (i + 1)) = omega arith in
      ap (λ z. places (each_read F step z m f p l)) j ∙ ap (λ o. places (first (n - (i + 1)) m o)) e ∙ kept a (each_read F step (n - (i + 1)) (step m a) f q k)

  -- a fault ends it
  pub pass-fault : (n i : ℕ) (m : M) (p l x y : ℕ) → i < n → (F m).reads f p l ≡ fault x y → places (each_read F step (n - i) m f p l) ≡ fault x y
  unfolding each_read next first
  pass-fault n i m p l x y h e =
      let j : n - i ≡ suc (n - (i + 1)) = omega arith in
      ap (λ z. places (each_read F step z m f p l)) j ∙ ap (λ o. places (first (n - (i + 1)) m o)) e

  -- and its end
  pub pass-end : (n i : ℕ) (m : M) (p l : ℕ) → n ≤ i → places (each_read F step (n - i) m f p l) ≡ got tt p l
  unfolding each_read
  pass-end n i m p l h = let j : n - i ≡ 0 = omega arith in ap (λ z. places (each_read F step z m f p l)) j

-- the words of a coder are read so
pub coder_reads : (C : Coding (ℕ × Unit {0})) (n : ℕ) (m : ℕ × Unit {0}) (f : File) (p l : ℕ) → (coder_words C n m).reads f p l ≡ each_read (λ m. word (C.code m)) C.after n m f p l
unfolding coder_words each
coder_reads C n m f p l = refl

-- ## One word

-- the form last tried before does not matter
pub any_last : (t : Code) (f : File) (p l k : ℕ) → (word t).reads f p l ≡ (word t).reads f p k
unfolding word
any_last t f p l k = refl

module _ {M : Type 0} (C : Coding M) (m : M) (f : List ℕ) (at : ℕ) where
  part_of : {A : Type 0} → A → (ℕ × ℕ × M → A) → Answer (ℕ × ℕ × M) → A
  part_of a g (gives t) = g t
  part_of a g (answers.fault i p) = a

  abbrev word_of : ℕ × ℕ × M → ℕ
  word_of t = t.0

  abbrev length_of : ℕ × ℕ × M → ℕ
  length_of t = t.1

  abbrev memory_of : ℕ × ℕ × M → M
  memory_of t = t.2

  -- a word that was taken
  pub took : (x n : ℕ) (k : M) (l : ℕ) → gives (x, n, k) ≡ take_answer C m f at →
      ((word (C.code m)).reads (bits_of f) at l ≡ got x (at + n) at) × (k ≡ C.after m x) × (n ≤ 8 * length f - at)
  unfolding word decoded part_of
  took x n k l e = go (walk (C.code m) (drop at (bits_of f))) refl e
    where
      go : (o : Found) → walk (C.code m) (drop at (bits_of f)) ≡ o → gives (x, n, k) ≡ seen at (codings.told (C.after m) o) →
          (words.told at (walk (C.code m) (drop at (bits_of f))) ≡ got x (at + n) at) × (k ≡ C.after m x) × (n ≤ 8 * length f - at)
      go (form (Some y) j) a d =
          let i : x ≡ y = ap (part_of 0 word_of) d in
          let s : n ≡ j = ap (part_of 0 length_of) d in
          let t : k ≡ C.after m y = ap (part_of k memory_of) d in
          let b : j ≤ length (drop at (bits_of f)) = (walk-means (C.code m) (drop at (bits_of f)) (Some y) j a).0 in
          (ap (words.told at) a ∙ ap (λ z. got z (at + j) at) (sym i) ∙ ap (λ z. got x (at + z) at) (sym s), t ∙ ap (C.after m) (sym i), omega (arith, b, s, length-drop at (bits_of f), length-bits_of f))
      go (form None j) a d = let z : ◌≡◌ {A = ℕ} 0 1 = cc in absurd (omega arith)
      go short a d = let z : ◌≡◌ {A = ℕ} 0 1 = cc in absurd (omega arith)

  -- a fault
  pub took-not : (i p l : ℕ) → answers.fault i p ≡ take_answer C m f at → (word (C.code m)).reads (bits_of f) at l ≡ fault i p
  unfolding word decoded
  took-not i p l e = go (walk (C.code m) (drop at (bits_of f))) refl e
    where
      go : (o : Found) → walk (C.code m) (drop at (bits_of f)) ≡ o → answers.fault i p ≡ seen at (codings.told (C.after m) o) → words.told at (walk (C.code m) (drop at (bits_of f))) ≡ fault i p
      go (form (Some y) j) a d = let z : ◌≡◌ {A = ℕ} 0 1 = cc in absurd (omega arith)
      go (form None j) a d = let b : i ≡ 16 = cc in let c : p ≡ at = cc in ap (words.told at) a ∙ ap (λ z. fault z at) (sym b) ∙ ap (fault i) (sym c)
      go short a d = let b : i ≡ 11 = cc in let c : p ≡ at = cc in ap (words.told at) a ∙ ap (λ z. fault z at) (sym b) ∙ ap (fault i) (sym c)

-- ## The words of one coder

module _ (C : Coding (ℕ × Unit {0})) (f : List ℕ) (n : ℕ) where
  -- what is left of n words behind i
  abbrev pub left : ℕ → ℕ → ℕ → ℕ → Outcome (List ℕ)
  left k m p l = each_read (λ m. word (C.code m)) C.after k (m, tt) (bits_of f) p l

  module _ (i m p l q : ℕ) (h : i < n) (same : q ≡ p) where
    pub coder_more : (x len : ℕ) (k : ℕ × Unit {0}) → gives (x, len, k) ≡ take_answer C (m, tt) f q → places (left (n - (i + 1)) k.0 (p + len) p) ≡ places (left (n - i) m p l)
    coder_more x len k e =
        let (r, t, _) = took C (m, tt) f q x len k l e in
        let s = ap (λ z. (word (C.code (m, tt))).reads (bits_of f) z l) (sym same) ∙ r ∙ ap (λ z. got x (z + len) z) same in
        ap (λ z. places (left (n - (i + 1)) z.0 (p + len) p)) t ∙ sym (pass-more (λ m. word (C.code m)) C.after (bits_of f) n i (m, tt) p l x (p + len) p h s)

    pub coder_fault : (x y : ℕ) → answers.fault x y ≡ take_answer C (m, tt) f q → fault x y ≡ places (left (n - i) m p l)
    coder_fault x y e =
        let s = ap (λ z. (word (C.code (m, tt))).reads (bits_of f) z l) (sym same) ∙ took-not C (m, tt) f q x y l e in
        sym (pass-fault (λ m. word (C.code m)) C.after (bits_of f) n i (m, tt) p l x y h s)

  pub coder_end : (i m p l q k : ℕ) → n ≤ i → q ≡ p → k ≡ l → got tt q k ≡ places (left (n - i) m p l)
  coder_end i m p l q k h a b = ap (λ z. got tt z k) a ∙ ap (got tt p) b ∙ sym (pass-end (λ m. word (C.code m)) C.after (bits_of f) n i (m, tt) p l h)

  pub coder_all : (p l q k : ℕ) → p ≡ q → l ≡ k → length f ≤ 16777216 → places (left n 0 p l) ≡ coder_answer C f q k n
  coder_all p l q k a b h =
      ap (λ z. places (left n 0 z l)) a ∙ ap (λ z. places (left n 0 q z)) b ∙ ap places (sym (coder_reads C n (0, tt) (bits_of f) q k))
      ∙ sym (ap (λ t. cond t (places ((coder_words C n (0, tt)).reads (bits_of f) q k)) (fault 1 0)) (le-leb (length f) most_bytes h))

  pub coder_unfit : (q k : ℕ) → 16777216 < length f → fault 1 0 ≡ coder_answer C f q k n
  coder_unfit q k h = sym (ap (λ t. cond t (places ((coder_words C n (0, tt)).reads (bits_of f) q k)) (fault 1 0)) (lt-leb (length f) most_bytes h))

-- ## Where a reader stands

-- behind a form that lies within a file
pub stands_behind : (c d : Cursor) (n : ℕ) (f : List ℕ) → d ≡ record { at = record { bits = min (c.at.bits + n) (2 ^ 64 - 1) }; last = c.at } → n ≤ 8 * length f - c.at.bits → length f ≤ 16777216 → c.at.bits < 2 ^ 64 →
    (d.at.bits ≡ c.at.bits + n) × (d.last.bits ≡ c.at.bits)
stands_behind c d n f e a b h = (ap (λ z. z.at.bits) e ∙ omega arith, ap (λ z. z.last.bits) e)
