-- What follows the head of a section, as it is read.
use Rattle.std.proofs.Common.{◌≡◌, ℕ, zero, suc, ◌/◌, Bool, true, false, cond, leb, List, ◌∷◌, length, Some, None, Option, sym, refl, ap, ◌∙◌}
use Rattle.bits.specs.Bits.{bits_of}
use Rattle.format.specs.Cells.{File}
use Rattle.format.specs.Format.{Outcome, got, fault, next, Format, refuse, padding, each_read, each}
use Rattle.format.proofs.Laws.{faulted, got-got, next-got}
use Rattle.layout.specs.Recording as recordings
use Rattle.layout.specs.Recording.{Section}
use Rattle.layout.specs.Turns.{first, first_turn, raw_bytes, count_words, words_from}
use Rattle.layout.specs.Slim.{Piece, Closing, goes_on, counted, closed}
use Rattle.layout.proofs.Counting.{counted-bytes}
use Rattle.frames.specs.Frames.{countable}
use Rattle.words.specs.Words.{places, readable, pass_answer}
use Rattle.reading.proofs.Steps.{then-on, then-not, whole-on, judged-on, judged-off, judged-not}
use Rattle.reader.specs.Sections.{Head, agrees, rest}
use Rattle.reader.specs.Counts.{seen, outline}
use Rattle.reader.proofs.Closings.{End}

-- ## Words that are not kept

placed : {A : Type 0} (o : Outcome A) (q m : ℕ) → got tt q m ≡ places o → (a : A) × (got a q m ≡ o)
placed (got a p l) q m e = let (_, i, j) = got-got e in (a, ap (λ (x : ℕ). got a x m) i ∙ ap (λ (x : ℕ). got a p x) j)
placed (fault n x) q m e = absurd (faulted (sym e))

unplaced : {A : Type 0} (o : Outcome A) (x y : ℕ) → fault x y ≡ places o → fault x y ≡ o
unplaced (got a p l) x y e = absurd (faulted e)
unplaced (fault n q) x y e = let z : (◌≡◌ {A = Outcome (Unit {0})} (fault x y) (fault n q)) = e in cc

-- as many are read as were told
pub each-many : {M A : Type 0} (F : M → Format A) (step : M → A → M) (n : ℕ) (m : M) (f : File) (p l : ℕ) (xs : List A) (q k : ℕ) → each_read F step n m f p l ≡ got xs q k → length xs ≡ n
unfolding each_read
each-many F step zero m f p l xs q k e = let (same, _, _) = got-got e in sym (ap length same)
each-many F step (suc n) m f p l xs q k e =
    let (a, q₁, k₁, _, d) = next-got ((F m).reads f p l) (λ a q k. next (each_read F step n (step m a) f q k) (λ xs r j. got (a ∷ xs) r j)) xs q k e in
    let (ys, q₂, k₂, r, g) = next-got (each_read F step n (step m a) f q₁ k₁) (λ xs r j. got (a ∷ xs) r j) xs q k d in
    let (same, _, _) = got-got g in
    sym (ap length same) ∙ ap suc (each-many F step n (step m a) f q₁ k₁ ys q₂ k₂ r)

pub words-many : (cs : List recordings.Channel) (n : ℕ) (f : File) (p l : ℕ) (ws : List ℕ) (q m : ℕ) → got ws q m ≡ (words_from cs n (first_turn cs)).reads f p l → length ws ≡ n
unfolding words_from each
words-many cs n f p l ws q m e = each-many _ _ n (first_turn cs) f p l ws q m (sym e)

pub count-is : (cs : List recordings.Channel) (raw : ℕ) (r : Option ℕ) → countable cs ≡ true → r ≡ cond (countable cs) (count_words cs first raw raw) None → r ≡ count_words cs first raw raw
count-is cs raw r c e = e ∙ ap (λ (t : Bool). cond t (count_words cs first raw raw) None) c

is-readable : (cs : List recordings.Channel) (len : ℕ) → countable cs ≡ true → leb len 16777216 ≡ true → readable cs len ≡ true
is-readable cs len c h = rw (c, h) refl

module _ (cs : List recordings.Channel) (f : List ℕ) (p l n : ℕ) (able : countable cs ≡ true) (small : leb (length f) 16777216 ≡ true) where
  answer-is : pass_answer cs f p l n ≡ places ((words_from cs n (first_turn cs)).reads (bits_of f) p l)
  answer-is = let t = is-readable cs (length f) able small in rw t refl

  -- words were passed
  pub words-on : (q m : ℕ) → got tt q m ≡ pass_answer cs f p l n → (ws : List ℕ) × (got ws q m ≡ (words_from cs n (first_turn cs)).reads (bits_of f) p l) × (length ws ≡ n)
  words-on q m e =
      let (ws, d) = placed ((words_from cs n (first_turn cs)).reads (bits_of f) p l) q m (e ∙ answer-is) in
      (ws, d, words-many cs n (bits_of f) p l ws q m d)

  pub words-not : (x y : ℕ) → fault x y ≡ pass_answer cs f p l n → fault x y ≡ (words_from cs n (first_turn cs)).reads (bits_of f) p l
  words-not x y e = unplaced ((words_from cs n (first_turn cs)).reads (bits_of f) p l) x y (e ∙ answer-is)

-- ## Stage by stage

module _ (room : Bool) (h : Head) (f : File) (p l : ℕ) where
  abbrev count : Option ℕ
  count = count_words h.channels first h.raw h.raw

  abbrev Words : ℕ → Format (List ℕ)
  Words n = words_from h.channels n (first_turn h.channels)

  counted-on : {n : ℕ} {o : Outcome Piece} → Some n ≡ count → o ≡ (closed room h.channels n).reads f p l → o ≡ (counted count (closed room h.channels)).reads f p l
  unfolding counted
  counted-on e d = rw (← e) d

  counted-off : None ≡ count → fault 13 l ≡ (counted count (closed room h.channels)).reads f p l
  unfolding counted refuse
  counted-off e = rw (← e) refl

  pub rest-cut : None ≡ count → fault 13 l ≡ (rest room h).reads f p l
  unfolding rest
  rest-cut e = judged-not _ _ _ (counted-off e)

  pub rest-no-words : {n x y : ℕ} → Some n ≡ count → fault x y ≡ (Words n).reads f p l → fault x y ≡ (rest room h).reads f p l
  unfolding rest closed
  rest-no-words e d = judged-not _ _ _ (counted-on e (then-not _ _ d))

  module _ {n q m : ℕ} {ws : List ℕ} (e : Some n ≡ count) (w : got ws q m ≡ (Words n).reads f p l) where
    pub rest-no-end : {x y : ℕ} → fault x y ≡ (End f q m room).reads f q m → fault x y ≡ (rest room h).reads f p l
    unfolding rest closed
    rest-no-end d = judged-not _ _ _ (counted-on e (then-on _ _ w (then-not _ _ d)))

    module _ {q₂ m₂ : ℕ} {k : Closing} (c : got k q₂ m₂ ≡ (End f q m room).reads f q m) where
      pub rest-no_pads : {x y : ℕ} → fault x y ≡ padding.reads f q₂ m₂ → fault x y ≡ (rest room h).reads f p l
      unfolding rest closed
      rest-no_pads d = judged-not _ _ _ (counted-on e (then-on _ _ w (then-on _ _ c (then-not _ _ d))))

      abbrev read : Piece
      read = record { section = record { channels = h.channels; words = ws }; closing = k }

      pads_on : {q₃ m₃ : ℕ} → got tt q₃ m₃ ≡ padding.reads f q₂ m₂ → got read q₃ m₃ ≡ (counted count (closed room h.channels)).reads f p l
      unfolding closed
      pads_on d = counted-on e (then-on _ _ w (then-on _ _ c (then-on _ _ d (whole-on _ _ _ _))))

      pub rest-off : {q₃ m₃ : ℕ} → got tt q₃ m₃ ≡ padding.reads f q₂ m₂ → agrees h.pointer (cond (goes_on k) (q₃ / 8) 0) ≡ false → fault 15 m₃ ≡ (rest room h).reads f p l
      unfolding rest
      rest-off d t = judged-off _ _ _ (pads_on d) t

      pub rest-on : {q₃ m₃ : ℕ} → got tt q₃ m₃ ≡ padding.reads f q₂ m₂ → agrees h.pointer (cond (goes_on k) (q₃ / 8) 0) ≡ true → length ws ≡ n →
          got (h.raw, n, k) q₃ m₃ ≡ seen outline ((rest room h).reads f p l)
      unfolding rest
      rest-on {q₃} {m₃} d t many =
          let size : raw_bytes h.channels first (length ws) ≡ h.raw = ap (raw_bytes h.channels first) many ∙ counted-bytes h.channels first h.raw h.raw n (sym e) in
          ap (λ (x : ℕ). got (x, n, k) q₃ m₃) (sym size) ∙ ap (λ (x : ℕ). got (raw_bytes h.channels first (length ws), x, k) q₃ m₃) (sym many) ∙ ap (seen outline) (judged-on _ _ _ (pads_on d) t)
