-- Sections that are read one behind the other.
use Rattle.std.proofs.Common.{◌≡◌, ℕ, suc, ◌+◌, ◌-◌, ◌<◌, ◌≤◌, Bool, true, false, ltb, List, [], ◌∷◌, length, drop, sym, refl, ap, ◌∙◌, arith}
use Rattle.std.proofs.lemmas.Bool.{lt-ltb, le-ltb, ltb-true, ltb-false}
use Rattle.bits.proofs.Files.{length-bytes}
use Rattle.format.specs.Cells.{File}
use Rattle.format.specs.Format.{Outcome, got, fault, next, Format, whole, refuse, ◌>>=◌}
use Rattle.format.proofs.Laws.{faulted}
use Rattle.layout.specs.Recording.{Section}
use Rattle.layout.specs.Turns.{raw_size}
use Rattle.layout.specs.Slim.{Flags, Piece, Closing, another, ended, Body, positive, piece, behind, chain, raw_total}
use Rattle.reading.specs.declared.block.Block.{Block}
use Rattle.reading.specs.declared.closing.Closing as code
use Rattle.reading.specs.declared.closing.Closing.TheVariants.{Another, Ended}
use Rattle.reading.specs.Blocks.{bytes_at, closing_of}
use Rattle.reading.proofs.Steps.{next-on, next-not, then-on, then-not}
use Rattle.reader.specs.Sections.{Head, head, rest}
use Rattle.reader.specs.Counts.{seen, outline, words_total, body_totals}
use Rattle.reader.specs.declared.totals.Totals.{Totals}
use Rattle.reader.proofs.Stages.{section-stages}
use Rattle.reader.proofs.Sound.{seen_back, piece-sound}

-- ## One section

module _ (g : Flags) (room : Bool) (total : ℕ) (f : File) (p l : ℕ) where
  pub section-no-head : {x y : ℕ} → fault x y ≡ (head g total).reads f p l → fault x y ≡ seen outline ((piece g room total).reads f p l)
  section-no-head {x} {y} e = ap (seen outline) (next-not ((head g total).reads f p l) (λ h q m. (rest room h).reads f q m) x y e ∙ sym (section-stages g room total f p l))

  pub section-rest : {h : Head} {q m : ℕ} {o : Outcome (ℕ × ℕ × Closing)} → got h q m ≡ (head g total).reads f p l → o ≡ seen outline ((rest room h).reads f q m) → o ≡ seen outline ((piece g room total).reads f p l)
  section-rest {h} {q} {m} e d = d ∙ ap (seen outline) (next-on ((head g total).reads f p l) (λ h q m. (rest room h).reads f q m) h q m e ∙ sym (section-stages g room total f p l))

-- ## All sections

-- the numbers of some sections, behind so many sections, words and raw bytes
abbrev onto : ℕ → ℕ → ℕ → Body → Totals
onto s w r b = record { sections = s + length b.sections; words = w + words_total b.sections; raw = r + raw_total b.sections; leftovers = length b.leftovers }

-- what the sections that are left give, at most so many, behind so many sections, words and raw bytes
unfoldable pub onward : Flags → File → ℕ → ℕ → ℕ → ℕ → ℕ → ℕ → Outcome Totals
onward g f k s w r p l = seen (onto s w r) ((chain g k r).reads f p l)

totals-same : {s s' w w' r r' n : ℕ} → s ≡ s' → w ≡ w' → r ≡ r' → ◌≡◌ {A = Totals} (record { sections = s; words = w; raw = r; leftovers = n }) (record { sections = s'; words = w'; raw = r'; leftovers = n })
totals-same a b c = rw (a, b, c) refl

behind-last : (F : Format Body) (S : Section) (k : Closing) (ls : List ℕ) (f : File) (q m : ℕ) → k ≡ ended ls → got (record { sections = S ∷ []; leftovers = ls }) q m ≡ (behind F S k).reads f q m
unfolding behind whole
behind-last F S k ls f q m c = rw c refl

behind_more : (F : Format Body) (S : Section) (k : Closing) (f : File) (q m : ℕ) → k ≡ another →
    next (F.reads f q m) (λ b q m. got (record { sections = S ∷ b.sections; leftovers = b.leftovers }) q m) ≡ (behind F S k).reads f q m
unfolding behind ◌>>=◌ whole
behind_more F S k f q m c = rw c refl

last-counts : (s w r : ℕ) (S : Section) (ls : List ℕ) →
    onto s w r (record { sections = S ∷ []; leftovers = ls }) ≡ record { sections = s + 1; words = w + length S.words; raw = r + raw_size S; leftovers = length ls }
unfolding words_total raw_total
last-counts s w r S ls = totals-same (omega arith) (omega arith) (omega arith)

more-counts : (s w r : ℕ) (S : Section) (o : Outcome Body) →
    seen (onto s w r) (next o (λ b q m. got (record { sections = S ∷ b.sections; leftovers = b.leftovers }) q m)) ≡ seen (onto (s + 1) (w + length S.words) (r + raw_size S)) o
unfolding next words_total raw_total
more-counts s w r S (got b q m) = ap (λ (t : Totals). got t q m) (totals-same (omega arith) (omega arith) (omega arith))
more-counts s w r S (fault n q) = refl

module _ (g : Flags) (f : File) where
  pub onward-start : (p l : ℕ) → onward g f 64 0 0 0 p l ≡ seen body_totals ((chain g 64 0).reads f p l)
  unfolding onward
  onward-start p l = by_cases ((chain g 64 0).reads f p l)
    where
      by_cases : (o : Outcome Body) → seen (onto 0 0 0) o ≡ seen body_totals o
      by_cases (got b q m) = ap (λ (t : Totals). got t q m) (totals-same (omega arith) (omega arith) (omega arith))
      by_cases (fault n q) = refl

  pub onward-end : (s w r p l : ℕ) → onward g f 0 s w r p l ≡ fault 9 l
  unfolding onward chain refuse
  onward-end s w r p l = refl

  module _ (k s w r p l : ℕ) where
    pub onward-not : {x y : ℕ} → fault x y ≡ (piece g (positive k) r).reads f p l → onward g f (suc k) s w r p l ≡ fault x y
    unfolding onward chain
    onward-not e = sym (ap (seen (onto s w r)) (then-not _ _ e))

    module _ (x : Piece) (q m : ℕ) (e : got x q m ≡ (piece g (positive k) r).reads f p l) where
      pub onward-last : (ls : List ℕ) → x.closing ≡ ended ls →
          onward g f (suc k) s w r p l ≡ got (record { sections = s + 1; words = w + length x.section.words; raw = r + raw_size x.section; leftovers = length ls }) q m
      unfolding onward chain
      onward-last ls c =
          sym (ap (λ (t : Totals). got t q m) (sym (last-counts s w r x.section ls))
          ∙ ap (seen (onto s w r)) (then-on _ _ e (behind-last (chain g k (r + raw_size x.section)) x.section x.closing ls f q m c)))

      pub onward-more : x.closing ≡ another → onward g f (suc k) s w r p l ≡ onward g f k (s + 1) (w + length x.section.words) (r + raw_size x.section) q m
      unfolding onward chain
      onward-more c =
          sym (sym (more-counts s w r x.section ((chain g k (r + raw_size x.section)).reads f q m))
          ∙ ap (seen (onto s w r)) (then-on _ _ e (behind_more (chain g k (r + raw_size x.section)) x.section x.closing f q m c)))

-- ## The loop

pub unseen : {A B : Type 0} (view : A → B) (o : Outcome A) (x y : ℕ) → fault x y ≡ seen view o → fault x y ≡ o
unseen view (got a p l) x y e = absurd (faulted e)
unseen view (fault n q) x y e = let z : (◌≡◌ {A = Outcome _} (fault x y) (fault n q)) = e in cc

is-room : (i : ℕ) → i < 64 → ltb (i + 1) 64 ≡ positive (64 - (i + 1))
is-room i h = by-test (ltb (i + 1) 64) refl
  where
    by-test : (t : Bool) → ltb (i + 1) 64 ≡ t → ltb (i + 1) 64 ≡ ltb 0 (64 - (i + 1))
    by-test true e = let j = ltb-true (i + 1) 64 e in e ∙ sym (lt-ltb 0 (64 - (i + 1)) (omega arith))
    by-test false e = let j = ltb-false (i + 1) 64 e in e ∙ sym (le-ltb 0 (64 - (i + 1)) (omega arith))

module _ (g : Flags) (f : File) (i w r p l : ℕ) (room : Bool) (less : i < 64) (is : room ≡ ltb (i + 1) 64) where
  abbrev read : Outcome Piece
  read = (piece g room r).reads f p l

  one_more : onward g f (64 - i) i w r p l ≡ onward g f (suc (64 - (i + 1))) i w r p l
  one_more = let z : 64 - i ≡ suc (64 - (i + 1)) = omega arith in ap (λ (k : ℕ). onward g f k i w r p l) z

  same-room : (o : Outcome Piece) → o ≡ read → o ≡ (piece g (positive (64 - (i + 1))) r).reads f p l
  same-room o e = e ∙ ap (λ (t : Bool). (piece g t r).reads f p l) (is ∙ is-room i less)

  pub pass-not : (x y : ℕ) → fault x y ≡ seen outline read → fault x y ≡ onward g f (64 - i) i w r p l
  pass-not x y e = sym (one_more ∙ onward-not g f (64 - (i + 1)) i w r p l (same-room (fault x y) (unseen outline read x y e)))

  pub pass-bounds : (n k : ℕ) (e : Closing) (q m : ℕ) → got (n, k, e) q m ≡ seen outline read → (r + n ≤ 16777216) × (k ≤ n)
  pass-bounds n k e q m h =
      let (x, v, d) = seen_back outline read (n, k, e) q m h in
      let (a, b) = piece-sound g room r f p l x q m d in
      let i = ap (λ (z : ℕ × ℕ × Closing). z.0) v in
      let j = ap (λ (z : ℕ × ℕ × Closing). z.1) v in
      (omega (arith, a, i), omega (arith, b, i, j))

  pub pass-last : (n k : ℕ) (ls : List ℕ) (q m : ℕ) → got (n, k, ended ls) q m ≡ seen outline read →
      got (record { sections = i + 1; words = w + k; raw = r + n; leftovers = length ls }) q m ≡ onward g f (64 - i) i w r p l
  pass-last n k ls q m h =
      let (x, v, d) = seen_back outline read (n, k, ended ls) q m h in
      let a = ap (λ (z : ℕ × ℕ × Closing). z.0) v in
      let b = ap (λ (z : ℕ × ℕ × Closing). z.1) v in
      let c = ap (λ (z : ℕ × ℕ × Closing). z.2) v in
      ap (λ (t : Totals). got t q m) (totals-same refl (ap (λ (z : ℕ). w + z) b) (ap (λ (z : ℕ). r + z) a))
      ∙ sym (one_more ∙ onward-last g f (64 - (i + 1)) i w r p l x q m (same-room (got x q m) (sym d)) ls (sym c))

  pub pass-more : (n k q m : ℕ) → got (n, k, another) q m ≡ seen outline read → onward g f (64 - (i + 1)) (i + 1) (w + k) (r + n) q m ≡ onward g f (64 - i) i w r p l
  pass-more n k q m h =
      let (x, v, d) = seen_back outline read (n, k, another) q m h in
      let a = ap (λ (z : ℕ × ℕ × Closing). z.0) v in
      let b = ap (λ (z : ℕ × ℕ × Closing). z.1) v in
      let c = ap (λ (z : ℕ × ℕ × Closing). z.2) v in
      ap (λ (z : ℕ). onward g f (64 - (i + 1)) (i + 1) (w + z) (r + n) q m) b ∙ ap (λ (z : ℕ). onward g f (64 - (i + 1)) (i + 1) (w + length x.section.words) (r + z) q m) a
      ∙ sym (one_more ∙ onward-more g f (64 - (i + 1)) i w r p l x q m (same-room (got x q m) (sym d)) (sym c))

  -- as the code has what closes a section
  pub pass-ended : (n k : ℕ) (e : code.Closing) (b : Block) (q m : ℕ) → e ≡ Ended b → got (n, k, closing_of f e) q m ≡ seen outline read →
      got (record { sections = i + 1; words = w + k; raw = r + n; leftovers = b.len }) q m ≡ onward g f (64 - i) i w r p l
  pass-ended n k e b q m c h =
      let many = length-bytes b.len (drop b.at.bits f) in
      ap (λ (z : ℕ). got (record { sections = i + 1; words = w + k; raw = r + n; leftovers = z }) q m) (sym many)
      ∙ pass-last n k (bytes_at f b) q m (ap (λ (z : code.Closing). got (n, k, closing_of f z) q m) (sym c) ∙ h)

  pub pass-another : (n k : ℕ) (e : code.Closing) (q m : ℕ) → e ≡ Another → got (n, k, closing_of f e) q m ≡ seen outline read →
      onward g f (64 - (i + 1)) (i + 1) (w + k) (r + n) q m ≡ onward g f (64 - i) i w r p l
  pass-another n k e q m c h = pass-more n k q m (ap (λ (z : code.Closing). got (n, k, closing_of f z) q m) (sym c) ∙ h)
