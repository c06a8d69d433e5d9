-- What is known of sections that were read.
use Rattle.std.proofs.Common.{◌≡◌, ℕ, zero, suc, ◌+◌, ◌≤◌, Bool, true, false, cond, ◌&&◌, ltb, leb, List, ◌∷◌, length, Some, None, Option, sym, refl, ap, ◌∙◌, arith, leb-true}
use Rattle.format.specs.Cells.{File, size, number}
use Rattle.format.specs.Format.{Outcome, got, fault, next, Format, Part, field, whole, refuse, ◌>>=◌, judged, choose, each_read, each, times}
use Rattle.format.proofs.Laws.{faulted, got-got, next-got, cond-got}
use Rattle.layout.specs.Recording.{Channel}
use Rattle.layout.specs.Channels.{ruled}
use Rattle.layout.specs.Turns.{first, count_words, raw_bytes, raw_size}
use Rattle.layout.specs.Slim.{Flags, Piece, positive, most_bytes, most_channels, channel, recorded, counted, closed, piece}
use Rattle.calls.specs.Calls.{describable}
use Rattle.calls.specs.Parts.{described}
use Rattle.frames.specs.Frames.{countable}
use Rattle.frames.proofs.Laws.{at-most-raw}
use Rattle.layout.proofs.Counting.{counted-bytes}
use Rattle.reader.specs.Sections.{Head, raw_field, head, rest}
use Rattle.reader.specs.Counts.{seen}
use Rattle.reader.proofs.Stages.{section-stages}
use Rattle.reader.proofs.Passing.{each-many, words-many}

-- ## Backwards through a format

then-back : {A B : Type 0} (P : Part B A) (g : A → Format B) (f : File) (p l : ℕ) (b : B) (q m : ℕ) → (P >>= g).reads f p l ≡ got b q m →
    (a : A) × (q₁ : ℕ) × (m₁ : ℕ) × (P.form.reads f p l ≡ got a q₁ m₁) × ((g a).reads f q₁ m₁ ≡ got b q m)
unfolding ◌>>=◌
then-back P g f p l b q m e = next-got (P.form.reads f p l) (λ a q m. (g a).reads f q m) b q m e

judged-back : {A : Type 0} (F : Format A) (ok : A → ℕ → Bool) (bad : ℕ) (f : File) (p l : ℕ) (a : A) (q m : ℕ) → (judged F ok bad).reads f p l ≡ got a q m →
    (F.reads f p l ≡ got a q m) × (ok a q ≡ true)
unfolding judged
judged-back F ok bad f p l a q m e =
    let (b, q₁, m₁, d, h) = next-got (F.reads f p l) (λ a q m. cond (ok a q) (got a q m) (fault bad m)) a q m e in
    let (t, g) = cond-got (ok b q₁) (got b q₁ m₁) bad m₁ a q m h in
    let (same, place, _) = got-got g in
    (d ∙ g, sym (ap (λ x. ok x q₁) same ∙ ap (ok a) place) ∙ t)

whole_back : {A : Type 0} (a b : A) (f : File) (p l q m : ℕ) → (whole a).reads f p l ≡ got b q m → a ≡ b
unfolding whole
whole_back a b f p l q m e = (got-got e).0

field_back : (n : ℕ) (ok : ℕ → Bool) (bad : ℕ) (f : File) (p l v q m : ℕ) → (field n ok bad).reads f p l ≡ got v q m → ok v ≡ true
unfolding field
field_back n ok bad f p l v q m e =
    let (_, d) = cond-got (leb (p + n) (size f)) (cond (ok (number f n p)) (got (number f n p) (p + n) p) (fault bad p)) 11 p v q m e in
    let (h, i) = cond-got (ok (number f n p)) (got (number f n p) (p + n) p) bad p v q m d in
    ap ok (sym (got-got i).0) ∙ h

pub seen_back : {A B : Type 0} (view : A → B) (o : Outcome A) (v : B) (q m : ℕ) → got v q m ≡ seen view o → (a : A) × (v ≡ view a) × (o ≡ got a q m)
seen_back view (got a p l) v q m e = let (i, j, k) = got-got e in (a, i, ap (λ (x : ℕ). got a x l) (sym j) ∙ ap (λ (x : ℕ). got a q x) (sym k))
seen_back view (fault n p) v q m e = absurd (faulted (sym e))

-- ## The head

channel-ruled : (kept : Bool) (f : File) (p l : ℕ) (c : Channel) (q m : ℕ) → (channel kept).reads f p l ≡ got c q m → ruled c ≡ true
unfolding channel
channel-ruled kept f p l c q m e = (judged-back _ _ _ f p l c q m e).1

both : (a b : Bool) → a ≡ true → b ≡ true → (a && b) ≡ true
both a b e h = rw (e, h) refl

rows-ruled : (kept : Bool) (n : ℕ) (f : File) (p l : ℕ) (cs : List Channel) (q m : ℕ) →
    each_read (λ (u : Unit {0}). channel kept) (λ u a. tt) n tt f p l ≡ got cs q m → describable true cs ≡ true
unfolding each_read describable
rows-ruled kept zero f p l cs q m e = ap (describable true) (sym (got-got e).0)
rows-ruled kept (suc n) f p l cs q m e =
    let (c, q₁, m₁, d, h) = next-got ((channel kept).reads f p l) (λ a q k. next (each_read (λ (u : Unit {0}). channel kept) (λ u a. tt) n tt f q k) (λ xs r j. got (a ∷ xs) r j)) cs q m e in
    let (ds, q₂, m₂, r, g) = next-got (each_read (λ (u : Unit {0}). channel kept) (λ u a. tt) n tt f q₁ m₁) (λ xs r j. got (c ∷ xs) r j) cs q m h in
    ap (describable true) (sym (got-got g).0) ∙ both (ruled c) (describable true ds) (channel-ruled kept f p l c q₁ m₁ d) (rows-ruled kept n f q₁ m₁ ds q₂ m₂ r)

abbrev few : ℕ → Bool
few c = positive c && leb c most_channels

count_by : (t : Bool) (f : File) (p l n q m : ℕ) → (choose t (whole 1) (field 24 few 5)).reads f p l ≡ got n q m → few n ≡ true
unfolding choose
count_by true f p l n q m e = ap few (sym (whole_back 1 n f p l q m e))
count_by false f p l n q m e = field_back 24 few 5 f p l n q m e

rows-countable : (g : Flags) (f : File) (p l : ℕ) (cs : List Channel) (q m : ℕ) → (described g).reads f p l ≡ got cs q m → countable cs ≡ true
unfolding described times each
rows-countable g f p l cs q m e =
    let (n, q₁, m₁, d, h) = then-back _ _ f p l cs q m e in
    let many = each-many (λ (u : Unit {0}). channel (recorded g n)) (λ u a. tt) n tt f q₁ m₁ cs q m h in
    by-few (length cs) (describable true cs) (ap few many ∙ count_by g.single f p l n q₁ m₁ d) (rows-ruled (recorded g n) n f q₁ m₁ cs q m h)
  where
    by-few : (k : ℕ) (b : Bool) → few k ≡ true → b ≡ true → (ltb 0 k && (leb k most_channels && b)) ≡ true
    by-few k b h i = split (ltb 0 k) (leb k most_channels) h i
      where
        split : (x y : Bool) → (x && y) ≡ true → b ≡ true → (x && (y && b)) ≡ true
        split true true h i = i
        split true false h i = h
        split false y h i = h

-- the channels may be those of a section, and the raw bytes do not pass the limit
pub head-sound : (g : Flags) (total : ℕ) (f : File) (p l : ℕ) (h : Head) (q m : ℕ) → (head g total).reads f p l ≡ got h q m → (countable h.channels ≡ true) × (total + h.raw ≤ most_bytes)
unfolding head raw_field
head-sound g total f p l h q m e =
    let (v, q₁, m₁, a, e₁) = then-back _ _ f p l h q m e in
    let (t, q₂, m₂, b, e₂) = then-back _ _ f q₁ m₁ h q m e₁ in
    let (cs, q₃, m₃, d, e₃) = then-back _ _ f q₂ m₂ h q m e₂ in
    let same = whole_back (record { raw = v; pointer = t; channels = cs }) h f q₃ m₃ q m e₃ in
    let fits = (judged-back _ _ _ f p l v q₁ m₁ a).1 in
    let able = rows-countable g f q₂ m₂ cs q₃ m₃ d in
    (ap (λ (x : Head). countable x.channels) (sym same) ∙ able, leb-true (total + h.raw) most_bytes (ap (λ (x : Head). leb (total + x.raw) most_bytes) (sym same) ∙ fits))

-- ## What follows the head

counted_back : (o : Option ℕ) (F : ℕ → Format Piece) (f : File) (p l : ℕ) (x : Piece) (q m : ℕ) → (counted o F).reads f p l ≡ got x q m → (n : ℕ) × (o ≡ Some n) × ((F n).reads f p l ≡ got x q m)
unfolding counted refuse
counted_back None F f p l x q m e = absurd (faulted e)
counted_back (Some n) F f p l x q m e = (n, refl, e)

-- the section has the head's channels, and as many words as the raw bytes make
pub rest-sound : (room : Bool) (h : Head) (f : File) (p l : ℕ) (x : Piece) (q m : ℕ) → (rest room h).reads f p l ≡ got x q m →
    (x.section.channels ≡ h.channels) × (count_words h.channels first h.raw h.raw ≡ Some (length x.section.words))
unfolding rest closed
rest-sound room h f p l x q m e =
    let (d, _) = judged-back _ _ _ f p l x q m e in
    let (n, c, e₀) = counted_back (count_words h.channels first h.raw h.raw) (closed room h.channels) f p l x q m d in
    let (ws, q₁, m₁, w, e₁) = then-back _ _ f p l x q m e₀ in
    let (k, q₂, m₂, _, e₂) = then-back _ _ f q₁ m₁ x q m e₁ in
    let (u, q₃, m₃, _, e₃) = then-back _ _ f q₂ m₂ x q m e₂ in
    let same = whole_back (record { section = record { channels = h.channels; words = ws }; closing = k }) x f q₃ m₃ q m e₃ in
    let many : length x.section.words ≡ n = ap (λ (y : Piece). length y.section.words) (sym same) ∙ words-many h.channels n f p l ws q₁ m₁ (sym w) in
    (ap (λ (y : Piece). y.section.channels) (sym same), c ∙ ap (λ (k : ℕ). Some k) (sym many))

-- ## A section

-- its raw bytes do not pass the limit, and it has no more words than raw bytes
pub piece-sound : (g : Flags) (room : Bool) (total : ℕ) (f : File) (p l : ℕ) (x : Piece) (q m : ℕ) → (piece g room total).reads f p l ≡ got x q m →
    (total + raw_size x.section ≤ most_bytes) × (length x.section.words ≤ raw_size x.section)
piece-sound g room total f p l x q m e =
    let (h, q₁, m₁, a, b) = next-got ((head g total).reads f p l) (λ h q m. (rest room h).reads f q m) x q m (sym (section-stages g room total f p l) ∙ e) in
    let (able, fits) = head-sound g total f p l h q₁ m₁ a in
    let (same, count) = rest-sound room h f q₁ m₁ x q m b in
    let raw : raw_size x.section ≡ h.raw = ap (λ cs. raw_bytes cs first (length x.section.words)) same ∙ counted-bytes h.channels first h.raw h.raw (length x.section.words) count in
    (omega (arith, raw, fits), omega (arith, raw, at-most-raw h.channels able h.raw (length x.section.words) count))
