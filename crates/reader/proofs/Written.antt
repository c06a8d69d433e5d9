-- Raw bytes and leftovers that are read and written.
use Rattle.std.proofs.Common.{◌≡◌, ℕ, zero, suc, ◌+◌, ◌-◌, ◌*◌, ◌/◌, ◌%◌, ◌^◌, ◌<◌, ◌≤◌, min, Bool, true, cond, List, ◌++◌, length, take, drop, Some, None, Option, sym, refl, ap, ◌∙◌, arith}
use Rattle.std.proofs.lemmas.Bool.{le-leb}
use Rattle.bits.specs.Bits.{bits, number, bytes, bits_of, field_at, put_bits}
use Rattle.bits.proofs.Numbers.{number-take, number-drop, bits_mod, bits-same, bits-split}
use Rattle.bits.proofs.Fields.{mod_mod_le}
use Rattle.fields.specs.Fields.{is_field}
use Rattle.format.specs.Cells.{File}
use Rattle.format.specs.Format.{got, fault, Format, Part, whole, refuse, ◌>>=◌, judged}
use Rattle.format.proofs.Laws.{faulted, got-got, next-got, cond-got}
use Rattle.layout.specs.Turns.{first, first_turn, raw_bytes, raw_size, count_words, words_from}
use Rattle.layout.specs.Slim.{Flags, Piece, counted, closed, piece}
use Rattle.frames.specs.Frames.{countable}
use Rattle.words.specs.Spread.{raw_of, spreadable, spread_bytes}
use Rattle.words.proofs.Laws.{read-spread}
use Rattle.words.proofs.Rows.{is-readable}
use Rattle.reader.specs.Sections.{Head, head, rest}
use Rattle.reader.specs.Unpacking.{section_bytes}
use Rattle.reader.proofs.Stages.{section-stages}
use Rattle.reader.proofs.Passing.{words-many}
use Rattle.reader.proofs.Sound.{head-sound, rest-sound}

-- ## Leftovers

-- the bits of bytes that were read from some bits
bytes_bits : (n : ℕ) (bs : List Bool) → bits_of (bytes n bs) ≡ bits (8 * n) (number bs)
unfolding bits_of bytes bits
bytes_bits zero bs = refl
bytes_bits (suc n) bs =
    let here : bits 8 (number (take 8 bs)) ≡ bits 8 (number bs) = ap (bits 8) (number-take 8 bs) ∙ bits_mod 8 (number bs) in
    let others : bits_of (bytes n (drop 8 bs)) ≡ bits (8 * n) (number bs / 2 ^ 8) = bytes_bits n (drop 8 bs) ∙ ap (bits (8 * n)) (number-drop 8 bs) in
    let many : 8 * suc n ≡ 8 + 8 * n = omega arith in
    ap (λ z. z ++ bits_of (bytes n (drop 8 bs))) here ∙ ap (λ z. bits 8 (number bs) ++ z) others ∙ sym (bits-split 8 (8 * n) (number bs)) ∙ ap (λ k. bits k (number bs)) (sym many)

-- up to eight bytes are one field
window-bits : (f : List ℕ) (at n : ℕ) → n ≤ 7 → bits (8 * n) (field_at f at 64) ≡ bits_of (bytes n (drop at (bits_of f)))
unfolding field_at
window-bits f at n h =
    let bs : List Bool = drop at (bits_of f) in
    let same : number (take 64 bs) % 2 ^ (8 * n) ≡ number bs % 2 ^ (8 * n) = ap (λ z. z % 2 ^ (8 * n)) (number-take 64 bs) ∙ mod_mod_le (number bs) 64 (8 * n) (omega arith) in
    bits-same (8 * n) (number (take 64 bs)) (number bs) same ∙ sym (bytes_bits n bs)

is_field-fits : (place count room : ℕ) → count ≤ 64 → place + count ≤ 8 * room → is_field place count room ≡ true
is_field-fits place count room few fits = let a = le-leb count 64 few in let b = le-leb (place + count) (8 * room) fits in rw (a, b) refl

pub leftovers-put : (f out left : List ℕ) (at n from place v : ℕ) → n ≤ 7 → from + n ≤ length out → from < 2 ^ 32 → place ≡ min (8 * from) (2 ^ 64 - 1) → v ≡ field_at f at 64 →
    left ≡ cond (is_field place (8 * n) (length out)) (put_bits out place (bits (8 * n) v)) out → left ≡ put_bits out (8 * from) (bits_of (bytes n (drop at (bits_of f))))
leftovers-put f out left at n from place v few room small p w e =
    let z : place ≡ 8 * from = omega (arith, p, small) in
    let t = is_field-fits place (8 * n) (length out) (omega arith) (omega (arith, z, room)) in
    e ∙ ap (λ (b : Bool). cond b (put_bits out place (bits (8 * n) v)) out) t ∙ ap (λ (k : ℕ). put_bits out k (bits (8 * n) v)) z
    ∙ ap (λ (k : ℕ). put_bits out (8 * from) (bits (8 * n) k)) w ∙ ap (put_bits out (8 * from)) (window-bits f at n few)

-- ## Backwards through a section

then-back : {A B : Type 0} (P : Part B A) (g : A → Format B) (f : File) (p l : ℕ) (b : B) (q m : ℕ) → (P >>= g).reads f p l ≡ got b q m →
    (a : A) × (q₁ : ℕ) × (m₁ : ℕ) × (P.form.reads f p l ≡ got a q₁ m₁) × ((g a).reads f q₁ m₁ ≡ got b q m)
unfolding ◌>>=◌
then-back P g f p l b q m e = next-got (P.form.reads f p l) (λ a q m. (g a).reads f q m) b q m e

judged-back : {A : Type 0} (F : Format A) (ok : A → ℕ → Bool) (bad : ℕ) (f : File) (p l : ℕ) (a : A) (q m : ℕ) → (judged F ok bad).reads f p l ≡ got a q m → F.reads f p l ≡ got a q m
unfolding judged
judged-back F ok bad f p l a q m e =
    let (b, q₁, m₁, d, h) = next-got (F.reads f p l) (λ a q m. cond (ok a q) (got a q m) (fault bad m)) a q m e in
    let (t, g) = cond-got (ok b q₁) (got b q₁ m₁) bad m₁ a q m h in
    d ∙ g

counted_back : (o : Option ℕ) (F : ℕ → Format Piece) (f : File) (p l : ℕ) (x : Piece) (q m : ℕ) → (counted o F).reads f p l ≡ got x q m → (n : ℕ) × (o ≡ Some n) × ((F n).reads f p l ≡ got x q m)
unfolding counted refuse
counted_back None F f p l x q m e = absurd (faulted e)
counted_back (Some n) F f p l x q m e = (n, refl, e)

whole_back : {A : Type 0} (a b : A) (f : File) (p l q m : ℕ) → (whole a).reads f p l ≡ got b q m → a ≡ b
unfolding whole
whole_back a b f p l q m e = (got-got e).0

-- the words of a section that was read
rest-words : (room : Bool) (h : Head) (f : File) (p l : ℕ) (x : Piece) (q m : ℕ) → (rest room h).reads f p l ≡ got x q m →
    (n : ℕ) × (q₁ : ℕ) × (m₁ : ℕ) × (count_words h.channels first h.raw h.raw ≡ Some n) × ((words_from h.channels n (first_turn h.channels)).reads f p l ≡ got x.section.words q₁ m₁)
unfolding rest closed
rest-words room h f p l x q m e =
    let d = judged-back _ _ _ f p l x q m e in
    let (n, c, e₀) = counted_back (count_words h.channels first h.raw h.raw) (closed room h.channels) f p l x q m d in
    let (ws, q₁, m₁, w, e₁) = then-back _ _ f p l x q m e₀ in
    let (k, q₂, m₂, _, e₂) = then-back _ _ f q₁ m₁ x q m e₁ in
    let (u, q₃, m₃, _, e₃) = then-back _ _ f q₂ m₂ x q m e₂ in
    let same = whole_back (record { section = record { channels = h.channels; words = ws }; closing = k }) x f q₃ m₃ q m e₃ in
    (n, q₁, m₁, c, w ∙ ap (λ (y : Piece). got y.section.words q₁ m₁) same)

-- ## The raw bytes of a section

some-some : {n k : ℕ} → ◌≡◌ {A = Option ℕ} (Some n) (Some k) → n ≡ k
some-some e = cc

none-some : {k : ℕ} → ◌≡◌ {A = Option ℕ} None (Some k) → ⊥
none-some e = let z : ◌≡◌ {A = ℕ} 0 1 = cc in absurd (omega arith)

module _ (g : Flags) (room : Bool) (total : ℕ) (f : List ℕ) (p l : ℕ) (x : Piece) (q m : ℕ) (e : (piece g room total).reads (bits_of f) p l ≡ got x q m) where
  pub section-has-head : {i j : ℕ} → fault i j ≡ (head g total).reads (bits_of f) p l → ⊥
  section-has-head {i} {j} d =
      let (h, q₁, m₁, a, b) = next-got ((head g total).reads (bits_of f) p l) (λ h q m. (rest room h).reads (bits_of f) q m) x q m (sym (section-stages g room total (bits_of f) p l) ∙ e) in
      faulted (d ∙ a)

  module _ (h : Head) (i j : ℕ) (d : got h i j ≡ (head g total).reads (bits_of f) p l) where
    behind-head : (rest room h).reads (bits_of f) i j ≡ got x q m
    behind-head =
        let (k, q₁, m₁, a, b) = next-got ((head g total).reads (bits_of f) p l) (λ h q m. (rest room h).reads (bits_of f) q m) x q m (sym (section-stages g room total (bits_of f) p l) ∙ e) in
        let (s, t, u) = got-got (d ∙ a) in
        ap (λ (y : Head). (rest room y).reads (bits_of f) i j) s ∙ ap (λ (y : ℕ). (rest room k).reads (bits_of f) y j) t ∙ ap (λ (y : ℕ). (rest room k).reads (bits_of f) q₁ y) u ∙ b

    abbrev count : Option ℕ
    count = count_words h.channels first h.raw h.raw

    able : countable h.channels ≡ true
    able = (head-sound g total (bits_of f) p l h i j (sym d)).0

    count-is : (o : Option ℕ) → o ≡ cond (countable h.channels) count None → o ≡ count
    count-is o c = c ∙ ap (λ (t : Bool). cond t count None) able

    pub section-has-words : None ≡ cond (countable h.channels) count None → ⊥
    section-has-words c =
        let (n, _, _, k, _) = rest-words room h (bits_of f) i j x q m behind-head in
        none-some (count-is None c ∙ k)

    pub section-spread : (n : ℕ) (out : List ℕ) → length f ≤ 16777216 → Some n ≡ cond (countable h.channels) count None → total + raw_size x.section ≤ length out →
        spread_bytes h.channels f i n out total ≡ put_bits out (8 * total) (bits_of (section_bytes x.section))
    section-spread n out small c fits =
        let (k, q₁, m₁, counts, w) = rest-words room h (bits_of f) i j x q m behind-head in
        let many : k ≡ n = sym (some-some (count-is (Some n) c ∙ counts)) in
        let long = words-many h.channels k (bits_of f) i j x.section.words q₁ m₁ (sym w) in
        let same = (rest-sound room h (bits_of f) i j x q m behind-head).0 in
        let raw : raw_size x.section ≡ raw_bytes h.channels first k = ap (λ cs. raw_bytes cs first (length x.section.words)) same ∙ ap (raw_bytes h.channels first) long in
        let (all, _) = read-spread h.channels f i j k (length out - total) x.section.words q₁ m₁ w (omega (arith, raw, fits)) in
        let t = is-readable h.channels (length f) able small in
        ap (λ (z : Bool). cond z (put_bits out (8 * total) (bits_of (raw_of h.channels first (spreadable h.channels f i n (length out - total))))) out) t
        ∙ ap (λ (z : ℕ). put_bits out (8 * total) (bits_of (raw_of h.channels first (spreadable h.channels f i z (length out - total))))) (sym many)
        ∙ ap (λ (z : List ℕ). put_bits out (8 * total) (bits_of (raw_of h.channels first z))) all
        ∙ ap (λ cs. put_bits out (8 * total) (bits_of (raw_of cs first x.section.words))) (sym same)
