-- Reading a name and extra bytes.
use Rattle.std.proofs.Common.{◌≡◌, ℕ, zero, suc, ◌+◌, ◌-◌, ◌*◌, ◌/◌, ◌%◌, ◌<◌, ◌≤◌, Bool, true, false, eqb, leb, List, [], ◌∷◌, ◌++◌, length, take, drop, sym, refl, ap, ◌∙◌, add-zero, mod-eq_of_lt, arith, length-drop, eq-eqb, ne_eqb, leb-false, leb-true}
use Rattle.std.proofs.lemmas.List.{append-nil, append_assoc, drop-drop, take_at, drop_at}
use Rattle.bits.specs.Bits as strings
use Rattle.bits.specs.Bits.{bits, bits_of, bytes, Bytes}
use Rattle.bits.proofs.Numbers.{length-bits, number-bits}
use Rattle.bits.proofs.Files.{length-bits_of, drop-bits_of}
use Rattle.bits.proofs.Fields.{Bytes-drop}
use Rattle.format.specs.Cells.{File, size, number}
use Rattle.format.specs.Format.{Outcome, got, fault, next, field, ◌>>=◌}
use Rattle.format.proofs.Laws.{faulted, got-got, cond-got}
use Rattle.format.proofs.Loops.{before}
use Rattle.layout.specs.Slim.{any, byte, tail_of, name_bytes, block, extra_bytes}
use Rattle.reading.proofs.Steps.{next-on, next-not, then-on, then-not, then-whole, whole-on, choose-on, choose-off, field-on, field_off, field-not}
use Rattle.reading.proofs.Blocks.{block_on, block-not}

-- ## Bytes of a file

first-bytes : (n : ℕ) (g : List ℕ) → Bytes g → n ≤ length g → bytes n (bits_of g) ≡ take n g
unfolding bytes bits_of Bytes
first-bytes zero g b h = refl
first-bytes (suc n) [] b h = absurd (omega arith)
first-bytes (suc n) (x ∷ xs) (b, bs) h =
    let t : take 8 (bits 8 x ++ bits_of xs) ≡ bits 8 x = take_at (bits 8 x) (bits_of xs) 8 (length-bits 8 x) in
    let d : drop 8 (bits 8 x ++ bits_of xs) ≡ bits_of xs = drop_at (bits 8 x) (bits_of xs) 8 (length-bits 8 x) in
    let v : strings.number (bits 8 x) ≡ x = number-bits 8 x ∙ mod-eq_of_lt b in
    ap (λ z. strings.number z ∷ bytes n (drop 8 (bits 8 x ++ bits_of xs))) t ∙ ap (λ z. strings.number (bits 8 x) ∷ bytes n z) d
    ∙ ap (λ z. z ∷ bytes n (bits_of xs)) v ∙ ap (λ z. x ∷ z) (first-bytes n xs bs (omega arith))

-- bytes from a whole byte on
pub part-is : (file : List ℕ) (p n : ℕ) → Bytes file → p % 8 ≡ 0 → p + 8 * n ≤ size (bits_of file) → bytes n (drop p (bits_of file)) ≡ take n (drop (p / 8) file)
part-is file p n b h i =
    let whole : p ≡ 8 * (p / 8) = omega arith in
    let inside : p / 8 + n ≤ length file = omega (arith, length-bits_of file) in
    let l : n ≤ length (drop (p / 8) file) = simp length-drop (omega arith) in
    ap (λ (q : ℕ). bytes n (drop q (bits_of file))) whole ∙ ap (bytes n) (drop-bits_of (p / 8) file (omega arith))
    ∙ first-bytes n (drop (p / 8) file) (Bytes-drop (p / 8) file b) l

pub part-inside : (file : List ℕ) (p n : ℕ) → p + 8 * n ≤ size (bits_of file) → p / 8 + n ≤ length file
part-inside file p n h = omega (arith, length-bits_of file)

-- ## What a field that was read says

pub field-got : (n : ℕ) (f : File) (p l v q m : ℕ) → got v q m ≡ (field n any 0).reads f p l → (p + n ≤ size f) × (v ≡ number f n p) × (q ≡ p + n) × (m ≡ p)
unfolding field
field-got n f p l v q m e =
    let (t, d) = cond-got (leb (p + n) (size f)) (got (number f n p) (p + n) p) 11 p v q m (sym e) in
    let (a, b, c) = got-got d in
    (leb-true (p + n) (size f) t, sym a, sym b, sym c)

pub block-got : (n : ℕ) (f : File) (p l : ℕ) (xs : List ℕ) (q m : ℕ) → 0 < n → got xs q m ≡ (block n).reads f p l → (p + 8 * n ≤ size f) × (xs ≡ bytes n (drop p f)) × (q ≡ p + 8 * n) × (m ≡ p)
block-got n f p l xs q m k e = by-test (leb (p + 8 * n) (size f)) refl
  where
    by-test : (t : Bool) → leb (p + 8 * n) (size f) ≡ t → (p + 8 * n ≤ size f) × (xs ≡ bytes n (drop p f)) × (q ≡ p + 8 * n) × (m ≡ p)
    by-test true d =
        let i = leb-true (p + 8 * n) (size f) d in
        let (a, b, c) = got-got (e ∙ sym (block_on n f p l i)) in
        (i, a, b, c)
    by-test false d = absurd (faulted (block-not n f p l k (omega (arith, leb-false (p + 8 * n) (size f) d)) ∙ sym e))

-- ## Names

-- it does not matter which field was tried before
pub name-last : (k : ℕ) (f : File) (p l m : ℕ) → (name_bytes k).reads f p m ≡ (name_bytes k).reads f p l
unfolding name_bytes ◌>>=◌ byte field next
name-last zero f p l m = refl
name-last (suc k) f p l m = refl

module _ (f : File) (p l : ℕ) where
  name-none : (k x y : ℕ) → fault x y ≡ (field 8 any 0).reads f p l → fault x y ≡ (name_bytes k).reads f p l
  unfolding name_bytes byte
  name-none zero x y e = then-not _ _ (field-not 8 (eqb 0) 4 f p l e)
  name-none (suc k) x y e = then-not _ _ e

  name-zero : (k : ℕ) {v q m : ℕ} → got v q m ≡ (field 8 any 0).reads f p l → v ≡ 0 → got [] q m ≡ (name_bytes k).reads f p l
  unfolding name_bytes byte
  name-zero zero {v} e z = then-on _ _ (field-on 8 (eqb 0) 4 f p l e (eq-eqb 0 v (sym z))) (whole-on _ _ _ _)
  name-zero (suc k) {v} e z = then-on _ _ e (choose-on _ _ _ (eq-eqb v 0 z) (whole-on _ _ _ _))

  name-over : {v q m : ℕ} → got v q m ≡ (field 8 any 0).reads f p l → (v ≡ 0 → ⊥) → fault 4 p ≡ (name_bytes 0).reads f p l
  unfolding name_bytes
  name-over {v} e z = then-not _ _ (field_off 8 (eqb 0) 4 f p l e (ne_eqb 0 v (λ h. z (sym h))))

  name-letter : (k : ℕ) {v q m : ℕ} → got v q m ≡ (field 8 any 0).reads f p l → (v ≡ 0 → ⊥) → next ((name_bytes k).reads f q m) (λ bs r j. got (v ∷ bs) r j) ≡ (name_bytes (suc k)).reads f p l
  unfolding name_bytes byte
  name-letter k {v} {q} {m} e z = then-on _ _ e (choose-off _ _ _ (ne_eqb v 0 z) (then-whole tail_of (name_bytes k) (λ bs. v ∷ bs) f q m))

-- what was read before stands in front
front-more : (ws : List ℕ) (v : ℕ) (o : Outcome (List ℕ)) → next (next o (λ bs r j. got (v ∷ bs) r j)) (λ xs q m. got (ws ++ xs) q m) ≡ next o (λ xs q m. got ((ws ++ v ∷ []) ++ xs) q m)
unfolding next
front-more ws v (got bs r j) = ap (λ ys. got ys r j) (sym (append_assoc ws (v ∷ []) bs))
front-more ws v (fault n q) = refl

front-none : (o : Outcome (List ℕ)) → next o (λ xs q m. got ([] ++ xs) q m) ≡ o
unfolding next
front-none (got bs r j) = refl
front-none (fault n q) = refl

bytes-snoc : (n : ℕ) (f : File) (p : ℕ) → bytes n (drop p f) ++ number f 8 (p + 8 * n) ∷ [] ≡ bytes (n + 1) (drop p f)
unfolding bytes number
bytes-snoc zero f p = ap (λ (q : ℕ). number f 8 q ∷ []) (add-zero p)
bytes-snoc (suc n) f p =
    let N : ℕ = strings.number (take 8 (drop p f)) in
    let i : p + 8 * suc n ≡ p + 8 + 8 * n = omega arith in
    let d : drop 8 (drop p f) ≡ drop (p + 8) f = drop-drop 8 p f in
    let k : suc (n + 1) ≡ suc n + 1 = omega arith in
    ap (λ z. N ∷ (bytes n z ++ number f 8 (p + 8 * suc n) ∷ [])) d
    ∙ ap (λ (q : ℕ). N ∷ (bytes n (drop (p + 8) f) ++ number f 8 q ∷ [])) i
    ∙ ap (λ z. N ∷ z) (bytes-snoc n f (p + 8))
    ∙ ap (λ z. N ∷ bytes (n + 1) z) (sym d)
    ∙ ap (λ (j : ℕ). bytes j (drop p f)) k

abbrev pub left : ℕ → File → ℕ → Outcome (List ℕ)
left k f p = (name_bytes k).reads f p p

pub name-begins : (n : ℕ) (f : File) (p : ℕ) → before (bytes 0 (drop p f)) (left n f p) ≡ left n f p
unfolding before bytes
name-begins n f p = front-none (left n f p)

module _ (n i : ℕ) (f : File) (p l v q m : ℕ) (o : Outcome (List ℕ)) (ws : List ℕ) (k : ℕ) where
  pub name-goes-on : i < n → k ≡ n - i → got v q m ≡ (field 8 any 0).reads f p l → (v ≡ 0 → ⊥) → before ws (left k f p) ≡ o → before (ws ++ v ∷ []) (left (n - (i + 1)) f q) ≡ o
  unfolding before
  name-goes-on h j e z d =
      let s : k ≡ suc (n - (i + 1)) = omega arith in
      let w = name-letter f p l (n - (i + 1)) e z ∙ name-last (suc (n - (i + 1))) f p p l in
      ap (λ x. next x (λ xs q m. got ((ws ++ v ∷ []) ++ xs) q m)) (name-last (n - (i + 1)) f q m q)
      ∙ sym (front-more ws v ((name_bytes (n - (i + 1))).reads f q m))
      ∙ ap (λ x. next x (λ xs q m. got (ws ++ xs) q m)) w
      ∙ ap (λ (x : ℕ). next (left x f p) (λ xs q m. got (ws ++ xs) q m)) (sym s)
      ∙ d

  pub name-stops : got v q m ≡ (field 8 any 0).reads f p l → v ≡ 0 → before ws (left k f p) ≡ o → got ws q m ≡ o
  unfolding before
  name-stops e z d =
      ap (λ x. got x q m) (sym (append-nil ws)) ∙ next-on (left k f p) (λ xs q m. got (ws ++ xs) q m) [] q m (name-zero f p l k e z ∙ name-last k f p p l) ∙ d

  pub name-long : k ≡ 0 → got v q m ≡ (field 8 any 0).reads f p l → (v ≡ 0 → ⊥) → before ws (left k f p) ≡ o → fault 4 p ≡ o
  unfolding before
  name-long s e z d =
      next-not (left k f p) (λ xs q m. got (ws ++ xs) q m) 4 p (name-over f p l e z ∙ name-last 0 f p p l ∙ ap (λ (x : ℕ). left x f p) (sym s)) ∙ d

pub name_faults : (f : File) (p l x y k : ℕ) (o : Outcome (List ℕ)) (ws : List ℕ) → fault x y ≡ (field 8 any 0).reads f p l → before ws (left k f p) ≡ o → fault x y ≡ o
unfolding before
name_faults f p l x y k o ws e d = next-not (left k f p) (λ xs q m. got (ws ++ xs) q m) x y (name-none f p l k x y e ∙ name-last k f p p l) ∙ d

-- ## The loop over a name's bytes, from the place p on; i of them were taken, up to the place b

module _ (file : List ℕ) (p i b l v q m : ℕ) (e : got v q m ≡ (field 8 any 0).reads (bits_of file) b l) (at : b ≡ p + 8 * i)
    (so_far : before (bytes i (drop p (bits_of file))) (left (255 - i) (bits_of file) b) ≡ left 255 (bits_of file) p) where
  -- one more
  pub name-next : i < 255 → (v ≡ 0 → ⊥) → (q ≡ p + 8 * (i + 1)) × (before (bytes (i + 1) (drop p (bits_of file))) (left (255 - (i + 1)) (bits_of file) q) ≡ left 255 (bits_of file) p)
  name-next h z =
      let f : File = bits_of file in
      let (_, is, to, _) = field-got 8 f b l v q m e in
      let more : bytes i (drop p f) ++ v ∷ [] ≡ bytes (i + 1) (drop p f) =
      ap (λ (x : ℕ). bytes i (drop p f) ++ x ∷ []) (is ∙ ap (number f 8) at) ∙ bytes-snoc i f p in (
        omega arith,
        ap (λ ws. before ws (left (255 - (i + 1)) f q)) (sym more) ∙ name-goes-on 255 i f b l v q m (left 255 f p) (bytes i (drop p f)) (255 - i) h refl e z so_far,
      )

  -- the zero byte
  pub name_done : (n a l' : ℕ) → n ≡ i → Bytes file → p % 8 ≡ 0 → a ≡ p / 8 → v ≡ 0 →
      (got (take n (drop a file)) q m ≡ (name_bytes 255).reads (bits_of file) p l') × ((a ≡ p / 8) × (p / 8 + n ≤ length file)) × (q ≡ p + 8 * (n + 1))
  name_done n a l' count bs h at_byte z =
      let f : File = bits_of file in
      let (inside, _, to, _) = field-got 8 f b l v q m e in
      let fits : p + 8 * i ≤ size f = omega arith in
      let same : take n (drop a file) ≡ bytes i (drop p f) = ap (λ (x : ℕ). take x (drop a file)) count ∙ ap (λ (x : ℕ). take i (drop x file)) at_byte ∙ sym (part-is file p i bs h fits) in (
        ap (λ ws. got ws q m) same ∙ name-stops 255 i f b l v q m (left 255 f p) (bytes i (drop p f)) (255 - i) e z so_far ∙ name-last 255 f p l' p,
        (at_byte, omega (arith, part-inside file p i fits)),
        omega arith,
      )

-- ## Extra bytes

module _ (f : File) (p l : ℕ) where
  pub no-extra-count : {x y : ℕ} → fault x y ≡ (field 16 any 0).reads f p l → fault x y ≡ extra_bytes.reads f p l
  unfolding extra_bytes
  no-extra-count e = then-not _ _ e

  pub empty-extra : {v q m : ℕ} → got v q m ≡ (field 16 any 0).reads f p l → v ≡ 0 → got [] q m ≡ extra_bytes.reads f p l
  unfolding extra_bytes
  empty-extra {v} e z = then-on _ _ e (choose-on _ _ _ (eq-eqb v 0 z) (whole-on _ _ _ _))

  pub some-extra : {v q m : ℕ} {o : Outcome (List ℕ)} → got v q m ≡ (field 16 any 0).reads f p l → (v ≡ 0 → ⊥) → o ≡ (block v).reads f q m → o ≡ extra_bytes.reads f p l
  unfolding extra_bytes
  some-extra {v} e z d = then-on _ _ e (choose-off _ _ _ (ne_eqb v 0 z) d)

module _ (file : List ℕ) (p l v q m a : ℕ) (e : got v q m ≡ (field 16 any 0).reads (bits_of file) p l) (at_byte : a ≡ q / 8) where
  pub extra-none : v ≡ 0 → (got (take v (drop a file)) q m ≡ extra_bytes.reads (bits_of file) p l) × ((a ≡ p / 8 + 2) × (p / 8 + 2 + v ≤ length file))
  extra-none z =
      let (inside, _, to, _) = field-got 16 (bits_of file) p l v q m e in
      (ap (λ (n : ℕ). got (take n (drop a file)) q m) z ∙ empty-extra (bits_of file) p l e z, (omega arith, omega (arith, length-bits_of file)))

  pub extra-done : (xs : List ℕ) (q' m' : ℕ) → Bytes file → p % 8 ≡ 0 → (v ≡ 0 → ⊥) → got xs q' m' ≡ (block v).reads (bits_of file) q m →
      (got (take v (drop a file)) q' m' ≡ extra_bytes.reads (bits_of file) p l) × ((a ≡ p / 8 + 2) × (p / 8 + 2 + v ≤ length file))
  extra-done xs q' m' bs h z d =
      let f : File = bits_of file in
      let (_, _, to, _) = field-got 16 f p l v q m e in
      let (fits, is, _, _) = block-got v f q m xs q' m' (omega arith) d in
      let same : take v (drop a file) ≡ xs = ap (λ (x : ℕ). take v (drop x file)) at_byte ∙ sym (part-is file q v bs (omega arith) fits) ∙ sym is in
      (ap (λ ws. got ws q' m') same ∙ some-extra f p l e z d, (omega arith, omega (arith, part-inside file q v fits)))
