-- The loops over a block's words, one step and all together.
use Rattle.std.proofs.Common.{◌≡◌, ℕ, suc, ◌+◌, ◌-◌, ◌*◌, ◌/◌, ◌%◌, ◌<◌, ◌≤◌, Bool, true, false, cond, leb, List, [], ◌∷◌, ◌++◌, length, drop, replicate, is_some, Some, None, Option, sym, refl, ap, ◌∙◌, subst, mul-le-mul_left, arith, length-append}
use Rattle.std.specs.Option.{option_map}
use Rattle.std.proofs.lemmas.Bool.Decides.{nat_tests}
use Rattle.fields.specs.Fields.{is_field}
use Rattle.std.proofs.lemmas.Bool.{le-leb}
use Rattle.blocks.specs.Blocks.{over}
use Rattle.bits.specs.Bits.{bits, bits_of, bytes_of, put_bits, overwritten, Bytes}
use Rattle.bits.proofs.Numbers.{length-bits}
use Rattle.bits.proofs.Files.{length-bits_of, bits_of-append, drop-bits_of, bits-zero, bits_of-bytes_of}
use Rattle.bits.proofs.Fields.{Bytes-append, Bytes-drop}
use Rattle.bits.proofs.Places.{put_whole}
use Rattle.bits.proofs.Laws.{Bytes-bytes_of, Bytes-put_bits, length-put_bits, put_bits-none, put_bits-twice}
use Rattle.forms.specs.Code.{form_of}
use Rattle.forms.specs.Blocks.{followed, block_bits}
use Rattle.forms.proofs.Codes.{some_same, none-some}
use Rattle.forms.specs.Coding.{Coding, Sound, behind, encoded, Decoding, word, dead, partial, decoded}
use Rattle.forms.proofs.Windows.{decoded-short}
use Rattle.faults.specs.Faults.{Answer, gives, fault}
use Rattle.coder.specs.Steps.{seen, take_answer}
use Rattle.blocks.specs.Loops.{form_part, next_part, measured, laid, is_taken, word_taken, len_taken, next_taken, prefixed, read_words, end_of, spread}

module _ {M : Type 0} (C : Coding M) (m : M) (x : ℕ) (xs ys : List ℕ) (is : ys ≡ x ∷ xs) where
  -- one word measured
  pub measured-more : (len n v : ℕ) (k : M) → Some (bits n v, k) ≡ encoded C m x → measured C m len ys ≡ measured C k (len + n) xs
  unfolding measured
  measured-more len n v k e =
      let F : Option (List Bool × M) → Option ℕ = λ o. cond (is_some o) (measured C (next_part m o) (len + length (form_part o)) xs) None in
      ap (measured C m len) is ∙ ap F (sym e) ∙ ap (λ z. measured C k (len + z) xs) (length-bits n v)

  -- a word without a form
  pub measured-none : (len : ℕ) → None ≡ encoded C m x → measured C m len ys ≡ None
  unfolding measured
  measured-none len e =
      let F : Option (List Bool × M) → Option ℕ = λ o. cond (is_some o) (measured C (next_part m o) (len + length (form_part o)) xs) None in
      ap (measured C m len) is ∙ ap F (sym e)

pub measured-all : {M : Type 0} (C : Coding M) (m : M) (ys : List ℕ) (len : ℕ) → ys ≡ [] → measured C m len ys ≡ Some len
unfolding measured
measured-all C m ys len h = ap (measured C m len) h

-- ## Raw words

-- the word at an index lies within the raw bytes
pub index-within : (k i n size l : ℕ) → size ≡ k → i < n → k * n ≤ l → size * (i + 1) ≤ l
index-within k i n size l e h b = rw e (omega (arith, mul-le-mul_left k (add-one-le-of h)))
  where
    add-one-le-of : i < n → i + 1 ≤ n
    add-one-le-of h = omega arith

-- ## Laying

module _ {M : Type 0} (C : Coding M) (m : M) (x : ℕ) (xs ys : List ℕ) (is : ys ≡ x ∷ xs) where
  -- one word laid
  pub laid_more : (b : List ℕ) (at n v : ℕ) (k : M) → Some (bits n v, k) ≡ encoded C m x → laid C m b at ys ≡ laid C k (put_bits b at (bits n v)) (at + n) xs
  unfolding laid
  laid_more b at n v k e =
      let F : Option (List Bool × M) → List ℕ = λ o. laid C (next_part m o) (put_bits b at (form_part o)) (at + length (form_part o)) xs in
      ap (laid C m b at) is ∙ ap F (sym e) ∙ ap (λ z. laid C k (put_bits b at (bits n v)) (at + z) xs) (length-bits n v)

pub laid-all : {M : Type 0} (C : Coding M) (m : M) (ys : List ℕ) (b : List ℕ) (at : ℕ) → ys ≡ [] → laid C m b at ys ≡ b
unfolding laid
laid-all C m ys b at h = ap (laid C m b at) h

module _ {M : Type 0} (C : Coding M) where
  -- a measure is that of the block
  pub measured-block : (m : M) (n : ℕ) (xs : List ℕ) → measured C m n xs ≡ option_map (λ bs. n + length bs) (block_bits C m xs)
  unfolding measured block_bits encoded
  measured-block m n [] = ap Some (omega arith)
  measured-block m n (x ∷ xs) = go (form_of (C.code m) x) refl (block_bits C (C.after m x) xs) (λ j. measured-block (C.after m x) j xs)
    where
      go : (o : Option (List Bool)) → form_of (C.code m) x ≡ o → (q : Option (List Bool)) → ((j : ℕ) → measured C (C.after m x) j xs ≡ option_map (λ bs. j + length bs) q) →
          cond (is_some (encoded C m x)) (measured C (next_part m (encoded C m x)) (n + length (form_part (encoded C m x))) xs) None ≡ option_map (λ bs. n + length bs) (followed o q)
      go None e q r = ap (λ z. cond (is_some (behind z (C.after m x))) (measured C (next_part m (behind z (C.after m x))) (n + length (form_part (behind z (C.after m x)))) xs) None) e
      go (Some s) e None r = ap (λ z. cond (is_some (behind z (C.after m x))) (measured C (next_part m (behind z (C.after m x))) (n + length (form_part (behind z (C.after m x)))) xs) None) e ∙ r (n + length s)
      go (Some s) e (Some t) r =
          ap (λ z. cond (is_some (behind z (C.after m x))) (measured C (next_part m (behind z (C.after m x))) (n + length (form_part (behind z (C.after m x)))) xs) None) e ∙ r (n + length s)
          ∙ ap Some (omega (arith, length-append s t))

  -- what is laid is the block
  pub laid-block : (m : M) (b : List ℕ) (at : ℕ) (xs : List ℕ) (bs : List Bool) → Bytes b → block_bits C m xs ≡ Some bs → at + length bs ≤ 8 * length b → laid C m b at xs ≡ put_bits b at bs
  unfolding laid block_bits encoded
  laid-block m b at [] bs B e h = sym (put_bits-none b at B) ∙ ap (put_bits b at) (some_same e)
  laid-block m b at (x ∷ xs) bs B e h = go (form_of (C.code m) x) refl (block_bits C (C.after m x) xs) (λ d j t. laid-block (C.after m x) d j xs t) e
    where
      go : (o : Option (List Bool)) → form_of (C.code m) x ≡ o → (q : Option (List Bool)) →
          ((d : List ℕ) (j : ℕ) (t : List Bool) → Bytes d → q ≡ Some t → j + length t ≤ 8 * length d → laid C (C.after m x) d j xs ≡ put_bits d j t) → followed o q ≡ Some bs →
          laid C (next_part m (encoded C m x)) (put_bits b at (form_part (encoded C m x))) (at + length (form_part (encoded C m x))) xs ≡ put_bits b at bs
      go None a q r e = absurd (none-some e)
      go (Some s) a None r e = absurd (none-some e)
      go (Some s) a (Some t) r e =
          let i : s ++ t ≡ bs = some_same e in
          let l : length bs ≡ length s + length t = ap length (sym i) ∙ length-append s t in
          let n : length (put_bits b at s) ≡ length b = length-put_bits b at s (omega arith) in
          ap (λ z. laid C (next_part m (behind z (C.after m x))) (put_bits b at (form_part (behind z (C.after m x)))) (at + length (form_part (behind z (C.after m x)))) xs) a
          ∙ r (put_bits b at s) (at + length s) t (Bytes-put_bits b at s) refl (omega arith)
          ∙ put_bits-twice b at s t (omega arith) ∙ ap (put_bits b at) i

pub measured-le : {M : Type 0} (C : Coding M) (m : M) (n : ℕ) (xs : List ℕ) (t : ℕ) → measured C m n xs ≡ Some t → n ≤ t
measured-le C m n xs t e = go (block_bits C m xs) (sym (measured-block C m n xs) ∙ e)
  where
    go : (o : Option (List Bool)) → option_map (λ bs. n + length bs) o ≡ Some t → n ≤ t
    go None d = absurd (none-some d)
    go (Some bs) d = let i : n + length bs ≡ t = some_same d in omega arith

-- new bits in front of old ones
front : (old new : List Bool) (n : ℕ) (x y r : List Bool) → length new ≡ n → drop n old ≡ y → new ≡ x → r ≡ x ++ y → r ≡ overwritten old 0 new
unfolding overwritten
front old new n x y r l d a q = let j : 0 + length new ≡ n = omega arith in cc

-- a block's bits and zeros up to a whole byte, at the front
pub over-put : (out : List ℕ) (bs : List Bool) (gap : ℕ) → Bytes out → gap ≡ (8 - length bs % 8) % 8 → (length bs + 7) / 8 ≤ length out →
    put_bits (put_bits out 0 bs) (length bs) (bits gap 0) ≡ bytes_of bs ++ drop ((length bs + 7) / 8) out
over-put out bs gap B e h =
    let n : ℕ = (length bs + 7) / 8 in
    let lg = length-bits gap 0 in
    let lf = length-bits_of out in
    let i : length bs + gap ≡ 8 * n = omega arith in
    let k : n * 8 - length bs ≡ gap = omega arith in
    let t : put_bits (put_bits out 0 bs) (0 + length bs) (bits gap 0) ≡ put_bits out 0 (bs ++ bits gap 0) = put_bits-twice out 0 bs (bits gap 0) (omega arith) in
    let z : 0 + length bs ≡ length bs = omega arith in
    let a : bs ++ bits gap 0 ≡ bits_of (bytes_of bs) = ap (λ y. bs ++ y) (bits-zero gap) ∙ ap (λ y. bs ++ replicate y false) (sym k) ∙ sym (bits_of-bytes_of bs) in
    let la : length (bs ++ bits gap 0) ≡ 8 * n = length-append bs (bits gap 0) ∙ omega arith in
    let d : drop (8 * n) (bits_of out) ≡ bits_of (drop n out) = drop-bits_of n out h in
    let q : bits_of (bytes_of bs ++ drop n out) ≡ bits_of (bytes_of bs) ++ bits_of (drop n out) = bits_of-append (bytes_of bs) (drop n out) in
    let w : bits_of (bytes_of bs ++ drop n out) ≡ overwritten (bits_of out) 0 (bs ++ bits gap 0) = front (bits_of out) (bs ++ bits gap 0) (8 * n) (bits_of (bytes_of bs)) (bits_of (drop n out)) (bits_of (bytes_of bs ++ drop n out)) la d a q in
    let p : bytes_of bs ++ drop n out ≡ put_bits out 0 (bs ++ bits gap 0) = put_whole out (bytes_of bs ++ drop n out) 0 0 (bs ++ bits gap 0) (Bytes-append (bytes_of bs) (drop n out) (Bytes-bytes_of bs) (Bytes-drop n out B)) refl w in
    ap (λ y. put_bits (put_bits out 0 bs) y (bits gap 0)) (sym z) ∙ t ∙ sym p

-- ## Reading

module _ {M : Type 0} (C : Coding M) (m : M) (f : List ℕ) (at : ℕ) where
  -- one word read
  pub read_more : (n j x l : ℕ) (k : M) → suc j ≡ n → gives (x, l, k) ≡ take_answer C m f at → end_of (read_words C m f at n) ≡ end_of (read_words C k f (at + l) j)
  unfolding read_words
  read_more n j x l k e a =
      let F : Answer (ℕ × ℕ × M) → Answer ℕ = λ o. end_of (prefixed o (read_words C (next_taken m o) f (at + len_taken o) j)) in
      ap (λ z. end_of (read_words C m f at z)) (sym e) ∙ ap F (sym a) ∙ skip (read_words C k f (at + l) j)
    where
      skip : (r : Answer (List ℕ × ℕ)) → end_of (prefixed (gives (x, l, k)) r) ≡ end_of r
      skip (gives (xs, p)) = refl
      skip (fault i p) = refl

  -- a word that is not there
  pub read-not : (n j i p : ℕ) → suc j ≡ n → fault i p ≡ take_answer C m f at → end_of (read_words C m f at n) ≡ fault i p
  unfolding read_words
  read-not n j i p e a =
      let F : Answer (ℕ × ℕ × M) → Answer ℕ = λ o. end_of (prefixed o (read_words C (next_taken m o) f (at + len_taken o) j)) in
      ap (λ z. end_of (read_words C m f at z)) (sym e) ∙ ap F (sym a)

  pub read_none : (n : ℕ) → n ≡ 0 → read_words C m f at n ≡ gives ([], at)
  unfolding read_words
  read_none n e = ap (read_words C m f at) e

  -- one word spread
  pub spread-more : (s : ℕ) (out : List ℕ) (p n j x l : ℕ) (k : M) → suc j ≡ n → gives (x, l, k) ≡ take_answer C m f at →
      spread s C m f at out p n ≡ spread s C k f (at + l) (put_bits out (8 * p) (bits (8 * s) x)) (p + s) j
  unfolding spread
  spread-more s out p n j x l k e a =
      let F : Answer (ℕ × ℕ × M) → List ℕ = λ o. cond (is_taken o) (spread s C (next_taken m o) f (at + len_taken o) (put_bits out (8 * p) (bits (8 * s) (word_taken o))) (p + s) j) out in
      ap (spread s C m f at out p) (sym e) ∙ ap F (sym a)

  pub spread-not : (s : ℕ) (out : List ℕ) (p n j i q : ℕ) → suc j ≡ n → fault i q ≡ take_answer C m f at → spread s C m f at out p n ≡ out
  unfolding spread
  spread-not s out p n j i q e a =
      let F : Answer (ℕ × ℕ × M) → List ℕ = λ o. cond (is_taken o) (spread s C (next_taken m o) f (at + len_taken o) (put_bits out (8 * p) (bits (8 * s) (word_taken o))) (p + s) j) out in
      ap (spread s C m f at out p) (sym e) ∙ ap F (sym a)

  pub spread_none : (s : ℕ) (out : List ℕ) (p n : ℕ) → n ≡ 0 → spread s C m f at out p n ≡ out
  unfolding spread
  spread_none s out p n e = ap (spread s C m f at out p) e

-- a form that was taken is short
pub taken-short : {M : Type 0} {w : ℕ} (C : Coding M) → Sound w C → (m : M) (f : List ℕ) (at x l : ℕ) (k : M) → gives (x, l, k) ≡ take_answer C m f at → l ≤ 64
taken-short {M} C K m f at x l k e = go (decoded C m (drop at (bits_of f))) refl e
  where
    go : (o : Decoding M) → decoded C m (drop at (bits_of f)) ≡ o → gives (x, l, k) ≡ seen at o → l ≤ 64
    go (word y n j) a d = let i : n ≡ l = ap len_taken (sym d) in subst (λ (z : ℕ). z ≤ 64) i (decoded-short C K m (drop at (bits_of f)) y n j (sym a))
    go (dead n) a d = let z : ◌≡◌ {A = ℕ} 0 1 = cc in absurd (omega arith)
    go partial a d = let z : ◌≡◌ {A = ℕ} 0 1 = cc in absurd (omega arith)

-- a raw word put at its index
pub raw-put : (k i size x : ℕ) (out new : List ℕ) → size ≡ k → new ≡ put_bits out (8 * (size * i)) (bits (8 * size) x) → new ≡ put_bits out (8 * (k * i)) (bits (8 * k) x)
raw-put k i size x out new e w = w ∙ ap (λ z. put_bits out (8 * (z * i)) (bits (8 * z) x)) e

-- ## Laying, with the bits that wait

-- a field that is put lies within what was measured
room_for : (at n t size : ℕ) → n ≤ 64 → at + n ≤ t → (t + 7) / 8 ≤ size → is_field at n size ≡ true
room_for at n t size a b c = grind (arith, nat_tests)

field-there : (at n size : ℕ) → n ≤ 64 → at + n ≤ 8 * size → is_field at n size ≡ true
field-there at n size a b = grind (arith, nat_tests)

module _ {M : Type 0} (C : Coding M) (m : M) (x : ℕ) (xs ys : List ℕ) (is : ys ≡ x ∷ xs) where
  pub lay-more : (H L : List ℕ) (E t size n v : ℕ) (k : M) → laid C m H E ys ≡ L → measured C m E ys ≡ Some t → Some (bits n v, k) ≡ encoded C m x → n ≤ 64 → (t + 7) / 8 ≤ size →
      (r : Bool) (J : List ℕ) (F : ℕ) → r ≡ is_field E n size → J ≡ cond r (put_bits H E (bits n v)) H → F ≡ cond r (E + n) E →
      (laid C k J F xs ≡ L) × (measured C k F xs ≡ Some t)
  lay-more H L E t size n v k a b e s f r J F p q u =
      let b2 : measured C k (E + n) xs ≡ Some t = sym (measured-more C m x xs ys is E n v k e) ∙ b in
      let le : E + n ≤ t = measured-le C k (E + n) xs t b2 in
      let y : r ≡ true = p ∙ room_for E n t size s le f in
      let j : J ≡ put_bits H E (bits n v) = q ∙ ap (λ z. cond z (put_bits H E (bits n v)) H) y in
      let g : F ≡ E + n = u ∙ ap (λ z. cond z (E + n) E) y in (
        ap (λ z. laid C k z F xs) j ∙ ap (λ z. laid C k (put_bits H E (bits n v)) z xs) g ∙ sym (laid_more C m x xs ys is H E n v k e) ∙ a,
        ap (λ z. measured C k z xs) g ∙ b2,
      )

  -- no word of a block that was measured lacks a form
  pub lay-none : (E t : ℕ) → measured C m E ys ≡ Some t → None ≡ encoded C m x → ⊥
  lay-none E t b e = none-some (sym (measured-none C m x xs ys is E e) ∙ b)

pub lay-end : {M : Type 0} (C : Coding M) (m k : M) (xs ys : List ℕ) (out H : List ℕ) (E t gap : ℕ) → Bytes out → ys ≡ [] → laid C m H E ys ≡ laid C k out 0 xs →
    measured C m E ys ≡ Some t → measured C k 0 xs ≡ Some t → (t + 7) / 8 ≤ length out → gap ≡ (8 - t % 8) % 8 →
    (r : Bool) (J : List ℕ) (F : ℕ) → r ≡ is_field E gap (length out) → J ≡ cond r (put_bits H E (bits gap 0)) H → F ≡ cond r (E + gap) E →
    (new old : List ℕ) → new ≡ cond (leb F (8 * length out)) J old → new ≡ over out (block_bits C k xs)
lay-end C m k xs ys out H E t gap B l a b d f gp r J F p q u new old w = go (block_bits C k xs) refl
  where
    go : (o : Option (List Bool)) → block_bits C k xs ≡ o → new ≡ over out o
    go None e = absurd (none-some (sym (measured-block C k 0 xs ∙ ap (option_map (λ bs. 0 + length bs)) e) ∙ d))
    go (Some bs) e =
        let n : length bs ≡ t = let z : 0 + length bs ≡ t = some_same (sym (measured-block C k 0 xs ∙ ap (option_map (λ bs. 0 + length bs)) e) ∙ d) in omega arith in
        let he : E ≡ t = some_same (sym (measured-all C m ys E l) ∙ b) in
        let hb : H ≡ put_bits out 0 bs = sym (laid-all C m ys H E l) ∙ a ∙ laid-block C k out 0 xs bs B e (omega arith) in
        let y : r ≡ true = p ∙ field-there E gap (length out) (omega arith) (omega arith) in
        let j : J ≡ put_bits H E (bits gap 0) = q ∙ ap (λ z. cond z (put_bits H E (bits gap 0)) H) y in
        let g : F ≡ E + gap = u ∙ ap (λ z. cond z (E + gap) E) y in
        let v : leb F (8 * length out) ≡ true = le-leb F (8 * length out) (omega arith) in
        let c : J ≡ bytes_of bs ++ drop ((length bs + 7) / 8) out =
        j ∙ ap (λ z. put_bits z E (bits gap 0)) hb ∙ ap (λ z. put_bits (put_bits out 0 bs) z (bits gap 0)) (he ∙ sym n) ∙ over-put out bs gap B (gp ∙ ap (λ z. (8 - z % 8) % 8) (sym n)) (omega arith) in
        let s : leb ((length bs + 7) / 8) (length out) ≡ true = le-leb ((length bs + 7) / 8) (length out) (omega arith) in
        w ∙ ap (λ z. cond z J old) v ∙ c ∙ sym (ap (λ z. cond z (bytes_of bs ++ drop ((length bs + 7) / 8) out) out) s)
