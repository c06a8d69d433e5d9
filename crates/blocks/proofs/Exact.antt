-- Reading gives the words of a block exactly where the bits begin with it, and a packed block reads back.
use Rattle.std.proofs.Common.{◌≡◌, ℕ, zero, suc, ◌+◌, ◌-◌, ◌*◌, ◌/◌, ◌%◌, ◌≤◌, Bool, true, false, cond, eqb, leb, List, [], ◌∷◌, ◌++◌, length, take, drop, replicate, Some, None, Option, sym, refl, ap, ◌∙◌, subst, append_assoc, arith, length-append, length-take}
use Rattle.std.proofs.lemmas.List.{take-append-drop, take_at, drop_at, drop-drop}
use Rattle.bits.specs.Bits.{bits_of, bytes_of}
use Rattle.bits.proofs.Files.{bits_of-bytes_of, take-add}
use Rattle.bits.proofs.Laws.{length-bytes_of}
use Rattle.forms.specs.Code.{Means, Found, form, short, walk}
use Rattle.forms.specs.Coding.{Coding, Sound, told, decoded}
use Rattle.forms.specs.Blocks.{Block, block_bits}
use Rattle.forms.proofs.Blocks.{block_of}
use Rattle.forms.proofs.Codes.{walk-form, walk-means}
use Rattle.faults.specs.Faults.{Answer, gives, fault}
use Rattle.coder.specs.Steps.{seen, take_answer}
use Rattle.blocks.specs.Loops.{is_taken, word_taken, len_taken, next_taken, prefixed, read_words}
use Rattle.bits.specs.Raw.{words_in}
use Rattle.blocks.specs.Blocks.{room, over, pack_answer, pack_bytes, ReadsExactly}
use Rattle.blocks.proofs.Unpacking.{prefixed-gives}

module _ {M : Type 0} {w : ℕ} (C : Coding M) (sound : Sound w C) (f : List ℕ) where
  -- a word that was taken: its form stands at the place, and these are its parts
  pub taken-means : (m : M) (at : ℕ) → is_taken (take_answer C m f at) ≡ true →
      (len_taken (take_answer C m f at) ≤ length (drop at (bits_of f))) × Means (C.code m) (take (len_taken (take_answer C m f at)) (drop at (bits_of f))) (Some (word_taken (take_answer C m f at)))
      × (next_taken m (take_answer C m f at) ≡ C.after m (word_taken (take_answer C m f at)))
  unfolding decoded
  taken-means m at h = go (walk (C.code m) (drop at (bits_of f))) refl h
    where
      go : (o : Found) → walk (C.code m) (drop at (bits_of f)) ≡ o → is_taken (seen at (told (C.after m) o)) ≡ true →
          (len_taken (seen at (told (C.after m) o)) ≤ length (drop at (bits_of f))) × Means (C.code m) (take (len_taken (seen at (told (C.after m) o))) (drop at (bits_of f))) (Some (word_taken (seen at (told (C.after m) o))))
          × (next_taken m (seen at (told (C.after m) o)) ≡ C.after m (word_taken (seen at (told (C.after m) o))))
      go (form (Some x) n) e t = let (a, b) = walk-means (C.code m) (drop at (bits_of f)) (Some x) n e in (a, b, refl)
      go (form None n) e t = let z : ◌≡◌ {A = ℕ} 0 1 = cc in absurd (omega arith)
      go short e t = let z : ◌≡◌ {A = ℕ} 0 1 = cc in absurd (omega arith)

  -- a form at a place is taken
  pub means-taken : (m : M) (at : ℕ) (s r : List Bool) (x : ℕ) → Means (C.code m) s (Some x) → drop at (bits_of f) ≡ s ++ r → take_answer C m f at ≡ gives (x, length s, C.after m x)
  unfolding decoded
  means-taken m at s r x h e = ap (λ o. seen at (told (C.after m) o)) (ap (walk (C.code m)) e ∙ walk-form (C.code m) s r (Some x) h)

  only : (n : ℕ) (m : M) (at : ℕ) (xs : List ℕ) (e : ℕ) → read_words C m f at n ≡ gives (xs, e) →
      (length xs ≡ n) × ((bs : List Bool) × Block C m xs bs × (at + length bs ≡ e) × (take (length bs) (drop at (bits_of f)) ≡ bs))
  unfolding read_words
  only zero m at xs e h =
      let a : [] ≡ xs = ap words_of h in
      let b : at ≡ e = ap place_of h in
      (ap length (sym a), ([], subst (λ (z : List ℕ). Block C m z []) a refl, omega arith, refl))
    where
      place_of : Answer (List ℕ × ℕ) → ℕ
      place_of (gives (zs, p)) = p
      place_of (fault i p) = p

      words_of : Answer (List ℕ × ℕ) → List ℕ
      words_of (gives (zs, p)) = zs
      words_of (fault i p) = []
  only (suc n) m at xs e h =
      let a = take_answer C m f at in
      let (t, (ys, q, i)) = prefixed-gives (take_answer C m f at) (read_words C (next_taken m (take_answer C m f at)) f (at + len_taken (take_answer C m f at)) n) xs e h in
      let (l, ms, k) = taken-means m at t in
      let n1 : ℕ = len_taken (take_answer C m f at) in
      let x : ℕ = word_taken (take_answer C m f at) in
      let (ly, (bs, b, le, fr)) = only n (next_taken m (take_answer C m f at)) (at + len_taken (take_answer C m f at)) ys e q in
      let s : List Bool = take n1 (drop at (bits_of f)) in
      let ls : length (take (len_taken (take_answer C m f at)) (drop at (bits_of f))) ≡ n1 = simp length-take (omega arith) in
      let b2 : Block C (C.after m x) ys bs = subst (λ (z : M). Block C z ys bs) k b in
      let la : length (s ++ bs) ≡ n1 + length bs = length-append s bs ∙ ap (λ z. z + length bs) ls in
      let d : drop n1 (drop at (bits_of f)) ≡ drop (at + n1) (bits_of f) = drop-drop n1 at (bits_of f) in
      let ta : take (n1 + length bs) (drop at (bits_of f)) ≡ s ++ take (length bs) (drop n1 (drop at (bits_of f))) = take-add n1 (length bs) (drop at (bits_of f)) l in
      let fa : take (length (s ++ bs)) (drop at (bits_of f)) ≡ s ++ bs = ap (λ z. take z (drop at (bits_of f))) la ∙ ta ∙ ap (λ z. s ++ take (length bs) z) d ∙ ap (λ z. s ++ z) fr in (
        ap length i ∙ ap suc ly,
        (s ++ bs, subst (λ (z : List ℕ). Block C m z (s ++ bs)) (sym i) (s, bs, ms, refl, b2), omega (arith, la, le), fa),
      )

  every : (xs : List ℕ) (m : M) (at : ℕ) (bs : List Bool) → Block C m xs bs → take (length bs) (drop at (bits_of f)) ≡ bs → read_words C m f at (length xs) ≡ gives (xs, at + length bs)
  unfolding read_words
  every [] m at bs b e = ap (λ z. gives ([], z)) (omega (arith, ap length b))
  every (x ∷ xs) m at bs (s, r, h, d, b) e =
      let l : length bs ≡ length s + length r = ap length d ∙ length-append s r in
      let split : drop at (bits_of f) ≡ s ++ (r ++ drop (length bs) (drop at (bits_of f))) =
      sym (take-append-drop (length bs) (drop at (bits_of f))) ∙ ap (λ z. z ++ drop (length bs) (drop at (bits_of f))) (e ∙ d) ∙ append_assoc s r (drop (length bs) (drop at (bits_of f))) in
      let t : take_answer C m f at ≡ gives (x, length s, C.after m x) = means-taken m at s (r ++ drop (length bs) (drop at (bits_of f))) x h split in
      let rest : drop (at + length s) (bits_of f) ≡ r ++ drop (length bs) (drop at (bits_of f)) =
      sym (drop-drop (length s) at (bits_of f)) ∙ ap (drop (length s)) split ∙ drop_at s (r ++ drop (length bs) (drop at (bits_of f))) (length s) refl in
      let fr : take (length r) (drop (at + length s) (bits_of f)) ≡ r = ap (take (length r)) rest ∙ take_at r (drop (length bs) (drop at (bits_of f))) (length r) refl in
      let i = every xs (C.after m x) (at + length s) r b fr in
      let G : Answer (ℕ × ℕ × M) → Answer (List ℕ × ℕ) = λ o. prefixed o (read_words C (next_taken m o) f (at + len_taken o) (length xs)) in
      ap G t ∙ ap (prefixed (gives (x, length s, C.after m x))) i ∙ ap (λ z. gives (x ∷ xs, z)) (omega arith)

  pub reads-exactly : (m : M) (n : ℕ) → ReadsExactly C m f n
  reads-exactly m n = record {
    only = λ xs e h. let (l, (bs, b, a, t)) = only n m 0 xs e h in
        let i : length bs ≡ e = omega arith in
        (l, (bs, b, i, ap (λ z. take z (bits_of f)) (sym i) ∙ t));
    every = λ xs bs l b t. ap (read_words C m f 0) (sym l) ∙ every xs m 0 bs b t ∙ ap (λ z. gives (xs, z)) (omega arith);
  }

-- a block's bytes read back
pub reads-back : {M : Type 0} {w : ℕ} (C : Coding M) → Sound w C → (m : M) (xs : List ℕ) (bs : List Bool) (f : List ℕ) → Block C m xs bs → take (length bs) (bits_of f) ≡ bs → read_words C m f 0 (length xs) ≡ gives (xs, length bs)
reads-back C K m xs bs f b t = (reads-exactly C K f m (length xs)).every xs bs refl b t

-- an answered block is that of the words, and stands at the front
pub packed-back : {M : Type 0} {w : ℕ} (k : ℕ) (C : Coding M) → Sound w C → (raw out new : List ℕ) (n : ℕ) → gives n ≡ pack_answer k C raw (length out) → new ≡ pack_bytes k C raw out →
    read_words C C.start (take ((n + 7) / 8) new) 0 (length (words_in k raw)) ≡ gives (words_in k raw, n)
packed-back k C K raw out new n a b = outer (eqb (length raw % k) 0) refl (leb (length raw / k) 65536) refl (block_bits C C.start (words_in k raw)) refl
  where
    place_of : Answer ℕ → ℕ
    place_of (gives p) = p
    place_of (fault j p) = p

    inner : (bs : List Bool) (t : Bool) → block_bits C C.start (words_in k raw) ≡ Some bs → leb ((length bs + 7) / 8) (length out) ≡ t → gives n ≡ cond t (gives (length bs)) (fault 2 0) → new ≡ cond t (bytes_of bs ++ drop ((length bs + 7) / 8) out) out →
        read_words C C.start (take ((n + 7) / 8) new) 0 (length (words_in k raw)) ≡ gives (words_in k raw, n)
    inner bs false e t g v = let z : ◌≡◌ {A = ℕ} 0 1 = cc in absurd (omega arith)
    inner bs true e t g v =
        let i : n ≡ length bs = ap place_of g in
        let l : length (bytes_of bs) ≡ (length bs + 7) / 8 = length-bytes_of bs in
        let f : take ((n + 7) / 8) new ≡ bytes_of bs = ap (λ z. take ((z + 7) / 8) new) i ∙ ap (take ((length bs + 7) / 8)) v ∙ take_at (bytes_of bs) (drop ((length bs + 7) / 8) out) ((length bs + 7) / 8) l in
        let h : take (length bs) (bits_of (bytes_of bs)) ≡ bs = ap (take (length bs)) (bits_of-bytes_of bs) ∙ take_at bs (replicate ((length bs + 7) / 8 * 8 - length bs) false) (length bs) refl in
        ap (λ z. read_words C C.start z 0 (length (words_in k raw))) f ∙ reads-back C K C.start (words_in k raw) bs (bytes_of bs) (block_of C K C.start (words_in k raw) bs e) h ∙ ap (λ z. gives (words_in k raw, z)) (sym i)

    last : (o : Option (List Bool)) → block_bits C C.start (words_in k raw) ≡ o → gives n ≡ room (length out) o → new ≡ over out o →
        read_words C C.start (take ((n + 7) / 8) new) 0 (length (words_in k raw)) ≡ gives (words_in k raw, n)
    last None g x y = let q : ◌≡◌ {A = ℕ} 0 1 = cc in absurd (omega arith)
    last (Some bs) g x y = inner bs (leb ((length bs + 7) / 8) (length out)) g refl x y

    outer : (s : Bool) → eqb (length raw % k) 0 ≡ s → (t : Bool) → leb (length raw / k) 65536 ≡ t → (o : Option (List Bool)) → block_bits C C.start (words_in k raw) ≡ o →
        read_words C C.start (take ((n + 7) / 8) new) 0 (length (words_in k raw)) ≡ gives (words_in k raw, n)
    outer false d t e o g = let z : gives n ≡ fault 13 0 = a ∙ ap (λ z. cond z (cond (leb (length raw / k) 65536) (room (length out) (block_bits C C.start (words_in k raw))) (fault 9 0)) (fault 13 0)) d in let q : ◌≡◌ {A = ℕ} 0 1 = cc in absurd (omega arith)
    outer true d false e o g =
        let z : gives n ≡ fault 9 0 = a ∙ ap (λ z. cond z (cond (leb (length raw / k) 65536) (room (length out) (block_bits C C.start (words_in k raw))) (fault 9 0)) (fault 13 0)) d ∙ ap (λ z. cond z (room (length out) (block_bits C C.start (words_in k raw))) (fault 9 0)) e in
        let q : ◌≡◌ {A = ℕ} 0 1 = cc in absurd (omega arith)
    outer true d true e o g =
        let x : gives n ≡ room (length out) o = a ∙ ap (λ z. cond z (cond (leb (length raw / k) 65536) (room (length out) (block_bits C C.start (words_in k raw))) (fault 9 0)) (fault 13 0)) d ∙ ap (λ z. cond z (room (length out) (block_bits C C.start (words_in k raw))) (fault 9 0)) e ∙ ap (room (length out)) g in
        let y : new ≡ over out o = b ∙ ap (λ z. cond z (cond (leb (length raw / k) 65536) (over out (block_bits C C.start (words_in k raw))) out) out) d ∙ ap (λ z. cond z (over out (block_bits C C.start (words_in k raw))) out) e ∙ ap (over out) g in
        last o g x y
