-- Reading a block: the words that are written out are those that are read.
use Rattle.std.proofs.Common.{◌≡◌, ℕ, zero, suc, ◌+◌, ◌*◌, ◌/◌, ◌≤◌, true, cond, leb, List, [], ◌∷◌, ◌++◌, length, take, drop, sym, refl, ap, ◌∙◌, append_assoc, mul-zero, mul-suc, arith, length-append, length-take}
use Rattle.std.proofs.lemmas.List.{take-append-drop, take_at, drop-drop}
use Rattle.std.proofs.lemmas.Bool.{le-leb}
use Rattle.bits.specs.Bits.{bits, bytes, put_bits, stored, Bytes}
use Rattle.bits.specs.Raw.{raw_bytes}
use Rattle.bits.proofs.Files.{length-bytes, drop_past}
use Rattle.bits.proofs.Numbers.{length-bits}
use Rattle.bits.proofs.Laws.{Bytes-put_bits, length-put_bits, put-stored}
use Rattle.forms.specs.Coding.{Coding}
use Rattle.faults.specs.Faults.{Answer, gives, fault}
use Rattle.coder.specs.Steps.{take_answer}
use Rattle.blocks.specs.Loops.{is_taken, word_taken, len_taken, next_taken, prefixed, read_words, end_of, spread}
use Rattle.blocks.specs.Blocks.{whole, unpacked, read_answer, read_bytes}

-- one word more in front of the rest
step : (k p j x : ℕ) (out new rest r : List ℕ) → p + k ≤ length out → new ≡ stored out p k x → r ≡ take (p + k) new ++ (rest ++ drop (p + k + j) new) →
    r ≡ take p out ++ ((bytes k (bits (8 * k) x) ++ rest) ++ drop (p + (k + j)) out)
unfolding stored
step k p j x out new rest r h e d =
    let B : List ℕ = bytes k (bits (8 * k) x) in
    let lB : length B ≡ k = length-bytes k (bits (8 * k) x) in
    let lA : length (take p out ++ B) ≡ p + k = simp (length-append, length-take) (omega (arith, lB)) in
    let a : take p out ++ (B ++ drop (p + k) out) ≡ (take p out ++ B) ++ drop (p + k) out = sym (append_assoc (take p out) B (drop (p + k) out)) in
    let t : take (p + k) ((take p out ++ B) ++ drop (p + k) out) ≡ take p out ++ B = take_at (take p out ++ B) (drop (p + k) out) (p + k) lA in
    let q : drop (p + k + j) ((take p out ++ B) ++ drop (p + k) out) ≡ drop j (drop (p + k) out) = drop_past (take p out ++ B) (drop (p + k) out) (p + k) j lA in
    let u : drop j (drop (p + k) out) ≡ drop (p + k + j) out = drop-drop j (p + k) out in
    let i : p + k + j ≡ p + (k + j) = omega arith in
    let v = append_assoc (take p out) B (rest ++ drop (p + (k + j)) out) in
    let w = append_assoc B rest (drop (p + (k + j)) out) in
    cc

-- what reading n words from a place on says of the first
pub prefixed-gives : {M : Type 0} (a : Answer (ℕ × ℕ × M)) (r : Answer (List ℕ × ℕ)) (xs : List ℕ) (e : ℕ) → prefixed a r ≡ gives (xs, e) →
    (is_taken a ≡ true) × ((ys : List ℕ) × (r ≡ gives (ys, e)) × (xs ≡ word_taken a ∷ ys))
prefixed-gives (gives (x, n, k)) (gives (ys, d)) xs e h = (refl, (ys, ap (λ z. gives (ys, z)) (ap place_of h), sym (ap words_of h)))
  where
    place_of : Answer (List ℕ × ℕ) → ℕ
    place_of (gives (zs, p)) = p
    place_of (fault i p) = p

    words_of : Answer (List ℕ × ℕ) → List ℕ
    words_of (gives (zs, p)) = zs
    words_of (fault i p) = []
prefixed-gives (gives (x, n, k)) (fault i p) xs e h = let z : ◌≡◌ {A = ℕ} 0 1 = cc in absurd (omega arith)
prefixed-gives (fault i p) r xs e h = let z : ◌≡◌ {A = ℕ} 0 1 = cc in absurd (omega arith)

module _ {M : Type 0} (k : ℕ) (C : Coding M) (f : List ℕ) where
  pub spread-is : (n : ℕ) (m : M) (at : ℕ) (out : List ℕ) (p : ℕ) (xs : List ℕ) (e : ℕ) → Bytes out → p + k * n ≤ length out → read_words C m f at n ≡ gives (xs, e) →
      (spread k C m f at out p n ≡ take p out ++ (raw_bytes k xs ++ drop (p + k * length xs) out)) × (length xs ≡ n)
  unfolding read_words spread raw_bytes
  spread-is zero m at out p [] e B h r = (sym (ap (λ z. take p out ++ drop z out) (omega (arith, mul-zero k)) ∙ take-append-drop p out), refl)
  spread-is zero m at out p (x ∷ xs) e B h r = absurd (nothing r)
    where
      words_of : Answer (List ℕ × ℕ) → List ℕ
      words_of (gives (zs, q)) = zs
      words_of (fault i q) = []

      nothing : ◌≡◌ {A = Answer (List ℕ × ℕ)} (gives ([], at)) (gives (x ∷ xs, e)) → ⊥
      nothing d = let b : [] ≡ x ∷ xs = ap words_of d in let z : ◌≡◌ {A = ℕ} 0 1 = cc in omega arith
  spread-is (suc n) m at out p xs e B h r =
      let a = take_answer C m f at in
      let (t, (ys, q, i)) = prefixed-gives (take_answer C m f at) (read_words C (next_taken m (take_answer C m f at)) f (at + len_taken (take_answer C m f at)) n) xs e r in
      let x : ℕ = word_taken (take_answer C m f at) in
      let ms : k * suc n ≡ k * n + k = mul-suc k n in
      let new : List ℕ = put_bits out (8 * p) (bits (8 * k) (word_taken (take_answer C m f at))) in
      let ln : length (put_bits out (8 * p) (bits (8 * k) (word_taken (take_answer C m f at)))) ≡ length out = length-put_bits out (8 * p) (bits (8 * k) x) (omega (arith, length-bits (8 * k) x)) in
      let (s, l) = spread-is n (next_taken m (take_answer C m f at)) (at + len_taken (take_answer C m f at)) (put_bits out (8 * p) (bits (8 * k) (word_taken (take_answer C m f at)))) (p + k) ys e (Bytes-put_bits out (8 * p) (bits (8 * k) x)) (omega arith) q in
      let w : new ≡ stored out p k x = put-stored out p k x (omega arith) B in
      let b : spread k C (next_taken m (take_answer C m f at)) f (at + len_taken (take_answer C m f at)) new (p + k) n ≡ take p out ++ ((bytes k (bits (8 * k) x) ++ raw_bytes k ys) ++ drop (p + (k + k * length ys)) out) =
      step k p (k * length ys) x out new (raw_bytes k ys) _ (omega arith) w s in
      let lx : length xs ≡ suc (length ys) = ap length i in
      let mx : k + k * length ys ≡ k * length xs = omega (arith, mul-suc k (length ys), ap (λ z. k * z) lx) in (
        ap (λ z. cond z (spread k C (next_taken m (take_answer C m f at)) f (at + len_taken (take_answer C m f at)) new (p + k) n) out) t ∙ b
            ∙ ap (λ z. take p out ++ ((bytes k (bits (8 * k) x) ++ raw_bytes k ys) ++ drop (p + z) out)) mx ∙ ap (λ z. take p out ++ (raw_bytes k z ++ drop (p + k * length xs) out)) (sym i),
        lx ∙ ap suc l,
      )

  -- a block that is whole
  pub read_done : (size n : ℕ) (out new : List ℕ) (e : ℕ) → size ≡ k → n ≤ 65536 → size * n ≤ length out → Bytes out → gives e ≡ end_of (read_words C C.start f 0 n) → length f ≤ (e + 7) / 8 →
      new ≡ spread k C C.start f 0 out 0 n → (gives n ≡ read_answer k C f n (length out)) × (new ≡ read_bytes k C f n out)
  read_done size n out new e i a b B r l w = go (read_words C C.start f 0 n) refl r
    where
      place_of : Answer ℕ → ℕ
      place_of (gives p) = p
      place_of (fault j p) = p

      go : (o : Answer (List ℕ × ℕ)) → read_words C C.start f 0 n ≡ o → gives e ≡ end_of o → (gives n ≡ read_answer k C f n (length out)) × (new ≡ read_bytes k C f n out)
      go (fault j p) d q = let z : ◌≡◌ {A = ℕ} 0 1 = cc in absurd (omega arith)
      go (gives (xs, p)) d q =
          let pe : e ≡ p = ap place_of q in
          let kn : k * n ≤ length out = rw (← i) b in
          let (s, lx) = spread-is n C.start 0 out 0 xs p B (omega arith) d in
          let t1 : leb n 65536 ≡ true = le-leb n 65536 a in
          let t2 : leb (k * n) (length out) ≡ true = le-leb (k * n) (length out) kn in
          let t3 : leb (length f) ((p + 7) / 8) ≡ true = le-leb (length f) ((p + 7) / 8) (omega arith) in (
            sym (ap (λ z. cond z (cond (leb (k * n) (length out)) (whole f n (read_words C C.start f 0 n)) (fault 2 0)) (fault 9 0)) t1
                ∙ ap (λ z. cond z (whole f n (read_words C C.start f 0 n)) (fault 2 0)) t2 ∙ ap (whole f n) d ∙ ap (λ z. cond z (gives n) (fault 18 p)) t3),
            w ∙ s ∙ ap (λ z. raw_bytes k xs ++ drop z out) (omega arith)
                ∙ sym (ap (λ z. cond z (cond (leb (k * n) (length out)) (unpacked k f out (read_words C C.start f 0 n)) out) out) t1
                ∙ ap (λ z. cond z (unpacked k f out (read_words C C.start f 0 n)) out) t2 ∙ ap (unpacked k f out) d ∙ ap (λ z. cond z (raw_bytes k xs ++ drop (k * length xs) out) out) t3),
          )
