-- The two changes, from what the code within and the arithmetic answer; v is the width as the code has it.
use Rattle.std.proofs.Common.{◌≡◌, ℕ, ◌-◌, ◌%◌, ◌^◌, ◌<◌, ◌≤◌, Bool, true, false, ltb, List, None, Option, Err, Result, refl, sym, ap, ◌∙◌, mod-eq_of_lt, arith}
use Rattle.std.proofs.lemmas.Bool.{ltb-true, ltb-false}
use Rattle.forms.specs.Coding.{Coding, Sound, encoded, Decoding, word, decoded}
use Rattle.coder.specs.Told.{found}
use Rattle.coder.specs.declared.form.Unread.{Unread}
use Rattle.coder.specs.declared.form.Unread.TheVariants.{Dead, Partial}
use Rattle.coder.specs.declared.step.Taken.{Taken}
use Rattle.forms.specs.Coders.{minus, plus, rotr, turn, delta}
use Rattle.forms.proofs.Changes.{moved, back, encoded-over, decoded-below, delta-encoded, delta-decoded, turn-encoded, turn-decoded}
use Rattle.forms.proofs.Coders.{within}
use Rattle.forms.proofs.Modular.{rotr_mod}

-- a number too large for a word
pub over : {M : Type 0} {w : ℕ} (C : Coding M) → Sound w C → (m : M) (x v : ℕ) (r : Bool) → v ≡ w → r ≡ ltb x (2 ^ v) → r ≡ false → None ≡ encoded C m x
over C K m x v r e a b = sym (encoded-over C K m x (rw (← e) (ltb-false x (2 ^ v) (sym a ∙ b))))

-- what is not read within is not read
pub unread : {M N : Type 0} (f : ℕ → ℕ) (g : ℕ → M → N) (u : Unread) → found {M = N} (Err u) ≡ back f g (found {M = M} (Err u))
unread f g (Dead n) = refl
unread f g Partial = refl

module _ {M : Type 0} {w : ℕ} (C : Coding M) (sound : Sound w C) (v : ℕ) (e : v ≡ w) where
  a_word : (x : ℕ) (r : Bool) → r ≡ ltb x (2 ^ v) → r ≡ true → x < 2 ^ w
  a_word x r a b = rw (← e) (ltb-true x (2 ^ v) (sym a ∙ b))

  pub delta-writes : (m : ℕ × M) (x d : ℕ) (r : Bool) → r ≡ ltb x (2 ^ v) → r ≡ true → d ≡ minus v m.0 x → (o : Option (List Bool × M)) → o ≡ encoded C m.1 d →
      moved (λ k. (x, k)) o ≡ encoded (delta w C) m x
  delta-writes m x d r a b h o i =
      let f : d ≡ minus w m.0 x = h ∙ ap (λ z. minus z m.0 x) e in
      ap (moved (λ k. (x, k))) (i ∙ ap (encoded C m.1) f) ∙ sym (delta-encoded C sound m x (a_word x r a b))

  pub delta-reads : (m : ℕ × M) (bs : List Bool) (x n y : ℕ) (k : M) → word x n k ≡ decoded C m.1 bs → y ≡ plus v m.0 x → word y n (y, k) ≡ decoded (delta w C) m bs
  delta-reads m bs x n y k i h =
      let f : y ≡ plus w m.0 x = h ∙ ap (λ z. plus z m.0 x) e in
      ap (λ z. word z n (z, k)) f ∙ ap (back (plus w m.0) (λ z j. (z, j))) i ∙ sym (delta-decoded C sound m bs)

  module _ (some : 0 < w) (b : ℕ) where
    by : b % w ≤ w
    by = within b w some

    pub turn-writes : (m : M) (x d : ℕ) (r : Bool) → r ≡ ltb x (2 ^ v) → r ≡ true → d ≡ rotr v (b % v) (x % 2 ^ v) → (o : Option (List Bool × M)) → o ≡ encoded C m d →
        o ≡ encoded (turn w (b % w) C) m x
    turn-writes m x d r a t h o i =
        let l = a_word x r a t in
        let f : d ≡ rotr w (b % w) x = h ∙ ap (λ z. rotr z (b % z) (x % 2 ^ z)) e ∙ ap (rotr w (b % w)) (mod-eq_of_lt l) in
        i ∙ ap (encoded C m) f ∙ sym (turn-encoded C sound (b % w) by m x l)

    pub turn-reads : (m : M) (bs : List Bool) (x n y : ℕ) (k : M) → word x n k ≡ decoded C m bs → y ≡ rotr v ((v - b % v) % v) (x % 2 ^ v) → word y n k ≡ decoded (turn w (b % w) C) m bs
    turn-reads m bs x n y k i h =
        let l : x < 2 ^ w = decoded-below C sound m bs x n k i in
        let f : y ≡ rotr w (w - b % w) x =
        h ∙ ap (λ z. rotr z ((z - b % z) % z) (x % 2 ^ z)) e ∙ ap (rotr w ((w - b % w) % w)) (mod-eq_of_lt l) ∙ rotr_mod w (w - b % w) x some (omega (arith, by)) l in
        ap (λ z. word z n k) f ∙ ap (back (rotr w (w - b % w)) (λ z j. j)) i ∙ sym (turn-decoded C sound (b % w) by m bs)

    pub turn-unread : (m : M) (bs : List Bool) (u : Unread) (r : Result (Taken M) Unread) → found (Err u) ≡ decoded C m bs → r ≡ Err u → found r ≡ decoded (turn w (b % w) C) m bs
    turn-unread m bs u r i h = ap found h ∙ unread (rotr w (w - b % w)) (λ z j. j) u ∙ ap (back (rotr w (w - b % w)) (λ z j. j)) i ∙ sym (turn-decoded C sound (b % w) by m bs)

  pub delta-unread : (m : ℕ × M) (bs : List Bool) (u : Unread) (r : Result (Taken (ℕ × M)) Unread) → found (Err u) ≡ decoded C m.1 bs → r ≡ Err u → found r ≡ decoded (delta w C) m bs
  delta-unread m bs u r i h = ap found h ∙ unread (plus w m.0) (λ z j. (z, j)) u ∙ ap (back (plus w m.0) (λ z j. (z, j))) i ∙ sym (delta-decoded C sound m bs)
