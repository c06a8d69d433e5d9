-- The head that is read alone, and the recording that is read.
use Rattle.std.proofs.Common.{◌≡◌, ℕ, ◌+◌, ◌*◌, ◌<◌, Bool, true, false, cond, eqb, ltb, leb, List, length, Some, None, Option, sym, refl, ap, ◌∙◌, arith, ltb-true, eqb-true}
use Rattle.std.proofs.lemmas.Bool.Decides.{nat_tests}
use Rattle.bits.specs.Bits.{bits_of}
use Rattle.faults.specs.Faults.{gives}
use Rattle.faults.specs.Faults as faults
use Rattle.format.specs.Cells.{File, size, number}
use Rattle.format.specs.Format.{Outcome, got, fault, Format, Part, field, whole, ◌>>=◌, choose, ahead}
use Rattle.format.proofs.Laws.{faulted, got-got, cond-got, next-got}
use Rattle.layout.specs.Recording.{Recording}
use Rattle.layout.specs.Slim.{most_bytes, most_name, any, is_given, Body, flagged, name_bytes, extra_bytes, raw_total, flag, flag_byte, after_flags, recording, read}
use Rattle.layout.specs.Claims.{Gives}
use Rattle.reading.specs.Heads.{size_field, head}
use Rattle.reading.specs.Items.{items_of, headed, head_answer}
use Rattle.reading.specs.Agreement.{head_of, HeadAgrees}
use Rattle.reading.proofs.Steps.{then-on, whole-on}

-- a part came first
then-got : {A B : Type 0} (P : Part B A) (g : A → Format B) (f : File) (p l : ℕ) (b : B) (q m : ℕ) → (P >>= g).reads f p l ≡ got b q m →
    (a : A) × (q₁ : ℕ) × (m₁ : ℕ) × (P.form.reads f p l ≡ got a q₁ m₁) × ((g a).reads f q₁ m₁ ≡ got b q m)
unfolding ◌>>=◌
then-got P g f p l b q m e = next-got (P.form.reads f p l) (λ a q m. (g a).reads f q m) b q m e

whole-got : {A : Type 0} (a : A) (f : File) (p l : ℕ) (b : A) (q m : ℕ) → (whole a).reads f p l ≡ got b q m → a ≡ b
unfolding whole
whole-got a f p l b q m e = (got-got e).0

-- ## Behind the size

flagged-given : (t : Bool) (F : Format (List ℕ)) (f : File) (p l : ℕ) (o : Option (List ℕ)) (q m : ℕ) → (flagged t F).reads f p l ≡ got o q m → is_given o ≡ t
unfolding flagged
flagged-given true F f p l o q m e =
    let (bs, q₁, m₁, _, d) = then-got _ _ f p l o q m e in
    ap is_given (sym (whole-got (Some bs) f q₁ m₁ o q m d))
flagged-given false F f p l o q m e = ap is_given (sym (whole-got None f p l o q m e))

flags-are : (g : ℕ) → g < 64 →
    cond (flag 0 g) 1 0 + (cond (flag 1 g) 2 0 + (cond (flag 2 g) 4 0 + (cond (flag 3 g) 8 0 + (cond (flag 4 g) 16 0 + cond (flag 5 g) 32 0)))) ≡ g
flags-are g h = grind (arith, nat_tests)

-- what stands behind the size is the same, read alone or with the sections
record After (s g : ℕ) (f : File) (p l : ℕ) (r : Recording) : Type 0 where
  stamp : r.stamp ≡ s
  sized : r.sized ≡ flag 0 g
  flags : flag_byte r ≡ g
  q₁ : ℕ
  m₁ : ℕ
  name : got r.name q₁ m₁ ≡ (flagged (flag 1 g) (name_bytes most_name)).reads f p l
  q₂ : ℕ
  m₂ : ℕ
  extra : got r.extra q₂ m₂ ≡ (flagged (flag 2 g) extra_bytes).reads f q₁ m₁

after-made : (s g : ℕ) (f : File) (p l : ℕ) (n x : Option (List ℕ)) (b : Body) (q₁ m₁ q₂ m₂ : ℕ) (r : Recording) → g < 64 →
    r ≡ record { stamp = s; sized = flag 0 g; pointed = flag 3 g; single = flag 4 g; unrepeated = flag 5 g; name = n; extra = x; sections = b.sections; leftovers = b.leftovers } →
    (flagged (flag 1 g) (name_bytes most_name)).reads f p l ≡ got n q₁ m₁ → (flagged (flag 2 g) extra_bytes).reads f q₁ m₁ ≡ got x q₂ m₂ → After s g f p l r
after-made s g f p l n x b q₁ m₁ q₂ m₂ r h is e₁ e₂ =
    let named : r.name ≡ n = ap (λ r. r.name) is in
    let extras : r.extra ≡ x = ap (λ r. r.extra) is in
    record {
      stamp = ap (λ r. r.stamp) is;
      sized = ap (λ r. r.sized) is;
      flags = joined (ap (λ r. r.sized) is) (ap is_given named ∙ flagged-given _ _ f p l n q₁ m₁ e₁) (ap is_given extras ∙ flagged-given _ _ f q₁ m₁ x q₂ m₂ e₂)
          (ap (λ r. r.pointed) is) (ap (λ r. r.single) is) (ap (λ r. r.unrepeated) is) ∙ flags-are g h;
      q₁ = q₁;
      m₁ = m₁;
      name = ap (λ z. got z q₁ m₁) named ∙ sym e₁;
      q₂ = q₂;
      m₂ = m₂;
      extra = ap (λ z. got z q₂ m₂) extras ∙ sym e₂;
    }
  where
    joined : {a b c d e f : Bool} → r.sized ≡ a → is_given r.name ≡ b → is_given r.extra ≡ c → r.pointed ≡ d → r.single ≡ e → r.unrepeated ≡ f →
        flag_byte r ≡ cond a 1 0 + (cond b 2 0 + (cond c 4 0 + (cond d 8 0 + (cond e 16 0 + cond f 32 0))))
    joined a b c d e f = rw (a, b, c, d, e, f)

after : (s g : ℕ) (f : File) (p l : ℕ) (r : Recording) (q m : ℕ) → g < 64 → (after_flags s g).reads f p l ≡ got r q m → After s g f p l r
unfolding after_flags
after s g f p l r q m h e =
    let (n, q₁, m₁, e₁, d₁) = then-got _ _ f p l r q m e in
    let (x, q₂, m₂, e₂, d₂) = then-got _ _ f q₁ m₁ r q m d₁ in
    let (b, q₃, m₃, e₃, d₃) = then-got _ _ f q₂ m₂ r q m d₂ in
    after-made s g f p l n x b q₁ m₁ q₂ m₂ r h (sym (whole-got _ f q₃ m₃ r q m d₃)) e₁ e₂

-- ## The size

field-there : (n : ℕ) (f : File) (p l : ℕ) → leb (p + n) (size f) ≡ true → got (number f n p) (p + n) p ≡ (field n any 0).reads f p l
unfolding field
field-there n f p l t = rw t refl

size-there : (f : File) (p l : ℕ) → leb (p + 32) (size f) ≡ true → got (Some (number f 32 p)) (p + 32) p ≡ (size_field true).reads f p l
unfolding size_field
size-there f p l t = then-on _ _ (field-there 32 f p l t) (whole-on _ _ _ _)

size-not-there : (f : File) (p l : ℕ) → got None p l ≡ (size_field false).reads f p l
unfolding size_field
size-not-there f p l = whole-on None f p l

-- the size is in front of what it names
ahead-got : {A : Type 0} (n : ℕ) (names : A → ℕ → ℕ) (bad : ℕ) (F : Format A) (f : File) (p l : ℕ) (a : A) (q m : ℕ) → (ahead n names bad F).reads f p l ≡ got a q m →
    (leb (p + n) (size f) ≡ true) × (F.reads f (p + n) p ≡ got a q m) × (number f n p ≡ names a q)
unfolding ahead
ahead-got n names bad F f p l a q m e =
    let (t, d) = cond-got (leb (p + n) (size f)) _ 11 p a q m e in
    let (a', q', m', d₁, d₂) = next-got (F.reads f (p + n) p) (λ a q m. cond (eqb (number f n p) (names a q)) (got a q m) (fault bad m)) a q m d in
    let (u, d₃) = cond-got (eqb (number f n p) (names a' q')) (got a' q' m') bad m' a q m d₂ in
    let (same, to, _) = got-got d₃ in
    (t, d₁ ∙ d₃, eqb-true (number f n p) (names a' q') u ∙ ap (λ z. names z q') same ∙ ap (λ (z : ℕ). names a z) to)

-- ## The head

finish : (f : File) (v q₁ m₁ s q₂ m₂ g q₃ m₃ : ℕ) (r : Recording) (z : Option ℕ) (q₄ m₄ : ℕ) →
    (field 16 (eqb 0x4c53) 12).reads f 0 0 ≡ got v q₁ m₁ → (field 32 any 0).reads f q₁ m₁ ≡ got s q₂ m₂ → (field 8 (λ g. ltb g 64) 3).reads f q₂ m₂ ≡ got g q₃ m₃ →
    got z q₄ m₄ ≡ (size_field (flag 0 g)).reads f q₃ m₃ → After s g f q₄ m₄ r → z ≡ cond r.sized (Some (raw_total r.sections)) None →
    (p : ℕ) × (l : ℕ) × (head.reads f 0 0 ≡ got (head_of r) p l)
unfolding head
finish f v q₁ m₁ s q₂ m₂ g q₃ m₃ r z q₄ m₄ e₁ e₂ e₃ e₄ A sized =
    let read : got (record { stamp = s; flags = g; size = z; name = r.name; extra = r.extra }) A.q₂ A.m₂ ≡ head.reads f 0 0 =
    then-on _ _ (sym e₁) (then-on _ _ (sym e₂) (then-on _ _ (sym e₃) (then-on _ _ e₄ (then-on _ _ A.name (then-on _ _ A.extra (whole-on _ _ _ _)))))) in
    (A.q₂, A.m₂, sym read ∙ same A.q₂ A.m₂ A.stamp A.flags sized)
  where
    same : (p l : ℕ) → r.stamp ≡ s → flag_byte r ≡ g → z ≡ cond r.sized (Some (raw_total r.sections)) None →
        got (record { stamp = s; flags = g; size = z; name = r.name; extra = r.extra }) p l ≡ got (head_of r) p l
    same p l a b c =
        ap (λ (x : ℕ). got (record { stamp = x; flags = g; size = z; name = r.name; extra = r.extra }) p l) (sym a)
        ∙ ap (λ (x : ℕ). got (record { stamp = r.stamp; flags = x; size = z; name = r.name; extra = r.extra }) p l) (sym b)
        ∙ ap (λ (x : Option ℕ). got (record { stamp = r.stamp; flags = flag_byte r; size = x; name = r.name; extra = r.extra }) p l) c

-- behind the flags, by whether the size is flagged
by_size : (f : File) (v q₁ m₁ s q₂ m₂ g q₃ m₃ : ℕ) (r : Recording) (q m : ℕ) → g < 64 →
    (field 16 (eqb 0x4c53) 12).reads f 0 0 ≡ got v q₁ m₁ → (field 32 any 0).reads f q₁ m₁ ≡ got s q₂ m₂ → (field 8 (λ g. ltb g 64) 3).reads f q₂ m₂ ≡ got g q₃ m₃ →
    (choose (flag 0 g) (ahead 32 (λ r q. raw_total r.sections) 14 (after_flags s g)) (after_flags s g)).reads f q₃ m₃ ≡ got r q m →
    (p : ℕ) × (l : ℕ) × (head.reads f 0 0 ≡ got (head_of r) p l)
unfolding choose
by_size f v q₁ m₁ s q₂ m₂ g q₃ m₃ r q m h e₁ e₂ e₃ e = by-test (flag 0 g) refl e
  where
    by-test : (t : Bool) → flag 0 g ≡ t → (choose t (ahead 32 (λ r q. raw_total r.sections) 14 (after_flags s g)) (after_flags s g)).reads f q₃ m₃ ≡ got r q m →
        (p : ℕ) × (l : ℕ) × (head.reads f 0 0 ≡ got (head_of r) p l)
    by-test true t e =
        let (there, d, names) = ahead-got 32 _ 14 (after_flags s g) f q₃ m₃ r q m e in
        let A = after s g f (q₃ + 32) q₃ r q m h d in
        finish f v q₁ m₁ s q₂ m₂ g q₃ m₃ r (Some (number f 32 q₃)) (q₃ + 32) q₃ e₁ e₂ e₃ (size-there f q₃ m₃ there ∙ ap (λ b. (size_field b).reads f q₃ m₃) (sym t)) A
        (ap Some names ∙ ap (λ b. cond b (Some (raw_total r.sections)) None) (sym (A.sized ∙ t)))
    by-test false t e =
        let A = after s g f q₃ m₃ r q m h e in
        finish f v q₁ m₁ s q₂ m₂ g q₃ m₃ r None q₃ m₃ e₁ e₂ e₃ (size-not-there f q₃ m₃ ∙ ap (λ b. (size_field b).reads f q₃ m₃) (sym t)) A
        (ap (λ b. cond b (Some (raw_total r.sections)) None) (sym (A.sized ∙ t)))

field-passed : (n : ℕ) (ok : ℕ → Bool) (bad : ℕ) (f : File) (p l v q m : ℕ) → (field n ok bad).reads f p l ≡ got v q m → ok v ≡ true
unfolding field
field-passed n ok bad f p l v q m e =
    let (_, d) = cond-got (leb (p + n) (size f)) _ 11 p v q m e in
    let (u, d') = cond-got (ok (number f n p)) (got (number f n p) (p + n) p) bad p v q m d in
    ap ok (sym (got-got d').0) ∙ u

recording-head : (f : File) (r : Recording) (q m : ℕ) → recording.reads f 0 0 ≡ got r q m → (p : ℕ) × (l : ℕ) × (head.reads f 0 0 ≡ got (head_of r) p l)
unfolding recording
recording-head f r q m e =
    let (v, q₁, m₁, e₁, d₁) = then-got _ _ f 0 0 r q m e in
    let (s, q₂, m₂, e₂, d₂) = then-got _ _ f q₁ m₁ r q m d₁ in
    let (g, q₃, m₃, e₃, d₃) = then-got _ _ f q₂ m₂ r q m d₂ in
    by_size f v q₁ m₁ s q₂ m₂ g q₃ m₃ r q m (ltb-true g 64 (field-passed 8 (λ g. ltb g 64) 3 f q₂ m₂ g q₃ m₃ e₃)) e₁ e₂ e₃ d₃

cond-second : {A : Type 0} (t : Bool) (n x : ℕ) (o : Outcome A) (a : A) (q m : ℕ) → cond t (fault n x) o ≡ got a q m → o ≡ got a q m
cond-second true n x o a q m e = absurd (faulted e)
cond-second false n x o a q m e = e

pub head_agrees : (f : List ℕ) (r : Recording) → Gives f r → HeadAgrees f r
unfolding read
head_agrees f r (p, l, e) =
    let d = cond-second (ltb most_bytes (length f)) 1 0 _ r p l e in
    let (r', q, m, d₁, d₂) = next-got (recording.reads (bits_of f) 0 0) (λ r p l. cond (eqb p (8 * length f)) (got r p l) (fault 18 l)) r p l d in
    let (_, d₃) = cond-got (eqb q (8 * length f)) (got r' q m) 18 m r p l d₂ in
    recording-head (bits_of f) r p l (d₁ ∙ d₃)

-- ## The items of an accepted file

cond-first : {A : Type 0} (t : Bool) (n x : ℕ) (o : Outcome A) (a : A) (q m : ℕ) → cond t (fault n x) o ≡ got a q m → t ≡ false
cond-first true n x o a q m e = absurd (faulted e)
cond-first false n x o a q m e = refl

pub accepted-items : (f : List ℕ) (r : Recording) → Gives f r → head_answer f ≡ gives (items_of (head_of r))
unfolding read
accepted-items f r (p, l, e) =
    let t = cond-first (ltb most_bytes (length f)) 1 0 _ r p l e in
    let (q, m, d) = head_agrees f r (p, l, e) in
    ap (λ b. cond b (faults.fault 1 0) (headed (head.reads (bits_of f) 0 0))) t ∙ ap headed d
