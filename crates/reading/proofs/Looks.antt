-- Fields of any value, as they are taken.
use Rattle.std.proofs.Common.{◌≡◌, ℕ, ◌+◌, ◌-◌, ◌*◌, ◌^◌, ◌<◌, ◌≤◌, min, Bool, true, false, cond, ◌&&◌, leb, List, length, Some, None, Ok, Err, Option, sym, refl, ap, ◌∙◌, arith, le-leb, leb-true, leb-false}
use borrow.Author.Tests.{lt-leb}
use Rattle.std.specs.Option.{ok_or}
use Rattle.bits.specs.Bits.{bits_of, field_at}
use Rattle.bits.proofs.Files.{length-bits_of}
use Rattle.fields.specs.Fields.{is_field}
use Rattle.fields.specs.declared.place.BitPlace.{BitPlace}
use Rattle.faults.specs.Faults.{number_of}
use Rattle.faults.specs.declared.kind.Kind.{Kind}
use Rattle.faults.specs.declared.kind.Fault.{Fault}
use Rattle.format.specs.Cells.{File, size, number}
use Rattle.format.specs.Format.{Outcome, got, fault, field}
use Rattle.format.proofs.Laws.{cond-got, got-got}
use Rattle.format.proofs.Standing.{number-below}
use Rattle.layout.specs.Slim.{any}
use Rattle.reading.specs.Told.{taking}

-- what a fault of the code says
pub fault-is : {A : Type 0} {r : Fault} {k : Kind} {at : BitPlace} {o : Outcome A} → r ≡ record { kind = k; place = at } → fault (number_of k) at.bits ≡ o → fault (number_of r.kind) r.place.bits ≡ o
fault-is e h = ap (λ (z : Fault). fault (number_of z.kind) z.place.bits) e ∙ h

-- ## Looking

module _ (f : List ℕ) (p n : ℕ) where
  pub none_left : 8 * length f ≤ p → 0 < n → false ≡ leb (p + n) (size (bits_of f))
  none_left h k = sym (lt-leb (p + n) (size (bits_of f)) (omega (arith, length-bits_of f)))

  -- q is the place n bits further on, as far as places go
  pub few_or_enough : (q : ℕ) → q ≡ min (p + n) (2 ^ 64 - 1) → length f ≤ 16777216 → leb q (8 * length f) ≡ leb (p + n) (size (bits_of f))
  few_or_enough q e s = by-test (leb q (8 * length f)) refl
    where
      by-test : (t : Bool) → leb q (8 * length f) ≡ t → t ≡ leb (p + n) (size (bits_of f))
      by-test true h = let i = leb-true q (8 * length f) h in sym (le-leb (p + n) (size (bits_of f)) (omega (arith, i, length-bits_of f)))
      by-test false h = let i = leb-false q (8 * length f) h in sym (lt-leb (p + n) (size (bits_of f)) (omega (arith, i, length-bits_of f)))

-- ## Taking

taken_not : (n p l : ℕ) (f : File) (t : Bool) → t ≡ leb (p + n) (size f) → t ≡ false → fault 11 p ≡ (field n any 0).reads f p l
unfolding field
taken_not n p l f t e h = rw (← e, h) refl

by-test : {A : Type 0} (t : Bool) (x y : A) → x ≡ y → x ≡ cond t y x
by-test true x y e = e
by-test false x y e = refl

pub no_bits : (f : File) (p n l : ℕ) → n ≡ 0 → fault 11 p ≡ taking 64 n f p l
no_bits f p n l e = rw e refl

pub not_left : (f : File) (p n l : ℕ) (t : Bool) → t ≡ leb (p + n) (size f) → t ≡ false → fault 11 p ≡ taking 64 n f p l
not_left f p n l t e h = by-test (leb 1 n && leb n 64) (fault 11 p) ((field n any 0).reads f p l) (taken_not n p l f t e h)

gone : {A : Type 0} (t : Bool) (x : A) → None ≡ cond t (Some x) None → t ≡ false
gone true x e = let z : ◌≡◌ {A = Bool} true false = cc in z
gone false x e = refl

there : {A : Type 0} (t : Bool) (v x : A) → Some v ≡ cond t (Some x) None → (t ≡ true) × (v ≡ x)
there true v x e = (refl, cc)
there false v x e = let z : (◌≡◌ {A = Bool} false true) × (v ≡ x) = (cc, cc) in z

first-fails : (a b : Bool) → cond a b false ≡ false → b ≡ true → a ≡ false
first-fails true b e h = let z : ◌≡◌ {A = Bool} true false = sym h ∙ e in z
first-fails false b e h = refl

both_hold : (a b : Bool) → cond a b false ≡ true → a ≡ true
both_hold true b e = refl
both_hold false b e = e

within-is : (f : List ℕ) (p n : ℕ) → leb (p + n) (8 * length f) ≡ leb (p + n) (size (bits_of f))
within-is f p n = ap (leb (p + n)) (sym (length-bits_of f))

wide-fault : (f : File) (p n l : ℕ) (b : Bool) → leb n 64 ≡ false → fault 11 p ≡ cond (b && leb n 64) ((field n any 0).reads f p l) (fault 11 p)
wide-fault f p n l true h = rw h refl
wide-fault f p n l false h = refl

-- nothing was taken though enough is left: there are over 64 bits
pub too_wide : (f : List ℕ) (p n l : ℕ) → None ≡ cond (is_field p n (length f)) (Some (field_at f p n)) None → leb (p + n) (size (bits_of f)) ≡ true → fault 11 p ≡ taking 64 n (bits_of f) p l
too_wide f p n l e h =
    wide-fault (bits_of f) p n l (leb 1 n) (first-fails (leb n 64) (leb (p + n) (8 * length f)) (gone (is_field p n (length f)) (field_at f p n) e) (within-is f p n ∙ h))

value_read : (f : List ℕ) (p n l v : ℕ) → v ≡ field_at f p n → leb (p + n) (size (bits_of f)) ≡ true → got v (p + n) p ≡ (field n any 0).reads (bits_of f) p l
unfolding field number field_at
value_read f p n l v e h = rw (h, e) refl

-- a value that is there, or a fault in its place
pub nothing-there : {A E : Type 0} (o : Option A) (e x : E) → Err x ≡ ok_or o e → (o ≡ None) × (x ≡ e)
nothing-there {A} None e x h = (refl, cc)
nothing-there {A} (Some v) e x h = let z : (◌≡◌ {A = Option A} (Some v) None) × (x ≡ e) = (cc, cc) in z

pub value_there : {A E : Type 0} (o : Option A) (e : E) (v : A) → Ok v ≡ ok_or o e → o ≡ Some v
value_there None e v h = cc
value_there (Some w) e v h = cc

-- the fields of 1 to so many bits
pub taking-is : (most n : ℕ) (f : File) (p l : ℕ) → 0 < n → n ≤ most → taking most n f p l ≡ (field n any 0).reads f p l
taking-is most n f p l a b = rw (le-leb 1 n (omega arith), le-leb n most b) refl

-- a place within a file that is not too long
pub plus-is : (f : List ℕ) (p n q : ℕ) → length f ≤ 16777216 → leb (p + n) (size (bits_of f)) ≡ true → q ≡ min (p + n) (2 ^ 64 - 1) → q ≡ p + n
plus-is f p n q h t e = let i = leb-true (p + n) (size (bits_of f)) t in omega (arith, length-bits_of f, i)

pub took : (f : List ℕ) (p n l v : ℕ) → Some v ≡ cond (is_field p n (length f)) (Some (field_at f p n)) None → leb (p + n) (size (bits_of f)) ≡ true → 0 < n → got v (p + n) p ≡ taking 64 n (bits_of f) p l
took f p n l v e h k =
    let (t, i) = there (is_field p n (length f)) v (field_at f p n) e in
    let w = both_hold (leb n 64) (leb (p + n) (8 * length f)) t in
    value_read f p n l v i h ∙ sym (taking-is 64 n (bits_of f) p l k (leb-true n 64 w))

-- ## What was taken

taken-small : (b t : Bool) (n : ℕ) (f : File) (p v q m : ℕ) → got v q m ≡ cond b (cond t (got (number f n p) (p + n) p) (fault 11 p)) (fault 11 p) → v < 2 ^ n
taken-small b t n f p v q m e =
    let (_, d) = cond-got b (cond t (got (number f n p) (p + n) p) (fault 11 p)) 11 p v q m (sym e) in
    let (_, g) = cond-got t (got (number f n p) (p + n) p) 11 p v q m d in
    let (same, _, _) = got-got g in
    rw (← same) (number-below f n p)

-- what is taken is below 2^n
pub taking-small : (most n : ℕ) (f : File) (p l v q m : ℕ) → got v q m ≡ taking most n f p l → v < 2 ^ n
unfolding field
taking-small most n f p l v q m e = taken-small (leb 1 n && leb n most) (leb (p + n) (size f)) n f p v q m e
