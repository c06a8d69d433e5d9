-- Reading the head of a file.
use Rattle.std.proofs.Common.{◌≡◌, ℕ, ◌<◌, ◌≤◌, Bool, true, false, eqb, ltb, List, Some, None, Option, sym, ap, ◌∙◌, arith}
use Rattle.std.proofs.lemmas.Bool.{lt-ltb, le-ltb, eq-eqb, ne_eqb}
use Rattle.format.specs.Cells.{File}
use Rattle.format.specs.Format.{Outcome, got, fault, Format, field}
use Rattle.layout.specs.Slim.{any, flag, flagged, name_bytes, extra_bytes}
use Rattle.reading.specs.declared.part.Part.{Part}
use Rattle.reading.specs.Heads.{size_field, head, PartAt}
use Rattle.reading.proofs.Names.{field-got}
use Rattle.reading.proofs.Steps.{then-on, then-not, whole-on, field-on, field_off, field-not}

-- ## What is flagged

module _ (t : Bool) (F : Format (List ℕ)) (f : File) (p l : ℕ) where
  pub flagged-off : t ≡ false → got None p l ≡ (flagged t F).reads f p l
  unfolding flagged
  flagged-off e = rw e (whole-on None f p l)

  pub flagged-on : {bs : List ℕ} {q m : ℕ} → t ≡ true → got bs q m ≡ F.reads f p l → got (Some bs) q m ≡ (flagged t F).reads f p l
  unfolding flagged
  flagged-on e d = rw e (then-on _ _ d (whole-on _ _ _ _))

  pub flagged-not : {x y : ℕ} → t ≡ true → fault x y ≡ F.reads f p l → fault x y ≡ (flagged t F).reads f p l
  unfolding flagged
  flagged-not e d = rw e (then-not _ _ d)

module _ (t : Bool) (f : File) (p l : ℕ) where
  pub size-off : t ≡ false → got None p l ≡ (size_field t).reads f p l
  unfolding size_field
  size-off e = rw e (whole-on None f p l)

  pub size-on : {v q m : ℕ} → t ≡ true → got v q m ≡ (field 32 any 0).reads f p l → got (Some v) q m ≡ (size_field t).reads f p l
  unfolding size_field
  size-on e d = rw e (then-on _ _ d (whole-on _ _ _ _))

  pub size-not : {x y : ℕ} → t ≡ true → fault x y ≡ (field 32 any 0).reads f p l → fault x y ≡ (size_field t).reads f p l
  unfolding size_field
  size-not e d = rw e (then-not _ _ d)

-- ## The head, field by field

-- the first place
pub at-start : (f : File) (s : ℕ) (o : Outcome ℕ) → s ≡ 0 → o ≡ (field 16 any 0).reads f s 0 → o ≡ (field 16 any 0).reads f 0 0
at-start f s o e h = h ∙ ap (λ (p : ℕ). (field 16 any 0).reads f p 0) e

-- the byte behind the flags
pub behind-flags : (f : File) (v q₁ m₁ s q₂ m₂ g q₃ m₃ : ℕ) → got v q₁ m₁ ≡ (field 16 any 0).reads f 0 0 → got s q₂ m₂ ≡ (field 32 any 0).reads f q₁ m₁ → got g q₃ m₃ ≡ (field 8 any 0).reads f q₂ m₂ → q₃ ≡ 56
behind-flags f v q₁ m₁ s q₂ m₂ g q₃ m₃ e₁ e₂ e₃ =
    let (_, _, a, _) = field-got 16 f 0 0 v q₁ m₁ e₁ in
    let (_, _, b, _) = field-got 32 f q₁ m₁ s q₂ m₂ e₂ in
    let (_, _, c, _) = field-got 8 f q₂ m₂ g q₃ m₃ e₃ in
    omega (arith, a, b, c)

pub part_moved : (file : List ℕ) (a b : ℕ) (o : Option Part) → a ≡ b → PartAt file a o → PartAt file b o
part_moved file a b o e h = rw (← e) h

magic_is : (f : File) {v q m : ℕ} → got v q m ≡ (field 16 any 0).reads f 0 0 → v ≡ 0x4c53 → got v q m ≡ (field 16 (eqb 0x4c53) 12).reads f 0 0
magic_is f {v} e i = field-on 16 (eqb 0x4c53) 12 f 0 0 e (eq-eqb 0x4c53 v (sym i))

flags-are : (f : File) (p l : ℕ) {v q m : ℕ} → got v q m ≡ (field 8 any 0).reads f p l → v < 64 → got v q m ≡ (field 8 (λ g. ltb g 64) 3).reads f p l
flags-are f p l {v} e i = field-on 8 (λ g. ltb g 64) 3 f p l e (lt-ltb v 64 i)

module _ (f : File) where
  pub no_magic : {x y : ℕ} → fault x y ≡ (field 16 any 0).reads f 0 0 → fault x y ≡ head.reads f 0 0
  unfolding head
  no_magic e = then-not _ _ (field-not 16 (eqb 0x4c53) 12 f 0 0 e)

  pub wrong_magic : {v q m : ℕ} → got v q m ≡ (field 16 any 0).reads f 0 0 → (v ≡ 0x4c53 → ⊥) → fault 12 0 ≡ head.reads f 0 0
  unfolding head
  wrong_magic {v} e i = then-not _ _ (field_off 16 (eqb 0x4c53) 12 f 0 0 e (ne_eqb 0x4c53 v (λ h. i (sym h))))

  module _ {v q₁ m₁ : ℕ} (e₁ : got v q₁ m₁ ≡ (field 16 any 0).reads f 0 0) (i₁ : v ≡ 0x4c53) where
    pub no-stamp : {x y : ℕ} → fault x y ≡ (field 32 any 0).reads f q₁ m₁ → fault x y ≡ head.reads f 0 0
    unfolding head
    no-stamp e = then-on _ _ (magic_is f e₁ i₁) (then-not _ _ e)

    module _ {s q₂ m₂ : ℕ} (e₂ : got s q₂ m₂ ≡ (field 32 any 0).reads f q₁ m₁) where
      pub no-flags : {x y : ℕ} → fault x y ≡ (field 8 any 0).reads f q₂ m₂ → fault x y ≡ head.reads f 0 0
      unfolding head
      no-flags e = then-on _ _ (magic_is f e₁ i₁) (then-on _ _ e₂ (then-not _ _ (field-not 8 (λ g. ltb g 64) 3 f q₂ m₂ e)))

      pub bad-flags : {g q m : ℕ} → got g q m ≡ (field 8 any 0).reads f q₂ m₂ → 64 ≤ g → fault 3 q₂ ≡ head.reads f 0 0
      unfolding head
      bad-flags {g} e h = then-on _ _ (magic_is f e₁ i₁) (then-on _ _ e₂ (then-not _ _ (field_off 8 (λ g. ltb g 64) 3 f q₂ m₂ e (le-ltb g 64 h))))

      module _ {g q₃ m₃ : ℕ} (e₃ : got g q₃ m₃ ≡ (field 8 any 0).reads f q₂ m₂) (i₃ : g < 64) where
        pub no_size : {x y : ℕ} → fault x y ≡ (size_field (flag 0 g)).reads f q₃ m₃ → fault x y ≡ head.reads f 0 0
        unfolding head
        no_size e = then-on _ _ (magic_is f e₁ i₁) (then-on _ _ e₂ (then-on _ _ (flags-are f q₂ m₂ e₃ i₃) (then-not _ _ e)))

        module _ {z : Option ℕ} {q₄ m₄ : ℕ} (e₄ : got z q₄ m₄ ≡ (size_field (flag 0 g)).reads f q₃ m₃) where
          pub no_name : {x y : ℕ} → fault x y ≡ (flagged (flag 1 g) (name_bytes 255)).reads f q₄ m₄ → fault x y ≡ head.reads f 0 0
          unfolding head
          no_name e = then-on _ _ (magic_is f e₁ i₁) (then-on _ _ e₂ (then-on _ _ (flags-are f q₂ m₂ e₃ i₃) (then-on _ _ e₄ (then-not _ _ e))))

          module _ {n : Option (List ℕ)} {q₅ m₅ : ℕ} (e₅ : got n q₅ m₅ ≡ (flagged (flag 1 g) (name_bytes 255)).reads f q₄ m₄) where
            pub no_extra : {x y : ℕ} → fault x y ≡ (flagged (flag 2 g) extra_bytes).reads f q₅ m₅ → fault x y ≡ head.reads f 0 0
            unfolding head
            no_extra e = then-on _ _ (magic_is f e₁ i₁) (then-on _ _ e₂ (then-on _ _ (flags-are f q₂ m₂ e₃ i₃) (then-on _ _ e₄ (then-on _ _ e₅ (then-not _ _ e)))))

            pub whole-head : {x : Option (List ℕ)} {q m : ℕ} → got x q m ≡ (flagged (flag 2 g) extra_bytes).reads f q₅ m₅ →
                got (record { stamp = s; flags = g; size = z; name = n; extra = x }) q m ≡ head.reads f 0 0
            unfolding head
            whole-head e = then-on _ _ (magic_is f e₁ i₁) (then-on _ _ e₂ (then-on _ _ (flags-are f q₂ m₂ e₃ i₃) (then-on _ _ e₄ (then-on _ _ e₅ (then-on _ _ e (whole-on _ _ _ _))))))
