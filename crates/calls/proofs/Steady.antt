-- Parts whose layout is the same wherever they stand.
use Rattle.std.proofs.Common.{◌≡◌, ℕ, zero, suc, ◌+◌, Bool, true, false, List, [], ◌∷◌, ◌++◌, length, refl, ap, ◌∙◌}
use Rattle.format.specs.Format.{Format, Part, field, whole, choose, ◌>>=◌, judged, one, each, each_cells, times}
use Rattle.format.specs.Word.{word}
use Rattle.forms.specs.Code.{Code}
use Rattle.layout.specs.Slim as slim
use Rattle.layout.specs.Slim.{byte, block, name_bytes, extra_bytes, flagged, added, channel, leftover, closing, recorded}
use Rattle.calls.specs.Parts.{described}

abbrev pub Steady : {A : Type 0} → Format A → Type 0
Steady {A} F = (p q : ℕ) (a : A) → F.cells p a ≡ F.cells q a

steady-field : (n : ℕ) (ok : ℕ → Bool) (bad : ℕ) → Steady (field n ok bad)
unfolding field
steady-field n ok bad p q v = refl

steady-whole : {A : Type 0} (a : A) → Steady (whole a)
unfolding whole
steady-whole a p q v = refl

steady-choose : {A : Type 0} (t : Bool) (F G : Format A) → Steady F → Steady G → Steady (choose t F G)
unfolding choose
steady-choose true F G f g = f
steady-choose false F G f g = g

steady_then : {A B : Type 0} (P : Part B A) (g : A → Format B) → Steady P.form → ((a : A) → Steady (g a)) → Steady (P >>= g)
unfolding ◌>>=◌
steady_then P g h k p q b =
    ap (λ x. x ++ (g (P.of b)).cells (p + length (P.form.cells p (P.of b))) b) (h p q (P.of b))
    ∙ ap (λ x. P.form.cells q (P.of b) ++ x) (k (P.of b) (p + length (P.form.cells p (P.of b))) (q + length (P.form.cells q (P.of b))) b)

steady-judged : {A : Type 0} (F : Format A) (ok : A → ℕ → Bool) (bad : ℕ) → Steady F → Steady (judged F ok bad)
unfolding judged
steady-judged F ok bad h = h

steady-one : {A : Type 0} (F : Format A) → Steady F → Steady (one F)
unfolding one
steady-one F h = h

pub steady-each : {M A : Type 0} (F : M → Format A) (step : M → A → M) → ((m : M) → Steady (F m)) → (m : M) (p q : ℕ) (xs : List A) → each_cells F step m p xs ≡ each_cells F step m q xs
unfolding each_cells
steady-each F step h m p q [] = refl
steady-each F step h m p q (x ∷ xs) =
    ap (λ y. y ++ each_cells F step (step m x) (p + length ((F m).cells p x)) xs) (h m p q x)
    ∙ ap (λ y. (F m).cells q x ++ y) (steady-each F step h (step m x) (p + length ((F m).cells p x)) (q + length ((F m).cells q x)) xs)

pub steady-times : {A : Type 0} (n : ℕ) (F : Format A) → Steady F → Steady (times n F)
unfolding times each
steady-times n F h p q xs = steady-each (λ (u : Unit {0}). F) (λ u a. tt) (λ u. h) tt p q xs

pub steady-word : (t : Code) → Steady (word t)
unfolding word
steady-word t p q x = refl

steady-byte : Steady byte
unfolding byte
steady-byte = steady-field 8 _ 0

steady-block : (n : ℕ) → Steady (block n)
unfolding block
steady-block n = steady-one (times n byte) (steady-times n byte steady-byte)

steady-name : (k : ℕ) → Steady (name_bytes k)
unfolding name_bytes
steady-name zero = steady_then _ _ (steady-field 8 _ 4) (λ a. steady-whole [])
steady-name (suc k) = steady_then _ _ steady-byte (λ b. steady-choose _ _ _ (steady-whole []) (steady_then _ _ (steady-name k) (λ bs. steady-whole (b ∷ bs))))

steady-extra : Steady extra_bytes
unfolding extra_bytes
steady-extra = steady_then _ _ (steady-field 16 _ 0) (λ n. steady-choose _ _ _ (steady-whole []) (steady-block n))

steady-flagged : (b : Bool) (F : Format (List ℕ)) → Steady F → Steady (flagged b F)
unfolding flagged
steady-flagged true F h = steady_then _ _ h (λ bs. steady-whole _)
steady-flagged false F h = steady-whole _

pub steady-named : (b : Bool) (k : ℕ) → Steady (flagged b (name_bytes k))
steady-named b k = steady-flagged b (name_bytes k) (steady-name k)

pub steady-extended : (b : Bool) → Steady (flagged b extra_bytes)
steady-extended b = steady-flagged b extra_bytes steady-extra

steady-added : (n d b a t : ℕ) → Steady (added n d b a t)
unfolding added
steady-added n d b a t =
    steady-choose _ _ _ (steady_then _ _ (steady-field _ _ 0) (λ p. steady_then _ _ (steady-field 5 _ 0) (λ r. steady-whole _)))
    (steady-choose _ _ _ (steady_then _ _ (steady-field _ _ 0) (λ v. steady-whole _)) (steady-whole _))

pub steady-channel : (r : Bool) → Steady (channel r)
unfolding channel
steady-channel r =
    steady-judged _ _ 6
    (steady_then _ _ (steady-choose r _ _ (steady-field 24 _ 0) (steady-whole 1)) (λ n.
    steady_then _ _ (steady-field 1 _ 0) (λ d.
    steady_then _ _ (steady-field 5 _ 0) (λ b.
    steady_then _ _ (steady-field 4 _ 0) (λ a.
    steady_then _ _ (steady-field 4 _ 0) (λ t. steady-added n d b a t))))))

pub steady-described : (g : slim.Flags) → Steady (described g)
unfolding described
steady-described g =
    steady_then _ _ (steady-choose g.single _ _ (steady-whole 1) (steady-field 24 _ 5)) (λ c. steady-times c (channel (recorded g c)) (steady-channel (recorded g c)))

steady-leftover : Steady leftover
unfolding leftover
steady-leftover = steady_then _ _ (steady-field 3 _ 10) (λ n. steady_then _ _ (steady-block n) (λ ls. steady-whole _))

pub steady-closing : Steady closing
unfolding closing
steady-closing = steady_then _ _ (steady-field 4 _ 17) (λ t. steady-choose _ _ _ (steady-whole _) (steady-choose _ _ _ (steady-whole _) steady-leftover))
