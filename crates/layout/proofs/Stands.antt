-- What is claimed of slim files holds.
use Rattle.std.proofs.Common.{◌≡◌, ℕ, ◌*◌, ◌%◌, ◌≤◌, Bool, true, false, cond, eqb, ltb, List, [], ◌++◌, length, sym, refl, ap, ◌∙◌, zero-le, zero-add, arith, length-append, ltb-false, le-ltb, eq-eqb, eqb-true}
use Rattle.std.proofs.lemmas.List.{nil_from_length}
use Rattle.std.proofs.lemmas.Bool.{cond-true, cond-false}
use Rattle.bits.specs.Bits.{bits_of}
use Rattle.bits.proofs.Files.{length-bits_of}
use Rattle.format.specs.Cells.{Stands}
use Rattle.format.specs.Format.{got, fault, next}
use Rattle.layout.specs.Recording.{Recording}
use Rattle.layout.specs.Slim.{recording, read}
use Rattle.layout.specs.Claims.{layout, file, Valid, Gives, PadsApart, FormatStands}
use Rattle.format.proofs.Filling.{stand-same, same-stands, file-fits, file-length, stands-more}
use Rattle.format.proofs.Laws.{next-got, next-on, cond-got, got-got, faulted}
use Rattle.layout.proofs.Codes.{law_slim as law-recording}
use Rattle.layout.proofs.Ends.{ends-recording}

-- the file is read to its end
gives_all : (f : List ℕ) (r : Recording) → Gives f r → (m : ℕ) × (recording.reads (bits_of f) 0 0 ≡ got r (8 * length f) m) × (length f ≤ 16777216)
unfolding read
gives_all f r (p, l, e) = go (ltb 16777216 (length f)) refl e
  where
    moved : {a : Recording} {q m : ℕ} → a ≡ r → q ≡ 8 * length f → got a q m ≡ got r (8 * length f) m
    moved x y = cc

    go : (t : Bool) → ltb 16777216 (length f) ≡ t → cond t (fault 1 0) (next (recording.reads (bits_of f) 0 0) (λ r p l. cond (eqb p (8 * length f)) (got r p l) (fault 18 l))) ≡ got r p l →
        (m : ℕ) × (recording.reads (bits_of f) 0 0 ≡ got r (8 * length f) m) × (length f ≤ 16777216)
    go true h e = absurd (faulted e)
    go false h e =
        let (a, q, m, e₁, e₂) = next-got (recording.reads (bits_of f) 0 0) (λ r p l. cond (eqb p (8 * length f)) (got r p l) (fault 18 l)) r p l e in
        let (t, e₃) = cond-got (eqb q (8 * length f)) (got a q m) 18 m r p l e₂ in
        let (x, y, _) = got-got e₃ in
        (m, e₁ ∙ moved x (eqb-true q (8 * length f) t), ltb-false _ _ h)

gives-from : (f : List ℕ) (r : Recording) (m : ℕ) → length f ≤ 16777216 → recording.reads (bits_of f) 0 0 ≡ got r (8 * length f) m → Gives f r
unfolding read
gives-from f r m h e = (
  8 * length f,
  m,
  cond-false (ltb 16777216 (length f)) _ _ (le-ltb 16777216 (length f) h)
      ∙ next-on (recording.reads (bits_of f) 0 0) (λ r p l. cond (eqb p (8 * length f)) (got r p l) (fault 18 l)) r (8 * length f) m e
      ∙ cond-true (eqb (8 * length f) (8 * length f)) _ _ (eq-eqb (8 * length f) (8 * length f) refl),
)

-- a file is given back exactly where the layout stands in it and it ends with the layout
spelled : (f : List ℕ) (r : Recording) → Gives f r → Valid r × Stands (bits_of f) 0 (layout r) × (8 * length f ≡ length (layout r))
unfolding layout Valid
spelled f r h =
    let (m, e, k) = gives_all f r h in
    let (v, s, to) = law-recording.back (bits_of f) 0 0 r (8 * length f) m (zero-le) e in
    let z : 8 * length f ≡ length (recording.cells 0 r) = to ∙ zero-add _ in
    ((v, omega arith), s, z)

spelling : (f : List ℕ) (r : Recording) → Valid r → Stands (bits_of f) 0 (layout r) → 8 * length f ≡ length (layout r) → Gives f r
unfolding layout Valid
spelling f r (v, h) s e =
    let (m, d) = law-recording.forth (bits_of f) 0 0 r zero-le v s in
    gives-from f r m (omega arith) (d ∙ ap (λ n. got r n m) (zero-add _ ∙ sym e))

whole-bytes : (r : Recording) → Valid r → length (layout r) % 8 ≡ 0
unfolding layout Valid
whole-bytes r v = rw zero-add at (ends-recording 0 r v.0)

file-stands : (r : Recording) → Valid r → Stands (bits_of (file r)) 0 (layout r)
unfolding file
file-stands r v = file-fits (layout r) (whole-bytes r v)

file-size : (r : Recording) → Valid r → 8 * length (file r) ≡ length (layout r)
unfolding file
file-size r v = file-length (layout r) (whole-bytes r v)

only : (f : List ℕ) (r : Recording) → Gives f r → Valid r × PadsApart f r
only f r h =
    let (v, s, e) = spelled f r h in
    (v, (omega (arith, file-size r v), λ p l. stand-same (bits_of f) (bits_of (file r)) (layout r) s (file-stands r v) p (omega arith)))

every : (f : List ℕ) (r : Recording) → Valid r → PadsApart f r → Gives f r
every f r v (e, h) =
    let n = file-size r v in
    spelling f r v (same-stands (bits_of f) (bits_of (file r)) (layout r) (file-stands r v) (λ i l. (omega (arith, length-bits_of f), h i (omega arith)))) (omega arith)

again : (r : Recording) → Valid r → Gives (file r) r
again r v = spelling (file r) r v (file-stands r v) (file-size r v)

nothing_behind : (f g : List ℕ) (r s : Recording) → Gives f r → Gives (f ++ g) s → g ≡ []
unfolding layout Valid
nothing_behind f g r s h k =
    let (v, t, e) = spelled f r h in
    let (m, d) = law-recording.forth (bits_of (f ++ g)) 0 0 r zero-le v.0 (stands-more f g (layout r) t) in
    let (n, c, _) = gives_all (f ++ g) s k in
    let (_, same, _) = got-got (sym d ∙ c) in
    nil_from_length g (omega (arith, length-append f g))

apart : (r s : Recording) → Valid r → Valid s → file r ≡ file s → r ≡ s
apart r s v w e =
    let (m, d, _) = gives_all (file r) r (again r v) in
    let (n, c, _) = gives_all (file r) s (rw e (again s w)) in
    (got-got (sym d ∙ c)).0

pub format_stands : FormatStands
format_stands = record { only = only; every = every; again = again; nothing_behind = nothing_behind; apart = apart }
