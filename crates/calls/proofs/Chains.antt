-- The bits of sections one behind the other, and of the whole file.
use Rattle.std.proofs.Common.{◌≡◌, ℕ, zero, suc, ◌+◌, ◌<◌, Bool, true, false, cond, List, [], ◌∷◌, ◌++◌, length, Some, Option, sym, refl, ap, ◌∙◌, append_assoc, append-nil, arith, length-append}
use Rattle.bits.specs.Bits.{bits}
use Rattle.bits.proofs.Numbers.{length-bits}
use Rattle.format.specs.Cells as cells
use Rattle.format.specs.Cells.{filled}
use Rattle.format.specs.Format.{Format, field, whole, ◌>>=◌, choose, ahead}
use Rattle.format.proofs.Filling.{length-filled, filled-append, filled-bits}
use Rattle.layout.specs.Recording.{Section, Recording}
use Rattle.layout.specs.Turns.{first, count_words, raw_size}
use Rattle.layout.specs.Slim.{most_name, most_sections, Flags, another, ended, piece, positive, Body, closing_of, behind, chain, raw_total, flag, flag_byte, is_given, flagged, name_bytes, extra_bytes, after_flags, recording}
use Rattle.layout.specs.Claims.{layout}
use Rattle.layout.specs.Plain.{Every, flags_of}
use Rattle.layout.proofs.PlainSections.{body_of}
use Rattle.layout.proofs.Validity.{SameFlags, own-flags, same_flags}
use Rattle.calls.specs.Parts.{Marks, marks_byte, name_bits, extra_bits, head_bits}
use Rattle.calls.proofs.Steady.{steady-named, steady-extended}
use Rattle.calls.proofs.Pieces.{end_of, section_bits, section-length, piece-bits}

-- ## Sections

-- closed sections one behind the other, each followed by another
unfoldable pub closed_bits : Flags → ℕ → List Section → List Bool
closed_bits g p [] = []
closed_bits g p (s ∷ ss) = section_bits g p s another ++ closed_bits g (end_of g p s another) ss

-- where they end
unfoldable pub closed_end : Flags → ℕ → List Section → ℕ
closed_end g p [] = p
closed_end g p (s ∷ ss) = closed_end g (end_of g p s another) ss

pub closed-length : (g : Flags) (p : ℕ) (ss : List Section) → p + length (closed_bits g p ss) ≡ closed_end g p ss
unfolding closed_bits closed_end
closed-length g p [] = omega arith
closed-length g p (s ∷ ss) =
    omega (arith, length-append (section_bits g p s another) (closed_bits g (end_of g p s another) ss), section-length g p s another, closed-length g (end_of g p s another) ss)

pub end_more : (g : Flags) (p : ℕ) (ss : List Section) (s : Section) → closed_end g p (ss ++ s ∷ []) ≡ end_of g (closed_end g p ss) s another
unfolding closed_end
end_more g p [] s = refl
end_more g p (r ∷ ss) s = end_more g (end_of g p r another) ss s

pub closed-more : (g : Flags) (p : ℕ) (ss : List Section) (s : Section) → closed_bits g p (ss ++ s ∷ []) ≡ closed_bits g p ss ++ section_bits g (closed_end g p ss) s another
unfolding closed_bits closed_end
closed-more g p [] s = append-nil (section_bits g p s another)
closed-more g p (r ∷ ss) s =
    ap (λ y. section_bits g p r another ++ y) (closed-more g (end_of g p r another) ss s)
    ∙ sym (append_assoc (section_bits g p r another) (closed_bits g (end_of g p r another) ss) (section_bits g (closed_end g (end_of g p r another) ss) s another))

-- a section whose words are counted by its raw size
abbrev pub Counted : Section → Type 0
Counted s = (n : ℕ) × (count_words s.channels first (raw_size s) (raw_size s) ≡ Some n)

goes_on-is : (ss : List Section) (s : Section) (ls : List ℕ) → closing_of (ss ++ s ∷ []) ls ≡ another
goes_on-is [] s ls = refl
goes_on-is (r ∷ ss) s ls = refl

pub chain-bits : (g : Flags) (k total p : ℕ) (ss : List Section) (s : Section) (ls : List ℕ) → length ss < k → Every Counted ss → Counted s →
    filled ((chain g k total).cells p (body_of (ss ++ s ∷ []) ls)) ≡ closed_bits g p ss ++ section_bits g (closed_end g p ss) s (ended ls)
unfolding chain behind whole ◌>>=◌ closed_bits closed_end Every
chain-bits g zero total p ss s ls l h c = absurd (omega arith)
chain-bits g (suc k) total p [] s ls l h c =
    ap filled (append-nil ((piece g (positive k) total).cells p (record { section = s; closing = ended ls })))
    ∙ piece-bits g (positive k) total p c.0 (record { section = s; closing = ended ls }) c.1
chain-bits g (suc k) total p (r ∷ ss) s ls l h c =
    let B : Body = body_of (ss ++ s ∷ []) ls in
    let F : Format Body = chain g k (total + raw_size r) in
    let P = (piece g (positive k) total).cells p (record { section = r; closing = another }) in
    let b : filled P ≡ section_bits g p r another = piece-bits g (positive k) total p h.0.0 (record { section = r; closing = another }) h.0.1 in
    let q : p + length P ≡ end_of g p r another = ap (λ n. p + n) (sym (length-filled P) ∙ ap length b) ∙ section-length g p r another in
    ap (λ e. filled ((piece g (positive k) total).cells p (record { section = r; closing = e }) ++ (behind F r e).cells (p + length ((piece g (positive k) total).cells p (record { section = r; closing = e }))) (body_of (r ∷ (ss ++ s ∷ [])) ls))) (goes_on-is ss s ls)
    ∙ ap (λ y. filled (P ++ y)) (append-nil (F.cells (p + length P) B))
    ∙ filled-append P (F.cells (p + length P) B)
    ∙ ap (λ y. y ++ filled (F.cells (p + length P) B)) b
    ∙ ap (λ n. section_bits g p r another ++ filled (F.cells n B)) q
    ∙ ap (λ y. section_bits g p r another ++ y) (chain-bits g k (total + raw_size r) (end_of g p r another) ss s ls (omega arith) h.1 c)
    ∙ sym (append_assoc (section_bits g p r another) (closed_bits g (end_of g p r another) ss) (section_bits g (closed_end g (end_of g p r another) ss) s (ended ls)))

-- ## The file

abbrev pub marks_of : Recording → Marks
marks_of r = record { sized = r.sized; pointed = r.pointed; single = r.single; unrepeated = r.unrepeated }

abbrev pub head_of : Recording → ℕ → List Bool
head_of r size = head_bits r.stamp (marks_of r) r.name r.extra size

-- how long the head is, whatever the size
unfoldable pub head_length : Marks → Option (List ℕ) → Option (List ℕ) → ℕ
head_length m name extra = 56 + cond m.sized 32 0 + length (name_bits name) + length (extra_bits extra)

pub head-length : (stamp : ℕ) (m : Marks) (name extra : Option (List ℕ)) (size : ℕ) → length (head_bits stamp m name extra size) ≡ head_length m name extra
unfolding head_bits head_length
head-length stamp m name extra size =
    let N = name_bits name in
    let X = extra_bits extra in
    let S = cond m.sized (bits 32 size) [] in
    let f = marks_byte m (is_given name) (is_given extra) in
    omega (
      arith,
      length-append (bits 16 0x4c53) (bits 32 stamp ++ (bits 8 f ++ (S ++ (N ++ X)))),
      length-append (bits 32 stamp) (bits 8 f ++ (S ++ (N ++ X))),
      length-append (bits 8 f) (S ++ (N ++ X)),
      length-append S (N ++ X),
      length-append N X,
      length-bits 16 0x4c53,
      length-bits 32 stamp,
      length-bits 8 f,
      by_flag m.sized,
    )
  where
    by_flag : (t : Bool) → length (cond t (bits 32 size) []) ≡ cond t 32 0
    by_flag true = length-bits 32 size
    by_flag false = refl

-- behind the flags and the size: the name, the extra bytes and the sections
after-bits : (s g p : ℕ) (r : Recording) → SameFlags r g →
    filled ((after_flags s g).cells p r) ≡ name_bits r.name ++ (extra_bits r.extra ++ filled ((chain (flags_of r) most_sections 0).cells (p + length (name_bits r.name) + length (extra_bits r.extra)) (body_of r.sections r.leftovers)))
unfolding after_flags ◌>>=◌ whole
after-bits s g p r e =
    let b : Body = body_of r.sections r.leftovers in
    let h : Flags = record { pointed = flag 3 g; single = flag 4 g; unrepeated = flag 5 g } in
    let N = (flagged (flag 1 g) (name_bytes most_name)).cells p r.name in
    let X = (flagged (flag 2 g) extra_bytes).cells (p + length N) r.extra in
    let C = (chain h most_sections 0).cells (p + length N + length X) b in
    let n : filled N ≡ name_bits r.name = ap (λ t. filled ((flagged t (name_bytes most_name)).cells p r.name)) e.name ∙ ap filled (steady-named (is_given r.name) most_name p 0 r.name) in
    let x : filled X ≡ extra_bits r.extra = ap (λ t. filled ((flagged t extra_bytes).cells (p + length N) r.extra)) e.extra ∙ ap filled (steady-extended (is_given r.extra) (p + length N) 0 r.extra) in
    let q : p + length N + length X ≡ p + length (name_bits r.name) + length (extra_bits r.extra) = omega (arith, length-filled N, length-filled X, ap length n, ap length x) in
    filled-append N (X ++ (C ++ []))
    ∙ ap (λ y. y ++ filled (X ++ (C ++ []))) n
    ∙ ap (λ y. name_bits r.name ++ y) (
    filled-append X (C ++ [])
    ∙ ap (λ y. y ++ filled (C ++ [])) x
    ∙ ap (λ y. extra_bits r.extra ++ filled y) (append-nil C)
    ∙ ap (λ k. extra_bits r.extra ++ filled ((chain h most_sections 0).cells k b)) q
    ∙ ap (λ z. extra_bits r.extra ++ filled ((chain z most_sections 0).cells (p + length (name_bits r.name) + length (extra_bits r.extra)) b)) (sym (same_flags r g e)))

-- the size, if flagged, and what follows it
sized-bits : (t : Bool) (s g p : ℕ) (r : Recording) →
    filled ((choose t (ahead 32 (λ (r : Recording) (q : ℕ). raw_total r.sections) 14 (after_flags s g)) (after_flags s g)).cells p r) ≡
    cond t (bits 32 (raw_total r.sections)) [] ++ filled ((after_flags s g).cells (p + cond t 32 0) r)
unfolding choose ahead
sized-bits true s g p r =
    filled-append (cells.bits 32 (raw_total r.sections)) ((after_flags s g).cells (p + 32) r)
    ∙ ap (λ y. y ++ filled ((after_flags s g).cells (p + 32) r)) (filled-bits 32 (raw_total r.sections))
sized-bits false s g p r = let z : p ≡ p + 0 = omega arith in ap (λ k. filled ((after_flags s g).cells k r)) z

regrouped : (a b c d e f z : List Bool) → a ++ (b ++ (c ++ (d ++ (e ++ (f ++ z))))) ≡ (a ++ (b ++ (c ++ (d ++ (e ++ f))))) ++ z
regrouped a b c d e f z =
    sym (append_assoc a (b ++ (c ++ (d ++ (e ++ f)))) z
    ∙ ap (λ y. a ++ y) (append_assoc b (c ++ (d ++ (e ++ f))) z
    ∙ ap (λ y. b ++ y) (append_assoc c (d ++ (e ++ f)) z
    ∙ ap (λ y. c ++ y) (append_assoc d (e ++ f) z
    ∙ ap (λ y. d ++ y) (append_assoc e f z)))))

cells-length : (n v : ℕ) → length (cells.bits n v) ≡ n
cells-length n v = sym (length-filled (cells.bits n v)) ∙ ap length (filled-bits n v) ∙ length-bits n v

-- a file is its head and its sections
pub file-bits : (r : Recording) →
    filled (layout r) ≡ head_of r (raw_total r.sections) ++ filled ((chain (flags_of r) most_sections 0).cells (head_length (marks_of r) r.name r.extra) (body_of r.sections r.leftovers))
unfolding layout recording ◌>>=◌ field head_bits head_length
file-bits r =
    let e = own-flags r in
    let g = flag_byte r in
    let s = r.stamp in
    let M = cells.bits 16 0x4c53 in
    let S = cells.bits 32 s in
    let G = cells.bits 8 g in
    let A = after_flags s g in
    let Z = choose (flag 0 g) (ahead 32 (λ (r : Recording) (q : ℕ). raw_total r.sections) 14 A) A in
    let p = 0 + length M + length S + length G in
    let q : p ≡ 56 = omega (arith, cells-length 16 0x4c53, cells-length 32 s, cells-length 8 g) in
    let C : ℕ → List Bool = λ k. filled ((chain (flags_of r) most_sections 0).cells k (body_of r.sections r.leftovers)) in
    let w = length (name_bits r.name) in
    let v = length (extra_bits r.extra) in
    let T = cond r.sized (bits 32 (raw_total r.sections)) [] in
    filled-append M (S ++ (G ++ Z.cells p r))
    ∙ ap (λ y. y ++ filled (S ++ (G ++ Z.cells p r))) (filled-bits 16 0x4c53)
    ∙ ap (λ y. bits 16 0x4c53 ++ y) (
    filled-append S (G ++ Z.cells p r)
    ∙ ap (λ y. y ++ filled (G ++ Z.cells p r)) (filled-bits 32 s)
    ∙ ap (λ y. bits 32 s ++ y) (
    filled-append G (Z.cells p r)
    ∙ ap (λ y. y ++ filled (Z.cells p r)) (filled-bits 8 g)
    ∙ ap (λ y. bits 8 g ++ y) (
    ap (λ k. filled (Z.cells k r)) q
    ∙ ap (λ t. filled ((choose t (ahead 32 (λ (r : Recording) (q : ℕ). raw_total r.sections) 14 A) A).cells 56 r)) e.sized
    ∙ sized-bits r.sized s g 56 r
    ∙ ap (λ y. T ++ y) (after-bits s g (56 + cond r.sized 32 0) r e))))
    ∙ regrouped (bits 16 0x4c53) (bits 32 s) (bits 8 g) T (name_bits r.name) (extra_bits r.extra) (C (56 + cond r.sized 32 0 + w + v))
