-- The bits of names, extra bytes and leftovers.
use Rattle.std.proofs.Common.{◌≡◌, ℕ, zero, suc, ◌+◌, ◌-◌, ◌%◌, ◌≤◌, Bool, true, false, cond, not, eqb, leb, List, [], ◌∷◌, ◌++◌, length, replicate, Some, None, Option, sym, refl, ap, ◌∙◌, append_assoc, append-nil, arith, length-append}
use Rattle.std.proofs.lemmas.List.{length-replicate}
use Rattle.std.proofs.lemmas.Bool.{and_parts, ne_eqb, leb-true}
use Rattle.bits.specs.Bits.{bits, bits_of}
use Rattle.bits.proofs.Numbers.{length-bits}
use Rattle.bits.proofs.Files.{length-bits_of}
use Rattle.format.specs.Cells as cells
use Rattle.format.specs.Cells.{filled}
use Rattle.format.specs.Format.{field, whole, choose, ◌>>=◌, ◌∈◌, one, each, each_cells, times, gap}
use Rattle.format.proofs.Filling.{filled-append, filled-bits}
use Rattle.layout.specs.Slim.{most_name, byte, block, name_bytes, extra_bytes, flagged, Closing, another, ended, closing, leftover, tail_of}
use Rattle.calls.specs.Parts.{Marks, name_bits, extra_bits, written, closing_bits}
use Rattle.calls.specs.Calls.{zero_free, name_fits}
use Rattle.calls.proofs.Chains.{head_length}

-- bytes as one field
block-cells : (p : ℕ) (bs : List ℕ) → filled (each_cells (λ (u : Unit {0}). byte) (λ u a. tt) tt p bs) ≡ bits_of bs
unfolding each_cells byte field bits_of filled
block-cells p [] = refl
block-cells p (b ∷ bs) =
    filled-append (cells.bits 8 b) (each_cells (λ (u : Unit {0}). byte) (λ u a. tt) tt (p + length (cells.bits 8 b)) bs)
    ∙ ap (λ y. y ++ filled (each_cells (λ (u : Unit {0}). byte) (λ u a. tt) tt (p + length (cells.bits 8 b)) bs)) (filled-bits 8 b)
    ∙ ap (λ y. bits 8 b ++ y) (block-cells (p + length (cells.bits 8 b)) bs)

pub block-bits : (n p : ℕ) (bs : List ℕ) → filled ((block n).cells p bs) ≡ bits_of bs
unfolding block one times each
block-bits n p bs = block-cells p bs

-- ## Names

not_true : (t : Bool) → not t ≡ true → t ≡ false
not_true true e = sym e
not_true false e = refl

-- a name's bytes and a zero behind them
name-cells : (k p : ℕ) (bs : List ℕ) → length bs ≤ k → zero_free bs ≡ true → filled ((name_bytes k).cells p bs) ≡ bits_of bs ++ bits 8 0
unfolding name_bytes byte field choose whole ◌>>=◌ bits_of zero_free
name-cells zero p [] l z = ap filled (append-nil (cells.bits 8 0)) ∙ filled-bits 8 0
name-cells zero p (b ∷ bs) l z = absurd (omega arith)
name-cells (suc k) p [] l z = ap filled (append-nil (cells.bits 8 0)) ∙ filled-bits 8 0
name-cells (suc k) p (b ∷ bs) l z =
    let (t, r) = and_parts (not (eqb b 0)) (zero_free bs) z in
    let q = p + length (cells.bits 8 b) in
    ap (λ t. filled (cells.bits 8 b ++ (choose t (whole []) ((tail_of ∈ name_bytes k) >>= (λ bs. whole (b ∷ bs)))).cells q (b ∷ bs))) (not_true (eqb b 0) t)
    ∙ filled-append (cells.bits 8 b) ((name_bytes k).cells q bs ++ [])
    ∙ ap (λ y. y ++ filled ((name_bytes k).cells q bs ++ [])) (filled-bits 8 b)
    ∙ ap (λ y. bits 8 b ++ filled y) (append-nil ((name_bytes k).cells q bs))
    ∙ ap (λ y. bits 8 b ++ y) (name-cells k q bs (omega arith) r)
    ∙ sym (append_assoc (bits 8 b) (bits_of bs) (bits 8 0))

pub name-bits : (bs : List ℕ) → name_fits (Some bs) ≡ true → name_bits (Some bs) ≡ bits_of bs ++ bits 8 0
unfolding flagged whole ◌>>=◌
name-bits bs h =
    let (l, z) = and_parts (leb (length bs) most_name) (zero_free bs) h in
    ap filled (append-nil ((name_bytes most_name).cells 0 bs)) ∙ name-cells most_name 0 bs (leb-true (length bs) most_name l) z

pub no_name : name_bits None ≡ []
unfolding flagged whole filled
no_name = refl

-- ## Extra bytes

-- no field where there are none
some_bits : (bs : List ℕ) (q : ℕ) → filled ((choose (eqb (length bs) 0) (whole []) (block (length bs))).cells q bs) ≡ bits_of bs
unfolding choose whole filled bits_of
some_bits [] q = refl
some_bits (b ∷ bs) q =
    ap (λ t. filled ((choose t (whole []) (block (length (b ∷ bs)))).cells q (b ∷ bs))) (ne_eqb (length (b ∷ bs)) 0 (λ e. omega arith))
    ∙ block-bits (length (b ∷ bs)) q (b ∷ bs)

pub extra-bits : (bs : List ℕ) → extra_bits (Some bs) ≡ bits 16 (length bs) ++ bits_of bs
unfolding flagged extra_bytes field choose whole ◌>>=◌
extra-bits bs =
    let n = length bs in
    let q = 0 + length (cells.bits 16 n) in
    ap filled (append-nil (cells.bits 16 n ++ (choose (eqb n 0) (whole []) (block n)).cells q bs))
    ∙ filled-append (cells.bits 16 n) ((choose (eqb n 0) (whole []) (block n)).cells q bs)
    ∙ ap (λ y. y ++ filled ((choose (eqb n 0) (whole []) (block n)).cells q bs)) (filled-bits 16 n)
    ∙ ap (λ y. bits 16 n ++ y) (some_bits bs q)

pub no_extra : extra_bits None ≡ []
unfolding flagged whole filled
no_extra = refl

-- ## A head is of whole bytes

name-whole : (o : Option (List ℕ)) → name_fits o ≡ true → length (name_bits o) % 8 ≡ 0
name-whole None h = ap (λ y. length y % 8) no_name
name-whole (Some bs) h = omega (arith, ap length (name-bits bs h), length-append (bits_of bs) (bits 8 0), length-bits_of bs, length-bits 8 0)

extra-whole : (o : Option (List ℕ)) → length (extra_bits o) % 8 ≡ 0
extra-whole None = ap (λ y. length y % 8) no_extra
extra-whole (Some bs) = omega (arith, ap length (extra-bits bs), length-append (bits 16 (length bs)) (bits_of bs), length-bits_of bs, length-bits 16 (length bs))

pub head-whole : (m : Marks) (name extra : Option (List ℕ)) → name_fits name ≡ true → head_length m name extra % 8 ≡ 0
unfolding head_length
head-whole m name extra h = by_flag m.sized
  where
    by_flag : (t : Bool) → (56 + cond t 32 0 + length (name_bits name) + length (extra_bits extra)) % 8 ≡ 0
    by_flag true = omega (arith, name-whole name h, extra-whole extra)
    by_flag false = omega (arith, name-whole name h, extra-whole extra)

-- ## What closes a section

pub more-bits : (p : ℕ) → written closing p another ≡ bits 4 8
unfolding closing field choose whole ◌>>=◌
more-bits p = ap filled (append-nil (cells.bits 4 8)) ∙ filled-bits 4 8

pub end-bits : (p : ℕ) → written closing p (ended []) ≡ bits 4 15
unfolding closing field choose whole ◌>>=◌
end-bits p = ap filled (append-nil (cells.bits 4 15)) ∙ filled-bits 4 15

pub left-bits : (p b : ℕ) (bs : List ℕ) → written closing p (ended (b ∷ bs)) ≡ bits 4 14 ++ (bits 3 (length (b ∷ bs)) ++ bits_of (b ∷ bs))
unfolding closing leftover field choose whole ◌>>=◌
left-bits p b bs =
    let n = length (b ∷ bs) in
    let q = p + length (cells.bits 4 14) in
    let r = q + length (cells.bits 3 n) in
    filled-append (cells.bits 4 14) (cells.bits 3 n ++ ((block n).cells r (b ∷ bs) ++ []))
    ∙ ap (λ y. y ++ filled (cells.bits 3 n ++ ((block n).cells r (b ∷ bs) ++ []))) (filled-bits 4 14)
    ∙ ap (λ y. bits 4 14 ++ y) (
    filled-append (cells.bits 3 n) ((block n).cells r (b ∷ bs) ++ [])
    ∙ ap (λ y. y ++ filled ((block n).cells r (b ∷ bs) ++ [])) (filled-bits 3 n)
    ∙ ap (λ y. bits 3 n ++ filled y) (append-nil ((block n).cells r (b ∷ bs)))
    ∙ ap (λ y. bits 3 n ++ y) (block-bits n r (b ∷ bs)))

-- a closing ends at a whole byte
pub closing-whole : (p : ℕ) (e : Closing) → (p + length (closing_bits p e)) % 8 ≡ 0
unfolding closing_bits gap
closing-whole p e =
    let w = written closing p e in
    let k = (8 - (p + length w) % 8) % 8 in
    omega (arith, length-append w (replicate k false), length-replicate {A = Bool} k false)
