-- A number and zeros up to a whole byte, and closings made of them.
use Rattle.std.proofs.Common.{◌≡◌, ℕ, ◌+◌, ◌*◌, ◌/◌, ◌^◌, ◌<◌, ◌≤◌, Bool, true, false, cond, ◌&&◌, leb, List, [], ◌∷◌, ◌++◌, length, replicate, Some, None, Option, sym, refl, ap, ◌∙◌, append_assoc, arith, length-append}
use native.Mathlib.Nat.{div-eq_of_lt}
use Rattle.std.proofs.lemmas.List.{length-replicate, take_all}
use Rattle.std.proofs.lemmas.Bool.Decides.{nat_tests}
use Rattle.bits.specs.Bits.{bits, bits_of, put_bits, field_at}
use Rattle.bits.proofs.Numbers.{length-bits, bits-split}
use Rattle.bits.proofs.Files.{length-bits_of, bits-zero}
use Rattle.bits.proofs.Laws.{bits-field}
use Rattle.bits.proofs.Words.{joined-bits}
use Rattle.fields.specs.Fields.{is_field}
use Rattle.format.specs.Format.{gap}
use Rattle.layout.specs.Slim.{most_bytes, Closing, another, ended, leftovers_of, closing}
use Rattle.calls.specs.Parts.{written, closing_bits}
use Rattle.calls.proofs.Heads.{more-bits, end-bits, left-bits}
use Rattle.calls.proofs.Buffers.{put-put}
use Rattle.closings.specs.Closings.{padded_bits, closing_fits, closing_end, closing_bytes}

pub padded-length : (at v n : ℕ) → length (padded_bits at v n) ≡ n + gap (at + n)
padded-length at v n = length-append (bits n v) (replicate (gap (at + n)) false) ∙ ap (λ z. z + length (replicate (gap (at + n)) false)) (length-bits n v) ∙ ap (λ z. n + z) (length-replicate (gap (at + n)) false)

-- one field
pub padded-bits : (at v n : ℕ) → v < 2 ^ n → bits (n + gap (at + n)) v ≡ padded_bits at v n
padded-bits at v n h =
    bits-split n (gap (at + n)) v ∙ ap (λ z. bits n v ++ bits (gap (at + n)) z) (div-eq_of_lt h) ∙ ap (λ z. bits n v ++ z) (bits-zero (gap (at + n)))

-- what putting it leaves and says
pub padded-fits : (at v n w : ℕ) (len : ℕ) → w ≡ n + gap (at + n) → w ≤ 64 → is_field at w len ≡ leb (at + length (padded_bits at v n)) (8 * len)
padded-fits at v n w len e h =
    let t : leb w 64 ≡ true = grind (arith, nat_tests) in
    ap (λ z. cond z (leb (at + w) (8 * len)) false) t ∙ ap (λ z. leb (at + z) (8 * len)) (e ∙ sym (padded-length at v n))

pub padded-put : (f x : List ℕ) (at q v n w : ℕ) → w ≡ n + gap (at + n) → w ≤ 64 → v < 2 ^ n → q ≡ at → x ≡ cond (is_field q w (length f)) (put_bits f q (bits w v)) f →
    x ≡ cond (leb (at + length (padded_bits at v n)) (8 * length f)) (put_bits f at (padded_bits at v n)) f
padded-put f x at q v n w e h l i p =
    p ∙ ap (λ z. cond (is_field z w (length f)) (put_bits f z (bits w v)) f) i
    ∙ ap (λ z. cond z (put_bits f at (bits w v)) f) (padded-fits at v n w (length f) e h)
    ∙ ap (λ z. cond (leb (at + length (padded_bits at v n)) (8 * length f)) (put_bits f at z) f) (ap (λ z. bits z v) e ∙ padded-bits at v n l)

-- ## Closings

pub more-padded : (at : ℕ) → closing_bits at another ≡ padded_bits at 8 4
unfolding closing_bits
more-padded at =
    let e = more-bits at in
    let l : length (written closing at another) ≡ 4 = ap length e ∙ length-bits 4 8 in
    ap (λ z. z ++ replicate (gap (at + length (written closing at another))) false) e ∙ ap (λ z. bits 4 8 ++ replicate (gap (at + z)) false) l

pub end-padded : (at : ℕ) → closing_bits at (ended []) ≡ padded_bits at 15 4
unfolding closing_bits
end-padded at =
    let e = end-bits at in
    let l : length (written closing at (ended [])) ≡ 4 = ap length e ∙ length-bits 4 15 in
    ap (λ z. z ++ replicate (gap (at + length (written closing at (ended [])))) false) e ∙ ap (λ z. bits 4 15 ++ replicate (gap (at + z)) false) l

-- the tag and the number of leftovers as one field
two_fields : (n : ℕ) → bits 7 (14 + 16 * n) ≡ bits 4 14 ++ bits 3 n
two_fields n = ap (bits 7) (omega arith) ∙ joined-bits 14 4 n 3 (omega arith)

all-bits : (ls : List ℕ) → bits (8 * length ls) (field_at ls 0 (8 * length ls)) ≡ bits_of ls
all-bits ls = bits-field ls 0 (8 * length ls) (omega arith) ∙ take_all (8 * length ls) (bits_of ls) (omega (arith, length-bits_of ls))

left-written : (at : ℕ) (b : ℕ) (bs : List ℕ) → written closing at (ended (b ∷ bs)) ≡ bits 7 (14 + 16 * length (b ∷ bs)) ++ bits_of (b ∷ bs)
left-written at b bs =
    let n = length (b ∷ bs) in
    left-bits at b bs ∙ sym (append_assoc (bits 4 14) (bits 3 n) (bits_of (b ∷ bs))) ∙ ap (λ z. z ++ bits_of (b ∷ bs)) (sym (two_fields n))

pub left-padded : (at : ℕ) (ls : List ℕ) → 1 ≤ length ls → closing_bits at (ended ls) ≡ bits 7 (14 + 16 * length ls) ++ padded_bits (at + 7) (field_at ls 0 (8 * length ls)) (8 * length ls)
unfolding closing_bits
left-padded at [] h = absurd (omega arith)
left-padded at (b ∷ bs) h =
    let ls : List ℕ = b ∷ bs in
    let n = length ls in
    let A = bits 7 (14 + 16 * n) in
    let e = left-written at b bs in
    let l : at + length (written closing at (ended ls)) ≡ at + 7 + 8 * n = ap (λ z. at + z) (ap length e ∙ length-append A (bits_of ls) ∙ ap (λ z. z + length (bits_of ls)) (length-bits 7 (14 + 16 * n)) ∙ ap (λ z. 7 + z) (length-bits_of ls)) ∙ omega arith in
    let r = replicate (gap (at + 7 + 8 * n)) false in
    ap (λ z. z ++ replicate (gap (at + length (written closing at (ended ls)))) false) e
    ∙ ap (λ z. (A ++ bits_of ls) ++ replicate (gap z) false) l
    ∙ append_assoc A (bits_of ls) r
    ∙ ap (λ z. A ++ (z ++ r)) (sym (all-bits ls))

pub left-length : (at : ℕ) (ls : List ℕ) → 1 ≤ length ls → length (closing_bits at (ended ls)) ≡ 7 + 8 * length ls + gap (at + 7 + 8 * length ls)
left-length at ls h =
    let n = length ls in
    let A = bits 7 (14 + 16 * n) in
    let P = padded_bits (at + 7) (field_at ls 0 (8 * n)) (8 * n) in
    ap length (left-padded at ls h) ∙ omega (arith, length-append A P, length-bits 7 (14 + 16 * n), padded-length (at + 7) (field_at ls 0 (8 * n)) (8 * n))

-- ## Whether they fit

pub fits_by : (at len : ℕ) (e : Closing) (S : List Bool) → len ≤ most_bytes → length (leftovers_of e) ≤ 7 → closing_bits at e ≡ S → closing_fits at e len ≡ leb (at + length S) (8 * len)
fits_by at len e S h k i =
    let a : leb len most_bytes ≡ true = grind (arith, nat_tests) in
    let b : leb (length (leftovers_of e)) 7 ≡ true = grind (arith, nat_tests) in
    ap (λ z. z && (leb (length (leftovers_of e)) 7 && leb (at + length (closing_bits at e)) (8 * len))) a
    ∙ ap (λ z. z && leb (at + length (closing_bits at e)) (8 * len)) b
    ∙ ap (λ z. leb (at + length z) (8 * len)) i

-- an answer about some bits is one about the closing
pub end_by : (at len : ℕ) (e : Closing) (S : List Bool) → len ≤ most_bytes → length (leftovers_of e) ≤ 7 → closing_bits at e ≡ S →
    cond (leb (at + length S) (8 * len)) (Some ((at + length S) / 8)) None ≡ closing_end at e len
end_by at len e S h k i =
    ap (λ z. cond {A = Option ℕ} z (Some ((at + length S) / 8)) None) (sym (fits_by at len e S h k i))
    ∙ ap (λ z. cond {A = Option ℕ} (closing_fits at e len) (Some ((at + length z) / 8)) None) (sym i)

pub bytes-by : (at : ℕ) (b : List ℕ) (e : Closing) (S : List Bool) → length b ≤ most_bytes → length (leftovers_of e) ≤ 7 → closing_bits at e ≡ S →
    cond (leb (at + length S) (8 * length b)) (put_bits b at S) b ≡ closing_bytes at e b
bytes-by at b e S h k i =
    ap (λ z. cond z (put_bits b at S) b) (sym (fits_by at (length b) e S h k i))
    ∙ ap (λ z. cond (closing_fits at e (length b)) (put_bits b at z) b) (sym i)

pub refused : (at : ℕ) (b : List ℕ) (e : Closing) → closing_fits at e (length b) ≡ false → (None ≡ closing_end at e (length b)) × (b ≡ closing_bytes at e b)
refused at b e t = (sym (ap (λ z. cond {A = Option ℕ} z (Some ((at + length (closing_bits at e)) / 8)) None) t), sym (ap (λ z. cond z (put_bits b at (closing_bits at e)) b) t))

-- leftovers, in two fields
pub left-put : (f g x : List ℕ) (at q r v n : ℕ) (ls : List ℕ) → n ≡ length ls → 1 ≤ n → at + length (closing_bits at (ended ls)) ≤ 8 * length f → q ≡ at → r ≡ at + 7 → v ≡ field_at ls 0 (8 * n) → length g ≡ length f →
    g ≡ put_bits f at (bits 7 (14 + 16 * n)) →
    x ≡ cond (leb (r + length (padded_bits r v (8 * n))) (8 * length g)) (put_bits g r (padded_bits r v (8 * n))) g →
    x ≡ put_bits f at (closing_bits at (ended ls))
left-put f g x at q r v n ls en h l eq er ev lg eg ex =
    let A = bits 7 (14 + 16 * n) in
    let P = padded_bits (at + 7) (field_at ls 0 (8 * n)) (8 * n) in
    let e : closing_bits at (ended ls) ≡ A ++ P = left-padded at ls (omega arith) ∙ ap (λ z. bits 7 (14 + 16 * z) ++ padded_bits (at + 7) (field_at ls 0 (8 * z)) (8 * z)) (sym en) in
    let la = length-bits 7 (14 + 16 * n) in
    let k : at + 7 + length P ≤ 8 * length f = omega (arith, ap length e, length-append A P) in
    let t : leb (at + 7 + length P) (8 * length g) ≡ true = grind (arith, nat_tests) in
    ex ∙ ap (λ z. cond (leb (z + length (padded_bits z v (8 * n))) (8 * length g)) (put_bits g z (padded_bits z v (8 * n))) g) er
    ∙ ap (λ z. cond (leb (at + 7 + length (padded_bits (at + 7) z (8 * n))) (8 * length g)) (put_bits g (at + 7) (padded_bits (at + 7) z (8 * n))) g) ev
    ∙ ap (λ z. cond z (put_bits g (at + 7) P) g) t
    ∙ ap (λ z. put_bits z (at + 7) P) eg
    ∙ put-put f at (at + 7) A P (omega arith) (omega arith)
    ∙ ap (put_bits f at) (sym e)

pub left_end : (at r v n len : ℕ) (ls : List ℕ) → n ≡ length ls → 1 ≤ n → at + length (closing_bits at (ended ls)) ≤ 8 * len → r ≡ at + 7 → v ≡ field_at ls 0 (8 * n) →
    cond (leb (r + length (padded_bits r v (8 * n))) (8 * len)) (Some ((r + length (padded_bits r v (8 * n))) / 8)) None ≡ Some ((at + length (closing_bits at (ended ls))) / 8)
left_end at r v n len ls en h l er ev =
    let c = left-length at ls (omega arith) in
    let i : gap (r + 8 * n) ≡ gap (at + 7 + 8 * length ls) = ap (λ z. gap (z + 8 * n)) er ∙ ap (λ z. gap (at + 7 + 8 * z)) en in
    let p : r + length (padded_bits r v (8 * n)) ≡ at + length (closing_bits at (ended ls)) = omega (arith, padded-length r v (8 * n)) in
    let t : leb (at + length (closing_bits at (ended ls))) (8 * len) ≡ true = grind (arith, nat_tests) in
    ap (λ z. cond {A = Option ℕ} (leb z (8 * len)) (Some (z / 8)) None) p ∙ ap (λ z. cond {A = Option ℕ} z (Some ((at + length (closing_bits at (ended ls))) / 8)) None) t

pub accepted : (at : ℕ) (b : List ℕ) (e : Closing) → length b ≤ most_bytes → length (leftovers_of e) ≤ 7 → at + length (closing_bits at e) ≤ 8 * length b →
    (Some ((at + length (closing_bits at e)) / 8) ≡ closing_end at e (length b)) × (put_bits b at (closing_bits at e) ≡ closing_bytes at e b)
accepted at b e h k l =
    let t : closing_fits at e (length b) ≡ true = fits_by at (length b) e (closing_bits at e) h k refl ∙ (grind (arith, nat_tests)) in
    (sym (ap (λ z. cond {A = Option ℕ} z (Some ((at + length (closing_bits at e)) / 8)) None) t), sym (ap (λ z. cond z (put_bits b at (closing_bits at e)) b) t))

pub fits-long : (at len : ℕ) (e : Closing) → 8 * len < at + length (closing_bits at e) → closing_fits at e len ≡ false
fits-long at len e h = by_tests (leb len most_bytes) (leb (length (leftovers_of e)) 7)
  where
    long : leb (at + length (closing_bits at e)) (8 * len) ≡ false
    long = grind (arith, nat_tests)

    by_tests : (a b : Bool) → a && (b && leb (at + length (closing_bits at e)) (8 * len)) ≡ false
    by_tests false b = refl
    by_tests true false = refl
    by_tests true true = long
