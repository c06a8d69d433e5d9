-- The rows of a table, one after the other.
use Rattle.std.proofs.Common.{◌≡◌, ℕ, ◌+◌, ◌-◌, ◌*◌, ◌^◌, ◌<◌, ◌≤◌, min, Bool, true, false, cond, ◌&&◌, ◌||◌, eqb, List, [], ◌∷◌, ◌++◌, length, get_or, drop, sym, refl, ap, ◌∙◌, subst, arith, length-append}
use Rattle.std.specs.List.{sum_by}
use Rattle.std.proofs.lemmas.List.Sums.{sum_by-cons}
use Rattle.std.proofs.lemmas.List.{drop_more, drop_all}
use Rattle.std.proofs.lemmas.Bool.{and_parts}
use Rattle.std.proofs.lemmas.Bool.Decides.{nat_tests}
use Rattle.bits.specs.Bits.{put_bits, Bytes}
use Rattle.bits.proofs.Laws.{length-put_bits, put_bits-twice, Bytes-put_bits}
use Rattle.layout.specs.Recording as recordings
use Rattle.layout.specs.Channels.{width, ruled}
use Rattle.layout.proofs.Codes.{narrow-width}
use Rattle.channel.specs.declared.record.Channel.{Channel}
use Rattle.channel.specs.Records.{settings_of}
use Rattle.channel.specs.Descriptions.{description_bits, describes}
use Rattle.channel.proofs.Describing.{fields-length, length-recorded}
use Rattle.calls.specs.Calls.{settings, describable, no_row}
use Rattle.openings.specs.Steps.{rows_bits}

abbrev pub row : List Channel → ℕ → recordings.Channel
row t i = settings_of (get_or t i no_row)

-- the rows from one on are that row and the others
pub describable-next : (kept : Bool) (t : List Channel) (i : ℕ) → i < length t →
    describable kept (settings (drop i t)) ≡ (ruled (row t i) && ((kept || eqb (row t i).repeats 1) && describable kept (settings (drop (i + 1) t))))
unfolding describable
describable-next kept t i h = ap (λ z. describable kept (settings z)) (drop_more t i no_row h)

pub rows_next : (kept : Bool) (t : List Channel) (i : ℕ) → i < length t → rows_bits kept (settings (drop i t)) ≡ description_bits kept (row t i) ++ rows_bits kept (settings (drop (i + 1) t))
unfolding rows_bits
rows_next kept t i h = ap (λ z. rows_bits kept (settings z)) (drop_more t i no_row h)

pub rows_end : (kept : Bool) (t : List Channel) (i : ℕ) → length t ≤ i → rows_bits kept (settings (drop i t)) ≡ []
unfolding rows_bits
rows_end kept t i h = ap (λ z. rows_bits kept (settings z)) (drop_all i t h)

pub length-next : (kept : Bool) (t : List Channel) (i : ℕ) → i < length t → length (rows_bits kept (settings (drop i t))) ≡ length (description_bits kept (row t i)) + length (rows_bits kept (settings (drop (i + 1) t)))
length-next kept t i h = ap length (rows_next kept t i h) ∙ length-append (description_bits kept (row t i)) (rows_bits kept (settings (drop (i + 1) t)))

-- how many bits the rows take
pub length-rows : (kept : Bool) (t : List Channel) → sum_by (λ row. length (description_bits kept (settings_of row))) t ≡ length (rows_bits kept (settings t))
unfolding rows_bits
length-rows kept [] = refl
length-rows kept (r ∷ rs) =
    sum_by-cons (λ row. length (description_bits kept (settings_of row))) r rs ∙ ap (λ n. length (description_bits kept (settings_of r)) + n) (length-rows kept rs)
    ∙ sym (length-append (description_bits kept (settings_of r)) (rows_bits kept (settings rs)))

most-fields : (c : recordings.Channel) → length (description_bits false c) ≤ 51
most-fields c =
    let l = fields-length c (width c.kind) refl in
    let w = narrow-width c.kind in
    grind (arith, nat_tests)

-- a row takes at most 75 of them
most-bits : (kept : Bool) (c : recordings.Channel) → length (description_bits kept c) ≤ 75
most-bits true c = omega (arith, length-recorded c, most-fields c)
most-bits false c = omega (arith, most-fields c)

pub most-rows : (kept : Bool) (cs : List recordings.Channel) → length (rows_bits kept cs) ≤ 75 * length cs
unfolding rows_bits
most-rows kept [] = omega arith
most-rows kept (c ∷ cs) = omega (arith, length-append (description_bits kept c) (rows_bits kept cs), most-bits kept c, most-rows kept cs)

pub row-ruled : (kept : Bool) (t : List Channel) (i : ℕ) → i < length t → describable kept (settings (drop i t)) ≡ true → (ruled (row t i) ≡ true) × (describable kept (settings (drop (i + 1) t)) ≡ true)
row-ruled kept t i h d =
    let (r, x) = and_parts (ruled (row t i)) ((kept || eqb (row t i).repeats 1) && describable kept (settings (drop (i + 1) t))) (sym (describable-next kept t i h) ∙ d) in
    let (_, y) = and_parts (kept || eqb (row t i).repeats 1) (describable kept (settings (drop (i + 1) t))) x in
    (r, y)

describes_true : (s : recordings.Channel) (D : List Bool) (at size : ℕ) → size ≤ 16777216 → ruled s ≡ true → at + length D ≤ 8 * size → describes s D at size ≡ true
describes_true s D at size h r l = grind (arith, nat_tests)

-- a description that is put, with others behind it
pub put-row : (b b' : List ℕ) (p p' n : ℕ) (D R : List Bool) (s : recordings.Channel) → length b ≤ 16777216 → ruled s ≡ true → p + (length D + length R) ≤ 8 * length b → n ≡ length D →
    p' ≡ min (p + n) (2 ^ 64 - 1) → b' ≡ cond (describes s D p (length b)) (put_bits b p D) b →
    (put_bits b' p' R ≡ put_bits b p (D ++ R)) × (p' ≡ p + length D) × (length b' ≡ length b) × Bytes b'
put-row b b' p p' n D R s few r fit en ep eb =
    let e : b' ≡ put_bits b p D = eb ∙ ap (λ t. cond t (put_bits b p D) b) (describes_true s D p (length b) few r (omega arith)) in
    let q : p' ≡ p + length D = omega arith in
    let w = put_bits-twice b p D R (omega arith) in
    (ap (λ z. put_bits z p' R) e ∙ ap (λ z. put_bits (put_bits b p D) z R) q ∙ w, q, ap length e ∙ length-put_bits b p D (omega arith), subst Bytes (sym e) (Bytes-put_bits b p D))
