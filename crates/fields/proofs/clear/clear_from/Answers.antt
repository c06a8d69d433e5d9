use Rattle.std.proofs.Common.{◌≡◌, ℕ, ◌+◌, ◌-◌, ◌*◌, ◌/◌, ◌%◌, List, ◌++◌, length, take, drop, set, replicate, ap, ◌∙◌, append-nil, arith, length-drop, length-set, drop_of_length-le}
use borrow.Rule.Slice.PartMut.{put_mid}
use Rattle.std.proofs.lemmas.List.{take_rest}
use Rattle.bits.specs.Bits.{cleared_from}
use Rattle.bits.proofs.Laws.{clear_none, clear_within}
use Rattle.fields.proofs.clear.clear_from.Goals as goal

pub returns-then-p-buffer : goal.returns-then-p-buffer
returns-then-p-buffer c = clear_none c.args.buffer.now c.args.at.bits (omega arith) c.are_bytes.ensures

-- a tail that was lent, put back, stands after the first `a`
back : (a : ℕ) (xs ys : List ℕ) → put_mid a (length xs - a) xs ys ≡ take a xs ++ ys
back a xs ys = simp (drop_of_length-le (drop a xs) {i = length xs - a} (simp length-drop (omega arith)), append-nil)

pub returns : goal.returns
returns c =
    let f : List ℕ = c.args.buffer.now in
    let at : ℕ = c.bits-at.result in
    let p : ℕ = at / 8 in
    let g : List ℕ = set f p c.low.result in
    let z : c.zero.new.part ≡ replicate (length f - (p + 1)) 0 =
    c.zero.ensures ∙ ap (λ (k : ℕ). replicate k 0) (ap length (take_rest g (p + 1)) ∙ length-drop (p + 1) g ∙ ap (λ k. k - (p + 1)) (length-set f p c.low.result)) in
    let b : put_mid (p + 1) (length g - (p + 1)) g c.zero.new.part ≡ take (p + 1) g ++ replicate (length f - (p + 1)) 0 = back (p + 1) g c.zero.new.part ∙ ap (λ z. take (p + 1) g ++ z) z in
    let i : 8 * p + at % 8 ≡ c.args.at.bits = omega (arith, c.bits-at.ensures) in
    clear_within f (put_mid (p + 1) (length g - (p + 1)) g c.zero.new.part) p (at % 8) c.low.result (omega arith) (omega arith) c.are_bytes.ensures c.low.ensures b ∙ ap (cleared_from f) i
