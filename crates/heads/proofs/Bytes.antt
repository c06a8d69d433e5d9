-- Bytes copied to a place.
use Rattle.std.proofs.Common.{◌≡◌, ℕ, ◌+◌, ◌*◌, ◌≤◌, List, ◌++◌, length, take, drop, ap, ◌∙◌, arith}
use borrow.Rule.Slice.PartMut.{put_mid}
use Rattle.std.proofs.lemmas.List.{drop-drop}
use Rattle.bits.specs.Bits.{bits_of, put_bits, overwritten, Bytes}
use Rattle.bits.proofs.Files.{length-bits_of, bits_of-append, take-bits_of, drop-bits_of}
use Rattle.bits.proofs.Fields.{Bytes-append, Bytes-take, Bytes-drop}
use Rattle.bits.proofs.Places.{put_whole}

-- what was lent in the middle, put back
pub copied : (f ys : List ℕ) (p k : ℕ) → k ≡ length ys → p + length ys ≤ length f → Bytes f → Bytes ys → put_mid p k f ys ≡ put_bits f (8 * p) (bits_of ys)
unfolding overwritten
copied f ys p k e h b c =
    let n : ℕ = length ys in
    let d : drop k (drop p f) ≡ drop (p + n) f = drop-drop k p f ∙ ap (λ z. drop (p + z) f) e in
    let g : List ℕ = take p f ++ (ys ++ drop (p + n) f) in
    let w : Bytes g = Bytes-append (take p f) (ys ++ drop (p + n) f) (Bytes-take p f b) (Bytes-append ys (drop (p + n) f) c (Bytes-drop (p + n) f b)) in
    let l : 8 * p + length (bits_of ys) ≡ 8 * (p + n) = omega (arith, length-bits_of ys) in
    let t = take-bits_of p f (omega arith) in
    let r = drop-bits_of (p + n) f h in
    let x : drop (8 * p + length (bits_of ys)) (bits_of f) ≡ bits_of (drop (p + n) f) = ap (λ z. drop z (bits_of f)) l ∙ r in
    let a1 = bits_of-append (take p f) (ys ++ drop (p + n) f) in
    let a2 = bits_of-append ys (drop (p + n) f) in
    let i : bits_of g ≡ take (8 * p) (bits_of f) ++ (bits_of ys ++ drop (8 * p + length (bits_of ys)) (bits_of f)) = cc in
    ap (λ z. take p f ++ (ys ++ z)) d ∙ put_whole f g (8 * p) (8 * p) (bits_of ys) w (omega arith) i
