use Rattle.std.proofs.Common.{◌≡◌, ℕ, ◌+◌, ◌-◌, List, drop, ap, ◌∙◌, arith}
use Rattle.std.proofs.lemmas.List.{drop-drop}
use Rattle.bits.specs.Bits.{stored}
use Rattle.bits.proofs.Places.{bytes-eight}
use Rattle.fields.proofs.word.store.Goals as goal

pub returns : goal.returns
unfolding stored
returns c =
    let f : List ℕ = c.args.buffer.now in
    let p : ℕ = c.args.p in
    let k : ℕ = p + 8 - p in
    let e : p + k ≡ p + 8 = omega arith in
    let d : drop k (drop p f) ≡ drop (p + 8) f = drop-drop k p f ∙ ap (λ z. drop z f) e in
    let b = bytes-eight c.args.word in
    let a = c.copy_from_slice.ensures.after in
    let t = c.to_le_bytes.ensures in
    cc
