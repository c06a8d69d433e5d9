use Rattle.std.proofs.Common.{◌≡◌, ℕ, ◌+◌, ◌*◌, ◌/◌, ◌%◌, ◌^◌, ◌<◌, ◌≤◌, ◌∙◌, mod-lt, mod-eq_of_lt, div-mul-le_self, arith, pow_pos}
use native.Mathlib.Nat.{div-eq_of_lt}
use Rattle.std.proofs.lemmas.Nat.{shl_whole}
use Rattle.bits.proofs.Fields.{merged-or}
use Rattle.fields.proofs.word.merged.Goals as goal
use Rattle.fields.proofs.word.merged.Goals.{then-end-ge64, else-end-ge64}

top : (w e : ℕ) → w < 2 ^ 64 → 64 ≤ e → e ≤ 64 → 0 ≡ w / 2 ^ e * 2 ^ e
top w e h l m =
    let z : e ≡ 64 = omega arith in
    let q : w / 2 ^ 64 ≡ 0 = div-eq_of_lt h in
    rw z (rw q (omega arith))

pub returns : goal.returns
returns c =
    let w : ℕ = c.args.word in
    let s : ℕ = c.args.shift in
    let v : ℕ = c.args.value in
    let n : ℕ = c.args.count in
    let hi : c.if-end-ge64.high ≡ w / 2 ^ (s + n) * 2 ^ (s + n) =
    elim c.if-end-ge64.branch [
      | then-end-ge64 x ↦ x.high-is ∙ top w (s + n) (omega arith) (omega arith) (omega arith)
      | else-end-ge64 x ↦ x.high-is ∙ mod-eq_of_lt (omega (arith, div-mul-le_self w (2 ^ (s + n))))
    ] in
    let l : v % 2 ^ n < 2 ^ n = mod-lt v (pow_pos n) in
    let sh : (v % 2 ^ n * 2 ^ s) % 2 ^ 64 ≡ v % 2 ^ n * 2 ^ s = shl_whole (v % 2 ^ n) n s 64 l (omega arith) in
    let o = merged-or w s v n in
    cc
