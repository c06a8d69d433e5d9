use Rattle.std.proofs.Common.{◌≡◌, ℕ, ◌+◌, ◌-◌, ◌*◌, ◌/◌, ◌%◌, ◌^◌, ◌<◌, ◌≤◌, true, leb, List, length, sym, refl, ap, ◌∙◌, arith}
use lib.Bits.{bit_or}
use Rattle.std.proofs.lemmas.Bool.{leb-true}
use Rattle.std.proofs.lemmas.Bool.Decides.{nat_tests}
use Rattle.bits.specs.Bits.{bits, stored}
use Rattle.bits.proofs.Words.{small-lt, small_put, full-rest, full-rest-lt, full_put, rest-none, none_lt}
use Rattle.fields.specs.Fields.{is_field}
use Rattle.fields.proofs.accumulator.Accumulator.push.Goals as goal
use Rattle.fields.proofs.accumulator.Accumulator.push.Goals.{then-left-eq0, else-left-eq0}

fits : (p have n l : ℕ) (b : _) → b ≡ leb (8 * p + (have + n)) (8 * l) → b ≡ true → 8 * p + have + n ≤ 8 * l
fits p have n l b e t = omega (arith, leb-true (8 * p + (have + n)) (8 * l) (sym e ∙ t))

is_field-fits : (at n l : ℕ) → n ≤ 64 → at + n ≤ 8 * l → true ≡ is_field at n l
is_field-fits at n l h k = grind (arith, nat_tests)

pub invariant_of-self : goal.invariant_of-self
invariant_of-self c =
    let w : ℕ = c.args.self.now.word in
    let have : ℕ = c.args.self.now.have in
    let v : ℕ = c.args.value in
    let n : ℕ = c.args.count in
    let e : c.low-new.result ≡ v % 2 ^ n = c.low-new.ensures in
    record { few = omega arith; clean = rw e (small-lt w have v n c.args.self.now.clean c.args.self.now.few (omega arith) (omega arith)) }

pub returns-then-have-lt64 : goal.returns-then-have-lt64
returns-then-have-lt64 c =
    let f : List ℕ = c.args.buffer.now in
    let p : ℕ = c.args.self.now.place in
    let w : ℕ = c.args.self.now.word in
    let have : ℕ = c.args.self.now.have in
    let v : ℕ = c.args.value in
    let n : ℕ = c.args.count in
    let e : c.low-new.result ≡ v % 2 ^ n = c.low-new.ensures in
    let fit : 8 * p + have + n ≤ 8 * length f = fits p have n (length f) c.reaches.result c.reaches.ensures c.if-not-reaches.false in
    record {
      pushed = is_field-fits (8 * p + have) n (length f) (omega arith) fit;
      held = rw e (small_put w have v n c.args.self.now.clean c.args.self.now.few (omega arith) f p (omega arith) fit);
      end = omega arith;
      refused = λ _. refl;
    }

pub invariant_of-self-2 : goal.invariant_of-self-2
invariant_of-self-2 c =
    let w : ℕ = c.args.self.now.word in
    let have : ℕ = c.args.self.now.have in
    let v : ℕ = c.args.value in
    let n : ℕ = c.args.count in
    let e : c.low-new.result ≡ v % 2 ^ n = c.low-new.ensures in
    let i : n - (have + n - 64) ≡ 64 - have = omega arith in
    let lt : c.if-left-eq0.rest < 2 ^ (have + n - 64) = elim c.if-left-eq0.branch [
      | then-left-eq0 x ↦ rw x.rest-is (none_lt (have + n - 64))
      | else-left-eq0 x ↦ rw (x.rest-is, e, i) (full-rest-lt w have v n c.args.self.now.clean c.args.self.now.few (omega arith) (omega arith))
    ] in
    record { few = omega arith; clean = lt }

pub returns : goal.returns
returns c =
    let f : List ℕ = c.args.buffer.now in
    let g : List ℕ = c.store.new.buffer in
    let p : ℕ = c.args.self.now.place in
    let w : ℕ = c.args.self.now.word in
    let have : ℕ = c.args.self.now.have in
    let v : ℕ = c.args.value in
    let n : ℕ = c.args.count in
    let r : ℕ = c.if-left-eq0.rest in
    let e : c.low-new.result ≡ v % 2 ^ n = c.low-new.ensures in
    let i : n - (have + n - 64) ≡ 64 - have = omega arith in
    let fit : 8 * p + have + n ≤ 8 * length f = fits p have n (length f) c.reaches.result c.reaches.ensures c.if-not-reaches.false in
    let rest : bits (have + n - 64) r ≡ bits (have + n - 64) (v / 2 ^ (64 - have)) = elim c.if-left-eq0.branch [
      | then-left-eq0 x ↦ rest-none (have + n - 64) r (v / 2 ^ (64 - have)) x.if-left-eq0.true
      | else-left-eq0 x ↦ rw (x.rest-is, e, i) (full-rest w have v n c.args.self.now.clean c.args.self.now.few (omega arith) (omega arith))
    ] in
    let s : g ≡ stored f p 8 (bit_or w ((v % 2 ^ n * 2 ^ have) % 2 ^ 64)) = c.store.ensures ∙ ap (λ z. stored f p 8 (bit_or w ((z * 2 ^ have) % 2 ^ 64))) e in
    record {
      pushed = is_field-fits (8 * p + have) n (length f) (omega arith) fit;
      held = full_put w have v n c.args.self.now.clean c.args.self.now.few (omega arith) f g p r c.are_bytes.ensures (omega arith) fit s rest;
      end = omega arith;
      refused = λ z. let q : ◌≡◌ {A = ℕ} 0 1 = cc in absurd (omega arith);
    }
