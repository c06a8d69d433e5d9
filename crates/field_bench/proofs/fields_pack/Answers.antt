use Rattle.std.proofs.Common.{◌≡◌, ℕ, ◌+◌, ◌*◌, ◌/◌, ◌%◌, ◌^◌, ◌<◌, ◌≤◌, Bool, true, false, cond, leb, List, length, pos, sym, ap, ◌∙◌, mul_assoc, mul_comm, add-mul, mul-le-mul_left, mul-zero, mul-one, mul-add, add-one, add-one-le, arith, w64, to_z}
use Rattle.std.proofs.lemmas.Int.{to_z_pos}
use Rattle.std.proofs.lemmas.Bool.{leb-true, cond-true, cond-false}
use Rattle.std.proofs.lemmas.Bool.Decides.{nat_tests}
use Rattle.bits.specs.Bits.{bits, put_bits}
use Rattle.fields.specs.Fields.{is_field, held, held_end}
use Rattle.field_bench.specs.Packing.{mixed, packs, packed_size, packed}
use Rattle.field_bench.proofs.fields_pack.Goals as goal

-- the end of one field more
one_on : (w i : ℕ) → w * (i + 1) ≡ w * i + w
one_on w i = mul-add w i 1 ∙ ap (λ z. w * i + z) (mul-one w)

one_more : (f : List ℕ) (w i : ℕ) → packed f w (i + 1) ≡ put_bits (packed f w i) (w * i) (bits w (mixed i))
unfolding packed
one_more f w i = rw (add-one i)

-- where one field does not fit, not all of them do
too_many : (w n i e l : ℕ) → i < n → w ≤ 64 → e ≡ w * i → false ≡ is_field e w l → packs w n l ≡ false
too_many w n i e l h k p r =
    let m : w * (i + 1) ≤ w * n = mul-le-mul_left w (add-one-le h) in
    let s = one_on w i in
    grind (arith, nat_tests)

-- the fields by eights
eights : (w n : ℕ) → w * n ≡ 8 * (n / 8 * w) + n % 8 * w
eights w n =
    let s : n ≡ 8 * (n / 8) + n % 8 = omega arith in
    mul_comm w n ∙ ap (λ z. z * w) s ∙ add-mul (8 * (n / 8)) (n % 8) w ∙ ap (λ z. z + n % 8 * w) (mul_assoc 8 (n / 8) w)

-- the bytes of all fields
size : (w n : ℕ) → n / 8 * w + (n % 8 * w + 7) / 8 ≡ (w * n + 7) / 8
size w n = omega (arith, eights w n)

-- where the last bits fit, all fields do
fit : (w n i e l : ℕ) → i ≤ n → n ≤ i → e ≡ w * i → true ≡ leb e (8 * l) → w * n ≤ 8 * l
fit w n i e l h k p t =
    let q : i ≡ n = omega arith in
    omega (arith, leb-true e (8 * l) (sym t), p ∙ ap (λ z. w * z) q)

within : (w n l : ℕ) → w * n ≤ 8 * l → n / 8 * w + (n % 8 * w + 7) / 8 ≤ l
within w n l h = omega (arith, eights w n)

answered : (w n l : ℕ) → w ≤ 64 → w * n ≤ 8 * l → l < 2 ^ 63 → to_z w64 (n / 8 * w + (n % 8 * w + 7) / 8) ≡ packed_size w n l
answered w n l k h b =
    let t : packs w n l ≡ true = grind (arith, nat_tests) in
    let s : n / 8 * w + (n % 8 * w + 7) / 8 ≤ l = within w n l h in
    to_z_pos w64 (n / 8 * w + (n % 8 * w + 7) / 8) (omega arith) ∙ ap pos (size w n) ∙ sym (cond-true (packs w n l) _ _ t)

pub loop-i-init : goal.loop-i-init
unfolding packed
loop-i-init c = (c.in-Some.ensures.0, c.in-Some.ensures.1 ∙ c.new.ensures ∙ sym (mul-zero c.args.width))

pub returns-then-not-push : goal.returns-then-not-push
returns-then-not-push c =
    let w : ℕ = c.args.width in
    let l : ℕ = length c.args.buffer.now in
    let e : ℕ = held_end c.loop-i.waiting.place c.loop-i.waiting.have in
    let n : packs w c.args.count l ≡ false = too_many w c.args.count c.loop-i.i e l (omega arith) (omega arith) c.loop-i.invariant.1 (c.if-not-push.ensures.pushed ∙ ap (is_field e w) c.loop-i.auto.buffer) in
    record { size = sym (cond-false (packs w c.args.count l) _ _ n); bytes = λ z. let q : ◌≡◌ {A = ℕ} 0 1 = cc in absurd (omega arith) }

pub loop-i-preserved : goal.loop-i-preserved
loop-i-preserved c =
    let f : List ℕ = c.args.buffer.now in
    let w : ℕ = c.args.width in
    let i : ℕ = c.loop-i.i in
    let h = c.if-not-push.ensures.held in
    let e = c.if-not-push.ensures.end in
    let v = c.value.ensures in
    let m = one_more f w i in
    let a = c.loop-i.invariant.0 in
    let b = c.loop-i.invariant.1 in
    let o = one_on w i in
    (cc, cc)

-- the file, once the last bits are written
finished : (f g b h : List ℕ) (w n i : ℕ) (t : Bool) → true ≡ t → b ≡ cond t h g → h ≡ packed f w i → i ≡ n → b ≡ packed f w n
finished f g b h w n i t e q p k = q ∙ cond-true t h g (sym e) ∙ p ∙ ap (packed f w) k

-- all fields lie within the buffer where the last bits are written
all_in : (c : goal.Else-not-finish) → c.args.width * c.args.count ≤ 8 * length c.args.buffer.now
all_in c =
    fit c.args.width c.args.count c.loop-i.i (held_end c.loop-i.waiting.place c.loop-i.waiting.have) (length c.args.buffer.now) (omega arith) (omega arith) c.loop-i.invariant.1
    (c.if-not-finish.ensures.finished ∙ ap (λ z. leb (held_end c.loop-i.waiting.place c.loop-i.waiting.have) (8 * z)) c.loop-i.auto.buffer)

pub overflow_mul-result : goal.overflow_mul-result
overflow_mul-result c = omega (arith, within c.args.width c.args.count (length c.args.buffer.now) (all_in c))

pub overflow_add-result-2 : goal.overflow_add-result-2
overflow_add-result-2 c = omega (arith, within c.args.width c.args.count (length c.args.buffer.now) (all_in c))

pub overflow_cast-result : goal.overflow_cast-result
overflow_cast-result c = omega (arith, within c.args.width c.args.count (length c.args.buffer.now) (all_in c))

pub returns : goal.returns
returns c =
    let w : ℕ = c.args.width in
    let n : ℕ = c.args.count in
    let g : List ℕ = c.loop-i.buffer in
    let h : List ℕ = held g c.loop-i.waiting.place c.loop-i.waiting.word c.loop-i.waiting.have in
    let t : Bool = leb (held_end c.loop-i.waiting.place c.loop-i.waiting.have) (8 * length g) in
    record {
      size = answered w n (length c.args.buffer.now) (omega arith) (all_in c) (omega arith);
      bytes = λ _. finished c.args.buffer.now g c.finish.new.buffer h w n c.loop-i.i t c.if-not-finish.ensures.finished c.if-not-finish.ensures.bytes c.loop-i.invariant.0 (omega arith);
    }
