-- The fields behind a channel's repeats as one number.
use Rattle.std.proofs.Common.{◌≡◌, ℕ, ◌+◌, ◌-◌, ◌*◌, ◌%◌, ◌^◌, ◌<◌, ◌≤◌, Bool, true, false, ◌&&◌, ltb, leb, List, [], ◌++◌, length, sym, refl, ap, ◌∙◌, subst, append_assoc, append-nil, mod-eq_of_lt, arith}
use mir.Val.{bool_byte}
use lib.Bits.{bit_or}
use Rattle.std.proofs.lemmas.Bool.{and_parts, ltb-true}
use Rattle.std.proofs.lemmas.Bool.Decides.{nat_tests}
use Rattle.bits.specs.Bits.{bits}
use Rattle.bits.proofs.Numbers.{length-bits}
use Rattle.bits.proofs.Words.{small-lt, small-bits}
use Rattle.layout.specs.Recording.{Channel}
use Rattle.layout.specs.Channels.{width, suits, ruled}
use Rattle.layout.specs.Slim.{bit}
use Rattle.layout.proofs.Codes.{narrow-width}
use Rattle.channel.specs.Descriptions.{description_bits}
use Rattle.channel.proofs.Describing.{added_bits, fields_bits, description_is, added-reduced, added-constant, added_none}

-- a number of n bits that are s
Packed : ℕ → ℕ → List Bool → Type 0
Packed n x s = (x < 2 ^ n) × (bits n x ≡ s)

-- a field above it
field-above : (n x k v : ℕ) (s : List Bool) → Packed n x s → v < 2 ^ k → n + k < 64 → Packed (n + k) (bit_or x ((v * 2 ^ n) % 2 ^ 64)) (s ++ bits k v)
unfolding Packed
field-above n x k v s (h, e) l r =
    let m : v % 2 ^ k ≡ v = mod-eq_of_lt l in
    let y = bit_or x ((v * 2 ^ n) % 2 ^ 64) in
    let i : bit_or x ((v % 2 ^ k * 2 ^ n) % 2 ^ 64) ≡ y = ap (λ z. bit_or x ((z * 2 ^ n) % 2 ^ 64)) m in
    (subst (λ z. z < 2 ^ (n + k)) i (small-lt x n v k h (omega arith) (omega arith) r), ap (bits (n + k)) (sym i) ∙ small-bits x n v k h (omega arith) (omega arith) r ∙ ap (λ z. z ++ bits k v) e)

delta-bit : (b : Bool) → Packed 1 (bool_byte b) (bits 1 (bit b))
unfolding Packed
delta-bit true = (omega arith, refl)
delta-bit false = (omega arith, refl)

-- delta, turn, algorithm and type
abbrev pub front : Bool → ℕ → ℕ → ℕ → ℕ
front d t a k = bit_or (bit_or (bit_or (bool_byte d) ((t * 2) % 18446744073709551616)) ((a * 64) % 18446744073709551616)) ((k * 1024) % 18446744073709551616)

front_bits : Bool → ℕ → ℕ → ℕ → List Bool
front_bits d t a k = ((bits 1 (bit d) ++ bits 5 t) ++ bits 4 a) ++ bits 4 k

front-packed : (d : Bool) (t a k : ℕ) → t < 32 → a < 16 → k < 16 → Packed 14 (front d t a k) (front_bits d t a k)
unfolding front_bits
front-packed d t a k ht ha hk =
    field-above 10 _ 4 k _ (field-above 6 _ 4 a _ (field-above 1 _ 5 t _ (delta-bit d) ht (omega arith)) ha (omega arith)) hk (omega arith)

-- the algorithm's fields behind these
fields-are : (c : Channel) (more : List Bool) → added_bits (width c.kind) c.algorithm c.narrow c.value ≡ more →
    front_bits c.delta c.turn c.algorithm c.kind ++ more ≡ description_bits false c
unfolding front_bits fields_bits
fields-are c more e =
    let D = bits 1 (bit c.delta) in
    let T = bits 5 c.turn in
    let A = bits 4 c.algorithm in
    let K = bits 4 c.kind in
    append_assoc ((D ++ T) ++ A) K more ∙ append_assoc (D ++ T) A (K ++ more) ∙ append_assoc D T (A ++ (K ++ more))
    ∙ ap (λ z. D ++ (T ++ (A ++ (K ++ z)))) (sym e) ∙ sym (description_is false c)

-- a packed number with as many bits as it has
whole-number : (n x : ℕ) (s t : List Bool) → Packed n x s → s ≡ t → bits (length t) x ≡ t
unfolding Packed
whole-number n x s t (h, e) i =
    let l : length t ≡ n = ap length (sym i ∙ sym e) ∙ length-bits n x in
    ap (λ k. bits k x) l ∙ e ∙ i

-- what the rules say of the fields
record Few (c : Channel) : Type 0 where
  turn : c.turn < 32
  kind : c.kind < 16
  wide : 0 < width c.kind
  suit : suits (width c.kind) c.algorithm c.narrow c.value ≡ true

kind-few : (k : ℕ) → 0 < width k → k < 16
kind-few k h = grind (arith, nat_tests)

few : (c : Channel) → ruled c ≡ true → Few c
few c h =
    let (_, h1) = and_parts (ltb 0 c.repeats) (leb c.repeats 16777215 && (ltb c.turn (width c.kind) && suits (width c.kind) c.algorithm c.narrow c.value)) h in
    let (_, h2) = and_parts (leb c.repeats 16777215) (ltb c.turn (width c.kind) && suits (width c.kind) c.algorithm c.narrow c.value) h1 in
    let (t, h3) = and_parts (ltb c.turn (width c.kind)) (suits (width c.kind) c.algorithm c.narrow c.value) h2 in
    let l = ltb-true c.turn (width c.kind) t in
    let m = narrow-width c.kind in
    record { turn = omega arith; kind = kind-few c.kind (omega arith); wide = omega arith; suit = h3 }

pub covered : (c : Channel) → ruled c ≡ true → 0 < width c.kind
covered c h = (few c h).wide

suit-one : (w n v : ℕ) → suits w 1 n v ≡ true → (n ≤ w) × (v < 2 ^ w)
suit-one w n v h = (grind (arith, nat_tests), grind (arith, nat_tests))

suit-six : (w n v : ℕ) → suits w 6 n v ≡ true → v < 2 ^ w
suit-six w n v h = grind (arith, nat_tests)

suit-few : (w a n v : ℕ) → suits w a n v ≡ true → a < 16
suit-few w a n v h = grind (arith, nat_tests)

pub packed-reduced : (c : Channel) (w : ℕ) → w ≡ width c.kind → ruled c ≡ true → c.algorithm ≡ 1 →
    bits (length (description_bits false c)) (bit_or (bit_or (front c.delta c.turn c.algorithm c.kind) ((c.value * 16384) % 18446744073709551616)) (((c.narrow - 1) * 2 ^ (14 + w)) % 18446744073709551616)) ≡ description_bits false c
packed-reduced c w i h a =
    let f = few c h in
    let m = narrow-width c.kind in
    let (n, v) = suit-one w c.narrow c.value (ap (λ z. suits w z c.narrow c.value) (sym a) ∙ ap (λ z. suits z c.algorithm c.narrow c.value) i ∙ f.suit) in
    let p = front-packed c.delta c.turn c.algorithm c.kind f.turn (omega arith) f.kind in
    let q = field-above 14 _ w c.value _ p v (omega arith) in
    let r = field-above (14 + w) _ 5 (c.narrow - 1) _ q (omega arith) (omega arith) in
    let e : added_bits (width c.kind) c.algorithm c.narrow c.value ≡ bits w c.value ++ bits 5 (c.narrow - 1) = ap (λ z. added_bits z c.algorithm c.narrow c.value) (sym i) ∙ ap (λ z. added_bits w z c.narrow c.value) a ∙ added-reduced w c.narrow c.value (omega (arith, f.wide)) in
    whole-number (14 + w + 5) _ _ (description_bits false c) r (append_assoc (front_bits c.delta c.turn c.algorithm c.kind) (bits w c.value) (bits 5 (c.narrow - 1)) ∙ fields-are c _ e)

pub packed-constant : (c : Channel) (w : ℕ) → w ≡ width c.kind → ruled c ≡ true → c.algorithm ≡ 6 →
    bits (length (description_bits false c)) (bit_or (front c.delta c.turn c.algorithm c.kind) ((c.value * 16384) % 18446744073709551616)) ≡ description_bits false c
packed-constant c w i h a =
    let f = few c h in
    let m = narrow-width c.kind in
    let v = suit-six w c.narrow c.value (ap (λ z. suits w z c.narrow c.value) (sym a) ∙ ap (λ z. suits z c.algorithm c.narrow c.value) i ∙ f.suit) in
    let p = front-packed c.delta c.turn c.algorithm c.kind f.turn (omega arith) f.kind in
    let q = field-above 14 _ w c.value _ p v (omega arith) in
    let e : added_bits (width c.kind) c.algorithm c.narrow c.value ≡ bits w c.value = ap (λ z. added_bits z c.algorithm c.narrow c.value) (sym i) ∙ ap (λ z. added_bits w z c.narrow c.value) a ∙ added-constant w c.narrow c.value (omega (arith, f.wide)) in
    whole-number (14 + w) _ _ (description_bits false c) q (fields-are c _ e)

pub packed-plain : (c : Channel) → ruled c ≡ true → (c.algorithm ≡ 1 → ⊥) → (c.algorithm ≡ 6 → ⊥) →
    bits (length (description_bits false c)) (front c.delta c.turn c.algorithm c.kind) ≡ description_bits false c
packed-plain c h x y =
    let f = few c h in
    let l = suit-few (width c.kind) c.algorithm c.narrow c.value f.suit in
    let p = front-packed c.delta c.turn c.algorithm c.kind f.turn l f.kind in
    let F = front_bits c.delta c.turn c.algorithm c.kind in
    whole-number 14 _ F (description_bits false c) p (sym (append-nil F) ∙ fields-are c [] (added_none (width c.kind) c.algorithm c.narrow c.value x y))
