-- The bits of a channel's description.
use Rattle.std.proofs.Common.{◌≡◌, ℕ, zero, suc, ◌+◌, ◌-◌, ◌<◌, Bool, true, false, cond, ◌&&◌, eqb, ltb, List, [], ◌++◌, length, sym, refl, ap, ◌∙◌, append-nil, arith, length-append}
use Rattle.std.proofs.lemmas.Bool.{lt-ltb, ne_eqb}
use Rattle.bits.specs.Bits.{bits}
use Rattle.bits.proofs.Numbers.{length-bits}
use Rattle.format.specs.Cells.{filled}
use Rattle.format.proofs.Written.{field-bits, whole-bits, choose-bits, then-bits, judged-bits}
use Rattle.layout.specs.Recording.{Channel}
use Rattle.layout.specs.Channels.{width}
use Rattle.layout.specs.Slim.{bit, any, positive, added, channel}
use Rattle.channel.specs.Descriptions.{description_bits}

-- what the algorithm adds
unfoldable pub added_bits : ℕ → ℕ → ℕ → ℕ → List Bool
added_bits w a narrow value =
    cond (positive w && eqb a 1) (bits w value ++ bits 5 (narrow - 1))
    (cond (positive w && eqb a 6) (bits w value) [])

-- the fields behind the repeats
unfoldable pub fields_bits : Channel → List Bool
fields_bits c = bits 1 (bit c.delta) ++ (bits 5 c.turn ++ (bits 4 c.algorithm ++ (bits 4 c.kind ++ added_bits (width c.kind) c.algorithm c.narrow c.value)))

added-bits : (n d b : ℕ) (c : Channel) (p : ℕ) → filled ((added n d b c.algorithm c.kind).cells p c) ≡ added_bits (width c.kind) c.algorithm c.narrow c.value
unfolding added added_bits
added-bits n d b c p =
    let w = width c.kind in
    choose-bits _ _ _ p c _ _
    (then-bits _ _ p c (bits w c.value) (bits 5 (c.narrow - 1)) (field-bits w any 0 p c.value) (λ q.
    then-bits _ _ q c (bits 5 (c.narrow - 1)) [] (field-bits 5 any 0 q (c.narrow - 1)) (λ r. whole-bits _ r c) ∙ append-nil (bits 5 (c.narrow - 1))))
    (choose-bits _ _ _ p c _ _
    (then-bits _ _ p c (bits w c.value) [] (field-bits w any 0 p c.value) (λ q. whole-bits _ q c) ∙ append-nil (bits w c.value))
    (whole-bits _ p c))

pub description_is : (kept : Bool) (c : Channel) → description_bits kept c ≡ cond kept (bits 24 c.repeats) [] ++ fields_bits c
unfolding description_bits channel fields_bits
description_is kept c =
    judged-bits _ _ 6 0 c _
    (then-bits _ _ 0 c _ _ (choose-bits kept _ _ 0 c.repeats _ _ (field-bits 24 any 0 0 c.repeats) (whole-bits 1 0 c.repeats)) (λ p₁.
    then-bits _ _ p₁ c _ _ (field-bits 1 any 0 p₁ (bit c.delta)) (λ p₂.
    then-bits _ _ p₂ c _ _ (field-bits 5 any 0 p₂ c.turn) (λ p₃.
    then-bits _ _ p₃ c _ _ (field-bits 4 any 0 p₃ c.algorithm) (λ p₄.
    then-bits _ _ p₄ c _ _ (field-bits 4 any 0 p₄ c.kind) (λ p₅.
    added-bits _ _ _ c p₅))))))

pub repeats-first : (c : Channel) → description_bits true c ≡ bits 24 c.repeats ++ description_bits false c
repeats-first c = description_is true c ∙ ap (λ z. bits 24 c.repeats ++ z) (sym (description_is false c))

-- ## What an algorithm adds

pub added-reduced : (w n v : ℕ) → 0 < w → added_bits w 1 n v ≡ bits w v ++ bits 5 (n - 1)
unfolding added_bits
added-reduced w n v h = ap (λ t. cond (t && true) (bits w v ++ bits 5 (n - 1)) (cond (t && false) (bits w v) [])) (lt-ltb 0 w h)

pub added-constant : (w n v : ℕ) → 0 < w → added_bits w 6 n v ≡ bits w v
unfolding added_bits
added-constant w n v h = ap (λ t. cond (t && false) (bits w v ++ bits 5 (n - 1)) (cond (t && true) (bits w v) [])) (lt-ltb 0 w h)

pub added_none : (w a n v : ℕ) → (a ≡ 1 → ⊥) → (a ≡ 6 → ⊥) → added_bits w a n v ≡ []
unfolding added_bits
added_none w a n v x y =
    ap (λ t. cond (positive w && t) (bits w v ++ bits 5 (n - 1)) (cond (positive w && eqb a 6) (bits w v) [])) (ne_eqb a 1 x)
    ∙ ap (λ t. cond (positive w && false) (bits w v ++ bits 5 (n - 1)) (cond (positive w && t) (bits w v) [])) (ne_eqb a 6 y)
    ∙ by-test (positive w)
  where
    by-test : (t : Bool) → cond (t && false) (bits w v ++ bits 5 (n - 1)) (cond (t && false) (bits w v) []) ≡ []
    by-test true = refl
    by-test false = refl

-- ## Lengths

added-length : (w a n v : ℕ) → length (added_bits w a n v) ≡ cond (ltb 0 w && eqb a 1) (w + 5) (cond (eqb a 6) w 0)
unfolding added_bits
added-length zero a n v = by-test (eqb a 6)
  where
    by-test : (t : Bool) → ◌≡◌ {A = ℕ} 0 (cond t 0 0)
    by-test true = refl
    by-test false = refl
added-length (suc k) a n v =
    ap (λ t. length (cond (t && eqb a 1) (bits (suc k) v ++ bits 5 (n - 1)) (cond (t && eqb a 6) (bits (suc k) v) []))) wide
    ∙ by_tests (eqb a 1) (eqb a 6)
    ∙ ap (λ t. cond (t && eqb a 1) (suc k + 5) (cond (eqb a 6) (suc k) 0)) (sym wide)
  where
    wide : ltb 0 (suc k) ≡ true
    wide = lt-ltb 0 (suc k) (omega arith)

    by_tests : (x y : Bool) → length (cond (true && x) (bits (suc k) v ++ bits 5 (n - 1)) (cond (true && y) (bits (suc k) v) [])) ≡ cond (true && x) (suc k + 5) (cond y (suc k) 0)
    by_tests true y = length-append (bits (suc k) v) (bits 5 (n - 1)) ∙ omega (arith, length-bits (suc k) v, length-bits 5 (n - 1))
    by_tests false true = length-bits (suc k) v
    by_tests false false = refl

pub fields-length : (c : Channel) (w : ℕ) → w ≡ width c.kind → length (description_bits false c) ≡ 14 + cond (ltb 0 w && eqb c.algorithm 1) (w + 5) (cond (eqb c.algorithm 6) w 0)
unfolding fields_bits
fields-length c w i =
    let A = added_bits (width c.kind) c.algorithm c.narrow c.value in
    let l : length A ≡ cond (ltb 0 w && eqb c.algorithm 1) (w + 5) (cond (eqb c.algorithm 6) w 0) = ap (λ z. length (added_bits z c.algorithm c.narrow c.value)) (sym i) ∙ added-length w c.algorithm c.narrow c.value in
    ap length (description_is false c)
    ∙ simp (length-append, length-bits) (omega (arith, l))

pub fields-plain : (c : Channel) → (c.algorithm ≡ 1 → ⊥) → (c.algorithm ≡ 6 → ⊥) → length (description_bits false c) ≡ 14
fields-plain c x y =
    let l = fields-length c (width c.kind) refl in
    let a : eqb c.algorithm 1 ≡ false = ne_eqb c.algorithm 1 x in
    let b : eqb c.algorithm 6 ≡ false = ne_eqb c.algorithm 6 y in
    l ∙ ap (λ t. 14 + cond (ltb 0 (width c.kind) && t) (width c.kind + 5) (cond (eqb c.algorithm 6) (width c.kind) 0)) a ∙ ap (λ t. 14 + cond (ltb 0 (width c.kind) && false) (width c.kind + 5) (cond t (width c.kind) 0)) b ∙ by-test (ltb 0 (width c.kind))
  where
    by-test : (t : Bool) → 14 + cond (t && false) (width c.kind + 5) 0 ≡ 14
    by-test true = refl
    by-test false = refl

pub length-recorded : (c : Channel) → length (description_bits true c) ≡ 24 + length (description_bits false c)
length-recorded c = ap length (repeats-first c) ∙ simp (length-append, length-bits)
