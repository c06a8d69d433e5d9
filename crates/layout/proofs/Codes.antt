-- Each channel's coder keeps the rules.
use Rattle.std.proofs.Common.{◌≡◌, ℕ, ◌%◌, ◌^◌, ◌<◌, ◌≤◌, Bool, true, false, cond, ◌&&◌, ◌||◌, eqb, ltb, leb, sym, refl, subst, inl, inr, arith}
use Rattle.std.proofs.lemmas.Bool.{eqb-true, eqb-false, ltb-true, and_parts}
use Rattle.std.proofs.lemmas.Bool.Decides.{nat_tests}
use Rattle.format.specs.Lawful.{Lawful}
use Rattle.forms.specs.Code.{Code, Means}
use Rattle.forms.specs.Rules.{Rules}
use Rattle.forms.specs.Coders.{plain, null, constant, reduced, delta_if}
use Rattle.forms.proofs.Coders.{null-rules, constant-rules, reduced-rules, turn-sound, delta_if-sound, within}
use Rattle.layout.specs.Recording.{Channel}
use Rattle.layout.specs.Channels.{width, suits, ruled, algorithm}
use Rattle.layout.specs.Turns.{no_channel}
use Rattle.layout.specs.Slim.{recording}
use Rattle.layout.proofs.Parts.{SoundPile, Ruled, law-recording}

pub narrow-width : (t : ℕ) → width t ≤ 32
narrow-width t = by_tests (eqb t 1 || (eqb t 2 || eqb t 5)) (eqb t 3 || eqb t 4) (eqb t 7 || eqb t 8)
  where
    by_tests : (a b c : Bool) → cond a 32 (cond b 16 (cond c 8 0)) ≤ 32
    by_tests true b c = omega arith
    by_tests false true c = omega arith
    by_tests false false true = omega arith
    by_tests false false false = omega arith

-- what the rules say of a channel's algorithm
pub record Fine (c : Channel) : Type 0 where
  pub wide : 0 < width c.kind
  pub constant : c.algorithm ≡ 6 → c.value < 2 ^ width c.kind
  pub reduced : (c.algorithm ≡ 0 → ⊥) → (c.algorithm ≡ 6 → ⊥) → c.narrow ≤ width c.kind

suits-constant : (w a n v : ℕ) → suits w a n v ≡ true → a ≡ 6 → v < 2 ^ w
suits-constant w a n v h e = grind (arith, nat_tests)

suits-reduced : (w a n v : ℕ) → suits w a n v ≡ true → (a ≡ 0 → ⊥) → (a ≡ 6 → ⊥) → n ≤ w
suits-reduced w a n v h x y = grind (arith, nat_tests)

pub ruled-fine : (c : Channel) → ruled c ≡ true → Fine c
ruled-fine c h =
    let (_, h1) = and_parts (ltb 0 c.repeats) (leb c.repeats 16777215 && (ltb c.turn (width c.kind) && suits (width c.kind) c.algorithm c.narrow c.value)) h in
    let (_, h2) = and_parts (leb c.repeats 16777215) (ltb c.turn (width c.kind) && suits (width c.kind) c.algorithm c.narrow c.value) h1 in
    let (t, h3) = and_parts (ltb c.turn (width c.kind)) (suits (width c.kind) c.algorithm c.narrow c.value) h2 in
    let l = ltb-true c.turn (width c.kind) t in
    record {
      wide = omega arith;
      constant = suits-constant (width c.kind) c.algorithm c.narrow c.value h3;
      reduced = suits-reduced (width c.kind) c.algorithm c.narrow c.value h3;
    }

algorithm-rules : (c : Channel) → (c.algorithm ≡ 6 → c.value < 2 ^ width c.kind) → ((c.algorithm ≡ 0 → ⊥) → (c.algorithm ≡ 6 → ⊥) → c.narrow ≤ width c.kind) → Rules (width c.kind) (Means (algorithm c))
algorithm-rules c con red =
    by_tests (eqb c.algorithm 0) (eqb c.algorithm 6) (null (width c.kind)) (constant c.value) (reduced (width c.kind) c.narrow c.value)
    (λ e. null-rules _ (narrow-width c.kind))
    (λ e d. constant-rules _ _ (con (eqb-true _ 6 d)))
    (λ e d. reduced-rules _ _ _ (red (eqb-false _ 0 e) (eqb-false _ 6 d)) (narrow-width c.kind))
  where
    by_tests : (a b : Bool) {w : ℕ} (x y z : Code) → (a ≡ true → Rules w (Means x)) → (a ≡ false → b ≡ true → Rules w (Means y)) → (a ≡ false → b ≡ false → Rules w (Means z)) →
        Rules w (Means (cond a x (cond b y z)))
    by_tests true b x y z f g h = f refl
    by_tests false true x y z f g h = g refl refl
    by_tests false false x y z f g h = h refl refl

pub fine-sound : (c : Channel) → Fine c → SoundPile c
fine-sound c f =
    turn-sound (width c.kind) (c.turn % width c.kind) (delta_if (width c.kind) c.delta (plain (algorithm c))) (within c.turn (width c.kind) f.wide)
    (delta_if-sound (width c.kind) c.delta (plain (algorithm c)) (λ m. algorithm-rules c f.constant f.reduced))

none-sound : SoundPile no_channel
none-sound = turn-sound 0 0 (delta_if 0 false (plain (null 0))) (omega arith) (delta_if-sound 0 false (plain (null 0)) (λ m. null-rules 0 (omega arith)))

-- one that is there keeps the rules, and so does none
pub sound_pile : (c : Channel) → Ruled c → SoundPile c
sound_pile c (inl e) = subst SoundPile (sym e) none-sound
sound_pile c (inr h) = fine-sound c (ruled-fine c h)

pub law_slim : Lawful recording
law_slim = law-recording sound_pile
