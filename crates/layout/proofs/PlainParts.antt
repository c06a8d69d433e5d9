-- Which names, extra bytes, leftovers and channels are valid, in plain words.
use Rattle.std.proofs.Common.{◌≡◌, ℕ, zero, suc, ◌-◌, ◌^◌, ◌<◌, ◌≤◌, Bool, true, false, ◌&&◌, eqb, ltb, leb, List, [], ◌∷◌, length, Some, None, Option, refl, arith}
use Rattle.std.proofs.lemmas.Bool.{true≢false, false≢true, eqb-true, eqb-false, eq-eqb, ltb-true, lt-ltb, leb-true, and_parts, and_from, both_ways}
use Rattle.std.proofs.lemmas.List.{nil_from_length}
use Rattle.std.proofs.lemmas.Bool.Decides.{nat_tests}
use Rattle.bits.specs.Bits.{Bytes}
use Rattle.format.specs.Format.{Format, choose}
use Rattle.format.proofs.Laws.{then-part, then-rest, whole_is, chosen, field-valid, one-valid, judged-valid, times-length, part_then, choosing, valid-field, is_whole, valid-one}
use Rattle.layout.specs.Recording.{Channel}
use Rattle.layout.specs.Channels.{width, suits, ruled}
use Rattle.layout.specs.Slim.{positive, byte, name_bytes, block, extra_bytes, is_given, flagged, bit, added, channel, Closing, another, ended, leftovers_of, leftover, closing}
use Rattle.layout.specs.Plain.{Every, IfGiven, ExtraFits}
use Rattle.layout.proofs.Building.{valid-judged, times-every, every-times}
use Rattle.layout.proofs.Codes.{narrow-width}

-- ## Bytes

-- a byte is valid exactly where it is below 256
byte-below : (p b : ℕ) → byte.Valid p b → b < 256
unfolding byte
byte-below p b v = (field-valid _ _ _ p b v).0

below-byte : (p b : ℕ) → b < 256 → byte.Valid p b
unfolding byte
below-byte p b h = valid-field _ _ _ p b h refl

-- bytes, said in two ways
every-bytes : (bs : List ℕ) → Every (λ b. b < 256) bs → Bytes bs
unfolding Every Bytes
every-bytes [] h = tt
every-bytes (b ∷ bs) (l, h) = (l, every-bytes bs h)

bytes-every : (bs : List ℕ) → Bytes bs → Every (λ b. b < 256) bs
unfolding Every Bytes
bytes-every [] h = tt
bytes-every (b ∷ bs) (l, h) = (l, bytes-every bs h)

-- a block of n bytes is valid exactly where it has n numbers and each is a byte
pub block-fits : (n p : ℕ) (bs : List ℕ) → (block n).Valid p bs → (length bs ≡ n) × Bytes bs
unfolding block
block-fits n p bs v =
    let u = one-valid _ p bs v in
    (times-length _ _ p bs u, every-bytes bs (times-every (λ b. b < 256) n byte byte-below p bs u))

pub fits-block : (n p : ℕ) (bs : List ℕ) → length bs ≡ n → Bytes bs → (block n).Valid p bs
unfolding block
fits-block n p bs e h = valid-one _ p bs (every-times (λ b. b < 256) n byte below-byte p bs e (bytes-every bs h))

-- ## Names

-- what may stand in a name
abbrev Letter : ℕ → Type 0
Letter b = (0 < b) × (b < 256)

-- a list with a first element is not empty
cons-nil : (b : ℕ) (bs : List ℕ) → b ∷ bs ≡ [] → ⊥
cons-nil b bs e = let z : ◌≡◌ {A = ℕ} 0 1 = cc in omega arith

-- a name is valid exactly where it is no longer than k and each of its bytes is a letter
pub name-fits : (k p : ℕ) (bs : List ℕ) → (name_bytes k).Valid p bs → (length bs ≤ k) × Every Letter bs
unfolding name_bytes Every
name-fits zero p [] v = (omega arith, tt)
name-fits zero p (b ∷ bs) v = absurd (cons-nil b bs (whole_is _ _ (b ∷ bs) (then-rest _ _ p (b ∷ bs) v)))
name-fits (suc k) p [] v = (omega arith, tt)
name-fits (suc k) p (b ∷ bs) v = chosen _ _ _ _ (b ∷ bs) _ (then-rest _ _ p (b ∷ bs) v)
    (λ e u. absurd (cons-nil b bs (whole_is _ _ (b ∷ bs) u)))
    (λ e u.
    let (l, h) = name-fits k _ bs (then-part _ _ _ (b ∷ bs) u) in
    let n = eqb-false b 0 e in
    (omega arith, ((above b n, byte-below _ b (then-part _ _ p (b ∷ bs) v)), h)))
  where
    above : (b : ℕ) → (b ≡ 0 → ⊥) → 0 < b
    above b n = omega arith

pub fits-name : (k p : ℕ) (bs : List ℕ) → length bs ≤ k → Every Letter bs → (name_bytes k).Valid p bs
unfolding name_bytes Every
fits-name zero p [] l h = part_then _ _ p [] (valid-field _ _ _ p 0 (omega arith) refl) (is_whole _ _ [] refl)
fits-name zero p (b ∷ bs) l h = absurd (omega arith)
fits-name (suc k) p [] l h = part_then _ _ p [] (below-byte p 0 (omega arith)) (choosing _ _ _ _ [] (λ e. is_whole _ _ [] refl) (λ e. absurd (true≢false e)))
fits-name (suc k) p (b ∷ bs) l ((z, s), h) =
    part_then _ _ p (b ∷ bs) (below-byte p b s) (choosing _ _ _ _ (b ∷ bs)
    (λ e. absurd (none (eqb-true b 0 e)))
    (λ e. part_then _ _ _ (b ∷ bs) (fits-name k _ bs (omega arith) h) (is_whole _ _ (b ∷ bs) refl)))
  where
    none : b ≡ 0 → ⊥
    none e = omega arith

-- ## Extra bytes

-- no bytes are bytes
no_bytes : Bytes []
unfolding Bytes
no_bytes = tt

-- nor does an empty list have others
nil-bytes : (bs : List ℕ) → bs ≡ [] → Bytes bs
nil-bytes bs e = rw e no_bytes

-- extra bytes are valid exactly where their number fits 16 bits and each is a byte
pub extra-fits : (p : ℕ) (bs : List ℕ) → extra_bytes.Valid p bs → ExtraFits bs
unfolding extra_bytes
extra-fits p bs v = record {
  short = (let l : length bs < 65536 = (field-valid _ _ _ _ _ (then-part _ _ p bs v)).0 in omega arith);
  bytes = chosen _ _ _ _ bs _ (then-rest _ _ p bs v)
      (λ e u. nil-bytes bs (whole_is _ _ bs u))
      (λ e u. (block-fits _ _ bs u).1);
}

pub fits-extra : (p : ℕ) (bs : List ℕ) → ExtraFits bs → extra_bytes.Valid p bs
unfolding extra_bytes
fits-extra p bs f =
    let l = f.short in
    part_then _ _ p bs (valid-field _ _ _ p (length bs) (omega arith) refl) (choosing _ _ _ _ bs
    (λ e. is_whole _ _ bs (nil_from_length bs (eqb-true (length bs) 0 e)))
    (λ e. fits-block (length bs) _ bs refl f.bytes))

-- ## Parts that may be given

-- a part under a flag is valid exactly where the flag says whether it is given, and it is valid if it is
pub flagged-fits : (P : List ℕ → Type 0) (b : Bool) (F : Format (List ℕ)) → ((p : ℕ) (bs : List ℕ) → F.Valid p bs → P bs) →
    (p : ℕ) (o : Option (List ℕ)) → (flagged b F).Valid p o → IfGiven o P
unfolding flagged
flagged-fits P true F h p None v = tt
flagged-fits P true F h p (Some bs) v = h p bs (then-part _ _ p (Some bs) v)
flagged-fits P false F h p None v = tt
flagged-fits P false F h p (Some bs) v = absurd (some-none (whole_is _ p (Some bs) v))
  where
    some-none : Some bs ≡ None → ⊥
    some-none e = let z : ◌≡◌ {A = ℕ} 0 1 = cc in omega arith

pub fits-flagged : (P : List ℕ → Type 0) (b : Bool) (F : Format (List ℕ)) → ((p : ℕ) (bs : List ℕ) → P bs → F.Valid p bs) →
    (p : ℕ) (o : Option (List ℕ)) → is_given o ≡ b → IfGiven o P → (flagged b F).Valid p o
unfolding flagged
fits-flagged P true F h p None e f = absurd (false≢true e)
fits-flagged P true F h p (Some bs) e f = part_then _ _ p (Some bs) (h p bs f) (is_whole _ _ (Some bs) refl)
fits-flagged P false F h p None e f = is_whole _ p None refl
fits-flagged P false F h p (Some bs) e f = absurd (true≢false e)

-- ## Channels

-- a channel that has a description keeps the rules
pub channel-ruled : (r : Bool) (p : ℕ) (c : Channel) → (channel r).Valid p c → ruled c ≡ true
unfolding channel
channel-ruled r p c v = (judged-valid _ _ _ p c v).1

-- and its repeats are 1 where they are not recorded
pub channel-once : (p : ℕ) (c : Channel) → (channel false).Valid p c → c.repeats ≡ 1
unfolding channel choose
channel-once p c v = whole_is _ p c.repeats (then-part _ _ p c (judged-valid _ _ _ p c v).0)

-- what the rules say of the numbers of a channel
record Bounds (c : Channel) : Type 0 where
  repeats : c.repeats < 2 ^ 24
  turn : c.turn < 2 ^ 5
  algorithm : c.algorithm < 2 ^ 4
  kind : c.kind < 2 ^ 4
  wide : positive (width c.kind) ≡ true
  suited : suits (width c.kind) c.algorithm c.narrow c.value ≡ true

-- a type that has a width fits 4 bits
covered : (t : ℕ) → 0 < width t → t < 2 ^ 4
covered t h = grind (arith, nat_tests)

-- and so does an algorithm that the settings suit
suits-few : (w a n v : ℕ) → suits w a n v ≡ true → a < 2 ^ 4
suits-few w a n v h = grind (arith, nat_tests)

-- they do say so
ruled-bounds : (c : Channel) → ruled c ≡ true → Bounds c
ruled-bounds c h =
    let w = width c.kind in
    let s = suits w c.algorithm c.narrow c.value in
    let (_, h1) = and_parts (ltb 0 c.repeats) (leb c.repeats 16777215 && (ltb c.turn w && s)) h in
    let (r, h2) = and_parts (leb c.repeats 16777215) (ltb c.turn w && s) h1 in
    let (t, h3) = and_parts (ltb c.turn w) s h2 in
    let a = leb-true c.repeats 16777215 r in
    let b = ltb-true c.turn (width c.kind) t in
    let d = narrow-width c.kind in
    record {
      repeats = omega arith;
      turn = omega arith;
      algorithm = suits-few w c.algorithm c.narrow c.value h3;
      kind = covered c.kind (omega arith);
      wide = lt-ltb 0 (width c.kind) (omega arith);
      suited = h3;
    }

-- reduced binary has its pedestal and its R in the word's width
suits-one : (w n v : ℕ) → suits w 1 n v ≡ true → (0 < n) × (n ≤ w) × (v < 2 ^ w)
suits-one w n v h =
    let (a, h1) = and_parts (ltb 0 n) (leb n w && ltb v (2 ^ w)) h in
    let (b, d) = and_parts (leb n w) (ltb v (2 ^ w)) h1 in
    (ltb-true 0 n a, leb-true n w b, ltb-true v (2 ^ w) d)

-- a constant has its word in that width, and no R
suits-six : (w n v : ℕ) → suits w 6 n v ≡ true → (n ≡ 0) × (v < 2 ^ w)
suits-six w n v h =
    let (a, b) = and_parts (eqb n 0) (ltb v (2 ^ w)) h in
    (eqb-true n 0 a, ltb-true v (2 ^ w) b)

-- null has neither
suits-none : (w a n v : ℕ) → suits w a n v ≡ true → (a ≡ 1 → ⊥) → (a ≡ 6 → ⊥) → (n ≡ 0) × (v ≡ 0)
suits-none w a n v h x y = (grind (arith, nat_tests), grind (arith, nat_tests))

-- a flag is its bit
bit-flag : (b : Bool) → b ≡ eqb (bit b) 1
bit-flag true = refl
bit-flag false = refl

-- which fits one bit
bit-small : (b : Bool) → bit b < 2 ^ 1
bit-small true = omega arith
bit-small false = omega arith

-- a channel is its numbers
same-channel : (c : Channel) (n v : ℕ) → c.narrow ≡ n → c.value ≡ v →
    c ≡ record { repeats = c.repeats; delta = eqb (bit c.delta) 1; turn = c.turn; algorithm = c.algorithm; kind = c.kind; narrow = n; value = v }
same-channel c n v d e = λ i. record { repeats = c.repeats; delta = bit-flag c.delta i; turn = c.turn; algorithm = c.algorithm; kind = c.kind; narrow = d i; value = e i }

-- what the description adds is valid
fits-added : (p : ℕ) (c : Channel) → Bounds c → (added c.repeats (bit c.delta) c.turn c.algorithm c.kind).Valid p c
unfolding added
fits-added p c f = choosing _ _ _ p c
    (λ e.
    let a = eqb-true c.algorithm 1 (and_parts (positive (width c.kind)) (eqb c.algorithm 1) e).1 in
    let (l, m, n) = suits-one (width c.kind) c.narrow c.value (rw a at f.suited) in
    part_then _ _ p c (valid-field _ _ _ _ c.value n refl)
    (part_then _ _ _ c (valid-field _ _ _ _ (c.narrow - 1) (omega (arith, narrow-width c.kind)) refl)
    (is_whole _ _ c (same-channel c _ _ (omega arith) refl))))
    (λ e. choosing _ _ _ p c
    (λ d.
    let a = eqb-true c.algorithm 6 (and_parts (positive (width c.kind)) (eqb c.algorithm 6) d).1 in
    let (n, v) = suits-six (width c.kind) c.narrow c.value (rw a at f.suited) in
    part_then _ _ p c (valid-field _ _ _ _ c.value v refl) (is_whole _ _ c (same-channel c _ _ n refl)))
    (λ d.
    let (n, v) = suits-none (width c.kind) c.algorithm c.narrow c.value f.suited (not-both (width c.kind) c.algorithm 1 f.wide e) (not-both (width c.kind) c.algorithm 6 f.wide d) in
    is_whole _ _ c (same-channel c _ _ n v)))
  where
    not-both : (w a n : ℕ) → positive w ≡ true → (positive w && eqb a n) ≡ false → a ≡ n → ⊥
    not-both w a n x y e = both_ways _ y (and_from (positive w) (eqb a n) x (eq-eqb a n e))

-- a channel that keeps the rules has a description, which has its repeats unless they are 1
pub ruled-channel : (r : Bool) (p : ℕ) (c : Channel) → ruled c ≡ true → (r ≡ false → c.repeats ≡ 1) → (channel r).Valid p c
unfolding channel
ruled-channel r p c h k =
    let f = ruled-bounds c h in
    valid-judged _ _ _ p c
    (part_then _ _ _ c (choosing _ _ _ _ c.repeats (λ e. valid-field _ _ _ _ c.repeats f.repeats refl) (λ e. is_whole _ _ c.repeats (k e)))
    (part_then _ _ _ c (valid-field _ _ _ _ (bit c.delta) (bit-small c.delta) refl)
    (part_then _ _ _ c (valid-field _ _ _ _ c.turn f.turn refl)
    (part_then _ _ _ c (valid-field _ _ _ _ c.algorithm f.algorithm refl)
    (part_then _ _ _ c (valid-field _ _ _ _ c.kind f.kind refl)
    (fits-added _ c f)))))) h

-- ## What closes a section

-- what closes a section: another, or leftovers that are few, and bytes
abbrev pub ClosingFits : Closing → Type 0
ClosingFits another = Unit {0}
ClosingFits (ended ls) = (length ls ≤ 7) × Bytes ls

-- leftovers that are valid are few, and bytes
leftover-fits : (p : ℕ) (c : Closing) → leftover.Valid p c → (length (leftovers_of c) ≤ 7) × Bytes (leftovers_of c)
unfolding leftover
leftover-fits p c v =
    let l : length (leftovers_of c) < 8 = (field-valid _ _ _ _ _ (then-part _ _ p c v)).0 in
    (omega arith, (block-fits _ _ _ (then-part _ _ _ c (then-rest _ _ p c v))).1)

-- what closes a section is told by its leftovers
few-fits : (c : Closing) → (length (leftovers_of c) ≤ 7) × Bytes (leftovers_of c) → ClosingFits c
few-fits another h = tt
few-fits (ended ls) h = h

-- what closes a section is valid exactly where it is one of these
pub closing-fits : (p : ℕ) (c : Closing) → closing.Valid p c → ClosingFits c
unfolding closing
closing-fits p c v = chosen _ _ _ _ c _ (then-rest _ _ p c v)
    (λ e u. rw (whole_is _ _ c u) tt)
    (λ e u. chosen _ _ _ _ c _ u
    (λ d w. rw (whole_is _ _ c w) (omega arith, no_bytes))
    (λ d w. few-fits c (leftover-fits _ c w)))

-- and some that are few, and bytes, are valid
fits-leftover : (p b : ℕ) (ls : List ℕ) → length (b ∷ ls) ≤ 7 → Bytes (b ∷ ls) → leftover.Valid p (ended (b ∷ ls))
unfolding leftover
fits-leftover p b ls l h =
    part_then _ _ p (ended (b ∷ ls)) (valid-field _ _ _ p (length (b ∷ ls)) (omega arith) (lt-ltb 0 (length (b ∷ ls)) (omega arith)))
    (part_then _ _ _ (ended (b ∷ ls)) (fits-block _ _ (b ∷ ls) refl h) (is_whole _ _ (ended (b ∷ ls)) refl))

pub fits-closing : (p : ℕ) (c : Closing) → ClosingFits c → closing.Valid p c
unfolding closing
fits-closing p another h =
    part_then _ _ p another (valid-field _ _ _ p 8 (omega arith) refl)
    (choosing _ _ _ _ another (λ e. is_whole _ _ another refl) (λ e. absurd (true≢false e)))
fits-closing p (ended []) h =
    part_then _ _ p (ended []) (valid-field _ _ _ p 15 (omega arith) refl)
    (choosing _ _ _ _ (ended []) (λ e. absurd (false≢true e))
    (λ e. choosing _ _ _ _ (ended []) (λ d. is_whole _ _ (ended []) refl) (λ d. absurd (true≢false d))))
fits-closing p (ended (b ∷ ls)) (l, h) =
    part_then _ _ p (ended (b ∷ ls)) (valid-field _ _ _ p 14 (omega arith) refl)
    (choosing _ _ _ _ (ended (b ∷ ls)) (λ e. absurd (false≢true e))
    (λ e. choosing _ _ _ _ (ended (b ∷ ls)) (λ d. absurd (false≢true d)) (λ d. fits-leftover _ b ls l h)))
