-- The raw words of a table of one row.
use Rattle.std.proofs.Common.{◌≡◌, ℕ, zero, suc, ◌+◌, ◌-◌, ◌*◌, ◌/◌, ◌%◌, ◌<◌, ◌≤◌, Bool, true, false, cond, not, ◌&&◌, ◌||◌, eqb, ltb, leb, List, [], ◌∷◌, length, take, drop, sym, refl, ap, ◌∙◌, mul-zero, mul-suc, arith, length-drop}
use native.Mathlib.Nat.{div-eq_of_lt, div-eq-sub-div, div-add-mod}
use Rattle.std.proofs.lemmas.Bool.{and_parts, eq-eqb, ne_eqb, ltb-true, ltb-false, eqb-true, eqb-false}
use Rattle.bits.specs.Bits.{number, bits_of, field_at}
use Rattle.bits.specs.Raw.{raw_words}
use Rattle.bits.proofs.Raw.{length-raw_words, words_more, words-none}
use Rattle.bits.proofs.Files.{take-bits_of}
use Rattle.layout.specs.Recording as recordings
use Rattle.layout.specs.Channels.{width, suits, ruled}
use Rattle.layout.specs.Turns.{Spot, first, advance, raw_bytes}
use Rattle.channel.specs.declared.record.Channel.{Channel}
use Rattle.channel.specs.Records.{settings_of}
use Rattle.calls.specs.Calls as calls
use Rattle.calls.specs.Calls.{settings, row_bytes, words_of, cut_short}

-- the row's place, whatever it has given
abbrev alone : ℕ → Spot
alone given = record { channel = 0; given = given }

-- how many words in a row it has given behind one more
abbrev next : recordings.Channel → ℕ → ℕ
next c given = cond (leb c.repeats (suc given)) 0 (suc given)

advanced : (c : recordings.Channel) (given : ℕ) → advance (c ∷ []) (alone given) ≡ alone (next c given)
advanced c given = go (leb c.repeats (suc given))
  where
    go : (t : Bool) → cond t (alone 0) (alone (suc given)) ≡ alone (cond t 0 (suc given))
    go true = refl
    go false = refl

-- so many bytes for each word
sized : (c : recordings.Channel) (n given : ℕ) → raw_bytes (c ∷ []) (alone given) n ≡ width c.kind / 8 * n
unfolding raw_bytes
sized c zero given = sym (mul-zero (width c.kind / 8))
sized c (suc n) given =
    ap (λ s. width c.kind / 8 + raw_bytes (c ∷ []) s n) (advanced c given) ∙ ap (λ z. width c.kind / 8 + z) (sized c n (next c given)) ∙ omega (arith, mul-suc (width c.kind / 8) n)

-- one word of raw bytes, and none
word_first : (k : ℕ) (raw : List ℕ) → k ≤ length raw → number (bits_of (take k raw)) ≡ field_at raw 0 (8 * k)
unfolding field_at
word_first k raw h = ap number (sym (take-bits_of k raw h))

-- the words of a row alone, looking far enough
words-from : (c : recordings.Channel) (far given : ℕ) (raw : List ℕ) → 1 ≤ width c.kind / 8 → length raw ≤ far →
    calls.raw_words (c ∷ []) (alone given) far raw ≡ raw_words (width c.kind / 8) (length raw / (width c.kind / 8)) raw
unfolding calls.raw_words
words-from c zero given raw s h = sym (words-none (width c.kind / 8) raw (omega arith))
words-from c (suc far) given raw s h = go (ltb (length raw) (width c.kind / 8)) refl (λ g. words-from c far g (drop (width c.kind / 8) raw) s)
  where
    k : ℕ
    k = width c.kind / 8

    go : (t : Bool) → ltb (length raw) k ≡ t → ((g : ℕ) → length (drop k raw) ≤ far → calls.raw_words (c ∷ []) (alone g) far (drop k raw) ≡ raw_words k (length (drop k raw) / k) (drop k raw)) →
        cond (eqb (length raw) 0 || t) [] (number (bits_of (take k raw)) ∷ calls.raw_words (c ∷ []) (advance (c ∷ []) (alone given)) far (drop k raw)) ≡ raw_words k (length raw / k) raw
    go true d i = none (eqb (length raw) 0) ∙ sym (words-none k raw (ltb-true (length raw) k d))
      where
        none : (t : Bool) → cond (t || true) [] (number (bits_of (take k raw)) ∷ calls.raw_words (c ∷ []) (advance (c ∷ []) (alone given)) far (drop k raw)) ≡ []
        none true = refl
        none false = refl
    go false d i =
        let l : k ≤ length raw = ltb-false (length raw) k d in
        let n : eqb (length raw) 0 ≡ false = ne_eqb (length raw) 0 (λ e. omega arith) in
        let f : length (drop k raw) ≤ far = simp length-drop (omega arith) in
        ap (λ t. cond (t || false) [] (number (bits_of (take k raw)) ∷ calls.raw_words (c ∷ []) (advance (c ∷ []) (alone given)) far (drop k raw))) n
        ∙ ap (λ z. z ∷ calls.raw_words (c ∷ []) (advance (c ∷ []) (alone given)) far (drop k raw)) (word_first k raw l)
        ∙ ap (λ a. field_at raw 0 (8 * k) ∷ calls.raw_words (c ∷ []) a far (drop k raw)) (advanced c given)
        ∙ ap (λ z. field_at raw 0 (8 * k) ∷ z) (i (next c given) f) ∙ sym (words_more k raw s l)

-- ## What the writer uses

-- a ruled row has words of at least a byte
pub bytes-some : (c : Channel) → ruled (settings_of c) ≡ true → 1 ≤ row_bytes c
bytes-some c h =
    let t : ℕ = c.settings.kind in
    let k : ℕ = c.settings.repeats in
    let w : ℕ = width c.settings.kind in
    let (_, p) = and_parts (ltb 0 k) (leb k 16777215 && (ltb c.settings.turn w && suits w c.settings.algorithm c.settings.narrow c.settings.value)) h in
    let (_, q) = and_parts (leb k 16777215) (ltb c.settings.turn w && suits w c.settings.algorithm c.settings.narrow c.settings.value) p in
    let (r, _) = and_parts (ltb c.settings.turn w) (suits w c.settings.algorithm c.settings.narrow c.settings.value) q in
    by_tests (eqb t 1 || (eqb t 2 || eqb t 5)) (eqb t 3 || eqb t 4) (eqb t 7 || eqb t 8) (ltb-true c.settings.turn w r)
  where
    by_tests : (x y z : Bool) → c.settings.turn < cond x 32 (cond y 16 (cond z 8 0)) → 1 ≤ cond x 32 (cond y 16 (cond z 8 0)) / 8
    by_tests true y z h = omega arith
    by_tests false true z h = omega arith
    by_tests false false true h = omega arith
    by_tests false false false h = absurd (omega arith)

-- the words of raw bytes are those of the row's size
pub words_row : (c : Channel) (raw : List ℕ) → ruled (settings_of c) ≡ true → words_of (settings (c ∷ [])) raw ≡ raw_words (row_bytes c) (length raw / row_bytes c) raw
words_row c raw h = words-from (settings_of c) (length raw) 0 raw (bytes-some c h) (omega arith)

pub words_count : (c : Channel) (raw : List ℕ) → ruled (settings_of c) ≡ true → length (words_of (settings (c ∷ [])) raw) ≡ length raw / row_bytes c
words_count c raw h = ap length (words_row c raw h) ∙ length-raw_words (row_bytes c) (length raw / row_bytes c) raw

-- the raw bytes end inside a word
pub cut-row : (c : Channel) (raw : List ℕ) → ruled (settings_of c) ≡ true → cut_short (settings (c ∷ [])) raw ≡ not (eqb (length raw % row_bytes c) 0)
cut-row c raw h =
    ap (λ z. not (eqb (raw_bytes (settings (c ∷ [])) first z) (length raw))) (words_count c raw h) ∙ ap (λ z. not (eqb z (length raw))) (sized (settings_of c) (length raw / row_bytes c) 0) ∙ ap not (go (eqb (length raw % row_bytes c) 0) refl)
  where
    split : row_bytes c * (length raw / row_bytes c) + length raw % row_bytes c ≡ length raw
    split = div-add-mod (length raw) (row_bytes c)

    go : (t : Bool) → eqb (length raw % row_bytes c) 0 ≡ t → eqb (row_bytes c * (length raw / row_bytes c)) (length raw) ≡ t
    go true d = eq-eqb (row_bytes c * (length raw / row_bytes c)) (length raw) (omega (arith, split, eqb-true (length raw % row_bytes c) 0 d))
    go false d = ne_eqb (row_bytes c * (length raw / row_bytes c)) (length raw) (λ e. eqb-false (length raw % row_bytes c) 0 d (omega (arith, split)))
