-- The words of one row, in turn.
use Rattle.std.proofs.Common.{◌≡◌, ℕ, zero, suc, ◌+◌, ◌*◌, ◌/◌, ◌%◌, ◌<◌, ◌≤◌, cond, eqb, List, length, get_or, Some, None, sym, refl, ap, ◌∙◌, ⊎_elim, add-zero, mod-lt, mul-le-mul_left, mul-zero, zero-add, mul-one, mul-suc, arith}
use native.Mathlib.Nat.{div-add-mod}
use Rattle.std.proofs.lemmas.Bool.{cases_lt, ne_eqb, le-leb, lt-leb}
use Rattle.layout.specs.Recording.{Channel}
use Rattle.layout.specs.Channels.{width}
use Rattle.layout.specs.Turns.{no_channel, Spot, following, advance, raw_bytes}
use Rattle.frames.specs.Frames.{row_bytes}
use Rattle.frames.proofs.Counts.{SomeBytes, count, more, after, count_none, count_cut, count-words}

abbrev pub row : List Channel → ℕ → Channel
row cs i = get_or cs i no_channel

-- a row that has given so many
abbrev pub at : ℕ → ℕ → Spot
at i g = record { channel = i; given = g }

-- within its repeats a row stays
stays : (cs : List Channel) (i g : ℕ) → suc g < (row cs i).repeats → advance cs (at i g) ≡ at i (suc g)
stays cs i g h = ap (λ t. cond t (at (following (length cs) i) 0) (at i (suc g))) (lt-leb (row cs i).repeats (suc g) h)

-- then it gives way
gives-way : (cs : List Channel) (i g : ℕ) → (row cs i).repeats ≤ suc g → advance cs (at i g) ≡ at (following (length cs) i) 0
gives-way cs i g h = ap (λ t. cond t (at (following (length cs) i) 0) (at i (suc g))) (le-leb (row cs i).repeats (suc g) h)

after-some : (cs : List Channel) (i j g : ℕ) → j + g < (row cs i).repeats → after cs (at i g) j ≡ at i (j + g)
unfolding after
after-some cs i zero g h = ap (at i) (sym (zero-add g))
after-some cs i (suc j) g h = ap (λ s. after cs s j) (stays cs i g (omega arith)) ∙ after-some cs i j (suc g) (omega arith) ∙ ap (at i) (omega arith)

after-all : (cs : List Channel) (i j g : ℕ) → suc j + g ≡ (row cs i).repeats → after cs (at i g) (suc j) ≡ at (following (length cs) i) 0
unfolding after
after-all cs i zero g h = gives-way cs i g (omega arith)
after-all cs i (suc j) g h = ap (λ s. after cs s (suc j)) (stays cs i g (omega arith)) ∙ after-all cs i j (suc g) (omega arith)

bytes-some : (cs : List Channel) (i j g : ℕ) → j + g ≤ (row cs i).repeats → raw_bytes cs (at i g) j ≡ width (row cs i).kind / 8 * j
unfolding raw_bytes
bytes-some cs i zero g h = sym (mul-zero (width (row cs i).kind / 8))
bytes-some cs i (suc zero) g h = add-zero (width (row cs i).kind / 8) ∙ sym (mul-one (width (row cs i).kind / 8))
bytes-some cs i (suc (suc j)) g h =
    let b = width (row cs i).kind / 8 in
    ap (λ s. b + raw_bytes cs s (suc j)) (stays cs i g (omega arith)) ∙ ap (λ z. b + z) (bytes-some cs i (suc j) (suc g) (omega arith)) ∙ omega (arith, mul-suc b (suc j))

-- part of a row's words, and others
pub count-part : (cs : List Channel) → SomeBytes cs → (i j raw : ℕ) → i < length cs → j < (row cs i).repeats →
    count cs (at i 0) (width (row cs i).kind / 8 * j + raw) ≡ more j (count cs (at i j) raw)
count-part cs h i j raw l m =
    ap (λ z. count cs (at i 0) (z + raw)) (sym (bytes-some cs i j 0 (omega arith))) ∙ count-words cs h (at i 0) l j raw
    ∙ ap (λ s. more j (count cs s raw)) (after-some cs i j 0 (omega arith) ∙ ap (at i) (add-zero j))

-- a row's words, and others
pub count-row : (cs : List Channel) → SomeBytes cs → (i raw : ℕ) → i < length cs → 0 < (row cs i).repeats →
    count cs (at i 0) (row_bytes (row cs i) + raw) ≡ more (row cs i).repeats (count cs (at (following (length cs) i) 0) raw)
count-row cs h i raw l m =
    let n = (row cs i).repeats in
    ap (λ z. count cs (at i 0) (z + raw)) (sym (bytes-some cs i n 0 (omega arith))) ∙ count-words cs h (at i 0) l n raw
    ∙ ap (λ s. more n (count cs s raw)) (all n m refl)
  where
    all : (n : ℕ) → 0 < n → n ≡ (row cs i).repeats → after cs (at i 0) n ≡ at (following (length cs) i) 0
    all zero p e = absurd (omega arith)
    all (suc j) p e = after-all cs i j 0 (omega arith)

-- raw bytes that end within a row's words: whole words, or none
pub count-within : (cs : List Channel) → SomeBytes cs → (i raw : ℕ) → i < length cs → raw < row_bytes (row cs i) →
    count cs (at i 0) raw ≡ cond (eqb (raw % (width (row cs i).kind / 8)) 0) (Some (raw / (width (row cs i).kind / 8))) None
count-within cs h i raw l m =
    ap (count cs (at i 0)) (sym split) ∙ count-part cs h i (raw / b) (raw % b) l few ∙ rest (raw % b) (mod-lt raw (h (at i 0) l))
  where
    b : ℕ
    b = width (row cs i).kind / 8

    split : b * (raw / b) + raw % b ≡ raw
    split = div-add-mod raw b

    few : raw / b < (row cs i).repeats
    few = ⊎_elim (λ a. a) (λ a. absurd (omega (arith, mul-le-mul_left b a, split))) (cases_lt (raw / b) (row cs i).repeats)

    rest : (r : ℕ) → r < b → more (raw / b) (count cs (at i (raw / b)) r) ≡ cond (eqb r 0) (Some (raw / b)) None
    rest zero k = ap (more (raw / b)) (count_none cs (at i (raw / b)) 0) ∙ ap Some (add-zero (raw / b))
    rest (suc r) k = ap (more (raw / b)) (count_cut cs (at i (raw / b)) (suc r) (suc r) (omega arith) k) ∙ sym (ap (λ t. cond t (Some (raw / b)) None) (ne_eqb (suc r) 0 (λ e. omega arith)))
