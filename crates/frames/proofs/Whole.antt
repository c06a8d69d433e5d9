-- The words of whole frames.
use Rattle.std.proofs.Common.{◌≡◌, ℕ, zero, suc, ◌+◌, ◌-◌, ◌*◌, ◌/◌, ◌%◌, ◌<◌, ◌≤◌, cond, List, ◌∷◌, length, drop, sym, ap, ◌∙◌, mul-zero, zero-add, mul-suc, arith}
use native.Mathlib.Nat.{div-add-mod}
use Rattle.std.proofs.lemmas.List.{drop_more, drop_all}
use Rattle.std.proofs.lemmas.Bool.{lt-ltb, le-ltb}
use Rattle.layout.specs.Recording.{Channel}
use Rattle.layout.specs.Turns.{no_channel, first, following, count_words}
use Rattle.frames.specs.Frames.{row_bytes, frame_words, frame_bytes}
use Rattle.frames.proofs.Counts.{SomeBytes, count, more, far-enough, more-zero, more-sum}
use Rattle.frames.proofs.Rows.{row, at, count-row}

-- each row gives words
abbrev pub SomeWords : List Channel → Type 0
SomeWords cs = (i : ℕ) → i < length cs → 0 < (row cs i).repeats

-- the rows from one on are that row and the others
next-rows : (cs : List Channel) (i : ℕ) → i < length cs → drop i cs ≡ row cs i ∷ drop (suc i) cs
next-rows cs i l = let e : i + 1 ≡ suc i = omega arith in drop_more cs i no_channel l ∙ ap (λ n. row cs i ∷ drop n cs) e

pub words-next : (cs : List Channel) (i : ℕ) → i < length cs → frame_words (drop i cs) ≡ (row cs i).repeats + frame_words (drop (suc i) cs)
unfolding frame_words
words-next cs i l = ap frame_words (next-rows cs i l)

pub bytes_next : (cs : List Channel) (i : ℕ) → i < length cs → frame_bytes (drop i cs) ≡ row_bytes (row cs i) + frame_bytes (drop (suc i) cs)
unfolding frame_bytes
bytes_next cs i l = ap frame_bytes (next-rows cs i l)

pub words-end : (cs : List Channel) (i : ℕ) → length cs ≤ i → frame_words (drop i cs) ≡ 0
unfolding frame_words
words-end cs i l = ap frame_words (drop_all i cs l)

pub bytes-end : (cs : List Channel) (i : ℕ) → length cs ≤ i → frame_bytes (drop i cs) ≡ 0
unfolding frame_bytes
bytes-end cs i l = ap frame_bytes (drop_all i cs l)

pub goes_on-is : (n i : ℕ) → suc i < n → following n i ≡ suc i
goes_on-is n i l = ap (λ t. cond t (suc i) 0) (lt-ltb (suc i) n l)

starts-over : (n i : ℕ) → n ≤ suc i → following n i ≡ 0
starts-over n i l = ap (λ t. cond t (suc i) 0) (le-ltb (suc i) n l)

-- a row and those behind it up to the frame's end, and others
row-counted : (cs : List Channel) → SomeBytes cs → SomeWords cs → (i raw : ℕ) → i < length cs →
    count cs (at (following (length cs) i) 0) (frame_bytes (drop (suc i) cs) + raw) ≡ more (frame_words (drop (suc i) cs)) (count cs first raw) →
    count cs (at i 0) (frame_bytes (drop i cs) + raw) ≡ more (frame_words (drop i cs)) (count cs first raw)
row-counted cs h g i raw l others =
    let n = (row cs i).repeats in
    let F = frame_bytes (drop (suc i) cs) in
    let W = frame_words (drop (suc i) cs) in
    let split : frame_bytes (drop i cs) + raw ≡ row_bytes (row cs i) + (F + raw) = omega (arith, bytes_next cs i l) in
    ap (count cs (at i 0)) split ∙ count-row cs h i (F + raw) l (g i l) ∙ ap (more n) others ∙ more-sum n W (count cs first raw)
    ∙ ap (λ z. more z (count cs first raw)) (sym (words-next cs i l))

rows-counted : (cs : List Channel) → SomeBytes cs → SomeWords cs → (k i raw : ℕ) → suc k + i ≡ length cs →
    count cs (at i 0) (frame_bytes (drop i cs) + raw) ≡ more (frame_words (drop i cs)) (count cs first raw)
rows-counted cs h g zero i raw e =
    let b = bytes-end cs (suc i) (omega arith) in
    let w = words-end cs (suc i) (omega arith) in
    row-counted cs h g i raw (omega arith)
    (ap (λ j. count cs (at j 0) (frame_bytes (drop (suc i) cs) + raw)) (starts-over (length cs) i (omega arith)) ∙ ap (λ z. count cs first (z + raw)) b ∙ ap (count cs first) (zero-add raw)
    ∙ more-zero (count cs first raw) ∙ ap (λ z. more z (count cs first raw)) (sym w))
rows-counted cs h g (suc k) i raw e =
    row-counted cs h g i raw (omega arith)
    (ap (λ j. count cs (at j 0) (frame_bytes (drop (suc i) cs) + raw)) (goes_on-is (length cs) i (omega arith)) ∙ rows-counted cs h g k (suc i) raw (omega arith))

-- a frame, and others
pub count-frame : (cs : List Channel) → SomeBytes cs → SomeWords cs → 0 < length cs → (raw : ℕ) →
    count cs first (frame_bytes cs + raw) ≡ more (frame_words cs) (count cs first raw)
count-frame cs h g l raw = rows-counted cs h g (length cs - 1) 0 raw (omega arith)

-- looking far enough
pub frame-counted : (cs : List Channel) → SomeBytes cs → SomeWords cs → 0 < length cs → (k m raw : ℕ) → frame_bytes cs + raw ≤ k → raw ≤ m →
    count_words cs first k (frame_bytes cs + raw) ≡ more (frame_words cs) (count_words cs first m raw)
frame-counted cs h g l k m raw a b =
    far-enough cs h first l k (frame_bytes cs + raw) (frame_bytes cs + raw) a (omega arith) ∙ count-frame cs h g l raw ∙ ap (more (frame_words cs)) (far-enough cs h first l raw m raw (omega arith) b)

-- whole frames, and others
pub count_frames : (cs : List Channel) → SomeBytes cs → SomeWords cs → 0 < length cs → (n raw : ℕ) →
    count cs first (frame_bytes cs * n + raw) ≡ more (frame_words cs * n) (count cs first raw)
count_frames cs h g l zero raw =
    ap (λ z. count cs first (z + raw)) (mul-zero (frame_bytes cs)) ∙ ap (count cs first) (zero-add raw) ∙ more-zero (count cs first raw)
    ∙ ap (λ z. more z (count cs first raw)) (sym (mul-zero (frame_words cs)))
count_frames cs h g l (suc n) raw =
    let F = frame_bytes cs in
    let W = frame_words cs in
    let f : F * suc n + raw ≡ F + (F * n + raw) = omega (arith, mul-suc F n) in
    let w : W + W * n ≡ W * suc n = omega (arith, mul-suc W n) in
    ap (count cs first) f ∙ count-frame cs h g l (F * n + raw) ∙ ap (more W) (count_frames cs h g l n raw) ∙ more-sum W (W * n) (count cs first raw) ∙ ap (λ z. more z (count cs first raw)) w

-- by division: the whole frames, and what is left
pub count_divided : (cs : List Channel) → SomeBytes cs → SomeWords cs → 0 < length cs → (raw : ℕ) →
    count cs first raw ≡ more (frame_words cs * (raw / frame_bytes cs)) (count cs first (raw % frame_bytes cs))
count_divided cs h g l raw = ap (count cs first) (sym (div-add-mod raw (frame_bytes cs))) ∙ count_frames cs h g l (raw / frame_bytes cs) (raw % frame_bytes cs)
