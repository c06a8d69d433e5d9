-- Counting words by their raw bytes: how far to look does not matter, and words that are whole can be counted first.
use Rattle.std.proofs.Common.{◌≡◌, ℕ, zero, suc, ◌+◌, ◌-◌, ◌<◌, ◌≤◌, true, false, cond, eqb, leb, List, Some, None, Option, sym, refl, ap, ◌∙◌, zero-add, arith}
use Rattle.std.proofs.lemmas.Bool.{ne_eqb, le-leb, lt-leb}
use Rattle.std.specs.Option.{option_map}
use Rattle.layout.specs.Recording.{Channel}
use Rattle.layout.specs.Turns.{Spot, advance, word_bytes, raw_bytes, count_words}
use Rattle.layout.proofs.Counting.{counted-bytes}
use Rattle.layout.proofs.Spots.{Inside, advance-inside}

-- each word of a channel that is there has raw bytes
abbrev pub SomeBytes : List Channel → Type 0
SomeBytes cs = (s : Spot) → Inside cs s → 0 < word_bytes cs s

-- the words of all the raw bytes
abbrev pub count : List Channel → Spot → ℕ → Option ℕ
count cs s raw = count_words cs s raw raw

-- so many words more
abbrev pub more : ℕ → Option ℕ → Option ℕ
more n o = option_map (λ x. n + x) o

-- the spot behind n words
unfoldable pub after : List Channel → Spot → ℕ → Spot
after cs s zero = s
after cs s (suc n) = after cs (advance cs s) n

pub after-inside : (cs : List Channel) (s : Spot) (n : ℕ) → Inside cs s → Inside cs (after cs s n)
unfolding after
after-inside cs s zero i = i
after-inside cs s (suc n) i = after-inside cs (advance cs s) n (advance-inside cs s i)

-- no raw bytes are no words
pub count_none : (cs : List Channel) (s : Spot) (k : ℕ) → count_words cs s k 0 ≡ Some 0
unfolding count_words
count_none cs s zero = refl
count_none cs s (suc k) = refl

-- it is enough to look as far as there are raw bytes
pub far-enough : (cs : List Channel) → SomeBytes cs → (s : Spot) → Inside cs s → (k l raw : ℕ) → raw ≤ k → raw ≤ l → count_words cs s k raw ≡ count_words cs s l raw
unfolding count_words
far-enough cs h s i zero l zero a b = sym (count_none cs s l)
far-enough cs h s i zero l (suc raw) a b = absurd (omega arith)
far-enough cs h s i (suc k) zero zero a b = refl
far-enough cs h s i (suc k) zero (suc raw) a b = absurd (omega arith)
far-enough cs h s i (suc k) (suc l) raw a b =
    let p = h s i in
    ap (λ z. cond (eqb raw 0) (Some 0) (cond (leb (word_bytes cs s) raw) (option_map suc z) None))
    (far-enough cs h (advance cs s) (advance-inside cs s i) k l (raw - word_bytes cs s) (omega arith) (omega arith))

-- one look
count-more : (cs : List Channel) (s : Spot) (k raw : ℕ) →
    count_words cs s (suc k) raw ≡ cond (eqb raw 0) (Some 0) (cond (leb (word_bytes cs s) raw) (option_map suc (count_words cs (advance cs s) k (raw - word_bytes cs s))) None)
unfolding count_words
count-more cs s k raw = refl

-- a whole word, and others
pub count_word : (cs : List Channel) → SomeBytes cs → (s : Spot) → Inside cs s → (raw : ℕ) → count cs s (word_bytes cs s + raw) ≡ option_map suc (count cs (advance cs s) raw)
count_word cs h s i raw =
    let w = word_bytes cs s in
    let total : ℕ = w + raw in
    let a = advance cs s in
    let p = h s i in
    let some : eqb (w + raw) 0 ≡ false = ne_eqb (w + raw) 0 (λ e. omega arith) in
    let whole : leb w (w + raw) ≡ true = le-leb w (w + raw) (omega arith) in
    let rest : w + raw - w ≡ raw = omega arith in
    far-enough cs h s i (w + raw) (suc (w + raw)) (w + raw) (omega arith) (omega arith)
    ∙ count-more cs s (w + raw) (w + raw)
    ∙ ap (λ t. cond t (Some 0) (cond (leb w (w + raw)) (option_map suc (count_words cs a (w + raw) (w + raw - w))) None)) some
    ∙ ap (λ t. cond t (option_map suc (count_words cs a (w + raw) (w + raw - w))) None) whole ∙ ap (λ z. option_map suc (count_words cs a (w + raw) z)) rest
    ∙ ap (option_map suc) (far-enough cs h a (advance-inside cs s i) (w + raw) raw raw (omega arith) (omega arith))

-- raw bytes that end inside the first word
pub count_cut : (cs : List Channel) (s : Spot) (k raw : ℕ) → 0 < raw → raw < word_bytes cs s → count_words cs s k raw ≡ None
unfolding count_words
count_cut cs s zero raw l m = ap (λ t. cond t (Some 0) None) (ne_eqb raw 0 (λ e. omega arith))
count_cut cs s (suc k) raw l m =
    let r = option_map suc (count_words cs (advance cs s) k (raw - word_bytes cs s)) in
    ap (λ t. cond t (Some 0) (cond (leb (word_bytes cs s) raw) r None)) (ne_eqb raw 0 (λ e. omega arith)) ∙ ap (λ t. cond t r None) (lt-leb (word_bytes cs s) raw m)

pub more-zero : (o : Option ℕ) → o ≡ more 0 o
more-zero None = refl
more-zero (Some x) = ap Some (omega arith)

more-suc : (n : ℕ) (o : Option ℕ) → option_map suc (more n o) ≡ more (suc n) o
more-suc n None = refl
more-suc n (Some x) = ap Some (omega arith)

pub more-sum : (a b : ℕ) (o : Option ℕ) → more a (more b o) ≡ more (a + b) o
more-sum a b None = refl
more-sum a b (Some x) = ap Some (omega arith)

-- whole words, and others
pub count-words : (cs : List Channel) → SomeBytes cs → (s : Spot) → Inside cs s → (n raw : ℕ) → count cs s (raw_bytes cs s n + raw) ≡ more n (count cs (after cs s n) raw)
unfolding raw_bytes after
count-words cs h s i zero raw = ap (count cs s) (zero-add raw) ∙ more-zero (count cs s raw)
count-words cs h s i (suc n) raw =
    let a = advance cs s in
    let r : word_bytes cs s + raw_bytes cs a n + raw ≡ word_bytes cs s + (raw_bytes cs a n + raw) = omega arith in
    ap (count cs s) r ∙ count_word cs h s i (raw_bytes cs a n + raw) ∙ ap (option_map suc) (count-words cs h a (advance-inside cs s i) n raw) ∙ more-suc n (count cs (after cs a n) raw)

-- words have at least as many raw bytes
pub bytes-least : (cs : List Channel) → SomeBytes cs → (s : Spot) → Inside cs s → (n : ℕ) → n ≤ raw_bytes cs s n
unfolding raw_bytes
bytes-least cs h s i zero = omega arith
bytes-least cs h s i (suc n) = omega (arith, h s i, bytes-least cs h (advance cs s) (advance-inside cs s i) n)

pub words-most : (cs : List Channel) → SomeBytes cs → (s : Spot) → Inside cs s → (raw n : ℕ) → count cs s raw ≡ Some n → n ≤ raw
words-most cs h s i raw n e = omega (arith, bytes-least cs h s i n, counted-bytes cs s raw raw n e)
