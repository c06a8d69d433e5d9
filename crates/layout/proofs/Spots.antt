-- Spots stay within the channels, and words are counted by their raw bytes.
use Rattle.std.proofs.Common.{◌≡◌, ℕ, zero, suc, ◌+◌, ◌-◌, ◌/◌, ◌<◌, ◌≤◌, Bool, true, false, cond, ◌||◌, eqb, ltb, leb, List, [], ◌∷◌, length, get_or, Some, None, refl, ap, ◌∙◌, arith}
use Rattle.std.proofs.lemmas.Bool.{ne_eqb, ltb-true, le-leb}
use Rattle.std.specs.Option.{option_map}
use Rattle.layout.specs.Recording.{Channel}
use Rattle.layout.specs.Channels.{width, ruled}
use Rattle.layout.specs.Turns.{no_channel, Spot, channel_of, following, advance, word_bytes, raw_bytes, count_words}
use Rattle.layout.specs.Plain.{Every}
use Rattle.layout.proofs.Codes.{ruled-fine}

-- what every element keeps, the one at a place within keeps
pub every-at : {A : Type 0} (V : A → Type 0) (xs : List A) → Every V xs → (i : ℕ) (d : A) → i < length xs → V (get_or xs i d)
unfolding Every
every-at V [] h i d l = absurd (omega arith)
every-at V (x ∷ xs) h zero d l = h.0
every-at V (x ∷ xs) h (suc i) d l = every-at V xs h.1 i d (omega arith)

-- a spot names a channel that is there
abbrev pub Inside : List Channel → Spot → Type 0
Inside cs s = s.channel < length cs

-- the channel behind one of them is one of them
following-inside : (n i : ℕ) → i < n → following n i < n
following-inside n i h = by-test (ltb (suc i) n) refl
  where
    by-test : (t : Bool) → ltb (suc i) n ≡ t → cond t (suc i) 0 < n
    by-test true e = ltb-true (suc i) n e
    by-test false e = omega arith

-- and so does the next
pub advance-inside : (cs : List Channel) (s : Spot) → Inside cs s → Inside cs (advance cs s)
advance-inside cs s h = by-test (leb (channel_of cs s).repeats (suc s.given))
  where
    by-test : (t : Bool) → Inside cs (cond t (record { channel = following (length cs) s.channel; given = 0 }) (record { channel = s.channel; given = suc s.given }))
    by-test true = following-inside (length cs) s.channel h
    by-test false = h

-- a width is of whole bytes
whole-width : (t : ℕ) → 0 < width t → 0 < width t / 8
whole-width t h = by_tests (eqb t 1 || (eqb t 2 || eqb t 5)) (eqb t 3 || eqb t 4) (eqb t 7 || eqb t 8) h
  where
    by_tests : (a b c : Bool) → 0 < cond a 32 (cond b 16 (cond c 8 0)) → 0 < cond a 32 (cond b 16 (cond c 8 0)) / 8
    by_tests true b c h = omega arith
    by_tests false true c h = omega arith
    by_tests false false true h = omega arith
    by_tests false false false h = absurd (omega arith)

-- each word has raw bytes where every channel keeps the rules
pub word_some : (cs : List Channel) → Every (λ c. ruled c ≡ true) cs → (s : Spot) → Inside cs s → 0 < word_bytes cs s
word_some cs h s l = whole-width (channel_of cs s).kind (ruled-fine (channel_of cs s) (every-at (λ c. ruled c ≡ true) cs h s.channel no_channel l)).wide

-- words are counted by their raw bytes, where each that a channel gives has some
pub inside-counted : (cs : List Channel) → ((s : Spot) → Inside cs s → 0 < word_bytes cs s) → (s : Spot) → Inside cs s → (n k : ℕ) → raw_bytes cs s n ≤ k →
    count_words cs s k (raw_bytes cs s n) ≡ Some n
unfolding count_words raw_bytes
inside-counted cs h s i zero zero l = refl
inside-counted cs h s i zero (suc k) l = refl
inside-counted cs h s i (suc n) zero l = absurd (omega (arith, h s i))
inside-counted cs h s i (suc n) (suc k) l =
    let w = word_bytes cs s in
    let r = raw_bytes cs (advance cs s) n in
    let p : 0 < word_bytes cs s = h s i in
    let z : eqb (word_bytes cs s + raw_bytes cs (advance cs s) n) 0 ≡ false = ne_eqb (word_bytes cs s + raw_bytes cs (advance cs s) n) 0 (λ e. omega arith) in
    let t : leb (word_bytes cs s) (word_bytes cs s + raw_bytes cs (advance cs s) n) ≡ true = le-leb (word_bytes cs s) (word_bytes cs s + raw_bytes cs (advance cs s) n) (omega arith) in
    let d : word_bytes cs s + raw_bytes cs (advance cs s) n - word_bytes cs s ≡ raw_bytes cs (advance cs s) n = omega arith in
    let c = inside-counted cs h (advance cs s) (advance-inside cs s i) n k (omega arith) in
    ap (λ b. cond b (Some 0) (cond (leb w (w + r)) (option_map suc (count_words cs (advance cs s) k (w + r - w))) None)) z
    ∙ ap (λ b. cond b (option_map suc (count_words cs (advance cs s) k (w + r - w))) None) t
    ∙ ap (λ x. option_map suc (count_words cs (advance cs s) k x)) d ∙ ap (option_map suc) c

-- no words have no raw bytes, and some have some
pub raw-none : (cs : List Channel) (s : Spot) → raw_bytes cs s 0 ≡ 0
unfolding raw_bytes
raw-none cs s = refl

pub raw-some : (cs : List Channel) (s : Spot) (n : ℕ) → 0 < word_bytes cs s → 0 < n → 0 < raw_bytes cs s n
unfolding raw_bytes
raw-some cs s zero h l = absurd (omega arith)
raw-some cs s (suc n) h l = omega arith
