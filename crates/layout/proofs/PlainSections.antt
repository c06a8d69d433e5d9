-- Which sections are valid, one by one and in a chain, in plain words.
use Rattle.std.proofs.Common.{◌≡◌, ℕ, zero, suc, ◌+◌, ◌*◌, ◌/◌, ◌^◌, ◌<◌, ◌≤◌, Bool, true, false, cond, not, ◌||◌, leb, List, [], ◌∷◌, length, Some, None, Option, refl, ap, subst, le_refl, arith}
use Rattle.std.proofs.lemmas.Bool.{ltb-true, lt-ltb, leb-true, le-leb, and_parts, and_from, both_ways}
use Rattle.bits.specs.Bits.{Bytes}
use Rattle.format.specs.Format.{Format, each, EachValid}
use Rattle.format.specs.Word.{word}
use Rattle.format.proofs.Laws.{then-part, then-rest, whole_is, chosen, field-valid, judged-valid, ahead-valid, refused, part_then, choosing, valid-field, is_whole}
use Rattle.layout.specs.Recording.{Channel, Section}
use Rattle.layout.specs.Channels.{ruled, code_at}
use Rattle.layout.specs.Turns.{Spot, first, channel_of, Turn, memory_of, next_turn, first_turn, raw_bytes, raw_size, words_from}
use Rattle.layout.specs.Slim.{positive, most_bytes, most_channels, channel, Closing, another, goes_on, Flags, Piece, recorded, channel_count, counted, closed, body, piece, Body, no_section, leading, behind, chain, raw_total}
use Rattle.layout.specs.Plain.{Every, Formed, SectionFits}
use Rattle.layout.proofs.Building.{valid-judged, valid-ahead, valid-padding, times-every, every-times, then-within, ahead_within, choose-within}
use Rattle.layout.proofs.Spots.{word_some, inside-counted, raw-none, raw-some}
use Rattle.layout.proofs.PlainParts.{channel-ruled, channel-once, ruled-channel, ClosingFits, closing-fits, fits-closing}

-- ## Words

-- words are valid exactly where each has a form
pub words-formed : (cs : List Channel) (n : ℕ) (t : Turn) (p : ℕ) (ws : List ℕ) → (words_from cs n t).Valid p ws → (length ws ≡ n) × Formed cs t ws
unfolding words_from each EachValid word Formed
words-formed cs n t p ws v = (v.0, go t p ws v.1)
  where
    go : (t : Turn) (p : ℕ) (ws : List ℕ) → EachValid (λ t. word (code_at (channel_of cs t.spot) (memory_of t))) (next_turn cs) t p ws → Formed cs t ws
    go t p [] v = tt
    go t p (x ∷ xs) v = (v.0, go (next_turn cs t x) _ xs v.1)

pub formed-words : (cs : List Channel) (n : ℕ) (t : Turn) (p : ℕ) (ws : List ℕ) → length ws ≡ n → Formed cs t ws → (words_from cs n t).Valid p ws
unfolding words_from each EachValid word Formed
formed-words cs n t p ws e f = (e, go t p ws f)
  where
    go : (t : Turn) (p : ℕ) (ws : List ℕ) → Formed cs t ws → EachValid (λ t. word (code_at (channel_of cs t.spot) (memory_of t))) (next_turn cs) t p ws
    go t p [] f = tt
    go t p (x ∷ xs) f = (f.0, go (next_turn cs t x) _ xs f.1)

-- ## What stands behind the channels

-- what is counted is valid exactly where a number of words is found, and they are
counted-some : (o : Option ℕ) (F : ℕ → Format Piece) (p : ℕ) (x : Piece) → (counted o F).Valid p x → (n : ℕ) × (o ≡ Some n) × (F n).Valid p x
unfolding counted
counted-some None F p x v = absurd (refused _ _ _ v)
counted-some (Some n) F p x v = (n, refl, v)

some-counted : (o : Option ℕ) (F : ℕ → Format Piece) (n p : ℕ) (x : Piece) → o ≡ Some n → (F n).Valid p x → (counted o F).Valid p x
unfolding counted
some-counted o F n p x e v = rw e v

-- words and what closes them are valid exactly where each word has a form, the closing is valid and there is room
closed-fits : (room : Bool) (cs : List Channel) (n p : ℕ) (x : Piece) → (closed room cs n).Valid p x → Formed cs (first_turn cs) x.section.words × ClosingFits x.closing
unfolding closed
closed-fits room cs n p x v = (
  (words-formed cs n _ p _ (then-part _ _ p x v)).1,
  closing-fits _ _ (judged-valid _ _ _ _ _ (then-part _ _ _ x (then-rest _ _ p x v))).0,
)

-- another section follows only where there is room
abbrev pub HasRoom : Bool → Closing → Type 0
HasRoom room e = (not (goes_on e) || room) ≡ true

fits-closed : (room : Bool) (p : ℕ) (x : Piece) → Formed x.section.channels (first_turn x.section.channels) x.section.words → ClosingFits x.closing → HasRoom room x.closing →
    (closed room x.section.channels (length x.section.words)).Valid p x
unfolding closed
fits-closed room p x f c h =
    part_then _ _ p x (formed-words x.section.channels _ _ p x.section.words refl f)
    (part_then _ _ _ x (valid-judged _ _ _ _ x.closing (fits-closing _ x.closing c) h)
    (part_then _ _ _ x (valid-padding _ tt)
    (is_whole _ _ x refl)))

-- ## Bodies

-- how many channels there may be
record CountFits (g : Flags) (n : ℕ) : Type 0 where
  some : 0 < n
  few : n ≤ most_channels
  alone : g.single ≡ true → n ≡ 1

-- a number of channels is valid exactly where it is one of these
count_fits : (g : Flags) (p n : ℕ) → (channel_count g).Valid p n → CountFits g n
count_fits g p n v = chosen _ _ _ p n _ v
    (λ e u. let d = whole_is _ p n u in record { some = omega arith; few = omega arith; alone = λ _. d })
    (λ e u.
    let (a, b) = and_parts (positive n) (leb n most_channels) (field-valid _ _ _ p n u).1 in
    record { some = ltb-true 0 n a; few = leb-true n most_channels b; alone = λ d. absurd (both_ways g.single e d) })

fits_count : (g : Flags) (p n : ℕ) → CountFits g n → (channel_count g).Valid p n
fits_count g p n f = choosing _ _ _ p n
    (λ e. is_whole _ p n (f.alone e))
    (λ e.
    let l = f.few in
    valid-field _ _ _ p n (omega arith) (and_from (positive n) (leb n most_channels) (lt-ltb 0 n f.some) (le-leb n most_channels l)))

-- where there are raw bytes there are words
some_words : (cs : List Channel) (s : Spot) (n : ℕ) → 0 < raw_bytes cs s n → 0 < n
some_words cs s zero h = absurd (omega (arith, raw-none cs s))
some_words cs s (suc n) h = omega arith

-- what stands behind a raw size is valid exactly where the section keeps the limits
pub body-fits : (g : Flags) (room : Bool) (raw p : ℕ) (x : Piece) → 0 < raw_size x.section → (body g room raw).Valid p x → SectionFits g x.section × ClosingFits x.closing
unfolding body
body-fits g room raw p x h v =
    let cs = x.section.channels in
    let f = count_fits g p (length cs) (then-part _ _ p x v) in
    let u = then-rest _ _ p x v in
    let t = then-part _ _ _ x u in
    let (n, _, w) = counted-some _ _ _ x (then-rest _ _ _ x u) in
    let (a, b) = closed-fits room cs n _ x w in (
      record {
        some_channels = f.some;
        few_channels = f.few;
        one_channel = f.alone;
        settings = times-every (λ c. ruled c ≡ true) _ _ (channel-ruled (recorded g (length cs))) _ cs t;
        repeats = λ e. times-every (λ c. c.repeats ≡ 1) _ _ (λ q c y. channel-once q c (subst (λ r. (channel r).Valid q c) e y)) _ cs t;
        some_words = some_words cs first (length x.section.words) h;
        forms = a;
      },
      b,
    )

-- two facts of every element, the second under a condition
every-both : {A : Type 0} (V W : A → Type 0) (C : Type 0) (xs : List A) → Every V xs → (C → Every W xs) → Every (λ x. V x × (C → W x)) xs
unfolding Every
every-both V W C [] v w = tt
every-both V W C (x ∷ xs) v w = ((v.0, λ c. (w c).0), every-both V W C xs v.1 (λ c. (w c).1))

pub fits-body : (g : Flags) (room : Bool) (p : ℕ) (x : Piece) → SectionFits g x.section → ClosingFits x.closing → HasRoom room x.closing →
    (body g room (raw_size x.section)).Valid p x
unfolding body
fits-body g room p x f c h =
    let cs = x.section.channels in
    let ws = x.section.words in
    let V : Channel → Type 0 = λ c. (ruled c ≡ true) × (recorded g (length cs) ≡ false → c.repeats ≡ 1) in
    let l : 0 < length cs = f.some_channels in
    part_then _ _ p x (fits_count g p (length cs) (record { some = l; few = f.few_channels; alone = f.one_channel }))
    (part_then _ _ _ x
    (every-times V (length cs) (channel (recorded g (length cs))) (λ q c y. ruled-channel (recorded g (length cs)) q c y.0 y.1) _ cs refl
    (every-both (λ c. ruled c ≡ true) (λ c. c.repeats ≡ 1) (recorded g (length cs) ≡ false) cs f.settings f.repeats))
    (some-counted _ _ (length ws) _ x (inside-counted cs (word_some cs f.settings) first l (length ws) _ (le_refl _))
    (fits-closed room _ x f.forms c h)))

-- ## Pieces

-- a section is valid exactly where it keeps the limits, its raw bytes too, if it ends within the file's
pub piece-fits : (g : Flags) (room : Bool) (total p : ℕ) (x : Piece) → (piece g room total).Valid p x →
    SectionFits g x.section × ClosingFits x.closing × (total + raw_size x.section ≤ most_bytes)
unfolding piece
piece-fits g room total p x v =
    let (a, l) = judged-valid _ _ _ p (raw_size x.section) (then-part _ _ p x v) in
    let h = ltb-true 0 (raw_size x.section) (field-valid _ _ _ p _ a).1 in
    let (f, c) = chosen _ _ _ _ x (SectionFits g x.section × ClosingFits x.closing) (then-rest _ _ p x v)
    (λ e u. body-fits g room _ _ x h (ahead-valid _ _ _ _ _ x u))
    (λ e u. body-fits g room _ _ x h u) in
    (f, c, leb-true (total + raw_size x.section) most_bytes l)

-- the pointer has room in a file within the limit
pointer-small : (t : Bool) (q : ℕ) → q ≤ 8 * most_bytes → cond t (q / 8) 0 < 2 ^ 32
pointer-small true q h = omega arith
pointer-small false q h = omega arith

pub fits-piece : (g : Flags) (room : Bool) (total p : ℕ) (x : Piece) → SectionFits g x.section → ClosingFits x.closing → HasRoom room x.closing →
    total + raw_size x.section ≤ most_bytes → p + length ((piece g room total).cells p x) ≤ 8 * most_bytes → (piece g room total).Valid p x
unfolding piece
fits-piece g room total p x f c h l m =
    let cs = x.section.channels in
    let s = raw-some cs first (length x.section.words) (word_some cs f.settings first f.some_channels) f.some_words in
    let (y, _) = choose-within _ _ _ _ x (8 * most_bytes) (then-within _ _ p x (8 * most_bytes) m).1 in
    part_then _ _ p x
    (valid-judged _ _ _ p (raw_size x.section) (valid-field _ _ _ p (raw_size x.section) (omega arith) (lt-ltb 0 (raw_size x.section) s)) (le-leb (total + raw_size x.section) most_bytes l))
    (choosing _ _ _ _ x
    (λ e. valid-ahead _ _ _ _ _ x (fits-body g room _ x f c h) (pointer-small (goes_on x.closing) _ (ahead_within _ _ _ _ _ x (8 * most_bytes) (y e))))
    (λ e. fits-body g room _ x f c h))

-- ## Chains

-- sections and leftovers that may follow so many raw bytes, at most k sections
pub record ChainFits (g : Flags) (k total : ℕ) (ss : List Section) (ls : List ℕ) : Type 0 where
  pub some : 0 < length ss
  pub few : length ss ≤ k
  pub sections : Every (SectionFits g) ss
  pub raw : total + raw_total ss ≤ most_bytes
  pub leftovers : (length ls ≤ 7) × Bytes ls

-- sections and leftovers together
abbrev pub body_of : List Section → List ℕ → Body
body_of ss ls = record { sections = ss; leftovers = ls }

-- no sections are not one
not_none : (s : Section) (ls ms : List ℕ) → body_of [] ls ≡ body_of (s ∷ []) ms → ⊥
not_none s ls ms e = omega (arith, ap (λ b. length b.sections) e)

-- a chain is valid exactly where it keeps the limits, if it ends within the file's
pub chain_fits : (g : Flags) (k total p : ℕ) (ss : List Section) (ls : List ℕ) → (chain g k total).Valid p (body_of ss ls) → ChainFits g k total ss ls
unfolding chain behind raw_total Every
chain_fits g zero total p ss ls v = absurd (refused _ _ _ v)
chain_fits g (suc k) total p [] ls v = absurd (not_none no_section ls ls (whole_is _ _ (body_of [] ls) (then-rest _ _ p (body_of [] ls) v)))
chain_fits g (suc k) total p (s ∷ []) ls v =
    let (f, c, l) = piece-fits g _ total p _ (then-part _ _ p (body_of (s ∷ []) ls) v) in
    record { some = omega arith; few = omega arith; sections = (f, tt); raw = omega arith; leftovers = c }
chain_fits g (suc k) total p (s ∷ (t ∷ ss)) ls v =
    let (f, c, l) = piece-fits g _ total p _ (then-part _ _ p (body_of (s ∷ (t ∷ ss)) ls) v) in
    let r = chain_fits g k (total + raw_size s) _ (t ∷ ss) ls (then-part _ _ _ (body_of (s ∷ (t ∷ ss)) ls) (then-rest _ _ p (body_of (s ∷ (t ∷ ss)) ls) v)) in
    let few = r.few in
    let raw = r.raw in
    record { some = omega arith; few = omega arith; sections = (f, r.sections); raw = omega arith; leftovers = r.leftovers }

-- there is room behind a section that another follows
room-left : (k n : ℕ) → suc n ≤ k → HasRoom (positive k) another
room-left k n h = lt-ltb 0 k (omega arith)

pub fits-chain : (g : Flags) (k total p : ℕ) (ss : List Section) (ls : List ℕ) → ChainFits g k total ss ls →
    p + length ((chain g k total).cells p (body_of ss ls)) ≤ 8 * most_bytes → (chain g k total).Valid p (body_of ss ls)
unfolding chain behind raw_total Every
fits-chain g k total p [] ls f m = absurd (omega (arith, f.some))
fits-chain g zero total p (s ∷ ss) ls f m = absurd (omega (arith, f.few))
fits-chain g (suc k) total p (s ∷ []) ls f m =
    let b = body_of (s ∷ []) ls in
    let raw = f.raw in
    part_then _ _ p b
    (fits-piece g (positive k) total p (leading b) f.sections.0 f.leftovers refl (omega arith) (then-within _ _ p b (8 * most_bytes) m).0)
    (is_whole _ _ b refl)
fits-chain g (suc k) total p (s ∷ (t ∷ ss)) ls f m =
    let b = body_of (s ∷ (t ∷ ss)) ls in
    let few = f.few in
    let raw = f.raw in
    let (m₁, m₂) = then-within _ _ p b (8 * most_bytes) m in
    part_then _ _ p b
    (fits-piece g (positive k) total p (leading b) f.sections.0 tt (room-left k (length ss) (omega arith)) (omega arith) m₁)
    (part_then _ _ _ b
    (fits-chain g k (total + raw_size s) _ (t ∷ ss) ls
    (record { some = omega arith; few = omega arith; sections = f.sections.1; raw = omega arith; leftovers = f.leftovers })
    (then-within _ _ _ b (8 * most_bytes) m₂).0)
    (is_whole _ _ b refl))
