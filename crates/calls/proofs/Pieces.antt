-- The bits of a file, part by part.
use Rattle.std.proofs.Common.{◌≡◌, ℕ, zero, suc, ◌+◌, ◌/◌, Bool, true, false, cond, List, [], ◌∷◌, ◌++◌, length, replicate, Some, sym, refl, ap, ◌∙◌, append_assoc, append-nil, arith, length-append}
use Rattle.bits.specs.Bits.{bits}
use Rattle.bits.proofs.Numbers.{length-bits}
use Rattle.forms.specs.Code.{form_of}
use Rattle.format.specs.Cells as cells
use Rattle.format.specs.Cells.{pad, filled}
use Rattle.format.specs.Format.{field, whole, ◌>>=◌, choose, judged, padding, gap, each, each_cells, times, ahead}
use Rattle.format.specs.Word.{word, given}
use Rattle.format.proofs.Filling.{length-filled, filled-append, filled-marked, filled-bits}
use Rattle.layout.specs.Recording.{Channel, Section}
use Rattle.layout.specs.Channels.{code_at}
use Rattle.layout.specs.Turns.{Turn, channel_of, memory_of, next_turn, first_turn, words_from, first, count_words, raw_size}
use Rattle.layout.specs.Slim.{Flags, Closing, closing, closed, counted, body, piece, Piece, goes_on, channel_count, channel, recorded}
use Rattle.calls.specs.Parts.{written, described, open_bits, closing_bits}
use Rattle.calls.proofs.Steady.{steady-described}

filled_pads : (n : ℕ) → filled (replicate n pad) ≡ replicate n false
unfolding filled
filled_pads zero = refl
filled_pads (suc n) = ap (λ y. false ∷ y) (filled_pads n)

-- ## Words

-- the forms of words, one behind the other
unfoldable pub words_bits : List Channel → Turn → List ℕ → List Bool
words_bits cs t [] = []
words_bits cs t (x ∷ xs) = given (form_of (code_at (channel_of cs t.spot) (memory_of t)) x) ++ words_bits cs (next_turn cs t x) xs

words-cells : (cs : List Channel) (t : Turn) (p : ℕ) (ws : List ℕ) →
    filled (each_cells (λ (t : Turn). word (code_at (channel_of cs t.spot) (memory_of t))) (next_turn cs) t p ws) ≡ words_bits cs t ws
unfolding each_cells words_bits word filled
words-cells cs t p [] = refl
words-cells cs t p (x ∷ ws) =
    filled-append ((word (code_at (channel_of cs t.spot) (memory_of t))).cells p x) (each_cells (λ (t : Turn). word (code_at (channel_of cs t.spot) (memory_of t))) (next_turn cs) (next_turn cs t x) (p + length ((word (code_at (channel_of cs t.spot) (memory_of t))).cells p x)) ws)
    ∙ ap (λ y. y ++ filled (each_cells (λ (t : Turn). word (code_at (channel_of cs t.spot) (memory_of t))) (next_turn cs) (next_turn cs t x) (p + length ((word (code_at (channel_of cs t.spot) (memory_of t))).cells p x)) ws)) (filled-marked (given (form_of (code_at (channel_of cs t.spot) (memory_of t)) x)))
    ∙ ap (λ y. given (form_of (code_at (channel_of cs t.spot) (memory_of t)) x) ++ y) (words-cells cs (next_turn cs t x) (p + length ((word (code_at (channel_of cs t.spot) (memory_of t))).cells p x)) ws)

pub words-bits : (cs : List Channel) (n p : ℕ) (t : Turn) (ws : List ℕ) → filled ((words_from cs n t).cells p ws) ≡ words_bits cs t ws
unfolding words_from each
words-bits cs n p t ws = words-cells cs t p ws

-- ## Sections

-- the words and what closes them
unfoldable pub inner : ℕ → List Channel → List ℕ → Closing → List Bool
inner p cs ws e = words_bits cs (first_turn cs) ws ++ closing_bits (p + length (words_bits cs (first_turn cs) ws)) e

-- the tag, the leftovers and the pads
tail-bits : (p : ℕ) (e : Closing) → filled (closing.cells p e ++ (replicate (gap (p + length (closing.cells p e))) pad ++ [])) ≡ closing_bits p e
unfolding closing_bits
tail-bits p e =
    filled-append (closing.cells p e) (replicate (gap (p + length (closing.cells p e))) pad ++ [])
    ∙ ap (λ y. filled (closing.cells p e) ++ filled y) (append-nil (replicate (gap (p + length (closing.cells p e))) pad))
    ∙ ap (λ y. filled (closing.cells p e) ++ y) (filled_pads (gap (p + length (closing.cells p e))))
    ∙ ap (λ n. filled (closing.cells p e) ++ replicate (gap (p + n)) false) (sym (length-filled (closing.cells p e)))

closed-bits : (room : Bool) (cs : List Channel) (n p : ℕ) (x : Piece) → filled ((closed room cs n).cells p x) ≡ inner p cs x.section.words x.closing
unfolding closed ◌>>=◌ judged padding whole inner
closed-bits room cs n p x =
    let W = (words_from cs n (first_turn cs)).cells p x.section.words in
    let q = p + length W in
    let C = closing.cells q x.closing in
    let w : filled W ≡ words_bits cs (first_turn cs) x.section.words = words-bits cs n p (first_turn cs) x.section.words in
    let l : length W ≡ length (words_bits cs (first_turn cs) x.section.words) = sym (length-filled W) ∙ ap length w in
    filled-append W (C ++ (replicate (gap (q + length C)) pad ++ []))
    ∙ ap (λ y. filled W ++ y) (tail-bits q x.closing)
    ∙ ap (λ y. y ++ closing_bits q x.closing) w
    ∙ ap (λ k. words_bits cs (first_turn cs) x.section.words ++ closing_bits (p + k) x.closing) l

body-bits : (g : Flags) (room : Bool) (raw p n : ℕ) (x : Piece) → count_words x.section.channels first raw raw ≡ Some n →
    filled ((body g room raw).cells p x) ≡ written (described g) 0 x.section.channels ++ inner (p + length (written (described g) 0 x.section.channels)) x.section.channels x.section.words x.closing
unfolding body described counted ◌>>=◌
body-bits g room raw p n x h =
    let cs = x.section.channels in
    let A = (channel_count g).cells p (length cs) in
    let T = (times (length cs) (channel (recorded g (length cs)))).cells (p + length A) cs in
    let r = p + length A + length T in
    let d : filled (A ++ T) ≡ written (described g) 0 cs = ap filled (steady-described g p 0 cs) in
    let l : p + length A + length T ≡ p + length (written (described g) 0 cs) = omega (arith, length-append A T, length-filled (A ++ T), ap length d) in
    ap (λ o. filled (A ++ (T ++ (counted o (closed room cs)).cells r x))) h
    ∙ ap filled (sym (append_assoc A T ((closed room cs n).cells r x)))
    ∙ filled-append (A ++ T) ((closed room cs n).cells r x)
    ∙ ap (λ y. filled (A ++ T) ++ y) (closed-bits room cs n r x)
    ∙ ap (λ y. y ++ inner r cs x.section.words x.closing) d
    ∙ ap (λ k. written (described g) 0 cs ++ inner k cs x.section.words x.closing) l

-- how long a section's head is, whatever its raw size and its pointer
unfoldable pub opened : Flags → List Channel → ℕ
opened g cs = 32 + cond g.pointed 32 0 + length (written (described g) 0 cs)

pub open_length : (g : Flags) (raw pointer : ℕ) (cs : List Channel) → length (open_bits g raw pointer cs) ≡ opened g cs
unfolding open_bits opened
open_length g raw pointer cs =
    length-append (bits 32 raw) (cond g.pointed (bits 32 pointer) [] ++ written (described g) 0 cs)
    ∙ omega (arith, length-bits 32 raw, length-append (cond g.pointed (bits 32 pointer) []) (written (described g) 0 cs), by_flag g.pointed)
  where
    by_flag : (t : Bool) → length (cond t (bits 32 pointer) []) ≡ cond t 32 0
    by_flag true = length-bits 32 pointer
    by_flag false = refl

-- where a section's words begin
abbrev pub words_at : Flags → ℕ → List Channel → ℕ
words_at g p cs = p + opened g cs

-- where a section ends
unfoldable pub end_of : Flags → ℕ → Section → Closing → ℕ
end_of g p s e = words_at g p s.channels + length (inner (words_at g p s.channels) s.channels s.words e)

-- a section from a place on: its head, with raw size and pointer, its words and what closes them
unfoldable pub section_bits : Flags → ℕ → Section → Closing → List Bool
section_bits g p s e =
    open_bits g (raw_size s) (cond (goes_on e) (end_of g p s e / 8) 0) s.channels ++ inner (words_at g p s.channels) s.channels s.words e

pub section-length : (g : Flags) (p : ℕ) (s : Section) (e : Closing) → p + length (section_bits g p s e) ≡ end_of g p s e
unfolding section_bits end_of
section-length g p s e =
    omega (arith, length-append (open_bits g (raw_size s) (cond (goes_on e) (end_of g p s e / 8) 0) s.channels) (inner (words_at g p s.channels) s.channels s.words e), open_length g (raw_size s) (cond (goes_on e) (end_of g p s e / 8) 0) s.channels)

-- behind the raw size: the pointer if flagged, the descriptions and the rest
pointed-bits : (t : Bool) (g : Flags) (room : Bool) (p n : ℕ) (x : Piece) → g.pointed ≡ t → count_words x.section.channels first (raw_size x.section) (raw_size x.section) ≡ Some n →
    filled ((choose t (ahead 32 (λ (x : Piece) (q : ℕ). cond (goes_on x.closing) (q / 8) 0) 15 (body g room (raw_size x.section))) (body g room (raw_size x.section))).cells (p + 32) x) ≡
    (cond t (bits 32 (cond (goes_on x.closing) (end_of g p x.section x.closing / 8) 0)) [] ++ written (described g) 0 x.section.channels) ++
    inner (words_at g p x.section.channels) x.section.channels x.section.words x.closing
unfolding choose ahead end_of opened
pointed-bits true g room p n x f h =
    let s = x.section in
    let cs = s.channels in
    let e = x.closing in
    let D = written (described g) 0 cs in
    let B = (body g room (raw_size s)).cells (p + 32 + 32) x in
    let w : p + 32 + 32 + length D ≡ p + (32 + cond g.pointed 32 0 + length D) = omega (arith, ap {B = ℕ} (λ t. cond t 32 0) f) in
    let b : filled B ≡ D ++ inner (p + (32 + cond g.pointed 32 0 + length D)) cs s.words e = body-bits g room (raw_size s) (p + 32 + 32) n x h ∙ ap (λ k. D ++ inner k cs s.words e) w in
    let I = inner (p + (32 + cond g.pointed 32 0 + length D)) cs s.words e in
    let l : p + 32 + 32 + length B ≡ p + (32 + cond g.pointed 32 0 + length D) + length I = omega (arith, length-filled B, ap length b, length-append D I) in
    filled-append (cells.bits 32 (cond (goes_on e) ((p + 32 + 32 + length B) / 8) 0)) B
    ∙ ap (λ y. y ++ filled B) (filled-bits 32 (cond (goes_on e) ((p + 32 + 32 + length B) / 8) 0))
    ∙ ap (λ y. bits 32 (cond (goes_on e) ((p + 32 + 32 + length B) / 8) 0) ++ y) b
    ∙ ap (λ k. bits 32 (cond (goes_on e) (k / 8) 0) ++ (D ++ I)) l
    ∙ sym (append_assoc (bits 32 (cond (goes_on e) ((p + (32 + cond g.pointed 32 0 + length D) + length I) / 8) 0)) D I)
pointed-bits false g room p n x f h =
    let s = x.section in
    let cs = s.channels in
    let D = written (described g) 0 cs in
    let w : p + 32 + length D ≡ p + (32 + cond g.pointed 32 0 + length D) = omega (arith, ap {B = ℕ} (λ t. cond t 32 0) f) in
    body-bits g room (raw_size s) (p + 32) n x h ∙ ap (λ k. D ++ inner k cs s.words x.closing) w

pub piece-bits : (g : Flags) (room : Bool) (total p n : ℕ) (x : Piece) → count_words x.section.channels first (raw_size x.section) (raw_size x.section) ≡ Some n →
    filled ((piece g room total).cells p x) ≡ section_bits g p x.section x.closing
unfolding piece judged field ◌>>=◌ section_bits open_bits
piece-bits g room total p n x h =
    let s = x.section in
    let cs = s.channels in
    let raw = raw_size s in
    let e = x.closing in
    let R = cells.bits 32 raw in
    let F = choose g.pointed (ahead 32 (λ (x : Piece) (q : ℕ). cond (goes_on x.closing) (q / 8) 0) 15 (body g room raw)) (body g room raw) in
    let lr : length R ≡ 32 = sym (length-filled R) ∙ ap length (filled-bits 32 raw) ∙ length-bits 32 raw in
    let X = cond g.pointed (bits 32 (cond (goes_on e) (end_of g p s e / 8) 0)) [] ++ written (described g) 0 cs in
    filled-append R (F.cells (p + length R) x)
    ∙ ap (λ y. y ++ filled (F.cells (p + length R) x)) (filled-bits 32 raw)
    ∙ ap (λ k. bits 32 raw ++ filled (F.cells (p + k) x)) lr
    ∙ ap (λ y. bits 32 raw ++ y) (pointed-bits g.pointed g room p n x refl h)
    ∙ sym (append_assoc (bits 32 raw) X (inner (words_at g p cs) cs s.words e))
