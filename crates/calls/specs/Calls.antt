-- What each call of the writer answers and leaves, for any writer, buffer and table.
use Rattle.std.specs.Prelude.{ℕ, zero, suc, ◌+◌, ◌*◌, ◌/◌, Bool, true, false, cond, not, ◌&&◌, ◌||◌, List, [], ◌∷◌, map, length, take, drop, replicate, Some, None, Ok, Err, Option, Result, ◌==◌, nat_le, nat_lt, slice_index_or, slice_set}
use Rattle.bits.specs.Bits.{bits, bits_of, number, put_bits, cleared_from}
use Rattle.forms.specs.Coding.{encoded}
use Rattle.layout.specs.Recording as recordings
use Rattle.layout.specs.Channels.{width, ruled, pile}
use Rattle.layout.specs.Turns as turns
use Rattle.layout.specs.Turns.{advance, word_bytes, raw_bytes}
use Rattle.layout.specs.Slim as slim
use Rattle.layout.specs.Slim.{most_bytes, most_sections, most_channels, most_name, recorded, Closing, another, ended}
use Rattle.channel.specs.declared.record.Channel.{Channel}
use Rattle.channel.specs.Records.{settings_of, rested, remembering}
use Rattle.state.specs.declared.Flags.{Flags}
use Rattle.state.specs.declared.Edge.{Edge}
use Rattle.state.specs.declared.Spot.{Spot}
use Rattle.calls.specs.Parts.{Marks, head_bits, open_bits, closing_bits}

-- A fault: its number, and its place in bits.
abbrev pub Trouble : Type 0
Trouble = ℕ × ℕ

-- what a call answers, by the fault that it meets, if any
abbrev pub answer : {A E : Type 0} → Option Trouble → A → (Trouble → E) → Result A E
answer None a e = Ok a
answer (Some f) a e = Err (e f)

-- what a call leaves: where it meets a fault, what was there before
abbrev pub unless : {A : Type 0} → Option Trouble → A → A → A
unless None before after = after
unless (Some f) before after = before

-- the settings of a table's rows
abbrev pub settings : List Channel → List recordings.Channel
settings t = map settings_of t

abbrev pub marks : Flags → Marks
marks g = record { sized = g.sized; pointed = g.pointed; single = g.single; unrepeated = g.unrepeated }

abbrev pub flags : Flags → slim.Flags
flags g = record { pointed = g.pointed; single = g.single; unrepeated = g.unrepeated }

-- ## begin

unfoldable pub zero_free : List ℕ → Bool
zero_free [] = true
zero_free (b ∷ bs) = not (b == 0) && zero_free bs

abbrev pub name_fits : Option (List ℕ) → Bool
name_fits None = true
name_fits (Some bs) = nat_le (length bs) most_name && zero_free bs

abbrev pub extra_fits : Option (List ℕ) → Bool
extra_fits None = true
extra_fits (Some bs) = nat_le (length bs) 65535

abbrev pub begin_fault : Option (List ℕ) → Option (List ℕ) → List Bool → ℕ → Option Trouble
begin_fault name extra head len =
    cond (nat_lt most_bytes len) (Some (1, 0))
    (cond (not (name_fits name && extra_fits extra)) (Some (4, 0))
    (cond (nat_lt (8 * len) (length head)) (Some (2, 0))
    None))

abbrev pub begun : Flags → List Bool → ℕ → Edge
begun g head len = record { len = len; flags = g; at = record { bytes = length head / 8 }; sections = 0; raw = 0 }

-- the head's size field is 0
abbrev pub head : ℕ → Flags → Option (List ℕ) → Option (List ℕ) → List Bool
head stamp g name extra = head_bits stamp (marks g) name extra 0

abbrev pub begin_result : ℕ → Flags → Option (List ℕ) → Option (List ℕ) → List ℕ → Result Edge Trouble
begin_result stamp g name extra b = answer (begin_fault name extra (head stamp g name extra) (length b)) (begun g (head stamp g name extra) (length b)) (λ f. f)

abbrev pub begin_bytes : ℕ → Flags → Option (List ℕ) → Option (List ℕ) → List ℕ → List ℕ
begin_bytes stamp g name extra b = unless (begin_fault name extra (head stamp g name extra) (length b)) b (put_bits (replicate (length b) 0) 0 (head stamp g name extra))

-- ## open

-- the rows can be described: they keep the rules, and repeats that are not recorded are 1
unfoldable pub describable : Bool → List recordings.Channel → Bool
describable kept [] = true
describable kept (c ∷ cs) = ruled c && ((kept || c.repeats == 1) && describable kept cs)

abbrev pub wrong_count : Flags → ℕ → Bool
wrong_count g n = n == 0 || (nat_lt most_channels n || (g.single && not (n == 1)))

abbrev pub start : Edge → ℕ
start e = 8 * e.at.bytes

abbrev pub open_fault : Edge → List recordings.Channel → List Bool → ℕ → Option Trouble
open_fault e cs section len =
    cond (not (len == e.len)) (Some (1, 0))
    (cond (wrong_count e.flags (length cs)) (Some (5, start e))
    (cond (not (describable (recorded (flags e.flags) (length cs)) cs)) (Some (6, start e))
    (cond (nat_lt (8 * len) (start e + length section)) (Some (2, start e))
    None)))

-- the section's head: raw size and pointer are 0
abbrev pub section : Edge → List Channel → List Bool
section e t = open_bits (flags e.flags) 0 0 (settings t)

abbrev pub open_spot : Edge → List Bool → ℕ → Spot
open_spot e section n = record { edge = e; at = record { bits = start e + length section }; rows = n; channel = 0; given = 0; raw = 0 }

abbrev pub opening : Edge → List ℕ → List Channel → Option Trouble
opening e b t = open_fault e (settings t) (section e t) (length b)

abbrev pub open_result : Edge → List ℕ → List Channel → Result Spot (Edge × Trouble)
open_result e b t = answer (opening e b t) (open_spot e (section e t) (length t)) (λ f. (e, f))

abbrev pub open_bytes : Edge → List ℕ → List Channel → List ℕ
open_bytes e b t = unless (opening e b t) b (put_bits b (start e) (section e t))

abbrev pub open_table : Edge → List ℕ → List Channel → List Channel
open_table e b t = unless (opening e b t) t (map rested t)

-- ## put

-- a row where there is none: every number 0, every flag false
abbrev pub no_row : Channel
no_row = record { settings = record { repeats = 0; delta = false; turn = 0; algorithm = 0; kind = 0; narrow = 0; value = 0 }; memory = 0 }

-- the row whose word is next
abbrev pub next_row : Spot → List Channel → Channel
next_row s t = slice_index_or t s.channel no_row

-- a word's form in a row, and the memory behind it
abbrev pub coded : Channel → ℕ → Option (List Bool × (ℕ × Unit {0}))
coded c w = encoded (pile (settings_of c)) (c.memory, tt) w

abbrev pub form_fault : ℕ → ℕ → Option (List Bool × (ℕ × Unit {0})) → Option Trouble
form_fault at len None = Some (7, at)
form_fault at len (Some (form, m)) = cond (nat_lt (8 * len) (at + length form)) (Some (2, at)) None

abbrev pub row_bytes : Channel → ℕ
row_bytes c = width c.settings.kind / 8

-- another length of the buffer or of the table than before
abbrev pub strange : Spot → ℕ → ℕ → Bool
strange s len rows = not (len == s.edge.len && rows == s.rows)

abbrev pub put_fault : Spot → ℕ → ℕ → Channel → Option (List Bool × (ℕ × Unit {0})) → Option Trouble
put_fault s len rows c f =
    cond (strange s len rows) (Some (1, 0))
    (cond (not (ruled (settings_of c))) (Some (7, s.at.bits))
    (cond (nat_lt most_bytes (s.edge.raw + (s.raw + row_bytes c))) (Some (9, s.at.bits))
    (form_fault s.at.bits len f)))

abbrev pub form_in : Option (List Bool × (ℕ × Unit {0})) → List Bool
form_in None = []
form_in (Some (form, m)) = form

abbrev pub memory_of : Option (List Bool × (ℕ × Unit {0})) → ℕ
memory_of None = 0
memory_of (Some (form, m)) = m.0

-- a row gives way once its repeats are reached or passed
abbrev pub moved_on : Spot → Channel → ℕ → Spot
moved_on s c n =
    cond (nat_le c.settings.repeats (s.given + 1))
    (record { edge = s.edge; at = record { bits = s.at.bits + n }; rows = s.rows; channel = turns.following s.rows s.channel; given = 0; raw = s.raw + row_bytes c })
    (record { edge = s.edge; at = record { bits = s.at.bits + n }; rows = s.rows; channel = s.channel; given = s.given + 1; raw = s.raw + row_bytes c })

abbrev pub putting : Spot → List ℕ → List Channel → ℕ → Option Trouble
putting s b t w = put_fault s (length b) (length t) (next_row s t) (coded (next_row s t) w)

abbrev pub put_result : Spot → List ℕ → List Channel → ℕ → Result ℕ Trouble
put_result s b t w = answer (putting s b t w) (length (form_in (coded (next_row s t) w))) (λ f. f)

abbrev pub put_spot : Spot → List ℕ → List Channel → ℕ → Spot
put_spot s b t w = unless (putting s b t w) s (moved_on s (next_row s t) (length (form_in (coded (next_row s t) w))))

abbrev pub put_bytes : Spot → List ℕ → List Channel → ℕ → List ℕ
put_bytes s b t w = unless (putting s b t w) b (put_bits b s.at.bits (form_in (coded (next_row s t) w)))

abbrev pub put_table : Spot → List ℕ → List Channel → ℕ → List Channel
put_table s b t w = unless (putting s b t w) t (slice_set t s.channel (remembering (next_row s t) (memory_of (coded (next_row s t) w))))

-- ## more and last

-- the section's own fields: the raw size and, if flagged, the pointer
abbrev pub fields_filled : Spot → ℕ → List ℕ → List ℕ
fields_filled s pointer b = cond s.edge.flags.pointed (put_bits (put_bits b (start s.edge) (bits 32 s.raw)) (start s.edge + 32) (bits 32 pointer)) (put_bits b (start s.edge) (bits 32 s.raw))

-- the bytes behind a closing
abbrev pub behind : Spot → List Bool → ℕ
behind s closing = (s.at.bits + length closing) / 8

abbrev pub more_fault : Spot → List Bool → ℕ → ℕ → Option Trouble
more_fault s closing len rows =
    cond (strange s len rows) (Some (1, 0))
    (cond (s.raw == 0) (Some (8, s.at.bits))
    (cond (nat_le most_sections (s.edge.sections + 1)) (Some (9, s.at.bits))
    (cond (nat_lt (8 * len) (s.at.bits + length closing)) (Some (2, s.at.bits))
    None)))

-- behind a closed section
abbrev pub closed_edge : Spot → List Bool → Edge
closed_edge s closing =
    record { len = s.edge.len; flags = s.edge.flags; at = record { bytes = behind s closing }; sections = s.edge.sections + 1; raw = s.edge.raw + s.raw }

abbrev pub closing : Spot → Closing → List Bool
closing s e = closing_bits s.at.bits e

abbrev pub more_result : Spot → List ℕ → List Channel → Result Edge (Spot × Trouble)
more_result s b t = answer (more_fault s (closing s another) (length b) (length t)) (closed_edge s (closing s another)) (λ f. (s, f))

abbrev pub more_bytes : Spot → List ℕ → List Channel → List ℕ
more_bytes s b t =
    unless (more_fault s (closing s another) (length b) (length t)) b
    (fields_filled s (behind s (closing s another)) (put_bits b s.at.bits (closing s another)))

abbrev pub last_fault : Spot → List ℕ → List Bool → ℕ → ℕ → Option Trouble
last_fault s leftovers closing len rows =
    cond (strange s len rows) (Some (1, 0))
    (cond (s.raw == 0) (Some (8, s.at.bits))
    (cond (nat_lt 7 (length leftovers)) (Some (10, s.at.bits))
    (cond (nat_lt (8 * len) (s.at.bits + length closing)) (Some (2, s.at.bits))
    None)))

abbrev pub last_result : Spot → List ℕ → List Channel → List ℕ → Result ℕ (Spot × Trouble)
last_result s b t ls = answer (last_fault s ls (closing s (ended ls)) (length b) (length t)) (behind s (closing s (ended ls))) (λ f. (s, f))

-- the size field, if flagged: behind the two bytes, the stamp and the flags
abbrev pub size_filled : Spot → List ℕ → List ℕ
size_filled s b = cond s.edge.flags.sized (put_bits b 56 (bits 32 (s.edge.raw + s.raw))) b

abbrev pub last_bytes : Spot → List ℕ → List Channel → List ℕ → List ℕ
last_bytes s b t ls =
    unless (last_fault s ls (closing s (ended ls)) (length b) (length t)) b
    (size_filled s (fields_filled s 0 (put_bits b s.at.bits (closing s (ended ls)))))

-- ## void

abbrev pub void_fault : Spot → ℕ → ℕ → Option Trouble
void_fault s len rows = cond (strange s len rows) (Some (1, 0)) None

abbrev pub void_result : Spot → List ℕ → List Channel → Result Edge (Spot × Trouble)
void_result s b t = answer (void_fault s (length b) (length t)) s.edge (λ f. (s, f))

abbrev pub void_bytes : Spot → List ℕ → List Channel → List ℕ
void_bytes s b t = unless (void_fault s (length b) (length t)) b (cleared_from b (start s.edge))

abbrev pub void_table : Spot → List ℕ → List Channel → List Channel
void_table s b t = unless (void_fault s (length b) (length t)) t (map rested t)

-- ## fill

-- the whole words of raw bytes, low byte first, each as wide as its channel's words, looking at most so far
unfoldable pub raw_words : List recordings.Channel → turns.Spot → ℕ → List ℕ → List ℕ
raw_words cs s zero raw = []
raw_words cs s (suc k) raw =
    cond (length raw == 0 || nat_lt (length raw) (word_bytes cs s)) []
    (number (bits_of (take (word_bytes cs s) raw)) ∷ raw_words cs (advance cs s) k (drop (word_bytes cs s) raw))

abbrev pub words_of : List recordings.Channel → List ℕ → List ℕ
words_of cs raw = raw_words cs turns.first (length raw) raw

-- raw bytes that end inside a word
abbrev pub cut_short : List recordings.Channel → List ℕ → Bool
cut_short cs raw = not (raw_bytes cs turns.first (length (words_of cs raw)) == length raw)

-- words put one after the other, until one meets a fault: the fault if any, the sum of the forms' lengths, and what there is then
pub record Putting : Type 0 where
  pub fault : Option Trouble
  pub sum : ℕ
  pub spot : Spot
  pub bytes : List ℕ
  pub table : List Channel

abbrev pub longer : ℕ → Putting → Putting
longer n p = record { fault = p.fault; sum = n + p.sum; spot = p.spot; bytes = p.bytes; table = p.table }

unfoldable pub puts : Spot → List ℕ → List Channel → List ℕ → Putting
puts s b t [] = record { fault = None; sum = 0; spot = s; bytes = b; table = t }
puts s b t (w ∷ ws) =
    elim (putting s b t w) [
      | None ↦ longer (length (form_in (coded (next_row s t) w))) (puts (put_spot s b t w) (put_bytes s b t w) (put_table s b t w) ws)
      | Some f ↦ record { fault = Some f; sum = 0; spot = s; bytes = b; table = t }
    ]

abbrev pub fill_puts : Edge → List ℕ → List Channel → List ℕ → Putting
fill_puts e b t raw = puts (open_spot e (section e t) (length t)) (open_bytes e b t) (open_table e b t) (words_of (settings t) raw)

-- the first of two faults
abbrev pub earlier : Option Trouble → Option Trouble → Option Trouble
earlier None o = o
earlier (Some f) o = Some f

-- the fault behind the opening
abbrev pub later_fault : Putting → Bool → Option Trouble
later_fault p cut = earlier p.fault (cond cut (Some (13, p.spot.at.bits)) None)

abbrev pub fill_answer : Option Trouble → Edge → Putting → Bool → Result (ℕ × Spot) (Edge × Trouble)
fill_answer o e p cut = answer (earlier o (later_fault p cut)) (p.sum, p.spot) (λ f. (e, f))

abbrev pub fill_result : Edge → List ℕ → List Channel → List ℕ → Result (ℕ × Spot) (Edge × Trouble)
fill_result e b t raw = fill_answer (opening e b t) e (fill_puts e b t raw) (cut_short (settings t) raw)

-- a faulted section is zeroed, and its memories are at their start
abbrev pub fill_leaves : {A : Type 0} → Option Trouble → Option Trouble → A → A → A → A
fill_leaves o later before struck after = unless o before (unless later struck after)

abbrev pub fill_bytes : Edge → List ℕ → List Channel → List ℕ → List ℕ
fill_bytes e b t raw =
    fill_leaves (opening e b t) (later_fault (fill_puts e b t raw) (cut_short (settings t) raw)) b
    (cleared_from (fill_puts e b t raw).bytes (start e)) (fill_puts e b t raw).bytes

abbrev pub fill_table : Edge → List ℕ → List Channel → List ℕ → List Channel
fill_table e b t raw =
    fill_leaves (opening e b t) (later_fault (fill_puts e b t raw) (cut_short (settings t) raw)) t
    (map rested (fill_puts e b t raw).table) (fill_puts e b t raw).table
