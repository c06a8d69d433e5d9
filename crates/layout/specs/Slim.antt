-- The slim file as one description of fields: from it follow both the bytes of a recording and the reading of bytes.
use Rattle.std.specs.Prelude.{ℕ, zero, suc, ◌+◌, ◌-◌, ◌*◌, ◌/◌, ◌%◌, ◌^◌, Bool, true, false, cond, not, ◌&&◌, ◌||◌, ltb, leb, List, [], ◌∷◌, length, Some, None, Option, ◌==◌, nat_eq, nat_le, nat_lt}
use Rattle.bits.specs.Bits.{bits_of}
use Rattle.format.specs.Format.{Outcome, got, fault, next, Format, field, whole, refuse, ◌>>=◌, ◌∈◌, padding, judged, choose, one, times, ahead}
use Rattle.layout.specs.Recording.{Channel, Section, Recording}
use Rattle.layout.specs.Channels.{width, ruled}
use Rattle.layout.specs.Turns.{first, first_turn, raw_size, count_words, words_from}

-- ## Limits

-- a file has at most so many bytes, and so have its sections' raw bytes together
abbrev pub most_bytes : ℕ
most_bytes = 16777216

abbrev pub most_sections : ℕ
most_sections = 64

abbrev pub most_channels : ℕ
most_channels = 32

abbrev pub most_name : ℕ
most_name = 255

-- ## Bytes

abbrev pub any : ℕ → Bool
any v = true

abbrev pub positive : ℕ → Bool
positive v = nat_lt 0 v

unfoldable pub byte : Format ℕ
byte = field 8 any 0

-- n bytes, as one field
unfoldable pub block : ℕ → Format (List ℕ)
block n = one (times n byte)

abbrev pub head_of : List ℕ → ℕ
head_of [] = 0
head_of (b ∷ bs) = b

abbrev pub tail_of : List ℕ → List ℕ
tail_of [] = []
tail_of (b ∷ bs) = bs

-- a name's bytes, each a field, and the zero byte behind them; after k bytes only the zero may follow
unfoldable pub name_bytes : ℕ → Format (List ℕ)
name_bytes zero = do
  _ ← (λ bs. 0) ∈ field 8 (nat_eq 0) 4
  whole []
name_bytes (suc k) = do
  b ← head_of ∈ byte
  choose (b == 0) (whole []) (do
    bs ← tail_of ∈ name_bytes k
    whole (b ∷ bs))

-- a count of 16 bits and so many bytes
unfoldable pub extra_bytes : Format (List ℕ)
extra_bytes = do
  n ← length ∈ field 16 any 0
  choose (n == 0) (whole []) (block n)

abbrev pub given : Option (List ℕ) → List ℕ
given None = []
given (Some bs) = bs

abbrev pub is_given : Option (List ℕ) → Bool
is_given None = false
is_given (Some bs) = true

-- a part that is there where its flag is set
unfoldable pub flagged : Bool → Format (List ℕ) → Format (Option (List ℕ))
flagged true F = do
  bs ← given ∈ F
  whole (Some bs)
flagged false F = whole None

-- ## Channel descriptions

abbrev pub bit : Bool → ℕ
bit b = cond b 1 0

-- what the algorithm adds: reduced binary its pedestal and R − 1, constant its word
unfoldable pub added : ℕ → ℕ → ℕ → ℕ → ℕ → Format Channel
added n d b a t =
    choose (positive (width t) && a == 1)
    (do
      p ← (λ c. c.value) ∈ field (width t) any 0
      r ← (λ c. c.narrow - 1) ∈ field 5 any 0
      whole (record { repeats = n; delta = (d == 1); turn = b; algorithm = a; kind = t; narrow = suc r; value = p }))
    (choose (positive (width t) && a == 6)
    (do
      v ← (λ c. c.value) ∈ field (width t) any 0
      whole (record { repeats = n; delta = (d == 1); turn = b; algorithm = a; kind = t; narrow = 0; value = v }))
    (whole (record { repeats = n; delta = (d == 1); turn = b; algorithm = a; kind = t; narrow = 0; value = 0 })))

-- a channel's description, whose repeats may not be recorded; it is read whole before it is judged
unfoldable pub channel : Bool → Format Channel
channel recorded = judged (do
  n ← (λ c. c.repeats) ∈ choose recorded (field 24 any 0) (whole 1)
  d ← (λ c. bit c.delta) ∈ field 1 any 0
  b ← (λ c. c.turn) ∈ field 5 any 0
  a ← (λ c. c.algorithm) ∈ field 4 any 0
  t ← (λ c. c.kind) ∈ field 4 any 0
  added n d b a t) (λ c q. ruled c) 6

-- ## What closes a section

-- another section follows, or the file ends with some leftovers
pub data Closing : Type 0 where
  another : Closing
  ended : List ℕ → Closing

abbrev pub leftovers_of : Closing → List ℕ
leftovers_of another = []
leftovers_of (ended ls) = ls

abbrev pub end_tag : List ℕ → ℕ
end_tag [] = 15
end_tag (b ∷ bs) = 14

abbrev pub tag : Closing → ℕ
tag another = 8
tag (ended ls) = end_tag ls

abbrev pub is_tag : ℕ → Bool
is_tag t = cond (t == 8) true (cond (t == 14) true (t == 15))

abbrev pub goes_on : Closing → Bool
goes_on another = true
goes_on (ended ls) = false

unfoldable pub leftover : Format Closing
leftover = do
  n ← (λ c. length (leftovers_of c)) ∈ field 3 positive 10
  ls ← leftovers_of ∈ block n
  whole (ended ls)

unfoldable pub closing : Format Closing
closing = do
  t ← tag ∈ field 4 is_tag 17
  choose (t == 8) (whole another) (choose (t == 15) (whole (ended [])) leftover)

-- ## Sections

-- the flags that a section goes by
pub record Flags : Type 0 where
  pub pointed : Bool
  pub single : Bool
  pub unrepeated : Bool

-- a section and what closes it
pub record Piece : Type 0 where
  pub section : Section
  pub closing : Closing

-- repeats are recorded with more than one channel, unless the flags say that there are none
abbrev pub recorded : Flags → ℕ → Bool
recorded g count = nat_lt 1 count && not g.unrepeated

abbrev pub channel_count : Flags → Format ℕ
channel_count g = choose g.single (whole 1) (field 24 (λ c. positive c && nat_le c most_channels) 5)

-- the words, if the raw bytes make whole ones, and what closes the section; whether another may follow is known
unfoldable pub counted : Option ℕ → (ℕ → Format Piece) → Format Piece
counted None F = refuse 13
counted (Some n) F = F n

unfoldable pub closed : Bool → List Channel → ℕ → Format Piece
closed room cs n = do
  ws ← (λ x. x.section.words) ∈ words_from cs n (first_turn cs)
  e ← (λ x. x.closing) ∈ judged closing (λ e q. not (goes_on e) || room) 9
  _ ← (λ x. tt) ∈ padding
  whole (record { section = record { channels = cs; words = ws }; closing = e })

-- behind the raw size and the pointer
unfoldable pub body : Flags → Bool → ℕ → Format Piece
body g room raw = do
  c ← (λ x. length x.section.channels) ∈ channel_count g
  cs ← (λ x. x.section.channels) ∈ times c (channel (recorded g c))
  counted (count_words cs first raw raw) (closed room cs)

-- a section after so many raw bytes; its pointer names the byte behind it where another section follows, else 0
unfoldable pub piece : Flags → Bool → ℕ → Format Piece
piece g room total = do
  raw ← (λ x. raw_size x.section) ∈ judged (field 32 positive 8) (λ v q. leb (total + v) most_bytes) 9
  choose g.pointed
      (ahead 32 (λ x q. cond (goes_on x.closing) (q / 8) 0) 15 (body g room raw))
      (body g room raw)

-- sections one behind the other, and the leftovers
pub record Body : Type 0 where
  pub sections : List Section
  pub leftovers : List ℕ

abbrev pub no_section : Section
no_section = record { channels = []; words = [] }

abbrev pub closing_of : List Section → List ℕ → Closing
closing_of [] ls = ended ls
closing_of (s ∷ ss) ls = another

abbrev pub piece_of : List Section → List ℕ → Piece
piece_of [] ls = record { section = no_section; closing = ended ls }
piece_of (s ∷ ss) ls = record { section = s; closing = closing_of ss ls }

abbrev pub leading : Body → Piece
leading b = piece_of b.sections b.leftovers

abbrev pub rest_of : List Section → List Section
rest_of [] = []
rest_of (s ∷ ss) = ss

abbrev pub rest : Body → Body
rest b = record { sections = rest_of b.sections; leftovers = b.leftovers }

unfoldable pub behind : Format Body → Section → Closing → Format Body
behind F s another = do
  b ← rest ∈ F
  whole (record { sections = s ∷ b.sections; leftovers = b.leftovers })
behind F s (ended ls) = whole (record { sections = s ∷ []; leftovers = ls })

-- at most k sections, after so many raw bytes
unfoldable pub chain : Flags → ℕ → ℕ → Format Body
chain g zero total = refuse 9
chain g (suc k) total = do
  x ← leading ∈ piece g (positive k) total
  behind (chain g k (total + raw_size x.section)) x.section x.closing

-- ## The file

-- the sum of all raw sizes
unfoldable pub raw_total : List Section → ℕ
raw_total [] = 0
raw_total (s ∷ ss) = raw_size s + raw_total ss

abbrev pub flag : ℕ → ℕ → Bool
flag i g = g / 2 ^ i % 2 == 1

-- the flag byte, from the lowest bit: size, name, extra, pointer, one channel, no repeat
abbrev pub flag_byte : Recording → ℕ
flag_byte r =
    cond r.sized 1 0 + (cond (is_given r.name) 2 0 + (cond (is_given r.extra) 4 0 +
    (cond r.pointed 8 0 + (cond r.single 16 0 + cond r.unrepeated 32 0))))

-- behind the flag byte and the size
unfoldable pub after_flags : ℕ → ℕ → Format Recording
after_flags s g = do
  n ← (λ r. r.name) ∈ flagged (flag 1 g) (name_bytes most_name)
  x ← (λ r. r.extra) ∈ flagged (flag 2 g) extra_bytes
  b ← (λ r. record { sections = r.sections; leftovers = r.leftovers }) ∈ chain (record { pointed = flag 3 g; single = flag 4 g; unrepeated = flag 5 g }) most_sections 0
  whole (record { stamp = s; sized = flag 0 g; pointed = flag 3 g; single = flag 4 g; unrepeated = flag 5 g; name = n; extra = x; sections = b.sections; leftovers = b.leftovers })

-- the bytes 53 4c, the stamp, the flags, the size if flagged, and the rest
unfoldable pub recording : Format Recording
recording = do
  _ ← (λ r. 0x4c53) ∈ field 16 (nat_eq 0x4c53) 12
  s ← (λ r. r.stamp) ∈ field 32 any 0
  g ← flag_byte ∈ field 8 (λ g. ltb g 64) 3
  choose (flag 0 g) (ahead 32 (λ r q. raw_total r.sections) 14 (after_flags s g)) (after_flags s g)

-- reading a file: fault 1 first, and last that the file ends behind the recording
unfoldable pub read : List ℕ → Outcome Recording
read f =
    cond (nat_lt most_bytes (length f)) (fault 1 0)
    (next (recording.reads (bits_of f) 0 0) (λ r p l. cond (p == 8 * length f) (got r p l) (fault 18 l)))
