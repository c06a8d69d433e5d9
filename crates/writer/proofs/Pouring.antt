-- All words of raw bytes, put one after the other.
use Rattle.std.proofs.Common.{◌≡◌, ℕ, zero, suc, ◌+◌, ◌-◌, ◌*◌, ◌/◌, ◌<◌, ◌≤◌, Bool, true, false, cond, not, ◌&&◌, ◌||◌, eqb, ltb, leb, List, [], ◌∷◌, length, get_or, take, drop, set, Some, None, Ok, Err, Option, Result, sym, refl, ap, ◌∙◌, subst, arith, length-drop}
use lib.ListN.{get_or-map}
use lib.Seq.{map-set_same}
use Rattle.std.proofs.lemmas.List.{length-map}
use Rattle.std.proofs.lemmas.Bool.{and_parts, eq-eqb, ne_eqb, lt-ltb, le-ltb}
use Rattle.std.proofs.lemmas.Bool.Decides.{nat_tests}
use Rattle.bits.specs.Bits.{bits_of, number, put_bits, field_at}
use Rattle.bits.proofs.Files.{take-bits_of}
use Rattle.bits.proofs.Laws.{length-put_bits}
use Rattle.fields.specs.Fields.{is_raw}
use Rattle.forms.proofs.Codes.{some_same, none-some}
use Rattle.layout.specs.Recording as recordings
use Rattle.layout.specs.Channels.{width, ruled}
use Rattle.layout.specs.Plain.{Every}
use Rattle.layout.specs.Turns as turns
use Rattle.layout.specs.Turns.{no_channel, channel_of, following, advance, word_bytes, raw_bytes}
use Rattle.layout.proofs.Spots.{word_some}
use Rattle.channel.specs.declared.record.Channel.{Channel}
use Rattle.channel.specs.Records.{settings_of, remembering}
use Rattle.state.specs.declared.Edge.{Edge}
use Rattle.state.specs.declared.Spot.{Spot}
use Rattle.calls.specs.Calls.{Trouble, answer, unless, settings, describable, no_row, next_row, coded, row_bytes, form_in, memory_of, moved_on, putting, put_result, put_spot, put_bytes, put_table, raw_words, words_of, cut_short, Putting, longer, puts}
use Rattle.calls.proofs.Keeping.{put_fits}
use Rattle.writer.specs.Filling.{Opened, Pours, poured, poured_result}
use Rattle.writer.proofs.Putting.{moved}

-- ## The words of raw bytes

-- whose word is next
abbrev pub turn_at : Spot → turns.Spot
turn_at s = record { channel = s.channel; given = s.given }

all-ruled : (k : Bool) (cs : List recordings.Channel) → describable k cs ≡ true → Every (λ c. ruled c ≡ true) cs
unfolding describable Every
all-ruled k [] h = tt
all-ruled k (c ∷ cs) h =
    let (r, t) = and_parts (ruled c) ((k || eqb c.repeats 1) && describable k cs) h in
    (r, all-ruled k cs (and_parts (k || eqb c.repeats 1) (describable k cs) t).1)

-- too few bytes for a word
words-none : (cs : List recordings.Channel) (s : turns.Spot) (k : ℕ) (raw : List ℕ) → length raw < word_bytes cs s → raw_words cs s k raw ≡ []
unfolding raw_words
words-none cs s zero raw h = refl
words-none cs s (suc k) raw h =
    let ws : List ℕ = number (bits_of (take (word_bytes cs s) raw)) ∷ raw_words cs (advance cs s) k (drop (word_bytes cs s) raw) in
    ap (λ t. cond (eqb (length raw) 0 || t) [] ws) (lt-ltb (length raw) (word_bytes cs s) h) ∙ go (eqb (length raw) 0) ws
  where
    go : (t : Bool) (ws : List ℕ) → cond (t || true) [] ws ≡ []
    go true ws = refl
    go false ws = refl

word_first : (k : ℕ) (raw : List ℕ) → k ≤ length raw → number (bits_of (take k raw)) ≡ field_at raw 0 (8 * k)
unfolding field_at
word_first k raw h = ap number (sym (take-bits_of k raw h))

-- a word and those behind it
words-next : (cs : List recordings.Channel) (s : turns.Spot) (k : ℕ) (raw : List ℕ) → 0 < word_bytes cs s → word_bytes cs s ≤ length raw → length raw ≤ k →
    raw_words cs s k raw ≡ field_at raw 0 (8 * word_bytes cs s) ∷ raw_words cs (advance cs s) (k - 1) (drop (word_bytes cs s) raw)
unfolding raw_words
words-next cs s zero raw p h l = absurd (omega arith)
words-next cs s (suc k) raw p h l =
    let n : ℕ = word_bytes cs s in
    let x : ℕ = number (bits_of (take (word_bytes cs s) raw)) in
    let ws : List ℕ = raw_words cs (advance cs s) k (drop (word_bytes cs s) raw) in
    let a : eqb (length raw) 0 ≡ false = ne_eqb (length raw) 0 (λ e. omega arith) in
    let b : ltb (length raw) n ≡ false = le-ltb (length raw) n h in
    let j : k ≡ suc k - 1 = omega arith in
    ap (λ t. cond (t || ltb (length raw) n) [] (x ∷ ws)) a ∙ ap (λ t. cond t [] (x ∷ ws)) b ∙ ap (λ y. y ∷ ws) (word_first n raw h)
    ∙ ap (λ i. field_at raw 0 (8 * n) ∷ raw_words cs (advance cs s) i (drop n raw)) j

-- their raw bytes
bytes-more : (cs : List recordings.Channel) (s : turns.Spot) (w : ℕ) (ws : List ℕ) → raw_bytes cs s (length (w ∷ ws)) ≡ word_bytes cs s + raw_bytes cs (advance cs s) (length ws)
unfolding raw_bytes
bytes-more cs s w ws = refl

bytes-none : (cs : List recordings.Channel) (s : turns.Spot) → raw_bytes cs s 0 ≡ 0
unfolding raw_bytes
bytes-none cs s = refl

-- does a raw word lie at the front?
lies : (at size len x w : ℕ) → at ≡ 0 → Some w ≡ cond (is_raw at size len) (Some x) None → (size ≤ len) × (w ≡ x)
lies at size len x w z h = go (is_raw at size len) refl h
  where
    go : (t : Bool) → is_raw at size len ≡ t → Some w ≡ cond t (Some x) None → (size ≤ len) × (w ≡ x)
    go true e h = (grind (arith, nat_tests), some_same h)
    go false e h = absurd (none-some (sym h))

lies-not : (at size len x : ℕ) → at ≡ 0 → 0 < size → size ≤ 4 → None ≡ cond (is_raw at size len) (Some x) None → len < size
lies-not at size len x z a b h = go (is_raw at size len) refl h
  where
    go : (t : Bool) → is_raw at size len ≡ t → None ≡ cond t (Some x) None → len < size
    go true e h = absurd (none-some h)
    go false e h = grind (arith, nat_tests)

-- ## Puts

puts_none : (s : Spot) (b : List ℕ) (t : List Channel) → puts s b t [] ≡ record { fault = None; sum = 0; spot = s; bytes = b; table = t }
unfolding puts
puts_none s b t = refl

puts-on : (s : Spot) (b : List ℕ) (t : List Channel) (w : ℕ) (ws : List ℕ) → putting s b t w ≡ None → puts s b t (w ∷ ws) ≡ longer (length (form_in (coded (next_row s t) w))) (puts (put_spot s b t w) (put_bytes s b t w) (put_table s b t w) ws)
unfolding puts
puts-on s b t w ws q =
    ap (λ o. elim o as (λ x. Putting) [ None ↦ longer (length (form_in (coded (next_row s t) w))) (puts (put_spot s b t w) (put_bytes s b t w) (put_table s b t w) ws) | Some f ↦ record { fault = Some f; sum = 0; spot = s; bytes = b; table = t } ]) q

puts-stuck : (s : Spot) (b : List ℕ) (t : List Channel) (w : ℕ) (ws : List ℕ) (f : Trouble) → putting s b t w ≡ Some f → puts s b t (w ∷ ws) ≡ record { fault = Some f; sum = 0; spot = s; bytes = b; table = t }
unfolding puts
puts-stuck s b t w ws f q =
    ap (λ o. elim o as (λ x. Putting) [ None ↦ longer (length (form_in (coded (next_row s t) w))) (puts (put_spot s b t w) (put_bytes s b t w) (put_table s b t w) ws) | Some f ↦ record { fault = Some f; sum = 0; spot = s; bytes = b; table = t } ]) q

longer-twice : (m n : ℕ) (p : Putting) → longer m (longer n p) ≡ longer (m + n) p
longer-twice m n p = ap (λ z. record { fault = p.fault; sum = z; spot = p.spot; bytes = p.bytes; table = p.table }) (omega arith)

-- what an answer says of the fault
accepted : (o : Option Trouble) (n m : ℕ) → Ok n ≡ answer {E = Trouble} o m (λ f. f) → (o ≡ None) × (n ≡ m)
accepted None n m e = (refl, cc)
accepted (Some f) n m e = let z : ◌≡◌ {A = ℕ} 0 1 = cc in absurd (omega arith)

refused : (o : Option Trouble) (f : Trouble) (m : ℕ) → Err f ≡ answer {E = Trouble} o m (λ f. f) → o ≡ Some f
refused None f m e = let z : ◌≡◌ {A = ℕ} 0 1 = cc in absurd (omega arith)
refused (Some g) f m e = let z : g ≡ f = cc in ap Some z

-- one word put, and then others
put-joins : (s : Spot) (b : List ℕ) (t : List Channel) (bits n w : ℕ) (ws : List ℕ) (u : Spot) (d : List ℕ) (v : List Channel) → Ok n ≡ put_result s b t w → u ≡ put_spot s b t w → d ≡ put_bytes s b t w → v ≡ put_table s b t w →
    longer (bits + n) (puts u d v ws) ≡ longer bits (puts s b t (w ∷ ws))
put-joins s b t bits n w ws u d v a is ib it =
    let k : ℕ = length (form_in (coded (next_row s t) w)) in
    let (o, e) = accepted (putting s b t w) n k a in
    let p : Putting = puts (put_spot s b t w) (put_bytes s b t w) (put_table s b t w) ws in
    ap (λ y. longer (bits + n) (puts y d v ws)) is ∙ ap (λ y. longer (bits + n) (puts (put_spot s b t w) y v ws)) ib ∙ ap (λ y. longer (bits + n) (puts (put_spot s b t w) (put_bytes s b t w) y ws)) it
    ∙ ap (λ y. longer (bits + y) p) e ∙ sym (longer-twice bits k p) ∙ ap (longer bits) (sym (puts-on s b t w ws o))

-- the room of a word that was put
put-room : (s : Spot) (b : List ℕ) (t : List Channel) (w : ℕ) → putting s b t w ≡ None → s.at.bits + length (form_in (coded (next_row s t) w)) ≤ 8 * length b
put-room s b t w o =
    let P = put_fits s (length b) (length t) (next_row s t) (coded (next_row s t) w) o in
    subst (λ y. s.at.bits + length y ≤ 8 * length b) (sym (ap form_in P.has)) P.room

-- a spot moves on as the turn does
moved-turn : (cs : List recordings.Channel) (s : Spot) (c : Channel) (n : ℕ) → channel_of cs (turn_at s) ≡ settings_of c → length cs ≡ s.rows → turn_at (moved_on s c n) ≡ advance cs (turn_at s)
moved-turn cs s c n e r =
    let i : suc s.given ≡ s.given + 1 = omega arith in
    let A : Bool → ℕ → ℕ → turns.Spot = λ t g k. cond t (record { channel = following k s.channel; given = 0 }) (record { channel = s.channel; given = g }) in
    go (leb c.settings.repeats (s.given + 1))
    ∙ sym (ap (λ (x : recordings.Channel). A (leb x.repeats (suc s.given)) (suc s.given) (length cs)) e
    ∙ ap (λ g. A (leb c.settings.repeats g) g (length cs)) i ∙ ap (A (leb c.settings.repeats (s.given + 1)) (s.given + 1)) r)
  where
    go : (t : Bool) →
        turn_at (cond t
        (record { edge = s.edge; at = record { bits = s.at.bits + n }; rows = s.rows; channel = following s.rows s.channel; given = 0; raw = s.raw + row_bytes c })
        (record { edge = s.edge; at = record { bits = s.at.bits + n }; rows = s.rows; channel = s.channel; given = s.given + 1; raw = s.raw + row_bytes c }))
        ≡ cond t (record { channel = following s.rows s.channel; given = 0 }) (record { channel = s.channel; given = s.given + 1 })
    go true = refl
    go false = refl

moved-rows : (s : Spot) (c : Channel) (n : ℕ) → (moved_on s c n).rows ≡ s.rows
moved-rows s c n = go (leb c.settings.repeats (s.given + 1))
  where
    go : (t : Bool) →
        (cond {A = Spot} t
        (record { edge = s.edge; at = record { bits = s.at.bits + n }; rows = s.rows; channel = following s.rows s.channel; given = 0; raw = s.raw + row_bytes c })
        (record { edge = s.edge; at = record { bits = s.at.bits + n }; rows = s.rows; channel = s.channel; given = s.given + 1; raw = s.raw + row_bytes c })).rows ≡ s.rows
    go true = refl
    go false = refl

-- ## The loop

-- the words left to put give the rest of the answer
pub record Going (s0 : Spot) (b0 : List ℕ) (t0 : List Channel) (raw : List ℕ) (s : Spot) (b : List ℕ) (t : List Channel) (rest : List ℕ) (bits : ℕ) : Type 0 where
  pub far : ℕ
  pub reach : length rest ≤ far
  pub words : longer bits (puts s b t (raw_words (settings t0) (turn_at s) far rest)) ≡ poured s0 b0 t0 raw
  pub count : length raw + raw_bytes (settings t0) (turn_at s) (length (raw_words (settings t0) (turn_at s) far rest)) ≡ length rest + raw_bytes (settings t0) turns.first (length (words_of (settings t0) raw))
  pub same : settings t ≡ settings t0
  pub len : length b ≡ s.edge.len
  pub rows : length t ≡ s.rows
  pub sum : bits + s0.at.bits ≡ s.at.bits

-- at the start
pub starts : (s : Spot) (b : List ℕ) (t : List Channel) (raw : List ℕ) → Opened s b t → Going s b t raw s b t raw 0
starts s b t raw o =
    let e : turn_at s ≡ turns.first = ap {B = turns.Spot} (λ z. record { channel = z; given = s.given }) o.channel ∙ ap {B = turns.Spot} (λ z. record { channel = 0; given = z }) o.given in
    record {
      far = length raw;
      reach = omega arith;
      words = none-longer (puts s b t (raw_words (settings t) (turn_at s) (length raw) raw)) ∙ ap (λ z. puts s b t (raw_words (settings t) z (length raw) raw)) e;
      count = ap (λ z. length raw + raw_bytes (settings t) z (length (raw_words (settings t) z (length raw) raw))) e;
      same = refl;
      len = o.len;
      rows = o.rows;
      sum = omega arith;
    }
  where
    none-longer : (p : Putting) → longer 0 p ≡ p
    none-longer p = ap (λ z. record { fault = p.fault; sum = z; spot = p.spot; bytes = p.bytes; table = p.table }) (omega arith)

-- what the call leaves
left_by : (s0 : Spot) (b0 : List ℕ) (t0 : List Channel) (raw : List ℕ) (p : Putting) (cut : Bool) (r : Result ℕ Trouble) → poured s0 b0 t0 raw ≡ p → cut_short (settings t0) raw ≡ cut → r ≡ poured_result p cut → Pours s0 b0 t0 raw r p.spot p.bytes p.table
left_by s0 b0 t0 raw p cut r e c h = record {
  answer = h ∙ sym (ap (λ y. poured_result y (cut_short (settings t0) raw)) e ∙ ap (poured_result p) c);
  state = sym (ap (λ (y : Putting). y.spot) e);
  left = sym (ap (λ (y : Putting). y.bytes) e);
  rows = sym (ap (λ (y : Putting). y.table) e);
}

module _ (s0 : Spot) (b0 : List ℕ) (t0 : List Channel) (raw : List ℕ) (O : Opened s0 b0 t0) (s : Spot) (b : List ℕ) (t : List Channel) (rest : List ℕ) (bits : ℕ) (G : Going s0 b0 t0 raw s b t rest bits)
    (turn : s.channel < s.rows) where
  -- the row whose word is next
  row_is : channel_of (settings t0) (turn_at s) ≡ settings_of (next_row s t)
  row_is = ap (λ cs. get_or cs s.channel no_channel) (sym G.same) ∙ get_or-map settings_of t s.channel no_row

  size_is : word_bytes (settings t0) (turn_at s) ≡ row_bytes (next_row s t)
  size_is = ap (λ (c : recordings.Channel). width c.kind / 8) row_is

  rows_are : length (settings t0) ≡ s.rows
  rows_are = ap length (sym G.same) ∙ length-map t settings_of ∙ G.rows

  size-some : 0 < word_bytes (settings t0) (turn_at s)
  size-some = word_some (settings t0) (all-ruled O.kept (settings t0) O.rules) (turn_at s) (omega (arith, rows_are))

  -- the word that lies at the front, and the words behind it
  next_word : (at size w : ℕ) → at ≡ 0 → size ≡ row_bytes (next_row s t) → Some w ≡ cond (is_raw at size (length rest)) (Some (field_at rest (8 * at) (8 * size))) None →
      (size ≤ length rest) × (raw_words (settings t0) (turn_at s) G.far rest ≡ w ∷ raw_words (settings t0) (advance (settings t0) (turn_at s)) (G.far - 1) (drop size rest))
  next_word at size w z e h =
      let (l, x) = lies at size (length rest) (field_at rest (8 * at) (8 * size)) w z h in
      let i : word_bytes (settings t0) (turn_at s) ≡ size = size_is ∙ sym e in
      let j : 8 * at ≡ 0 = omega arith in
      let n = words-next (settings t0) (turn_at s) G.far rest size-some (omega arith) G.reach in (
        l,
        n ∙ ap (λ z. field_at rest 0 (8 * z) ∷ raw_words (settings t0) (advance (settings t0) (turn_at s)) (G.far - 1) (drop z rest)) i
            ∙ ap (λ y. y ∷ raw_words (settings t0) (advance (settings t0) (turn_at s)) (G.far - 1) (drop size rest)) (sym (x ∙ ap (λ z. field_at rest z (8 * size)) j)),
      )

  -- no word lies there
  no_word : (at size : ℕ) → at ≡ 0 → size ≡ row_bytes (next_row s t) → size ≤ 4 → None ≡ cond (is_raw at size (length rest)) (Some (field_at rest (8 * at) (8 * size))) None →
      raw_words (settings t0) (turn_at s) G.far rest ≡ []
  no_word at size z e m h =
      let i : word_bytes (settings t0) (turn_at s) ≡ size = size_is ∙ sym e in
      words-none (settings t0) (turn_at s) G.far rest (omega (arith, i, lies-not at size (length rest) (field_at rest (8 * at) (8 * size)) z (omega (arith, i, size-some)) m h))

  -- a word was put
  pub goes_on-is : (at size w n : ℕ) (u : Spot) (d : List ℕ) (v : List Channel) → at ≡ 0 → size ≡ row_bytes (next_row s t) → Some w ≡ cond (is_raw at size (length rest)) (Some (field_at rest (8 * at) (8 * size))) None →
      Ok n ≡ put_result s b t w → u ≡ put_spot s b t w → d ≡ put_bytes s b t w → v ≡ put_table s b t w → Going s0 b0 t0 raw u d v (drop size rest) (bits + n)
  goes_on-is at size w n u d v y z x a is ib it =
      let c : Channel = next_row s t in
      let f : List Bool = form_in (coded (next_row s t) w) in
      let m : ℕ = memory_of (coded (next_row s t) w) in
      let (o, e) = accepted (putting s b t w) n (length f) a in
      let S : u ≡ moved_on s c n = is ∙ ap (λ o. unless o s (moved_on s c (length f))) o ∙ ap (moved_on s c) (sym e) in
      let B : d ≡ put_bits b s.at.bits f = ib ∙ ap (λ o. unless o b (put_bits b s.at.bits f)) o in
      let T : v ≡ set t s.channel (remembering c m) = it ∙ ap (λ o. unless o t (set t s.channel (remembering c m))) o in
      let M = moved s c n in
      let turned : turn_at u ≡ advance (settings t0) (turn_at s) = ap turn_at S ∙ moved-turn (settings t0) s c n row_is rows_are in
      let (l, ws) = next_word at size w y z x in
      let D : length (drop size rest) ≡ length rest - size = simp length-drop refl in
      let ss : settings v ≡ settings t = ap settings T ∙ map-set_same settings_of t s.channel (remembering c m) no_row refl in
      let room : s.at.bits + length f ≤ 8 * length b = put-room s b t w o in
      let edge : u.edge ≡ s.edge = ap (λ (y : Spot). y.edge) S ∙ M.edge in
      record {
        far = G.far - 1;
        reach = omega (arith, G.reach, size-some, size_is, z);
        words =
            ap (λ y. longer (bits + n) (puts u d v (raw_words (settings t0) y (G.far - 1) (drop size rest)))) turned
            ∙ put-joins s b t bits n w (raw_words (settings t0) (advance (settings t0) (turn_at s)) (G.far - 1) (drop size rest)) u d v a is ib it
            ∙ ap (λ y. longer bits (puts s b t y)) (sym ws) ∙ G.words;
        count =
            ap (λ y. length raw + raw_bytes (settings t0) y (length (raw_words (settings t0) y (G.far - 1) (drop size rest)))) turned
            ∙ omega (
              arith,
              G.count,
              ap (λ y. raw_bytes (settings t0) (turn_at s) (length y)) ws,
              bytes-more (settings t0) (turn_at s) w (raw_words (settings t0) (advance (settings t0) (turn_at s)) (G.far - 1) (drop size rest)),
              size_is,
              z,
              l,
              D,
            );
        same = ss ∙ G.same;
        len = ap length B ∙ length-put_bits b s.at.bits f room ∙ G.len ∙ ap (λ (y : Edge). y.len) (sym edge);
        rows = sym (length-map v settings_of) ∙ ap length ss ∙ length-map t settings_of ∙ G.rows ∙ sym (ap (λ (y : Spot). y.rows) S ∙ moved-rows s c n);
        sum = omega (arith, G.sum, ap (λ (y : Spot). y.at.bits) S, M.at);
      }

  -- the words end here
  ends : raw_words (settings t0) (turn_at s) G.far rest ≡ [] →
      (poured s0 b0 t0 raw ≡ record { fault = None; sum = bits; spot = s; bytes = b; table = t }) × (length raw ≡ length rest + raw_bytes (settings t0) turns.first (length (words_of (settings t0) raw)))
  ends e =
      let i : bits + 0 ≡ bits = omega arith in (
        sym G.words ∙ ap (λ y. longer bits (puts s b t y)) e ∙ ap (longer bits) (puts_none s b t) ∙ ap (λ y. record { fault = None; sum = y; spot = s; bytes = b; table = t }) i,
        omega (arith, G.count, ap (λ y. raw_bytes (settings t0) (turn_at s) (length y)) e, bytes-none (settings t0) (turn_at s)),
      )

  -- all words are put
  pub all-put : length rest ≡ 0 → Pours s0 b0 t0 raw (Ok bits) s b t
  all-put h =
      let (p, q) = ends (words-none (settings t0) (turn_at s) G.far rest (omega (arith, size-some))) in
      let x = eq-eqb (raw_bytes (settings t0) turns.first (length (words_of (settings t0) raw))) (length raw) (omega arith) in
      left_by s0 b0 t0 raw (record { fault = None; sum = bits; spot = s; bytes = b; table = t }) false (Ok bits) p (ap not x) refl

  -- bytes are left that are no whole word
  pub cut_off : (at size : ℕ) → at ≡ 0 → size ≡ row_bytes (next_row s t) → size ≤ 4 → 0 < length rest → None ≡ cond (is_raw at size (length rest)) (Some (field_at rest (8 * at) (8 * size))) None → Pours s0 b0 t0 raw (Err (13, s.at.bits)) s b t
  cut_off at size y e m h n =
      let (p, q) = ends (no_word at size y e m n) in
      let x = ne_eqb (raw_bytes (settings t0) turns.first (length (words_of (settings t0) raw))) (length raw) (λ i. omega arith) in
      left_by s0 b0 t0 raw (record { fault = None; sum = bits; spot = s; bytes = b; table = t }) true (Err (13, s.at.bits)) p (ap not x) refl

  -- a word was refused
  pub stuck : (at size w : ℕ) (f : Trouble) (u : Spot) (d : List ℕ) (v : List Channel) → at ≡ 0 → size ≡ row_bytes (next_row s t) → Some w ≡ cond (is_raw at size (length rest)) (Some (field_at rest (8 * at) (8 * size))) None →
      Err f ≡ put_result s b t w → u ≡ put_spot s b t w → d ≡ put_bytes s b t w → v ≡ put_table s b t w → Pours s0 b0 t0 raw (Err f) u d v
  stuck at size w f u d v y z x a is ib it =
      let g : List Bool = form_in (coded (next_row s t) w) in
      let o = refused (putting s b t w) f (length g) a in
      let (l, ws) = next_word at size w y z x in
      let S : u ≡ s = is ∙ ap (λ o. unless o s (moved_on s (next_row s t) (length g))) o in
      let B : d ≡ b = ib ∙ ap (λ o. unless o b (put_bits b s.at.bits g)) o in
      let T : v ≡ t = it ∙ ap (λ o. unless o t (set t s.channel (remembering (next_row s t) (memory_of (coded (next_row s t) w))))) o in
      let p : poured s0 b0 t0 raw ≡ record { fault = Some f; sum = bits + 0; spot = s; bytes = b; table = t } =
      sym G.words ∙ ap (λ y. longer bits (puts s b t y)) ws ∙ ap (longer bits) (puts-stuck s b t w (raw_words (settings t0) (advance (settings t0) (turn_at s)) (G.far - 1) (drop size rest)) f o) in
      let L = left_by s0 b0 t0 raw (record { fault = Some f; sum = bits + 0; spot = s; bytes = b; table = t }) (cut_short (settings t0) raw) (Err f) p refl refl in
      record { answer = L.answer; state = S ∙ L.state; left = B ∙ L.left; rows = T ∙ L.rows }
