-- The writer's puts into a table of one row are a stream.
use Rattle.std.proofs.Common.{◌≡◌, ℕ, zero, suc, ◌+◌, ◌-◌, ◌*◌, ◌%◌, ◌<◌, ◌≤◌, Bool, true, false, cond, not, ◌&&◌, ltb, leb, List, [], ◌∷◌, ◌++◌, length, set, Some, None, Option, sym, refl, ap, ◌∙◌, mod-eq_of_lt, mul-zero, mul-suc, arith}
use native.Mathlib.Nat.{add-mod_right}
use Rattle.std.proofs.lemmas.Bool.{and_parts, eq-eqb, le-ltb, lt-ltb, leb-true, leb-false, ltb-false, ltb-true}
use Rattle.std.specs.Option.{option_map}
use Rattle.bits.specs.Bits.{put_bits}
use Rattle.bits.proofs.Laws.{length-put_bits}
use Rattle.forms.specs.Coding.{Coding, encoded}
use Rattle.layout.specs.Channels.{width, suits, ruled, pile}
use Rattle.layout.specs.Slim.{most_bytes}
use Rattle.channel.specs.declared.record.Channel.{Channel}
use Rattle.channel.specs.Records.{settings_of, remembering}
use Rattle.state.specs.declared.Edge.{Edge}
use Rattle.state.specs.declared.Spot.{Spot}
use Rattle.calls.specs.Calls.{Trouble, unless, coded, form_fault, row_bytes, put_fault, form_in, memory_of, moved_on, putting, next_row, put_spot, put_bytes, put_table, Putting, longer, puts}
use Rattle.stream.specs.Stream.{Stream, stopped, streamed}

-- ## Where a row alone stands

-- inside a section of one row
abbrev pub alone : Edge → ℕ → ℕ → ℕ → Spot
alone e at given raw = record { edge = e; at = record { bits = at }; rows = 1; channel = 0; given = given; raw = raw }

-- how many words in a row it has given behind one more, and behind n more
abbrev pub given_next : ℕ → ℕ → ℕ
given_next repeats given = cond (leb repeats (given + 1)) 0 (given + 1)

unfoldable pub given_after : ℕ → ℕ → ℕ → ℕ
given_after repeats given zero = given
given_after repeats given (suc n) = given_after repeats (given_next repeats given) n

-- what the puts leave, by the stream from n words on
abbrev outcome : Edge → ℕ → ℕ → ℕ → Channel → ℕ → Stream → Putting
outcome e at given raw c n r = record {
  fault = option_map (λ f. (f, r.at)) r.fault;
  sum = r.at - at;
  spot = alone e r.at (given_after c.settings.repeats given (r.words - n)) (raw + row_bytes c * (r.words - n));
  bytes = r.bytes;
  table = remembering c r.memory ∷ [];
}

moved : (e : Edge) (at given raw : ℕ) (c : Channel) (n : ℕ) → moved_on (alone e at given raw) c n ≡ alone e (at + n) (given_next c.settings.repeats given) (raw + row_bytes c)
moved e at given raw c n = go (leb c.settings.repeats (given + 1))
  where
    go : (t : Bool) → cond t (alone e (at + n) 0 (raw + row_bytes c)) (alone e (at + n) (given + 1) (raw + row_bytes c)) ≡ alone e (at + n) (cond t 0 (given + 1)) (raw + row_bytes c)
    go true = refl
    go false = refl

-- the fault of one word is that of its form, within the limit
module _ (e : Edge) (at given raw : ℕ) (b : List ℕ) (c : Channel) (whole : length b ≡ e.len) (keeps : ruled (settings_of c) ≡ true) where
  tests : (o : Option (List Bool × (ℕ × Unit {0}))) → put_fault (alone e at given raw) (length b) 1 c o ≡ cond (ltb most_bytes (e.raw + (raw + row_bytes c))) (Some (9, at)) (form_fault at (length b) o)
  tests o =
      let F : Bool → Bool → Option Trouble = λ x y. cond (not (x && true)) (Some (1, 0)) (cond (not y) (Some (7, at)) (cond (ltb most_bytes (e.raw + (raw + row_bytes c))) (Some (9, at)) (form_fault at (length b) o))) in
      ap (λ x. F x (ruled (settings_of c))) (eq-eqb (length b) e.len whole) ∙ ap (F true) keeps

  put-within : (w : ℕ) → e.raw + (raw + row_bytes c) ≤ most_bytes → putting (alone e at given raw) b (c ∷ []) w ≡ form_fault at (length b) (coded c w)
  put-within w h = tests (coded c w) ∙ ap (λ t. cond t (Some (9, at)) (form_fault at (length b) (coded c w))) (le-ltb most_bytes (e.raw + (raw + row_bytes c)) h)

  put-past : (w : ℕ) → most_bytes < e.raw + (raw + row_bytes c) → putting (alone e at given raw) b (c ∷ []) w ≡ Some (9, at)
  put-past w h = tests (coded c w) ∙ ap (λ t. cond t (Some (9, at)) (form_fault at (length b) (coded c w))) (lt-ltb most_bytes (e.raw + (raw + row_bytes c)) h)

-- ## The stream

-- one word of a stream, by what the coder answers
module _ (C : Coding (ℕ × Unit {0})) (len n m at : ℕ) (b ws : List ℕ) where
  abbrev pub stepped : Option (List Bool × (ℕ × Unit {0})) → Option ℕ → Stream
  stepped o f =
      elim f [
        | None ↦ streamed C len (n + 1) (memory_of o) (at + length (form_in o)) (put_bits b at (form_in o)) ws
        | Some k ↦ record { words = n; at = at; memory = m; fault = Some k; bytes = b }
      ]

-- words and places only grow
pub grows : (C : Coding (ℕ × Unit {0})) (len n m at : ℕ) (b ws : List ℕ) → (n ≤ (streamed C len n m at b ws).words) × (at ≤ (streamed C len n m at b ws).at)
unfolding streamed
grows C len n m at b [] = (omega arith, omega arith)
grows C len n m at b (w ∷ ws) = go (encoded C (m, tt) w) (stopped len at (encoded C (m, tt) w)) (grows C len (n + 1) (memory_of (encoded C (m, tt) w)) (at + length (form_in (encoded C (m, tt) w))) (put_bits b at (form_in (encoded C (m, tt) w))) ws)
  where
    go : (o : Option (List Bool × (ℕ × Unit {0}))) (f : Option ℕ) →
        (n + 1 ≤ (streamed C len (n + 1) (memory_of o) (at + length (form_in o)) (put_bits b at (form_in o)) ws).words) × (at + length (form_in o) ≤ (streamed C len (n + 1) (memory_of o) (at + length (form_in o)) (put_bits b at (form_in o)) ws).at) →
        (n ≤ (stepped C len n m at b ws o f).words) × (at ≤ (stepped C len n m at b ws o f).at)
    go o None (p, q) = (omega arith, omega arith)
    go o (Some k) h = (omega arith, omega arith)

-- ## Puts

-- nothing more was put
stays : (e : Edge) (at given raw : ℕ) (b : List ℕ) (c : Channel) (n : ℕ) (f : Option ℕ) →
    record { fault = option_map (λ k. (k, at)) f; sum = 0; spot = alone e at given raw; bytes = b; table = c ∷ [] } ≡ outcome e at given raw c n (record { words = n; at = at; memory = c.memory; fault = f; bytes = b })
unfolding given_after
stays e at given raw b c n f =
    let i : 0 ≡ at - at = omega arith in
    let j : 0 ≡ n - n = omega arith in
    let k : raw ≡ raw + row_bytes c * 0 = omega (arith, mul-zero (row_bytes c)) in
    let M : ℕ → ℕ → ℕ → Putting = λ x y z. record { fault = option_map (λ k. (k, at)) f; sum = x; spot = alone e at (given_after c.settings.repeats given y) z; bytes = b; table = c ∷ [] } in
    ap (M 0 0) k ∙ ap (λ x. M x 0 (raw + row_bytes c * 0)) i ∙ ap (λ y. M (at - at) y (raw + row_bytes c * y)) j

-- one word and then others
joins : (e : Edge) (at given raw l m : ℕ) (c : Channel) (n : ℕ) (r : Stream) → n + 1 ≤ r.words → at + l ≤ r.at →
    longer l (outcome e (at + l) (given_next c.settings.repeats given) (raw + row_bytes c) (remembering c m) (n + 1) r) ≡ outcome e at given raw c n r
unfolding given_after
joins e at given raw l m c n r p q =
    let i : l + (r.at - (at + l)) ≡ r.at - at = omega arith in
    let d : ℕ = r.words - (n + 1) in
    let j : suc (r.words - (n + 1)) ≡ r.words - n = omega arith in
    let k : raw + row_bytes c + row_bytes c * (r.words - (n + 1)) ≡ raw + row_bytes c * suc (r.words - (n + 1)) = omega (arith, mul-suc (row_bytes c) (r.words - (n + 1))) in
    let M : ℕ → ℕ → ℕ → Putting = λ x y z. record { fault = option_map (λ f. (f, r.at)) r.fault; sum = x; spot = alone e r.at y z; bytes = r.bytes; table = remembering c r.memory ∷ [] } in
    ap (λ x. M x (given_after c.settings.repeats given (suc (r.words - (n + 1)))) (raw + row_bytes c + row_bytes c * (r.words - (n + 1)))) i
    ∙ ap (M (r.at - at) (given_after c.settings.repeats given (suc (r.words - (n + 1))))) k ∙ ap (λ y. M (r.at - at) (given_after c.settings.repeats given y) (raw + row_bytes c * y)) j

-- one word put, by what the coder answers and the fault
abbrev put_by : Spot → List ℕ → Channel → List ℕ → Option (List Bool × (ℕ × Unit {0})) → Option Trouble → Option Trouble → Putting
put_by s b c ws o p q =
    elim q [
      | None ↦ longer (length (form_in o)) (puts (unless p s (moved_on s c (length (form_in o)))) (unless p b (put_bits b s.at.bits (form_in o))) (unless p (c ∷ []) (set (c ∷ []) 0 (remembering c (memory_of o)))) ws)
      | Some f ↦ record { fault = Some f; sum = 0; spot = s; bytes = b; table = c ∷ [] }
    ]

abbrev one_put : Spot → List ℕ → Channel → List ℕ → Option (List Bool × (ℕ × Unit {0})) → Option Trouble → Putting
one_put s b c ws o q = put_by s b c ws o q q

module _ (e : Edge) (at given raw : ℕ) (b : List ℕ) (c : Channel) (n : ℕ) (ws : List ℕ) (whole : length b ≡ e.len)
    (rest : (f : List Bool) (m : ℕ) → length (put_bits b at f) ≡ e.len →
    puts (alone e (at + length f) (given_next c.settings.repeats given) (raw + row_bytes c)) (put_bits b at f) (remembering c m ∷ []) ws
    ≡ outcome e (at + length f) (given_next c.settings.repeats given) (raw + row_bytes c) (remembering c m) (n + 1) (streamed (pile (settings_of c)) e.len (n + 1) m (at + length f) (put_bits b at f) ws)) where
  -- by whether the form passes the end
  by-room : (form : List Bool) (m : ℕ × Unit {0}) (t : Bool) → ltb (8 * e.len) (at + length form) ≡ t →
      one_put (alone e at given raw) b c ws (Some (form, m)) (cond t (Some (2, at)) None) ≡ outcome e at given raw c n (stepped (pile (settings_of c)) e.len n c.memory at b ws (Some (form, m)) (cond t (Some 2) None))
  by-room form m true d = stays e at given raw b c n (Some 2)
  by-room form m false d =
      let fits : at + length form ≤ 8 * e.len = ltb-false (8 * e.len) (at + length form) d in
      let l : length (put_bits b at form) ≡ e.len = length-put_bits b at form (omega arith) ∙ whole in
      let (p, q) = grows (pile (settings_of c)) e.len (n + 1) m.0 (at + length form) (put_bits b at form) ws in
      ap (λ s. longer (length form) (puts s (put_bits b at form) (remembering c m.0 ∷ []) ws)) (moved e at given raw c (length form)) ∙ ap (longer (length form)) (rest form m.0 l)
      ∙ joins e at given raw (length form) m.0 c n (streamed (pile (settings_of c)) e.len (n + 1) m.0 (at + length form) (put_bits b at form) ws) p q

  by_form : (o : Option (List Bool × (ℕ × Unit {0}))) →
      one_put (alone e at given raw) b c ws o (form_fault at e.len o) ≡ outcome e at given raw c n (stepped (pile (settings_of c)) e.len n c.memory at b ws o (stopped e.len at o))
  by_form None = stays e at given raw b c n (Some 7)
  by_form (Some (form, m)) = by-room form m (ltb (8 * e.len) (at + length form)) refl

-- the words put from a spot on, where they keep within the limit
stream_from : (ws : List ℕ) (e : Edge) (at given raw : ℕ) (b : List ℕ) (c : Channel) (n : ℕ) → length b ≡ e.len → ruled (settings_of c) ≡ true → e.raw + (raw + row_bytes c * length ws) ≤ most_bytes →
    puts (alone e at given raw) b (c ∷ []) ws ≡ outcome e at given raw c n (streamed (pile (settings_of c)) e.len n c.memory at b ws)
unfolding puts streamed
stream_from [] e at given raw b c n l r h = stays e at given raw b c n None
stream_from (w ∷ ws) e at given raw b c n l r h =
    let k : row_bytes c * suc (length ws) ≡ row_bytes c * length ws + row_bytes c = mul-suc (row_bytes c) (length ws) in
    ap (one_put (alone e at given raw) b c ws (coded c w)) (put-within e at given raw b c l r w (omega arith) ∙ ap (λ z. form_fault at z (coded c w)) l)
    ∙ by_form e at given raw b c n ws l (λ f m d. stream_from ws e (at + length f) (given_next c.settings.repeats given) (raw + row_bytes c) (put_bits b at f) (remembering c m) (n + 1) d r (omega arith)) (coded c w)

-- ## What the writer uses

-- what the puts leave, by the stream
abbrev pub left : Edge → ℕ → ℕ → ℕ → Channel → Stream → Putting
left e at given raw c r = record {
  fault = option_map (λ f. (f, r.at)) r.fault;
  sum = r.at - at;
  spot = alone e r.at (given_after c.settings.repeats given r.words) (raw + row_bytes c * r.words);
  bytes = r.bytes;
  table = remembering c r.memory ∷ [];
}

-- puts into a table of one row, within the limit of raw bytes: the stream from the row's memory on
pub one-row : (e : Edge) (at given raw : ℕ) (b : List ℕ) (c : Channel) (ws : List ℕ) → length b ≡ e.len → ruled (settings_of c) ≡ true → e.raw + (raw + row_bytes c * length ws) ≤ most_bytes →
    puts (alone e at given raw) b (c ∷ []) ws ≡ left e at given raw c (streamed (pile (settings_of c)) (length b) 0 c.memory at b ws)
one-row e at given raw b c ws l r h =
    stream_from ws e at given raw b c 0 l r h ∙ whole (streamed (pile (settings_of c)) e.len 0 c.memory at b ws)
    ∙ ap (λ z. left e at given raw c (streamed (pile (settings_of c)) z 0 c.memory at b ws)) (sym l)
  where
    whole : (r : Stream) → outcome e at given raw c 0 r ≡ left e at given raw c r
    whole r =
        let i : r.words - 0 ≡ r.words = omega arith in
        ap (λ z. record { fault = option_map (λ f. (f, r.at)) r.fault; sum = r.at - at; spot = alone e r.at (given_after c.settings.repeats given z) (raw + row_bytes c * z); bytes = r.bytes; table = remembering c r.memory ∷ [] }) i

-- how many words in a row a channel has given, from a start
given-from : (r n g : ℕ) → g < r → given_after r g n ≡ (g + n) % r
unfolding given_after
given-from r zero g h = sym (ap (λ z. z % r) (omega arith) ∙ mod-eq_of_lt h)
given-from r (suc n) g h = go (leb r (g + 1)) refl (λ k. given-from r n k)
  where
    go : (t : Bool) → leb r (g + 1) ≡ t → ((k : ℕ) → k < r → given_after r k n ≡ (k + n) % r) → given_after r (cond t 0 (g + 1)) n ≡ (g + suc n) % r
    go true d i =
        let x : g + 1 ≡ r = omega (arith, leb-true r (g + 1) d) in
        i 0 (omega arith) ∙ sym (add-mod_right (0 + n) r) ∙ ap (λ z. z % r) (omega arith)
    go false d i = i (g + 1) (leb-false r (g + 1) d) ∙ ap (λ z. z % r) (omega arith)

pub given_mod : (r n : ℕ) → 1 ≤ r → given_after r 0 n ≡ n % r
given_mod r n h = given-from r n 0 h ∙ ap (λ z. z % r) (omega arith)

-- a ruled row has repeats
pub repeats-some : (c : Channel) → ruled (settings_of c) ≡ true → 1 ≤ c.settings.repeats
repeats-some c h =
    let k : ℕ = c.settings.repeats in
    let w : ℕ = width c.settings.kind in
    ltb-true 0 k (and_parts (ltb 0 k) (leb k 16777215 && (ltb c.settings.turn w && suits w c.settings.algorithm c.settings.narrow c.settings.value)) h).0

pub given-fresh : (c : Channel) (n : ℕ) → ruled (settings_of c) ≡ true → given_after c.settings.repeats 0 n ≡ n % c.settings.repeats
given-fresh c n h = given_mod c.settings.repeats n (repeats-some c h)

-- a spot of one row
pub alone-is : (s : Spot) → s.rows ≡ 1 → s.channel ≡ 0 → s ≡ alone s.edge s.at.bits s.given s.raw
alone-is s r h =
    ap (λ z. record { edge = s.edge; at = s.at; rows = z; channel = s.channel; given = s.given; raw = s.raw }) r
    ∙ ap (λ z. record { edge = s.edge; at = s.at; rows = 1; channel = z; given = s.given; raw = s.raw }) h

-- a word more than the limit allows
pub past-limit : (e : Edge) (at given raw : ℕ) (b : List ℕ) (c : Channel) (w : ℕ) (ws : List ℕ) → length b ≡ e.len → ruled (settings_of c) ≡ true → most_bytes < e.raw + (raw + row_bytes c) →
    puts (alone e at given raw) b (c ∷ []) (w ∷ ws) ≡ record { fault = Some (9, at); sum = 0; spot = alone e at given raw; bytes = b; table = c ∷ [] }
unfolding puts
past-limit e at given raw b c w ws l r h = ap (one_put (alone e at given raw) b c ws (coded c w)) (put-past e at given raw b c l r w h)

-- ## Some words and then others

-- what follows the puts of the first words
abbrev pub continued : Putting → List ℕ → Putting
continued p ws =
    elim p.fault [
      | None ↦ longer p.sum (puts p.spot p.bytes p.table ws)
      | Some f ↦ p
    ]

longer-none : (p : Putting) → p ≡ longer 0 p
longer-none p = ap (λ z. record { fault = p.fault; sum = z; spot = p.spot; bytes = p.bytes; table = p.table }) (omega arith)

longer-continued : (n : ℕ) (p : Putting) (ws : List ℕ) → longer n (continued p ws) ≡ continued (longer n p) ws
longer-continued n p ws = go p.fault refl
  where
    go : (o : Option Trouble) → p.fault ≡ o →
        longer n (elim o [ None ↦ longer p.sum (puts p.spot p.bytes p.table ws) | Some f ↦ p ]) ≡ elim o [ None ↦ longer (n + p.sum) (puts p.spot p.bytes p.table ws) | Some f ↦ longer n p ]
    go None e = let q = puts p.spot p.bytes p.table ws in ap (λ z. record { fault = q.fault; sum = z; spot = q.spot; bytes = q.bytes; table = q.table }) (omega arith)
    go (Some f) e = refl

pub puts-append : (us vs : List ℕ) (s : Spot) (b : List ℕ) (t : List Channel) → puts s b t (us ++ vs) ≡ continued (puts s b t us) vs
unfolding puts
puts-append [] vs s b t = longer-none (puts s b t vs)
puts-append (u ∷ us) vs s b t = go (putting s b t u) (puts-append us vs (put_spot s b t u) (put_bytes s b t u) (put_table s b t u))
  where
    n : ℕ
    n = length (form_in (coded (next_row s t) u))

    p : List ℕ → Putting
    p ws = puts (put_spot s b t u) (put_bytes s b t u) (put_table s b t u) ws

    go : (o : Option Trouble) → p (us ++ vs) ≡ continued (p us) vs →
        elim o [ None ↦ longer n (p (us ++ vs)) | Some f ↦ record { fault = Some f; sum = 0; spot = s; bytes = b; table = t } ]
        ≡ continued (elim o [ None ↦ longer n (p us) | Some f ↦ record { fault = Some f; sum = 0; spot = s; bytes = b; table = t } ]) vs
    go None i = ap (longer n) i ∙ longer-continued n (p us) vs
    go (Some f) i = refl

-- where the first meet no fault
pub puts_then : (us vs : List ℕ) (s : Spot) (b : List ℕ) (t : List Channel) (p : Putting) → puts s b t us ≡ p → p.fault ≡ None → puts s b t (us ++ vs) ≡ longer p.sum (puts p.spot p.bytes p.table vs)
puts_then us vs s b t p e f =
    puts-append us vs s b t ∙ ap (λ z. continued z vs) e
    ∙ ap (λ o. elim o as (λ x. Putting) [ None ↦ longer p.sum (puts p.spot p.bytes p.table vs) | Some k ↦ p ]) f

-- where one of the first does
pub puts-stopped : (us vs : List ℕ) (s : Spot) (b : List ℕ) (t : List Channel) (p : Putting) (f : Trouble) → puts s b t us ≡ p → p.fault ≡ Some f → puts s b t (us ++ vs) ≡ p
puts-stopped us vs s b t p f e d =
    puts-append us vs s b t ∙ ap (λ z. continued z vs) e
    ∙ ap (λ o. elim o as (λ x. Putting) [ None ↦ longer p.sum (puts p.spot p.bytes p.table vs) | Some k ↦ p ]) d
