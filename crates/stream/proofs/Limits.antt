-- How far a stream goes, and the limit of raw bytes.
use Rattle.std.proofs.Common.{◌≡◌, ℕ, zero, suc, ◌+◌, ◌-◌, ◌*◌, ◌/◌, ◌%◌, ◌<◌, ◌≤◌, min, Bool, true, false, cond, ltb, List, [], ◌∷◌, ◌++◌, length, drop, Some, None, Option, sym, refl, ap, ◌∙◌, subst, append-nil, mod-lt, mul-le-mul_left, mul-zero, mul-suc, arith}
use native.Mathlib.Nat.{mul-div-le, div-add-mod}
use Rattle.std.proofs.lemmas.Bool.{le-ltb, lt-ltb, ltb-true, ltb-false}
use Rattle.std.proofs.lemmas.List.{drop-drop}
use Rattle.std.specs.Option.{option_map}
use Rattle.bits.specs.Bits.{put_bits, field_at}
use Rattle.bits.specs.Raw.{raw_words}
use Rattle.bits.proofs.Raw.{length-raw_words}
use Rattle.bits.proofs.Laws.{length-put_bits}
use Rattle.forms.specs.Coding.{Coding, encoded}
use Rattle.forms.proofs.Codes.{none-some}
use Rattle.layout.specs.Channels.{width, ruled, pile}
use Rattle.layout.specs.Slim.{most_bytes}
use Rattle.channel.specs.declared.record.Channel.{Channel}
use Rattle.channel.specs.Records.{settings_of, remembering}
use Rattle.state.specs.declared.Edge.{Edge}
use Rattle.calls.specs.Calls.{settings, row_bytes, form_in, memory_of, Putting, longer, puts, words_of}
use Rattle.stream.specs.Stream.{Stream, stopped, streamed, unfit, put_stream}
use Rattle.stream.proofs.Steps.{fit}
use Rattle.stream.proofs.OneRow.{alone, given_after, left, stepped, one-row, past-limit, puts_then, puts-stopped}
use Rattle.stream.proofs.RawRow.{bytes-some, words_row}

-- ## The stream

-- what holds of a stream behind n words: its words, its place, its bytes
pub record Goes (len n most at : ℕ) (r : Stream) : Type 0 where
  pub words : r.words ≤ n + most
  pub all : r.fault ≡ None → r.words ≡ n + most
  pub place : at ≤ 8 * len → r.at ≤ 8 * len
  pub bytes : length r.bytes ≡ len

pub goes : (ws : List ℕ) (C : Coding (ℕ × Unit {0})) (len n m at : ℕ) (b : List ℕ) → length b ≡ len → Goes len n (length ws) at (streamed C len n m at b ws)
unfolding streamed
goes [] C len n m at b l = record { words = omega arith; all = λ e. omega arith; place = λ h. h; bytes = l }
goes (w ∷ ws) C len n m at b l = by_form (encoded C (m, tt) w) (λ o h. goes ws C len (n + 1) (memory_of o) (at + length (form_in o)) (put_bits b at (form_in o)) (length-put_bits b at (form_in o) (subst (λ (z : ℕ). at + length (form_in o) ≤ 8 * z) (sym l) h) ∙ l))
  where
    by_form : (o : Option (List Bool × (ℕ × Unit {0}))) →
        ((o : Option (List Bool × (ℕ × Unit {0}))) → at + length (form_in o) ≤ 8 * len → Goes len (n + 1) (length ws) (at + length (form_in o)) (streamed C len (n + 1) (memory_of o) (at + length (form_in o)) (put_bits b at (form_in o)) ws)) →
        Goes len n (suc (length ws)) at (stepped C len n m at b ws o (stopped len at o))
    by_form None i = record { words = omega arith; all = λ e. absurd (none-some (sym e)); place = λ h. h; bytes = l }
    by_form (Some (form, k)) i = by-room (ltb (8 * len) (at + length form)) refl
      where
        by-room : (t : Bool) → ltb (8 * len) (at + length form) ≡ t → Goes len n (suc (length ws)) at (stepped C len n m at b ws (Some (form, k)) (cond t (Some 2) None))
        by-room true d = record { words = omega arith; all = λ e. absurd (none-some (sym e)); place = λ h. h; bytes = l }
        by-room false d =
            let h : at + length form ≤ 8 * len = ltb-false (8 * len) (at + length form) d in
            let g = i (Some (form, k)) h in
            record { words = omega (arith, g.words); all = λ e. omega (arith, g.all e); place = λ p. g.place h; bytes = g.bytes }

-- what a call that puts raw words answers lies within its count and its buffer
pub put-bounds : (C : Coding (ℕ × Unit {0})) (size m : ℕ) (raw : List ℕ) (count at : ℕ) (b : List ℕ) → at ≤ 8 * length b →
    ((put_stream C size m raw count at b).words ≤ count) × ((put_stream C size m raw count at b).at ≤ 8 * length b) × (length (put_stream C size m raw count at b).bytes ≡ length b)
put-bounds C size m raw count at b h = go (unfit size (length raw) count at (length b))
  where
    go : (t : Bool) →
        ((cond t (record { words = 0; at = at; memory = m; fault = Some 1; bytes = b }) (streamed C (length b) 0 m at b (raw_words size count raw))).words ≤ count)
        × ((cond t (record { words = 0; at = at; memory = m; fault = Some 1; bytes = b }) (streamed C (length b) 0 m at b (raw_words size count raw))).at ≤ 8 * length b)
        × (length (cond t (record { words = 0; at = at; memory = m; fault = Some 1; bytes = b }) (streamed C (length b) 0 m at b (raw_words size count raw))).bytes ≡ length b)
    go true = (omega arith, h, refl)
    go false =
        let g = goes (raw_words size count raw) C (length b) 0 m at b refl in
        (omega (arith, g.words, length-raw_words size count raw), g.place h, g.bytes)

-- where the arguments fit, it is the stream
pub put_fit : (C : Coding (ℕ × Unit {0})) (size m : ℕ) (raw : List ℕ) (count at : ℕ) (b : List ℕ) → length b ≤ most_bytes → at ≤ 8 * length b → count ≤ length raw / size →
    put_stream C size m raw count at b ≡ streamed C (length b) 0 m at b (raw_words size count raw)
put_fit C size m raw count at b p q r =
    ap (λ t. cond t (record { words = 0; at = at; memory = m; fault = Some 1; bytes = b }) (streamed C (length b) 0 m at b (raw_words size count raw))) (fit size (length raw) count at (length b) p q r)

-- ## The limit

-- the fault of words that go on past the limit: where none of those before met one, 9
abbrev pub overrun : Bool → Stream → Stream
overrun more r = record {
  words = r.words;
  at = r.at;
  memory = r.memory;
  fault = elim r.fault [ None ↦ cond more (Some 9) None | Some f ↦ Some f ];
  bytes = r.bytes;
}

-- the fault that it leaves
abbrev past : Bool → Option ℕ → Option ℕ
past more o = elim o [ None ↦ cond more (Some 9) None | Some f ↦ Some f ]

no-overrun : (r : Stream) → overrun false r ≡ r
no-overrun r = ap (λ f. record { words = r.words; at = r.at; memory = r.memory; fault = f; bytes = r.bytes }) (go r.fault)
  where
    go : (o : Option ℕ) → past false o ≡ o
    go None = refl
    go (Some f) = refl

overrun-stopped : (r : Stream) (f : ℕ) → r.fault ≡ Some f → r ≡ overrun true r
overrun-stopped r f d = ap (λ f. record { words = r.words; at = r.at; memory = r.memory; fault = f; bytes = r.bytes }) (go r.fault d)
  where
    go : (o : Option ℕ) → o ≡ Some f → o ≡ past true o
    go None e = absurd (none-some e)
    go (Some k) e = refl

module _ (e : Edge) (at given raw : ℕ) (b : List ℕ) (c : Channel) (us : List ℕ) (r : Stream) (is : puts (alone e at given raw) b (c ∷ []) us ≡ left e at given raw c r) (keeps : ruled (settings_of c) ≡ true)
    (all : r.fault ≡ None → r.words ≡ 0 + length us) (whole : length r.bytes ≡ e.len) where
  -- words that pass the limit, behind some that keep within it
  overruns : (w : ℕ) (ws : List ℕ) → most_bytes < e.raw + (raw + row_bytes c * suc (length us)) → puts (alone e at given raw) b (c ∷ []) (us ++ w ∷ ws) ≡ left e at given raw c (overrun true r)
  overruns w ws h = go r.fault refl
    where
      go : (o : Option ℕ) → r.fault ≡ o → puts (alone e at given raw) b (c ∷ []) (us ++ w ∷ ws) ≡ left e at given raw c (overrun true r)
      go (Some f) d =
          puts-stopped us (w ∷ ws) (alone e at given raw) b (c ∷ []) (left e at given raw c r) (f, r.at) is (ap (option_map (λ k. (k, r.at))) d) ∙ ap (left e at given raw c) (overrun-stopped r f d)
      go None d =
          let n : r.words ≡ 0 + length us = all d in
          let k : row_bytes c * suc (length us) ≡ row_bytes c * length us + row_bytes c = mul-suc (row_bytes c) (length us) in
          let j : row_bytes c * r.words ≡ row_bytes c * length us = ap (λ z. row_bytes c * z) (omega arith) in
          let i : (r.at - at) + 0 ≡ r.at - at = omega arith in
          let M : ℕ → Option ℕ → Putting = λ z f. record { fault = option_map (λ k. (k, r.at)) f; sum = z; spot = alone e r.at (given_after c.settings.repeats given r.words) (raw + row_bytes c * r.words); bytes = r.bytes; table = remembering c r.memory ∷ [] } in
          puts_then us (w ∷ ws) (alone e at given raw) b (c ∷ []) (left e at given raw c r) is (ap (option_map (λ k. (k, r.at))) d)
          ∙ ap (longer (r.at - at)) (past-limit e r.at (given_after c.settings.repeats given r.words) (raw + row_bytes c * r.words) r.bytes (remembering c r.memory) w ws whole keeps (omega arith))
          ∙ ap (λ z. M z (Some 9)) i ∙ ap (λ o. M (r.at - at) (past true o)) (sym d)

-- puts into a table of one row, of words that keep within the limit of raw bytes and words behind them that do not
pub one-row_limited : (e : Edge) (at given raw : ℕ) (b : List ℕ) (c : Channel) (us vs : List ℕ) → length b ≡ e.len → ruled (settings_of c) ≡ true → e.raw + (raw + row_bytes c * length us) ≤ most_bytes →
    (0 < length vs → most_bytes < e.raw + (raw + row_bytes c * suc (length us))) →
    puts (alone e at given raw) b (c ∷ []) (us ++ vs) ≡ left e at given raw c (overrun (ltb 0 (length vs)) (streamed (pile (settings_of c)) (length b) 0 c.memory at b us))
one-row_limited e at given raw b c us [] l k h o =
    ap (puts (alone e at given raw) b (c ∷ [])) (append-nil us) ∙ one-row e at given raw b c us l k h ∙ ap (left e at given raw c) (sym (no-overrun (streamed (pile (settings_of c)) (length b) 0 c.memory at b us)))
one-row_limited e at given raw b c us (w ∷ ws) l k h o =
    let r : Stream = streamed (pile (settings_of c)) (length b) 0 c.memory at b us in
    let g = goes us (pile (settings_of c)) (length b) 0 c.memory at b refl in
    let t : ltb 0 (suc (length ws)) ≡ true = lt-ltb 0 (suc (length ws)) (omega arith) in
    overruns e at given raw b c us (streamed (pile (settings_of c)) (length b) 0 c.memory at b us) (one-row e at given raw b c us l k h) k g.all (g.bytes ∙ l) w ws (o (omega arith))
    ∙ ap (λ z. left e at given raw c (overrun z (streamed (pile (settings_of c)) (length b) 0 c.memory at b us))) (sym t)

-- ## Raw words up to the limit

-- the first n words and those behind them
pub words-split : (k n j : ℕ) (raw : List ℕ) → raw_words k (n + j) raw ≡ raw_words k n raw ++ raw_words k j (drop (k * n) raw)
unfolding raw_words
words-split k zero j raw = ap (λ z. raw_words k z raw) (omega arith) ∙ ap (λ z. raw_words k j (drop z raw)) (sym (mul-zero k))
words-split k (suc n) j raw =
    ap (λ z. raw_words k z raw) (shift n j)
    ∙ ap (λ z. field_at raw 0 (8 * k) ∷ z) (words-split k n j (drop k raw)) ∙ ap (λ z. field_at raw 0 (8 * k) ∷ (raw_words k n (drop k raw) ++ raw_words k j z)) (drop-drop (k * n) k raw)
    ∙ ap (λ z. field_at raw 0 (8 * k) ∷ (raw_words k n (drop k raw) ++ raw_words k j (drop z raw))) (omega (arith, mul-suc k n))
  where
    shift : (n j : ℕ) → suc n + j ≡ suc (n + j)
    shift n j = omega arith

-- how many words of so many bytes the limit allows, and no more of them than there are
pub most-words : (k r total n : ℕ) → 1 ≤ k → r ≤ most_bytes → n ≡ min total ((most_bytes - r) / k) → (n ≤ total) × (r + k * n ≤ most_bytes) × (n < total → most_bytes < r + k * suc n)
most-words k r total n s h e =
    let q : ℕ = (most_bytes - r) / k in
    let a : n ≤ (most_bytes - r) / k = omega arith in
    let b : k * n ≤ k * ((most_bytes - r) / k) = mul-le-mul_left k a in
    let d : k * ((most_bytes - r) / k) ≤ most_bytes - r = mul-div-le (most_bytes - r) k in
    (omega arith, omega arith, λ l. past_one (omega arith))
  where
    past_one : n ≡ (most_bytes - r) / k → most_bytes < r + k * suc n
    past_one i =
        let m : k * ((most_bytes - r) / k) + (most_bytes - r) % k ≡ most_bytes - r = div-add-mod (most_bytes - r) k in
        let l : (most_bytes - r) % k < k = mod-lt (most_bytes - r) s in
        let j : k * suc n ≡ k * n + k = mul-suc k n in
        let t : k * n ≡ k * ((most_bytes - r) / k) = ap (λ z. k * z) i in
        omega arith

more_left : (a b : ℕ) → ltb 0 (b - a) ≡ ltb a b
more_left a b = go (ltb a b) refl
  where
    go : (t : Bool) → ltb a b ≡ t → ltb 0 (b - a) ≡ t
    go true d = lt-ltb 0 (b - a) (omega (arith, ltb-true a b d))
    go false d = le-ltb 0 (b - a) (omega (arith, ltb-false a b d))

-- the puts of a fill into a table of one row: the stream of the first n words, which are all or as many as the limit allows
pub row-fill : (e : Edge) (at : ℕ) (b : List ℕ) (c : Channel) (raw : List ℕ) (n : ℕ) → length b ≡ e.len → ruled (settings_of c) ≡ true →
    n ≤ length raw / row_bytes c → e.raw + row_bytes c * n ≤ most_bytes → (n < length raw / row_bytes c → most_bytes < e.raw + row_bytes c * suc n) →
    puts (alone e at 0 0) b (c ∷ []) (words_of (settings (c ∷ [])) raw) ≡ left e at 0 0 c (overrun (ltb n (length raw / row_bytes c)) (streamed (pile (settings_of c)) (length b) 0 c.memory at b (raw_words (row_bytes c) n raw)))
row-fill e at b c raw n l k few within past = go (raw_words (row_bytes c) n raw) (raw_words (row_bytes c) (length raw / row_bytes c - n) (drop (row_bytes c * n) raw))
    (words_row c raw k ∙ ap (λ z. raw_words (row_bytes c) z raw) (omega arith) ∙ words-split (row_bytes c) n (length raw / row_bytes c - n) raw)
    (length-raw_words (row_bytes c) n raw) (length-raw_words (row_bytes c) (length raw / row_bytes c - n) (drop (row_bytes c * n) raw))
  where
    go : (us vs : List ℕ) → words_of (settings (c ∷ [])) raw ≡ us ++ vs → length us ≡ n → length vs ≡ length raw / row_bytes c - n →
        puts (alone e at 0 0) b (c ∷ []) (words_of (settings (c ∷ [])) raw) ≡ left e at 0 0 c (overrun (ltb n (length raw / row_bytes c)) (streamed (pile (settings_of c)) (length b) 0 c.memory at b us))
    go us vs w lu lv =
        let m : row_bytes c * length us ≡ row_bytes c * n = ap (λ z. row_bytes c * z) lu in
        let i : row_bytes c * suc (length us) ≡ row_bytes c * suc n = ap (λ z. row_bytes c * suc z) lu in
        ap (puts (alone e at 0 0) b (c ∷ [])) w ∙ one-row_limited e at 0 0 b c us vs l k (omega arith) (λ p. let q = past (omega arith) in omega arith)
        ∙ ap (λ z. left e at 0 0 c (overrun z (streamed (pile (settings_of c)) (length b) 0 c.memory at b us))) (ap (ltb 0) lv ∙ more_left n (length raw / row_bytes c))

-- the same, from what the code that puts raw words answers
pub row-filled : (e : Edge) (at : ℕ) (b : List ℕ) (c : Channel) (raw : List ℕ) (n : ℕ) → length b ≡ e.len → ruled (settings_of c) ≡ true → length b ≤ most_bytes → at ≤ 8 * length b → e.raw ≤ most_bytes →
    n ≡ min (length raw / row_bytes c) ((most_bytes - e.raw) / row_bytes c) →
    (C : Coding (ℕ × Unit {0})) (w : ℕ) (r : Stream) → C ≡ pile (settings_of c) → w ≡ width c.settings.kind → r ≡ put_stream C (w / 8) c.memory raw n at b →
    puts (alone e at 0 0) b (c ∷ []) (words_of (settings (c ∷ [])) raw) ≡ left e at 0 0 c (overrun (ltb n (length raw / row_bytes c)) r)
row-filled e at b c raw n l k few inside total is C w r x y d =
    let (p, q, o) = most-words (row_bytes c) e.raw (length raw / row_bytes c) n (bytes-some c k) total is in
    let s : r ≡ streamed (pile (settings_of c)) (length b) 0 c.memory at b (raw_words (row_bytes c) n raw) =
    d ∙ ap (λ z. put_stream z (w / 8) c.memory raw n at b) x ∙ ap (λ z. put_stream (pile (settings_of c)) (z / 8) c.memory raw n at b) y ∙ put_fit (pile (settings_of c)) (row_bytes c) c.memory raw n at b few inside p in
    row-fill e at b c raw n l k p q o ∙ ap (λ z. left e at 0 0 c (overrun (ltb n (length raw / row_bytes c)) z)) (sym s)
