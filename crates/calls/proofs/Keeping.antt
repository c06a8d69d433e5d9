-- What a writer, its buffer and its table keep of the notebook, call after call.
use Rattle.std.proofs.Common.{◌≡◌, ℕ, suc, ◌+◌, ◌-◌, ◌*◌, ◌/◌, ◌^◌, ◌<◌, ◌≤◌, Bool, true, false, cond, not, ◌&&◌, ◌||◌, eqb, ltb, leb, List, [], ◌∷◌, ◌++◌, map, length, get_or, set, replicate, Some, None, Ok, Option, Result, sym, refl, ap, ◌∙◌, subst, append_assoc, append-nil, arith, length-append}
use lib.ListN.{get_or-map}
use lib.Seq.{map-set, map-set_same}
use Rattle.std.proofs.lemmas.List.{length-replicate, length-map}
use Rattle.std.proofs.lemmas.Bool.{and_parts, leb-true, eqb-true, false≢true}
use Rattle.std.proofs.lemmas.Bool.Decides.{nat_tests}
use Rattle.std.specs.Option.{option_map}
use Rattle.bits.specs.Bits.{bits, put_bits, cleared_from, Bytes}
use Rattle.bits.proofs.Numbers.{length-bits}
use Rattle.bits.proofs.Laws.{length-put_bits}
use Rattle.forms.specs.Code.{form_of}
use Rattle.format.specs.Word.{given}
use Rattle.forms.specs.Coding.{Coding, encoded, behind}
use Rattle.forms.proofs.Codes.{some_same, none-some, form_of-means}
use Rattle.layout.specs.Recording as recordings
use Rattle.layout.specs.Recording.{Section}
use Rattle.layout.specs.Channels.{width, ruled, pile, code_at, memory_after}
use Rattle.layout.specs.Turns.{first, raw_bytes, raw_size, Turn, first_turn}
use Rattle.layout.specs.Turns as turns
use Rattle.layout.specs.Slim as slim
use Rattle.layout.specs.Slim.{most_bytes, most_sections, most_channels, most_name, recorded, raw_total, Closing, another}
use Rattle.layout.specs.Plain.{Every, IfGiven, NameFits, ExtraFits, SectionFits, Formed}
use Rattle.layout.proofs.Spots.{raw-none}
use Rattle.channel.specs.declared.record.Channel.{Channel}
use Rattle.channel.specs.Records.{settings_of, rested, remembering}
use Rattle.state.specs.declared.Flags.{Flags}
use Rattle.state.specs.declared.Edge.{Edge}
use Rattle.state.specs.declared.Spot.{Spot}
use Rattle.calls.specs.Parts.{written, described, head_bits, open_bits, closing_bits}
use Rattle.calls.specs.Calls.{Trouble, answer, unless, settings, marks, flags, zero_free, name_fits, extra_fits, begin_fault, begun, head, describable, wrong_count, start, open_fault, section, open_spot, no_row, row_bytes, strange, put_fault, form_in, memory_of, moved_on, next_row, coded, void_fault, fields_filled, more_fault, closed_edge}
use Rattle.calls.specs.Calls as calls
use Rattle.calls.specs.Runs.{opening, putting, voiding, closing, adding, listed, closes, Notebook, begins, current, fed, Writer, between, inside, ended, after_open, after_close, Recorded, recording}
use Rattle.calls.proofs.Buffers.{Filled, filled-size, fresh, put-end, put-again, cleared}
use Rattle.calls.proofs.Pieces.{words_bits, inner, open_length, words_at, end_of, section_bits}
use Rattle.calls.proofs.Chains.{closed_bits, closed_end, closed-length, closed-more, end_more, head_length, head-length}
use Rattle.calls.proofs.Heads.{head-whole, closing-whole}
use Rattle.calls.proofs.Words.{turn_after, form_next, turn_more, words_more, formed-more, raw-more, every_more}

-- ## What is kept

abbrev pub flags_in : Notebook → slim.Flags
flags_in nb = flags nb.flags

-- the bits up to the open section: the size is still 0
abbrev pub front : Notebook → List Bool
front nb = head_bits nb.stamp (marks nb.flags) nb.name nb.extra 0 ++ closed_bits (flags_in nb) (head_length (marks nb.flags) nb.name nb.extra) nb.closed

-- where they end
abbrev pub front_end : Notebook → ℕ
front_end nb = closed_end (flags_in nb) (head_length (marks nb.flags) nb.name nb.extra) nb.closed

pub front_length : (nb : Notebook) → length (front nb) ≡ front_end nb
front_length nb =
    let h = head_bits nb.stamp (marks nb.flags) nb.name nb.extra 0 in
    let l = head_length (marks nb.flags) nb.name nb.extra in
    omega (arith, length-append h (closed_bits (flags_in nb) l nb.closed), head-length nb.stamp (marks nb.flags) nb.name nb.extra 0, closed-length (flags_in nb) l nb.closed)

-- what the edge of the closed sections knows of the notebook
pub record Ground (nb : Notebook) (e : Edge) : Type 0 where
  pub same : e.flags ≡ nb.flags
  pub limit : e.len ≤ most_bytes
  pub at : front_end nb ≡ 8 * e.at.bytes
  pub count : length nb.closed ≡ e.sections
  pub few : length nb.closed < most_sections
  pub raw : raw_total nb.closed ≡ e.raw
  pub total : e.raw ≤ most_bytes
  pub sections : Every (SectionFits (flags_in nb)) nb.closed
  pub stamp : nb.stamp < 2 ^ 32
  pub name : IfGiven nb.name NameFits
  pub extra : IfGiven nb.extra ExtraFits

-- the same with another open section
pub ground-current : (o : Option Section) (nb : Notebook) (e : Edge) → Ground nb e → Ground (current o nb) e
ground-current o nb e G = record {
  same = G.same;
  limit = G.limit;
  at = G.at;
  count = G.count;
  few = G.few;
  raw = G.raw;
  total = G.total;
  sections = G.sections;
  stamp = G.stamp;
  name = G.name;
  extra = G.extra;
}

-- between sections
pub record Shut (nb : Notebook) (e : Edge) (b : List ℕ) : Type 0 where
  pub none : nb.current ≡ None
  pub len : length b ≡ e.len
  pub filled : Filled b (front nb)
  pub ground : Ground nb e

-- channels that a section may have
pub record TableFits (g : slim.Flags) (cs : List recordings.Channel) : Type 0 where
  pub some_channels : 0 < length cs
  pub few_channels : length cs ≤ most_channels
  pub one_channel : g.single ≡ true → length cs ≡ 1
  pub settings : Every (λ c. ruled c ≡ true) cs
  pub repeats : recorded g (length cs) ≡ false → Every (λ c. c.repeats ≡ 1) cs

-- the turn behind a section's words
abbrev pub turn_of : Section → Turn
turn_of S = turn_after S.channels (first_turn S.channels) S.words

-- the section as it stands: raw size and pointer are still 0
unfoldable pub standing : slim.Flags → Section → List Bool
standing g S = open_bits g 0 0 S.channels ++ words_bits S.channels (first_turn S.channels) S.words

-- inside a section
pub record Open (nb : Notebook) (s : Spot) (b : List ℕ) (t : List Channel) : Type 0 where
  pub section : Section
  pub current : nb.current ≡ Some section
  pub len : length b ≡ s.edge.len
  pub filled : Filled b (front nb ++ standing (flags_in nb) section)
  pub ground : Ground nb s.edge
  pub at : front_end nb + length (standing (flags_in nb) section) ≡ s.at.bits
  pub rows : length section.channels ≡ s.rows
  pub settings : settings t ≡ section.channels
  pub memories : map (λ (c : Channel). c.memory) t ≡ (turn_of section).memories
  pub channel : (turn_of section).spot.channel ≡ s.channel
  pub given : (turn_of section).spot.given ≡ s.given
  pub raw : raw_bytes section.channels first (length section.words) ≡ s.raw
  pub total : s.edge.raw + s.raw ≤ most_bytes
  pub fits : TableFits (flags_in nb) section.channels
  pub formed : Formed section.channels (first_turn section.channels) section.words

-- ## Begin

letters : (bs : List ℕ) → zero_free bs ≡ true → Bytes bs → Every (λ b. (0 < b) × (b < 256)) bs
unfolding zero_free Bytes Every
letters [] z h = tt
letters (b ∷ bs) z h =
    let (t, r) = and_parts (not (eqb b 0)) (zero_free bs) z in
    ((by-test (eqb b 0) refl t, h.0), letters bs r h.1)
  where
    by-test : (u : Bool) → eqb b 0 ≡ u → not u ≡ true → 0 < b
    by-test true e n = absurd (false≢true n)
    by-test false e n = grind (arith, nat_tests)

name-kept : (o : Option (List ℕ)) → name_fits o ≡ true → IfGiven o Bytes → IfGiven o NameFits
name-kept None h b = tt
name-kept (Some bs) h b =
    let (l, z) = and_parts (leb (length bs) most_name) (zero_free bs) h in
    record { short = leb-true (length bs) most_name l; letters = letters bs z b }

extra-kept : (o : Option (List ℕ)) → extra_fits o ≡ true → IfGiven o Bytes → IfGiven o ExtraFits
extra-kept None h b = tt
extra-kept (Some bs) h b = record { short = leb-true (length bs) 65535 h; bytes = b }

begin_fits : (name extra : Option (List ℕ)) (hd : List Bool) (len : ℕ) → begin_fault name extra hd len ≡ None →
    (len ≤ most_bytes) × (name_fits name ≡ true) × (extra_fits extra ≡ true) × (length hd ≤ 8 * len)
begin_fits name extra hd len q = by_tests (name_fits name) (extra_fits extra) q
  where
    by_tests : (n x : Bool) → cond {A = Option Trouble} (ltb most_bytes len) (Some (1, 0)) (cond (not (n && x)) (Some (4, 0)) (cond (ltb (8 * len) (length hd)) (Some (2, 0)) None)) ≡ None →
        (len ≤ most_bytes) × (n ≡ true) × (x ≡ true) × (length hd ≤ 8 * len)
    by_tests true true q = (grind (arith, nat_tests), refl, refl, grind (arith, nat_tests))
    by_tests true false q = absurd (grind (arith, nat_tests))
    by_tests false x q = absurd (grind (arith, nat_tests))

pub kept_begin : (stamp : ℕ) (g : Flags) (name extra : Option (List ℕ)) (b : List ℕ) (e : Edge) (hd : List Bool) (o : Option Trouble) →
    hd ≡ head stamp g name extra → begin_fault name extra hd (length b) ≡ o → stamp < 2 ^ 32 → IfGiven name Bytes → IfGiven extra Bytes →
    answer o (begun g hd (length b)) (λ (f : Trouble). f) ≡ Ok e → Shut (begins stamp g name extra) e (unless o b (put_bits (replicate (length b) 0) 0 hd))
unfolding closed_bits closed_end raw_total Every
kept_begin stamp g name extra b e hd (Some f) d q s n x p = let z : ◌≡◌ {A = ℕ} 0 1 = cc in absurd (omega arith)
kept_begin stamp g name extra b e hd None d q s n x p =
    let (l, nf, xf, r) = begin_fits name extra hd (length b) q in
    let i : begun g hd (length b) ≡ e = cc in
    let z : List ℕ = replicate (length b) 0 in
    let lz : length z ≡ length b = length-replicate (length b) 0 in
    let lh : length hd ≡ head_length (marks g) name extra = ap length d ∙ head-length stamp (marks g) name extra 0 in
    let w = head-whole (marks g) name extra nf in
    let f : Filled (put_bits z 0 hd) hd = put-end z [] 0 hd (fresh (length b)) refl (omega arith) in
    let lp : length (put_bits z 0 hd) ≡ length z = length-put_bits z 0 hd (omega arith) in
    let el : length b ≡ e.len = ap (λ (x : Edge). x.len) i in
    let ea : length hd / 8 ≡ e.at.bytes = ap (λ (x : Edge). x.at.bytes) i in
    record {
      none = refl;
      len = lp ∙ lz ∙ el;
      filled = subst (Filled (put_bits z 0 hd)) (d ∙ sym (append-nil (head stamp g name extra))) f;
      ground = record {
        same = sym (ap (λ (x : Edge). x.flags) i);
        limit = omega arith;
        at = omega arith;
        count = ap (λ (x : Edge). x.sections) i;
        few = omega arith;
        raw = ap (λ (x : Edge). x.raw) i;
        total = omega (arith, ap (λ (x : Edge). x.raw) i);
        sections = tt;
        stamp = s;
        name = name-kept name nf n;
        extra = extra-kept extra xf x;
      };
    }

-- ## Open

count_fits : (g : Flags) (n : ℕ) → wrong_count g n ≡ false → (0 < n) × (n ≤ most_channels) × (g.single ≡ true → n ≡ 1)
count_fits g n q = by_flag g.single q
  where
    by_flag : (t : Bool) → eqb n 0 || (ltb most_channels n || (t && not (eqb n 1))) ≡ false → (0 < n) × (n ≤ most_channels) × (t ≡ true → n ≡ 1)
    by_flag true q = (grind (arith, nat_tests), grind (arith, nat_tests), λ e. grind (arith, nat_tests))
    by_flag false q = (grind (arith, nat_tests), grind (arith, nat_tests), λ e. absurd (false≢true e))

all-ruled : (k : Bool) (cs : List recordings.Channel) → describable k cs ≡ true → Every (λ c. ruled c ≡ true) cs
unfolding describable Every
all-ruled k [] h = tt
all-ruled k (c ∷ cs) h =
    let (r, t) = and_parts (ruled c) ((k || eqb c.repeats 1) && describable k cs) h in
    (r, all-ruled k cs (and_parts (k || eqb c.repeats 1) (describable k cs) t).1)

all_once : (k : Bool) (cs : List recordings.Channel) → describable k cs ≡ true → k ≡ false → Every (λ c. c.repeats ≡ 1) cs
unfolding describable Every
all_once k [] h f = tt
all_once k (c ∷ cs) h f =
    let (r, t) = and_parts (ruled c) ((k || eqb c.repeats 1) && describable k cs) h in
    let (o, m) = and_parts (k || eqb c.repeats 1) (describable k cs) t in
    (eqb-true c.repeats 1 (subst (λ z. z || eqb c.repeats 1 ≡ true) f o), all_once k cs m f)

open_fits : (e : Edge) (cs : List recordings.Channel) (sec : List Bool) (len : ℕ) → open_fault e cs sec len ≡ None →
    (len ≡ e.len) × (wrong_count e.flags (length cs) ≡ false) × (describable (recorded (flags e.flags) (length cs)) cs ≡ true) × (start e + length sec ≤ 8 * len)
open_fits e cs sec len q = by_tests (wrong_count e.flags (length cs)) (describable (recorded (flags e.flags) (length cs)) cs) q
  where
    by_tests : (w d : Bool) →
        cond {A = Option Trouble} (not (eqb len e.len)) (Some (1, 0)) (cond w (Some (5, start e)) (cond (not d) (Some (6, start e)) (cond (ltb (8 * len) (start e + length sec)) (Some (2, start e)) None))) ≡ None →
        (len ≡ e.len) × (w ≡ false) × (d ≡ true) × (start e + length sec ≤ 8 * len)
    by_tests false true q = (grind (arith, nat_tests), refl, refl, grind (arith, nat_tests))
    by_tests false false q = absurd (grind (arith, nat_tests))
    by_tests true d q = absurd (grind (arith, nat_tests))

pub settings-rested : (t : List Channel) → settings (map rested t) ≡ settings t
settings-rested [] = refl
settings-rested (c ∷ t) = ap (λ z. settings_of c ∷ z) (settings-rested t)

memories-rested : (t : List Channel) → map (λ (c : Channel). c.memory) (map rested t) ≡ replicate (length (settings t)) 0
memories-rested [] = refl
memories-rested (c ∷ t) = ap (λ z. 0 ∷ z) (memories-rested t)

-- a section without words
abbrev pub fresh-section : List Channel → Section
fresh-section u = record { channels = settings u; words = [] }

standing-new : (g : slim.Flags) (u : List Channel) → standing g (fresh-section u) ≡ open_bits g 0 0 (settings u)
unfolding standing words_bits
standing-new g u = append-nil (open_bits g 0 0 (settings u))

still : (u : List Channel) → (turn_of (fresh-section u)).memories ≡ replicate (length (settings u)) 0
unfolding turn_after
still u = refl

at_first : (u : List Channel) → (turn_of (fresh-section u)).spot.channel ≡ 0
unfolding turn_after
at_first u = refl

none-given : (u : List Channel) → (turn_of (fresh-section u)).spot.given ≡ 0
unfolding turn_after
none-given u = refl

no_words : (u : List Channel) → Formed (settings u) (first_turn (settings u)) []
unfolding Formed
no_words u = tt

abbrev pub opens : Option Trouble → Edge → List Bool → ℕ → Result Spot (Edge × Trouble)
opens o e sec n = answer o (open_spot e sec n) (λ f. (e, f))

abbrev pub Kept : Notebook → Writer → List ℕ → List Channel → Type 0
Kept nb (between e) b t = Shut nb e b
Kept nb (inside s) b t = Open nb s b t
Kept nb (ended n) b t = Recorded n b (recording nb)

pub kept_open : (nb : Notebook) (e : Edge) (b : List ℕ) (u : List Channel) (o : Option Trouble) → open_fault e (settings u) (section e u) (length b) ≡ o → Shut nb e b →
    Kept (fed (opens o e (section e u) (length u)) nb (opening u)) (after_open (opens o e (section e u) (length u)))
    (unless o b (put_bits b (start e) (section e u))) (unless o u (map rested u))
kept_open nb e b u (Some f) q h = h
kept_open nb e b u None q h =
    let (l, w, d, r) = open_fits e (settings u) (section e u) (length b) q in
    let G = h.ground in
    let g : flags e.flags ≡ flags_in nb = ap flags G.same in
    let (c0, c1, c2) = count_fits e.flags (length (settings u)) w in
    let lf : length (front nb) ≡ start e = front_length nb ∙ G.at in
    let f1 : Filled (put_bits b (start e) (section e u)) (front nb ++ section e u) = put-end b (front nb) (start e) (section e u) h.filled lf r in
    let sn : section e u ≡ standing (flags_in nb) (fresh-section u) = ap (λ z. open_bits z 0 0 (settings u)) g ∙ sym (standing-new (flags_in nb) u) in
    let lp : length (put_bits b (start e) (section e u)) ≡ length b = length-put_bits b (start e) (section e u) r in
    record {
      section = fresh-section u;
      current = refl;
      len = lp ∙ l;
      filled = subst (Filled (put_bits b (start e) (section e u))) (ap (λ z. front nb ++ z) sn) f1;
      ground = ground-current (Some (fresh-section u)) nb e G;
      at = omega (arith, ap length sn, G.at);
      rows = length-map u settings_of;
      settings = settings-rested u;
      memories = memories-rested u ∙ sym (still u);
      channel = at_first u;
      given = none-given u;
      raw = raw-none (settings u) first;
      total = omega (arith, G.total);
      fits = record {
        some_channels = c0;
        few_channels = c1;
        one_channel = λ t. c2 (ap (λ (z : Flags). z.single) G.same ∙ t);
        settings = all-ruled (recorded (flags e.flags) (length (settings u))) (settings u) d;
        repeats = λ t. all_once (recorded (flags e.flags) (length (settings u))) (settings u) d (ap (λ z. recorded z (length (settings u))) g ∙ t);
      };
      formed = no_words u;
    }

-- ## Put

-- an accepted put had a form that fits
pub record PutFits (s : Spot) (n m : ℕ) (c : Channel) (f : Option (List Bool × (ℕ × Unit {0}))) : Type 0 where
  pub form : List Bool
  pub memory : ℕ × Unit {0}
  pub has : f ≡ Some (form, memory)
  pub len : n ≡ s.edge.len
  pub rows : m ≡ s.rows
  pub ruled : ruled (settings_of c) ≡ true
  pub total : s.edge.raw + (s.raw + row_bytes c) ≤ most_bytes
  pub room : s.at.bits + length form ≤ 8 * n

pub put_fits : (s : Spot) (len rows : ℕ) (c : Channel) (f : Option (List Bool × (ℕ × Unit {0}))) → put_fault s len rows c f ≡ None → PutFits s len rows c f
put_fits s len rows c None q = absurd (by_tests (ruled (settings_of c)) q)
  where
    by_tests : (d : Bool) →
        cond {A = Option Trouble} (strange s len rows) (Some (1, 0)) (cond (not d) (Some (7, s.at.bits)) (cond (ltb most_bytes (s.edge.raw + (s.raw + row_bytes c))) (Some (9, s.at.bits)) (Some (7, s.at.bits)))) ≡ None → ⊥
    by_tests true q = grind (arith, nat_tests)
    by_tests false q = grind (arith, nat_tests)
put_fits s len rows c (Some (form, m)) q =
    let (a, b, d, e, f) = by_tests (ruled (settings_of c)) q in
    record { form = form; memory = m; has = refl; len = a; rows = b; ruled = d; total = e; room = f }
  where
    by_tests : (d : Bool) →
        cond {A = Option Trouble} (strange s len rows) (Some (1, 0)) (cond (not d) (Some (7, s.at.bits)) (cond (ltb most_bytes (s.edge.raw + (s.raw + row_bytes c))) (Some (9, s.at.bits)) (cond (ltb (8 * len) (s.at.bits + length form)) (Some (2, s.at.bits)) None))) ≡ None →
        (len ≡ s.edge.len) × (rows ≡ s.rows) × (d ≡ true) × (s.edge.raw + (s.raw + row_bytes c) ≤ most_bytes) × (s.at.bits + length form ≤ 8 * len)
    by_tests true q = (grind (arith, nat_tests), grind (arith, nat_tests), refl, grind (arith, nat_tests), grind (arith, nat_tests))
    by_tests false q = absurd (grind (arith, nat_tests))

-- what is coded is the form of the code, and the memory behind it
coded-form : (C : Coding (ℕ × Unit {0})) (m : ℕ × Unit {0}) (w : ℕ) (form : List Bool) (n : ℕ × Unit {0}) → encoded C m w ≡ Some (form, n) → (form_of (C.code m) w ≡ Some form) × (C.after m w ≡ n)
unfolding encoded
coded-form C m w form n e = by_form (form_of (C.code m) w) refl e
  where
    by_form : (o : Option (List Bool)) → form_of (C.code m) w ≡ o → behind o (C.after m w) ≡ Some (form, n) → (o ≡ Some form) × (C.after m w ≡ n)
    by_form None h d = absurd (none-some d)
    by_form (Some s) h d = let z : ◌≡◌ {A = List Bool × (ℕ × Unit {0})} (s, C.after m w) (form, n) = some_same d in (ap (λ y. Some y.0) z, ap (λ y. y.1) z)

-- the spot moves on as the turn does
pub record Moves (cs : List recordings.Channel) (sp : turns.Spot) (s : Spot) (c : Channel) (n : ℕ) : Type 0 where
  pub channel : (turns.advance cs sp).channel ≡ (moved_on s c n).channel
  pub given : (turns.advance cs sp).given ≡ (moved_on s c n).given
  pub edge : s.edge ≡ (moved_on s c n).edge
  pub at : s.at.bits + n ≡ (moved_on s c n).at.bits
  pub rows : s.rows ≡ (moved_on s c n).rows
  pub raw : s.raw + row_bytes c ≡ (moved_on s c n).raw

moves : (cs : List recordings.Channel) (sp : turns.Spot) (s : Spot) (c : Channel) (n : ℕ) → turns.channel_of cs sp ≡ settings_of c → sp.channel ≡ s.channel → sp.given ≡ s.given → length cs ≡ s.rows → Moves cs sp s c n
moves cs sp s c n e ch gv r = by-test (leb c.settings.repeats (s.given + 1)) refl
  where
    same : (t : Bool) → leb c.settings.repeats (s.given + 1) ≡ t → leb (turns.channel_of cs sp).repeats (suc sp.given) ≡ t
    same t h =
        let a : suc sp.given ≡ s.given + 1 = omega (arith, gv) in
        ap (λ (x : recordings.Channel). leb x.repeats (suc sp.given)) e ∙ ap (λ k. leb c.settings.repeats k) a ∙ h

    turned : Bool → turns.Spot
    turned t = cond t (record { channel = turns.following (length cs) sp.channel; given = 0 }) (record { channel = sp.channel; given = suc sp.given })

    moved : Bool → Spot
    moved t =
        cond t
        (record { edge = s.edge; at = record { bits = s.at.bits + n }; rows = s.rows; channel = turns.following s.rows s.channel; given = 0; raw = s.raw + row_bytes c })
        (record { edge = s.edge; at = record { bits = s.at.bits + n }; rows = s.rows; channel = s.channel; given = s.given + 1; raw = s.raw + row_bytes c })

    by-test : (t : Bool) → leb c.settings.repeats (s.given + 1) ≡ t → Moves cs sp s c n
    by-test true h = record {
      channel = ap (λ t. (turned t).channel) (same true h) ∙ ap (λ k. turns.following k sp.channel) r ∙ ap (λ k. turns.following s.rows k) ch ∙ sym (ap (λ t. (moved t).channel) h);
      given = ap (λ t. (turned t).given) (same true h) ∙ sym (ap (λ t. (moved t).given) h);
      edge = sym (ap (λ t. (moved t).edge) h);
      at = sym (ap (λ t. (moved t).at.bits) h);
      rows = sym (ap (λ t. (moved t).rows) h);
      raw = sym (ap (λ t. (moved t).raw) h);
    }
    by-test false h =
        let a : suc sp.given ≡ s.given + 1 = omega (arith, gv) in
        record {
          channel = ap (λ t. (turned t).channel) (same false h) ∙ ch ∙ sym (ap (λ t. (moved t).channel) h);
          given = ap (λ t. (turned t).given) (same false h) ∙ a ∙ sym (ap (λ t. (moved t).given) h);
          edge = sym (ap (λ t. (moved t).edge) h);
          at = sym (ap (λ t. (moved t).at.bits) h);
          rows = sym (ap (λ t. (moved t).rows) h);
          raw = sym (ap (λ t. (moved t).raw) h);
        }

-- the row whose word is next, in the section
row-settings : (nb : Notebook) (s : Spot) (b : List ℕ) (t : List Channel) (h : Open nb s b t) → turns.channel_of h.section.channels (turn_of h.section).spot ≡ settings_of (next_row s t)
row-settings nb s b t h =
    ap (λ cs. turns.channel_of cs (turn_of h.section).spot) (sym h.settings)
    ∙ ap (λ i. get_or (settings t) i turns.no_channel) h.channel
    ∙ get_or-map settings_of t s.channel no_row

row-memory : (nb : Notebook) (s : Spot) (b : List ℕ) (t : List Channel) (h : Open nb s b t) → turns.memory_of (turn_of h.section) ≡ (next_row s t).memory
row-memory nb s b t h =
    ap (λ ms. get_or ms (turn_of h.section).spot.channel 0) (sym h.memories)
    ∙ ap (λ i. get_or (map (λ (c : Channel). c.memory) t) i 0) h.channel
    ∙ get_or-map (λ (c : Channel). c.memory) t s.channel no_row

standing-more : (g : slim.Flags) (S : Section) (w : ℕ) → standing g (adding (w ∷ []) S) ≡ standing g S ++ given (form_next S.channels (turn_of S) w)
unfolding standing
standing-more g S w =
    ap (λ y. open_bits g 0 0 S.channels ++ y) (words_more S.channels (first_turn S.channels) S.words w)
    ∙ sym (append_assoc (open_bits g 0 0 S.channels) (words_bits S.channels (first_turn S.channels) S.words) (given (form_next S.channels (turn_of S) w)))

abbrev pub puts : Option Trouble → ℕ → Result ℕ Trouble
puts o n = answer o n (λ f. f)

pub kept_put : (nb : Notebook) (s : Spot) (b : List ℕ) (t : List Channel) (w : ℕ) (o : Option Trouble) → put_fault s (length b) (length t) (next_row s t) (coded (next_row s t) w) ≡ o → Open nb s b t →
    Kept (fed (puts o (length (form_in (coded (next_row s t) w)))) nb (putting w)) (inside (unless o s (moved_on s (next_row s t) (length (form_in (coded (next_row s t) w))))))
    (unless o b (put_bits b s.at.bits (form_in (coded (next_row s t) w)))) (unless o t (set t s.channel (remembering (next_row s t) (memory_of (coded (next_row s t) w)))))
kept_put nb s b t w (Some f) q h = h
kept_put nb s b t w None q h =
    let c : Channel = next_row s t in
    let P = put_fits s (length b) (length t) c (coded c w) q in
    let S : Section = h.section in
    let cs = S.channels in
    let T : Turn = turn_of S in
    let g = flags_in nb in
    let rs = row-settings nb s b t h in
    let rm = row-memory nb s b t h in
    let (cf, cm) = coded-form (pile (settings_of c)) (c.memory, tt) w P.form P.memory P.has in
    let fi : form_in (coded c w) ≡ P.form = ap form_in P.has in
    let mi : memory_of (coded c w) ≡ memory_after (settings_of c) c.memory w = ap memory_of P.has ∙ sym (ap (λ (y : ℕ × Unit {0}). y.0) cm) in
    let nf : form_next cs T w ≡ Some P.form = ap (λ (x : recordings.Channel). form_of (code_at x (turns.memory_of T)) w) rs ∙ ap (λ m. form_of (code_at (settings_of c) m) w) rm ∙ cf in
    let ma : memory_after (turns.channel_of cs T.spot) (turns.memory_of T) w ≡ memory_after (settings_of c) c.memory w =
    ap (λ (x : recordings.Channel). memory_after x (turns.memory_of T) w) rs ∙ ap (λ m. memory_after (settings_of c) m w) rm in
    let n = length (form_in (coded c w)) in
    let M = moves cs T.spot s c n rs h.channel h.given h.rows in
    let S2 : Section = adding (w ∷ []) S in
    let sm : standing g S2 ≡ standing g S ++ form_in (coded c w) = standing-more g S w ∙ ap (λ y. standing g S ++ given y) nf ∙ ap (λ y. standing g S ++ y) (sym fi) in
    let tm : turn_of S2 ≡ turns.next_turn cs T w = turn_more cs (first_turn cs) S.words w in
    let lf : length (front nb ++ standing g S) ≡ s.at.bits = length-append (front nb) (standing g S) ∙ ap (λ k. k + length (standing g S)) (front_length nb) ∙ h.at in
    let rm2 : s.at.bits + n ≤ 8 * length b = subst (λ y. s.at.bits + length y ≤ 8 * length b) (sym fi) P.room in
    let f1 : Filled (put_bits b s.at.bits (form_in (coded c w))) ((front nb ++ standing g S) ++ form_in (coded c w)) = put-end b (front nb ++ standing g S) s.at.bits (form_in (coded c w)) h.filled lf rm2 in
    let x : Channel = remembering c (memory_of (coded c w)) in
    record {
      section = S2;
      current = ap (option_map (adding (w ∷ []))) h.current;
      len = length-put_bits b s.at.bits (form_in (coded c w)) rm2 ∙ h.len ∙ ap (λ (e : Edge). e.len) M.edge;
      filled = subst (Filled (put_bits b s.at.bits (form_in (coded c w)))) (append_assoc (front nb) (standing g S) (form_in (coded c w)) ∙ ap (λ y. front nb ++ y) (sym sm)) f1;
      ground = subst (Ground (current (option_map (adding (w ∷ [])) nb.current) nb)) M.edge (ground-current (option_map (adding (w ∷ [])) nb.current) nb s.edge h.ground);
      at = omega (arith, ap length sm, length-append (standing g S) (form_in (coded c w)), h.at, M.at);
      rows = h.rows ∙ M.rows;
      settings = map-set_same settings_of t s.channel x no_row refl ∙ h.settings;
      memories =
          map-set (λ (c : Channel). c.memory) t s.channel x
          ∙ ap (λ z. set z s.channel (memory_of (coded c w))) h.memories
          ∙ ap (λ m. set T.memories s.channel m) (mi ∙ sym ma)
          ∙ ap (λ i. set T.memories i (memory_after (turns.channel_of cs T.spot) (turns.memory_of T) w)) (sym h.channel)
          ∙ sym (ap (λ (z : Turn). z.memories) tm);
      channel = ap (λ (z : Turn). z.spot.channel) tm ∙ M.channel;
      given = ap (λ (z : Turn). z.spot.given) tm ∙ M.given;
      raw = raw-more cs (first_turn cs) S.words w ∙ ap (λ k. k + turns.word_bytes cs T.spot) h.raw ∙ ap (λ (x : recordings.Channel). s.raw + width x.kind / 8) rs ∙ M.raw;
      total = omega (arith, P.total, M.raw, ap (λ (e : Edge). e.raw) M.edge);
      fits = h.fits;
      formed = formed-more cs (first_turn cs) S.words w h.formed (P.form, form_of-means _ w P.form nf);
    }

-- ## Void

abbrev pub closings : Option Trouble → Spot → Edge → Result Edge (Spot × Trouble)
closings o s e = answer o e (λ f. (s, f))

front-room : (nb : Notebook) (s : Spot) (b : List ℕ) (t : List Channel) (h : Open nb s b t) → start s.edge ≤ 8 * length b
front-room nb s b t h =
    omega (arith, filled-size b (front nb ++ standing (flags_in nb) h.section) h.filled, length-append (front nb) (standing (flags_in nb) h.section), front_length nb, h.ground.at)

-- an open section struck out
pub struck_out : (nb : Notebook) (s : Spot) (b : List ℕ) (t : List Channel) → Open nb s b t → Shut (current None nb) s.edge (cleared_from b (start s.edge))
unfolding cleared_from
struck_out nb s b t h =
    let z = replicate (8 * length b - start s.edge) false in
    let lz : length z ≡ 8 * length b - start s.edge = length-replicate (8 * length b - start s.edge) false in
    let l = front-room nb s b t h in
    record {
      none = refl;
      len = length-put_bits b (start s.edge) z (omega arith) ∙ h.len;
      filled = cleared b (front nb) (standing (flags_in nb) h.section) (start s.edge) h.filled (front_length nb ∙ h.ground.at);
      ground = ground-current None nb s.edge h.ground;
    }

pub kept_void : (nb : Notebook) (s : Spot) (b : List ℕ) (t : List Channel) (o : Option Trouble) → void_fault s (length b) (length t) ≡ o → Open nb s b t →
    Kept (fed (closings o s s.edge) nb voiding) (after_close (closings o s s.edge)) (unless o b (cleared_from b (start s.edge))) (unless o t (map rested t))
kept_void nb s b t (Some f) q h = h
kept_void nb s b t None q h = struck_out nb s b t h

-- ## Closing

-- the section's fields written again, where its words and its closing stand
pub record ClosedUp (nb : Notebook) (s : Spot) (b : List ℕ) (S : Section) (e : Closing) : Type 0 where
  pub filled : Filled (fields_filled s (cond (slim.goes_on e) (calls.behind s (closing_bits s.at.bits e)) 0) (put_bits b s.at.bits (closing_bits s.at.bits e))) (front nb ++ section_bits (flags_in nb) (front_end nb) S e)
  pub end : end_of (flags_in nb) (front_end nb) S e ≡ 8 * calls.behind s (closing_bits s.at.bits e)
  pub len : length (fields_filled s (cond (slim.goes_on e) (calls.behind s (closing_bits s.at.bits e)) 0) (put_bits b s.at.bits (closing_bits s.at.bits e))) ≡ length b

-- raw size and pointer written again
fields-again : (t : Bool) (F D X : List Bool) (at raw pointer : ℕ) (b : List ℕ) → length F ≡ at → Filled b (F ++ ((bits 32 0 ++ (cond t (bits 32 0) [] ++ D)) ++ X)) →
    Filled (cond t (put_bits (put_bits b at (bits 32 raw)) (at + 32) (bits 32 pointer)) (put_bits b at (bits 32 raw))) (F ++ ((bits 32 raw ++ (cond t (bits 32 pointer) [] ++ D)) ++ X))
fields-again true F D X at raw pointer b l f =
    let Z = bits 32 0 in
    let R = bits 32 raw in
    let P = bits 32 pointer in
    let lZ : length Z ≡ 32 = length-bits 32 0 in
    let lR : length R ≡ 32 = length-bits 32 raw in
    let lP : length P ≡ 32 = length-bits 32 pointer in
    let f1 = subst (Filled b) (ap (λ y. F ++ y) (append_assoc Z (Z ++ D) X)) f in
    let f2 : Filled (put_bits b at R) (F ++ (R ++ ((Z ++ D) ++ X))) = put-again b F Z ((Z ++ D) ++ X) at R f1 l (lZ ∙ sym lR) in
    let f3 : Filled (put_bits b at R) ((F ++ R) ++ (Z ++ (D ++ X))) = subst (Filled (put_bits b at R)) (sym (append_assoc F R ((Z ++ D) ++ X)) ∙ ap (λ y. (F ++ R) ++ y) (append_assoc Z D X)) f2 in
    let lFR : length (F ++ R) ≡ at + 32 = length-append F R ∙ omega arith in
    let f4 : Filled (put_bits (put_bits b at R) (at + 32) P) ((F ++ R) ++ (P ++ (D ++ X))) = put-again (put_bits b at R) (F ++ R) Z (D ++ X) (at + 32) P f3 lFR (lZ ∙ sym lP) in
    subst (Filled (put_bits (put_bits b at R) (at + 32) P)) (append_assoc F R (P ++ (D ++ X)) ∙ ap (λ y. F ++ (R ++ y)) (sym (append_assoc P D X)) ∙ ap (λ y. F ++ y) (sym (append_assoc R (P ++ D) X))) f4
fields-again false F D X at raw pointer b l f =
    let Z = bits 32 0 in
    let R = bits 32 raw in
    let lZ : length Z ≡ length R = length-bits 32 0 ∙ sym (length-bits 32 raw) in
    let f1 = subst (Filled b) (ap (λ y. F ++ y) (append_assoc Z D X)) f in
    let f2 : Filled (put_bits b at R) (F ++ (R ++ (D ++ X))) = put-again b F Z (D ++ X) at R f1 l lZ in
    subst (Filled (put_bits b at R)) (ap (λ y. F ++ y) (sym (append_assoc R D X))) f2

fields-length : (t : Bool) (F D X : List Bool) (at raw pointer : ℕ) (b : List ℕ) → length F ≡ at → Filled b (F ++ ((bits 32 0 ++ (cond t (bits 32 0) [] ++ D)) ++ X)) →
    length (cond t (put_bits (put_bits b at (bits 32 raw)) (at + 32) (bits 32 pointer)) (put_bits b at (bits 32 raw))) ≡ length b
fields-length true F D X at raw pointer b l f =
    let Z = bits 32 0 in
    let lZ : length Z ≡ 32 = length-bits 32 0 in
    let lR : length (bits 32 raw) ≡ 32 = length-bits 32 raw in
    let lP : length (bits 32 pointer) ≡ 32 = length-bits 32 pointer in
    let s : at + 64 ≤ 8 * length b = omega (arith, filled-size b (F ++ ((Z ++ (Z ++ D)) ++ X)) f, length-append F ((Z ++ (Z ++ D)) ++ X), length-append (Z ++ (Z ++ D)) X, length-append Z (Z ++ D), length-append Z D) in
    let l1 : length (put_bits b at (bits 32 raw)) ≡ length b = length-put_bits b at (bits 32 raw) (omega arith) in
    length-put_bits (put_bits b at (bits 32 raw)) (at + 32) (bits 32 pointer) (omega arith) ∙ l1
fields-length false F D X at raw pointer b l f =
    let Z = bits 32 0 in
    let lZ : length Z ≡ 32 = length-bits 32 0 in
    let lR : length (bits 32 raw) ≡ 32 = length-bits 32 raw in
    let s : at + 32 ≤ 8 * length b = omega (arith, filled-size b (F ++ ((Z ++ D) ++ X)) f, length-append F ((Z ++ D) ++ X), length-append (Z ++ D) X, length-append Z D) in
    length-put_bits b at (bits 32 raw) (omega arith)

-- where a section's words end, from the front
stands_at : (nb : Notebook) (s : Spot) (b : List ℕ) (t : List Channel) (h : Open nb s b t) → words_at (flags_in nb) (front_end nb) h.section.channels + length (words_bits h.section.channels (first_turn h.section.channels) h.section.words) ≡ s.at.bits
unfolding standing
stands_at nb s b t h =
    let S = h.section in
    let O = open_bits (flags_in nb) 0 0 S.channels in
    let W = words_bits S.channels (first_turn S.channels) S.words in
    omega (arith, length-append O W, open_length (flags_in nb) 0 0 S.channels, h.at)

eighth : (w n : ℕ) → n ≡ 8 * w → w ≡ n / 8
eighth w n e = omega arith

pub close_up : (nb : Notebook) (s : Spot) (b : List ℕ) (t : List Channel) (e : Closing) (h : Open nb s b t) → s.at.bits + length (closing_bits s.at.bits e) ≤ 8 * length b → ClosedUp nb s b h.section e
unfolding standing section_bits inner end_of open_bits
close_up nb s b t e h r =
    let S = h.section in
    let cs = S.channels in
    let g = flags_in nb in
    let at = s.at.bits in
    let C = closing_bits at e in
    let W = words_bits cs (first_turn cs) S.words in
    let O : ℕ → ℕ → List Bool = λ raw pointer. open_bits g raw pointer cs in
    let sa = stands_at nb s b t h in
    let lf : length (front nb ++ (O 0 0 ++ W)) ≡ at = length-append (front nb) (O 0 0 ++ W) ∙ ap (λ k. k + length (O 0 0 ++ W)) (front_length nb) ∙ h.at in
    let f1 : Filled (put_bits b at C) ((front nb ++ (O 0 0 ++ W)) ++ C) = put-end b (front nb ++ (O 0 0 ++ W)) at C h.filled lf r in
    let e1 : (front nb ++ (O 0 0 ++ W)) ++ C ≡ front nb ++ (O 0 0 ++ (W ++ C)) = append_assoc (front nb) (O 0 0 ++ W) C ∙ ap (λ y. front nb ++ y) (append_assoc (O 0 0) W C) in
    let f2 = subst (Filled (put_bits b at C)) e1 f1 in
    let p : s.edge.flags.pointed ≡ g.pointed = ap (λ (z : Flags). z.pointed) h.ground.same in
    let l : length (front nb) ≡ start s.edge = front_length nb ∙ h.ground.at in
    let D = written (described g) 0 cs in
    let w = calls.behind s C in
    let ptr : ℕ = cond (slim.goes_on e) w 0 in
    let n : words_at g (front_end nb) cs + length (W ++ closing_bits (words_at g (front_end nb) cs + length W) e) ≡ 8 * w =
    ap (λ k. words_at g (front_end nb) cs + length (W ++ closing_bits k e)) sa ∙ omega (arith, length-append W C, sa, closing-whole at e) in
    let ff : fields_filled s ptr (put_bits b at C) ≡ cond g.pointed (put_bits (put_bits (put_bits b at C) (start s.edge) (bits 32 s.raw)) (start s.edge + 32) (bits 32 ptr)) (put_bits (put_bits b at C) (start s.edge) (bits 32 s.raw)) =
    ap (λ z. cond z (put_bits (put_bits (put_bits b at C) (start s.edge) (bits 32 s.raw)) (start s.edge + 32) (bits 32 ptr)) (put_bits (put_bits b at C) (start s.edge) (bits 32 s.raw))) p in
    let f3 = fields-again g.pointed (front nb) D (W ++ C) (start s.edge) s.raw ptr (put_bits b at C) l f2 in
    let n8 : w ≡ end_of g (front_end nb) S e / 8 = eighth w (end_of g (front_end nb) S e) n in
    let ee =
    ap (λ x. front nb ++ ((bits 32 x ++ (cond g.pointed (bits 32 ptr) [] ++ D)) ++ (W ++ C))) (sym h.raw)
    ∙ ap (λ y. front nb ++ ((bits 32 (raw_size S) ++ (cond g.pointed (bits 32 (cond (slim.goes_on e) y 0)) [] ++ D)) ++ (W ++ C))) n8
    ∙ ap (λ k. front nb ++ ((bits 32 (raw_size S) ++ (cond g.pointed (bits 32 (cond (slim.goes_on e) (end_of g (front_end nb) S e / 8) 0)) [] ++ D)) ++ (W ++ closing_bits k e))) (sym sa) in
    record {
      filled = subst (λ z. Filled z (front nb ++ section_bits g (front_end nb) S e)) (sym ff) (subst (Filled _) ee f3);
      end = n;
      len = ap length ff ∙ fields-length g.pointed (front nb) D (W ++ C) (start s.edge) s.raw ptr (put_bits b at C) l f2 ∙ length-put_bits b at C r;
    }

-- an open section with words is one that a file may have
words-some : (cs : List recordings.Channel) (ws : List ℕ) (raw : ℕ) → raw_bytes cs first (length ws) ≡ raw → 0 < raw → 0 < length ws
words-some cs [] raw e p = absurd (omega (arith, raw-none cs first))
words-some cs (w ∷ ws) raw e p = omega arith

pub section_fits : (nb : Notebook) (s : Spot) (b : List ℕ) (t : List Channel) (h : Open nb s b t) → 0 < s.raw → SectionFits (flags_in nb) h.section
section_fits nb s b t h p = record {
  some_channels = h.fits.some_channels;
  few_channels = h.fits.few_channels;
  one_channel = h.fits.one_channel;
  settings = h.fits.settings;
  repeats = h.fits.repeats;
  some_words = words-some h.section.channels h.section.words s.raw h.raw p;
  forms = h.formed;
}

pub total-more : (ss : List Section) (S : Section) → raw_total (ss ++ S ∷ []) ≡ raw_total ss + raw_size S
unfolding raw_total
total-more [] S = omega arith
total-more (r ∷ ss) S = omega (arith, total-more ss S)

-- the notebook's sections with the open one behind them
pub listed-is : (nb : Notebook) (S : Section) → nb.current ≡ Some S → nb.closed ++ listed nb.current ≡ nb.closed ++ S ∷ []
listed-is nb S e = ap (λ z. nb.closed ++ listed z) e

more-fits : (s : Spot) (C : List Bool) (len rows : ℕ) → more_fault s C len rows ≡ None → (0 < s.raw) × (s.edge.sections + 1 < most_sections) × (s.at.bits + length C ≤ 8 * len)
more-fits s C len rows q = (grind (arith, nat_tests), grind (arith, nat_tests), grind (arith, nat_tests))

pub kept_more : (nb : Notebook) (s : Spot) (b : List ℕ) (t : List Channel) (o : Option Trouble) → more_fault s (calls.closing s another) (length b) (length t) ≡ o → Open nb s b t →
    Kept (fed (closings o s (closed_edge s (calls.closing s another))) nb closing) (after_close (closings o s (closed_edge s (calls.closing s another))))
    (unless o b (fields_filled s (calls.behind s (calls.closing s another)) (put_bits b s.at.bits (calls.closing s another)))) t
kept_more nb s b t (Some f) q h = h
kept_more nb s b t None q h =
    let C = calls.closing s another in
    let (p, m, r) = more-fits s C (length b) (length t) q in
    let S = h.section in
    let g = flags_in nb in
    let l = head_length (marks nb.flags) nb.name nb.extra in
    let H = head_bits nb.stamp (marks nb.flags) nb.name nb.extra 0 in
    let K = close_up nb s b t another h r in
    let ls = listed-is nb S h.current in
    let fr : front (closes [] nb) ≡ front nb ++ section_bits g (front_end nb) S another =
    ap (λ z. H ++ closed_bits g l z) ls ∙ ap (λ y. H ++ y) (closed-more g l nb.closed S) ∙ sym (append_assoc H (closed_bits g l nb.closed) (section_bits g (front_end nb) S another)) in
    let tm : raw_total (nb.closed ++ listed nb.current) ≡ s.edge.raw + s.raw = ap raw_total ls ∙ total-more nb.closed S ∙ omega (arith, h.ground.raw, h.raw) in
    let cm : length (nb.closed ++ listed nb.current) ≡ s.edge.sections + 1 = ap length ls ∙ length-append nb.closed (S ∷ []) ∙ omega (arith, h.ground.count) in
    record {
      none = refl;
      len = K.len ∙ h.len;
      filled = subst (Filled _) (sym fr) K.filled;
      ground = record {
        same = h.ground.same;
        limit = h.ground.limit;
        at = ap (closed_end g l) ls ∙ end_more g l nb.closed S ∙ K.end;
        count = cm;
        few = omega arith;
        raw = tm;
        total = h.total;
        sections = subst (Every (SectionFits g)) (sym ls) (every_more (SectionFits g) nb.closed S h.ground.sections (section_fits nb s b t h p));
        stamp = h.ground.stamp;
        name = h.ground.name;
        extra = h.ground.extra;
      };
    }

-- a word moves no edge
pub moved-edge : (s : Spot) (c : Channel) (n : ℕ) → (moved_on s c n).edge ≡ s.edge
moved-edge s c n = by-test (leb c.settings.repeats (s.given + 1))
  where
    by-test : (t : Bool) →
        (cond {A = Spot} t
        (record { edge = s.edge; at = record { bits = s.at.bits + n }; rows = s.rows; channel = turns.following s.rows s.channel; given = 0; raw = s.raw + row_bytes c })
        (record { edge = s.edge; at = record { bits = s.at.bits + n }; rows = s.rows; channel = s.channel; given = s.given + 1; raw = s.raw + row_bytes c })).edge ≡ s.edge
    by-test true = refl
    by-test false = refl
