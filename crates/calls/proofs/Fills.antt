-- A fill is an opening and puts, and a faulted one is struck out.
use Rattle.std.proofs.Common.{◌≡◌, ℕ, Bool, cond, List, [], ◌∷◌, map, length, set, Some, None, Option, Result, sym, refl, ap, ◌∙◌, subst, append_assoc, append-nil}
use Rattle.std.specs.Option.{option_map}
use Rattle.bits.specs.Bits.{put_bits, cleared_from}
use Rattle.forms.proofs.Codes.{none-some}
use Rattle.layout.specs.Recording.{Section}
use Rattle.channel.specs.declared.record.Channel.{Channel}
use Rattle.channel.specs.Records.{rested, remembering}
use Rattle.state.specs.declared.Edge.{Edge}
use Rattle.state.specs.declared.Spot.{Spot}
use Rattle.calls.specs.Calls.{Trouble, answer, unless, settings, start, section, open_fault, open_spot, next_row, coded, form_in, memory_of, moved_on, putting, put_spot, put_bytes, put_table, Putting, longer, puts, words_of, cut_short, earlier, later_fault, fill_answer, fill_leaves}
use Rattle.calls.specs.Runs.{Notebook, current, adding, filling, fed, after_fill}
use Rattle.calls.proofs.Keeping.{fresh-section, Open, Shut, Kept, kept_open, kept_put, struck_out, moved-edge}

-- what words that are put leave: an open section, whose words are all of them where no fault was met
pub record PutOn (nb : Notebook) (e : Edge) (ws : List ℕ) (p : Putting) : Type 0 where
  pub section : Section
  pub left : Open (current (Some section) nb) p.spot p.bytes p.table
  pub edge : p.spot.edge ≡ e
  pub all : p.fault ≡ None → Some section ≡ option_map (adding ws) nb.current

-- the notebook whose open section is named
named : (nb : Notebook) (S : Section) → nb.current ≡ Some S → nb ≡ current (Some S) nb
named nb S e = ap (λ o. current o nb) e

-- no words more, and some words after others
no_more : (o : Option Section) → o ≡ option_map (adding []) o
no_more None = refl
no_more (Some S) = ap (λ ws. Some (record { channels = S.channels; words = ws })) (sym (append-nil S.words))

then-more : (w : ℕ) (ws : List ℕ) (o : Option Section) → option_map (adding ws) (option_map (adding (w ∷ [])) o) ≡ option_map (adding (w ∷ ws)) o
then-more w ws None = refl
then-more w ws (Some S) = ap (λ ws. Some (record { channels = S.channels; words = ws })) (append_assoc S.words (w ∷ []) ws)

abbrev put_length : Spot → List Channel → ℕ → ℕ
put_length s t w = length (form_in (coded (next_row s t) w))

-- what one word leaves, where it meets no fault
one_more : (nb : Notebook) (s : Spot) (b : List ℕ) (t : List Channel) (w : ℕ) → Open nb s b t → putting s b t w ≡ None →
    Open (current (option_map (adding (w ∷ [])) nb.current) nb) (put_spot s b t w) (put_bytes s b t w) (put_table s b t w)
one_more nb s b t w h q =
    subst (λ o. Open (current (option_map (adding (w ∷ [])) nb.current) nb) (unless o s (moved_on s (next_row s t) (put_length s t w))) (unless o b (put_bits b s.at.bits (form_in (coded (next_row s t) w)))) (unless o t (set t s.channel (remembering (next_row s t) (memory_of (coded (next_row s t) w))))))
    (sym q) (kept_put nb s b t w None q h)

one-edge : (s : Spot) (b : List ℕ) (t : List Channel) (w : ℕ) → putting s b t w ≡ None → (put_spot s b t w).edge ≡ s.edge
one-edge s b t w q = ap (λ o. (unless o s (moved_on s (next_row s t) (put_length s t w))).edge) q ∙ moved-edge s (next_row s t) (put_length s t w)

-- the words that follow, by the fault of the first
by-fault : (nb : Notebook) (s : Spot) (b : List ℕ) (t : List Channel) (w : ℕ) (ws : List ℕ) (x : Putting) (o : Option Trouble) → Open nb s b t →
    (o ≡ None → PutOn (current (option_map (adding (w ∷ [])) nb.current) nb) s.edge ws x) →
    PutOn nb s.edge (w ∷ ws) (elim o [ None ↦ longer (put_length s t w) x | Some f ↦ record { fault = Some f; sum = 0; spot = s; bytes = b; table = t } ])
by-fault nb s b t w ws x (Some f) h i = record {
  section = h.section;
  left = subst (λ z. Open z s b t) (named nb h.section h.current) h;
  edge = refl;
  all = λ e. absurd (none-some (sym e));
}
by-fault nb s b t w ws x None h i =
    let r = i refl in
    record { section = r.section; left = r.left; edge = r.edge; all = λ e. r.all e ∙ then-more w ws nb.current }

pub put_on : (ws : List ℕ) (nb : Notebook) (s : Spot) (b : List ℕ) (t : List Channel) → Open nb s b t → PutOn nb s.edge ws (puts s b t ws)
unfolding puts
put_on [] nb s b t h = record {
  section = h.section;
  left = subst (λ z. Open z s b t) (named nb h.section h.current) h;
  edge = refl;
  all = λ e. sym h.current ∙ no_more nb.current;
}
put_on (w ∷ ws) nb s b t h =
    by-fault nb s b t w ws (puts (put_spot s b t w) (put_bytes s b t w) (put_table s b t w) ws) (putting s b t w) h
    (λ q. subst (λ e. PutOn (current (option_map (adding (w ∷ [])) nb.current) nb) e ws (puts (put_spot s b t w) (put_bytes s b t w) (put_table s b t w) ws)) (one-edge s b t w q)
    (put_on ws (current (option_map (adding (w ∷ [])) nb.current) nb) (put_spot s b t w) (put_bytes s b t w) (put_table s b t w) (one_more nb s b t w h q)))

abbrev fills_by : Option Trouble → Edge → Putting → Result (ℕ × Spot) (Edge × Trouble)
fills_by l e p = answer l (p.sum, p.spot) (λ f. (e, f))

-- behind an accepted opening
filled_on : (nb : Notebook) (e : Edge) (u : List Channel) (raw : List ℕ) (p : Putting) (cut : Bool) (b : List ℕ) → Shut nb e b →
    PutOn (current (Some (fresh-section u)) nb) e (words_of (settings u) raw) p → (l : Option Trouble) → later_fault p cut ≡ l →
    Kept (fed (fills_by l e p) nb (filling u raw)) (after_fill (fills_by l e p))
    (unless l (cleared_from p.bytes (start e)) p.bytes) (unless l (map rested p.table) p.table)
filled_on nb e u raw p cut b h r (Some f) q =
    let x = struck_out (current (Some r.section) nb) p.spot p.bytes p.table r.left in
    let y : Shut (current None nb) e (cleared_from p.bytes (start e)) = subst (λ z. Shut (current None nb) z (cleared_from p.bytes (start z))) r.edge x in
    subst (λ z. Shut z e (cleared_from p.bytes (start e))) (sym (ap (λ o. current o nb) h.none)) y
filled_on nb e u raw p cut b h r None q =
    subst (λ (z : Option Section). Open (current z nb) p.spot p.bytes p.table) (r.all (no-earlier p.fault cut p.spot.at.bits q)) r.left
  where
    no-earlier : (o : Option Trouble) (t : Bool) (n : ℕ) → earlier o (cond {A = Option Trouble} t (Some (13, n)) None) ≡ None → o ≡ None
    no-earlier None t n e = refl
    no-earlier (Some f) t n e = absurd (none-some (sym e))

pub kept-fill : (nb : Notebook) (e : Edge) (b : List ℕ) (u : List Channel) (raw : List ℕ) (o : Option Trouble) → open_fault e (settings u) (section e u) (length b) ≡ o → Shut nb e b → (p : Putting) →
    p ≡ puts (open_spot e (section e u) (length u)) (unless o b (put_bits b (start e) (section e u))) (unless o u (map rested u)) (words_of (settings u) raw) →
    Kept (fed (fill_answer o e p (cut_short (settings u) raw)) nb (filling u raw)) (after_fill (fill_answer o e p (cut_short (settings u) raw)))
    (fill_leaves o (later_fault p (cut_short (settings u) raw)) b (cleared_from p.bytes (start e)) p.bytes)
    (fill_leaves o (later_fault p (cut_short (settings u) raw)) u (map rested p.table) p.table)
kept-fill nb e b u raw (Some f) q h p d = h
kept-fill nb e b u raw None q h p d =
    let k = kept_open nb e b u None q h in
    let r = put_on (words_of (settings u) raw) (current (Some (fresh-section u)) nb) (open_spot e (section e u) (length u)) (put_bits b (start e) (section e u)) (map rested u) k in
    filled_on nb e u raw p (cut_short (settings u) raw) b h (subst (PutOn (current (Some (fresh-section u)) nb) e (words_of (settings u) raw)) (sym d) r) (later_fault p (cut_short (settings u) raw)) refl
