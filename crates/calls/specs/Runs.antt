-- Calls in a row, and the notebook of the accepted ones.
use Rattle.std.specs.Prelude.{◌≡◌, ℕ, ◌^◌, ◌<◌, List, [], ◌∷◌, ◌++◌, take, Some, None, Ok, Err, Option, Result}
use Rattle.std.specs.Option.{option_map}
use Rattle.bits.specs.Bits.{Bytes}
use Rattle.layout.specs.Recording.{Section, Recording}
use Rattle.layout.specs.Claims.{file, Valid, Gives}
use Rattle.layout.specs.Plain.{IfGiven}
use Rattle.channel.specs.declared.record.Channel.{Channel}
use Rattle.state.specs.declared.Flags.{Flags}
use Rattle.state.specs.declared.Edge.{Edge}
use Rattle.state.specs.declared.Spot.{Spot}
use Rattle.calls.specs.Calls.{Trouble, settings, words_of, begin_result, begin_bytes, open_result, open_bytes, open_table, put_result, put_spot, put_bytes, put_table, more_result, more_bytes, last_result, last_bytes, void_result, void_bytes, void_table, fill_result, fill_bytes, fill_table}

-- A call, with its arguments.
pub data Call : Type 0 where
  opening : List Channel → Call
  putting : ℕ → Call
  closing : Call
  ending : List ℕ → Call
  voiding : Call
  filling : List Channel → List ℕ → Call

-- ## The notebook

-- what began the file, the closed sections, the open one if any, and the leftovers
pub record Notebook : Type 0 where
  pub stamp : ℕ
  pub flags : Flags
  pub name : Option (List ℕ)
  pub extra : Option (List ℕ)
  pub closed : List Section
  pub current : Option Section
  pub leftovers : List ℕ

-- begin notes stamp, flags, name and extra
abbrev pub begins : ℕ → Flags → Option (List ℕ) → Option (List ℕ) → Notebook
begins stamp g name extra = record { stamp = stamp; flags = g; name = name; extra = extra; closed = []; current = None; leftovers = [] }

abbrev pub adding : List ℕ → Section → Section
adding ws s = record { channels = s.channels; words = s.words ++ ws }

abbrev pub listed : Option Section → List Section
listed None = []
listed (Some s) = s ∷ []

-- another open section, or none
abbrev pub current : Option Section → Notebook → Notebook
current o nb = record { stamp = nb.stamp; flags = nb.flags; name = nb.name; extra = nb.extra; closed = nb.closed; current = o; leftovers = nb.leftovers }

-- the open section goes behind the closed ones
abbrev pub closes : List ℕ → Notebook → Notebook
closes ls nb = record { stamp = nb.stamp; flags = nb.flags; name = nb.name; extra = nb.extra; closed = nb.closed ++ listed nb.current; current = None; leftovers = ls }

-- what an accepted call adds
abbrev pub noted : Notebook → Call → Notebook
noted nb (opening t) = current (Some (record { channels = settings t; words = [] })) nb
noted nb (putting w) = current (option_map (adding (w ∷ [])) nb.current) nb
noted nb closing = closes [] nb
noted nb (ending ls) = closes ls nb
noted nb voiding = current None nb
noted nb (filling t raw) = current (Some (record { channels = settings t; words = words_of (settings t) raw })) nb

-- after the end the notebook is a recording
abbrev pub recording : Notebook → Recording
recording nb = record {
  stamp = nb.stamp;
  sized = nb.flags.sized;
  pointed = nb.flags.pointed;
  single = nb.flags.single;
  unrepeated = nb.flags.unrepeated;
  name = nb.name;
  extra = nb.extra;
  sections = nb.closed;
  leftovers = nb.leftovers;
}

-- the notebook after a call that was answered so: fed where the call was accepted
abbrev pub fed : {A E : Type 0} → Result A E → Notebook → Call → Notebook
fed (Ok a) nb c = noted nb c
fed (Err e) nb c = nb

-- ## Runs

-- A writer between sections, inside one, or at its end, where it knows the file's length.
pub data Writer : Type 0 where
  between : Edge → Writer
  inside : Spot → Writer
  ended : ℕ → Writer

-- the writer that an answer leaves
abbrev pub after_open : Result Spot (Edge × Trouble) → Writer
after_open (Ok s) = inside s
after_open (Err f) = between f.0

abbrev pub after_fill : Result (ℕ × Spot) (Edge × Trouble) → Writer
after_fill (Ok a) = inside a.1
after_fill (Err f) = between f.0

abbrev pub after_close : Result Edge (Spot × Trouble) → Writer
after_close (Ok e) = between e
after_close (Err f) = inside f.0

abbrev pub after_last : Result ℕ (Spot × Trouble) → Writer
after_last (Ok n) = ended n
after_last (Err f) = inside f.0

-- A call that was refused, whatever buffer and table it was handed, and the writer that it left.
pub data Refusal : Writer → Call → Writer → Type 0 where
  no_open : (e : Edge) (b : List ℕ) (t : List Channel) (f : Edge × Trouble) → open_result e b t ≡ Err f → Refusal (between e) (opening t) (between f.0)
  no_fill : (e : Edge) (b : List ℕ) (t : List Channel) (raw : List ℕ) (f : Edge × Trouble) → fill_result e b t raw ≡ Err f → Refusal (between e) (filling t raw) (between f.0)
  no_put : (s : Spot) (b : List ℕ) (t : List Channel) (w : ℕ) (f : Trouble) → put_result s b t w ≡ Err f → Refusal (inside s) (putting w) (inside (put_spot s b t w))
  no_more : (s : Spot) (b : List ℕ) (t : List Channel) (f : Spot × Trouble) → more_result s b t ≡ Err f → Refusal (inside s) closing (inside f.0)
  no_void : (s : Spot) (b : List ℕ) (t : List Channel) (f : Spot × Trouble) → void_result s b t ≡ Err f → Refusal (inside s) voiding (inside f.0)
  no_last : (s : Spot) (b : List ℕ) (t : List Channel) (ls : List ℕ) (f : Spot × Trouble) → last_result s b t ls ≡ Err f → Refusal (inside s) (ending ls) (inside f.0)

-- The calls made since the writer was begun, the notebook, and what there is then: the writer, the buffer and the table.
-- Each call is made on the buffer and, inside a section, on the table that the calls before it left; or elsewhere, where it is refused.
pub data Ran : List Call → Notebook → Writer → List ℕ → List Channel → Type 0 where
  begun : (stamp : ℕ) (g : Flags) (name extra : Option (List ℕ)) (b : List ℕ) (t : List Channel) (e : Edge) → stamp < 2 ^ 32 → IfGiven name Bytes → IfGiven extra Bytes → begin_result stamp g name extra b ≡ Ok e →
      Ran [] (begins stamp g name extra) (between e) (begin_bytes stamp g name extra b) t
  opened : {cs : List Call} {nb : Notebook} {e : Edge} {b : List ℕ} {t : List Channel} → Ran cs nb (between e) b t → (u : List Channel) →
      Ran (cs ++ opening u ∷ []) (fed (open_result e b u) nb (opening u)) (after_open (open_result e b u)) (open_bytes e b u) (open_table e b u)
  put : {cs : List Call} {nb : Notebook} {s : Spot} {b : List ℕ} {t : List Channel} → Ran cs nb (inside s) b t → (w : ℕ) →
      Ran (cs ++ putting w ∷ []) (fed (put_result s b t w) nb (putting w)) (inside (put_spot s b t w)) (put_bytes s b t w) (put_table s b t w)
  closed : {cs : List Call} {nb : Notebook} {s : Spot} {b : List ℕ} {t : List Channel} → Ran cs nb (inside s) b t →
      Ran (cs ++ closing ∷ []) (fed (more_result s b t) nb closing) (after_close (more_result s b t)) (more_bytes s b t) t
  voided : {cs : List Call} {nb : Notebook} {s : Spot} {b : List ℕ} {t : List Channel} → Ran cs nb (inside s) b t →
      Ran (cs ++ voiding ∷ []) (fed (void_result s b t) nb voiding) (after_close (void_result s b t)) (void_bytes s b t) (void_table s b t)
  lasted : {cs : List Call} {nb : Notebook} {s : Spot} {b : List ℕ} {t : List Channel} → Ran cs nb (inside s) b t → (ls : List ℕ) → Bytes ls →
      Ran (cs ++ ending ls ∷ []) (fed (last_result s b t ls) nb (ending ls)) (after_last (last_result s b t ls)) (last_bytes s b t ls) t
  filled : {cs : List Call} {nb : Notebook} {e : Edge} {b : List ℕ} {t : List Channel} → Ran cs nb (between e) b t → (u : List Channel) (raw : List ℕ) → Bytes raw →
      Ran (cs ++ filling u raw ∷ []) (fed (fill_result e b u raw) nb (filling u raw)) (after_fill (fill_result e b u raw)) (fill_bytes e b u raw) (fill_table e b u raw)
  elsewhere : {cs : List Call} {nb : Notebook} {w : Writer} {b : List ℕ} {t : List Channel} → Ran cs nb w b t → (c : Call) (v : Writer) → Refusal w c v →
      Ran (cs ++ c ∷ []) nb v b t

-- The law: after any calls on a writer just begun, of which the last was an accepted `last` that answered n,
-- the buffer's first n bytes are the file of the notebook's recording, and they read back as exactly that recording.
pub record Recorded (n : ℕ) (b : List ℕ) (r : Recording) : Type 0 where
  pub written : take n b ≡ file r
  pub valid : Valid r
  pub read : Gives (take n b) r

abbrev pub RunsAreRecorded : Type 0
RunsAreRecorded = (cs : List Call) (nb : Notebook) (n : ℕ) (b : List ℕ) (t : List Channel) → Ran cs nb (ended n) b t → Recorded n b (recording nb)

-- The same for one call: after any calls on a writer just begun that led to this spot, buffer and table, an end with these leftovers that was accepted
-- left the file of the notebook's recording, with the open section and the leftovers in it.
abbrev pub EndsRecorded : Spot → List ℕ → List Channel → List ℕ → Result ℕ (Spot × Trouble) → List ℕ → Type 0
EndsRecorded s b t ls answer after = (cs : List Call) (nb : Notebook) (n : ℕ) → Ran cs nb (inside s) b t → answer ≡ Ok n → Recorded n after (recording (noted nb (ending ls)))
