-- The calls that make the file: what they answer together, and the run that they are.
use Rattle.std.proofs.Common.{◌≡◌, ℕ, ◌+◌, ◌*◌, ◌≤◌, Bool, true, false, cond, eqb, ltb, List, [], ◌∷◌, ◌++◌, length, Some, None, Ok, Err, Option, Result, sym, refl, ap, ◌∙◌, subst, arith}
use Rattle.std.proofs.lemmas.Bool.{ltb-false}
use Rattle.bits.specs.Bits.{Bytes}
use Rattle.forms.proofs.Codes.{none-some}
use Rattle.faults.specs.declared.kind.Fault.{Fault}
use Rattle.faults.specs.Faults.{Answer, gives, fault}
use Rattle.layout.specs.Slim as slim
use Rattle.layout.specs.Recording as recordings
use Rattle.layout.specs.Recording.{Recording}
use Rattle.channel.specs.declared.record.Settings.{Settings}
use Rattle.channel.specs.declared.record.Channel.{Channel}
use Rattle.channel.specs.Records.{parts}
use Rattle.state.specs.declared.Edge.{Edge}
use Rattle.state.specs.declared.Spot.{Spot}
use Rattle.calls.specs.Calls as calls
use Rattle.calls.specs.Calls.{Trouble, settings, words_of, begin_result, begin_bytes, fill_result, fill_bytes, fill_table, strange, behind, last_fault, last_result, last_bytes}
use Rattle.calls.specs.Runs as runs
use Rattle.calls.specs.Runs.{Call, Notebook, begins, noted, fed, between, inside, ended, filling, ending, after_fill, after_last, Ran, Recorded}
use Rattle.calls.proofs.Law.{runs_are_recorded}
use Rattle.writer.specs.Answers.{put}
use Rattle.writer.proofs.Filling.{met-none}
use Rattle.slim_file.specs.Files.{setting, IsRecorded, only_spot, only_size, sized_only, rows, end_result, section_result, record_result}
use Rattle.slim_file.proofs.Words.{words-raw}

-- ## The row

-- a channel record is known by its parts
pub rows_made : (c : Channel) → gives (parts c) ≡ gives (setting, 0) → c ∷ [] ≡ rows
rows_made c e = ap made e
  where
    settings_by : recordings.Channel → Settings
    settings_by s = record { repeats = s.repeats; delta = s.delta; turn = s.turn; algorithm = s.algorithm; kind = s.kind; narrow = s.narrow; value = s.value }

    made : Answer (recordings.Channel × ℕ) → List Channel
    made (gives (s, m)) = record { settings = settings_by s; memory = m } ∷ []
    made (fault k p) = c ∷ []

-- ## What is answered

-- behind an accepted begin
reached : (raw b b1 : List ℕ) (t : List Channel) (e : Edge) → ltb 32768 (length raw) ≡ false → Ok e ≡ begin_result 0 sized_only None None b → b1 ≡ begin_bytes 0 sized_only None None b → t ≡ rows →
    end_result (fill_bytes e b1 t raw) (fill_table e b1 t raw) (only_spot (fill_result e b1 t raw)) ≡ record_result raw b
reached raw b b1 t e l a w r =
    ap (λ z. end_result (fill_bytes e b1 z raw) (fill_table e b1 z raw) (only_spot (fill_result e b1 z raw))) r
    ∙ ap (λ z. section_result raw z (Ok e)) w
    ∙ ap (section_result raw (begin_bytes 0 sized_only None None b)) a
    ∙ sym (ap (λ z. cond {A = Result ℕ Trouble} z (Err (1, 0)) (section_result raw (begin_bytes 0 sized_only None None b) (begin_result 0 sized_only None None b))) l)

pub fill-refused : (raw b b1 : List ℕ) (t : List Channel) (e : Edge) (f : Trouble) → ltb 32768 (length raw) ≡ false → Ok e ≡ begin_result 0 sized_only None None b → b1 ≡ begin_bytes 0 sized_only None None b → t ≡ rows →
    Err f ≡ only_spot (fill_result e b1 t raw) → Err f ≡ record_result raw b
fill-refused raw b b1 t e f l a w r q = ap (end_result (fill_bytes e b1 t raw) (fill_table e b1 t raw)) q ∙ reached raw b b1 t e l a w r

pub answered : (raw b b1 b2 : List ℕ) (t t2 : List Channel) (e : Edge) (s : Spot) (x : Result ℕ Trouble) → ltb 32768 (length raw) ≡ false → Ok e ≡ begin_result 0 sized_only None None b → b1 ≡ begin_bytes 0 sized_only None None b → t ≡ rows →
    Ok s ≡ only_spot (fill_result e b1 t raw) → b2 ≡ fill_bytes e b1 t raw → t2 ≡ fill_table e b1 t raw → x ≡ only_size (last_result s b2 t2 []) → x ≡ record_result raw b
answered raw b b1 b2 t t2 e s x l a w r q v u y =
    y ∙ ap (λ z. only_size (last_result s z t2 [])) v ∙ ap (λ z. only_size (last_result s (fill_bytes e b1 t raw) z [])) u
    ∙ ap (end_result (fill_bytes e b1 t raw) (fill_table e b1 t raw)) q ∙ reached raw b b1 t e l a w r

-- ## The run

one-fill : {cs : List Call} {nb : Notebook} {e : Edge} {b : List ℕ} {t : List Channel} → Ran cs nb (between e) b t → (u : List Channel) (raw : List ℕ) → Bytes raw → (k : ℕ) (s : Spot) → fill_result e b u raw ≡ Ok (k, s) →
    Ran (cs ++ filling u raw ∷ []) (noted nb (filling u raw)) (inside s) (fill_bytes e b u raw) (fill_table e b u raw)
one-fill {cs = cs} {nb = nb} {e = e} {b = b} r u raw y k s h = subst (λ z. Ran (cs ++ filling u raw ∷ []) (fed z nb (filling u raw)) (after_fill z) (fill_bytes e b u raw) (fill_table e b u raw)) h (runs.filled r u raw y)

no_bytes : Bytes []
unfolding Bytes
no_bytes = tt

one_end : {cs : List Call} {nb : Notebook} {s : Spot} {b : List ℕ} {t : List Channel} → Ran cs nb (inside s) b t → (n : ℕ) → last_result s b t [] ≡ Ok n → Ran (cs ++ ending [] ∷ []) (noted nb (ending [])) (ended n) (last_bytes s b t []) t
one_end {cs = cs} {nb = nb} {s = s} {b = b} {t = t} r n h = subst (λ z. Ran (cs ++ ending [] ∷ []) (fed z nb (ending [])) (after_last z) (last_bytes s b t []) t) h (runs.lasted r [] no_bytes)

-- ## The answers of the two calls, whole again

filled_so : (x : Result (ℕ × Spot) (Edge × Trouble)) (s : Spot) → Ok s ≡ only_spot x → (k : ℕ) × (x ≡ Ok (k, s))
filled_so (Ok (k, r)) s e = let q : ◌≡◌ {A = Spot} r s = cc in (k, ap (λ z. Ok (k, z)) q)
filled_so (Err f) s e = let z : ◌≡◌ {A = ℕ} 0 1 = cc in absurd (omega arith)

ended_so : (x : Result ℕ (Spot × Trouble)) (n : ℕ) → Ok n ≡ only_size x → x ≡ Ok n
ended_so (Ok m) n e = let q : ◌≡◌ {A = ℕ} m n = cc in ap (λ z. Ok z) q
ended_so (Err f) n e = let z : ◌≡◌ {A = ℕ} 0 1 = cc in absurd (omega arith)

-- a file lies within its buffer
within : (s : Spot) (b : List ℕ) (t : List Channel) (n : ℕ) → last_result s b t [] ≡ Ok n → n ≤ length b
within s b t n h =
    let k : List Bool = calls.closing s (slim.ended []) in
    let (o, e) = met-none (λ f. (s, f)) (behind s k) n (last_fault s [] k (length b) (length t)) (sym h) in
    let l : s.at.bits + length k ≤ 8 * length b = by_tests (strange s (length b) (length t)) (eqb s.raw 0) (ltb (8 * length b) (s.at.bits + length k)) refl o in
    omega (arith, l, e)
  where
    by_tests : (x y z : Bool) → ltb (8 * length b) (s.at.bits + length (calls.closing s (slim.ended []))) ≡ z →
        cond {A = Option Trouble} x (Some (1, 0)) (cond y (Some (8, s.at.bits)) (cond z (Some (2, s.at.bits)) None)) ≡ None → s.at.bits + length (calls.closing s (slim.ended [])) ≤ 8 * length b
    by_tests true y z q o = absurd (none-some (sym o))
    by_tests false true z q o = absurd (none-some (sym o))
    by_tests false false true q o = absurd (none-some (sym o))
    by_tests false false false q o = ltb-false (8 * length b) (s.at.bits + length (calls.closing s (slim.ended []))) q

-- ## The file

-- one section, with its channels and its words
abbrev recording_by : List recordings.Channel → List ℕ → Recording
recording_by cs ws =
    record { stamp = 0; sized = true; pointed = false; single = false; unrepeated = false; name = None; extra = None; sections = record { channels = cs; words = ws } ∷ []; leftovers = [] }

ran : (raw b b1 b2 : List ℕ) (u t : List Channel) (e : Edge) (s : Spot) (k n : ℕ) → Bytes raw → begin_result 0 sized_only None None b ≡ Ok e → b1 ≡ begin_bytes 0 sized_only None None b →
    fill_result e b1 u raw ≡ Ok (k, s) → b2 ≡ fill_bytes e b1 u raw → t ≡ fill_table e b1 u raw → last_result s b2 t [] ≡ Ok n →
    Recorded n (last_bytes s b2 t []) (recording_by (settings u) (words_of (settings u) raw))
ran raw b b1 b2 u t e s k n y a w f v h l =
    let nb : Notebook = begins 0 sized_only None None in
    let one : Notebook = noted nb (filling u raw) in
    let cs : List Call = filling u raw ∷ [] in
    let r0 : Ran [] nb (between e) b1 u = subst (λ z. Ran [] nb (between e) z u) (sym w) (runs.begun 0 sized_only None None b u e (omega arith) tt tt a) in
    let r1 : Ran cs one (inside s) (fill_bytes e b1 u raw) (fill_table e b1 u raw) = one-fill r0 u raw y k s f in
    let r2 : Ran cs one (inside s) b2 (fill_table e b1 u raw) = subst (λ z. Ran cs one (inside s) z (fill_table e b1 u raw)) (sym v) r1 in
    let r3 : Ran cs one (inside s) b2 t = subst (λ z. Ran cs one (inside s) b2 z) (sym h) r2 in
    runs_are_recorded (cs ++ ending [] ∷ []) (noted one (ending [])) n (last_bytes s b2 t []) t (one_end r3 n l)

pub recorded : (raw b b1 b2 b3 : List ℕ) (u t : List Channel) (e : Edge) (s : Spot) → Bytes raw → Ok e ≡ begin_result 0 sized_only None None b → b1 ≡ begin_bytes 0 sized_only None None b → u ≡ rows →
    Ok s ≡ only_spot (fill_result e b1 u raw) → b2 ≡ fill_bytes e b1 u raw → t ≡ fill_table e b1 u raw → (x : Result ℕ Fault) → put x ≡ only_size (last_result s b2 t []) → b3 ≡ last_bytes s b2 t [] → length b3 ≡ length b2 →
    IsRecorded x b3 raw
recorded raw b b1 b2 b3 u t e s y a w r q v h (Err f) l z m = tt
recorded raw b b1 b2 b3 u t e s y a w r q v h (Ok n) l z m =
    let (k, f) = filled_so (fill_result e b1 u raw) s q in
    let i : last_result s b2 t [] ≡ Ok n = ended_so (last_result s b2 t []) n l in
    let d = ran raw b b1 b2 u t e s k n y (sym a) w f v h i in
    let c : Recorded n b3 (recording_by (settings u) (words_of (settings u) raw)) = subst (λ p. Recorded n p (recording_by (settings u) (words_of (settings u) raw))) (sym z) d in
    let g : Recorded n b3 (recording_by (setting ∷ []) (words_of (setting ∷ []) raw)) = subst (λ (p : List Channel). Recorded n b3 (recording_by (settings p) (words_of (settings p) raw))) r c in
    (omega (arith, within s b2 t n i, m), subst (λ p. Recorded n b3 (recording_by (setting ∷ []) p)) (words-raw raw y) g)
