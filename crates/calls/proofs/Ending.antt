-- An accepted end leaves the file of the notebook's recording.
use Rattle.std.proofs.Common.{◌≡◌, ℕ, ◌+◌, ◌*◌, ◌/◌, ◌<◌, ◌≤◌, Bool, true, false, cond, List, [], ◌∷◌, ◌++◌, length, take, Some, None, Option, Result, sym, ap, ◌∙◌, subst, append_assoc, le_refl, arith, length-append}
use Rattle.std.proofs.lemmas.Bool.Decides.{nat_tests}
use Rattle.bits.specs.Bits.{bits, bytes_of, put_bits, Bytes}
use Rattle.bits.proofs.Numbers.{length-bits}
use Rattle.bits.proofs.Laws.{Bytes-put_bits, length-bytes_of}
use Rattle.format.specs.Cells.{filled}
use Rattle.layout.specs.Recording.{Section, Recording}
use Rattle.layout.specs.Turns.{first, raw_size}
use Rattle.layout.specs.Slim as slim
use Rattle.layout.specs.Slim.{most_sections, raw_total, ended, is_given}
use Rattle.layout.specs.Claims.{layout, file, Valid, Gives}
use Rattle.layout.specs.Plain.{Every, SectionFits}
use Rattle.layout.proofs.Spots.{word_some, inside-counted}
use Rattle.layout.proofs.Validity.{validity_is_plain}
use Rattle.layout.proofs.Stands.{format_stands}
use Rattle.channel.specs.declared.record.Channel.{Channel}
use Rattle.state.specs.declared.Flags.{Flags}
use Rattle.state.specs.declared.Spot.{Spot}
use Rattle.calls.specs.Parts.{Marks, marks_byte, name_bits, extra_bits, head_bits}
use Rattle.calls.specs.Calls as calls
use Rattle.calls.specs.Calls.{Trouble, answer, unless, marks, fields_filled, last_fault, size_filled, start}
use Rattle.calls.specs.Runs.{Notebook, ending, closes, fed, after_last, Recorded, recording}
use Rattle.calls.proofs.Buffers.{Filled, put-again, cut}
use Rattle.calls.proofs.Pieces.{section_bits, section-length}
use Rattle.calls.proofs.Chains.{closed_bits, closed-length, Counted, chain-bits, head_length, head-length, file-bits}
use Rattle.calls.proofs.Words.{every_more}
use Rattle.calls.proofs.Keeping.{flags_in, front_end, Open, Kept, close_up, section_fits, total-more, listed-is}

-- ## The size written again

regrouped : (a b c z d r : List Bool) → (a ++ (b ++ (c ++ (z ++ d)))) ++ r ≡ (a ++ (b ++ c)) ++ (z ++ (d ++ r))
regrouped a b c z d r =
    append_assoc a (b ++ (c ++ (z ++ d))) r
    ∙ ap (λ y. a ++ y) (append_assoc b (c ++ (z ++ d)) r ∙ ap (λ y. b ++ y) (append_assoc c (z ++ d) r ∙ ap (λ y. c ++ y) (append_assoc z d r)) ∙ sym (append_assoc b c (z ++ (d ++ r))))
    ∙ sym (append_assoc a (b ++ c) (z ++ (d ++ r)))

size-again : (t : Bool) (a b c d r : List Bool) (size : ℕ) (f : List ℕ) → length (a ++ (b ++ c)) ≡ 56 → Filled f ((a ++ (b ++ (c ++ (cond t (bits 32 0) [] ++ d)))) ++ r) →
    Filled (cond t (put_bits f 56 (bits 32 size)) f) ((a ++ (b ++ (c ++ (cond t (bits 32 size) [] ++ d)))) ++ r)
size-again true a b c d r size f l h =
    let z : length (bits 32 0) ≡ length (bits 32 size) = length-bits 32 0 ∙ sym (length-bits 32 size) in
    subst (Filled (put_bits f 56 (bits 32 size))) (sym (regrouped a b c (bits 32 size) d r))
    (put-again f (a ++ (b ++ c)) (bits 32 0) (d ++ r) 56 (bits 32 size) (subst (Filled f) (regrouped a b c (bits 32 0) d r) h) l z)
size-again false a b c d r size f l h = h

front_bytes : (stamp byte : ℕ) → length (bits 16 0x4c53 ++ (bits 32 stamp ++ bits 8 byte)) ≡ 56
front_bytes stamp byte =
    omega (arith, length-append (bits 16 0x4c53) (bits 32 stamp ++ bits 8 byte), length-append (bits 32 stamp) (bits 8 byte), length-bits 16 0x4c53, length-bits 32 stamp, length-bits 8 byte)

head-again : (stamp : ℕ) (m : Marks) (name extra : Option (List ℕ)) (size : ℕ) (r : List Bool) (f : List ℕ) → Filled f (head_bits stamp m name extra 0 ++ r) →
    Filled (cond m.sized (put_bits f 56 (bits 32 size)) f) (head_bits stamp m name extra size ++ r)
unfolding head_bits
head-again stamp m name extra size r f h =
    size-again m.sized (bits 16 0x4c53) (bits 32 stamp) (bits 8 (marks_byte m (is_given name) (is_given extra))) (name_bits name ++ extra_bits extra) r size f (front_bytes stamp (marks_byte m (is_given name) (is_given extra))) h

-- ## The file

counted : (g : slim.Flags) (S : Section) → SectionFits g S → Counted S
counted g S f = (length S.words, inside-counted S.channels (word_some S.channels f.settings) first f.some_channels (length S.words) (raw_size S) (le_refl (raw_size S)))

all-counted : (g : slim.Flags) (ss : List Section) → Every (SectionFits g) ss → Every Counted ss
unfolding Every
all-counted g [] h = tt
all-counted g (S ∷ ss) h = (counted g S h.0, all-counted g ss h.1)

-- the recording with a last section
abbrev finished : Notebook → Section → List ℕ → Recording
finished nb S ls = record
    { stamp = nb.stamp; sized = nb.flags.sized; pointed = nb.flags.pointed; single = nb.flags.single; unrepeated = nb.flags.unrepeated; name = nb.name; extra = nb.extra; sections = nb.closed ++ S ∷ []; leftovers = ls }

finished-bits : (nb : Notebook) (S : Section) (ls : List ℕ) → length nb.closed < most_sections → Every (SectionFits (flags_in nb)) nb.closed → SectionFits (flags_in nb) S →
    filled (layout (finished nb S ls)) ≡
    head_bits nb.stamp (marks nb.flags) nb.name nb.extra (raw_total (nb.closed ++ S ∷ [])) ++ (closed_bits (flags_in nb) (head_length (marks nb.flags) nb.name nb.extra) nb.closed ++ section_bits (flags_in nb) (front_end nb) S (ended ls))
finished-bits nb S ls k h f =
    let l = head_length (marks nb.flags) nb.name nb.extra in
    file-bits (finished nb S ls)
    ∙ ap (λ y. head_bits nb.stamp (marks nb.flags) nb.name nb.extra (raw_total (nb.closed ++ S ∷ [])) ++ y)
    (chain-bits (flags_in nb) most_sections 0 l nb.closed S ls k (all-counted (flags_in nb) nb.closed h) (counted (flags_in nb) S f))

fields-bytes : (t : Bool) (f : List ℕ) (p q : ℕ) (u v : List Bool) → Bytes (cond t (put_bits (put_bits f p u) q v) (put_bits f p u))
fields-bytes true f p q u v = Bytes-put_bits (put_bits f p u) q v
fields-bytes false f p q u v = Bytes-put_bits f p u

size-bytes : (t : Bool) (f : List ℕ) (v : List Bool) → Bytes f → Bytes (cond t (put_bits f 56 v) f)
size-bytes true f v h = Bytes-put_bits f 56 v
size-bytes false f v h = h

file-is : (r : Recording) (w : List Bool) → filled (layout r) ≡ w → bytes_of w ≡ file r
unfolding file
file-is r w e = ap bytes_of (sym e)

last_fits : (s : Spot) (ls : List ℕ) (C : List Bool) (len rows : ℕ) → last_fault s ls C len rows ≡ None → (0 < s.raw) × (length ls ≤ 7) × (s.at.bits + length C ≤ 8 * len)
last_fits s ls C len rows q = (grind (arith, nat_tests), grind (arith, nat_tests), grind (arith, nat_tests))

abbrev pub ends : Option Trouble → Spot → ℕ → Result ℕ (Spot × Trouble)
ends o s n = answer o n (λ f. (s, f))

pub recorded-last : (nb : Notebook) (s : Spot) (b : List ℕ) (t : List Channel) (ls : List ℕ) → last_fault s ls (calls.closing s (ended ls)) (length b) (length t) ≡ None → Bytes ls → (h : Open nb s b t) →
    Recorded (calls.behind s (calls.closing s (ended ls))) (size_filled s (fields_filled s 0 (put_bits b s.at.bits (calls.closing s (ended ls))))) (finished nb h.section ls)
recorded-last nb s b t ls q y h =
    let C = calls.closing s (ended ls) in
    let (p, few, r) = last_fits s ls C (length b) (length t) q in
    let S = h.section in
    let g = flags_in nb in
    let G = h.ground in
    let n = calls.behind s C in
    let m = marks nb.flags in
    let l = head_length m nb.name nb.extra in
    let H : ℕ → List Bool = λ size. head_bits nb.stamp m nb.name nb.extra size in
    let K = close_up nb s b t (ended ls) h r in
    let B = fields_filled s 0 (put_bits b s.at.bits C) in
    let X = closed_bits g l nb.closed ++ section_bits g (front_end nb) S (ended ls) in
    let f1 : Filled B (H 0 ++ X) = subst (Filled B) (append_assoc (H 0) (closed_bits g l nb.closed) (section_bits g (front_end nb) S (ended ls))) K.filled in
    let total : ℕ = raw_total (nb.closed ++ S ∷ []) in
    let te : total ≡ s.edge.raw + s.raw = total-more nb.closed S ∙ omega (arith, G.raw, h.raw) in
    let f2 : Filled (cond m.sized (put_bits B 56 (bits 32 total)) B) (H total ++ X) = head-again nb.stamp m nb.name nb.extra total X B f1 in
    let D = size_filled s B in
    let de : cond m.sized (put_bits B 56 (bits 32 total)) B ≡ D =
    ap (λ (z : Flags). cond z.sized (put_bits B 56 (bits 32 total)) B) (sym G.same) ∙ ap (λ k. cond s.edge.flags.sized (put_bits B 56 (bits 32 k)) B) te in
    let f3 : Filled D (H total ++ X) = subst (λ z. Filled z (H total ++ X)) de f2 in
    let SF = section_fits nb s b t h p in
    let eq = finished-bits nb S ls G.few G.sections SF in
    let lX : length (H total ++ X) ≡ 8 * n =
    omega (arith, length-append (H total) X, head-length nb.stamp m nb.name nb.extra total, length-append (closed_bits g l nb.closed) (section_bits g (front_end nb) S (ended ls)), closed-length g l nb.closed, section-length g (front_end nb) S (ended ls), K.end) in
    let by : Bytes D = size-bytes s.edge.flags.sized B (bits 32 (s.edge.raw + s.raw)) (fields-bytes s.edge.flags.pointed (put_bits b s.at.bits C) (start s.edge) (start s.edge + 32) (bits 32 s.raw) (bits 32 0)) in
    let w : take n D ≡ file (finished nb S ls) = cut D (H total ++ X) n f3 by lX ∙ file-is (finished nb S ls) (H total ++ X) eq in
    let fl : length (file (finished nb S ls)) ≡ (length (H total ++ X) + 7) / 8 = ap length (sym (file-is (finished nb S ls) (H total ++ X) eq)) ∙ length-bytes_of (H total ++ X) in
    let v : Valid (finished nb S ls) = validity_is_plain.valid (finished nb S ls) (record {
      stamp = G.stamp;
      name = G.name;
      extra = G.extra;
      some_sections = omega (arith, length-append nb.closed (S ∷ []));
      few_sections = omega (arith, length-append nb.closed (S ∷ []), G.few);
      sections = every_more (SectionFits g) nb.closed S G.sections SF;
      raw = omega (arith, h.total);
      few_leftovers = few;
      leftovers = y;
      small = omega (arith, h.len, G.limit);
    }) in
    record { written = w; valid = v; read = subst (λ f. Gives f (finished nb S ls)) (sym w) (format_stands.again (finished nb S ls) v) }

-- the notebook's recording, once the open section is behind the others
finished-is : (nb : Notebook) (S : Section) (ls : List ℕ) → nb.current ≡ Some S → finished nb S ls ≡ recording (closes ls nb)
finished-is nb S ls e =
    ap (λ (ss : List Section). record { stamp = nb.stamp; sized = nb.flags.sized; pointed = nb.flags.pointed; single = nb.flags.single; unrepeated = nb.flags.unrepeated; name = nb.name; extra = nb.extra; sections = ss; leftovers = ls }) (sym (listed-is nb S e))

pub kept-last : (nb : Notebook) (s : Spot) (b : List ℕ) (t : List Channel) (ls : List ℕ) (o : Option Trouble) → last_fault s ls (calls.closing s (ended ls)) (length b) (length t) ≡ o → Bytes ls → Open nb s b t →
    Kept (fed (ends o s (calls.behind s (calls.closing s (ended ls)))) nb (ending ls)) (after_last (ends o s (calls.behind s (calls.closing s (ended ls)))))
    (unless o b (size_filled s (fields_filled s 0 (put_bits b s.at.bits (calls.closing s (ended ls)))))) t
kept-last nb s b t ls (Some f) q y h = h
kept-last nb s b t ls None q y h =
    subst (Recorded (calls.behind s (calls.closing s (ended ls))) (size_filled s (fields_filled s 0 (put_bits b s.at.bits (calls.closing s (ended ls))))))
    (finished-is nb h.section ls h.current) (recorded-last nb s b t ls q y h)
