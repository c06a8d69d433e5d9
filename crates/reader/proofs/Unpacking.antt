-- A file that was checked is unpacked.
use Rattle.std.proofs.Common.{◌≡◌, ℕ, ◌+◌, ◌*◌, ◌<◌, ◌≤◌, Bool, true, false, cond, eqb, ltb, List, [], ◌∷◌, length, take, drop, sym, refl, ap, ◌∙◌, arith, length-append}
use Rattle.std.proofs.lemmas.Bool.{le-leb, lt-leb, ltb-false}
use Rattle.std.proofs.lemmas.List.{take_at}
use Rattle.bits.specs.Bits.{bits_of}
use Rattle.faults.specs.Faults as faults
use Rattle.faults.specs.Faults.{Answer, gives}
use Rattle.format.specs.Format.{Outcome, got, fault, next, whole, ◌>>=◌, judged}
use Rattle.format.proofs.Laws.{faulted, got-got, next-got, cond-got}
use Rattle.layout.specs.Recording.{Section, Recording}
use Rattle.layout.specs.Turns.{first}
use Rattle.layout.specs.Slim.{most_bytes, Body, chain, raw_total, recording, read}
use Rattle.layout.proofs.Stands.{format_stands}
use Rattle.layout.proofs.Validity.{validity_is_plain}
use Rattle.words.proofs.Spreading.{raw-length}
use Rattle.reading.specs.Heads as heads
use Rattle.reader.specs.declared.totals.Totals.{Totals}
use Rattle.reader.specs.Files.{section_flags, recording_of, after_head}
use Rattle.reader.specs.Counts.{recording_totals, answer_totals, check_answer}
use Rattle.reader.specs.Unpacking.{section_bytes, sections_bytes, contents, contents_of, fronted, room_answer, room_bytes, unpack_answer, unpack_bytes, Unpacks, RoomFor, body_answer, body_left}
use Rattle.reader.proofs.Recordings.{file-stages}

-- ## Files that are not read

faults_apart : {n q m p : ℕ} → ◌≡◌ {A = Answer Totals} (faults.fault n q) (faults.fault m p) → ◌≡◌ {A = Outcome Recording} (fault n q) (fault m p)
faults_apart e = cc

not-read : (o : Outcome Recording) (n q : ℕ) → faults.fault n q ≡ answer_totals o → fault n q ≡ o
not-read (got r p l) n q e = let z : ◌≡◌ {A = ℕ} 0 1 = cc in absurd (omega arith)
not-read (fault m p) n q e = faults_apart e

pub unread-answer : (f : List ℕ) (room n q : ℕ) → faults.fault n q ≡ check_answer f → faults.fault n q ≡ unpack_answer f room
unread-answer f room n q e = ap (λ (o : Outcome Recording). room_answer o room) (not-read (read f) n q e)

pub unread-bytes : (f out : List ℕ) (n q : ℕ) → faults.fault n q ≡ check_answer f → out ≡ unpack_bytes f out
unread-bytes f out n q e = ap (λ (o : Outcome Recording). room_bytes o out) (not-read (read f) n q e)

-- ## What follows for every recording

module _ (r : Recording) (p l : ℕ) (o : Outcome Recording) (e : o ≡ got r p l) where
  room-answer : (room : ℕ) → length (contents_of r) ≤ room → room_answer o room ≡ gives (length (contents_of r))
  room-answer room h = let t = le-leb (length (contents_of r)) room h in ap (λ (o : Outcome Recording). room_answer o room) e ∙ ap (λ (b : Bool). cond b (gives (length (contents_of r))) (faults.fault 2 0)) t

  room-bytes : (out : List ℕ) → length (contents_of r) ≤ length out → room_bytes o out ≡ fronted (contents_of r) out
  room-bytes out h = let t = le-leb (length (contents_of r)) (length out) h in ap (λ (o : Outcome Recording). room_bytes o out) e ∙ ap (λ (b : Bool). cond b (fronted (contents_of r) out) out) t

  short-answer : (room : ℕ) → room < length (contents_of r) → room_answer o room ≡ faults.fault 2 0
  short-answer room h = let t = lt-leb (length (contents_of r)) room h in ap (λ (o : Outcome Recording). room_answer o room) e ∙ ap (λ (b : Bool). cond b (gives (length (contents_of r))) (faults.fault 2 0)) t

  short-bytes : (out : List ℕ) → length out < length (contents_of r) → room_bytes o out ≡ out
  short-bytes out h = let t = lt-leb (length (contents_of r)) (length out) h in ap (λ (o : Outcome Recording). room_bytes o out) e ∙ ap (λ (b : Bool). cond b (fronted (contents_of r) out) out) t

pub unpacks : (f out : List ℕ) (answer : Answer ℕ) (left : List ℕ) → answer ≡ unpack_answer f (length out) → left ≡ unpack_bytes f out → Unpacks f out answer left
unpacks f out answer left a b r (p, l, e) h = (
  a ∙ room-answer r p l (read f) e (length out) h,
  ap (take (length (contents_of r))) (b ∙ room-bytes r p l (read f) e out h) ∙ take_at (contents_of r) (drop (length (contents_of r)) out) (length (contents_of r)) refl,
)

-- ## Files that are read

sections-length : (ss : List Section) → length (sections_bytes ss) ≡ raw_total ss
unfolding sections_bytes raw_total
sections-length [] = refl
sections-length (s ∷ ss) = omega (arith, length-append (section_bytes s) (sections_bytes ss), raw-length s.channels first s.words, sections-length ss)

contents-length : (ss : List Section) (ls : List ℕ) → length (contents ss ls) ≡ raw_total ss + length ls
contents-length ss ls = omega (arith, length-append (sections_bytes ss) ls, sections-length ss)

gives_apart : {t u : Totals} → ◌≡◌ {A = Answer Totals} (gives t) (gives u) → t ≡ u
gives_apart e = cc

is_read : (o : Outcome Recording) (t : Totals) → gives t ≡ answer_totals o → (r : Recording) × (p : ℕ) × (l : ℕ) × (o ≡ got r p l) × (t ≡ recording_totals r)
is_read (got r p l) t e = (r, p, l, refl, gives_apart e)
is_read (fault n q) t e = let z : ◌≡◌ {A = ℕ} 0 1 = cc in absurd (omega arith)

long-not : (t : Bool) (o : Outcome Recording) (r : Recording) (p l : ℕ) → cond t (fault 1 0) o ≡ got r p l → (t ≡ false) × (o ≡ got r p l)
long-not true o r p l e = absurd (faulted e)
long-not false o r p l e = (refl, e)

read_all : (f : List ℕ) (r : Recording) (p l : ℕ) → read f ≡ got r p l → (length f ≤ most_bytes) × (recording.reads (bits_of f) 0 0 ≡ got r p l)
unfolding read
read_all f r p l e =
    let (t, d) = long-not (ltb most_bytes (length f)) (next (recording.reads (bits_of f) 0 0) (λ r p l. cond (eqb p (8 * length f)) (got r p l) (fault 18 l))) r p l e in
    let (s, q, m, a, b) = next-got (recording.reads (bits_of f) 0 0) (λ r p l. cond (eqb p (8 * length f)) (got r p l) (fault 18 l)) r p l d in
    let (_, c) = cond-got (eqb q (8 * length f)) (got s q m) 18 m r p l b in
    (ltb-false most_bytes (length f) t, a ∙ c)

after-back : (h : heads.Head) (f : List Bool) (p l : ℕ) (r : Recording) (q m : ℕ) → (after_head h).reads f p l ≡ got r q m →
    (b : Body) × (q₁ : ℕ) × (m₁ : ℕ) × ((chain (section_flags h) 64 0).reads f p l ≡ got b q₁ m₁) × (recording_of h b ≡ r)
unfolding after_head judged ◌>>=◌ whole
after-back h f p l r q m e =
    let (s, q₁, m₁, a, b) = next-got _ _ r q m e in
    let (_, c) = cond-got _ (got s q₁ m₁) 14 m₁ r q m b in
    let (x, q₂, m₂, d, g) = next-got ((chain (section_flags h) 64 0).reads f p l) (λ b q m. got (recording_of h b) q m) s q₁ m₁ a in
    (x, q₂, m₂, d, (got-got g).0 ∙ (got-got c).0)

module _ (f : List ℕ) (t : Totals) (e : gives t ≡ check_answer f) where
  abbrev known : (r : Recording) × (p : ℕ) × (l : ℕ) × (read f ≡ got r p l) × (t ≡ recording_totals r)
  known = is_read (read f) t e

  many : length (contents_of known.0) ≡ t.raw + t.leftovers
  many =
      let (r, p, l, d, same) = known in
      contents-length r.sections r.leftovers ∙ ap (λ (z : Totals). z.raw + z.leftovers) (sym same)

  pub checked-short : length f ≤ 16777216
  checked-short = let (r, p, l, d, same) = known in (read_all f r p l d).0

  pub checked-few : (t.raw ≤ 16777216) × (t.leftovers ≤ 7)
  checked-few =
      let (r, p, l, d, same) = known in
      let fits = validity_is_plain.fits r (format_stands.only f r (p, l, d)).0 in
      (omega (arith, fits.raw, ap (λ (z : Totals). z.raw) same), omega (arith, fits.few_leftovers, ap (λ (z : Totals). z.leftovers) same))

  pub no-room-answer : (room : ℕ) → room < t.raw + t.leftovers → faults.fault 2 0 ≡ unpack_answer f room
  no-room-answer room h = let (r, p, l, d, same) = known in sym (short-answer r p l (read f) d room (omega (arith, many, h)))

  pub no-room-bytes : (out : List ℕ) → length out < t.raw + t.leftovers → out ≡ unpack_bytes f out
  no-room-bytes out h = let (r, p, l, d, same) = known in sym (short-bytes r p l (read f) d out (omega (arith, many, h)))

  -- its head, and its sections and leftovers
  staged : (h : heads.Head) × (q : ℕ) × (m : ℕ) × (b : Body) × (q₁ : ℕ) × (m₁ : ℕ) × ((heads.head).reads (bits_of f) 0 0 ≡ got h q m) × ((chain (section_flags h) 64 0).reads (bits_of f) q m ≡ got b q₁ m₁) × (recording_of h b ≡ known.0)
  staged =
      let (r, p, l, d, same) = known in
      let (h, q, m, a, b) = next-got ((heads.head).reads (bits_of f) 0 0) (λ h q m. (after_head h).reads (bits_of f) q m) r p l (sym (file-stages (bits_of f) 0 0) ∙ (read_all f r p l d).1) in
      let (x, q₁, m₁, c, g) = after-back h (bits_of f) q m r p l b in
      (h, q, m, x, q₁, m₁, a, c, g)

  pub checked-head : {x y : ℕ} → fault x y ≡ (heads.head).reads (bits_of f) 0 0 → ⊥
  checked-head z = let (h, q, m, x, q₁, m₁, a, c, g) = staged in faulted (z ∙ a)

  module _ (h : heads.Head) (q m : ℕ) (s : got h q m ≡ (heads.head).reads (bits_of f) 0 0) where
    abbrev Chain : Outcome Body
    Chain = (chain (section_flags h) 64 0).reads (bits_of f) q m

    sections : (b : Body) × (q₁ : ℕ) × (m₁ : ℕ) × (Chain ≡ got b q₁ m₁) × (recording_of h b ≡ known.0)
    sections =
        let (k, u, v, x, q₁, m₁, a, c, g) = staged in
        let (i, j, w) = got-got (s ∙ a) in (
          x,
          q₁,
          m₁,
          ap (λ (y : heads.Head). (chain (section_flags y) 64 0).reads (bits_of f) q m) i ∙ ap (λ (y : ℕ). (chain (section_flags k) 64 0).reads (bits_of f) y m) j ∙ ap (λ (y : ℕ). (chain (section_flags k) 64 0).reads (bits_of f) u y) w ∙ c,
          ap (λ (y : heads.Head). recording_of y x) i ∙ g,
        )

    pub room_for : (room : ℕ) (o : Outcome Body) → o ≡ Chain → t.raw + t.leftovers ≤ room → RoomFor o room
    room_for room o is le =
        let (b, q₁, m₁, c, g) = sections in
        let long : length (contents b.sections b.leftovers) ≡ t.raw + t.leftovers = ap (λ (y : Recording). length (contents_of y)) g ∙ many in
        let few : length b.leftovers ≡ t.leftovers = ap (λ (y : Recording). length y.leftovers) g ∙ ap (λ (y : Totals). y.leftovers) (sym known.4) in
        by_cases b q₁ m₁ o (sym (is ∙ c)) (omega (arith, few, checked-few.1)) (omega (arith, long, le))
      where
        by_cases : (b : Body) (q₁ m₁ : ℕ) (o : Outcome Body) → got b q₁ m₁ ≡ o → length b.leftovers ≤ 7 → length (contents b.sections b.leftovers) ≤ room → RoomFor o room
        by_cases b q₁ m₁ (got x p l) c few long =
            let same = (got-got c).0 in
            (omega (arith, few, ap (λ (y : Body). length y.leftovers) same), omega (arith, long, ap (λ (y : Body). length (contents y.sections y.leftovers)) same))
        by_cases b q₁ m₁ (fault n p) c few long = absurd (faulted (sym c))

    pub written-answer : (room : ℕ) (answer : Answer ℕ) → t.raw + t.leftovers ≤ room → answer ≡ body_answer Chain → answer ≡ unpack_answer f room
    written-answer room answer le a =
        let (b, q₁, m₁, c, g) = sections in
        let (r, p, l, d, same) = known in
        a ∙ ap body_answer c ∙ ap (λ (y : Recording). gives (length (contents_of y))) g ∙ sym (room-answer r p l (read f) d room (omega (arith, many, le)))

    pub written-bytes : (out left : List ℕ) → t.raw + t.leftovers ≤ length out → left ≡ body_left Chain out → left ≡ unpack_bytes f out
    written-bytes out left le a =
        let (b, q₁, m₁, c, g) = sections in
        let (r, p, l, d, same) = known in
        a ∙ ap (λ (o : Outcome Body). body_left o out) c ∙ ap (λ (y : Recording). fronted (contents_of y) out) g ∙ sym (room-bytes r p l (read f) d out (omega (arith, many, le)))
