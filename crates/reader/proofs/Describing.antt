-- A file that was accepted is read again, and the section that is described is found.
use Rattle.std.proofs.Common.{◌≡◌, ℕ, ◌*◌, ◌<◌, ◌≤◌, Bool, true, false, cond, eqb, ltb, List, [], ◌∷◌, ◌++◌, map, length, take, drop, sym, refl, ap, ◌∙◌, subst, arith}
use lib.ListN.{length-map}
use Rattle.std.proofs.lemmas.List.{take-append-le, take_all}
use Rattle.std.proofs.lemmas.Bool.{lt-ltb, le-ltb, ltb-false, lt-leb}
use Rattle.bits.specs.Bits.{bits_of}
use Rattle.faults.specs.Faults as faults
use Rattle.faults.specs.Faults.{Answer, gives}
use Rattle.format.specs.Cells.{File}
use Rattle.format.specs.Format.{Outcome, got, fault, next, whole, ◌>>=◌, judged}
use Rattle.format.proofs.Laws.{faulted, got-got, next-got, cond-got}
use Rattle.layout.specs.Recording as recordings
use Rattle.layout.specs.Recording.{Section, Recording}
use Rattle.layout.specs.Turns.{raw_size}
use Rattle.layout.specs.Slim.{Flags, most_bytes, raw_total, Body, chain, recording, read}
use Rattle.channel.specs.declared.record.Channel.{Channel}
use Rattle.calls.specs.Calls.{settings}
use Rattle.reading.specs.Heads as heads
use Rattle.reader.specs.declared.totals.Totals.{Totals}
use Rattle.reader.specs.Sections.{agrees}
use Rattle.reader.specs.Files.{section_flags, recording_of, body_of, after_head}
use Rattle.reader.specs.Counts.{check_answer}
use Rattle.reader.specs.Describing.{section_at, row_of, rows_of, described, sizes, filled, describe_table, HoldsSection, HasSection, section_in}
use Rattle.reader.proofs.Claimed.{accepted}
use Rattle.reader.proofs.Recordings.{file-stages}
use Rattle.reader.proofs.Finding.{anew-all}

-- ## A file that was read

read_back : (f : List ℕ) (r : Recording) (p l : ℕ) → read f ≡ got r p l → (length f ≤ most_bytes) × (recording.reads (bits_of f) 0 0 ≡ got r p l)
unfolding read
read_back f r p l e = by-test (ltb most_bytes (length f)) refl e
  where
    by-test : (t : Bool) → ltb most_bytes (length f) ≡ t →
        cond t (fault 1 0) (next (recording.reads (bits_of f) 0 0) (λ r p l. cond (eqb p (8 * length f)) (got r p l) (fault 18 l))) ≡ got r p l →
        (length f ≤ most_bytes) × (recording.reads (bits_of f) 0 0 ≡ got r p l)
    by-test true z e = absurd (faulted e)
    by-test false z e =
        let (s, q, m, a, d) = next-got (recording.reads (bits_of f) 0 0) (λ r p l. cond (eqb p (8 * length f)) (got r p l) (fault 18 l)) r p l e in
        let (_, same) = cond-got (eqb q (8 * length f)) (got s q m) 18 m r p l d in
        (ltb-false most_bytes (length f) z, a ∙ same)

after-back : (h : heads.Head) (f : File) (p l : ℕ) (r : Recording) (q m : ℕ) → (after_head h).reads f p l ≡ got r q m → (chain (section_flags h) 64 0).reads f p l ≡ got (body_of r) q m
unfolding after_head judged ◌>>=◌ whole
after-back h f p l r q m e =
    let (s, q₁, m₁, a, d) =
    next-got (next ((chain (section_flags h) 64 0).reads f p l) (λ b q m. got (recording_of h b) q m)) (λ r q m. cond (agrees h.size (raw_total r.sections)) (got r q m) (fault 14 m)) r q m e in
    let (_, same) = cond-got (agrees h.size (raw_total s.sections)) (got s q₁ m₁) 14 m₁ r q m d in
    let (b, q₂, m₂, c, k) = next-got ((chain (section_flags h) 64 0).reads f p l) (λ b q m. got (recording_of h b) q m) r q m (a ∙ same) in
    let (is, x, y) = got-got k in
    c ∙ ap (λ (z : ℕ). got b z m₂) x ∙ ap (λ (z : ℕ). got b q z) y ∙ ap (λ (z : Recording). got (body_of z) q m) is

module _ (f : List ℕ) (t : Totals) (ok : gives t ≡ check_answer f) where
  pub checked-short : length f ≤ most_bytes
  checked-short = let (r, p, l, e, _) = accepted (read f) t (sym ok) in (read_back f r p l e).0

  checked-head : (r : Recording) (p l : ℕ) → read f ≡ got r p l →
      (h : heads.Head) × (q : ℕ) × (m : ℕ) × ((heads.head).reads (bits_of f) 0 0 ≡ got h q m) × ((after_head h).reads (bits_of f) q m ≡ got r p l)
  checked-head r p l e = next-got ((heads.head).reads (bits_of f) 0 0) (λ h q m. (after_head h).reads (bits_of f) q m) r p l (sym (file-stages (bits_of f) 0 0) ∙ (read_back f r p l e).1)

  -- the head is read again
  pub head-again : (x y : ℕ) → fault x y ≡ (heads.head).reads (bits_of f) 0 0 → ⊥
  head-again x y d =
      let (r, p, l, e, _) = accepted (read f) t (sym ok) in
      let (h, q, m, a, _) = checked-head r p l e in
      faulted (d ∙ a)

  -- and so are the sections
  pub sections-again : (h : heads.Head) (q m : ℕ) → got h q m ≡ (heads.head).reads (bits_of f) 0 0 →
      (r : Recording) × (p : ℕ) × (l : ℕ) × (read f ≡ got r p l) × (t.sections ≡ length r.sections) × ((chain (section_flags h) 64 0).reads (bits_of f) q 0 ≡ got (body_of r) p l)
  sections-again h q m d =
      let (r, p, l, e, same) = accepted (read f) t (sym ok) in
      let (k, q₁, m₁, a, b) = checked-head r p l e in
      let (x, y, z) = got-got (d ∙ a) in
      let on : (after_head h).reads (bits_of f) q m ≡ (after_head k).reads (bits_of f) q₁ m₁ =
      ap (λ (j : heads.Head). (after_head j).reads (bits_of f) q m) x ∙ ap (λ (j : ℕ). (after_head k).reads (bits_of f) j m) y ∙ ap (λ (j : ℕ). (after_head k).reads (bits_of f) q₁ j) z in
      (r, p, l, e, ap (λ (u : Totals). u.sections) same, sym (anew-all (section_flags h) (bits_of f) 0 q m) ∙ after-back h (bits_of f) q m r p l (on ∙ b))

-- ## What is described

module _ (f : List ℕ) (i rows : ℕ) (r : Recording) (p l : ℕ) (e : read f ≡ got r p l) (less : i < length r.sections) where
  abbrev s : Section
  s = section_at r.sections i

  pub described-short : rows < length s.channels → faults.fault 2 0 ≡ described (read f) i rows
  described-short h = let a = lt-leb (length r.sections) i less in let b = lt-ltb rows (length s.channels) h in rw (e, a, b) refl

  pub described-on : length s.channels ≤ rows → gives s ≡ described (read f) i rows
  described-on h = let a = lt-leb (length r.sections) i less in let b = le-ltb rows (length s.channels) h in rw (e, a, b) refl

-- the section that is sought is the one that is described
module _ (f : List ℕ) (t : Totals) (ok : gives t ≡ check_answer f) (h : heads.Head) (q m : ℕ) (d : got h q m ≡ (heads.head).reads (bits_of f) 0 0) (g : Flags) (is : g ≡ section_flags h)
    (i : ℕ) (less : i < t.sections) where
  abbrev all : Outcome Body
  all = (chain g 64 0).reads (bits_of f) q 0

  abbrev sought : Section
  sought = section_in all i

  Sought : Type 0
  Sought = (r : Recording) × (p : ℕ) × (l : ℕ) × (read f ≡ got r p l) × (i < length r.sections) × (all ≡ got (body_of r) p l)

  found-again : Sought
  unfolding Sought
  found-again =
      let (r, p, l, e, n, c) = sections-again f t ok h q m d in
      (r, p, l, e, omega (arith, n, less), ap (λ (k : Flags). (chain k 64 0).reads (bits_of f) q 0) is ∙ c)

  pub sought-there : HasSection all i
  unfolding Sought
  sought-there = let (r, p, l, _, n, c) = found-again in subst (λ (o : Outcome Body). HasSection o i) (sym c) n

  pub sought-short : (rows : ℕ) → rows < length sought.channels → faults.fault 2 0 ≡ described (read f) i rows
  unfolding Sought
  sought-short rows k =
      let (r, p, l, e, n, c) = found-again in
      let same : sought ≡ section_at r.sections i = ap (λ (o : Outcome Body). section_in o i) c in
      described-short f i rows r p l e n (subst (λ (s : Section). rows < length s.channels) same k)

  pub sought-on : (rows : ℕ) → length sought.channels ≤ rows → gives sought ≡ described (read f) i rows
  unfolding Sought
  sought-on rows k =
      let (r, p, l, e, n, c) = found-again in
      let same : sought ≡ section_at r.sections i = ap (λ (o : Outcome Body). section_in o i) c in
      ap (λ (s : Section). gives s) same ∙ described-on f i rows r p l e n (subst (λ (s : Section). length s.channels ≤ rows) same k)

-- its sizes and its rows
pub sizes-of : (s : Section) (a : Answer Section) (n raw : ℕ) → gives s ≡ a → n ≡ length s.channels → raw ≡ raw_size s → gives (n, raw) ≡ sizes a
sizes-of s a n raw e x y = ap (λ (k : ℕ). gives (k, raw)) x ∙ ap (λ (k : ℕ). gives (length s.channels, k)) y ∙ ap sizes e

pub rows-filled : (s : Section) (a : Answer Section) (n : ℕ) (t u : List Channel) → gives s ≡ a → n ≡ length s.channels → u ≡ rows_of s → u ++ drop n t ≡ filled a t
rows-filled s a n t u e x y = ap (λ (v : List Channel). v ++ drop n t) y ∙ ap (λ (k : ℕ). rows_of s ++ drop k t) x ∙ ap (λ (b : Answer Section). filled b t) e

-- ## The table

settings-again : (s : Section) → settings (rows_of s) ≡ s.channels
settings-again s = same s.channels
  where
    same : (cs : List recordings.Channel) → settings (map row_of cs) ≡ cs
    same [] = refl
    same (c ∷ cs) = ap (λ ds. c ∷ ds) (same cs)

holds : (f : List ℕ) (i : ℕ) (t : List Channel) → HoldsSection f i (length t) (describe_table f i t)
holds f i t r (p, l, e) less room =
    let s : Section = section_at r.sections i in
    let n : ℕ = length s.channels in
    let many : length (rows_of s) ≡ n = length-map s.channels row_of in
    let d : describe_table f i t ≡ rows_of s ++ drop n t = ap (λ (a : Answer Section). filled a t) (sym (described-on f i (length t) r p l e less room)) in
    let first : take n (rows_of s ++ drop n t) ≡ rows_of s = take-append-le n (rows_of s) (drop n t) (omega (arith, many)) ∙ take_all n (rows_of s) (omega (arith, many)) in
    ap (λ (u : List Channel). settings (take n u)) d ∙ ap settings first ∙ settings-again s

pub holds_section : (f : List ℕ) (i : ℕ) (t u : List Channel) → u ≡ describe_table f i t → HoldsSection f i (length t) u
holds_section f i t u e = subst (λ (v : List Channel). HoldsSection f i (length t) v) (sym e) (holds f i t)
