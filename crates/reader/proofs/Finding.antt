-- A section that is sought among those of a file.
use Rattle.std.proofs.Common.{◌≡◌, ℕ, zero, suc, ◌+◌, ◌-◌, ◌<◌, ◌≤◌, Bool, true, ltb, List, [], ◌∷◌, map, length, take, Ok, Err, Result, sym, refl, ap, ◌∙◌, subst, arith}
use lib.ListN.{length-map}
use Rattle.std.proofs.lemmas.List.{length-take-le}
use Rattle.std.proofs.lemmas.Bool.{lt-ltb}
use Rattle.faults.specs.declared.kind.Fault.{Fault}
use Rattle.format.specs.Cells.{File}
use Rattle.format.specs.Format.{Outcome, got, fault, next, Format, field, whole, refuse, ◌>>=◌, judged}
use Rattle.format.proofs.Laws.{faulted, got-got, next-got}
use Rattle.layout.specs.Recording.{Section}
use Rattle.layout.specs.Turns.{first, raw_bytes, raw_size}
use Rattle.layout.specs.Slim.{Flags, Piece, Closing, another, ended, Body, positive, piece, behind, chain}
use Rattle.layout.proofs.Counting.{counted-bytes}
use Rattle.channel.specs.declared.record.Channel.{Channel}
use Rattle.channel.specs.Records.{settings_of, rested}
use Rattle.calls.specs.Calls.{settings}
use Rattle.reading.specs.declared.taken.Taken.{Taken}
use Rattle.reading.specs.Told.{told}
use Rattle.reader.specs.declared.opening.Opening.{Opening}
use Rattle.reader.specs.Sections.{Head, head, rest, rows_in, head_in, AtRest}
use Rattle.bits.specs.Bits.{bits_of}
use Rattle.reading.specs.Blocks.{closing_of}
use Rattle.reader.specs.declared.outline.Outline.{Outline}
use Rattle.reader.specs.Walks.{Standing, next_section, all_sections, moved}
use Rattle.reader.specs.Counts.{seen, outline, outline_in}
use Rattle.reader.specs.Describing.{row_of, HasSection, section_in, Found}
use Rattle.reader.proofs.Stages.{section-stages}
use Rattle.reader.proofs.Sound.{seen_back, rest-sound, piece-sound}
use Rattle.reader.proofs.Passed.{unseen}
use Rattle.reader.proofs.Walks.{next-is}

-- ## One section, and those behind it

further : (s : Section) (o : Outcome Body) (j : ℕ) → HasSection (next o (λ b q m. got (record { sections = s ∷ b.sections; leftovers = b.leftovers }) q m)) (suc j) →
    HasSection o j × (section_in o j ≡ section_in (next o (λ b q m. got (record { sections = s ∷ b.sections; leftovers = b.leftovers }) q m)) (suc j))
unfolding next
further s (got b q m) j h = (omega (arith, h), refl)
further s (fault n q) j h = absurd h

nearest : (s : Section) (o : Outcome Body) → HasSection (next o (λ b q m. got (record { sections = s ∷ b.sections; leftovers = b.leftovers }) q m)) 0 →
    section_in (next o (λ b q m. got (record { sections = s ∷ b.sections; leftovers = b.leftovers }) q m)) 0 ≡ s
unfolding next
nearest s (got b q m) h = refl
nearest s (fault n q) h = absurd h

module _ (F : Format Body) (s : Section) (f : File) (p l : ℕ) where
  behind_more : (e : Closing) (j : ℕ) → HasSection ((behind F s e).reads f p l) (suc j) →
      HasSection (F.reads f p l) j × (section_in (F.reads f p l) j ≡ section_in ((behind F s e).reads f p l) (suc j))
  unfolding behind ◌>>=◌ whole
  behind_more another j h = further s (F.reads f p l) j h
  behind_more (ended ls) j h = absurd (omega (arith, h))

  behind-first : (e : Closing) → HasSection ((behind F s e).reads f p l) 0 → section_in ((behind F s e).reads f p l) 0 ≡ s
  unfolding behind ◌>>=◌ whole
  behind-first another h = nearest s (F.reads f p l) h
  behind-first (ended ls) h = refl

module _ (g : Flags) (f : File) where
  -- where a section is there, reading was not at its limit
  more : (n r p l j : ℕ) → HasSection ((chain g n r).reads f p l) j → n ≡ suc (n - 1)
  unfolding chain refuse
  more zero r p l j h = absurd h
  more (suc n) r p l j h = omega arith

  -- the field that was last tried is that of the section
  anew : (n r p l : ℕ) → n ≡ suc (n - 1) → (chain g n r).reads f p l ≡ (chain g n r).reads f p 0
  unfolding chain piece ◌>>=◌ judged field next
  anew zero r p l e = absurd (omega (arith, e))
  anew (suc n) r p l e = refl

  pub anew-all : (r p l : ℕ) → (chain g 64 r).reads f p l ≡ (chain g 64 r).reads f p 0
  anew-all r p l = anew 64 r p l refl

  abbrev onward : ℕ → ℕ → Piece → ℕ → ℕ → Outcome Body
  onward k r x q m = (behind (chain g k (r + raw_size x.section)) x.section x.closing).reads f q m

  -- what was read of a section, and where it ends
  abbrev Past : ℕ → ℕ → ℕ → Outcome Body → ℕ → Type 0
  Past n r p o j =
      (x : Piece) × (q : ℕ) × (m : ℕ) × ((piece g true r).reads f p 0 ≡ got x q m) ×
      HasSection ((chain g (n - 1) (r + raw_size x.section)).reads f q 0) j × (section_in ((chain g (n - 1) (r + raw_size x.section)).reads f q 0) j ≡ section_in o (suc j)) × (1 < n)

  -- a section before the one that is sought
  past : (k r p j : ℕ) (o : Outcome Piece) → (piece g (positive k) r).reads f p 0 ≡ o → HasSection (next o (onward k r)) (suc j) → Past (suc k) r p (next o (onward k r)) j
  unfolding next
  past k r p j (fault n q) e h = absurd h
  past k r p j (got x q m) e h =
      let F : Format Body = chain g k (r + raw_size x.section) in
      let (a, b) = behind_more F x.section f q m x.closing j h in
      let z : k ≡ suc (k - 1) = more k (r + raw_size x.section) q m j a in
      let t : true ≡ positive k = sym (lt-ltb 0 k (omega (arith, z))) in
      let same : (chain g k (r + raw_size x.section)).reads f q m ≡ (chain g (suc k - 1) (r + raw_size x.section)).reads f q 0 =
      anew k (r + raw_size x.section) q m z ∙ ap (λ (i : ℕ). (chain g i (r + raw_size x.section)).reads f q 0) (omega arith) in
      (x, q, m, ap (λ (b : Bool). (piece g b r).reads f p 0) t ∙ e, subst (λ (o : Outcome Body). HasSection o j) same a, ap (λ (o : Outcome Body). section_in o j) (sym same) ∙ b, omega (arith, z))

  pub pass : (n r p j : ℕ) → HasSection ((chain g n r).reads f p 0) (suc j) → Past n r p ((chain g n r).reads f p 0) j
  unfolding chain ◌>>=◌ refuse
  pass zero r p j h = absurd h
  pass (suc k) r p j h = past k r p j ((piece g (positive k) r).reads f p 0) refl h

  -- the loop passes a section
  module _ (i r p n : ℕ) (less : i < n) (h : HasSection ((chain g (64 - i) r).reads f p 0) (n - i)) where
    abbrev read : Outcome Piece
    read = (piece g (ltb (i + 1) 64) r).reads f p 0

    further-on : Past (64 - i) r p ((chain g (64 - i) r).reads f p 0) (n - (i + 1))
    further-on = let z : n - i ≡ suc (n - (i + 1)) = omega (arith, less) in pass (64 - i) r p (n - (i + 1)) (subst (λ (j : ℕ). HasSection ((chain g (64 - i) r).reads f p 0) j) z h)

    -- there is room for another
    pub few_before : i + 1 < 64
    few_before = let (_, _, _, _, _, _, most) = further-on in omega (arith, most)

    with-room : read ≡ (piece g true r).reads f p 0
    with-room = ap (λ (t : Bool). (piece g t r).reads f p 0) (lt-ltb (i + 1) 64 few_before)

    pub passes : (x y : ℕ) → fault x y ≡ seen outline read → ⊥
    passes x y e = let (a, q, m, d, _, _, _) = further-on in faulted (unseen outline read x y e ∙ with-room ∙ d)

    pub passed_on : (k w : ℕ) (e : Closing) (q m : ℕ) → got (k, w, e) q m ≡ seen outline read →
        HasSection ((chain g (64 - (i + 1)) (r + k)).reads f q 0) (n - (i + 1))
        × (section_in ((chain g (64 - (i + 1)) (r + k)).reads f q 0) (n - (i + 1)) ≡ section_in ((chain g (64 - i) r).reads f p 0) (n - i))
        × (r + k ≤ 16777216)
    passed_on k w e q m d =
        let (x, v, o) = seen_back outline read (k, w, e) q m d in
        let (y, q₁, m₁, o₁, has, same, _) = further-on in
        let (xy, qq, _) = got-got (sym o ∙ with-room ∙ o₁) in
        let size : raw_size y.section ≡ k = ap (λ (z : Piece). raw_size z.section) (sym xy) ∙ sym (ap (λ (z : ℕ × ℕ × Closing). z.0) v) in
        let one : 64 - i - 1 ≡ 64 - (i + 1) = omega arith in
        let back : suc (n - (i + 1)) ≡ n - i = omega (arith, less) in
        let (most, _) = piece-sound g (ltb (i + 1) 64) r f p 0 x q m o in
        let raw : raw_size x.section ≡ k = sym (ap (λ (z : ℕ × ℕ × Closing). z.0) v) in
        let on : (chain g (64 - i - 1) (r + raw_size y.section)).reads f q₁ 0 ≡ (chain g (64 - (i + 1)) (r + k)).reads f q 0 =
        ap (λ (a : ℕ). (chain g a (r + raw_size y.section)).reads f q₁ 0) one
        ∙ ap (λ (a : ℕ). (chain g (64 - (i + 1)) (r + a)).reads f q₁ 0) size
        ∙ ap (λ (a : ℕ). (chain g (64 - (i + 1)) (r + k)).reads f a 0) (sym qq) in (
          subst (λ (o : Outcome Body). HasSection o (n - (i + 1))) on has,
          ap (λ (o : Outcome Body). section_in o (n - (i + 1))) (sym on) ∙ same ∙ ap (λ (j : ℕ). section_in ((chain g (64 - i) r).reads f p 0) j) back,
          omega (arith, most, raw),
        )

  -- ## The head of the section

  abbrev Opens : ℕ → ℕ → Section → Type 0
  Opens r p s = (h : Head) × (q : ℕ) × (m : ℕ) × ((head g r).reads f p 0 ≡ got h q m) × (h.raw ≡ raw_size s) × (h.channels ≡ s.channels)

  opens : (room : Bool) (r p : ℕ) (x : Piece) (q m : ℕ) → (piece g room r).reads f p 0 ≡ got x q m → Opens r p x.section
  opens room r p x q m e =
      let (h, q₁, m₁, a, b) = next-got ((head g r).reads f p 0) (λ h q m. (rest room h).reads f q m) x q m (sym (section-stages g room r f p 0) ∙ e) in
      let (same, count) = rest-sound room h f q₁ m₁ x q m b in
      let raw : raw_size x.section ≡ h.raw = ap (λ cs. raw_bytes cs first (length x.section.words)) same ∙ counted-bytes h.channels first h.raw h.raw (length x.section.words) count in
      (h, q₁, m₁, a, sym raw, sym same)

  first-opens : (k r p : ℕ) (o : Outcome Piece) → (piece g (positive k) r).reads f p 0 ≡ o → HasSection (next o (onward k r)) 0 → Opens r p (section_in (next o (onward k r)) 0)
  unfolding next
  first-opens k r p (fault n q) e h = absurd h
  first-opens k r p (got x q m) e h =
      let same = behind-first (chain g k (r + raw_size x.section)) x.section f q m x.closing h in
      subst (λ (s : Section). Opens r p s) (sym same) (opens (positive k) r p x q m e)

  pub sought-opens : (n r p : ℕ) → HasSection ((chain g n r).reads f p 0) 0 → Opens r p (section_in ((chain g n r).reads f p 0) 0)
  unfolding chain ◌>>=◌ refuse
  sought-opens zero r p h = absurd h
  sought-opens (suc k) r p h = first-opens k r p ((piece g (positive k) r).reads f p 0) refl h

-- ## Its rows

settings-back : (t : List Channel) → map rested t ≡ map row_of (settings t)
settings-back [] = refl
settings-back (c ∷ t) = ap (λ ds. rested c ∷ ds) (settings-back t)

pub found : (g : Flags) (f : File) (r p : ℕ) (s : Section) (t : List Channel) (x : Result (Taken Opening) Fault) →
    Opens g f r p s → told (head_in t) x ≡ (head g r).reads f p 0 → AtRest (λ o. o.rows) t x → Found s t x
found g f r p s t (Err e) (h, q, m, a, _, _) d _ = faulted (d ∙ a)
found g f r p s t (Ok x) (h, q, m, a, raw, cs) d (room, still) =
    let n : ℕ = x.value.rows in
    let (same, _, _) = got-got (d ∙ a) in
    let rows : rows_in t n ≡ s.channels = ap (λ (y : Head). y.channels) same ∙ cs in
    let many : length (rows_in t n) ≡ n = length-map (take n t) settings_of ∙ length-take-le n t room in
    (ap (λ (y : Head). y.raw) same ∙ raw, sym many ∙ ap length rows, sym still ∙ settings-back (take n t) ∙ ap (map row_of) rows)

-- ## A walk to the section

-- the section is among those that are left
pub record Sought (s s₀ : Standing) (n : ℕ) : Type 0 where
  pub there : HasSection ((chain s.flags (64 - s.sections) s.raw).reads (bits_of s.file) s.place 0) (n - s.sections)
  pub same : section_in ((chain s.flags (64 - s.sections) s.raw).reads (bits_of s.file) s.place 0) (n - s.sections) ≡ section_in (all_sections s₀) n

pub sought-start : (s : Standing) (n : ℕ) → s.sections ≡ 0 → s.raw ≡ 0 → HasSection (all_sections s) n → Sought s s n
sought-start s n a b h =
    let f : File = bits_of s.file in
    let e : all_sections s ≡ (chain s.flags (64 - s.sections) s.raw).reads f s.place 0 =
    anew-all s.flags f 0 s.place s.tried
    ∙ ap (λ (r : ℕ). (chain s.flags 64 r).reads f s.place 0) (sym b)
    ∙ ap (λ (k : ℕ). (chain s.flags (64 - k) s.raw).reads f s.place 0) (sym a) in
    let z : n ≡ n - s.sections = omega (arith, a) in
    record {
      there = subst (λ (j : ℕ). HasSection ((chain s.flags (64 - s.sections) s.raw).reads f s.place 0) j) z (subst (λ (o : Outcome Body). HasSection o n) e h);
      same = sym (ap (λ (o : Outcome Body). section_in o n) e ∙ ap (section_in ((chain s.flags (64 - s.sections) s.raw).reads f s.place 0)) z);
    }

module _ (s s₀ : Standing) (n : ℕ) (w : Sought s s₀ n) (less : s.sections < n) where
  next-read : seen outline ((piece s.flags (ltb (s.sections + 1) 64) s.raw).reads (bits_of s.file) s.place 0) ≡ next_section s 0
  next-read = next-is s 0 (omega (arith, few_before s.flags (bits_of s.file) s.sections s.raw s.place n less w.there))

  pub sought-passes : (x y : ℕ) → fault x y ≡ next_section s 0 → ⊥
  sought-passes x y e = passes s.flags (bits_of s.file) s.sections s.raw s.place n less w.there x y (e ∙ sym next-read)

  pub sought-on : (v : Standing) (o : Outline) → got (outline_in (bits_of s.file) o) v.place v.tried ≡ next_section s 0 → v ≡ moved s v.place v.tried o.raw → Sought v s₀ n
  sought-on v o e moves =
      let (a, b, _) = passed_on s.flags (bits_of s.file) s.sections s.raw s.place n less w.there o.raw o.words (closing_of (bits_of s.file) o.closing) v.place v.tried (e ∙ sym next-read) in
      subst (λ (z : Standing). Sought z s₀ n) (sym moves) (record { there = a; same = b ∙ w.same })

-- the walk stands at the section
pub sought_found : (s s₀ : Standing) (n : ℕ) (w : Sought s s₀ n) → s.sections ≡ n → (t : List Channel) (x : Result (Taken Opening) Fault) →
    told (head_in t) x ≡ (head s.flags s.raw).reads (bits_of s.file) s.place 0 → AtRest (λ o. o.rows) t x → Found (section_in (all_sections s₀) n) t x
sought_found s s₀ n w here t x e still =
    let f : File = bits_of s.file in
    let o : Outcome Body = (chain s.flags (64 - s.sections) s.raw).reads f s.place 0 in
    let z : n - s.sections ≡ 0 = omega (arith, here) in
    let first : HasSection o 0 = subst (λ (j : ℕ). HasSection o j) z w.there in
    let is : section_in o 0 ≡ section_in (all_sections s₀) n = ap (section_in o) (sym z) ∙ w.same in
    subst (λ s. Found s t x) is (found s.flags f s.raw s.place (section_in o 0) t x (sought-opens s.flags f (64 - s.sections) s.raw s.place first) e still)
