-- A walk that writes the raw bytes of the sections.
use Rattle.std.proofs.Common.{◌≡◌, ℕ, ◌+◌, ◌-◌, ◌*◌, ◌≤◌, Bool, true, false, ltb, List, length, sym, refl, ap, ◌∙◌, subst, arith}
use Rattle.std.proofs.lemmas.Bool.{ltb-true, ltb-false}
use Rattle.bits.specs.Bits.{bits_of, put_bits, Bytes}
use Rattle.faults.specs.Faults.{gives}
use Rattle.format.specs.Format.{got, fault}
use Rattle.reading.specs.declared.block.Block.{Block}
use Rattle.reading.specs.declared.closing.Closing.TheVariants.{Another, Ended}
use Rattle.reading.specs.Blocks.{bytes_at}
use Rattle.reader.specs.declared.outline.Outline.{Outline}
use Rattle.reader.specs.Counts.{outline_in}
use Rattle.reader.specs.Written.{WritesNext}
use Rattle.reader.specs.Unpacking.{RoomFor, body_answer, body_left}
use Rattle.reader.specs.Walks.{Standing, has_room, next_section, all_sections, moved}
use Rattle.reader.proofs.Walks.{next-is, next-back}
use Rattle.reader.proofs.Unpacked.{Writing, write-start, write-left, write_read, write-another, ended-few, ended-room, ended-answer, ended-bytes}

-- the bytes so far and those of the sections that are left are all of them
abbrev pub Writes : Standing → Standing → List ℕ → List ℕ → Type 0
Writes s s₀ out now = Writing s.flags (bits_of s.file) (all_sections s₀) out (64 - s.sections) s.raw s.place now

pub writes-start : (s : Standing) (out : List ℕ) → s.sections ≡ 0 → s.raw ≡ 0 → RoomFor (all_sections s) (length out) → Bytes out → Writes s s out out
writes-start s out a b room bs =
    subst (λ (k : ℕ). Writing s.flags (bits_of s.file) (all_sections s) out (64 - k) s.raw s.place out) (sym a)
    (subst (λ (r : ℕ). Writing s.flags (bits_of s.file) (all_sections s) out 64 r s.place out) (sym b)
    (write-start s.flags (bits_of s.file) out s.place s.tried room bs))

module _ (s s₀ : Standing) (out now : List ℕ) (w : Writes s s₀ out now) where
  pub writes-read : (x y : ℕ) → s.sections ≤ 64 → fault x y ≡ next_section s w.last → ⊥
  writes-read x y most e = by-test (ltb s.sections 64) refl
    where
      by-test : (t : Bool) → ltb s.sections 64 ≡ t → ⊥
      by-test true h =
          let less = ltb-true s.sections 64 h in
          write_read s.flags (bits_of s.file) (all_sections s₀) out s.sections s.raw s.place now w (has_room s) less refl x y (e ∙ sym (next-is s w.last less))
      by-test false h =
          let over = ltb-false s.sections 64 h in
          write-left s.flags (bits_of s.file) (all_sections s₀) out (64 - s.sections) s.raw s.place now (omega arith) w

  module _ (after : List ℕ) (wrote : WritesNext s now after) (v : Standing) (o : Outline) (e : got (outline_in (bits_of s.file) o) v.place v.tried ≡ next_section s w.last) (moves : v ≡ moved s v.place v.tried o.raw) where
    raw-is : v.raw ≡ s.raw + o.raw
    raw-is = ap (λ (z : Standing). z.raw) moves

    pub writes-more : o.closing ≡ Another → Writes v s₀ out after
    writes-more c =
        let (less, d) = next-back s w.last (outline_in (bits_of s.file) o) v.place v.tried e in
        subst (λ (z : Standing). Writes z s₀ out after) (sym moves)
        (write-another s.flags (bits_of s.file) (all_sections s₀) out s.sections s.raw s.place now w (has_room s) less refl o.raw o.words o.closing v.place v.tried d after wrote c)

    module _ (b : Block) (c : o.closing ≡ Ended b) where
      pub last-few : b.len ≤ 7
      last-few =
          let (less, d) = next-back s w.last (outline_in (bits_of s.file) o) v.place v.tried e in
          ended-few s.flags (bits_of s.file) (all_sections s₀) out s.sections s.raw s.place now w (has_room s) less refl o.raw o.words o.closing v.place v.tried d after wrote b c

      pub last-room : v.raw + b.len ≤ length after
      last-room =
          let (less, d) = next-back s w.last (outline_in (bits_of s.file) o) v.place v.tried e in
          let fits = ended-room s.flags (bits_of s.file) (all_sections s₀) out s.sections s.raw s.place now w (has_room s) less refl o.raw o.words o.closing v.place v.tried d after wrote b c in
          omega (arith, raw-is, fits)

      pub last-answer : gives (v.raw + b.len) ≡ body_answer (all_sections s₀)
      last-answer =
          let (less, d) = next-back s w.last (outline_in (bits_of s.file) o) v.place v.tried e in
          ap (λ (n : ℕ). gives (n + b.len)) raw-is
          ∙ ended-answer s.flags (bits_of s.file) (all_sections s₀) out s.sections s.raw s.place now w (has_room s) less refl o.raw o.words o.closing v.place v.tried d after wrote b c

      pub last-bytes : (left : List ℕ) → Bytes out → left ≡ put_bits after (8 * v.raw) (bits_of (bytes_at (bits_of v.file) b)) → left ≡ body_left (all_sections s₀) out
      last-bytes left bs put =
          let (less, d) = next-back s w.last (outline_in (bits_of s.file) o) v.place v.tried e in
          ended-bytes s.flags (bits_of s.file) (all_sections s₀) out s.sections s.raw s.place now w (has_room s) less refl o.raw o.words o.closing v.place v.tried d after wrote b c left bs
          (put ∙ ap (λ (z : Standing). put_bits after (8 * z.raw) (bits_of (bytes_at (bits_of z.file) b))) moves)
