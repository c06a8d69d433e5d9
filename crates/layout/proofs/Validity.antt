-- A recording has a file exactly when it keeps the plain limits.
use Rattle.std.proofs.Common.{◌≡◌, ℕ, ◌+◌, ◌*◌, ◌/◌, ◌%◌, ◌^◌, ◌<◌, ◌≤◌, Bool, true, false, cond, eqb, length, sym, refl, ap, ◌∙◌, subst, arith}
use Rattle.std.proofs.lemmas.Bool.{lt-ltb}
use Rattle.bits.proofs.Laws.{length-bytes_of}
use Rattle.format.specs.Cells.{filled}
use Rattle.format.proofs.Filling.{length-filled}
use Rattle.format.proofs.Laws.{then-part, then-rest, whole_is, chosen, field-valid, ahead-valid, part_then, choosing, valid-field, is_whole}
use Rattle.layout.specs.Recording.{Recording}
use Rattle.layout.specs.Slim.{most_bytes, most_sections, most_name, is_given, Flags, name_bytes, extra_bytes, flag, flag_byte, after_flags, recording}
use Rattle.layout.specs.Claims.{layout, file, Valid}
use Rattle.layout.specs.Plain.{IfGiven, NameFits, ExtraFits, flags_of, RecordingFits, ValidityIsPlain}
use Rattle.layout.proofs.Building.{valid-ahead, then-within, ahead_within, choose-within}
use Rattle.layout.proofs.PlainParts.{name-fits, fits-name, extra-fits, fits-extra, flagged-fits, fits-flagged}
use Rattle.layout.proofs.PlainSections.{ChainFits, chain_fits, fits-chain}

-- ## The flag byte

-- a bit tells the flag that it was made of
bit_is : (n : ℕ) (t : Bool) → n ≡ cond t 1 0 → eqb n 1 ≡ t
bit_is n true e = rw e
bit_is n false e = rw e

-- what a flag counts as is a multiple of its bit
scaled : (t : Bool) (k : ℕ) → cond t k 0 ≡ k * cond t 1 0
scaled true k = omega arith
scaled false k = omega arith

-- a bit is at most 1
small : (t : Bool) → cond t 1 0 ≤ 1
small true = omega arith
small false = omega arith

-- a byte of six flags
abbrev byte_of : Bool → Bool → Bool → Bool → Bool → Bool → ℕ
byte_of a b c d e f = cond a 1 0 + (cond b 2 0 + (cond c 4 0 + (cond d 8 0 + (cond e 16 0 + cond f 32 0))))

-- it is below 64, and each flag is its bit
record Bits (a b c d e f : Bool) : Type 0 where
  below : byte_of a b c d e f < 64
  zeroth : flag 0 (byte_of a b c d e f) ≡ a
  first : flag 1 (byte_of a b c d e f) ≡ b
  second : flag 2 (byte_of a b c d e f) ≡ c
  third : flag 3 (byte_of a b c d e f) ≡ d
  fourth : flag 4 (byte_of a b c d e f) ≡ e
  fifth : flag 5 (byte_of a b c d e f) ≡ f

-- that holds of any six
flags-bits : (a b c d e f : Bool) → Bits a b c d e f
flags-bits a b c d e f =
    let a₁ = small a in
    let b₁ = small b in
    let c₁ = small c in
    let d₁ = small d in
    let e₁ = small e in
    let f₁ = small f in
    let b₂ = scaled b 2 in
    let c₂ = scaled c 4 in
    let d₂ = scaled d 8 in
    let e₂ = scaled e 16 in
    let f₂ = scaled f 32 in
    let q₃ : byte_of a b c d e f / 2 ^ 3 ≡ cond d 1 0 + 2 * cond e 1 0 + 4 * cond f 1 0 = omega arith in
    let q₄ : byte_of a b c d e f / 2 ^ 4 ≡ cond e 1 0 + 2 * cond f 1 0 = omega arith in
    record {
      below = omega arith;
      zeroth = bit_is (byte_of a b c d e f / 2 ^ 0 % 2) a (omega arith);
      first = bit_is (byte_of a b c d e f / 2 ^ 1 % 2) b (omega arith);
      second = bit_is (byte_of a b c d e f / 2 ^ 2 % 2) c (omega arith);
      third = bit_is (byte_of a b c d e f / 2 ^ 3 % 2) d (omega arith);
      fourth = bit_is (byte_of a b c d e f / 2 ^ 4 % 2) e (omega arith);
      fifth = bit_is (byte_of a b c d e f / 2 ^ 5 % 2) f (omega arith);
    }

-- the flags that sections go by, in a flag byte
abbrev flags_in : ℕ → Flags
flags_in g = record { pointed = flag 3 g; single = flag 4 g; unrepeated = flag 5 g }

-- ## Behind the flags

-- what a recording keeps besides its stamp and its size
record AfterFits (r : Recording) : Type 0 where
  name : IfGiven r.name NameFits
  extra : IfGiven r.extra ExtraFits
  chain : ChainFits (flags_of r) most_sections 0 r.sections r.leftovers

-- what follows the flags is valid exactly where the recording keeps this and has those flags, if it ends within the limit
after_fits : (s g p : ℕ) (r : Recording) → (after_flags s g).Valid p r → AfterFits r
unfolding after_flags
after_fits s g p r v =
    let v₁ = then-rest _ _ p r v in
    let v₂ = then-rest _ _ _ r v₁ in
    let e = whole_is _ _ r (then-rest _ _ _ r v₂) in
    record {
      name = flagged-fits NameFits (flag 1 g) (name_bytes most_name) (λ q bs u. let (l, h) = name-fits most_name q bs u in record { short = l; letters = h }) p r.name (then-part _ _ p r v);
      extra = flagged-fits ExtraFits (flag 2 g) extra_bytes extra-fits _ r.extra (then-part _ _ _ r v₁);
      chain = subst (λ h. ChainFits h most_sections 0 r.sections r.leftovers) (sym (ap flags_of e)) (chain_fits (flags_in g) most_sections 0 _ r.sections r.leftovers (then-part _ _ _ r v₂));
    }

-- a number has the flags of a recording
pub record SameFlags (r : Recording) (g : ℕ) : Type 0 where
  pub sized : flag 0 g ≡ r.sized
  pub name : flag 1 g ≡ is_given r.name
  pub extra : flag 2 g ≡ is_given r.extra
  pub pointed : flag 3 g ≡ r.pointed
  pub single : flag 4 g ≡ r.single
  pub unrepeated : flag 5 g ≡ r.unrepeated

-- a recording's flag byte has
pub own-flags : (r : Recording) → SameFlags r (flag_byte r)
own-flags r =
    let b = flags-bits r.sized (is_given r.name) (is_given r.extra) r.pointed r.single r.unrepeated in
    record { sized = b.zeroth; name = b.first; extra = b.second; pointed = b.third; single = b.fourth; unrepeated = b.fifth }

-- then the recording is one with the number's flags
same-recording : (r : Recording) (g : ℕ) → SameFlags r g → r ≡ record
    { stamp = r.stamp; sized = flag 0 g; pointed = flag 3 g; single = flag 4 g; unrepeated = flag 5 g; name = r.name; extra = r.extra; sections = r.sections; leftovers = r.leftovers }
same-recording r g f = λ i. record {
  stamp = r.stamp;
  sized = sym f.sized i;
  pointed = sym f.pointed i;
  single = sym f.single i;
  unrepeated = sym f.unrepeated i;
  name = r.name;
  extra = r.extra;
  sections = r.sections;
  leftovers = r.leftovers;
}

-- and so are the flags that sections go by
pub same_flags : (r : Recording) (g : ℕ) → SameFlags r g → flags_of r ≡ flags_in g
same_flags r g f = λ i. record { pointed = sym f.pointed i; single = sym f.single i; unrepeated = sym f.unrepeated i }

fits_after : (g p : ℕ) (r : Recording) → SameFlags r g → AfterFits r → p + length ((after_flags r.stamp g).cells p r) ≤ 8 * most_bytes → (after_flags r.stamp g).Valid p r
unfolding after_flags
fits_after g p r e f m =
    let (_, m₁) = then-within _ _ p r (8 * most_bytes) m in
    let (_, m₂) = then-within _ _ _ r (8 * most_bytes) m₁ in
    let (m₃, _) = then-within _ _ _ r (8 * most_bytes) m₂ in
    part_then _ _ p r (fits-flagged NameFits (flag 1 g) (name_bytes most_name) (λ q bs n. fits-name most_name q bs n.short n.letters) p r.name (sym e.name) f.name)
    (part_then _ _ _ r (fits-flagged ExtraFits (flag 2 g) extra_bytes fits-extra _ r.extra (sym e.extra) f.extra)
    (part_then _ _ _ r (fits-chain (flags_in g) most_sections 0 _ r.sections r.leftovers (subst (λ h. ChainFits h most_sections 0 r.sections r.leftovers) (same_flags r g e) f.chain) m₃)
    (is_whole _ _ r (same-recording r g e))))

-- ## The whole

-- a recording is valid exactly where its stamp fits and it keeps the rest, if it ends within the limit
recording_fits : (p : ℕ) (r : Recording) → recording.Valid p r → (r.stamp < 2 ^ 32) × AfterFits r
unfolding recording
recording_fits p r v =
    let v₁ = then-rest _ _ p r v in
    let v₂ = then-rest _ _ _ r v₁ in (
      (field-valid _ _ _ _ r.stamp (then-part _ _ _ r v₁)).0,
      chosen _ _ _ _ r (AfterFits r) (then-rest _ _ _ r v₂)
          (λ e u. after_fits _ _ _ r (ahead-valid _ _ _ _ _ r u))
          (λ e u. after_fits _ _ _ r u),
    )

fits-recording : (p : ℕ) (r : Recording) → r.stamp < 2 ^ 32 → AfterFits r → p + length (recording.cells p r) ≤ 8 * most_bytes → recording.Valid p r
unfolding recording
fits-recording p r s f m =
    let b = flags-bits r.sized (is_given r.name) (is_given r.extra) r.pointed r.single r.unrepeated in
    let e : SameFlags r (flag_byte r) = own-flags r in
    let l = b.below in
    let raw = f.chain.raw in
    let (_, m₁) = then-within _ _ p r (8 * most_bytes) m in
    let (_, m₂) = then-within _ _ _ r (8 * most_bytes) m₁ in
    let (_, m₃) = then-within _ _ _ r (8 * most_bytes) m₂ in
    let (y, z) = choose-within _ _ _ _ r (8 * most_bytes) m₃ in
    part_then _ _ p r (valid-field _ _ _ p 0x4c53 (omega arith) refl)
    (part_then _ _ _ r (valid-field _ _ _ _ r.stamp s refl)
    (part_then _ _ _ r (valid-field _ _ _ _ (flag_byte r) (omega arith) (lt-ltb (flag_byte r) 64 l))
    (choosing _ _ _ _ r
    (λ t. valid-ahead _ _ _ _ _ r (fits_after (flag_byte r) _ r e f (ahead_within _ _ _ _ _ r (8 * most_bytes) (y t))) (omega arith))
    (λ t. fits_after (flag_byte r) _ r e f (z t)))))

-- the file has the bytes that its layout fills
file-bytes : (r : Recording) → length (file r) ≡ (length (layout r) + 7) / 8
unfolding file
file-bytes r = length-bytes_of (filled (layout r)) ∙ ap (λ n. (n + 7) / 8) (length-filled (layout r))

-- a recording that has a file keeps the plain limits
fits : (r : Recording) → Valid r → RecordingFits r
unfolding Valid layout
fits r (v, l) =
    let (s, f) = recording_fits 0 r v in
    let raw = f.chain.raw in
    let n = file-bytes r in
    record {
      stamp = s;
      name = f.name;
      extra = f.extra;
      some_sections = f.chain.some;
      few_sections = f.chain.few;
      sections = f.chain.sections;
      raw = omega arith;
      few_leftovers = f.chain.leftovers.0;
      leftovers = f.chain.leftovers.1;
      small = omega arith;
    }

-- and one that keeps them has a file
valid : (r : Recording) → RecordingFits r → Valid r
unfolding Valid layout
valid r f =
    let n = file-bytes r in
    let s = f.small in
    let raw = f.raw in
    let l : length (recording.cells 0 r) ≤ 8 * most_bytes = omega arith in
    let c : ChainFits (flags_of r) most_sections 0 r.sections r.leftovers = record { some = f.some_sections; few = f.few_sections; sections = f.sections; raw = omega arith; leftovers = (f.few_leftovers, f.leftovers) } in
    (fits-recording 0 r f.stamp (record { name = f.name; extra = f.extra; chain = c }) (omega arith), l)

-- a recording has a file exactly when it keeps the limits and each word has a form
pub validity_is_plain : ValidityIsPlain
validity_is_plain = record { fits = fits; valid = valid }
