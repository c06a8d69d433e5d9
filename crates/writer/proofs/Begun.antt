-- A head over any bytes, and zeros behind it.
use Rattle.std.proofs.Common.{◌≡◌, ℕ, ◌+◌, ◌-◌, ◌*◌, ◌/◌, ◌≤◌, Bool, true, false, cond, not, ◌&&◌, ltb, leb, List, [], ◌++◌, length, drop, replicate, Some, None, Option, sym, refl, ap, ◌∙◌, append-nil, arith, length-append}
use Rattle.std.proofs.lemmas.List.{length-replicate, drop_all}
use Rattle.std.proofs.lemmas.Bool.{and_parts, leb-true}
use Rattle.std.proofs.lemmas.Bool.Decides.{nat_tests}
use Rattle.bits.specs.Bits.{bits_of, put_bits, cleared_from, overwritten}
use Rattle.bits.proofs.Files.{length-bits_of, bits_of-inj}
use Rattle.bits.proofs.Places.{bits_of-put_bits}
use Rattle.bits.proofs.Laws.{Bytes-put_bits, length-put_bits, bits_of-zeros, bits_of-append-put}
use Rattle.forms.proofs.Codes.{none-some}
use Rattle.std.specs.Option.{option_map}
use Rattle.fields.specs.declared.place.BytePlace.{BytePlace}
use Rattle.state.specs.declared.Flags.{Flags}
use Rattle.layout.specs.Slim.{most_bytes}
use Rattle.calls.specs.Parts.{Marks, head_bits, name_bits, extra_bits}
use Rattle.calls.specs.Calls.{Trouble, marks, head, name_fits, extra_fits, begin_fault}
use Rattle.calls.proofs.Heads.{head-whole}
use Rattle.calls.proofs.Chains.{head_length, head-length}
use Rattle.calls.proofs.Buffers.{put-put}
use Rattle.heads.specs.Heads.{head_fits}

-- every bit written
all-bits : (b : List ℕ) (X : List Bool) → length X ≡ 8 * length b → bits_of (put_bits b 0 X) ≡ X
unfolding overwritten
all-bits b X l =
    let d : drop (0 + length X) (bits_of b) ≡ [] = drop_all (0 + length X) (bits_of b) (omega (arith, length-bits_of b)) in
    bits_of-put_bits b 0 X (omega arith) ∙ ap (λ z. X ++ z) d ∙ append-nil X

pub zeros-behind : (b : List ℕ) (h : List Bool) → length h ≤ 8 * length b → cleared_from (put_bits b 0 h) (length h) ≡ put_bits (replicate (length b) 0) 0 h
unfolding cleared_from
zeros-behind b h l =
    let n = length b in
    let k : ℕ = 8 * n - length h in
    let Z = replicate k false in
    let lz : length Z ≡ k = length-replicate k false in
    let m : 8 * length (put_bits b 0 h) - length h ≡ k = omega (arith, length-put_bits b 0 h (omega arith)) in
    let p : put_bits (put_bits b 0 h) (length h) Z ≡ put_bits b 0 (h ++ Z) = put-put b 0 (length h) h Z (omega arith) (omega arith) in
    let x : bits_of (put_bits b 0 (h ++ Z)) ≡ h ++ Z = all-bits b (h ++ Z) (length-append h Z ∙ omega arith) in
    let y : bits_of (put_bits (replicate n 0) 0 h) ≡ h ++ Z = bits_of-append-put (replicate n 0) [] h (8 * n) 0 (bits_of-zeros n) refl l in
    ap (λ z. put_bits (put_bits b 0 h) (length h) (replicate z false)) m ∙ p ∙ bits_of-inj (put_bits b 0 (h ++ Z)) (put_bits (replicate n 0) 0 h) (Bytes-put_bits b 0 (h ++ Z)) (Bytes-put_bits (replicate n 0) 0 h) (x ∙ sym y)

-- ## An accepted begin

abbrev some_of : Option ℕ → ℕ
some_of None = 0
some_of (Some x) = x

abbrev pub Placed : ℕ → Bool → ℕ → Type 0
Placed n t v = (t ≡ true) × (n ≡ v)

pub placed : (t : Bool) (n v : ℕ) → Some n ≡ cond t (Some v) None → Placed n t v
placed true n v e = (refl, ap some_of e)
placed false n v e = absurd (none-some (sym e))

pub no-fault : (name extra : Option (List ℕ)) (h : List Bool) (len : ℕ) → head_fits name extra h len ≡ true → begin_fault name extra h len ≡ None
no-fault name extra h len t =
    let (a, u) = and_parts (leb len most_bytes) ((name_fits name && extra_fits extra) && leb (length h) (8 * len)) t in
    let (f, l) = and_parts (name_fits name && extra_fits extra) (leb (length h) (8 * len)) u in
    let x : ltb most_bytes len ≡ false = grind (arith, nat_tests) in
    let y : ltb (8 * len) (length h) ≡ false = grind (arith, nat_tests) in
    let A : Option Trouble = Some (1, 0) in
    let B : Option Trouble = Some (4, 0) in
    let C : Option Trouble = Some (2, 0) in
    ap (λ z. cond z A (cond (not (name_fits name && extra_fits extra)) B (cond (ltb (8 * len) (length h)) C None))) x
    ∙ ap (λ z. cond (not z) B (cond (ltb (8 * len) (length h)) C None)) f
    ∙ ap (λ z. cond z C None) y

-- what the head's place keeps
pub record HeadPlace (m : Marks) (len n : ℕ) (h : List Bool) : Type 0 where
  pub limit : len ≤ most_bytes
  pub bits : 8 * n ≡ length h
  pub place : n ≤ len
  pub least : cond m.sized 11 7 ≤ n

pub head_place : (stamp : ℕ) (m : Marks) (name extra : Option (List ℕ)) (len n : ℕ) → Placed n (head_fits name extra (head_bits stamp m name extra 0) len) (length (head_bits stamp m name extra 0) / 8) → HeadPlace m len n (head_bits stamp m name extra 0)
unfolding head_length
head_place stamp m name extra len n (t, e) =
    let h = head_bits stamp m name extra 0 in
    let (a, u) = and_parts (leb len most_bytes) ((name_fits name && extra_fits extra) && leb (length h) (8 * len)) t in
    let (f, l) = and_parts (name_fits name && extra_fits extra) (leb (length h) (8 * len)) u in
    let w = head-whole m name extra (and_parts (name_fits name) (extra_fits extra) f).0 in
    let q = head-length stamp m name extra 0 in
    let b : 8 * n ≡ length h = omega (arith, w, q, e) in
    let fits = leb-true (length h) (8 * len) l in
    record {
      limit = leb-true len most_bytes a;
      bits = b;
      place = omega arith;
      least = by_flag (length (name_bits name)) (length (extra_bits extra)) (length h) n m.sized q b;
    }
  where
    by_flag : (x y l v : ℕ) (t : Bool) → l ≡ 56 + cond t 32 0 + x + y → 8 * v ≡ l → cond t 11 7 ≤ v
    by_flag x y l v true q b = omega arith
    by_flag x y l v false q b = omega arith

-- a head that was put, with the place that was answered
pub head_put : (stamp : ℕ) (g : Flags) (name extra : Option (List ℕ)) (len : ℕ) (o : Option BytePlace) (at : BytePlace) → o ≡ Some at →
    option_map (λ (x : BytePlace). x.bytes) o ≡ cond (head_fits name extra (head stamp g name extra) len) (Some (length (head stamp g name extra) / 8)) None →
    (head_fits name extra (head stamp g name extra) len ≡ true) × HeadPlace (marks g) len at.bytes (head stamp g name extra)
head_put stamp g name extra len o at e h =
    let p = placed (head_fits name extra (head stamp g name extra) len) at.bytes (length (head stamp g name extra) / 8) (sym (ap (option_map (λ (x : BytePlace). x.bytes)) e) ∙ h) in
    (p.0, head_place stamp (marks g) name extra len at.bytes p)
