-- The parts of a head, put one behind the other.
use Rattle.std.proofs.Common.{◌≡◌, ℕ, ◌+◌, ◌*◌, ◌≤◌, Bool, true, false, cond, List, [], ◌++◌, length, Some, None, Option, sym, refl, ap, ◌∙◌, append_assoc, append-nil, arith, length-append}
use Rattle.std.specs.Option.{option_map_or}
use Rattle.bits.specs.Bits.{bits, bits_of, put_bits}
use Rattle.bits.proofs.Numbers.{length-bits}
use Rattle.bits.proofs.Files.{length-bits_of}
use Rattle.layout.specs.Slim.{is_given}
use Rattle.calls.specs.Parts.{Marks, marks_byte, name_bits, extra_bits, head_bits}
use Rattle.calls.specs.Calls.{name_fits}
use Rattle.calls.proofs.Buffers.{put-put}
use Rattle.calls.proofs.Heads.{name-bits, no_name, extra-bits, no_extra}
use Rattle.calls.proofs.Chains.{head_length}
use Rattle.heads.specs.Heads.{first_bits}

-- ## Sizes

pub name-size : (o : Option (List ℕ)) (bs : List ℕ) → o ≡ Some bs → name_fits o ≡ true → length (name_bits o) ≡ 8 * (length bs + 1)
name-size o bs e h =
    let k : name_fits (Some bs) ≡ true = ap name_fits (sym e) ∙ h in
    ap (λ z. length (name_bits z)) e ∙ ap length (name-bits bs k) ∙ omega (arith, length-append (bits_of bs) (bits 8 0), length-bits_of bs, length-bits 8 0)

pub name-none : (o : Option (List ℕ)) → o ≡ None → name_bits o ≡ []
name-none o e = ap name_bits e ∙ no_name

pub extra-size : (o : Option (List ℕ)) (bs : List ℕ) → o ≡ Some bs → length (extra_bits o) ≡ 8 * (length bs + 2)
extra-size o bs e =
    ap (λ z. length (extra_bits z)) e ∙ ap length (extra-bits bs) ∙ omega (arith, length-append (bits 16 (length bs)) (bits_of bs), length-bits_of bs, length-bits 16 (length bs))

pub extra-none : (o : Option (List ℕ)) → o ≡ None → extra_bits o ≡ []
extra-none o e = ap extra_bits e ∙ no_extra

-- whether or not they are given
pub name-length : (o : Option (List ℕ)) → name_fits o ≡ true → length (name_bits o) ≡ 8 * option_map_or (λ bs. length bs + 1) o 0
name-length None h = ap length no_name
name-length (Some bs) h = name-size (Some bs) bs refl h

pub extra-length : (o : Option (List ℕ)) → length (extra_bits o) ≡ 8 * option_map_or (λ bs. length bs + 2) o 0
extra-length None = ap length no_extra
extra-length (Some bs) = extra-size (Some bs) bs refl

-- ## Bytes

pub name-put : (f : List ℕ) (at q : ℕ) (o : Option (List ℕ)) (bs : List ℕ) → o ≡ Some bs → name_fits o ≡ true → q ≡ 8 * (at + length bs) → 8 * at + length (name_bits o) ≤ 8 * length f →
    put_bits (put_bits f (8 * at) (bits_of bs)) q (bits 8 0) ≡ put_bits f (8 * at) (name_bits o)
name-put f at q o bs e h i l =
    let k : name_fits (Some bs) ≡ true = ap name_fits (sym e) ∙ h in
    put-put f (8 * at) q (bits_of bs) (bits 8 0) (omega (arith, length-bits_of bs)) (omega (arith, length-bits_of bs, length-bits 8 0, name-size o bs e h))
    ∙ ap (put_bits f (8 * at)) (sym (name-bits bs k)) ∙ ap (λ z. put_bits f (8 * at) (name_bits z)) (sym e)

pub extra-put : (f : List ℕ) (at q : ℕ) (o : Option (List ℕ)) (bs : List ℕ) → o ≡ Some bs → q ≡ 8 * (at + 2) → 8 * at + length (extra_bits o) ≤ 8 * length f →
    put_bits (put_bits f (8 * at) (bits 16 (length bs))) q (bits_of bs) ≡ put_bits f (8 * at) (extra_bits o)
extra-put f at q o bs e i l =
    put-put f (8 * at) q (bits 16 (length bs)) (bits_of bs) (omega (arith, length-bits 16 (length bs))) (omega (arith, length-bits_of bs, length-bits 16 (length bs), extra-size o bs e))
    ∙ ap (put_bits f (8 * at)) (sym (extra-bits bs)) ∙ ap (λ z. put_bits f (8 * at) (extra_bits z)) (sym e)

pub first-length : (stamp byte : ℕ) (t : Bool) → length (first_bits stamp byte t) ≡ 56 + cond t 32 0
first-length stamp byte t =
    let S : List Bool = cond t (bits 32 0) [] in
    omega (
      arith,
      length-append (bits 16 0x4c53) (bits 32 stamp ++ (bits 8 byte ++ S)),
      length-append (bits 32 stamp) (bits 8 byte ++ S),
      length-append (bits 8 byte) S,
      length-bits 16 0x4c53,
      length-bits 32 stamp,
      length-bits 8 byte,
      by_flag t,
    )
  where
    by_flag : (t : Bool) → length (cond t (bits 32 0) []) ≡ cond t 32 0
    by_flag true = length-bits 32 0
    by_flag false = refl

-- three fields
pub three-put : (f : List ℕ) (stamp byte : ℕ) → 56 ≤ 8 * length f →
    put_bits (put_bits (put_bits f 0 (bits 16 0x4c53)) 16 (bits 32 stamp)) 48 (bits 8 byte) ≡ put_bits f 0 (first_bits stamp byte false)
three-put f stamp byte h =
    let a = bits 16 0x4c53 in
    let b = bits 32 stamp in
    let c = bits 8 byte in
    let la = length-bits 16 0x4c53 in
    let lb = length-bits 32 stamp in
    let lc = length-bits 8 byte in
    ap (λ z. put_bits z 48 c) (put-put f 0 16 a b (omega arith) (omega arith))
    ∙ put-put f 0 48 (a ++ b) c (omega (arith, length-append a b)) (omega (arith, length-append a b))
    ∙ ap (put_bits f 0) (append_assoc a b c ∙ ap (λ z. a ++ (b ++ z)) (sym (append-nil c)))

four-bits : (stamp byte : ℕ) → first_bits stamp byte false ++ bits 32 0 ≡ first_bits stamp byte true
four-bits stamp byte =
    let a = bits 16 0x4c53 in
    let b = bits 32 stamp in
    let c = bits 8 byte in
    let s = bits 32 0 in
    ap (λ z. (a ++ (b ++ z)) ++ s) (append-nil c)
    ∙ append_assoc a (b ++ c) s ∙ ap (λ z. a ++ z) (append_assoc b c s)

pub four-put : (f : List ℕ) (stamp byte : ℕ) → 88 ≤ 8 * length f →
    put_bits (put_bits f 0 (first_bits stamp byte false)) 56 (bits 32 0) ≡ put_bits f 0 (first_bits stamp byte true)
four-put f stamp byte h =
    put-put f 0 56 (first_bits stamp byte false) (bits 32 0) (omega (arith, first-length stamp byte false)) (omega (arith, first-length stamp byte false, length-bits 32 0))
    ∙ ap (put_bits f 0) (four-bits stamp byte)

-- ## The whole

pub head-parts : (stamp : ℕ) (m : Marks) (name extra : Option (List ℕ)) →
    first_bits stamp (marks_byte m (is_given name) (is_given extra)) m.sized ++ (name_bits name ++ extra_bits extra) ≡ head_bits stamp m name extra 0
unfolding head_bits
head-parts stamp m name extra =
    let a = bits 16 0x4c53 in
    let b = bits 32 stamp in
    let c = bits 8 (marks_byte m (is_given name) (is_given extra)) in
    let s : List Bool = cond m.sized (bits 32 0) [] in
    let r = name_bits name ++ extra_bits extra in
    append_assoc a (b ++ (c ++ s)) r ∙ ap (λ z. a ++ z) (append_assoc b (c ++ s) r ∙ ap (λ z. b ++ z) (append_assoc c s r))

pub head-put : (f : List ℕ) (stamp : ℕ) (m : Marks) (name extra : Option (List ℕ)) (p q : ℕ) → p ≡ 56 + cond m.sized 32 0 → q ≡ p + length (name_bits name) → head_length m name extra ≤ 8 * length f →
    put_bits (put_bits (put_bits f 0 (first_bits stamp (marks_byte m (is_given name) (is_given extra)) m.sized)) p (name_bits name)) q (extra_bits extra) ≡ put_bits f 0 (head_bits stamp m name extra 0)
unfolding head_length
head-put f stamp m name extra p q ep eq h =
    let F = first_bits stamp (marks_byte m (is_given name) (is_given extra)) m.sized in
    let N = name_bits name in
    let X = extra_bits extra in
    let l = first-length stamp (marks_byte m (is_given name) (is_given extra)) m.sized in
    ap (λ z. put_bits z q X) (put-put f 0 p F N (omega arith) (omega arith))
    ∙ put-put f 0 q (F ++ N) X (omega (arith, length-append F N)) (omega (arith, length-append F N))
    ∙ ap (put_bits f 0) (append_assoc F N X ∙ head-parts stamp m name extra)
