use Rattle.std.proofs.Common.{◌≡◌, ℕ, ◌+◌, ◌*◌, ◌≤◌, Bool, true, false, cond, List, length, Some, None, Option, sym, refl, ap, ◌∙◌, arith}
use Rattle.bits.specs.Bits.{bits, put_bits, field_at}
use Rattle.bits.proofs.Fields.{field_lt}
use Rattle.fields.specs.Fields.{is_field}
use Rattle.forms.proofs.Codes.{none-some}
use Rattle.layout.specs.Slim.{ended}
use Rattle.calls.specs.Parts.{closing_bits}
use Rattle.calls.proofs.Buffers.{field_put}
use Rattle.closings.proofs.Padded.{left-length, left-put, left_end, accepted, refused, fits-long}
use Rattle.closings.proofs.put_leftovers.Goals as goal

pub returns-then-end-gap_at : goal.returns-then-end-gap_at
returns-then-end-gap_at c =
    let b : List ℕ = c.args.buffer.now in
    let at : ℕ = c.args.at in
    let ls : List ℕ = c.args.leftovers.now in
    let l = left-length at ls c.requires.some in
    let t = fits-long at (length b) (ended ls) (omega (arith, l, c.gap_at.ensures.gap, c.if-end-gap_at.true)) in
    let (p, w) = refused at b (ended ls) t in
    record { place = p; bytes = w }

-- the number in the leftovers
abbrev some_of : Option ℕ → ℕ
some_of None = 0
some_of (Some x) = x

from_some : (t : Bool) (x v : ℕ) → Some x ≡ cond t (Some v) None → x ≡ v
from_some true x v e = ap some_of e
from_some false x v e = absurd (none-some (sym e))

taken : (at len : ℕ) (ls : List ℕ) (x : ℕ) → at ≡ 0 → Some x ≡ cond (is_field at (8 * length ls) len) (Some (field_at ls at (8 * length ls))) None → x ≡ field_at ls 0 (8 * length ls)
taken at len ls x e h = from_some (is_field at (8 * length ls) len) x (field_at ls at (8 * length ls)) h ∙ ap (λ z. field_at ls z (8 * length ls)) e

pub put_padded-requires-clause-small : goal.put_padded-requires-clause-small
put_padded-requires-clause-small c =
    let ls : List ℕ = c.args.leftovers.now in
    let v = taken c.new.result.bits (length ls) ls c.in_ok-bytes.bytes c.new.ensures c.in_ok-bytes.ensures in
    rw v (field_lt ls 0 (8 * length ls))

pub returns : goal.returns
returns c =
    let b : List ℕ = c.args.buffer.now in
    let at : ℕ = c.args.at in
    let ls : List ℕ = c.args.leftovers.now in
    let n : ℕ = length ls in
    let g : List ℕ = c.put_field.new.buffer in
    let k : length g ≡ length b = c.put_field.auto.buffer in
    let l = left-length at ls c.requires.some in
    let h : at + length (closing_bits at (ended ls)) ≤ 8 * length b = omega (arith, l, c.gap_at.ensures.gap, c.if-end-gap_at.false) in
    let v = taken c.new.result.bits (length ls) ls c.in_ok-bytes.bytes c.new.ensures c.in_ok-bytes.ensures in
    let w : g ≡ put_bits b at (bits 7 (14 + 16 * n)) = field_put b g at c.new-2.result.bits 7 (14 + 16 * n) (omega arith) (omega (arith, h, l)) c.new-2.ensures c.put_field.ensures.bytes in
    let (p, x) = accepted at b (ended ls) c.requires.room c.requires.few h in
    record {
      place = c.put_padded.ensures.place ∙ left_end at (at + 7) c.in_ok-bytes.bytes n (length g) ls refl c.requires.some (rw (ap (λ z. 8 * z) k) h) refl v ∙ p;
      bytes = left-put b g c.put_padded.new.buffer at at (at + 7) c.in_ok-bytes.bytes n ls refl c.requires.some h refl refl v k w c.put_padded.ensures.bytes ∙ x;
    }
