use Rattle.std.proofs.Common.{◌≡◌, ℕ, ◌+◌, ◌*◌, ◌/◌, ◌≤◌, Bool, true, false, cond, leb, List, length, Some, None, Option, sym, refl, ap, ◌∙◌, arith}
use Rattle.std.specs.Bool.{then_some}
use Rattle.std.specs.Option.{option_map}
use Rattle.fields.specs.declared.place.BytePlace.{BytePlace}
use Rattle.fields.specs.Fields.{is_field}
use Rattle.format.specs.Format.{gap}
use Rattle.closings.specs.Closings.{padded_bits}
use Rattle.closings.proofs.Padded.{padded-length, padded-fits, padded-put}
use Rattle.closings.proofs.put_padded.Goals as goal

-- the place behind, if the field was put
some-place : (t : Bool) (p : BytePlace) → option_map (λ (q : BytePlace). q.bytes) (then_some t p) ≡ cond t (Some p.bytes) None
some-place true p = refl
some-place false p = refl

pub returns : goal.returns
returns c =
    let f : List ℕ = c.args.buffer.now in
    let at : ℕ = c.args.at in
    let v : ℕ = c.args.value in
    let n : ℕ = c.args.count in
    let w : ℕ = n + c.gap_at.result in
    let e : w ≡ n + gap (at + n) = ap (λ z. n + z) c.gap_at.ensures.gap in
    let h : w ≤ 64 = omega (arith, c.gap_at.ensures.few, c.requires.few) in
    let fits = leb (at + length (padded_bits at v n)) (8 * length f) in
    let t : c.put_field.result ≡ fits = c.put_field.ensures.put ∙ ap (λ z. is_field z w (length f)) c.new.ensures ∙ padded-fits at v n w (length f) e h in
    let r : c.new-end.result.bytes ≡ (at + length (padded_bits at v n)) / 8 = c.new-end.ensures ∙ ap (λ z. (at + z) / 8) (e ∙ sym (padded-length at v n)) in
    record {
      place =
          ap (option_map (λ (p : BytePlace). p.bytes)) c.then_some.ensures ∙ some-place c.put_field.result c.new-end.result
          ∙ ap (λ z. cond {A = Option ℕ} z (Some c.new-end.result.bytes) None) t ∙ ap (λ z. cond {A = Option ℕ} fits (Some z) None) r;
      bytes = padded-put f c.put_field.new.buffer at c.new.result.bits v n w e h c.requires.small c.new.ensures c.put_field.ensures.bytes;
    }
