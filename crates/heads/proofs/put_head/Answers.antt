use Rattle.std.proofs.Common.{◌≡◌, ℕ, ◌*◌, ◌/◌, true, false, cond, List, length, Some, None, Option, option_copied, sym, ap, ◌∙◌, arith}
use Rattle.bits.specs.Bits.{put_bits}
use Rattle.calls.specs.Parts.{Marks, name_bits, extra_bits}
use Rattle.calls.specs.Calls.{marks}
use Rattle.calls.proofs.Chains.{head_length, head-length}
use Rattle.heads.specs.declared.Head.{Head}
use Rattle.heads.specs.Heads.{head_of, fits}
use Rattle.heads.proofs.Sizes.{head-put}
use Rattle.heads.proofs.Fits.{too_long, fitting, first-room, name-room, extra-room, whole_length}
use Rattle.heads.proofs.put_head.Goals as goal

pub returns-then-size-buffer : goal.returns-then-size-buffer
returns-then-size-buffer c =
    let h : Head = c.args.head.now in
    let f : List ℕ = c.args.buffer.now in
    let t : fits h (length f) ≡ false =
    too_long (option_copied h.name) (option_copied h.extra) (head_of h) (length f) c.size.result c.size.ensures c.if-size-buffer.true in
    record {
      place = sym (ap (λ b. cond {A = Option ℕ} b (Some (length (head_of h) / 8)) None) t);
      bytes = sym (ap (λ b. cond b (put_bits f 0 (head_of h)) f) t);
    }

pub put_first-at-requires : goal.put_first-at-requires
put_first-at-requires c =
    let h : Head = c.args.head.now in
    first-room (marks h.flags) (option_copied h.name) (option_copied h.extra) (8 * length c.args.buffer.now) (omega (arith, head-length h.stamp (marks h.flags) (option_copied h.name) (option_copied h.extra) 0, c.size.ensures, c.if-size-buffer.false))

pub put_name-at-requires-clause-room : goal.put_name-at-requires-clause-room
put_name-at-requires-clause-room c =
    let h : Head = c.args.head.now in
    let k : length c.put_first-at.new.buffer ≡ length c.args.buffer.now = c.put_first-at.auto.buffer in
    name-room (marks h.flags) (option_copied h.name) (option_copied h.extra) (8 * c.put_first-at.result) (8 * length c.put_first-at.new.buffer) c.put_first-at.ensures.place (omega (arith, k, head-length h.stamp (marks h.flags) (option_copied h.name) (option_copied h.extra) 0, c.size.ensures, c.if-size-buffer.false))

pub put_extra-at-requires-clause-room : goal.put_extra-at-requires-clause-room
put_extra-at-requires-clause-room c =
    let h : Head = c.args.head.now in
    let k : length c.put_name-at.new.buffer ≡ length c.args.buffer.now = c.put_name-at.auto.buffer ∙ c.put_first-at.auto.buffer in
    extra-room (marks h.flags) (option_copied h.name) (option_copied h.extra) (8 * c.put_first-at.result) (8 * c.put_name-at.result) (8 * length c.put_name-at.new.buffer) c.put_first-at.ensures.place c.put_name-at.ensures.place (omega (arith, k, head-length h.stamp (marks h.flags) (option_copied h.name) (option_copied h.extra) 0, c.size.ensures, c.if-size-buffer.false))

pub returns : goal.returns
returns c =
    let h : Head = c.args.head.now in
    let f : List ℕ = c.args.buffer.now in
    let name : Option (List ℕ) = option_copied h.name in
    let extra : Option (List ℕ) = option_copied h.extra in
    let m : Marks = marks h.flags in
    let l : length (head_of h) ≡ head_length m name extra = head-length h.stamp m name extra 0 in
    let t : fits h (length f) ≡ true = fitting name extra (head_of h) (length f) c.size.result c.size.ensures (omega (arith, c.if-buffer-gt-MOST_BYTES.false)) (sym c.if-not-name_fits.ensures) (sym c.if-not-extra_fits.ensures) c.if-size-buffer.false in
    let p : ℕ = 8 * c.put_first-at.result in
    let q : ℕ = 8 * c.put_name-at.result in
    let r : c.put_extra-at.result ≡ length (head_of h) / 8 = whole_length m name extra p q c.put_extra-at.result c.put_first-at.ensures.place c.put_name-at.ensures.place c.put_extra-at.ensures.place ∙ ap (λ z. z / 8) (sym l) in
    let w : c.put_extra-at.new.buffer ≡ put_bits f 0 (head_of h) =
    c.put_extra-at.ensures.bytes
    ∙ ap (λ z. put_bits z q (extra_bits extra)) c.put_name-at.ensures.bytes
    ∙ ap (λ z. put_bits (put_bits z p (name_bits name)) q (extra_bits extra)) c.put_first-at.ensures.bytes
    ∙ head-put f h.stamp m name extra p q c.put_first-at.ensures.place c.put_name-at.ensures.place (omega (arith, l, c.size.ensures, c.if-size-buffer.false)) in
    record {
      place = ap Some (c.new.ensures ∙ r) ∙ sym (ap (λ b. cond {A = Option ℕ} b (Some (length (head_of h) / 8)) None) t);
      bytes = w ∙ sym (ap (λ b. cond b (put_bits f 0 (head_of h)) f) t);
    }
