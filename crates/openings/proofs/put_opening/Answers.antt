use Rattle.std.proofs.Common.{◌≡◌, ℕ, ◌+◌, ◌*◌, ◌≤◌, cond, List, length, Some, None, Option, sym, ap, ◌∙◌, arith}
use Rattle.bits.specs.Bits.{put_bits}
use Rattle.bits.proofs.Laws.{length-put_bits}
use Rattle.channel.specs.declared.record.Channel.{Channel}
use Rattle.state.specs.declared.Flags.{Flags}
use Rattle.openings.specs.Openings.{opening}
use Rattle.openings.specs.Steps.{front}
use Rattle.openings.proofs.Fronts.{length-any}
use Rattle.openings.proofs.Whole.{opening-length, shut-room, is_open, put-parts}
use Rattle.openings.proofs.put_opening.Goals as goal

pub returns-then-bits-buffer : goal.returns-then-bits-buffer
returns-then-bits-buffer c =
    let f : List ℕ = c.args.buffer.now in
    let g : Flags = c.args.flags in
    let t : List Channel = c.args.table.now in
    let at : ℕ = c.args.at.bytes in
    let kept = c.records_repeats-recorded.result in
    let k = c.records_repeats-recorded.ensures in
    let l = opening-length g t kept k c.front_len.result c.rows_len.result c.front_len.ensures.len c.rows_len.ensures.len in
    let e = shut-room g t kept k (length f) at (omega (arith, l, c.bits.ensures, c.plus-end.ensures, c.first_bit-start.ensures)) in
    record { place = ap (λ z. cond {A = Option ℕ} z (Some (8 * at + length (opening g t))) None) (sym e); bytes = ap (λ z. cond z (put_bits f (8 * at) (opening g t)) f) (sym e) }

pub put_front-place-requires-clause-room : goal.put_front-place-requires-clause-room
put_front-place-requires-clause-room c =
    let n = length-any c.args.flags (length c.args.table.now) 0 in
    omega (arith, n, c.front_len.ensures.len, c.bits.ensures, c.plus-end.ensures, c.first_bit-start.ensures)

pub put_rows-requires-clause-room : goal.put_rows-requires-clause-room
put_rows-requires-clause-room c =
    let f : List ℕ = c.args.buffer.now in
    let F = front c.args.flags (length c.args.table.now) in
    let n = length-any c.args.flags (length c.args.table.now) 0 in
    let l : length c.put_front-place.new.buffer ≡ length f =
    ap length c.put_front-place.ensures.bytes ∙ length-put_bits f c.first_bit-start.result.bits F (omega (arith, n, c.front_len.ensures.len, c.bits.ensures, c.plus-end.ensures, c.first_bit-start.ensures)) in
    omega (arith, l, n, c.put_front-place.ensures.place, c.front_len.ensures.len, c.rows_len.ensures.len, c.bits.ensures, c.plus-end.ensures, c.first_bit-start.ensures)

pub returns : goal.returns
returns c =
    let f : List ℕ = c.args.buffer.now in
    let g : Flags = c.args.flags in
    let t : List Channel = c.args.table.now in
    let at : ℕ = c.args.at.bytes in
    let kept = c.records_repeats-recorded.result in
    let k = c.records_repeats-recorded.ensures in
    let l = opening-length g t kept k c.front_len.result c.rows_len.result c.front_len.ensures.len c.rows_len.ensures.len in
    let s : c.first_bit-start.result.bits ≡ 8 * at = omega (arith, c.bits.ensures, c.plus-end.ensures, c.first_bit-start.ensures) in
    let fit : 8 * at + length (opening g t) ≤ 8 * length f = omega (arith, l, c.bits.ensures, c.plus-end.ensures, c.first_bit-start.ensures) in
    let e = is_open g t kept k (length f) at (omega arith) (omega arith) (sym c.rows_describable.ensures ∙ c.if-not-rows_describable.false) fit in
    let (p, w) = put-parts g t kept k f c.put_front-place.new.buffer c.put_rows.new.buffer (8 * at) c.put_front-place.result.bits c.put_rows.result.bits fit
    (c.put_front-place.ensures.place ∙ ap (λ z. z + length (front g (length t))) s) (c.put_front-place.ensures.bytes ∙ ap (λ z. put_bits f z (front g (length t))) s)
    c.put_rows.ensures.place c.put_rows.ensures.bytes in
    record {
      place = ap (λ z. Some z) p ∙ ap (λ z. cond {A = Option ℕ} z (Some (8 * at + length (opening g t))) None) (sym e);
      bytes = w ∙ ap (λ z. cond z (put_bits f (8 * at) (opening g t)) f) (sym e);
    }
