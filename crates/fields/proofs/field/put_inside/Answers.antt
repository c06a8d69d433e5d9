use Rattle.std.proofs.Common.{ℕ, ◌+◌, ◌-◌, ◌*◌, ◌/◌, ◌%◌, List, sym, ap, ◌∙◌, arith}
use Rattle.bits.specs.Bits.{bits_of, bits}
use Rattle.bits.proofs.Places.{put_word, put-long, put_whole, place, Bytes-from}
use Rattle.fields.proofs.field.put_inside.Goals as goal

pub returns-then-shift-count-le64 : goal.returns-then-shift-count-le64
returns-then-shift-count-le64 c =
    let f : List ℕ = c.args.buffer.now in
    let g : List ℕ = c.store.new.buffer in
    let at : ℕ = c.args.at in
    let n : ℕ = c.args.count in
    let v : ℕ = c.args.value in
    let w = put_word f (at / 8) (at % 8) n v c.merged.result c.load-word.result (omega arith) c.if-shift-count-le64.true c.load-word.ensures c.merged.ensures in
    put_whole f g (8 * (at / 8) + at % 8) at (bits n v) (Bytes-from g (λ i. (c.type_inv.buffer i).fits)) (sym (place at)) (ap bits_of c.store.ensures ∙ w)

pub returns-else-shift-count-le64 : goal.returns-else-shift-count-le64
returns-else-shift-count-le64 c =
    let f : List ℕ = c.args.buffer.now in
    let g : List ℕ = c.store-else-shift-count-le64.new.buffer in
    let h : List ℕ = c.put_by_bytes.new.buffer in
    let at : ℕ = c.args.at in
    let n : ℕ = c.args.count in
    let v : ℕ = c.args.value in
    let w = put-long f g (at / 8) (at % 8) n v c.merged-else-shift-count-le64.result c.load-word.result (64 - at % 8) h
    (omega arith) (omega arith) (omega arith) (omega arith) (omega arith) c.load-word.ensures c.merged-else-shift-count-le64.ensures c.store-else-shift-count-le64.ensures c.put_by_bytes.ensures in
    put_whole f h (8 * (at / 8) + at % 8) at (bits n v) (Bytes-from h (λ i. (c.type_inv.buffer i).fits)) (sym (place at)) w

pub returns-else-p-buffer : goal.returns-else-p-buffer
returns-else-p-buffer c =
    let f : List ℕ = c.args.buffer.now in
    let g : List ℕ = c.put_by_bytes-else-p-buffer.new.buffer in
    let at : ℕ = c.args.at in
    put_whole f g (8 * (at / 8) + at % 8) at (bits c.args.count c.args.value) (Bytes-from g (λ i. (c.type_inv.buffer i).fits)) (sym (place at)) c.put_by_bytes-else-p-buffer.ensures
