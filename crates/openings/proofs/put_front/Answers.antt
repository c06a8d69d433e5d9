use Rattle.openings.proofs.Fronts.{put-single, put-counted}
use Rattle.openings.proofs.put_front.Goals as goal

pub returns-then-flags : goal.returns-then-flags
returns-then-flags c =
    let w = put-single c.args.buffer.now c.put_field.new.buffer c.args.flags c.args.at.bits c.plus-place.result.bits c.zeros_len-zeros.result c.args.rows
    c.zeros_len-zeros.ensures c.if-flags.true c.requires.few c.requires.room c.plus-place.ensures c.put_field.ensures.bytes in
    record { place = w.0; bytes = w.1 }

pub returns : goal.returns
returns c =
    let w = put-counted c.args.buffer.now c.put_field.new.buffer c.put_field-2.new.buffer c.args.flags c.args.at.bits c.plus-place.result.bits c.plus.result.bits c.zeros_len-zeros.result c.args.rows c.put_field-2.result
    c.zeros_len-zeros.ensures c.if-flags.false c.requires.few c.requires.room c.plus-place.ensures c.plus.ensures c.put_field.ensures.bytes c.put_field-2.ensures.put c.put_field-2.ensures.bytes in
    record { place = w.0; bytes = w.1 }
