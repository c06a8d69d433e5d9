use Rattle.std.proofs.Common.{ℕ, ◌-◌, ◌*◌, ◌^◌, min, ap, ◌∙◌}
use Rattle.reader.proofs.Written.{leftovers-put}
use Rattle.reader.proofs.unpack.write_leftovers.Goals as goal

pub returns : goal.returns
returns c =
    leftovers-put c.args.source.bytes.now c.args.out.now c.put_field.new.buffer c.args.leftovers.at.bits c.args.leftovers.len c.args.from c.first_bit-place.result.bits c.window_at-bytes.result.bits
    c.requires.few c.requires.room c.ranges.from.fits (c.first_bit-place.ensures ∙ ap (λ (z : ℕ). min (8 * z) (2 ^ 64 - 1)) c.new.ensures) c.window_at-bytes.ensures.bits c.put_field.ensures.bytes
