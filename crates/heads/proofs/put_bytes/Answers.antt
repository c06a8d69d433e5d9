use Rattle.std.proofs.Common.{ℕ, ◌+◌, ◌-◌, List, length, ap, ◌∙◌, arith}
use borrow.Rule.Slice.PartMut.{put_mid}
use Rattle.heads.proofs.Bytes.{copied}
use Rattle.heads.proofs.put_bytes.Goals as goal

pub returns : goal.returns
returns c =
    let f : List ℕ = c.args.buffer.now in
    let ys : List ℕ = c.args.bytes.now in
    let p : ℕ = c.args.at in
    ap (put_mid p (p + length ys - p) f) c.copy_from_slice.ensures.after
    ∙ copied f ys p (p + length ys - p) (omega arith) (omega (arith, c.requires)) c.are_bytes.ensures c.are_bytes-2.ensures
