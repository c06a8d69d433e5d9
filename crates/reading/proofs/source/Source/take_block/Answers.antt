use Rattle.std.proofs.Common.{ℕ, ◌*◌, drop, sym, ap, ◌∙◌, arith, leb-false, leb-true}
use Rattle.bits.specs.Bits.{bits_of, bytes}
use Rattle.format.specs.Cells.{File, size}
use Rattle.format.specs.Format.{got}
use Rattle.reading.proofs.Looks.{fault-is, plus-is}
use Rattle.reading.proofs.Blocks.{block_on, block-not}
use Rattle.reading.proofs.source.Source.take_block.Goals as goal

pub returns-then-not-remains : goal.returns-then-not-remains
returns-then-not-remains c l =
    let f : File = bits_of c.args.self.bytes.now in
    let short = leb-false _ (size f) (sym c.if-not-remains.ensures) in
    fault-is c.at.ensures
    (block-not c.args.len f c.args.at.bits l c.requires.0 (omega (arith, short)))

pub returns : goal.returns
returns c l =
    let f : File = bits_of c.args.self.bytes.now in
    let left = sym c.if-not-remains.ensures in
    let behind = plus-is c.args.self.bytes.now c.args.at.bits (8 * c.args.len) c.plus.result.bits c.args.self.small left c.plus.ensures in
    ap (λ (q : ℕ). got (bytes c.args.len (drop c.args.at.bits f)) q c.args.at.bits) behind
    ∙ block_on c.args.len f c.args.at.bits l (leb-true _ (size f) left)
