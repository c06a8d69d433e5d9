use Rattle.std.proofs.Common.{ℕ, ◌+◌, ◌/◌, ◌≤◌, length, arith}
use Rattle.blocks.specs.Blocks.{bytes_per}
use Rattle.blocks.proofs.Unpacking.{read_done}
use Rattle.blocks.proofs.block.read_words.Goals as goal

pub returns : goal.returns
returns g c =
    let k : ℕ = bytes_per (g.C.Coder.wide c.args.coder.now) in
    let f = c.args.block.now in
    let l : length f ≤ (c.in_ok-end.end.bits + 7) / 8 = omega (arith, c.whole_byte.ensures, c.bytes.ensures, c.if-bytes-block.false) in
    let (a, b) = read_done k (g.C.Coder.coding c.args.coder.now) f c.word_size-size.result c.args.count c.args.out.now c.unpack.new.out c.in_ok-end.end.bits c.word_size-size.ensures.size c.if-count-gt-MOST_WORDS.false c.if-size-count.false c.are_bytes.ensures c.in_ok-end.ensures l c.unpack.ensures in
    record { answer = a; bytes = b; most = omega arith }
