use Rattle.std.proofs.Common.{◌≡◌, ℕ, ◌+◌, ◌-◌, ◌*◌, ◌≤◌, List, length, sym, ap, ◌∙◌, mul-zero, mul-add, arith}
use Rattle.bits.specs.Bits.{bits, put_bits}
use Rattle.faults.specs.Faults.{number_of}
use Rattle.blocks.specs.Blocks.{bytes_per}
use Rattle.blocks.specs.Loops.{spread}
use Rattle.blocks.proofs.Folds.{spread-more, spread-not, spread_none, taken-short, index-within, raw-put}
use Rattle.blocks.proofs.block.unpack.Goals as goal

pub loop-i-init : goal.loop-i-init
loop-i-init g c =
    let C = g.C.Coder.coding c.args.coder.now in
    let k : ℕ = bytes_per (g.C.Coder.wide c.args.coder.now) in
    let f = c.args.block.now in
    let o = c.args.out.now in
    let n : ℕ = c.args.count in (
      ap (λ m. spread k C m f c.new-at.result.bits o (k * 0) (n - 0)) c.start-memory.ensures ∙ ap (λ p. spread k C C.start f p o (k * 0) (n - 0)) c.new-at.ensures
          ∙ ap (λ p. spread k C C.start f 0 o p (n - 0)) (mul-zero k) ∙ ap (λ j. spread k C C.start f 0 o 0 j) (omega arith),
      omega (arith, c.new-at.ensures),
    )

pub returns-in_default : goal.returns-in_default
returns-in_default g c =
    let C = g.C.Coder.coding c.args.coder.now in
    let k : ℕ = bytes_per (g.C.Coder.wide c.args.coder.now) in
    let i : ℕ = c.loop-i.i in
    let n : ℕ = c.args.count in
    let f = c.in_default.field-0 in
    sym (spread-not C c.loop-i.memory c.args.block.now c.loop-i.at.bits k c.loop-i.out (k * i) (n - i) (n - (i + 1)) (number_of f.kind) f.place.bits (omega arith) c.in_default.ensures)
    ∙ c.loop-i.invariant.0

pub put_word_at-requires : goal.put_word_at-requires
put_word_at-requires g c =
    let k : ℕ = bytes_per (g.C.Coder.wide c.args.coder.now) in
    let l : k * c.args.count ≤ length c.loop-i.out = rw c.loop-i.auto.out c.requires.room in
    record {
      some = c.word_size-size.ensures.some;
      most = c.word_size-size.ensures.most;
      room = index-within k c.loop-i.i c.args.count c.word_size-size.result (length c.loop-i.out) c.word_size-size.ensures.size c.loop-i-test.true l;
    }

pub loop-i-preserved : goal.loop-i-preserved
loop-i-preserved g c =
    let C = g.C.Coder.coding c.args.coder.now in
    let k : ℕ = bytes_per (g.C.Coder.wide c.args.coder.now) in
    let f = c.args.block.now in
    let i : ℕ = c.loop-i.i in
    let n : ℕ = c.args.count in
    let o : List ℕ = c.loop-i.out in
    let t = c.in-Ok.taken in
    let s : t.len ≤ 64 = taken-short C (g.C.Coder.sound c.args.coder.now) c.loop-i.memory f c.loop-i.at.bits t.word t.len t.next c.in-Ok.ensures in
    let p : c.new-at-in-loop-i.result.bits ≡ c.loop-i.at.bits + t.len = omega (arith, c.new-at-in-loop-i.ensures, c.bits.ensures) in
    let w : c.put_word_at.new.raw ≡ put_bits o (8 * (k * i)) (bits (8 * k) t.word) = raw-put k i c.word_size-size.result t.word o c.put_word_at.new.raw c.word_size-size.ensures.size c.put_word_at.ensures in
    let q : k * (i + 1) ≡ k * i + k = omega (arith, mul-add k i 1) in (
      ap (λ z. spread k C t.next f z c.put_word_at.new.raw (k * (i + 1)) (n - (i + 1))) p
          ∙ ap (λ z. spread k C t.next f (c.loop-i.at.bits + t.len) z (k * (i + 1)) (n - (i + 1))) w
          ∙ ap (λ z. spread k C t.next f (c.loop-i.at.bits + t.len) (put_bits o (8 * (k * i)) (bits (8 * k) t.word)) z (n - (i + 1))) q
          ∙ sym (spread-more C c.loop-i.memory f c.loop-i.at.bits k o (k * i) (n - i) (n - (i + 1)) t.word t.len t.next (omega arith) c.in-Ok.ensures)
          ∙ c.loop-i.invariant.0,
      omega (arith, s, p, c.loop-i.invariant.1),
    )

pub returns : goal.returns
returns g c =
    let C = g.C.Coder.coding c.args.coder.now in
    let k : ℕ = bytes_per (g.C.Coder.wide c.args.coder.now) in
    let z : c.args.count - c.loop-i.i ≡ 0 = omega arith in
    sym (spread_none C c.loop-i.memory c.args.block.now c.loop-i.at.bits k c.loop-i.out (k * c.loop-i.i) (c.args.count - c.loop-i.i) z) ∙ c.loop-i.invariant.0
