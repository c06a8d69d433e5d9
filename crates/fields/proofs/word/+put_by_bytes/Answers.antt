use Rattle.std.proofs.Common.{◌≡◌, ℕ, ◌+◌, ◌-◌, ◌*◌, ◌/◌, ◌%◌, ◌^◌, ◌<◌, ◌≤◌, List, length, get_or, set, arith}
use Rattle.bits.specs.Bits.{bits, bits_of, overwritten}
use Rattle.bits.proofs.Files.{length-bits_of}
use Rattle.bits.proofs.Fields.{merged-lt}
use Rattle.bits.proofs.Places.{put-none, put-more, put_byte}
use Rattle.fields.proofs.word.+put_by_bytes.Goals as goal

pub returns-then-count-eq0 : goal.returns-then-count-eq0
returns-then-count-eq0 t c = put-none c.args.buffer.now (8 * c.args.p + c.args.shift) c.args.count c.args.value c.if-count-eq0.true

pub overflow_cast-buffer-2 : goal.overflow_cast-buffer-2
overflow_cast-buffer-2 t c =
    let x : ℕ = get_or c.args.buffer.now c.args.p 0 in
    let s : ℕ = c.args.shift in
    let k : ℕ = c.min-part.result in
    let r : s + k ≤ 8 = omega (arith, c.min-part.ensures) in
    let l : x < 2 ^ 8 = omega arith in
    omega (arith, merged-lt 8 x s c.args.value k r l, c.merged.ensures)

-- the byte
byte : (f : List ℕ) (p s n v k r : ℕ) → s < 8 → 8 * p + s + n ≤ 8 * length f → 0 < n → s + k ≤ 8 → r ≡ (get_or f p 0 / 2 ^ (s + k) * 2 ^ k + v % 2 ^ k) * 2 ^ s + get_or f p 0 % 2 ^ s → bits_of (set f p r) ≡ overwritten (bits_of f) (8 * p + s) (bits k v)
byte f p s n v k r h l z m e = put_byte f p s k v r (omega arith) m e

pub returns-then-part-count : goal.returns-then-part-count
returns-then-part-count t c =
    let f : List ℕ = c.args.buffer.now in
    let p : ℕ = c.args.p in
    let s : ℕ = c.args.shift in
    let n : ℕ = c.args.count in
    let v : ℕ = c.args.value in
    let k : ℕ = c.min-part.result in
    let r : ℕ = c.merged.result in
    let m : s + k ≤ 8 = omega (arith, c.min-part.ensures) in
    let m2 : s + k ≡ 8 = omega (arith, c.min-part.ensures) in
    let z : 0 < n = omega arith in
    let l : 8 * p + s + n ≤ 8 * length f = omega arith in
    let b : bits_of (set f p r) ≡ overwritten (bits_of f) (8 * p + s) (bits k v) = byte f p s n v k r (omega arith) l z m c.merged.ensures in
    let j : k + (n - k) ≡ n = omega arith in
    let g = put-more (bits_of f) (8 * p + s) k (n - k) n v j (omega (arith, length-bits_of f)) in
    let i : 8 * (p + 1) + 0 ≡ 8 * p + s + k = omega arith in
    let e = c.put_by_bytes.ensures in
    cc

pub returns-else-part-count : goal.returns-else-part-count
returns-else-part-count t c =
    let f : List ℕ = c.args.buffer.now in
    let p : ℕ = c.args.p in
    let s : ℕ = c.args.shift in
    let n : ℕ = c.args.count in
    let v : ℕ = c.args.value in
    let k : ℕ = c.min-part.result in
    let r : ℕ = c.merged.result in
    let m : s + k ≤ 8 = omega (arith, c.min-part.ensures) in
    let q : k ≡ n = omega (arith, c.min-part.ensures) in
    let z : 0 < n = omega arith in
    let l : 8 * p + s + n ≤ 8 * length f = omega arith in
    let b : bits_of (set f p r) ≡ overwritten (bits_of f) (8 * p + s) (bits k v) = byte f p s n v k r (omega arith) l z m c.merged.ensures in
    cc
