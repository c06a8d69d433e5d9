-- Bytes that are written one behind the other over the front of others.
use Rattle.std.proofs.Common.{◌≡◌, ℕ, ◌+◌, ◌*◌, ◌≤◌, Bool, List, [], ◌∷◌, ◌++◌, length, drop, sym, ap, ◌∙◌, arith}
use Rattle.bits.specs.Bits.{bits, bytes, bits_of, bytes_of, overwritten, put_bits, Bytes}
use Rattle.bits.proofs.Files.{length-bits_of, bits_of-append, drop-bits_of, bytes-Bytes, bytes_of-bits_of}
use Rattle.bits.proofs.Fields.{Bytes-append, Bytes-drop}
use Rattle.bits.proofs.Laws.{length-put_bits, put_bits-twice}
use Rattle.layout.specs.Recording.{Channel}
use Rattle.layout.specs.Turns.{Spot, word_bytes, advance}
use Rattle.words.specs.Spread.{raw_of}
use Rattle.reader.specs.Unpacking.{fronted}

-- raw bytes are bytes
pub raw-Bytes : (cs : List Channel) (s : Spot) (xs : List ℕ) → Bytes (raw_of cs s xs)
unfolding raw_of Bytes
raw-Bytes cs s [] = tt
raw-Bytes cs s (x ∷ xs) =
    Bytes-append (bytes (word_bytes cs s) (bits (8 * word_bytes cs s) x)) (raw_of cs (advance cs s) xs) (bytes-Bytes (word_bytes cs s) (bits (8 * word_bytes cs s) x)) (raw-Bytes cs (advance cs s) xs)

pub front_length : (out bs : List ℕ) → length bs ≤ length out → length (put_bits out 0 (bits_of bs)) ≡ length out
front_length out bs h = length-put_bits out 0 (bits_of bs) (omega (arith, length-bits_of bs))

-- bytes behind those that stand there
pub front-more : (out done bs : List ℕ) (to : ℕ) → length done ≡ to → to + length bs ≤ length out → put_bits (put_bits out 0 (bits_of done)) (8 * to) (bits_of bs) ≡ put_bits out 0 (bits_of (done ++ bs))
front-more out done bs to e h =
    let place : 8 * to ≡ 0 + length (bits_of done) = omega (arith, length-bits_of done) in
    ap (λ (k : ℕ). put_bits (put_bits out 0 (bits_of done)) k (bits_of bs)) place
    ∙ put_bits-twice out 0 (bits_of done) (bits_of bs) (omega (arith, length-bits_of done, length-bits_of bs))
    ∙ ap (put_bits out 0) (sym (bits_of-append done bs))

-- all of them
pub front-all : (out bs : List ℕ) → Bytes out → Bytes bs → length bs ≤ length out → put_bits out 0 (bits_of bs) ≡ fronted bs out
unfolding put_bits overwritten
front-all out bs b c h =
    let many : 0 + length (bits_of bs) ≡ 8 * length bs = omega (arith, length-bits_of bs) in
    let others : drop (0 + length (bits_of bs)) (bits_of out) ≡ bits_of (drop (length bs) out) = ap (λ (k : ℕ). drop k (bits_of out)) many ∙ drop-bits_of (length bs) out h in
    ap (λ (z : List Bool). bytes_of (bits_of bs ++ z)) others ∙ ap bytes_of (sym (bits_of-append bs (drop (length bs) out)))
    ∙ bytes_of-bits_of (fronted bs out) (Bytes-append bs (drop (length bs) out) c (Bytes-drop (length bs) out b))
