-- Sections that are read and written one behind the other.
use Rattle.std.proofs.Common.{◌≡◌, ℕ, suc, ◌+◌, ◌-◌, ◌*◌, ◌<◌, ◌≤◌, Bool, true, false, ltb, List, [], ◌∷◌, ◌++◌, length, drop, sym, refl, ap, ◌∙◌, append_assoc, arith, length-append}
use Rattle.std.proofs.lemmas.Bool.{lt-ltb, le-ltb, ltb-true, ltb-false}
use Rattle.bits.specs.Bits.{bits_of, put_bits, Bytes}
use Rattle.bits.proofs.Files.{length-bytes, bytes-Bytes}
use Rattle.bits.proofs.Fields.{Bytes-append}
use Rattle.bits.proofs.Laws.{put_bits-none}
use Rattle.faults.specs.Faults.{gives}
use Rattle.format.specs.Cells.{File}
use Rattle.format.specs.Format.{Outcome, got, fault, next, Format, whole, refuse, ◌>>=◌}
use Rattle.format.proofs.Laws.{faulted, got-got, next-got}
use Rattle.layout.specs.Recording.{Section}
use Rattle.layout.specs.Turns.{first, raw_size}
use Rattle.layout.specs.Slim.{Flags, Piece, Closing, another, ended, Body, positive, piece, behind, chain}
use Rattle.words.proofs.Spreading.{raw-length}
use Rattle.reading.specs.declared.block.Block.{Block}
use Rattle.reading.specs.declared.closing.Closing as code
use Rattle.reading.specs.declared.closing.Closing.TheVariants.{Another, Ended}
use Rattle.reading.specs.Blocks.{bytes_at, closing_of}
use Rattle.reader.specs.Counts.{seen, outline}
use Rattle.reader.specs.Unpacking.{section_bytes, sections_bytes, contents, fronted, RoomFor, body_answer, body_left}
use Rattle.reader.proofs.Sound.{seen_back}
use Rattle.reader.proofs.Fronts.{raw-Bytes, front_length, front-more, front-all}

abbrev body_bytes : Body → List ℕ
body_bytes b = contents b.sections b.leftovers

-- of the sections and leftovers that were read, some bytes are written over the front of others; at most k sections are left to be read, behind so many raw bytes
pub record Writing (g : Flags) (f : File) (o : Outcome Body) (out : List ℕ) (k raw p : ℕ) (now : List ℕ) : Type 0 where
  pub all : Body
  pub behind-all : ℕ
  pub last-all : ℕ
  pub read : o ≡ got all behind-all last-all
  pub few : length all.leftovers ≤ 7
  pub room : length (body_bytes all) ≤ length out
  pub left : Body
  pub last : ℕ
  pub end : ℕ
  pub tried : ℕ
  pub reads : (chain g k raw).reads f p last ≡ got left end tried
  pub ends : left.leftovers ≡ all.leftovers
  pub done : List ℕ
  pub parts : body_bytes all ≡ done ++ body_bytes left
  pub many : length done ≡ raw
  pub bytes : Bytes done
  pub wrote : now ≡ put_bits out 0 (bits_of done)

pub write-start : (g : Flags) (f : File) (out : List ℕ) (p l : ℕ) → RoomFor ((chain g 64 0).reads f p l) (length out) → Bytes out → Writing g f ((chain g 64 0).reads f p l) out 64 0 p out
unfolding Bytes bits_of
write-start g f out p l h b = by_cases ((chain g 64 0).reads f p l) refl h
  where
    by_cases : (o : Outcome Body) → (chain g 64 0).reads f p l ≡ o → RoomFor o (length out) → Writing g f ((chain g 64 0).reads f p l) out 64 0 p out
    by_cases (got x q m) e (few, room) = record {
      all = x;
      behind-all = q;
      last-all = m;
      read = e;
      few = few;
      room = room;
      left = x;
      last = l;
      end = q;
      tried = m;
      reads = e;
      ends = refl;
      done = [];
      parts = refl;
      many = refl;
      bytes = tt;
      wrote = sym (put_bits-none out 0 b);
    }
    by_cases (fault n q) e h = absurd h

-- sections are left
pub write-left : (g : Flags) (f : File) (o : Outcome Body) (out : List ℕ) (k raw p : ℕ) (now : List ℕ) → k ≡ 0 → Writing g f o out k raw p now → ⊥
unfolding chain refuse
write-left g f o out k raw p now z w = faulted (ap (λ (k : ℕ). (chain g k raw).reads f p w.last) (sym z) ∙ w.reads)

is-room : (i : ℕ) → i < 64 → ltb (i + 1) 64 ≡ positive (64 - (i + 1))
is-room i h = by-test (ltb (i + 1) 64) refl
  where
    by-test : (t : Bool) → ltb (i + 1) 64 ≡ t → ltb (i + 1) 64 ≡ ltb 0 (64 - (i + 1))
    by-test true e = let j = ltb-true (i + 1) 64 e in e ∙ sym (lt-ltb 0 (64 - (i + 1)) (omega arith))
    by-test false e = let j = ltb-false (i + 1) 64 e in e ∙ sym (le-ltb 0 (64 - (i + 1)) (omega arith))

chain_back : (g : Flags) (k raw : ℕ) (f : File) (p l : ℕ) (b : Body) (q m : ℕ) → (chain g (suc k) raw).reads f p l ≡ got b q m →
    (x : Piece) × (q₁ : ℕ) × (m₁ : ℕ) × ((piece g (positive k) raw).reads f p l ≡ got x q₁ m₁) × ((behind (chain g k (raw + raw_size x.section)) x.section x.closing).reads f q₁ m₁ ≡ got b q m)
unfolding chain ◌>>=◌
chain_back g k raw f p l b q m e = next-got ((piece g (positive k) raw).reads f p l) (λ x q m. (behind (chain g k (raw + raw_size x.section)) x.section x.closing).reads f q m) b q m e

behind-last : (F : Format Body) (S : Section) (k : Closing) (ls : List ℕ) (f : File) (p l : ℕ) (b : Body) (q m : ℕ) → k ≡ ended ls → (behind F S k).reads f p l ≡ got b q m → record { sections = S ∷ []; leftovers = ls } ≡ b
unfolding behind whole
behind-last F S k ls f p l b q m c e =
    let same : (behind F S k).reads f p l ≡ got (record { sections = S ∷ []; leftovers = ls }) p l = rw c refl in
    (got-got (sym same ∙ e)).0

behind_more : (F : Format Body) (S : Section) (k : Closing) (f : File) (p l : ℕ) (b : Body) (q m : ℕ) → k ≡ another → (behind F S k).reads f p l ≡ got b q m →
    (r : Body) × (F.reads f p l ≡ got r q m) × (record { sections = S ∷ r.sections; leftovers = r.leftovers } ≡ b)
unfolding behind ◌>>=◌ whole
behind_more F S k f p l b q m c e =
    let same : (behind F S k).reads f p l ≡ next (F.reads f p l) (λ r q m. got (record { sections = S ∷ r.sections; leftovers = r.leftovers }) q m) = rw c refl in
    let (r, q₁, m₁, d, h) = next-got (F.reads f p l) (λ r q m. got (record { sections = S ∷ r.sections; leftovers = r.leftovers }) q m) b q m (sym same ∙ e) in
    let (i, j, k) = got-got h in
    (r, d ∙ ap (λ (x : ℕ). got r x m₁) j ∙ ap (λ (x : ℕ). got r q x) k, i)

-- ## One section

module _ (g : Flags) (f : File) (o : Outcome Body) (out : List ℕ) (i raw p : ℕ) (now : List ℕ) (w : Writing g f o out (64 - i) raw p now) (room : Bool) (less : i < 64) (is : room ≡ ltb (i + 1) 64) where
  abbrev F : ℕ → Format Body
  F n = chain g (64 - (i + 1)) (raw + n)

  -- it is read
  next-piece : (x : Piece) × (q₁ : ℕ) × (m₁ : ℕ) × ((piece g room raw).reads f p w.last ≡ got x q₁ m₁) × ((behind (F (raw_size x.section)) x.section x.closing).reads f q₁ m₁ ≡ got w.left w.end w.tried)
  next-piece =
      let z : 64 - i ≡ suc (64 - (i + 1)) = omega arith in
      let (x, q₁, m₁, a, b) = chain_back g (64 - (i + 1)) raw f p w.last w.left w.end w.tried (ap (λ (k : ℕ). (chain g k raw).reads f p w.last) (sym z) ∙ w.reads) in
      (x, q₁, m₁, ap (λ (t : Bool). (piece g t raw).reads f p w.last) (is ∙ is-room i less) ∙ a, b)

  pub write_read : (x y : ℕ) → fault x y ≡ seen outline ((piece g room raw).reads f p w.last) → ⊥
  write_read x y e =
      let (z, q₁, m₁, a, b) = next-piece in
      faulted (e ∙ ap (seen outline) a)

  -- its raw bytes are written behind those before it
  module _ (S : Section) (ss : List Section) (ls : List ℕ) (same : record { sections = S ∷ ss; leftovers = ls } ≡ w.left) where
    abbrev bs : List ℕ
    bs = section_bytes S

    more_parts : body_bytes w.all ≡ (w.done ++ bs) ++ contents ss ls
    unfolding sections_bytes
    more_parts =
        let head : body_bytes w.left ≡ bs ++ contents ss ls = ap body_bytes (sym same) ∙ append_assoc bs (sections_bytes ss) ls in
        w.parts ∙ ap (λ (z : List ℕ). w.done ++ z) head ∙ sym (append_assoc w.done bs (contents ss ls))

    more-many : length (w.done ++ bs) ≡ raw + raw_size S
    more-many = omega (arith, length-append w.done bs, w.many, raw-length S.channels first S.words)

    more_room : raw + raw_size S + length (contents ss ls) ≤ length out
    more_room = omega (arith, w.room, ap length more_parts, length-append (w.done ++ bs) (contents ss ls), more-many)

    now-length : length now ≡ length out
    now-length = ap length w.wrote ∙ front_length out w.done (omega (arith, w.many, more_room))

    more-wrote : (left : List ℕ) → left ≡ put_bits now (8 * raw) (bits_of bs) → left ≡ put_bits out 0 (bits_of (w.done ++ bs))
    more-wrote left e =
        e ∙ ap (λ (z : List ℕ). put_bits z (8 * raw) (bits_of bs)) w.wrote ∙ front-more out w.done bs raw w.many (omega (arith, more_room, raw-length S.channels first S.words))

    more-Bytes : Bytes (w.done ++ bs)
    more-Bytes = Bytes-append w.done bs w.bytes (raw-Bytes S.channels first S.words)

  module _ (n k : ℕ) (e : Closing) (q m : ℕ) (d : got (n, k, e) q m ≡ seen outline ((piece g room raw).reads f p w.last)) where
    -- as the outline has it
    outlined : (x : Piece) × (n ≡ raw_size x.section) × (x.closing ≡ e) × ((piece g room raw).reads f p w.last ≡ got x q m) × ((behind (F n) x.section x.closing).reads f q m ≡ got w.left w.end w.tried)
    outlined =
        let (x, q₁, m₁, a, b) = next-piece in
        let (y, v, c) = seen_back outline ((piece g room raw).reads f p w.last) (n, k, e) q m d in
        let (s, t, u) = got-got (sym a ∙ c) in
        let size : n ≡ raw_size x.section = ap (λ (z : ℕ × ℕ × Closing). z.0) v ∙ ap (λ (z : Piece). raw_size z.section) (sym s) in (
          x,
          size,
          ap (λ (z : Piece). z.closing) s ∙ sym (ap (λ (z : ℕ × ℕ × Closing). z.2) v),
          c ∙ ap (λ (z : Piece). got z q m) (sym s),
          ap (λ (z : ℕ). (behind (F z) x.section x.closing).reads f q m) size ∙ ap (λ (z : ℕ). (behind (F (raw_size x.section)) x.section x.closing).reads f z m) (sym t)
              ∙ ap (λ (z : ℕ). (behind (F (raw_size x.section)) x.section x.closing).reads f q₁ z) (sym u) ∙ b,
        )

    -- what writing it leaves
    abbrev Wrote : List ℕ → Type 0
    Wrote after = (room : Bool) (l : ℕ) (x : Piece) (q m : ℕ) → (piece g room raw).reads f p l ≡ got x q m → raw + raw_size x.section ≤ length now → after ≡ put_bits now (8 * raw) (bits_of (section_bytes x.section))

    write-more : (after : List ℕ) → Wrote after → e ≡ another → Writing g f o out (64 - (i + 1)) (raw + n) q after
    write-more after wr c =
        let (x, size, closes, a, b) = outlined in
        let (r, d, same) = behind_more (F n) x.section x.closing f q m w.left w.end w.tried (closes ∙ c) b in
        let fits = more_room x.section r.sections r.leftovers same in
        let long = now-length x.section r.sections r.leftovers same in
        record {
          all = w.all;
          behind-all = w.behind-all;
          last-all = w.last-all;
          read = w.read;
          few = w.few;
          room = w.room;
          left = r;
          last = m;
          end = w.end;
          tried = w.tried;
          reads = d;
          ends = ap (λ (z : Body). z.leftovers) same ∙ w.ends;
          done = w.done ++ section_bytes x.section;
          parts = more_parts x.section r.sections r.leftovers same;
          many = more-many x.section r.sections r.leftovers same ∙ ap (λ (z : ℕ). raw + z) (sym size);
          bytes = more-Bytes x.section r.sections r.leftovers same;
          wrote = more-wrote x.section r.sections r.leftovers same after (wr room w.last x q m a (omega (arith, fits, long)));
        }

    module _ (ls : List ℕ) (c : e ≡ ended ls) where
      -- the last section
      final : (x : Piece) × (n ≡ raw_size x.section) × ((piece g room raw).reads f p w.last ≡ got x q m) × (record { sections = x.section ∷ []; leftovers = ls } ≡ w.left)
      final =
          let (x, size, closes, a, b) = outlined in
          (x, size, a, behind-last (F n) x.section x.closing ls f q m w.left w.end w.tried (closes ∙ c) b)

      final-few : length ls ≤ 7
      final-few =
          let (x, size, a, same) = final in
          omega (arith, w.few, ap (λ (z : Body). length z.leftovers) same, ap (λ (z : List ℕ). length z) w.ends)

      final-room : raw + n + length ls ≤ length out
      unfolding sections_bytes
      final-room =
          let (x, size, a, same) = final in
          omega (arith, size, more_room x.section [] ls same)

      final-length : (after : List ℕ) → Wrote after → length after ≡ length out
      final-length after wr =
          let (x, size, a, same) = final in
          let fits = more_room x.section [] ls same in
          let long = now-length x.section [] ls same in
          let put = more-wrote x.section [] ls same after (wr room w.last x q m a (omega (arith, fits, long))) in
          ap length put ∙ front_length out (w.done ++ section_bytes x.section) (omega (arith, fits, more-many x.section [] ls same))

      all-parts : (x : Piece) → record { sections = x.section ∷ []; leftovers = ls } ≡ w.left → body_bytes w.all ≡ (w.done ++ section_bytes x.section) ++ ls
      unfolding sections_bytes
      all-parts x same = more_parts x.section [] ls same

      final-answer : (k : ℕ) → k ≡ raw + n + length ls → gives k ≡ body_answer o
      final-answer k h =
          let (x, size, a, same) = final in
          let whole = all-parts x same in
          let long : k ≡ length (body_bytes w.all) = omega (arith, h, size, more-many x.section [] ls same, length-append (w.done ++ section_bytes x.section) ls, ap length whole) in
          ap (λ (z : ℕ). gives z) long ∙ ap body_answer (sym w.read)

      final-bytes : (after last : List ℕ) → Bytes out → Bytes ls → Wrote after → last ≡ put_bits after (8 * (raw + n)) (bits_of ls) → last ≡ body_left o out
      final-bytes after last b₀ b wr put =
          let (x, size, a, same) = final in
          let before : List ℕ = w.done ++ section_bytes x.section in
          let fits = more_room x.section [] ls same in
          let long = now-length x.section [] ls same in
          let many = more-many x.section [] ls same in
          let put₀ = more-wrote x.section [] ls same after (wr room w.last x q m a (omega (arith, fits, long))) in
          let whole = all-parts x same in
          let room₀ = final-room in
          put ∙ ap (λ (z : List ℕ). put_bits z (8 * (raw + n)) (bits_of ls)) put₀
          ∙ front-more out before ls (raw + n) (omega (arith, many, size)) room₀
          ∙ front-all out (before ++ ls) b₀ (Bytes-append before ls (more-Bytes x.section [] ls same) b) (omega (arith, length-append before ls, many, size, room₀))
          ∙ ap (λ (z : List ℕ). fronted z out) (sym whole)
          ∙ ap (λ (z : Outcome Body). body_left z out) (sym w.read)

  -- as the code has what closes the section
  module _ (n k : ℕ) (e : code.Closing) (q m : ℕ) (d : got (n, k, closing_of f e) q m ≡ seen outline ((piece g room raw).reads f p w.last)) (after : List ℕ) (wr : Wrote n k (closing_of f e) q m d after) where
    pub write-another : e ≡ Another → Writing g f o out (64 - (i + 1)) (raw + n) q after
    write-another c = write-more n k (closing_of f e) q m d after wr (ap (closing_of f) c)

    module _ (b : Block) (c : e ≡ Ended b) where
      many : length (bytes_at f b) ≡ b.len
      many = length-bytes b.len (drop b.at.bits f)

      pub ended-few : b.len ≤ 7
      ended-few = omega (arith, many, final-few n k (closing_of f e) q m d (bytes_at f b) (ap (closing_of f) c))

      pub ended-room : raw + n + b.len ≤ length after
      ended-room = omega (arith, many, final-room n k (closing_of f e) q m d (bytes_at f b) (ap (closing_of f) c), final-length n k (closing_of f e) q m d (bytes_at f b) (ap (closing_of f) c) after wr)

      pub ended-answer : gives (raw + n + b.len) ≡ body_answer o
      ended-answer = final-answer n k (closing_of f e) q m d (bytes_at f b) (ap (closing_of f) c) (raw + n + b.len) (ap (λ (z : ℕ). raw + n + z) (sym many))

      pub ended-bytes : (last : List ℕ) → Bytes out → last ≡ put_bits after (8 * (raw + n)) (bits_of (bytes_at f b)) → last ≡ body_left o out
      ended-bytes last b₀ put = final-bytes n k (closing_of f e) q m d (bytes_at f b) (ap (closing_of f) c) after last b₀ (bytes-Bytes b.len (drop b.at.bits f)) wr put
