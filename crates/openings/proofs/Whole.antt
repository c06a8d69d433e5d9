-- A whole head: where it goes into a buffer, and its two parts put one behind the other.
use Rattle.std.proofs.Common.{◌≡◌, ℕ, ◌+◌, ◌*◌, ◌<◌, ◌≤◌, Bool, true, false, leb, List, ◌++◌, length, sym, ap, ◌∙◌, arith, length-append}
use Rattle.std.proofs.lemmas.List.{length-map}
use Rattle.std.proofs.lemmas.Bool.{le-leb, lt-leb, and_from, and_right}
use Rattle.bits.specs.Bits.{put_bits}
use Rattle.bits.proofs.Laws.{put_bits-twice}
use Rattle.layout.specs.Slim.{most_bytes, most_channels, recorded}
use Rattle.channel.specs.declared.record.Channel.{Channel}
use Rattle.channel.specs.Records.{settings_of}
use Rattle.state.specs.declared.Flags.{Flags}
use Rattle.calls.specs.Calls.{settings, flags, describable}
use Rattle.openings.specs.Openings.{opening, openable}
use Rattle.openings.specs.Steps.{front, rows_bits}
use Rattle.openings.proofs.Heads.{opening-is}
use Rattle.openings.proofs.Fronts.{length-any}

module _ (g : Flags) (t : List Channel) (kept : Bool) (k : kept ≡ recorded (flags g) (length t)) where
  same : kept ≡ recorded (flags g) (length (settings t))
  same = k ∙ ap (recorded (flags g)) (sym (length-map t settings_of))

  pub opening-parts : opening g t ≡ front g (length t) ++ rows_bits kept (settings t)
  opening-parts =
      opening-is g (settings t)
      ∙ ap (λ z. front g (length (settings t)) ++ rows_bits z (settings t)) (sym same)
      ∙ ap (λ n. front g n ++ rows_bits kept (settings t)) (length-map t settings_of)

  pub opening-length : (lf lr : ℕ) → lf ≡ length (front g 0) → lr ≡ length (rows_bits kept (settings t)) → length (opening g t) ≡ lf + lr
  opening-length lf lr ef er =
      let a = ap length opening-parts ∙ length-append (front g (length t)) (rows_bits kept (settings t)) in
      omega (arith, a, length-any g (length t) 0)

  pub shut-room : (size at : ℕ) → 8 * size < 8 * at + length (opening g t) → openable size at g t ≡ false
  shut-room size at h =
      and_right (leb size most_bytes) _ (and_right (leb (length t) most_channels) _
      (and_right (describable (recorded (flags g) (length (settings t))) (settings t)) _ (lt-leb (8 * at + length (opening g t)) (8 * size) h)))

  pub is_open : (size at : ℕ) → size ≤ 16777216 → length t ≤ 32 → describable kept (settings t) ≡ true → 8 * at + length (opening g t) ≤ 8 * size → openable size at g t ≡ true
  is_open size at a b d h =
      and_from (leb size most_bytes) _ (le-leb size most_bytes a) (and_from (leb (length t) most_channels) _ (le-leb (length t) most_channels b)
      (and_from (describable (recorded (flags g) (length (settings t))) (settings t)) _ (ap (λ z. describable z (settings t)) (sym same) ∙ d) (le-leb (8 * at + length (opening g t)) (8 * size) h)))

  -- the front, and the rows behind it
  pub put-parts : (f b h : List ℕ) (at p q : ℕ) → at + length (opening g t) ≤ 8 * length f → p ≡ at + length (front g (length t)) → b ≡ put_bits f at (front g (length t)) →
      q ≡ p + length (rows_bits kept (settings t)) → h ≡ put_bits b p (rows_bits kept (settings t)) → (q ≡ at + length (opening g t)) × (h ≡ put_bits f at (opening g t))
  put-parts f b h at p q fit ep eb eq eh =
      let F = front g (length t) in
      let R = rows_bits kept (settings t) in
      let l : length (opening g t) ≡ length F + length R = ap length opening-parts ∙ length-append F R in
      let w = put_bits-twice f at F R (omega arith) in
      (omega arith, eh ∙ ap (λ z. put_bits z p R) eb ∙ ap (λ z. put_bits (put_bits f at F) z R) ep ∙ w ∙ ap (put_bits f at) (sym opening-parts))
