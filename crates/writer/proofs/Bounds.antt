-- The bounds that a writer keeps.
use Rattle.std.proofs.Common.{◌≡◌, ℕ, ◌+◌, ◌*◌, ◌<◌, ◌≤◌, false, cond, ap, ◌∙◌, arith}
use Rattle.layout.specs.Slim.{most_bytes}
use Rattle.channel.specs.declared.record.Channel.{Channel}
use Rattle.state.specs.declared.Edge.{Edge}
use Rattle.state.specs.declared.Spot.{Spot}
use Rattle.calls.specs.Calls.{strange, row_bytes, moved_on}
use Rattle.writer.specs.declared.states.Inside.{Inside}
use Rattle.writer.proofs.Putting.{moved, same_length}

-- inside a section
pub record SpotBounds (s : Spot) : Type 0 where
  pub limit : s.edge.len ≤ 16777216
  pub place : s.at.bits ≤ 8 * s.edge.len
  pub head : cond s.edge.flags.sized 11 7 ≤ s.edge.at.bytes
  pub fields : 8 * s.edge.at.bytes + cond s.edge.flags.pointed 64 32 ≤ s.at.bits
  pub sections : s.edge.sections ≤ 63
  pub raw : s.edge.raw + s.raw ≤ 16777216
  pub turn : s.channel < s.rows
  pub given : s.given < 4294967295

-- behind a word
pub behind-word : (w : Inside) (c : Channel) (n : ℕ) (r : Spot) → r ≡ moved_on w.spot c n → (len rows : ℕ) → strange w.spot len rows ≡ false → w.spot.at.bits + n ≤ 8 * len → w.spot.edge.raw + w.spot.raw + row_bytes c ≤ most_bytes →
    r.channel < r.rows → r.given < 4294967295 → SpotBounds r
behind-word w c n r e len rows x h l t g =
    let m = moved w.spot c n in
    let i : r.edge ≡ w.spot.edge = ap (λ (z : Spot). z.edge) e ∙ m.edge in
    let at : r.at.bits ≡ w.spot.at.bits + n = ap (λ (z : Spot). z.at.bits) e ∙ m.at in
    let raw : r.raw ≡ w.spot.raw + row_bytes c = ap (λ (z : Spot). z.raw) e ∙ m.raw in
    let len_is = (same_length w.spot len rows x).0 in
    let i-len = ap (λ (z : Edge). z.len) i in
    let i-at = ap (λ (z : Edge). z.at.bytes) i in
    let i-raw = ap (λ (z : Edge). z.raw) i in
    let i-sections = ap (λ (z : Edge). z.sections) i in
    let i-sized = ap {B = ℕ} (λ (z : Edge). cond z.flags.sized 11 7) i in
    let i-pointed = ap {B = ℕ} (λ (z : Edge). cond z.flags.pointed 64 32) i in
    record {
      limit = omega (arith, i-len, w.limit);
      place = omega (arith, i-len, at, len_is, h);
      head = omega (arith, i-sized, i-at, w.head);
      fields = omega (arith, i-pointed, i-at, at, w.fields);
      sections = omega (arith, i-sections, w.sections);
      raw = omega (arith, i-raw, raw, l);
      turn = t;
      given = g;
    }
