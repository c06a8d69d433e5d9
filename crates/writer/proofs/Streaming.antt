-- A section of one channel, filled by one stream of words.
use Rattle.std.proofs.Common.{◌≡◌, ℕ, ◌+◌, ◌-◌, ◌*◌, ◌/◌, ◌%◌, ◌≤◌, min, Bool, true, false, cond, not, ◌&&◌, ◌||◌, eqb, ltb, List, [], ◌∷◌, length, get_or, Some, None, Option, Result, sym, refl, ap, ◌∙◌, subst, mul-le-mul_left, arith}
use Rattle.std.proofs.lemmas.Bool.{and_parts}
use Rattle.std.specs.Option.{option_map, option_or}
use Rattle.std.specs.Bool.{then_some}
use Rattle.bits.specs.Raw.{raw_words}
use Rattle.faults.specs.declared.kind.Kind.{Kind}
use Rattle.faults.specs.declared.kind.Kind.TheVariants.{OverLimit, PartialWord}
use Rattle.faults.specs.Faults.{number_of}
use Rattle.layout.specs.Channels.{ruled}
use Rattle.layout.specs.Slim.{most_bytes}
use Rattle.channel.specs.declared.channel_coder.ChannelCoder.{ChannelCoder}
use Rattle.channel.specs.declared.record.Channel.{Channel}
use Rattle.channel.specs.Records.{settings_of}
use Rattle.channel.specs.Piles.{CoderOf, coder_coding, coder_width}
use Rattle.state.specs.declared.Edge.{Edge}
use Rattle.state.specs.declared.Spot.{Spot}
use Rattle.calls.specs.Calls.{Trouble, answer, earlier, settings, describable, no_row, row_bytes, cut_short}
use Rattle.stream.specs.Stream.{Stream, put_stream}
use Rattle.stream.proofs.OneRow.{alone, left, grows, given_after, given-fresh, repeats-some}
use Rattle.stream.proofs.RawRow.{bytes-some, cut-row}
use Rattle.stream.proofs.Limits.{overrun, most-words, put-bounds, put_fit, row-filled}
use Rattle.writer.specs.declared.states.Inside.{Inside}
use Rattle.writer.proofs.Putting.{coded_by}
use Rattle.writer.specs.Filling.{Opened, poured, poured_result}

-- a table of one row
one_list : (t : List Channel) → length t ≡ 1 → t ≡ get_or t 0 no_row ∷ []
one_list [] e = absurd (omega arith)
one_list (c ∷ []) e = refl
one_list (c ∷ (d ∷ t)) e = absurd (omega arith)

-- rows that can be described keep the rules
pub first-ruled : (kept : Bool) (t : List Channel) → length t ≡ 1 → describable kept (settings t) ≡ true → ruled (settings_of (get_or t 0 no_row)) ≡ true
unfolding describable
first-ruled kept [] e h = absurd (omega arith)
first-ruled kept (c ∷ t) e h = (and_parts (ruled (settings_of c)) ((kept || eqb c.settings.repeats 1) && describable kept (settings t)) h).0

-- a row without a coder does not keep them
pub unruled : (c : Channel) (o : Option ChannelCoder) → o ≡ None → CoderOf (settings_of c) o → ruled (settings_of c) ≡ false
unruled c o e h = subst (CoderOf (settings_of c)) e h

-- a spot at its first word
fresh-spot : (s : Spot) → s.channel ≡ 0 → s.given ≡ 0 → s.raw ≡ 0 → s.rows ≡ 1 → s ≡ alone s.edge s.at.bits 0 0
fresh-spot s a b c d =
    ap (λ z. record { edge = s.edge; at = s.at; rows = z; channel = s.channel; given = s.given; raw = s.raw }) d
    ∙ ap (λ z. record { edge = s.edge; at = s.at; rows = 1; channel = z; given = s.given; raw = s.raw }) a
    ∙ ap (λ z. record { edge = s.edge; at = s.at; rows = 1; channel = 0; given = z; raw = s.raw }) b
    ∙ ap (λ z. record { edge = s.edge; at = s.at; rows = 1; channel = 0; given = 0; raw = z }) c

-- what the stream answers about the puts of a fill
pub record Streams (s : Spot) (b : List ℕ) (t : List Channel) (raw : List ℕ) (n : ℕ) (r : Stream) : Type 0 where
  pub puts : poured s b t raw ≡ left s.edge s.at.bits 0 0 (get_or t 0 no_row) (overrun (ltb n (length raw / row_bytes (get_or t 0 no_row))) r)
  pub cut : cut_short (settings t) raw ≡ not (eqb (length raw % row_bytes (get_or t 0 no_row)) 0)
  pub table : t ≡ get_or t 0 no_row ∷ []
  pub words : r.words ≤ n
  pub room : s.edge.raw + row_bytes (get_or t 0 no_row) * r.words ≤ most_bytes
  pub place : r.at ≤ 8 * length b
  pub from : s.at.bits ≤ r.at
  pub given : given_after (get_or t 0 no_row).settings.repeats 0 r.words ≡ r.words % (get_or t 0 no_row).settings.repeats
  pub some : 1 ≤ row_bytes (get_or t 0 no_row)
  pub repeats : 1 ≤ (get_or t 0 no_row).settings.repeats

pub streams : (w : Inside) (b : List ℕ) (t : List Channel) (raw : List ℕ) → Opened w.spot b t → length t ≡ 1 → (k : ChannelCoder) (found : Option ChannelCoder) (size n m : ℕ) (r : Stream) → found ≡ Some k → CoderOf (settings_of (get_or t 0 no_row)) found → size ≡ row_bytes (get_or t 0 no_row) → n ≡ min (length raw / size) ((most_bytes - w.spot.edge.raw) / size) → m ≡ (get_or t 0 no_row).memory →
    r ≡ put_stream (coder_coding k) (coder_width k / 8) m raw n w.spot.at.bits b → Streams w.spot b t raw n r
streams w b t raw o lt k found size n m r ek fk es en em er =
    let q = coded_by (get_or t 0 no_row) k found ek fk in
    let s : Spot = w.spot in
    let c : Channel = get_or t 0 no_row in
    let e : Edge = s.edge in
    let at : ℕ = s.at.bits in
    let t1 : t ≡ c ∷ [] = one_list t lt in
    let f1 : s ≡ alone e at 0 0 = fresh-spot s o.channel o.given o.raw (sym o.rows ∙ lt) in
    let n1 : n ≡ min (length raw / row_bytes c) ((most_bytes - e.raw) / row_bytes c) = en ∙ ap (λ z. min (length raw / z) ((most_bytes - e.raw) / z)) es in
    let r1 : r ≡ put_stream (coder_coding k) (coder_width k / 8) c.memory raw n at b = er ∙ ap (λ z. put_stream (coder_coding k) (coder_width k / 8) z raw n at b) em in
    let lim : length b ≤ most_bytes = omega (arith, o.len, w.limit) in
    let ins : at ≤ 8 * length b = omega (arith, o.len, w.place) in
    let lr : e.raw ≤ most_bytes = omega (arith, w.raw) in
    let some = bytes-some c q.0 in
    let (few, fits, past) = most-words (row_bytes c) e.raw (length raw / row_bytes c) n some lr n1 in
    let (v, p, l) = put-bounds (coder_coding k) (coder_width k / 8) c.memory raw n at b ins in
    let w1 : r.words ≤ n = subst (λ z. z.words ≤ n) (sym r1) v in
    let size_is : coder_width k / 8 ≡ row_bytes c = ap (λ z. z / 8) q.2 in
    let few1 : n ≤ length raw / (coder_width k / 8) = subst (λ z. n ≤ length raw / z) (sym size_is) few in
    let g = (grows (coder_coding k) (length b) 0 c.memory at b (raw_words (coder_width k / 8) n raw)).1 in
    let fit = put_fit (coder_coding k) (coder_width k / 8) c.memory raw n at b lim ins few1 in
    record {
      puts =
          ap (λ z. poured z b t raw) f1
          ∙ ap (λ z. poured (alone e at 0 0) b z raw) t1
          ∙ row-filled e at b c raw n o.len q.0 lim ins lr n1 (coder_coding k) (coder_width k) r q.1 q.2 r1;
      cut = ap (λ z. cut_short (settings z) raw) t1 ∙ cut-row c raw q.0;
      table = t1;
      words = w1;
      room = (let m = mul-le-mul_left (row_bytes c) w1 in omega arith);
      place = subst (λ z. z.at ≤ 8 * length b) (sym r1) p;
      from = subst (λ z. at ≤ z.at) (sym (r1 ∙ fit)) g;
      given = given-fresh c r.words q.0;
      some = some;
      repeats = repeats-some c q.0;
    }

-- ## The answer, by the fault, the limit and a cut word

abbrev pub said : Option ℕ → Bool → Bool → ℕ → ℕ → Result ℕ Trouble
said f more cut at start =
    answer (earlier (option_map (λ k. (k, at)) (elim f [ None ↦ cond more (Some 9) None | Some k ↦ Some k ])) (cond cut (Some (13, at)) None)) (at - start) (λ f. f)

pub told-by : (s : Spot) (b : List ℕ) (t : List Channel) (raw : List ℕ) (n : ℕ) (r : Stream) → Streams s b t raw n r → (f : Option ℕ) (more cut : Bool) →
    r.fault ≡ f → ltb n (length raw / row_bytes (get_or t 0 no_row)) ≡ more → not (eqb (length raw % row_bytes (get_or t 0 no_row)) 0) ≡ cut →
    poured_result (poured s b t raw) (cut_short (settings t) raw) ≡ said f more cut r.at s.at.bits
told-by s b t raw n r h f more cut x y z =
    let c : Channel = get_or t 0 no_row in
    let M = ltb n (length raw / row_bytes c) in
    let K = not (eqb (length raw % row_bytes c) 0) in
    ap (λ p. poured_result p (cut_short (settings t) raw)) h.puts
    ∙ ap (λ v. poured_result (left s.edge s.at.bits 0 0 c (overrun M r)) v) h.cut
    ∙ ap (λ v. said v M K r.at s.at.bits) x
    ∙ ap (λ v. said f v K r.at s.at.bits) y
    ∙ ap (λ v. said f more v r.at s.at.bits) z

-- the first of three faults
pub first-fault : (f : Option Kind) (more cut : Bool) (at start : ℕ) →
    said (option_map number_of f) more cut at start
    ≡ answer (option_map (λ k. (number_of k, at)) (option_or (option_or f (then_some more OverLimit)) (then_some cut PartialWord))) (at - start) (λ x. x)
first-fault None true cut at start = refl
first-fault None false true at start = refl
first-fault None false false at start = refl
first-fault (Some k) more cut at start = refl
