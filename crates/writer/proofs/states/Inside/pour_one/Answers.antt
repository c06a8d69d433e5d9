use Rattle.std.proofs.Common.{◌≡◌, ℕ, ◌+◌, ◌-◌, ◌*◌, ◌/◌, ◌%◌, ◌<◌, ◌≤◌, Bool, true, false, cond, not, eqb, ltb, List, [], ◌∷◌, length, get_or, set, Ok, Err, Option, sym, refl, ap, ◌∙◌, subst, mul-le-mul_right, mod-lt, arith}
use Rattle.std.specs.Option.{option_map, option_or}
use Rattle.std.specs.Bool.{then_some}
use Rattle.faults.specs.declared.kind.Kind.{Kind}
use Rattle.faults.specs.declared.kind.Kind.TheVariants.{OverLimit, PartialWord}
use Rattle.faults.specs.Faults.{number_of}
use Rattle.channel.specs.declared.record.Channel.{Channel}
use Rattle.channel.specs.Records.{remembering}
use Rattle.state.specs.declared.Spot.{Spot}
use Rattle.calls.specs.Calls.{Trouble, answer, settings, no_row, row_bytes, cut_short, Putting}
use Rattle.stream.specs.Stream.{Stream, told}
use Rattle.stream.proofs.OneRow.{alone}
use Rattle.writer.specs.declared.states.Inside.{Inside}
use Rattle.writer.specs.Answers.{trouble}
use Rattle.writer.specs.Filling.{Opened, poured, poured_result}
use Rattle.writer.proofs.Streaming.{Streams, streams, first-ruled, unruled, told-by, first-fault}
use Rattle.writer.proofs.Bounds.{SpotBounds}
use Rattle.writer.proofs.states.Inside.pour_one.Goals as goal

false_true : ◌≡◌ {A = Bool} false true → ⊥
false_true e = let z : ◌≡◌ {A = ℕ} 0 1 = ap {B = ℕ} (λ t. cond t 1 0) e in omega arith

pub returns-in_err-coder : goal.returns-in_err-coder
returns-in_err-coder c =
    let o = c.requires.opened in
    absurd (false_true (sym (unruled (get_or c.args.table.now 0 no_row) c.coder.result c.in_err-coder.ensures.ok_part c.coder.ensures) ∙ first-ruled o.kept c.args.table.now c.requires.single o.rules))

-- a product's factor is no larger
few : (k n x : ℕ) → 1 ≤ k → x + k * n ≤ 16777216 → n ≤ 16777216
few k n x h l = let m = mul-le-mul_right n h in omega arith

bound : (size k n x : ℕ) → size ≡ k → x + k * n ≤ 16777216 → size * n < 4294967296
bound size k n x e l = let m : size * n ≡ k * n = ap (λ z. z * n) e in omega arith

-- a writer behind a stream keeps its bounds
behind_stream : (w : Inside) (b : List ℕ) (t : List Channel) (raw : List ℕ) (n : ℕ) (r : Stream) → Streams w.spot b t raw n r → length b ≡ w.spot.edge.len → (size repeats : ℕ) → size ≡ row_bytes (get_or t 0 no_row) → repeats ≡ (get_or t 0 no_row).settings.repeats → repeats < 4294967296 →
    SpotBounds (record { edge = w.spot.edge; at = record { bits = r.at }; rows = w.spot.rows; channel = w.spot.channel; given = r.words % repeats; raw = size * r.words })
behind_stream w b t raw n r h l size repeats es er few =
    let room : w.spot.edge.raw + size * r.words ≤ 16777216 = subst (λ z. w.spot.edge.raw + z * r.words ≤ 16777216) (sym es) h.room in
    let g : r.words % repeats < repeats = mod-lt r.words (omega (arith, h.repeats, er)) in
    record {
      limit = w.limit;
      place = omega (arith, h.place, l);
      head = w.head;
      fields = omega (arith, w.fields, h.from);
      sections = w.sections;
      raw = room;
      turn = w.turn;
      given = omega (arith, g, few);
    }

-- where the writer, the buffer and the table are then
pub record Left (s : Spot) (b : List ℕ) (t : List Channel) (raw : List ℕ) (r : Stream) (size repeats : ℕ) (row : Channel) : Type 0 where
  pub state : record { edge = s.edge; at = record { bits = r.at }; rows = s.rows; channel = s.channel; given = r.words % repeats; raw = size * r.words } ≡ (poured s b t raw).spot
  pub bytes : r.bytes ≡ (poured s b t raw).bytes
  pub table : set t 0 row ≡ (poured s b t raw).table

leaves : (s : Spot) (b : List ℕ) (t : List Channel) (raw : List ℕ) (n : ℕ) (r : Stream) → Opened s b t → length t ≡ 1 → Streams s b t raw n r → (size repeats : ℕ) (row : Channel) → size ≡ row_bytes (get_or t 0 no_row) → repeats ≡ (get_or t 0 no_row).settings.repeats → row ≡ remembering (get_or t 0 no_row) r.memory → Left s b t raw r size repeats row
leaves s b t raw n r o one h size repeats row es er ew =
    let c : Channel = get_or t 0 no_row in
    let at : ℕ → ℕ → ℕ → ℕ → Spot = λ rows channel given bytes. record { edge = s.edge; at = record { bits = r.at }; rows = rows; channel = channel; given = given; raw = bytes } in
    record {
      state =
          ap (λ z. at z s.channel (r.words % repeats) (size * r.words)) (sym o.rows ∙ one)
          ∙ ap (λ z. at 1 z (r.words % repeats) (size * r.words)) o.channel
          ∙ ap (λ z. alone s.edge r.at (r.words % repeats) (z * r.words)) es
          ∙ ap (λ z. alone s.edge r.at (r.words % z) (row_bytes c * r.words)) er
          ∙ ap (λ z. alone s.edge r.at z (row_bytes c * r.words)) (sym h.given)
          ∙ ap (alone s.edge r.at _) (omega arith)
          ∙ sym (ap (λ (p : Putting). p.spot) h.puts);
      bytes = sym (ap (λ (p : Putting). p.bytes) h.puts);
      table = ap (λ z. set z 0 row) h.table ∙ ap (λ z. z ∷ []) ew ∙ sym (ap (λ (p : Putting). p.table) h.puts);
    }

-- the answer, by the first of three faults
worded : (s : Spot) (b : List ℕ) (t : List Channel) (raw : List ℕ) (n : ℕ) (r : Stream) → Streams s b t raw n r → (f : Option Kind) → r.fault ≡ option_map number_of f → (size : ℕ) → size ≡ row_bytes (get_or t 0 no_row) → (o : Option Kind) →
    o ≡ option_or (option_or f (then_some (ltb n (length raw / size)) OverLimit)) (then_some (not (eqb (length raw % size) 0)) PartialWord) →
    poured_result (poured s b t raw) (cut_short (settings t) raw) ≡ answer (option_map (λ k. (number_of k, r.at)) o) (r.at - s.at.bits) (λ x. x)
worded s b t raw n r h f ef size es o eo =
    let more = ltb n (length raw / size) in
    let cut = not (eqb (length raw % size) 0) in
    told-by s b t raw n r h (option_map number_of f) more cut ef (ap (λ z. ltb n (length raw / z)) (sym es)) (ap (λ z. not (eqb (length raw % z) 0)) (sym es))
    ∙ first-fault f more cut r.at s.at.bits
    ∙ ap (λ z. answer (option_map (λ k. (number_of k, r.at)) z) (r.at - s.at.bits) (λ x. x)) (sym eo)

pub overflow_cast-words : goal.overflow_cast-words
overflow_cast-words c =
    let h = streams c.args.self.now c.args.buffer.now c.args.table.now c.args.raw.now c.requires.opened c.requires.single c.in_ok-coder.coder c.coder.result c.word_bytes-size.result c.min-count.result c.memory.result
    (told c.put_stream-streamed.result c.put_stream-streamed.new.buffer) c.in_ok-coder.ensures.ok_part c.coder.ensures c.word_bytes-size.ensures.bytes c.min-count.ensures c.memory.ensures c.put_stream-streamed.ensures in
    record { fits = omega (arith, h.words, few (row_bytes (get_or c.args.table.now 0 no_row)) c.put_stream-streamed.result.words c.args.self.now.spot.edge.raw h.some h.room) }

pub overflow_mul-self : goal.overflow_mul-self
overflow_mul-self c =
    let h = streams c.args.self.now c.args.buffer.now c.args.table.now c.args.raw.now c.requires.opened c.requires.single c.in_ok-coder.coder c.coder.result c.word_bytes-size.result c.min-count.result c.memory.result
    (told c.put_stream-streamed.result c.put_stream-streamed.new.buffer) c.in_ok-coder.ensures.ok_part c.coder.ensures c.word_bytes-size.ensures.bytes c.min-count.ensures c.memory.ensures c.put_stream-streamed.ensures in
    record { fits = bound c.word_bytes-size.result (row_bytes (get_or c.args.table.now 0 no_row)) c.put_stream-streamed.result.words c.args.self.now.spot.edge.raw c.word_bytes-size.ensures.bytes h.room }

pub overflow_sub-result : goal.overflow_sub-result
overflow_sub-result c =
    let h = streams c.args.self.now c.args.buffer.now c.args.table.now c.args.raw.now c.requires.opened c.requires.single c.in_ok-coder.coder c.coder.result c.word_bytes-size.result c.min-count.result c.memory.result
    (told c.put_stream-streamed.result c.put_stream-streamed.new.buffer) c.in_ok-coder.ensures.ok_part c.coder.ensures c.word_bytes-size.ensures.bytes c.min-count.ensures c.memory.ensures c.put_stream-streamed.ensures in
    omega (arith, h.from, c.bits.ensures, c.bits-in-None.ensures)

pub invariant_of-self : goal.invariant_of-self
invariant_of-self c =
    let h = streams c.args.self.now c.args.buffer.now c.args.table.now c.args.raw.now c.requires.opened c.requires.single c.in_ok-coder.coder c.coder.result c.word_bytes-size.result c.min-count.result c.memory.result
    (told c.put_stream-streamed.result c.put_stream-streamed.new.buffer) c.in_ok-coder.ensures.ok_part c.coder.ensures c.word_bytes-size.ensures.bytes c.min-count.ensures c.memory.ensures c.put_stream-streamed.ensures in
    let x = behind_stream c.args.self.now c.args.buffer.now c.args.table.now c.args.raw.now c.min-count.result (told c.put_stream-streamed.result c.put_stream-streamed.new.buffer) h c.requires.opened.len c.word_bytes-size.result c.repeats.result
    c.word_bytes-size.ensures.bytes c.repeats.ensures (omega (arith, c.repeats.type_inv)) in
    record { limit = x.limit; place = x.place; head = x.head; fields = x.fields; sections = x.sections; raw = x.raw; turn = x.turn; given = x.given }

pub returns-in-Some : goal.returns-in-Some
returns-in-Some c =
    let raw : List ℕ = c.args.raw.now in
    let size : ℕ = c.word_bytes-size.result in
    let n : ℕ = c.min-count.result in
    let r : Stream = told c.put_stream-streamed.result c.put_stream-streamed.new.buffer in
    let h = streams c.args.self.now c.args.buffer.now c.args.table.now c.args.raw.now c.requires.opened c.requires.single c.in_ok-coder.coder c.coder.result c.word_bytes-size.result c.min-count.result c.memory.result
    (told c.put_stream-streamed.result c.put_stream-streamed.new.buffer) c.in_ok-coder.ensures.ok_part c.coder.ensures c.word_bytes-size.ensures.bytes c.min-count.ensures c.memory.ensures c.put_stream-streamed.ensures in
    let v = leaves c.args.self.now.spot c.args.buffer.now c.args.table.now c.args.raw.now c.min-count.result r c.requires.opened c.requires.single h c.word_bytes-size.result c.repeats.result c.remembering.result c.word_bytes-size.ensures.bytes c.repeats.ensures c.remembering.ensures in
    let w = worded c.args.self.now.spot c.args.buffer.now c.args.table.now raw n r h c.put_stream-streamed.result.fault refl size c.word_bytes-size.ensures.bytes c.or-2.result (cc (c.or-2.ensures, c.or.ensures, c.then_some-more.ensures, c.then_some-cut.ensures)) in
    let told_by = λ (o : Option Kind). answer {E = Trouble} (option_map (λ k. (number_of k, r.at)) o) (r.at - c.args.self.now.spot.at.bits) (λ x. x) in
    record { answer = ap (λ f. Err (trouble f)) c.at-in-Some.ensures ∙ sym (w ∙ ap told_by c.in-Some.is); state = v.state; left = v.bytes; rows = v.table }

pub returns-in-None : goal.returns-in-None
returns-in-None c =
    let raw : List ℕ = c.args.raw.now in
    let size : ℕ = c.word_bytes-size.result in
    let n : ℕ = c.min-count.result in
    let r : Stream = told c.put_stream-streamed.result c.put_stream-streamed.new.buffer in
    let h = streams c.args.self.now c.args.buffer.now c.args.table.now c.args.raw.now c.requires.opened c.requires.single c.in_ok-coder.coder c.coder.result c.word_bytes-size.result c.min-count.result c.memory.result
    (told c.put_stream-streamed.result c.put_stream-streamed.new.buffer) c.in_ok-coder.ensures.ok_part c.coder.ensures c.word_bytes-size.ensures.bytes c.min-count.ensures c.memory.ensures c.put_stream-streamed.ensures in
    let v = leaves c.args.self.now.spot c.args.buffer.now c.args.table.now c.args.raw.now c.min-count.result r c.requires.opened c.requires.single h c.word_bytes-size.result c.repeats.result c.remembering.result c.word_bytes-size.ensures.bytes c.repeats.ensures c.remembering.ensures in
    let w = worded c.args.self.now.spot c.args.buffer.now c.args.table.now raw n r h c.put_stream-streamed.result.fault refl size c.word_bytes-size.ensures.bytes c.or-2.result (cc (c.or-2.ensures, c.or.ensures, c.then_some-more.ensures, c.then_some-cut.ensures)) in
    let told_by = λ (o : Option Kind). answer {E = Trouble} (option_map (λ k. (number_of k, r.at)) o) (r.at - c.args.self.now.spot.at.bits) (λ x. x) in
    record { answer = ap (λ n. Ok (n - c.bits-in-None.result)) c.bits.ensures ∙ ap (λ n. Ok (r.at - n)) c.bits-in-None.ensures ∙ sym (w ∙ ap told_by c.in-None.is); state = v.state; left = v.bytes; rows = v.table }
