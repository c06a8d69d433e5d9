use Rattle.std.proofs.Common.{◌≡◌, ℕ, Bool, List, map, length, Some, None, Ok, Err, Result, sym, refl, ap, ◌∙◌, rules}
use Rattle.bits.specs.Bits.{put_bits, cleared_from}
use Rattle.layout.specs.Slim.{recorded}
use Rattle.channel.specs.declared.record.Channel.{Channel}
use Rattle.channel.specs.Records.{rested}
use Rattle.state.specs.declared.Edge.{Edge}
use Rattle.state.specs.declared.Spot.{Spot}
use Rattle.calls.specs.Calls as calls
use Rattle.calls.specs.Calls.{Trouble, unless, settings, start, section, open_spot, describable, Putting, fill_puts, cut_short, later_fault}
use Rattle.calls.proofs.Keeping.{settings-rested}
use Rattle.writer.specs.declared.states.Between.{Between}
use Rattle.writer.specs.Answers.{trouble, denied, filled}
use Rattle.writer.specs.Filling.{poured_result, poured_bytes}
use Rattle.writer.proofs.Filling.{met, met-none, passed, same-puts, fill-edge, fills-by}
use Rattle.writer.proofs.states.Between.fill.Goals as goal

pub returns-in_err-inside : goal.returns-in_err-inside
returns-in_err-inside c =
    let e : Edge = c.args.self.edge in
    let b : List ℕ = c.args.buffer.now in
    let t : List Channel = c.args.table.now in
    let raw : List ℕ = c.args.raw.now in
    let (f, (o, x)) = met (λ f. (e, f)) (open_spot e (section e t) (length t)) (calls.opening e b t) _ c.in_err-inside.ensures.answer in
    let r = fills-by e b t raw (Some f) (later_fault (fill_puts e b t raw) (cut_short (settings t) raw)) o refl in
    let a : filled c.from_residual.result ≡ Err (denied c.in_err-inside.field-0.0) = search rules in
    record {
      answer = a ∙ ap {B = Result (ℕ × Spot) (Edge × Trouble)} (λ z. Err z) x ∙ r.answers;
      bytes = c.open.ensures.bytes ∙ ap (λ z. unless z b (put_bits b (start e) (section e t))) o ∙ r.writes;
      table = c.open.ensures.table ∙ ap (λ z. unless z t (map rested t)) o ∙ r.rows;
    }

pub pour-requires : goal.pour-requires
pour-requires c =
    let e : Edge = c.args.self.edge in
    let b : List ℕ = c.args.buffer.now in
    let t : List Channel = c.args.table.now in
    let (o, s) = met-none (λ f. (e, f)) (open_spot e (section e t) (length t)) c.in_ok-inside.inside.spot (calls.opening e b t) c.in_ok-inside.ensures.answer in
    let (l, d) = passed e b t o in
    let u : c.open.new.table ≡ map rested t = c.open.ensures.table ∙ ap (λ z. unless z t (map rested t)) o in
    let kept : Bool = recorded (calls.flags e.flags) (length (settings t)) in
    record {
      channel = ap (λ (z : Spot). z.channel) s;
      given = ap (λ (z : Spot). z.given) s;
      raw = ap (λ (z : Spot). z.raw) s;
      len = c.open.auto.buffer ∙ l ∙ sym (ap (λ (z : Spot). z.edge.len) s);
      rows = c.open.auto.table ∙ sym (ap (λ (z : Spot). z.rows) s);
      kept = kept;
      rules = ap (λ z. describable kept (settings z)) u ∙ ap (describable kept) (settings-rested t) ∙ d;
    }

pub returns-in-Ok : goal.returns-in-Ok
returns-in-Ok c =
    let e : Edge = c.args.self.edge in
    let b : List ℕ = c.args.buffer.now in
    let t : List Channel = c.args.table.now in
    let raw : List ℕ = c.args.raw.now in
    let (o, s) = met-none (λ f. (e, f)) (open_spot e (section e t) (length t)) c.in_ok-inside.inside.spot (calls.opening e b t) c.in_ok-inside.ensures.answer in
    let (q, k) = same-puts e b t raw c.in_ok-inside.inside.spot c.open.new.buffer c.open.new.table s c.open.ensures.bytes c.open.ensures.table o in
    let p : Putting = fill_puts e b t raw in
    let cut : Bool = cut_short (settings t) raw in
    let a : Ok c.in-Ok.bits ≡ poured_result p cut = c.in-Ok.ensures.answer ∙ ap (λ z. poured_result z (cut_short (settings c.open.new.table) raw)) q ∙ ap (poured_result p) k in
    let (l, n) = met-none (λ f. f) p.sum c.in-Ok.bits (later_fault p cut) a in
    let r = fills-by e b t raw None None o l in
    let z : c.pour.new.self.spot ≡ p.spot = c.pour.ensures.state ∙ ap (λ (z : Putting). z.spot) q in
    let w : c.pour.new.buffer ≡ poured_bytes p cut (start c.in_ok-inside.inside.spot.edge) = c.pour.ensures.bytes ∙ ap (λ z. poured_bytes z (cut_short (settings c.open.new.table) raw) (start c.in_ok-inside.inside.spot.edge)) q ∙ ap (λ z. poured_bytes p z (start c.in_ok-inside.inside.spot.edge)) k in
    record {
      answer = ap {B = Result (ℕ × Spot) (Edge × Trouble)} (λ z. Ok (z, c.pour.new.self.spot)) n ∙ ap (λ z. Ok (p.sum, z)) z ∙ r.answers;
      bytes = w ∙ ap (λ z. unless z (cleared_from p.bytes (start c.in_ok-inside.inside.spot.edge)) p.bytes) l ∙ r.writes;
      table = c.pour.ensures.table ∙ ap (λ (z : Putting). z.table) q ∙ r.rows;
    }

pub returns-in-Err : goal.returns-in-Err
returns-in-Err c =
    let e : Edge = c.args.self.edge in
    let b : List ℕ = c.args.buffer.now in
    let t : List Channel = c.args.table.now in
    let raw : List ℕ = c.args.raw.now in
    let (o, s) = met-none (λ f. (e, f)) (open_spot e (section e t) (length t)) c.in_ok-inside.inside.spot (calls.opening e b t) c.in_ok-inside.ensures.answer in
    let (q, k) = same-puts e b t raw c.in_ok-inside.inside.spot c.open.new.buffer c.open.new.table s c.open.ensures.bytes c.open.ensures.table o in
    let p : Putting = fill_puts e b t raw in
    let cut : Bool = cut_short (settings t) raw in
    let a : Err (trouble c.in-Err.fault) ≡ poured_result p cut = c.in-Err.ensures.answer ∙ ap (λ z. poured_result z (cut_short (settings c.open.new.table) raw)) q ∙ ap (poured_result p) k in
    let (f, (l, n)) = met (λ f. f) p.sum (later_fault p cut) (trouble c.in-Err.fault) a in
    let r = fills-by e b t raw None (Some f) o l in
    let i : c.new.result.writer.edge ≡ e = ap (λ (z : Between). z.edge) c.new.ensures.writer ∙ c.edge_of.ensures ∙ ap (λ (z : Spot). z.edge) (c.pour.ensures.state ∙ ap (λ (z : Putting). z.spot) q) ∙ fill-edge e b t raw in
    let j : c.in_ok-inside.inside.spot.edge ≡ e = ap (λ (z : Spot). z.edge) s in
    let w : c.pour.new.buffer ≡ poured_bytes p cut (start c.in_ok-inside.inside.spot.edge) = c.pour.ensures.bytes ∙ ap (λ z. poured_bytes z (cut_short (settings c.open.new.table) raw) (start c.in_ok-inside.inside.spot.edge)) q ∙ ap (λ z. poured_bytes p z (start c.in_ok-inside.inside.spot.edge)) k in
    record {
      answer = ap {B = Result (ℕ × Spot) (Edge × Trouble)} (λ z. Err (z, trouble c.new.result.fault)) i ∙ ap (λ z. Err (e, z)) (ap trouble c.new.ensures.fault ∙ n) ∙ r.answers;
      bytes = w ∙ ap (λ z. unless z (cleared_from p.bytes (start c.in_ok-inside.inside.spot.edge)) p.bytes) l ∙ ap (λ z. cleared_from p.bytes (start z)) j ∙ r.writes;
      table = c.rest.ensures ∙ ap (map rested) (c.pour.ensures.table ∙ ap (λ (z : Putting). z.table) q) ∙ r.rows;
    }
