use Rattle.std.proofs.Common.{◌≡◌, ℕ, Bool, List, length, set, Some, None, Ok, Err, Option, sym, ap, ◌∙◌, arith, rules}
use Rattle.bits.specs.Bits.{put_bits}
use Rattle.forms.specs.Coding.{Coding, encoded}
use Rattle.faults.specs.Faults.{gives, fault, number_of}
use Rattle.coder.specs.Steps.{laid, laid_bytes}
use Rattle.layout.specs.Channels.{pile}
use Rattle.channel.specs.declared.record.Channel.{Channel}
use Rattle.channel.specs.Records.{settings_of, remembering}
use Rattle.channel.specs.Words.{kept_put}
use Rattle.channel.specs.Piles.{coder_coding}
use Rattle.state.specs.declared.Spot.{Spot}
use Rattle.calls.specs.Calls.{Trouble, answer, unless, next_row, coded, form_in, memory_of, putting, moved_on}
use Rattle.writer.specs.Answers.{put}
use Rattle.writer.proofs.Putting.{form_put, form_refused, form-decides, coded_by}
use Rattle.writer.proofs.Bounds.{behind-word}
use Rattle.writer.proofs.states.Inside.put.Goals as goal

-- the coder's answer is about the row's form
by_row : {A : Type 0} (F : Option (List Bool × (ℕ × Unit {0})) → A) (C : Coding (ℕ × Unit {0})) (r : Channel) (m w : ℕ) → C ≡ pile (settings_of r) → m ≡ r.memory → F (encoded C (m, tt) w) ≡ F (coded r w)
by_row F C r m w e i = ap (λ z. F (encoded z (m, tt) w)) e ∙ ap (λ z. F (encoded (pile (settings_of r)) (z, tt) w)) i

pub returns-in_err-put : goal.returns-in_err-put
returns-in_err-put c =
    let s : Spot = c.args.self.now.spot in
    let b : List ℕ = c.args.buffer.now in
    let t : List Channel = c.args.table.now in
    let w : ℕ = c.args.word in
    let r : Channel = next_row s t in
    let n : ℕ = number_of c.in_err-put.field-0.0.kind in
    let p : ℕ = c.in_err-put.field-0.0.place.bits in
    let k = coded_by r c.in_ok-coder.coder c.coder.result c.in_ok-coder.ensures.ok_part c.coder.ensures in
    let C : Coding (ℕ × Unit {0}) = coder_coding c.in_ok-coder.coder in
    let a : fault n p ≡ kept_put (laid s.at.bits (length b) (coded r w)) = c.in_err-put.ensures.answer ∙ by_row (λ f. kept_put (laid s.at.bits (length b) f)) C r c.memory.result w k.1 c.memory.ensures in
    let f = form_refused s.at.bits b n p (coded r w) a in
    let d : putting s b t w ≡ Some (n, p) = form-decides s (length b) (length t) r (coded r w) (sym c.if-is_strange.ensures) k.0 (omega (arith, c.word_bytes.ensures.bytes, c.if-spot-word_bytes-gt-MOST_RAW.false)) ∙ f.fault in
    let y : c.put.new.buffer ≡ b = c.in_err-put.ensures.bytes ∙ by_row (laid_bytes s.at.bits b) C r c.memory.result w k.1 c.memory.ensures ∙ f.bytes in
    let v : put c.from_residual-in_err-put.result ≡ Err (n, p) = search rules in
    record {
      answer = v ∙ sym (ap (λ o. answer {A = ℕ} {E = Trouble} o (length (form_in (coded r w))) (λ f. f)) d);
      state = sym (ap (λ o. unless o s (moved_on s r (length (form_in (coded r w))))) d);
      bytes = y ∙ sym (ap (λ o. unless o b (put_bits b s.at.bits (form_in (coded r w)))) d);
      table = sym (ap (λ o. unless o t (set t s.channel (remembering r (memory_of (coded r w))))) d);
    }

pub invariant_of-self : goal.invariant_of-self
invariant_of-self c =
    let s : Spot = c.args.self.now.spot in
    let b : List ℕ = c.args.buffer.now in
    let t : List Channel = c.args.table.now in
    let r : Channel = next_row s t in
    let n : ℕ = c.in_ok-put.put.len in
    let m : ℕ = c.in_ok-put.put.next in
    let k = coded_by r c.in_ok-coder.coder c.coder.result c.in_ok-coder.ensures.ok_part c.coder.ensures in
    let C : Coding (ℕ × Unit {0}) = coder_coding c.in_ok-coder.coder in
    let a : gives (n, m) ≡ kept_put (laid s.at.bits (length b) (coded r c.args.word)) = c.in_ok-put.ensures.answer ∙ by_row (λ f. kept_put (laid s.at.bits (length b) f)) C r c.memory.result c.args.word k.1 c.memory.ensures in
    let f = form_put s.at.bits b n m (coded r c.args.word) a in
    let x = behind-word c.args.self.now r n c.moved_on-self.result c.moved_on-self.ensures.value (length b) (length t) (sym c.if-is_strange.ensures) f.room (omega (arith, c.word_bytes.ensures.bytes, c.if-spot-word_bytes-gt-MOST_RAW.false)) c.moved_on-self.ensures.turn c.moved_on-self.ensures.given in
    record { limit = x.limit; place = x.place; head = x.head; fields = x.fields; sections = x.sections; raw = x.raw; turn = x.turn; given = x.given }

pub returns : goal.returns
returns c =
    let s : Spot = c.args.self.now.spot in
    let b : List ℕ = c.args.buffer.now in
    let t : List Channel = c.args.table.now in
    let w : ℕ = c.args.word in
    let r : Channel = next_row s t in
    let n : ℕ = c.in_ok-put.put.len in
    let m : ℕ = c.in_ok-put.put.next in
    let k = coded_by r c.in_ok-coder.coder c.coder.result c.in_ok-coder.ensures.ok_part c.coder.ensures in
    let C : Coding (ℕ × Unit {0}) = coder_coding c.in_ok-coder.coder in
    let a : gives (n, m) ≡ kept_put (laid s.at.bits (length b) (coded r w)) = c.in_ok-put.ensures.answer ∙ by_row (λ f. kept_put (laid s.at.bits (length b) f)) C r c.memory.result w k.1 c.memory.ensures in
    let f = form_put s.at.bits b n m (coded r w) a in
    let d : putting s b t w ≡ None = form-decides s (length b) (length t) r (coded r w) (sym c.if-is_strange.ensures) k.0 (omega (arith, c.word_bytes.ensures.bytes, c.if-spot-word_bytes-gt-MOST_RAW.false)) ∙ f.fault in
    let y : c.put.new.buffer ≡ put_bits b s.at.bits (form_in (coded r w)) = c.in_ok-put.ensures.bytes ∙ by_row (laid_bytes s.at.bits b) C r c.memory.result w k.1 c.memory.ensures ∙ f.bytes in
    let v : c.remembering.result ≡ remembering r (memory_of (coded r w)) = c.remembering.ensures ∙ ap (remembering r) f.memory in
    record {
      answer = ap Ok f.length ∙ sym (ap (λ o. answer {A = ℕ} {E = Trouble} o (length (form_in (coded r w))) (λ f. f)) d);
      state = c.moved_on-self.ensures.value ∙ ap (moved_on s r) f.length ∙ sym (ap (λ o. unless o s (moved_on s r (length (form_in (coded r w))))) d);
      bytes = y ∙ sym (ap (λ o. unless o b (put_bits b s.at.bits (form_in (coded r w)))) d);
      table = ap (set t s.channel) v ∙ sym (ap (λ o. unless o t (set t s.channel (remembering r (memory_of (coded r w))))) d);
    }
