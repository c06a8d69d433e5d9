use Rattle.std.proofs.Common.{◌≡◌, ℕ, false, ltb, List, [], ◌∷◌, length, None, Ok, Err, ◌∙◌, arith, rules}
use Rattle.std.proofs.lemmas.Bool.{le-ltb}
use Rattle.bits.proofs.Places.{Bytes-from}
use Rattle.state.specs.declared.Edge.{Edge}
use Rattle.calls.specs.Calls.{begin_result, begin_bytes}
use Rattle.writer.specs.Answers.{put, trouble}
use Rattle.slim_file.specs.Files.{sized_only}
use Rattle.slim_file.proofs.Recording.{rows_made, fill-refused, answered, recorded}
use Rattle.slim_file.proofs.recorder.record_bytes.Goals as goal

pub returns : goal.returns
returns c =
    let raw : List ℕ = c.args.raw.now in
    let b : List ℕ = c.args.buffer.now in
    let e : Edge = c.in_ok-between.between.edge in
    let a : Ok e ≡ begin_result 0 sized_only None None b = c.in_ok-between.ensures.answer in
    let w : c.begin.new.buffer ≡ begin_bytes 0 sized_only None None b = c.begin.ensures.bytes in
    let r = rows_made c.in_ok-channel.field-0 c.in_ok-channel.ensures in
    let l : ltb 32768 (length raw) ≡ false = le-ltb 32768 (length raw) (omega (arith, c.if-raw-gt-MOST_RAW.false)) in
    record {
      answer = answered raw b c.begin.new.buffer c.fill.new.buffer (c.in_ok-channel.field-0 ∷ []) c.fill.new.table e c.in_ok-inside.inside.spot (put c.end.result)
          l a w r c.in_ok-inside.ensures.answer c.fill.ensures.bytes c.fill.ensures.table c.end.ensures.answer;
      file = recorded raw b c.begin.new.buffer c.fill.new.buffer c.end.new.buffer (c.in_ok-channel.field-0 ∷ []) c.fill.new.table e c.in_ok-inside.inside.spot
          (Bytes-from raw (λ i. (c.type_inv.raw i).fits)) a w r c.in_ok-inside.ensures.answer c.fill.ensures.bytes c.fill.ensures.table c.end.result c.end.ensures.answer c.end.ensures.bytes c.end.auto.buffer;
    }

pub returns-in_err-inside-clause-answer : goal.returns-in_err-inside-clause-answer
returns-in_err-inside-clause-answer c =
    let raw : List ℕ = c.args.raw.now in
    let b : List ℕ = c.args.buffer.now in
    let e : Edge = c.in_ok-between.between.edge in
    let a : Ok e ≡ begin_result 0 sized_only None None b = c.in_ok-between.ensures.answer in
    let w : c.begin.new.buffer ≡ begin_bytes 0 sized_only None None b = c.begin.ensures.bytes in
    let r = rows_made c.in_ok-channel.field-0 c.in_ok-channel.ensures in
    let l : ltb 32768 (length raw) ≡ false = le-ltb 32768 (length raw) (omega (arith, c.if-raw-gt-MOST_RAW.false)) in
    let v : put c.from_residual-in_err-inside.result ≡ Err (trouble c.in_err-inside.field-0.0) = search rules in
    v ∙ fill-refused raw b c.begin.new.buffer (c.in_ok-channel.field-0 ∷ []) e (trouble c.in_err-inside.field-0.0) l a w r c.in_err-inside.ensures.answer
