use Rattle.std.proofs.Common.{◌≡◌, ℕ, List, None, Ok, Err, refl}
use Rattle.channel.specs.declared.record.Channel.{Channel}
use Rattle.state.specs.declared.Edge.{Edge}
use Rattle.calls.specs.Calls.{begin_result, begin_bytes}
use Rattle.writer.specs.Answers.{filled}
use Rattle.fill_bench.specs.Files.{halves, sized_only}
use Rattle.fill_bench.proofs.Rows.{fills}
use Rattle.fill_bench.proofs.fill_halves.Goals as goal

pub returns-in-Ok-fill : goal.returns-in-Ok-fill
returns-in-Ok-fill c =
    let s : Channel = halves c.args.delta c.args.turn c.args.algorithm c.args.narrow c.args.value in
    let b : List ℕ = c.args.buffer.now in
    let e : Edge = c.in-Ok-begin.between.edge in
    let a : Ok e ≡ begin_result 0 sized_only None None b = c.in-Ok-begin.ensures.answer in
    let w : c.begin.new.buffer ≡ begin_bytes 0 sized_only None None b = c.begin.ensures.bytes in
    let (n, r) = fills s c.in-Ok.row c.in-Ok.ensures refl c.args.raw.now b c.begin.new.buffer c.fill.new.buffer e a w (filled (Ok c.in-Ok-fill.field-0)) c.in-Ok-fill.ensures.answer c.fill.ensures.bytes in
    record { bits = n; bytes = r }

pub returns-in-Err : goal.returns-in-Err
returns-in-Err c =
    let s : Channel = halves c.args.delta c.args.turn c.args.algorithm c.args.narrow c.args.value in
    let b : List ℕ = c.args.buffer.now in
    let e : Edge = c.in-Ok-begin.between.edge in
    let a : Ok e ≡ begin_result 0 sized_only None None b = c.in-Ok-begin.ensures.answer in
    let w : c.begin.new.buffer ≡ begin_bytes 0 sized_only None None b = c.begin.ensures.bytes in
    let (n, r) = fills s c.in-Ok.row c.in-Ok.ensures refl c.args.raw.now b c.begin.new.buffer c.fill.new.buffer e a w (filled (Err c.in-Err.field-0)) c.in-Err.ensures.answer c.fill.ensures.bytes in
    record { bits = n; bytes = r }
