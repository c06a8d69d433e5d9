use Rattle.std.proofs.Common.{sym, ◌∙◌}
use Rattle.bits.specs.Bits.{bits_of}
use Rattle.format.specs.Cells.{File}
use Rattle.reading.specs.Blocks.{closing_of}
use Rattle.reading.proofs.Looks.{fault-is}
use Rattle.reading.proofs.Steps.{passed}
use Rattle.reader.proofs.Closings.{end-not, end-over, end-fits}
use Rattle.reader.proofs.ends.take_end.Goals as goal

pub returns-in_err-closing : goal.returns-in_err-closing
returns-in_err-closing c l =
    let f : File = bits_of c.args.source.bytes.now in
    passed (closing_of f) _ _ _ c.from_residual.ensures.1 (end-not f c.args.at.bits l c.args.room (c.in_err-closing.ensures l))

pub returns-then-not-room : goal.returns-then-not-room
returns-then-not-room c l =
    fault-is c.at.ensures
    (end-over (bits_of c.args.source.bytes.now) c.args.at.bits l c.args.room c.in_ok-closing.closing.value (c.in_ok-closing.ensures l) (sym c.goes_on.ensures ∙ c.if-goes_on.true) c.if-not-room.true)

pub returns : goal.returns
returns c l =
    end-fits (bits_of c.args.source.bytes.now) c.args.at.bits l c.args.room c.in_ok-closing.closing.value (c.in_ok-closing.ensures l) c.goes_on.ensures c.else-goes_on.either
