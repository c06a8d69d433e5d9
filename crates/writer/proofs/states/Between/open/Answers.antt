use Rattle.std.proofs.Common.{ℕ, ◌+◌, ◌*◌, List, length, sym, arith}
use Rattle.channel.specs.declared.record.Channel.{Channel}
use Rattle.state.specs.declared.Edge.{Edge}
use Rattle.openings.specs.Openings.{openable, opening}
use Rattle.writer.proofs.Begun.{placed}
use Rattle.writer.proofs.Opening.{section-least, fits-within, at_least_one}
use Rattle.writer.proofs.states.Between.open.Goals as goal

pub invariant_of-result-clause-place : goal.invariant_of-result-clause-place
invariant_of-result-clause-place c =
    let e : Edge = c.args.self.edge in
    let t : List Channel = c.args.table.now in
    let n : ℕ = length c.args.buffer.now in
    let (y, p) = placed (openable n e.at.bytes e.flags t) c.in-Some.at.bits (8 * e.at.bytes + length (opening e.flags t)) c.in-Some.ensures.place in
    omega (arith, p, fits-within n e.at.bytes e.flags t y, c.if-buffer-edge.false)

pub invariant_of-result-clause-fields : goal.invariant_of-result-clause-fields
invariant_of-result-clause-fields c =
    let e : Edge = c.args.self.edge in
    let t : List Channel = c.args.table.now in
    let (y, p) = placed (openable (length c.args.buffer.now) e.at.bytes e.flags t) c.in-Some.at.bits (8 * e.at.bytes + length (opening e.flags t)) c.in-Some.ensures.place in
    omega (arith, p, section-least e t)

pub invariant_of-result-clause-turn : goal.invariant_of-result-clause-turn
invariant_of-result-clause-turn c =
    omega (arith, c.rest.auto.table, at_least_one c.args.self.edge.flags (length c.args.table.now) (sym c.if-is_wrong_count.ensures))
