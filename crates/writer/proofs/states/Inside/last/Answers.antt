use Rattle.std.proofs.Common.{◌≡◌, ℕ, List, Ok, Result, sym, ◌∙◌, subst, rules}
use Rattle.bits.proofs.Places.{Bytes-from}
use Rattle.channel.specs.declared.record.Channel.{Channel}
use Rattle.state.specs.declared.Spot.{Spot}
use Rattle.calls.specs.Calls.{Trouble, last_result, last_bytes}
use Rattle.calls.specs.Runs.{Recorded, recording, noted, ending}
use Rattle.calls.proofs.Law.{ends_recorded}
use Rattle.writer.proofs.states.Inside.last.Goals as goal

pub returns-clause-recorded : goal.returns-clause-recorded
returns-clause-recorded c =
    let s : Spot = c.args.self.spot in
    let b : List ℕ = c.args.buffer.now in
    let t : List Channel = c.args.table.now in
    let ls : List ℕ = c.args.leftovers.now in
    let v : ◌≡◌ {A = Result ℕ (Spot × Trouble)} (Ok c.bytes.result) (last_result s b t ls) = search rules in
    let w : c.fill_size.new.buffer ≡ last_bytes s b t ls = search rules in
    λ cs nb n r e.
    subst (λ z. Recorded n z (recording (noted nb (ending ls)))) (sym w)
    (ends_recorded s b t ls (Bytes-from ls (λ i. (c.type_inv.leftovers i).fits)) cs nb n r (sym v ∙ e))
