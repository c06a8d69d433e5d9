-- What the writer's answers say, as numbers and plain states.
use Rattle.std.specs.Prelude.{ℕ, Result}
use Rattle.std.specs.Result.{result_map_both}
use Rattle.faults.specs.declared.kind.Fault.{Fault}
use Rattle.faults.specs.Faults.{number_of}
use Rattle.state.specs.declared.Edge.{Edge}
use Rattle.state.specs.declared.Spot.{Spot}
use Rattle.calls.specs.Calls.{Trouble}
use Rattle.writer.specs.declared.states.Between.{Between}
use Rattle.writer.specs.declared.states.Inside.{Inside}
use Rattle.writer.specs.declared.states.Ended.{Ended}
use Rattle.writer.specs.declared.states.Refused.{Refused}
use Rattle.writer.specs.declared.states.Filled.{Filled}

-- a fault by its number and its place
abbrev pub trouble : Fault → Trouble
trouble f = (number_of f.kind, f.place.bits)

-- a writer that comes back with a fault
abbrev pub denied : Refused Between → Edge × Trouble
denied d = (d.writer.edge, trouble d.fault)

abbrev pub refused : Refused Inside → Spot × Trouble
refused d = (d.writer.spot, trouble d.fault)

-- ## The answers of the calls

abbrev pub begun : Result Between Fault → Result Edge Trouble
begun r = result_map_both (λ (w : Between). w.edge) trouble r

abbrev pub opened : Result Inside (Refused Between) → Result Spot (Edge × Trouble)
opened r = result_map_both (λ (w : Inside). w.spot) denied r

abbrev pub put : Result ℕ Fault → Result ℕ Trouble
put r = result_map_both (λ n. n) trouble r

abbrev pub closed : Result Between (Refused Inside) → Result Edge (Spot × Trouble)
closed r = result_map_both (λ (w : Between). w.edge) refused r

abbrev pub ended : Result Ended (Refused Inside) → Result ℕ (Spot × Trouble)
ended r = result_map_both (λ (w : Ended). w.size) refused r

abbrev pub filled : Result Filled (Refused Between) → Result (ℕ × Spot) (Edge × Trouble)
filled r = result_map_both (λ (f : Filled). (f.bits, f.writer.spot)) denied r
