-- A file's head and its first section, of one channel of 16-bit words.
use Rattle.std.specs.Prelude.{ℕ, true, false, cond, List, [], ◌∷◌, None, Ok, Err, Result, ◌==◌}
use Rattle.layout.specs.Channels.{ruled}
use Rattle.channel.specs.declared.record.Channel.{Channel}
use Rattle.channel.specs.Records.{settings_of}
use Rattle.state.specs.declared.Flags.{Flags}
use Rattle.state.specs.declared.Edge.{Edge}
use Rattle.state.specs.declared.Spot.{Spot}
use Rattle.calls.specs.Calls.{Trouble, begin_result, begin_bytes, fill_result, fill_bytes}

-- a row at its starting memory
abbrev pub halves : ℕ → ℕ → ℕ → ℕ → ℕ → Channel
halves delta turn algorithm narrow value = record {
  settings = record { repeats = 1; delta = (delta == 1); turn = turn; algorithm = algorithm; kind = 3; narrow = narrow; value = value };
  memory = 0;
}

abbrev pub sized_only : Flags
sized_only = record { sized = true; pointed = false; single = false; unrepeated = false }

-- how many bits the words take, and 0 behind a fault
abbrev pub sum : Result (ℕ × Spot) (Edge × Trouble) → ℕ
sum (Ok a) = a.0
sum (Err f) = 0

-- behind a begin that was answered so
abbrev pub sum_behind : Result Edge Trouble → Channel → List ℕ → List ℕ → ℕ
sum_behind (Ok e) c raw b = sum (fill_result e b (c ∷ []) raw)
sum_behind (Err f) c raw b = 0

abbrev pub bytes_behind : Result Edge Trouble → Channel → List ℕ → List ℕ → List ℕ
bytes_behind (Ok e) c raw b = fill_bytes e b (c ∷ []) raw
bytes_behind (Err f) c raw b = b

-- nothing is begun where the settings do not keep the rules
abbrev pub filled_bits : Channel → List ℕ → List ℕ → ℕ
filled_bits c raw b = cond (ruled (settings_of c)) (sum_behind (begin_result 0 sized_only None None b) c raw (begin_bytes 0 sized_only None None b)) 0

abbrev pub filled_bytes : Channel → List ℕ → List ℕ → List ℕ
filled_bytes c raw b = cond (ruled (settings_of c)) (bytes_behind (begin_result 0 sized_only None None b) c raw (begin_bytes 0 sized_only None None b)) b
