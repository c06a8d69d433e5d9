-- The slim file of raw bytes.
use Rattle.std.specs.Prelude.{ℕ, ◌≤◌, true, false, cond, List, [], ◌∷◌, length, None, Ok, Err, Result, nat_lt}
use Rattle.std.specs.Result.{result_map_both}
use Rattle.layout.specs.Recording as recordings
use Rattle.layout.specs.Recording.{Recording}
use Rattle.channel.specs.declared.record.Channel.{Channel}
use Rattle.faults.specs.declared.kind.Fault.{Fault}
use Rattle.state.specs.declared.Flags.{Flags}
use Rattle.state.specs.declared.Edge.{Edge}
use Rattle.state.specs.declared.Spot.{Spot}
use Rattle.calls.specs.Calls.{Trouble, begin_result, begin_bytes, fill_result, fill_bytes, fill_table, last_result}
use Rattle.calls.specs.Runs.{Recorded}
use Rattle.writer.specs.declared.states.Inside.{Inside}
use Rattle.writer.specs.Answers.{trouble}

-- 8-bit words in reduced binary: R 3, pedestal 10
abbrev pub setting : recordings.Channel
setting = record { repeats = 1; delta = false; turn = 0; algorithm = 1; kind = 7; narrow = 3; value = 10 }

-- the recording of raw bytes: each is a word of the one channel of the one section, and only the size is flagged
abbrev pub recording_of : List ℕ → Recording
recording_of raw = record {
  stamp = 0;
  sized = true;
  pointed = false;
  single = false;
  unrepeated = false;
  name = None;
  extra = None;
  sections = record { channels = setting ∷ []; words = raw } ∷ [];
  leftovers = [];
}

-- an accepted answer is within the buffer, whose first bytes are then the recording's file and read back as the recording
abbrev pub IsRecorded : Result ℕ Fault → List ℕ → List ℕ → Type 0
IsRecorded (Ok n) b raw = (n ≤ length b) × Recorded n b (recording_of raw)
IsRecorded (Err f) b raw = Unit {0}

-- ## The answers, without the writers that come back

abbrev pub spotted : Result Inside Fault → Result Spot Trouble
spotted r = result_map_both (λ (w : Inside). w.spot) trouble r

abbrev pub only_spot : Result (ℕ × Spot) (Edge × Trouble) → Result Spot Trouble
only_spot r = result_map_both (λ (a : ℕ × Spot). a.1) (λ (f : Edge × Trouble). f.1) r

abbrev pub only_size : Result ℕ (Spot × Trouble) → Result ℕ Trouble
only_size r = result_map_both (λ n. n) (λ (f : Spot × Trouble). f.1) r

-- ## What is answered

abbrev pub sized_only : Flags
sized_only = record { sized = true; pointed = false; single = false; unrepeated = false }

abbrev pub rows : List Channel
rows = record { settings = record { repeats = 1; delta = false; turn = 0; algorithm = 1; kind = 7; narrow = 3; value = 10 }; memory = 0 } ∷ []

-- the end, behind a fill that was answered so
abbrev pub end_result : List ℕ → List Channel → Result Spot Trouble → Result ℕ Trouble
end_result b t (Ok s) = only_size (last_result s b t [])
end_result b t (Err f) = Err f

-- the section, behind a begin that was answered so
abbrev pub section_result : List ℕ → List ℕ → Result Edge Trouble → Result ℕ Trouble
section_result raw b (Ok e) = end_result (fill_bytes e b rows raw) (fill_table e b rows raw) (only_spot (fill_result e b rows raw))
section_result raw b (Err f) = Err f

abbrev pub record_result : List ℕ → List ℕ → Result ℕ Trouble
record_result raw b =
    cond (nat_lt 32768 (length raw)) (Err (1, 0))
    (section_result raw (begin_bytes 0 sized_only None None b) (begin_result 0 sized_only None None b))
