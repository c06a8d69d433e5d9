-- What filling a section leaves, behind its opening.
use Rattle.std.specs.Prelude.{◌≡◌, ℕ, Bool, true, cond, List, length, Result}
use Rattle.bits.specs.Bits.{cleared_from}
use Rattle.channel.specs.declared.record.Channel.{Channel}
use Rattle.state.specs.declared.Spot.{Spot}
use Rattle.calls.specs.Calls.{Trouble, Putting, answer, unless, settings, describable, puts, words_of, cut_short, later_fault}

-- what a guard leaves at its end: zeros from a place on, unless the work was complete
abbrev pub guarded : Bool → List ℕ → ℕ → List ℕ
guarded complete b at = cond complete b (cleared_from b at)

-- a writer that has just opened: no word is put yet, buffer and table are as long as it knows them, and the rows can be described
pub record Opened (s : Spot) (b : List ℕ) (t : List Channel) : Type 0 where
  pub channel : s.channel ≡ 0
  pub given : s.given ≡ 0
  pub raw : s.raw ≡ 0
  pub len : length b ≡ s.edge.len
  pub rows : length t ≡ s.rows
  pub kept : Bool
  pub rules : describable kept (settings t) ≡ true

-- all words of raw bytes, put by a writer that has just opened
abbrev pub poured : Spot → List ℕ → List Channel → List ℕ → Putting
poured s b t raw = puts s b t (words_of (settings t) raw)

-- how many bits they take, or the fault
abbrev pub poured_result : Putting → Bool → Result ℕ Trouble
poured_result p cut = answer (later_fault p cut) p.sum (λ f. f)

-- what the buffer then holds: zeros from the section's start on, where one met a fault
abbrev pub poured_bytes : Putting → Bool → ℕ → List ℕ
poured_bytes p cut at = unless (later_fault p cut) (cleared_from p.bytes at) p.bytes

-- what pouring answers and leaves
pub record Pours (s : Spot) (b : List ℕ) (t : List Channel) (raw : List ℕ) (result : Result ℕ Trouble) (spot : Spot) (bytes : List ℕ) (table : List Channel) : Type 0 where
  pub answer : result ≡ poured_result (poured s b t raw) (cut_short (settings t) raw)
  pub state : spot ≡ (poured s b t raw).spot
  pub left : bytes ≡ (poured s b t raw).bytes
  pub rows : table ≡ (poured s b t raw).table
