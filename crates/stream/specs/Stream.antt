-- Words of one coder, put one after the other, until one meets a fault.
use Rattle.std.specs.Prelude.{ℕ, ◌+◌, ◌*◌, ◌/◌, Bool, cond, ◌||◌, List, [], ◌∷◌, length, Some, None, Option, nat_lt}
use Rattle.std.specs.Option.{option_map}
use Rattle.bits.specs.Bits.{put_bits}
use Rattle.bits.specs.Raw.{raw_words}
use Rattle.forms.specs.Coding.{Coding, encoded}
use Rattle.faults.specs.Faults.{number_of}
use Rattle.layout.specs.Slim.{most_bytes}
use Rattle.calls.specs.Calls.{form_in, memory_of}
use Rattle.stream.specs.declared.streamed.Streamed.{Streamed}

-- how many words were put, the place and the memory behind them, the number of the fault if one stopped them, and the bytes
pub record Stream : Type 0 where
  pub words : ℕ
  pub at : ℕ
  pub memory : ℕ
  pub fault : Option ℕ
  pub bytes : List ℕ

-- the fault of a word at a place: 7 where it has no form, 2 where its form passes the end of so many bytes
abbrev pub stopped : ℕ → ℕ → Option (List Bool × (ℕ × Unit {0})) → Option ℕ
stopped len at None = Some 7
stopped len at (Some (form, m)) = cond (nat_lt (8 * len) (at + length form)) (Some 2) None

-- words put into so many bytes behind the first n, with a memory, from a place on
unfoldable pub streamed : Coding (ℕ × Unit {0}) → ℕ → ℕ → ℕ → ℕ → List ℕ → List ℕ → Stream
streamed C len n m at b [] = record { words = n; at = at; memory = m; fault = None; bytes = b }
streamed C len n m at b (w ∷ ws) =
    elim (stopped len at (encoded C (m, tt) w)) [
      | None ↦ streamed C len (n + 1) (memory_of (encoded C (m, tt) w)) (at + length (form_in (encoded C (m, tt) w))) (put_bits b at (form_in (encoded C (m, tt) w))) ws
      | Some f ↦ record { words = n; at = at; memory = m; fault = Some f; bytes = b }
    ]

-- a buffer over the limit, a place past its end, or fewer raw words than are to be put
abbrev pub unfit : ℕ → ℕ → ℕ → ℕ → ℕ → Bool
unfit size raw count at len = nat_lt most_bytes len || (nat_lt (8 * len) at || nat_lt (raw / size) count)

-- the first words of raw bytes, so many bytes each; nothing is put, and the fault is 1, where they are unfit
abbrev pub put_stream : Coding (ℕ × Unit {0}) → ℕ → ℕ → List ℕ → ℕ → ℕ → List ℕ → Stream
put_stream C size m raw count at b =
    cond (unfit size (length raw) count at (length b)) (record { words = 0; at = at; memory = m; fault = Some 1; bytes = b })
    (streamed C (length b) 0 m at b (raw_words size count raw))

-- what the code answers, beside the bytes
abbrev pub told : Streamed → List ℕ → Stream
told s b = record { words = s.words; at = s.at.bits; memory = s.memory; fault = option_map number_of s.fault; bytes = b }
