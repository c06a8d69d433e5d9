-- What the calls for C hosts answer, and what the output then holds.
use Rattle.std.specs.Prelude.{ℕ, ◌-◌, ◌^◌, cond, List, ℤ, pos, negsuc, ◌==◌, nat_le, nat_lt}
use Rattle.forms.specs.Coding.{Coding}
use Rattle.forms.specs.Coders as coders
use Rattle.faults.specs.Faults.{Answer, gives, fault}
use Rattle.blocks.specs.Blocks.{pack_answer, pack_bytes, read_answer, read_bytes}

-- a count as it is, and a fault as its number negated
abbrev pub hosted : Answer ℕ → ℤ
hosted (gives n) = pos n
hosted (fault k p) = negsuc (k - 1)

-- the one channel: reduced binary of 16 bits, and the same under delta
abbrev pub plain_channel : ℕ → ℕ → Coding (Unit {0})
plain_channel narrow pedestal = coders.plain (coders.reduced 16 narrow pedestal)

abbrev pub delta_channel : ℕ → ℕ → Coding (ℕ × Unit {0})
delta_channel narrow pedestal = coders.delta 16 (plain_channel narrow pedestal)

-- fault 6 unless the settings keep the rules: R from 1 to 16, the pedestal a word, the delta mark 0 or 1
abbrev pub ruled : {A : Type 0} → ℕ → ℕ → ℕ → A → A → A → A
ruled delta narrow pedestal bad plain differing =
    cond (nat_lt 0 narrow) (cond (nat_le narrow 16) (cond (nat_lt pedestal (2 ^ 16)) (cond (delta == 0) plain (cond (delta == 1) differing bad)) bad) bad) bad

abbrev pub pack_host : ℕ → ℕ → ℕ → List ℕ → ℕ → Answer ℕ
pack_host delta narrow pedestal raw size =
    ruled delta narrow pedestal (fault 6 0) (pack_answer 2 (plain_channel narrow pedestal) raw size) (pack_answer 2 (delta_channel narrow pedestal) raw size)

abbrev pub pack_host_bytes : ℕ → ℕ → ℕ → List ℕ → List ℕ → List ℕ
pack_host_bytes delta narrow pedestal raw out =
    ruled delta narrow pedestal out (pack_bytes 2 (plain_channel narrow pedestal) raw out) (pack_bytes 2 (delta_channel narrow pedestal) raw out)

abbrev pub read_host : ℕ → ℕ → ℕ → List ℕ → ℕ → ℕ → Answer ℕ
read_host delta narrow pedestal block count size =
    ruled delta narrow pedestal (fault 6 0) (read_answer 2 (plain_channel narrow pedestal) block count size) (read_answer 2 (delta_channel narrow pedestal) block count size)

abbrev pub read_host_bytes : ℕ → ℕ → ℕ → List ℕ → ℕ → List ℕ → List ℕ
read_host_bytes delta narrow pedestal block count out =
    ruled delta narrow pedestal out (read_bytes 2 (plain_channel narrow pedestal) block count out) (read_bytes 2 (delta_channel narrow pedestal) block count out)
