-- What an accepted opening keeps.
use Rattle.std.proofs.Common.{◌≡◌, ℕ, ◌+◌, ◌*◌, ◌≤◌, Bool, true, false, cond, ◌&&◌, leb, List, [], ◌++◌, length, arith, length-append}
use Rattle.std.proofs.lemmas.Bool.{and_parts, leb-true}
use Rattle.std.proofs.lemmas.Bool.Decides.{nat_tests}
use Rattle.bits.specs.Bits.{bits}
use Rattle.bits.proofs.Numbers.{length-bits}
use Rattle.layout.specs.Slim.{most_bytes, most_channels, recorded}
use Rattle.channel.specs.declared.record.Channel.{Channel}
use Rattle.state.specs.declared.Flags.{Flags}
use Rattle.state.specs.declared.Edge.{Edge}
use Rattle.calls.specs.Calls as calls
use Rattle.calls.specs.Parts.{open_bits, written, described}
use Rattle.calls.specs.Calls.{Trouble, settings, start, wrong_count, describable, section, open_spot, open_result, open_bytes, open_table}
use Rattle.openings.specs.Openings as openings
use Rattle.openings.specs.Openings.{openable}

-- a section has a channel
pub at_least_one : (g : Flags) (n : ℕ) → wrong_count g n ≡ false → 1 ≤ n
at_least_one g n e = grind (arith, nat_tests)

-- a head has its raw size and, if flagged, its pointer
pub section-least : (e : Edge) (t : List Channel) → cond e.flags.pointed 64 32 ≤ length (section e t)
unfolding open_bits
section-least e t = by_flag e.flags.pointed (written (described (calls.flags e.flags)) 0 (settings t))
  where
    by_flag : (p : Bool) (r : List Bool) → cond p 64 32 ≤ length (bits 32 0 ++ (cond p (bits 32 0) [] ++ r))
    by_flag true r = omega (arith, length-append (bits 32 0) (bits 32 0 ++ r), length-append (bits 32 0) r, length-bits 32 0)
    by_flag false r = omega (arith, length-append (bits 32 0) r, length-bits 32 0)

-- where the opening fits
pub fits-within : (size at : ℕ) (g : Flags) (t : List Channel) → openable size at g t ≡ true → 8 * at + length (openings.opening g t) ≤ 8 * size
fits-within size at g t o =
    let D = describable (recorded (calls.flags g) (length (settings t))) (settings t) in
    let R = leb (8 * at + length (openings.opening g t)) (8 * size) in
    let u = (and_parts (leb size most_bytes) (leb (length t) most_channels && (D && R)) o).1 in
    let v = (and_parts (leb (length t) most_channels) (D && R) u).1 in
    leb-true (8 * at + length (openings.opening g t)) (8 * size) (and_parts D R v).1
