use Rattle.std.proofs.Common.{◌≡◌, ◌+◌, ◌-◌, ◌*◌, drop}
use Rattle.bits.specs.Bits.{bits_of, bytes}
use Rattle.format.proofs.Loops.{before}
use Rattle.reading.proofs.Names.{left}
use Rattle.reading.proofs.source.Source.take_name.Given as goal

-- the bytes that were taken, in front of what is left of the name, are what the whole reading gives
abbrev pub invariant-loop-len : goal.invariant-loop-len
invariant-loop-len l =
    (l.place.bits ≡ l.initial.place.bits + 8 * l.len)
    × (before (bytes l.len (drop l.initial.place.bits (bits_of l.self.bytes.now))) (left (255 - l.len) (bits_of l.self.bytes.now) l.place.bits) ≡ left 255 (bits_of l.self.bytes.now) l.initial.place.bits)
