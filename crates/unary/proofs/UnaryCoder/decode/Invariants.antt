use Rattle.std.proofs.Common.{◌≡◌}
use Rattle.bits.specs.Bits.{bits}
use Rattle.forms.specs.Code.{walk}
use Rattle.unary.specs.Unary.{climb}
use Rattle.unary.proofs.Walks.{rest}
use Rattle.unary.proofs.UnaryCoder.decode.Given as goal

abbrev pub invariant-loop-ones : goal.invariant-loop-ones
invariant-loop-ones l = walk (climb 7 0) (bits l.window.len l.window.bits) ≡ rest l.window.len l.window.bits l.ones
