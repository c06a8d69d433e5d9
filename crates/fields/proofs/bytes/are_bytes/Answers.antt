use Rattle.std.proofs.Common.{arith}
use Rattle.bits.proofs.Places.{Bytes-from, Bytes-none}
use Rattle.fields.proofs.bytes.are_bytes.Goals as goal

pub returns-then-file-gt0 : goal.returns-then-file-gt0
returns-then-file-gt0 c = Bytes-from c.args.file.now (λ i. (c.type_inv.file i).fits)

pub returns-else-file-gt0 : goal.returns-else-file-gt0
returns-else-file-gt0 c = Bytes-none c.args.file.now (omega arith)
