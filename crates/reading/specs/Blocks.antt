-- Bytes of a file, by their place and their number.
use Rattle.std.specs.Prelude.{ℕ, List, drop}
use Rattle.bits.specs.Bits.{bytes}
use Rattle.format.specs.Cells.{File}
use Rattle.layout.specs.Slim as slim
use Rattle.layout.specs.Slim.{another, ended}
use Rattle.reading.specs.declared.block.Block.{Block}
use Rattle.reading.specs.declared.closing.Closing.{Closing}
use Rattle.reading.specs.declared.closing.Closing.TheVariants.{Another, Ended}

abbrev pub bytes_at : File → Block → List ℕ
bytes_at f b = bytes b.len (drop b.at.bits f)

abbrev pub closing_of : File → Closing → slim.Closing
closing_of f Another = another
closing_of f (Ended b) = ended (bytes_at f b)
