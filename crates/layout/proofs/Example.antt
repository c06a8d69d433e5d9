-- The example, computed.
use Rattle.std.proofs.Common.{◌≡◌, refl}
use Rattle.bits.specs.Bits.{odd, worth, bits, number, bits_of, bytes, bytes_of}
use Rattle.forms.specs.Code.{walk, longer, under, form_of, field, renamed}
use Rattle.forms.specs.Coders.{after_few}
use Rattle.format.specs.Cells as cells
use Rattle.format.specs.Format as formats
use Rattle.format.specs.Word as words
use Rattle.layout.specs.Turns.{raw_bytes, count_words, words_from}
use Rattle.layout.specs.Slim as slim
use Rattle.layout.specs.Slim.{read}
use Rattle.format.specs.Format.{got}
use Rattle.layout.specs.Claims.{file, layout}
use Rattle.layout.specs.Example.{example, example_file, ExampleStands}

written : file example ≡ example_file
unfolding file layout odd worth bits number bits_of bytes bytes_of walk longer under form_of field renamed after_few cells.number cells.marked cells.bits cells.filled formats.next formats.field formats.whole formats.refuse formats.choose formats.◌>>=◌ formats.gap formats.padding formats.judged formats.once formats.one formats.each_cells formats.each_read formats.each formats.times formats.ahead words.word raw_bytes count_words words_from slim.byte slim.block slim.name_bytes slim.extra_bytes slim.flagged slim.added slim.channel slim.leftover slim.closing slim.counted slim.closed slim.body slim.piece slim.behind slim.chain slim.raw_total slim.after_flags slim.recording slim.read
written = refl

read_back : read example_file ≡ got example 200 191
unfolding file layout odd worth bits number bits_of bytes bytes_of walk longer under form_of field renamed after_few cells.number cells.marked cells.bits cells.filled formats.next formats.field formats.whole formats.refuse formats.choose formats.◌>>=◌ formats.gap formats.padding formats.judged formats.once formats.one formats.each_cells formats.each_read formats.each formats.times formats.ahead words.word raw_bytes count_words words_from slim.byte slim.block slim.name_bytes slim.extra_bytes slim.flagged slim.added slim.channel slim.leftover slim.closing slim.counted slim.closed slim.body slim.piece slim.behind slim.chain slim.raw_total slim.after_flags slim.recording slim.read
read_back = refl

pub example_stands : ExampleStands
example_stands = record { written = written; read_back = read_back }
