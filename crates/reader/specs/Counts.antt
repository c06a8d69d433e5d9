-- A file in numbers: its sections, words, raw bytes and leftovers.
use Rattle.std.specs.Prelude.{ℕ, ◌+◌, Bool, true, false, List, [], ◌∷◌, length}
use Rattle.format.specs.Cells.{File}
use Rattle.format.specs.Format.{Outcome, got, fault}
use Rattle.faults.specs.Faults as faults
use Rattle.faults.specs.Faults.{Answer, gives}
use Rattle.layout.specs.Recording.{Section, Recording}
use Rattle.layout.specs.Turns.{raw_size}
use Rattle.layout.specs.Slim as slim
use Rattle.layout.specs.Slim.{Piece, Body, raw_total, read}
use Rattle.reading.specs.declared.closing.Closing.{Closing}
use Rattle.reading.specs.declared.closing.Closing.TheVariants.{Another, Ended}
use Rattle.reading.specs.Blocks.{closing_of}
use Rattle.reader.specs.declared.outline.Outline.{Outline}
use Rattle.reader.specs.declared.totals.Totals.{Totals}

-- what is read, seen as something less
abbrev pub seen : {A B : Type 0} → (A → B) → Outcome A → Outcome B
seen view (got a p l) = got (view a) p l
seen view (fault n q) = fault n q

-- ## A section

-- its raw bytes, the number of its words, and what closes it
abbrev pub outline : Piece → ℕ × ℕ × slim.Closing
outline x = (raw_size x.section, length x.section.words, x.closing)

abbrev pub outline_in : File → Outline → ℕ × ℕ × slim.Closing
outline_in f o = (o.raw, o.words, closing_of f o.closing)

-- whether another section follows
abbrev pub follows : Closing → Bool
follows Another = true
follows (Ended b) = false

-- ## All sections

unfoldable pub words_total : List Section → ℕ
words_total [] = 0
words_total (s ∷ ss) = length s.words + words_total ss

abbrev pub totals : List Section → List ℕ → Totals
totals ss ls = record { sections = length ss; words = words_total ss; raw = raw_total ss; leftovers = length ls }

abbrev pub body_totals : Body → Totals
body_totals b = totals b.sections b.leftovers

-- ## The file

abbrev pub recording_totals : Recording → Totals
recording_totals r = totals r.sections r.leftovers

-- what was read, as the answer of a call
abbrev pub answer_totals : Outcome Recording → Answer Totals
answer_totals (got r p l) = gives (recording_totals r)
answer_totals (fault n q) = faults.fault n q

abbrev pub check_answer : List ℕ → Answer Totals
check_answer f = answer_totals (read f)
