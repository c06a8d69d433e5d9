use Rattle.std.proofs.Common.{◌≡◌, ℕ, ◌/◌, true, leb, List, length, sym, ap, ◌∙◌, le-leb}
use Rattle.bits.specs.Bits.{bits_of}
use Rattle.format.specs.Cells.{File}
use Rattle.reading.proofs.Looks.{fault-is, nothing-there, value_there}
use Rattle.reading.proofs.Steps.{passed, with-is}
use Rattle.reader.specs.Sections.{Head, head_in}
use Rattle.reader.specs.Counts.{seen, outline, outline_in}
use Rattle.reader.specs.Walks.{standing, has_room}
use Rattle.reader.proofs.Closings.{named}
use Rattle.reader.proofs.Passing.{count-is, words-on, words-not, rest-cut, rest-no-words, rest-no-end, rest-no_pads, rest-off, rest-on}
use Rattle.reader.proofs.walk.Walk.pass_rest.Goals as goal

pub returns-in_err-words : goal.returns-in_err-words
returns-in_err-words c =
    let f : File = bits_of c.args.self.now.source.bytes.now in
    let h : Head = head_in c.args.self.now.rows c.args.opening.value in
    let e = c.args.opening.end in
    let (none, same) = nothing-there c.count_words.result c.at.result c.in_err-words.field-0.0 (sym c.in_err-words.was ∙ c.ok_or.ensures.value) in
    let cut = fault-is (same ∙ c.at.ensures)
    (rest-cut (has_room (standing c.args.self.now)) h f e.at.bits e.last.bits (count-is h.channels h.raw _ c.requires (sym none ∙ c.count_words.ensures))) in
    passed (outline_in f) _ _ _ c.from_residual.ensures.1 (ap (seen outline) cut)

pub returns-in_err-passed : goal.returns-in_err-passed
returns-in_err-passed c =
    let bytes : List ℕ = c.args.self.now.source.bytes.now in
    let f : File = bits_of bytes in
    let h : Head = head_in c.args.self.now.rows c.args.opening.value in
    let e = c.args.opening.end in
    let small : leb (length bytes) 16777216 ≡ true = le-leb (length bytes) 16777216 c.args.self.now.source.small in
    let some = value_there c.count_words.result c.at.result c.in_ok-words.words (sym c.in_ok-words.was ∙ c.ok_or.ensures.value) in
    let count = count-is h.channels h.raw _ c.requires (sym some ∙ c.count_words.ensures) in
    let w = words-not h.channels bytes e.at.bits e.last.bits c.in_ok-words.words c.requires small _ _ c.in_err-passed.ensures in
    passed (outline_in f) _ _ _ c.from_residual-in_err-passed.ensures.1
    (ap (seen outline) (rest-no-words (has_room (standing c.args.self.now)) h f e.at.bits e.last.bits count w))

pub returns-in_err-closing : goal.returns-in_err-closing
returns-in_err-closing c =
    let bytes : List ℕ = c.args.self.now.source.bytes.now in
    let f : File = bits_of bytes in
    let h : Head = head_in c.args.self.now.rows c.args.opening.value in
    let e = c.args.opening.end in
    let small : leb (length bytes) 16777216 ≡ true = le-leb (length bytes) 16777216 c.args.self.now.source.small in
    let some = value_there c.count_words.result c.at.result c.in_ok-words.words (sym c.in_ok-words.was ∙ c.ok_or.ensures.value) in
    let count = count-is h.channels h.raw _ c.requires (sym some ∙ c.count_words.ensures) in
    let p = c.in_ok-passed.passed in
    let (ws, w, _) = words-on h.channels bytes e.at.bits e.last.bits c.in_ok-words.words c.requires small p.at.bits p.last.bits c.in_ok-passed.ensures in
    passed (outline_in f) _ _ _ c.from_residual-in_err-closing.ensures.1
    (ap (seen outline) (rest-no-end (has_room (standing c.args.self.now)) h f e.at.bits e.last.bits count w (c.in_err-closing.ensures p.last.bits)))

pub returns-in_err-padding : goal.returns-in_err-padding
returns-in_err-padding c =
    let bytes : List ℕ = c.args.self.now.source.bytes.now in
    let f : File = bits_of bytes in
    let h : Head = head_in c.args.self.now.rows c.args.opening.value in
    let e = c.args.opening.end in
    let small : leb (length bytes) 16777216 ≡ true = le-leb (length bytes) 16777216 c.args.self.now.source.small in
    let some = value_there c.count_words.result c.at.result c.in_ok-words.words (sym c.in_ok-words.was ∙ c.ok_or.ensures.value) in
    let count = count-is h.channels h.raw _ c.requires (sym some ∙ c.count_words.ensures) in
    let p = c.in_ok-passed.passed in
    let (ws, w, _) = words-on h.channels bytes e.at.bits e.last.bits c.in_ok-words.words c.requires small p.at.bits p.last.bits c.in_ok-passed.ensures in
    passed (outline_in f) _ _ _ c.from_residual-in_err-padding.ensures.1
    (ap (seen outline) (rest-no_pads (has_room (standing c.args.self.now)) h f e.at.bits e.last.bits count w (c.in_ok-closing.ensures p.last.bits) c.in_err-padding.ensures))

pub returns-then-not-names_next : goal.returns-then-not-names_next
returns-then-not-names_next c =
    let bytes : List ℕ = c.args.self.now.source.bytes.now in
    let f : File = bits_of bytes in
    let h : Head = head_in c.args.self.now.rows c.args.opening.value in
    let e = c.args.opening.end in
    let small : leb (length bytes) 16777216 ≡ true = le-leb (length bytes) 16777216 c.args.self.now.source.small in
    let some = value_there c.count_words.result c.at.result c.in_ok-words.words (sym c.in_ok-words.was ∙ c.ok_or.ensures.value) in
    let count = count-is h.channels h.raw _ c.requires (sym some ∙ c.count_words.ensures) in
    let p = c.in_ok-passed.passed in
    let end : ℕ = c.in_ok-padding.padding.end.at.bits in
    let (ws, w, _) = words-on h.channels bytes e.at.bits e.last.bits c.in_ok-words.words c.requires small p.at.bits p.last.bits c.in_ok-passed.ensures in
    let name = named f c.in_ok-closing.closing.value h.pointer (end / 8) _ c.if-not-names_next.ensures in
    ap (seen outline) (fault-is c.at-then-not-names_next.ensures
    (rest-off (has_room (standing c.args.self.now)) h f e.at.bits e.last.bits count w (c.in_ok-closing.ensures p.last.bits) c.in_ok-padding.ensures name))

pub returns : goal.returns
returns c =
    let bytes : List ℕ = c.args.self.now.source.bytes.now in
    let f : File = bits_of bytes in
    let h : Head = head_in c.args.self.now.rows c.args.opening.value in
    let e = c.args.opening.end in
    let small : leb (length bytes) 16777216 ≡ true = le-leb (length bytes) 16777216 c.args.self.now.source.small in
    let some = value_there c.count_words.result c.at.result c.in_ok-words.words (sym c.in_ok-words.was ∙ c.ok_or.ensures.value) in
    let count = count-is h.channels h.raw _ c.requires (sym some ∙ c.count_words.ensures) in
    let p = c.in_ok-passed.passed in
    let end : ℕ = c.in_ok-padding.padding.end.at.bits in
    let (ws, w, many) = words-on h.channels bytes e.at.bits e.last.bits c.in_ok-words.words c.requires small p.at.bits p.last.bits c.in_ok-passed.ensures in
    let name = named f c.in_ok-closing.closing.value h.pointer (end / 8) _ c.if-not-names_next.ensures in
    with-is (outline_in f) c.with.ensures (rest-on (has_room (standing c.args.self.now)) h f e.at.bits e.last.bits count w (c.in_ok-closing.ensures p.last.bits) c.in_ok-padding.ensures name many)
