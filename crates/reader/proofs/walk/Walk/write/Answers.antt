use Rattle.std.proofs.Common.{◌≡◌, ℕ, List, ap, ◌∙◌}
use Rattle.words.specs.Spread.{spread_bytes}
use Rattle.reader.specs.Sections.{Head, head_in}
use Rattle.reader.specs.Walks.{Standing, standing}
use Rattle.reader.proofs.Written.{section-has-head, section-has-words, section-spread}
use Rattle.reader.proofs.walk.Walk.write.Goals as goal

pub returns-in_default-clause-bytes : goal.returns-in_default-clause-bytes
returns-in_default-clause-bytes c room l x q m e fits =
    let s : Standing = standing c.args.self.now in
    absurd (section-has-head s.flags room s.raw s.file s.place l x q m e (c.in_default.ensures.head l))

pub returns-in-Some-clause-bytes : goal.returns-in-Some-clause-bytes
returns-in-Some-clause-bytes c room l x q m e fits =
    let s : Standing = standing c.args.self.now in
    let v : Standing = standing c.open.new.self in
    let out : List ℕ = c.args.out.now in
    let o = c.in-Ok.opening in
    let h : Head = head_in c.open.new.self.rows o.value in
    let from : c.new-from.result.bytes ≡ s.raw = c.new-from.ensures ∙ ap (λ (z : Standing). z.raw) c.in-Ok.ensures.stays in
    c.spread_words.ensures.bytes
    ∙ ap (λ (z : Standing). spread_bytes h.channels z.file o.end.at.bits c.in-Some.words out c.new-from.result.bytes) c.in-Ok.ensures.stays
    ∙ ap (spread_bytes h.channels s.file o.end.at.bits c.in-Some.words out) from
    ∙ section-spread s.flags room s.raw s.file s.place l x q m e h o.end.at.bits o.end.last.bits (c.in-Ok.ensures.head l) c.in-Some.words out c.args.self.now.source.small c.in-Some.ensures fits

pub returns-in_default-count_words-clause-bytes : goal.returns-in_default-count_words-clause-bytes
returns-in_default-count_words-clause-bytes c room l x q m e fits =
    let s : Standing = standing c.args.self.now in
    let o = c.in-Ok.opening in
    let h : Head = head_in c.open.new.self.rows o.value in
    absurd (section-has-words s.flags room s.raw s.file s.place l x q m e h o.end.at.bits o.end.last.bits (c.in-Ok.ensures.head l) c.in_default-count_words.ensures)
