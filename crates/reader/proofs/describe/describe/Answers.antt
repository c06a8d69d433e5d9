use Rattle.std.proofs.Common.{◌≡◌, ℕ, List, length, Ok, sym, refl, ap, ◌∙◌, subst, arith}
use Rattle.bits.specs.Bits.{bits_of}
use Rattle.faults.specs.Faults as faults
use Rattle.faults.specs.Faults.{Answer, gives}
use Rattle.format.specs.Format.{Outcome}
use Rattle.layout.specs.Recording.{Section}
use Rattle.layout.specs.Slim.{Body, chain, read}
use Rattle.channel.specs.declared.record.Channel.{Channel}
use Rattle.reader.specs.Files.{section_flags}
use Rattle.reader.specs.Walks.{standing, all_sections}
use Rattle.reader.specs.Describing.{HasSection, section_in, Found, described, sizes, filled}
use Rattle.reader.proofs.Walks.{head-back}
use Rattle.reader.proofs.Finding.{anew-all}
use Rattle.reader.proofs.Describing.{checked-short, head-again, sought-there, sought-short, sought-on, sizes-of, rows-filled, holds_section}
use Rattle.reader.proofs.Recordings.{fault_stands}
use Rattle.reader.proofs.describe.describe.Goals as goal

pub returns-in_err-walk : goal.returns-in_err-walk
returns-in_err-walk c =
    let f : List ℕ = c.args.file.now in
    absurd (head-again f c.in_ok-totals.totals c.in_ok-totals.ensures.answer _ _ (head-back f _ (checked-short f c.in_ok-totals.totals c.in_ok-totals.ensures.answer) c.in_err-walk.ensures))

pub find-requires-clause-there : goal.find-requires-clause-there
find-requires-clause-there c =
    let f : List ℕ = c.args.file.now in
    let t : List Channel = c.args.table.now in
    let w = c.in_ok-walk.walk in
    let (h, e, same) = c.in_ok-walk.ensures in
    let d = head-back f _ (checked-short f c.in_ok-totals.totals c.in_ok-totals.ensures.answer) e in
    let all : all_sections (standing w) ≡ (chain (section_flags h) 64 0).reads (bits_of f) w.end.at.bits 0 =
    ap all_sections same ∙ anew-all (section_flags h) (bits_of f) 0 w.end.at.bits w.end.last.bits in
    subst (λ (o : Outcome Body). HasSection o c.args.section) (sym all)
    (sought-there f c.in_ok-totals.totals c.in_ok-totals.ensures.answer h w.end.at.bits w.end.last.bits d (section_flags h) refl c.args.section c.if-section-totals.false)

pub returns-then-count-table : goal.returns-then-count-table
returns-then-count-table c =
    let f : List ℕ = c.args.file.now in
    let t : List Channel = c.args.table.now in
    let w = c.in_ok-walk.walk in
    let (h, e, same) = c.in_ok-walk.ensures in
    let d = head-back f _ (checked-short f c.in_ok-totals.totals c.in_ok-totals.ensures.answer) e in
    let all : all_sections (standing w) ≡ (chain (section_flags h) 64 0).reads (bits_of f) w.end.at.bits 0 =
    ap all_sections same ∙ anew-all (section_flags h) (bits_of f) 0 w.end.at.bits w.end.last.bits in
    let s : Section = section_in ((chain (section_flags h) 64 0).reads (bits_of f) w.end.at.bits 0) c.args.section in
    let (raw, many, held) = subst (λ (s : Section). Found s c.find.new.self.rows (Ok c.in_ok-found.found)) (ap (λ (o : Outcome Body). section_in o c.args.section) all) c.in_ok-found.ensures in
    let short : faults.fault 2 0 ≡ described (read f) c.args.section (length t) =
    sought-short f c.in_ok-totals.totals c.in_ok-totals.ensures.answer h w.end.at.bits w.end.last.bits d (section_flags h) refl c.args.section c.if-section-totals.false (length t) (omega (arith, many, c.if-count-table.true)) in
    let same = ap (λ (a : Answer Section). filled a t) short in
    record {
      answer = fault_stands c.at_start-then-count-table.ensures (ap sizes short);
      table = same;
      accepted = holds_section f c.args.section t t same;
    }

pub returns : goal.returns
returns c =
    let f : List ℕ = c.args.file.now in
    let t : List Channel = c.args.table.now in
    let w = c.in_ok-walk.walk in
    let (h, e, same) = c.in_ok-walk.ensures in
    let d = head-back f _ (checked-short f c.in_ok-totals.totals c.in_ok-totals.ensures.answer) e in
    let all : all_sections (standing w) ≡ (chain (section_flags h) 64 0).reads (bits_of f) w.end.at.bits 0 =
    ap all_sections same ∙ anew-all (section_flags h) (bits_of f) 0 w.end.at.bits w.end.last.bits in
    let s : Section = section_in ((chain (section_flags h) 64 0).reads (bits_of f) w.end.at.bits 0) c.args.section in
    let (raw, many, held) = subst (λ (s : Section). Found s c.find.new.self.rows (Ok c.in_ok-found.found)) (ap (λ (o : Outcome Body). section_in o c.args.section) all) c.in_ok-found.ensures in
    let n : ℕ = c.in_ok-found.found.value.rows in
    let on : gives s ≡ described (read f) c.args.section (length t) =
    sought-on f c.in_ok-totals.totals c.in_ok-totals.ensures.answer h w.end.at.bits w.end.last.bits d (section_flags h) refl c.args.section c.if-section-totals.false (length t) (omega (arith, many, c.if-count-table.false)) in
    let same = rows-filled s _ n t c.copy_from_slice.new.self on many (c.copy_from_slice.ensures.after ∙ held) in
    record {
      answer = sizes-of s _ n c.in_ok-found.found.value.raw on many raw;
      table = same;
      accepted = holds_section f c.args.section t _ same;
    }
