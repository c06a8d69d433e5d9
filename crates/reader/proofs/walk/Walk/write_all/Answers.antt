use Rattle.std.proofs.Common.{◌≡◌, ap, ◌∙◌, subst, arith}
use Rattle.bits.specs.Bits.{bits_of}
use Rattle.format.specs.Format.{got}
use Rattle.reader.specs.Counts.{outline_in}
use Rattle.reader.specs.Walks.{Standing, standing, next_section, moved}
use Rattle.reader.proofs.Writes.{Writes, writes-start, writes-read, writes-more, last-few, last-room, last-answer, last-bytes}
use Rattle.reader.proofs.walk.Walk.write_all.Goals as goal

pub loop-section-init : goal.loop-section-init
loop-section-init c = writes-start (standing c.args.self.now) c.args.out.now c.requires.first.0 c.requires.first.1 c.requires.room c.are_bytes.ensures

pub returns-in_err-section : goal.returns-in_err-section
returns-in_err-section c =
    let s : Standing = standing c.loop-section.self in
    let s₀ : Standing = standing c.args.self.now in
    let w : Writes s s₀ c.args.out.now c.loop-section.out = c.loop-section.invariant in
    absurd (writes-read s s₀ c.args.out.now c.loop-section.out w _ _ c.loop-section.self.counted (c.in_err-section.ensures.section w.last ∙ ap (λ (z : Standing). next_section z w.last) c.write.ensures.stays))

pub write_leftovers-requires : goal.write_leftovers-requires
write_leftovers-requires c =
    let s : Standing = standing c.loop-section.self in
    let s₀ : Standing = standing c.args.self.now in
    let w : Writes s s₀ c.args.out.now c.loop-section.out = c.loop-section.invariant in
    let v : Standing = standing c.pass.new.self in
    let o = c.in_ok-section.section in
    let e = subst (λ (z : Standing). got (outline_in (bits_of z.file) o) v.place v.tried ≡ next_section z w.last) c.write.ensures.stays (c.in_ok-section.ensures.section w.last) in
    let moves = subst (λ (z : Standing). v ≡ moved z v.place v.tried o.raw) c.write.ensures.stays c.in_ok-section.ensures.moves in
    record {
      few = last-few s s₀ c.args.out.now c.loop-section.out w c.write.new.out c.write.ensures.bytes v o e moves c.in-Ended.leftovers c.in-Ended.is;
      room = last-room s s₀ c.args.out.now c.loop-section.out w c.write.new.out c.write.ensures.bytes v o e moves c.in-Ended.leftovers c.in-Ended.is;
    }

pub overflow_add-result : goal.overflow_add-result
overflow_add-result c =
    let s : Standing = standing c.loop-section.self in
    let s₀ : Standing = standing c.args.self.now in
    let w : Writes s s₀ c.args.out.now c.loop-section.out = c.loop-section.invariant in
    let v : Standing = standing c.pass.new.self in
    let o = c.in_ok-section.section in
    let e = subst (λ (z : Standing). got (outline_in (bits_of z.file) o) v.place v.tried ≡ next_section z w.last) c.write.ensures.stays (c.in_ok-section.ensures.section w.last) in
    let moves = subst (λ (z : Standing). v ≡ moved z v.place v.tried o.raw) c.write.ensures.stays c.in_ok-section.ensures.moves in
    let few = last-few s s₀ c.args.out.now c.loop-section.out w c.write.new.out c.write.ensures.bytes v o e moves c.in-Ended.leftovers c.in-Ended.is in
    omega (arith, few, c.pass.new.self.few)

pub returns-in-Ended : goal.returns-in-Ended
returns-in-Ended c =
    let s : Standing = standing c.loop-section.self in
    let s₀ : Standing = standing c.args.self.now in
    let w : Writes s s₀ c.args.out.now c.loop-section.out = c.loop-section.invariant in
    let v : Standing = standing c.pass.new.self in
    let o = c.in_ok-section.section in
    let e = subst (λ (z : Standing). got (outline_in (bits_of z.file) o) v.place v.tried ≡ next_section z w.last) c.write.ensures.stays (c.in_ok-section.ensures.section w.last) in
    let moves = subst (λ (z : Standing). v ≡ moved z v.place v.tried o.raw) c.write.ensures.stays c.in_ok-section.ensures.moves in
    record {
      answer = last-answer s s₀ c.args.out.now c.loop-section.out w c.write.new.out c.write.ensures.bytes v o e moves c.in-Ended.leftovers c.in-Ended.is;
      bytes = last-bytes s s₀ c.args.out.now c.loop-section.out w c.write.new.out c.write.ensures.bytes v o e moves c.in-Ended.leftovers c.in-Ended.is c.write_leftovers.new.out c.are_bytes.ensures c.write_leftovers.ensures;
    }

pub loop-section-preserved : goal.loop-section-preserved
loop-section-preserved c =
    let s : Standing = standing c.loop-section.self in
    let s₀ : Standing = standing c.args.self.now in
    let w : Writes s s₀ c.args.out.now c.loop-section.out = c.loop-section.invariant in
    let v : Standing = standing c.pass.new.self in
    let o = c.in_ok-section.section in
    let e = subst (λ (z : Standing). got (outline_in (bits_of z.file) o) v.place v.tried ≡ next_section z w.last) c.write.ensures.stays (c.in_ok-section.ensures.section w.last) in
    let moves = subst (λ (z : Standing). v ≡ moved z v.place v.tried o.raw) c.write.ensures.stays c.in_ok-section.ensures.moves in
    writes-more s s₀ c.args.out.now c.loop-section.out w c.write.new.out c.write.ensures.bytes v o e moves c.in_default.is
