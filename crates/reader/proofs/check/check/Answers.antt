use Rattle.std.proofs.Common.{◌≡◌, ℕ, ◌≤◌, List, length, Option, of_calls, sym, ap, ◌∙◌, subst}
use Rattle.reader.specs.Sections.{agrees}
use Rattle.reader.specs.Counts.{seen, body_totals}
use Rattle.reader.specs.Walks.{Standing, all_sections}
use Rattle.reader.specs.declared.totals.Totals.{Totals}
use Rattle.reader.proofs.Claimed.{checking_stands}
use Rattle.reader.proofs.Walks.{head-back}
use Rattle.reader.proofs.Recordings.{check-no-walk, check-no-sections, check-size, check-behind, check-on, handed-on, fault_stands, test-agrees}
use Rattle.reader.proofs.check.check.Goals as goal

pub returns-in_err-walk : goal.returns-in_err-walk
returns-in_err-walk c = record {
  answer = handed-on (λ (t : Totals). t) _ _ _ c.from_residual.ensures.1 (check-no-walk c.args.file.now c.in_err-walk.ensures);
  stands = checking_stands;
}

pub returns-in_err-totals : goal.returns-in_err-totals
returns-in_err-totals c =
    let f : List ℕ = c.args.file.now in
    let w = c.in_ok-walk.walk in
    let (h, e, same) = c.in_ok-walk.ensures in
    let short : length f ≤ 16777216 = subst (λ (g : List ℕ). length g ≤ 16777216) (ap (λ (s : Standing). s.file) same) w.source.small in
    let sections = c.in_err-totals.ensures.totals ∙ ap (λ (s : Standing). seen body_totals (all_sections s)) same in
    record {
      answer = handed-on (λ (t : Totals). t) _ _ _ c.from_residual-in_err-totals.ensures.1
          (check-no-sections f short h w.end.at.bits w.end.last.bits (head-back f _ short e) sections);
      stands = checking_stands;
    }

pub returns-then-not-is_none_or : goal.returns-then-not-is_none_or
returns-then-not-is_none_or c =
    let f : List ℕ = c.args.file.now in
    let w = c.in_ok-walk.walk in
    let v = c.pass_all.new.self in
    let t : Totals = c.in_ok-totals.totals in
    let (h, e, same) = c.in_ok-walk.ensures in
    let short : length f ≤ 16777216 = subst (λ (g : List ℕ). length g ≤ 16777216) (ap (λ (s : Standing). s.file) same) w.source.small in
    let d = head-back f _ short e in
    let sections = c.in_ok-totals.ensures.totals ∙ ap (λ (s : Standing). seen body_totals (all_sections s)) same in
    let size : v.size ≡ h.size = c.in_ok-totals.ensures.size ∙ ap (λ (s : Standing). s.size) same in
    let right = ap (λ (z : Option ℕ). agrees z t.raw) (sym size) ∙ sym (test-agrees v.size t.raw c.is_none_or.result _ c.is_none_or.ensures (λ x m. search (of_calls, m))) in
    record {
      answer = fault_stands c.at.ensures (check-size f short h w.end.at.bits w.end.last.bits d t v.end.at.bits v.end.last.bits sections (right ∙ c.if-not-is_none_or.true));
      stands = checking_stands;
    }

pub returns-then-bits-file : goal.returns-then-bits-file
returns-then-bits-file c =
    let f : List ℕ = c.args.file.now in
    let w = c.in_ok-walk.walk in
    let v = c.pass_all.new.self in
    let t : Totals = c.in_ok-totals.totals in
    let (h, e, same) = c.in_ok-walk.ensures in
    let short : length f ≤ 16777216 = subst (λ (g : List ℕ). length g ≤ 16777216) (ap (λ (s : Standing). s.file) same) w.source.small in
    let d = head-back f _ short e in
    let sections = c.in_ok-totals.ensures.totals ∙ ap (λ (s : Standing). seen body_totals (all_sections s)) same in
    let size : v.size ≡ h.size = c.in_ok-totals.ensures.size ∙ ap (λ (s : Standing). s.size) same in
    let right = ap (λ (z : Option ℕ). agrees z t.raw) (sym size) ∙ sym (test-agrees v.size t.raw c.is_none_or.result _ c.is_none_or.ensures (λ x m. search (of_calls, m))) in
    record {
      answer = fault_stands c.at-then-bits-file.ensures (check-behind f short h w.end.at.bits w.end.last.bits d t v.end.at.bits v.end.last.bits sections (right ∙ c.if-not-is_none_or.false)
          (λ z. c.if-bits-file.true (c.bits.ensures ∙ z)));
      stands = checking_stands;
    }

pub returns : goal.returns
returns c =
    let f : List ℕ = c.args.file.now in
    let w = c.in_ok-walk.walk in
    let v = c.pass_all.new.self in
    let t : Totals = c.in_ok-totals.totals in
    let (h, e, same) = c.in_ok-walk.ensures in
    let short : length f ≤ 16777216 = subst (λ (g : List ℕ). length g ≤ 16777216) (ap (λ (s : Standing). s.file) same) w.source.small in
    let d = head-back f _ short e in
    let sections = c.in_ok-totals.ensures.totals ∙ ap (λ (s : Standing). seen body_totals (all_sections s)) same in
    let size : v.size ≡ h.size = c.in_ok-totals.ensures.size ∙ ap (λ (s : Standing). s.size) same in
    let right = ap (λ (z : Option ℕ). agrees z t.raw) (sym size) ∙ sym (test-agrees v.size t.raw c.is_none_or.result _ c.is_none_or.ensures (λ x m. search (of_calls, m))) in
    record {
      answer = check-on f short h w.end.at.bits w.end.last.bits d t v.end.at.bits v.end.last.bits sections (right ∙ c.if-not-is_none_or.false) (sym c.bits.ensures ∙ c.if-bits-file.false);
      stands = checking_stands;
    }
