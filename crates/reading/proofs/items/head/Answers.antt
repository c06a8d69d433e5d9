use Rattle.std.proofs.Common.{◌≡◌, ℕ, ◌≤◌, List, length, of_calls, ◌∙◌, subst, arith}
use Rattle.bits.specs.Bits.{bits_of}
use Rattle.format.specs.Format.{got, fault}
use Rattle.faults.specs.Faults.{number_of}
use Rattle.reading.specs.Heads as heads
use Rattle.reading.specs.Heads.{head_in, PartAt, name_place, extra_place}
use Rattle.reading.proofs.Steps.{passed_none}
use Rattle.reading.proofs.Agreeing.{accepted-items}
use Rattle.reading.proofs.Handing.{items-are, too_long, head_passed, handed_on, stands, room-size, room-name, part_inside}
use Rattle.reading.proofs.Optional.{item-of}
use Rattle.reading.proofs.items.head.Goals as goal

pub returns-in_err-source : goal.returns-in_err-source
returns-in_err-source c =
    let f : List ℕ = c.args.file.now in
    let (many, is) = c.in_err-source.ensures in
    let items = handed_on f _ _ c.from_residual.ensures.1 (too_long f _ many is) in
    record {
      items = items;
      name = passed_none _ _ _ c.from_residual.ensures.1;
      extra = passed_none _ _ _ c.from_residual.ensures.1;
      accepted = λ x h. items ∙ accepted-items f x h;
    }

pub map-requires : goal.map-requires
map-requires c p e =
    let t = c.in_ok-front.field-0 in
    let name = subst (λ (g : List ℕ). PartAt g (name_place t.value) t.value.name) c.in_ok-source.ensures c.in_ok-front.ensures.name in
    let inside = part_inside c.args.file.now (name_place t.value) p _ e name in search inside

pub map-requires-2 : goal.map-requires-2
map-requires-2 c p e =
    let t = c.in_ok-front.field-0 in
    let extra = subst (λ (g : List ℕ). PartAt g (extra_place t.value) t.value.extra) c.in_ok-source.ensures c.in_ok-front.ensures.extra in
    let inside = part_inside c.args.file.now (extra_place t.value) p _ e extra in search inside

pub returns-in_err-front : goal.returns-in_err-front
returns-in_err-front c =
    let f : List ℕ = c.args.file.now in
    let e = c.in_err-front.field-0.0 in
    let few = subst (λ (g : List ℕ). length g ≤ 16777216) c.in_ok-source.ensures c.in_ok-source.source.small in
    let head = subst (λ (g : List ℕ). fault (number_of e.kind) e.place.bits ≡ (heads.head).reads (bits_of g) 0 0) c.in_ok-source.ensures c.in_err-front.ensures.head in
    let items = head_passed f _ e few c.from_residual-in_err-front.ensures.1 head in
    record {
      items = items;
      name = passed_none _ _ _ c.from_residual-in_err-front.ensures.1;
      extra = passed_none _ _ _ c.from_residual-in_err-front.ensures.1;
      accepted = λ x h. items ∙ accepted-items f x h;
    }

pub returns : goal.returns
returns c =
    let file : List ℕ = c.args.file.now in
    let t = c.in_ok-front.field-0 in
    let few = subst (λ (g : List ℕ). length g ≤ 16777216) c.in_ok-source.ensures c.in_ok-source.source.small in
    let head = subst (λ (g : List ℕ). got (head_in g t.value) t.end.at.bits t.end.last.bits ≡ (heads.head).reads (bits_of g) 0 0) c.in_ok-source.ensures c.in_ok-front.ensures.head in
    let name_at = subst (λ (g : List ℕ). PartAt g (name_place t.value) t.value.name) c.in_ok-source.ensures c.in_ok-front.ensures.name in
    let extra_at = subst (λ (g : List ℕ). PartAt g (extra_place t.value) t.value.extra) c.in_ok-source.ensures c.in_ok-front.ensures.extra in
    let name-is = item-of file _ t.value.name c.map.result c.map.ensures.cases (λ x y m. search (of_calls, m)) in
    let extra-is = item-of file _ t.value.extra c.map-2.result c.map-2.ensures.cases (λ x y m. search (of_calls, m)) in
    let size = room-size c.number_item.result t.value.size c.number_item.ensures in
    let name = room-name file (name_place t.value) c.map.result t.value.name name-is name_at in
    let items = items-are file t.value t.end.at.bits t.end.last.bits _ _ _ few c.number_item.ensures name-is extra-is head in
    record {
      items = items;
      name = stands file c.map.result t.value.name (name_place t.value) _ name-is name_at (omega (arith, size));
      extra = stands file c.map-2.result t.value.extra (extra_place t.value) _ extra-is extra_at (omega (arith, size, name));
      accepted = λ x h. items ∙ accepted-items file x h;
    }
