use Rattle.std.proofs.Common.{ℕ, ◌+◌, ◌*◌, ◌/◌, ◌%◌, List, sym, ap, ◌∙◌, arith}
use Rattle.std.proofs.lemmas.List.{take_rest}
use Rattle.bits.specs.Bits.{field_at}
use Rattle.bits.proofs.Places.{take-window, place}
use Rattle.fields.proofs.field.word_at.Goals as goal

pub returns-then-p-file : goal.returns-then-p-file
returns-then-p-file c =
    let f : List ℕ = c.args.file.now in
    let at : ℕ = c.args.at in
    take-window f (at / 8) (at % 8) c.load.result (omega arith) (omega arith) c.load.ensures (c.type_inv.file (at / 8 + 8)).fits
    ∙ ap (λ z. field_at f z 64) (sym (place at))

pub returns-else-p-file : goal.returns-else-p-file
returns-else-p-file c =
    let f : List ℕ = c.args.file.now in
    let at : ℕ = c.args.at in
    c.take_by_bytes.ensures ∙ ap (λ g. field_at g (8 * (at / 8) + at % 8) 64) (take_rest f 0) ∙ ap (λ z. field_at f z 64) (sym (place at))
