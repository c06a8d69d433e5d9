-- The head of a section: its front, and its rows.
use Rattle.std.proofs.Common.{◌≡◌, ℕ, ◌+◌, Bool, cond, List, [], ◌∷◌, ◌++◌, length, sym, refl, ap, ◌∙◌, append_assoc}
use Rattle.bits.specs.Bits.{bits}
use Rattle.format.specs.Cells.{filled}
use Rattle.format.specs.Format.{each, each_cells, times}
use Rattle.format.proofs.Filling.{filled-append}
use Rattle.format.proofs.Written.{field-bits, whole-bits, choose-bits, then-bits}
use Rattle.layout.specs.Recording as recordings
use Rattle.layout.specs.Slim.{channel, recorded}
use Rattle.channel.specs.Descriptions.{description_bits}
use Rattle.state.specs.declared.Flags.{Flags}
use Rattle.calls.specs.Parts.{open_bits, described, written}
use Rattle.calls.specs.Calls.{flags}
use Rattle.calls.proofs.Steady.{steady-channel}
use Rattle.openings.specs.Steps.{front, rows_bits}

rows-cells : (kept : Bool) (p : ℕ) (cs : List recordings.Channel) → filled (each_cells (λ (u : Unit {0}). channel kept) (λ u a. tt) tt p cs) ≡ rows_bits kept cs
unfolding each_cells rows_bits description_bits filled
rows-cells kept p [] = refl
rows-cells kept p (c ∷ cs) =
    let C = (channel kept).cells p c in
    let R = each_cells (λ (u : Unit {0}). channel kept) (λ u a. tt) tt (p + length C) cs in
    filled-append C R ∙ ap (λ z. filled z ++ filled R) (steady-channel kept p 0 c) ∙ ap (λ z. filled ((channel kept).cells 0 c) ++ z) (rows-cells kept (p + length C) cs)

rows-bits : (n : ℕ) (kept : Bool) (p : ℕ) (cs : List recordings.Channel) → filled ((times n (channel kept)).cells p cs) ≡ rows_bits kept cs
unfolding times each
rows-bits n kept p cs = rows-cells kept p cs

described-bits : (g : Flags) (cs : List recordings.Channel) → written (described (flags g)) 0 cs ≡ cond g.single [] (bits 24 (length cs)) ++ rows_bits (recorded (flags g) (length cs)) cs
unfolding described
described-bits g cs =
    then-bits _ _ 0 cs _ _ (choose-bits g.single _ _ 0 (length cs) _ _ (whole-bits 1 0 (length cs)) (field-bits 24 _ 5 0 (length cs))) (λ p. rows-bits (length cs) (recorded (flags g) (length cs)) p cs)

pub opening-is : (g : Flags) (cs : List recordings.Channel) → open_bits (flags g) 0 0 cs ≡ front g (length cs) ++ rows_bits (recorded (flags g) (length cs)) cs
unfolding open_bits front
opening-is g cs =
    let P = cond g.pointed (bits 32 0) [] in
    let N = cond g.single [] (bits 24 (length cs)) in
    let R = rows_bits (recorded (flags g) (length cs)) cs in
    ap (λ z. bits 32 0 ++ (P ++ z)) (described-bits g cs) ∙ ap (λ z. bits 32 0 ++ z) (sym (append_assoc P N R)) ∙ sym (append_assoc (bits 32 0) (P ++ N) R)
