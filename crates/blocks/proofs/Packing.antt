-- Packing a block, from the measure on.
use Rattle.std.proofs.Common.{◌≡◌, ℕ, ◌+◌, ◌/◌, ◌%◌, ◌<◌, ◌≤◌, Bool, true, false, cond, eqb, leb, List, ◌++◌, length, drop, Some, None, Option, sym, refl, ap, ◌∙◌, arith}
use Rattle.std.proofs.lemmas.Bool.{eq-eqb, le-leb, lt-leb}
use Rattle.std.specs.Option.{option_map}
use Rattle.bits.specs.Bits.{bytes_of}
use Rattle.bits.specs.Raw.{words_in}
use Rattle.forms.specs.Coding.{Coding}
use Rattle.forms.specs.Blocks.{block_bits}
use Rattle.forms.proofs.Codes.{some_same, none-some}
use Rattle.faults.specs.Faults.{Answer, gives, fault, number_of}
use Rattle.faults.specs.declared.kind.Fault.{Fault}
use Rattle.blocks.specs.Loops.{measured}
use Rattle.blocks.specs.Blocks.{room, over, pack_answer, pack_bytes}
use Rattle.blocks.proofs.Folds.{measured-block}

module _ {M : Type 0} (k size : ℕ) (C : Coding M) (raw : List ℕ) (e : size ≡ k) (whole : length raw % size ≡ 0) (few : length raw / size ≤ 65536) where
  block : Option (List Bool)
  block = block_bits C C.start (words_in k raw)

  test : eqb (length raw % k) 0 ≡ true
  test = eq-eqb (length raw % k) 0 (ap (λ z. length raw % z) (sym e) ∙ whole)

  few-test : leb (length raw / k) 65536 ≡ true
  few-test = le-leb (length raw / k) 65536 (rw (← e) few)

  -- past the first two faults
  reach : (z : ℕ) → pack_answer k C raw z ≡ room z block
  unfolding block
  reach z =
      ap (λ t. cond t (cond (leb (length raw / k) 65536) (room z (block_bits C C.start (words_in k raw))) (fault 9 0)) (fault 13 0)) test
      ∙ ap (λ t. cond t (room z (block_bits C C.start (words_in k raw))) (fault 9 0)) few-test

  reach-bytes : (out : List ℕ) → pack_bytes k C raw out ≡ over out block
  unfolding block
  reach-bytes out =
      ap (λ t. cond t (cond (leb (length raw / k) 65536) (over out (block_bits C C.start (words_in k raw))) out) out) test
      ∙ ap (λ t. cond t (over out (block_bits C C.start (words_in k raw))) out) few-test

  measured-is : (o : Option ℕ) → o ≡ measured C C.start 0 (words_in k raw) → o ≡ option_map (λ bs. 0 + length bs) block
  unfolding block
  measured-is o a = a ∙ measured-block C C.start 0 (words_in k raw)

  pub packed_none : (out : List ℕ) → None ≡ measured C C.start 0 (words_in k raw) → (fault 7 0 ≡ pack_answer k C raw (length out)) × (out ≡ pack_bytes k C raw out)
  packed_none out a = go block refl (measured-is None a)
    where
      go : (b : Option (List Bool)) → block ≡ b → None ≡ option_map (λ bs. 0 + length bs) b → (fault 7 0 ≡ pack_answer k C raw (length out)) × (out ≡ pack_bytes k C raw out)
      go None i d = (sym (reach (length out) ∙ ap (room (length out)) i), sym (reach-bytes out ∙ ap (over out) i))
      go (Some bs) i d = absurd (none-some d)

  pub packed-short : (out : List ℕ) (n : ℕ) → Some n ≡ measured C C.start 0 (words_in k raw) → length out < (n + 7) / 8 → (fault 2 0 ≡ pack_answer k C raw (length out)) × (out ≡ pack_bytes k C raw out)
  packed-short out n a l = go block refl (measured-is (Some n) a)
    where
      go : (b : Option (List Bool)) → block ≡ b → Some n ≡ option_map (λ bs. 0 + length bs) b → (fault 2 0 ≡ pack_answer k C raw (length out)) × (out ≡ pack_bytes k C raw out)
      go None i d = absurd (none-some (sym d))
      go (Some bs) i d =
          let m : 0 + length bs ≡ n = sym (some_same d) in
          let t : leb ((length bs + 7) / 8) (length out) ≡ false = lt-leb ((length bs + 7) / 8) (length out) (omega arith) in
          (sym (reach (length out) ∙ ap (room (length out)) i ∙ ap (λ z. cond z (gives (length bs)) (fault 2 0)) t), sym (reach-bytes out ∙ ap (over out) i ∙ ap (λ z. cond z (bytes_of bs ++ drop ((length bs + 7) / 8) out) out) t))

  pub packed-done : (out new : List ℕ) (n : ℕ) → Some n ≡ measured C C.start 0 (words_in k raw) → (n + 7) / 8 ≤ length out → new ≡ over out (block_bits C C.start (words_in k raw)) →
      (gives n ≡ pack_answer k C raw (length out)) × (new ≡ pack_bytes k C raw out)
  unfolding block
  packed-done out new n a l w = (go block refl (measured-is (Some n) a), w ∙ sym (reach-bytes out))
    where
      go : (b : Option (List Bool)) → block ≡ b → Some n ≡ option_map (λ bs. 0 + length bs) b → gives n ≡ pack_answer k C raw (length out)
      go None i d = absurd (none-some (sym d))
      go (Some bs) i d =
          let m : 0 + length bs ≡ n = sym (some_same d) in
          let j : length bs ≡ n = omega arith in
          let t : leb ((length bs + 7) / 8) (length out) ≡ true = le-leb ((length bs + 7) / 8) (length out) (omega arith) in
          sym (reach (length out) ∙ ap (room (length out)) i ∙ ap (λ z. cond z (gives (length bs)) (fault 2 0)) t ∙ ap gives j)

-- a fault's number and place
pub faulted : {A : Type 0} (f k : Fault) → f ≡ k → ◌≡◌ {A = Answer A} (fault (number_of f.kind) f.place.bits) (fault (number_of k.kind) k.place.bits)
faulted {A} f k e = ap {B = Answer A} (λ z. fault (number_of z.kind) z.place.bits) e
