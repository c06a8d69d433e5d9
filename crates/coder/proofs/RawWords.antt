-- The raw words of a slice, one after the other.
use Rattle.std.proofs.Common.{◌≡◌, ℕ, suc, ◌+◌, ◌-◌, ◌*◌, ◌/◌, ◌<◌, ◌≤◌, Bool, true, false, cond, List, [], ◌∷◌, length, take, drop, Some, None, refl, sym, ap, ◌∙◌, arith, length-drop}
use Rattle.std.proofs.Math.Seq.{take-length}
use Rattle.forms.proofs.Codes.{some_same, none-some}
use Rattle.std.proofs.lemmas.Bool.Decides.{nat_tests}
use Rattle.bits.specs.Bits.{field_at}
use Rattle.bits.specs.Raw.{words_in}
use Rattle.bits.proofs.Raw.{words_more, words-none}
use Rattle.fields.specs.Fields.{is_raw}

module _ (w k p : ℕ) (some : 0 < w) (most : w ≤ 32) (e : k ≡ (w + 7) / 8) (z : p ≡ 0) (raw : List ℕ) where
  room : (t : Bool) → is_raw p k (length raw) ≡ t → t ≡ true → k ≤ length raw
  room t a b = grind (arith, nat_tests)

  no_room : (t : Bool) → is_raw p k (length raw) ≡ t → t ≡ false → length raw < k
  no_room t a b = grind (arith, nat_tests)

  -- no word is left
  pub ended : None ≡ cond (is_raw p k (length raw)) (Some (field_at raw (8 * p) (8 * k))) None → words_in ((w + 7) / 8) raw ≡ []
  ended h = ap (λ n. words_in n raw) (sym e) ∙ words-none k raw (go (is_raw p k (length raw)) refl h)
    where
      go : (t : Bool) → is_raw p k (length raw) ≡ t → None ≡ cond t (Some (field_at raw (8 * p) (8 * k))) None → length raw < k
      go true a i = absurd (none-some i)
      go false a i = no_room false a refl

  -- the first word, and those behind it
  pub begun : (v : ℕ) → Some v ≡ cond (is_raw p k (length raw)) (Some (field_at raw (8 * p) (8 * k))) None → words_in ((w + 7) / 8) raw ≡ v ∷ words_in ((w + 7) / 8) (take (length raw - k) (drop k raw))
  begun v h = go (is_raw p k (length raw)) refl h
    where
      go : (t : Bool) → is_raw p k (length raw) ≡ t → Some v ≡ cond t (Some (field_at raw (8 * p) (8 * k))) None → words_in ((w + 7) / 8) raw ≡ v ∷ words_in ((w + 7) / 8) (take (length raw - k) (drop k raw))
      go true a i =
          let l : k ≤ length raw = room true a refl in
          let x : v ≡ field_at raw 0 (8 * k) = some_same i ∙ ap (λ n. field_at raw n (8 * k)) (omega arith) in
          let y : take (length raw - k) (drop k raw) ≡ drop k raw = ap (λ n. take n (drop k raw)) (sym (length-drop k raw)) ∙ take-length (drop k raw) in
          ap (λ n. words_in n raw) (sym e) ∙ words_more k raw (omega arith) l ∙ ap (λ n. n ∷ words_in k (drop k raw)) (sym x) ∙ ap (λ n. v ∷ words_in k n) (sym y) ∙ ap (λ n. v ∷ words_in n (take (length raw - k) (drop k raw))) e
      go false a i = absurd (none-some (sym i))
