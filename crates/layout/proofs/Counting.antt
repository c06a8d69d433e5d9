-- Words and their raw bytes.
use Rattle.std.proofs.Common.{◌≡◌, ℕ, zero, suc, ◌-◌, Bool, true, false, cond, eqb, leb, List, Some, None, Option, sym, refl, ap, ◌∙◌, arith}
use Rattle.std.proofs.lemmas.Bool.{eqb-true, leb-true}
use Rattle.std.specs.Option.{option_map}
use Rattle.forms.proofs.Codes.{some_same, none-some}
use Rattle.layout.specs.Recording.{Channel}
use Rattle.layout.specs.Turns.{Spot, advance, word_bytes, raw_bytes, count_words}

mapped-some : (o : Option ℕ) (n : ℕ) → option_map suc o ≡ Some n → (k : ℕ) × (o ≡ Some k) × (n ≡ suc k)
mapped-some None n e = absurd (none-some e)
mapped-some (Some k) n e = (k, refl, sym (some_same e))

-- the words that are counted have those raw bytes
pub counted-bytes : (cs : List Channel) (s : Spot) (k raw n : ℕ) → count_words cs s k raw ≡ Some n → raw_bytes cs s n ≡ raw
unfolding count_words raw_bytes
counted-bytes cs s zero raw n e = go (eqb raw 0) refl e
  where
    go : (t : Bool) → eqb raw 0 ≡ t → cond t (Some 0) None ≡ Some n → raw_bytes cs s n ≡ raw
    go true h d = ap (raw_bytes cs s) (sym (some_same d)) ∙ sym (eqb-true raw 0 h)
    go false h d = absurd (none-some d)
counted-bytes cs s (suc k) raw n e = go (eqb raw 0) refl (leb (word_bytes cs s) raw) refl (λ m d. counted-bytes cs (advance cs s) k (raw - word_bytes cs s) m d) e
  where
    go : (t : Bool) → eqb raw 0 ≡ t → (u : Bool) → leb (word_bytes cs s) raw ≡ u → ((m : ℕ) → count_words cs (advance cs s) k (raw - word_bytes cs s) ≡ Some m → raw_bytes cs (advance cs s) m ≡ raw - word_bytes cs s) →
        cond t (Some 0) (cond u (option_map suc (count_words cs (advance cs s) k (raw - word_bytes cs s))) None) ≡ Some n → raw_bytes cs s n ≡ raw
    go true h u i r d = ap (raw_bytes cs s) (sym (some_same d)) ∙ sym (eqb-true raw 0 h)
    go false h false i r d = absurd (none-some d)
    go false h true i r d =
        let (m, a, b) = mapped-some (count_words cs (advance cs s) k (raw - word_bytes cs s)) n d in
        let l = leb-true (word_bytes cs s) raw i in
        ap (raw_bytes cs s) b ∙ omega (arith, r m a)
