-- Raw bytes whose words are one byte each.
use Rattle.std.proofs.Common.{◌≡◌, ℕ, suc, ◌%◌, ◌^◌, ◌<◌, false, cond, ◌||◌, eqb, ltb, List, [], ◌∷◌, length, refl, ap, ◌∙◌, arith}
use Rattle.std.proofs.lemmas.List.{append-nil}
use Rattle.std.proofs.lemmas.Bool.Decides.{nat_tests}
use Rattle.bits.specs.Bits.{bits, bits_of, number, Bytes}
use Rattle.bits.proofs.Numbers.{number-bits}
use Rattle.layout.specs.Turns.{first}
use Rattle.calls.specs.Calls.{raw_words, words_of}
use Rattle.slim_file.specs.Files.{setting}

-- one byte is one word
word : (x : ℕ) → x < 256 → number (bits_of (x ∷ [])) ≡ x
unfolding bits_of
word x h = ap number (append-nil (bits 8 x)) ∙ number-bits 8 x ∙ small
  where
    small : x % 2 ^ 8 ≡ x
    small = omega arith

pub words-raw : (xs : List ℕ) → Bytes xs → words_of (setting ∷ []) xs ≡ xs
unfolding raw_words Bytes
words-raw [] h = refl
words-raw (x ∷ xs) (h, r) =
    let t : (eqb (suc (length xs)) 0 || ltb (suc (length xs)) 1) ≡ false = grind (arith, nat_tests) in
    let rest : List ℕ = raw_words (setting ∷ []) first (length xs) xs in
    ap (λ z. cond {A = List ℕ} z [] (number (bits_of (x ∷ [])) ∷ rest)) t ∙ ap (λ z. z ∷ rest) (word x h) ∙ ap (λ z. x ∷ z) (words-raw xs r)
