-- Words one behind the other, seen from the end.
use Rattle.std.proofs.Common.{◌≡◌, ℕ, ◌+◌, Bool, List, [], ◌∷◌, ◌++◌, length, Some, Option, sym, refl, ap, ◌∙◌, append_assoc, append-nil, arith}
use Rattle.forms.specs.Code.{Means, form_of}
use Rattle.format.specs.Word.{given}
use Rattle.layout.specs.Recording.{Channel}
use Rattle.layout.specs.Channels.{code_at}
use Rattle.layout.specs.Turns.{channel_of, word_bytes, raw_bytes, Turn, memory_of, next_turn}
use Rattle.layout.specs.Plain.{Every, Formed}
use Rattle.layout.proofs.Spots.{Inside, advance-inside}
use Rattle.calls.proofs.Pieces.{words_bits}

-- the turn behind some words
unfoldable pub turn_after : List Channel → Turn → List ℕ → Turn
turn_after cs t [] = t
turn_after cs t (x ∷ xs) = turn_after cs (next_turn cs t x) xs

-- the form of the next word
abbrev pub form_next : List Channel → Turn → ℕ → Option (List Bool)
form_next cs t x = form_of (code_at (channel_of cs t.spot) (memory_of t)) x

pub turn_more : (cs : List Channel) (t : Turn) (ws : List ℕ) (x : ℕ) → turn_after cs t (ws ++ x ∷ []) ≡ next_turn cs (turn_after cs t ws) x
unfolding turn_after
turn_more cs t [] x = refl
turn_more cs t (w ∷ ws) x = turn_more cs (next_turn cs t w) ws x

pub words_more : (cs : List Channel) (t : Turn) (ws : List ℕ) (x : ℕ) → words_bits cs t (ws ++ x ∷ []) ≡ words_bits cs t ws ++ given (form_next cs (turn_after cs t ws) x)
unfolding turn_after words_bits
words_more cs t [] x = append-nil (given (form_next cs t x))
words_more cs t (w ∷ ws) x =
    ap (λ y. given (form_next cs t w) ++ y) (words_more cs (next_turn cs t w) ws x)
    ∙ sym (append_assoc (given (form_next cs t w)) (words_bits cs (next_turn cs t w) ws) (given (form_next cs (turn_after cs (next_turn cs t w) ws) x)))

pub formed-more : (cs : List Channel) (t : Turn) (ws : List ℕ) (x : ℕ) → Formed cs t ws →
    ((s : List Bool) × Means (code_at (channel_of cs (turn_after cs t ws).spot) (memory_of (turn_after cs t ws))) s (Some x)) → Formed cs t (ws ++ x ∷ [])
unfolding turn_after Formed
formed-more cs t [] x h m = (m, tt)
formed-more cs t (w ∷ ws) x h m = (h.0, formed-more cs (next_turn cs t w) ws x h.1 m)

pub raw-more : (cs : List Channel) (t : Turn) (ws : List ℕ) (x : ℕ) → raw_bytes cs t.spot (length (ws ++ x ∷ [])) ≡ raw_bytes cs t.spot (length ws) + word_bytes cs (turn_after cs t ws).spot
unfolding turn_after raw_bytes
raw-more cs t [] x = omega arith
raw-more cs t (w ∷ ws) x = omega (arith, raw-more cs (next_turn cs t w) ws x)

pub turn_inside : (cs : List Channel) (t : Turn) (ws : List ℕ) → Inside cs t.spot → Inside cs (turn_after cs t ws).spot
unfolding turn_after
turn_inside cs t [] h = h
turn_inside cs t (w ∷ ws) h = turn_inside cs (next_turn cs t w) ws (advance-inside cs t.spot h)

pub every_more : {A : Type 0} (P : A → Type 0) (xs : List A) (x : A) → Every P xs → P x → Every P (xs ++ x ∷ [])
unfolding Every
every_more P [] x h p = (p, tt)
every_more P (y ∷ xs) x h p = (h.0, every_more P xs x h.1 p)
