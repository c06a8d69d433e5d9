-- The coders.
use Rattle.std.specs.Prelude.{ℕ, ◌+◌, ◌-◌, ◌*◌, ◌/◌, ◌%◌, ◌^◌, Bool, true, false, cond, Some, None, nat_lt}
use Rattle.forms.specs.Code.{Code, ends, field, renamed}
use Rattle.forms.specs.Coding.{Coding}

-- (x - p) mod 2 ^ w
abbrev pub minus : ℕ → ℕ → ℕ → ℕ
minus w p x = (x + (2 ^ w - p % 2 ^ w)) % 2 ^ w

-- (x + p) mod 2 ^ w
abbrev pub plus : ℕ → ℕ → ℕ → ℕ
plus w p x = (x + p % 2 ^ w) % 2 ^ w

-- x turned right by b within w bits
abbrev pub rotr : ℕ → ℕ → ℕ → ℕ
rotr w b x = (x % 2 ^ b) * 2 ^ (w - b) + x / 2 ^ b

-- one code, and no memory
abbrev pub plain : Code → Coding (Unit {0})
plain t = record { start = tt; code = λ m. t; after = λ m x. m }

-- null: w bits are the word
abbrev pub null : ℕ → Code
null w = field w (λ v. ends (Some v))

-- constant: no bits, one word
abbrev pub constant : ℕ → Code
constant c = ends (Some c)

-- reduced: R bits for the words from p on; the last of their numbers, and then the word in w bits, for any other.
-- A word that R bits could say is not to be said so: that form is dead.
unfoldable pub after_few : ℕ → ℕ → ℕ → ℕ → Bool → Code
after_few w R p v true = ends (Some (plus w p v))
after_few w R p v false = field w (λ d. ends (cond (nat_lt (minus w p d) (2 ^ R - 1)) None (Some d)))

abbrev pub reduced : ℕ → ℕ → ℕ → Code
reduced w R p = field R (λ v. after_few w R p v (nat_lt v (2 ^ R - 1)))

-- turn: the word is turned right by b within w bits, and passed on
abbrev pub turn : {M : Type 0} → ℕ → ℕ → Coding M → Coding M
turn w b C = record {
  start = C.start;
  code = λ m. renamed (rotr w (w - b)) (C.code m);
  after = λ m x. C.after m (rotr w b x);
}

-- delta: the word less the one before is passed on; the memory is that word, 0 at the start, beside the memory within
abbrev pub delta : {M : Type 0} → ℕ → Coding M → Coding (ℕ × M)
delta w C = record {
  start = (0, C.start);
  code = λ m. renamed (plus w m.0) (C.code m.1);
  after = λ m x. (x, C.after m.1 (minus w m.0 x));
}

-- the same coder, with a word of memory beside its own that it does not use
abbrev pub beside : {M : Type 0} → Coding M → Coding (ℕ × M)
beside C = record {
  start = (0, C.start);
  code = λ m. C.code m.1;
  after = λ m x. (m.0, C.after m.1 x);
}

-- delta where it is flagged
abbrev pub delta_if : {M : Type 0} → ℕ → Bool → Coding M → Coding (ℕ × M)
delta_if w true C = delta w C
delta_if w false C = beside C
