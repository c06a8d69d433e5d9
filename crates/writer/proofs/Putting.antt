-- One word put: the step's answer, and that of the call.
use Rattle.std.proofs.Common.{◌≡◌, ℕ, ◌+◌, ◌*◌, ◌≤◌, Bool, true, false, cond, not, ltb, leb, List, length, Some, None, Option, sym, refl, ap, ◌∙◌, subst, arith}
use Rattle.std.proofs.lemmas.Bool.Decides.{nat_tests}
use Rattle.bits.specs.Bits.{put_bits}
use Rattle.forms.proofs.Codes.{none-some}
use Rattle.faults.specs.Faults.{Answer, gives, fault}
use Rattle.coder.specs.Steps.{laid, laid_bytes}
use Rattle.layout.specs.Channels.{ruled}
use Rattle.layout.specs.Slim.{most_bytes}
use Rattle.layout.specs.Turns.{following}
use Rattle.channel.specs.declared.record.Channel.{Channel}
use Rattle.channel.specs.Records.{settings_of}
use Rattle.channel.specs.declared.channel_coder.ChannelCoder.{ChannelCoder}
use Rattle.channel.specs.Piles.{CoderOf}
use Rattle.channel.specs.Words.{kept_put}
use Rattle.state.specs.declared.Spot.{Spot}
use Rattle.calls.specs.Calls.{Trouble, strange, row_bytes, form_fault, form_in, memory_of, put_fault, moved_on}

-- ## Answers apart

abbrev fault_of : {A : Type 0} → Answer A → Option Trouble
fault_of (gives a) = None
fault_of (fault n p) = Some (n, p)

abbrev given_of : {A : Type 0} → A → Answer A → A
given_of d (gives a) = a
given_of d (fault n p) = d

-- the coder that was handed out is the row's
pub coded_by : (r : Channel) (k : ChannelCoder) (o : Option ChannelCoder) → o ≡ Some k → CoderOf (settings_of r) o → CoderOf (settings_of r) (Some k)
coded_by r k o e h = subst (CoderOf (settings_of r)) e h

-- ## The step's answer, by the form

-- what a form's room decides
pub record FormPut (at len n m : ℕ) (b : List ℕ) (f : Option (List Bool × (ℕ × Unit {0}))) : Type 0 where
  pub fault : form_fault at len f ≡ None
  pub length : n ≡ length (form_in f)
  pub memory : m ≡ memory_of f
  pub room : at + n ≤ 8 * len
  pub bytes : laid_bytes at b f ≡ put_bits b at (form_in f)

ltb-leb : (x y : ℕ) (t : Bool) → leb x y ≡ t → ltb y x ≡ not t
ltb-leb x y true e = grind (arith, nat_tests)
ltb-leb x y false e = grind (arith, nat_tests)

room_of : (x y : ℕ) → leb x y ≡ true → x ≤ y
room_of x y e = grind (arith, nat_tests)

step : (at : ℕ) (b : List ℕ) (s : List Bool) (k : ℕ × Unit {0}) (t : Bool) → leb (at + length s) (8 * length b) ≡ t → (n m : ℕ) →
    gives (n, m) ≡ kept_put (cond t (gives (length s, k)) (fault 2 at)) → FormPut at (length b) n m b (Some (s, k))
step at b s k true e n m h =
    let l : n ≡ length s = ap (λ a. (given_of {A = ℕ × ℕ} (0, 0) a).0) h in
    record {
      fault = ap (λ z. cond {A = Option Trouble} z (Some (2, at)) None) (ltb-leb (at + length s) (8 * length b) true e);
      length = l;
      memory = ap (λ a. (given_of {A = ℕ × ℕ} (0, 0) a).1) h;
      room = rw l (room_of (at + length s) (8 * length b) e);
      bytes = ap (λ z. cond z (put_bits b at s) b) e;
    }
step at b s k false e n m h = absurd (none-some (ap fault_of h))

pub form_put : (at : ℕ) (b : List ℕ) (n m : ℕ) (f : Option (List Bool × (ℕ × Unit {0}))) → gives (n, m) ≡ kept_put (laid at (length b) f) → FormPut at (length b) n m b f
form_put at b n m None h = absurd (none-some (ap fault_of h))
form_put at b n m (Some (s, k)) h = step at b s k (leb (at + length s) (8 * length b)) refl n m h

-- a word that was refused
pub record FormRefused (at len n p : ℕ) (b : List ℕ) (f : Option (List Bool × (ℕ × Unit {0}))) : Type 0 where
  pub fault : form_fault at len f ≡ Some (n, p)
  pub bytes : laid_bytes at b f ≡ b

short : (at : ℕ) (b : List ℕ) (s : List Bool) (k : ℕ × Unit {0}) (t : Bool) → leb (at + length s) (8 * length b) ≡ t → (n p : ℕ) →
    fault n p ≡ kept_put (cond t (gives (length s, k)) (fault 2 at)) → FormRefused at (length b) n p b (Some (s, k))
short at b s k true e n p h = absurd (none-some (sym (ap fault_of h)))
short at b s k false e n p h = record {
  fault = ap (λ z. cond {A = Option Trouble} z (Some (2, at)) None) (ltb-leb (at + length s) (8 * length b) false e) ∙ sym (ap fault_of h);
  bytes = ap (λ z. cond z (put_bits b at s) b) e;
}

pub form_refused : (at : ℕ) (b : List ℕ) (n p : ℕ) (f : Option (List Bool × (ℕ × Unit {0}))) → fault n p ≡ kept_put (laid at (length b) f) → FormRefused at (length b) n p b f
form_refused at b n p None h = record { fault = sym (ap fault_of h); bytes = refl }
form_refused at b n p (Some (s, k)) h = short at b s k (leb (at + length s) (8 * length b)) refl n p h

-- ## The call's fault, once the tests before the form are passed

pub form-decides : (s : Spot) (len rows : ℕ) (c : Channel) (f : Option (List Bool × (ℕ × Unit {0}))) → strange s len rows ≡ false → ruled (settings_of c) ≡ true → s.edge.raw + s.raw + row_bytes c ≤ most_bytes →
    put_fault s len rows c f ≡ form_fault s.at.bits len f
form-decides s len rows c f x y z =
    let l : ltb most_bytes (s.edge.raw + (s.raw + row_bytes c)) ≡ false = grind (arith, nat_tests) in
    let A : Option Trouble = Some (1, 0) in
    let B : Option Trouble = Some (7, s.at.bits) in
    let C : Option Trouble = Some (9, s.at.bits) in
    let F = form_fault s.at.bits len f in
    ap (λ t. cond t A (cond (not (ruled (settings_of c))) B (cond (ltb most_bytes (s.edge.raw + (s.raw + row_bytes c))) C F))) x
    ∙ ap (λ t. cond (not t) B (cond (ltb most_bytes (s.edge.raw + (s.raw + row_bytes c))) C F)) y
    ∙ ap (λ t. cond t C F) l

-- ## What a moved spot keeps

pub record Moved (s : Spot) (c : Channel) (n : ℕ) (r : Spot) : Type 0 where
  pub edge : r.edge ≡ s.edge
  pub at : r.at.bits ≡ s.at.bits + n
  pub raw : r.raw ≡ s.raw + row_bytes c

pub moved : (s : Spot) (c : Channel) (n : ℕ) → Moved s c n (moved_on s c n)
moved s c n = by-test (leb c.settings.repeats (s.given + 1))
  where
    by-test : (t : Bool) → Moved s c n (cond t
        (record { edge = s.edge; at = record { bits = s.at.bits + n }; rows = s.rows; channel = following s.rows s.channel; given = 0; raw = s.raw + row_bytes c })
        (record { edge = s.edge; at = record { bits = s.at.bits + n }; rows = s.rows; channel = s.channel; given = s.given + 1; raw = s.raw + row_bytes c }))
    by-test true = record { edge = refl; at = refl; raw = refl }
    by-test false = record { edge = refl; at = refl; raw = refl }

-- a length that is not strange is the one before
pub same_length : (s : Spot) (len rows : ℕ) → strange s len rows ≡ false → (len ≡ s.edge.len) × (rows ≡ s.rows)
same_length s len rows e = (grind (arith, nat_tests), grind (arith, nat_tests))
