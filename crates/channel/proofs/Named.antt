-- What the numbers in a channel's settings name.
use Rattle.std.proofs.Common.{◌≡◌, ℕ, ◌<◌, Ok, Err, arith}
use Rattle.std.proofs.lemmas.Bool.Decides.{nat_tests}
use Rattle.layout.specs.Channels.{width}
use Rattle.channel.specs.declared.names.Method.TheVariants.{Null, Reduced, Constant}
use Rattle.channel.specs.declared.names.WordSize.{WordSize}
use Rattle.channel.specs.declared.names.WordSize.TheVariants.{Byte, Half, Full}
use Rattle.channel.specs.declared.names.Unnamed.{Unnamed}
use Rattle.channel.specs.Names.{method_named, size_named, size_bits}

pub size-width : (t : ℕ) (s : WordSize) → Ok s ≡ size_named t → size_bits s ≡ width t
size-width t Byte e = grind (arith, nat_tests)
size-width t Half e = grind (arith, nat_tests)
size-width t Full e = grind (arith, nat_tests)

pub size_none : (t : ℕ) (u : Unnamed) → Err u ≡ size_named t → width t ≡ 0
size_none t u e = grind (arith, nat_tests)

pub named-reduced : (a : ℕ) → Ok Reduced ≡ method_named a → a ≡ 1
named-reduced a e = grind (arith, nat_tests)

pub named-constant : (a : ℕ) → Ok Constant ≡ method_named a → a ≡ 6
named-constant a e = grind (arith, nat_tests)

pub named_null : (a : ℕ) → Ok Null ≡ method_named a → a ≡ 0
named_null a e = grind (arith, nat_tests)

pub unnamed : (a : ℕ) (u : Unnamed) → Err u ≡ method_named a → (a ≡ 1 → ⊥) × (a ≡ 6 → ⊥)
unnamed a u e = (λ i. one i e, λ i. six i e)
  where
    one : a ≡ 1 → Err u ≡ method_named a → ⊥
    one i e = grind (arith, nat_tests)

    six : a ≡ 6 → Err u ≡ method_named a → ⊥
    six i e = grind (arith, nat_tests)

pub size_some : (s : WordSize) → 0 < size_bits s
size_some Byte = omega arith
size_some Half = omega arith
size_some Full = omega arith
