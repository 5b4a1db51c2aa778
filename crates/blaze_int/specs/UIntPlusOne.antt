-- `UIntPlusOne`: the numbers from 0 to 2^128, in their order.
use Rattle.std.specs.Prelude.{◌≡◌, ◌↔◌, ◌≤◌, ◌^◌, ◌+◌, ◌==◌, ℕ, false, IsTrue, if◌then◌else◌, nat_lt}
use Rattle.std.specs.Ordering.{nat_cmp}
use Rattle.std.proofs.Common.{refl, ap, arith, inl, inr, Less, Greater}
use Rattle.std.proofs.lemmas.Bool.{cases_lt}
use Rattle.std.proofs.lemmas.Bool.Decides.{nat_tests}
use Rattle.blaze_int.specs.declared.uint_plus_one.UIntPlusOne.{UIntPlusOne}
use Rattle.blaze_int.specs.declared.uint_plus_one.UIntPlusOne.TheVariants.{UInt, MaxPlusOne}

-- the number of a value; a `UInt` whose content is no `u128` gets 2^128 + 1
abbrev pub number_of : UIntPlusOne → ℕ
number_of (UInt n) = if nat_lt n (2 ^ 128) then n else 2 ^ 128 + 1
number_of MaxPlusOne = 2 ^ 128

pub one_value : (a b : UIntPlusOne) → number_of a ≤ 2 ^ 128 → number_of a ≡ number_of b → a ≡ b
one_value (UInt m) (UInt n) f e = ap UInt (grind (arith, nat_tests))
one_value (UInt m) MaxPlusOne f e = absurd (grind (arith, nat_tests))
one_value MaxPlusOne (UInt n) f e = absurd (grind (arith, nat_tests))
one_value MaxPlusOne MaxPlusOne f e = refl

pub has_value : (n : ℕ) → n ≤ 2 ^ 128 → (a : UIntPlusOne) × (number_of a ≡ n)
has_value n h = elim (cases_lt n (2 ^ 128)) [
  | inl below ↦ (UInt n, grind (arith, nat_tests))
  | inr above ↦ (MaxPlusOne, omega arith)
]

-- the order, case by case
pub order-UInt : (m n : ℕ) → number_of (UInt m) ≤ 2 ^ 128 → number_of (UInt n) ≤ 2 ^ 128 → nat_cmp m n ≡ nat_cmp (number_of (UInt m)) (number_of (UInt n))
order-UInt m n f g = grind (arith, nat_tests)

pub order-below : (n : ℕ) → number_of (UInt n) ≤ 2 ^ 128 → Less ≡ nat_cmp (number_of (UInt n)) (2 ^ 128)
order-below n f = grind (arith, nat_tests)

pub order-above : (n : ℕ) → number_of (UInt n) ≤ 2 ^ 128 → Greater ≡ nat_cmp (2 ^ 128) (number_of (UInt n))
order-above n f = grind (arith, nat_tests)

-- equality, case by case
pub equal-UInt : (m n : ℕ) → number_of (UInt m) ≤ 2 ^ 128 → number_of (UInt n) ≤ 2 ^ 128 → IsTrue (m == n) ↔ (number_of (UInt m) ≡ number_of (UInt n))
equal-UInt m n f g = grind (arith, nat_tests)

pub equal-below : (n : ℕ) → IsTrue false ↔ (number_of (UInt n) ≡ 2 ^ 128)
equal-below n = grind (arith, nat_tests)

pub equal-above : (n : ℕ) → IsTrue false ↔ (2 ^ 128 ≡ number_of (UInt n))
equal-above n = grind (arith, nat_tests)
