-- Natural numbers, and whole numbers that are not negative.
use Rattle.std.proofs.Common.{◌≡◌, ◌<◌, ◌≤◌, ℕ, zero, suc, ◌+◌, ℤ, pos, negsuc, ◌≤ℤ◌, false, refl, nat_eq, arith}
use Rattle.std.proofs.lemmas.Int.{ints}
use Rattle.blaze_int.specs.Unsigned.{nat_of}

pub nat_of-pos : (z : ℤ) → pos 0 ≤ℤ z → pos (nat_of z) ≡ z
nat_of-pos (pos n) h = refl
nat_of-pos (negsuc n) h = absurd (omega (arith, ints))

pub pos_injective : (m n : ℕ) → pos m ≡ pos n → m ≡ n
pos_injective m n e = cc

pub next_differs : (n : ℕ) → nat_eq n (n + 1) ≡ false
next_differs n = grind arith

-- by cases: one number is less than the other, or not
pub by_less : {P : Type 0} (j n : ℕ) → (j < n → P) → (n ≤ j → P) → P
by_less j zero below above = above (omega arith)
by_less zero (suc n) below above = below (omega arith)
by_less (suc j) (suc n) below above = by_less j n (λ h. below (omega (arith, h))) (λ h. above (omega (arith, h)))
