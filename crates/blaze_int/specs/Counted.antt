-- Lengths and their numbers. A value of a length type is a length if its number is at most `most`.
use Rattle.std.specs.Prelude.{◌≡◌, ◌↔◌, ◌≤◌, ℕ, Bool, IsTrue}
use Rattle.std.specs.Ordering.{nat_cmp}
use Rattle.std.specs.declared.cmp.Ordering.{Ordering}

-- Each number up to `most` belongs to exactly one length, and lengths compare as their numbers do. A variable of a
-- number type ranges over all numbers here. So each law has the premise that the variable's number is at most `most`.
pub record IsNumbered {L : Type 0} (number : L → ℕ) (most : ℕ) (cmp : L → L → Ordering) (eq : L → L → Bool) : Type 0 where
  pub one_value : (a b : L) → number a ≤ most → number a ≡ number b → a ≡ b
  pub has_value : (n : ℕ) → n ≤ most → (a : L) × (number a ≡ n)
  pub order : (a b : L) → number a ≤ most → number b ≤ most → cmp a b ≡ nat_cmp (number a) (number b)
  pub equal : (a b : L) → number a ≤ most → number b ≤ most → IsTrue (eq a b) ↔ (number a ≡ number b)
