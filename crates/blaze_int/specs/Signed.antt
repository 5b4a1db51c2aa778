-- The signed number types: a number is its own rank.
use Rattle.std.specs.Prelude.{◌≤ℤ◌, ℕ, pos, negsuc, ◌+◌, ◌≤◌}
use Rattle.std.specs.Ordering.{int_cmp, int_eq}
use Rattle.std.proofs.Common.{refl, arith}
use Rattle.std.proofs.lemmas.Bool.Decides.{Decides-int_eq}
use Rattle.std.proofs.lemmas.Int.{ints}
use Rattle.blaze_int.specs.Ranked.{IsRanked, key_count}

-- the numbers from `-half - 1` to `half`
pub signed-ranked : (half : ℕ) → IsRanked (λ x. x) (λ z. z) (negsuc half) (pos half) int_cmp int_eq
signed-ranked half = record {
  some_key = omega (arith, ints);
  one_key = λ k l h. refl;
  has_key = λ z l h. refl;
  order = λ a b _ _ _ _. refl;
  equal = λ a b _ _ _ _. Decides-int_eq a b;
}

pub signed-room : (half most : ℕ) → half + half + 2 ≤ most → key_count (negsuc half) (pos half) ≤ℤ pos most
signed-room half most h = omega (arith, ints)
