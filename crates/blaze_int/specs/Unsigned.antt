-- The unsigned number types. A number is its own rank as a key and its own number as a length.
use Rattle.std.specs.Prelude.{◌≡◌, ◌<◌, ◌≤◌, ◌+◌, ◌==◌, ◌≤ℤ◌, ◌<ℤ◌, ℕ, ℤ, pos, negsuc, IsTrue, ◌↔◌}
use Rattle.std.specs.Cmp.{int_cmp_is, ranked}
use Rattle.std.specs.Ordering.{nat_cmp, int_cmp, MatchOrdering}
use Rattle.std.specs.declared.cmp.Ordering.{Ordering}
use Rattle.std.specs.declared.cmp.Ordering.TheVariants.{Less, Equal, Greater}
use Rattle.std.proofs.Common.{refl, ap, arith}
use Rattle.std.proofs.lemmas.Bool.Decides.{Decides-eqb}
use Rattle.std.proofs.lemmas.Int.{ints}
use Rattle.blaze_int.specs.Ranked.{IsRanked, key_count}
use Rattle.blaze_int.specs.Counted.{IsNumbered}

-- the natural number of a whole number that is not negative
abbrev pub nat_of : ℤ → ℕ
nat_of (pos n) = n
nat_of (negsuc n) = 0

by_rank : (x y : ℕ) (r : Ordering) → MatchOrdering r (x < y) (x ≡ y) (y < x) → MatchOrdering r (pos x <ℤ pos y) (pos x ≡ pos y) (pos y <ℤ pos x)
by_rank x y Less h = omega (arith, ints)
by_rank x y Equal h = ap pos h
by_rank x y Greater h = omega (arith, ints)

-- natural numbers compare as whole numbers
pub nat_cmp-int_cmp : (x y : ℕ) → nat_cmp x y ≡ int_cmp (pos x) (pos y)
nat_cmp-int_cmp x y = int_cmp_is (pos x) (pos y) (nat_cmp x y) (by_rank x y (nat_cmp x y) (ranked x y (nat_cmp x y) refl))

has_key : (z : ℤ) → pos 0 ≤ℤ z → pos (nat_of z) ≡ z
has_key (pos n) l = refl
has_key (negsuc n) l = absurd (omega (arith, ints))

equal : (a b : ℕ) → IsTrue (a == b) ↔ (pos a ≡ pos b)
equal a b = let d = Decides-eqb a b in ((λ e. ap pos (d.0 e)), (λ e. d.1 (ap nat_of e)))

-- the numbers from 0 to `high`
pub unsigned-ranked : (high : ℕ) → IsRanked (λ x. pos x) nat_of (pos 0) (pos high) nat_cmp (λ x y. x == y)
unsigned-ranked high = record {
  some_key = omega (arith, ints);
  one_key = λ k l h. refl;
  has_key = λ z l h. has_key z l;
  order = λ a b _ _ _ _. nat_cmp-int_cmp a b;
  equal = λ a b _ _ _ _. equal a b;
}

pub unsigned-room : (high most : ℕ) → high + 1 ≤ most → key_count (pos 0) (pos high) ≤ℤ pos most
unsigned-room high most h = omega (arith, ints)

pub unsigned-counted : (most : ℕ) → IsNumbered (λ x. x) most nat_cmp (λ x y. x == y)
unsigned-counted most = record {
  one_value = λ a b f e. e;
  has_value = λ n h. (n, refl);
  order = λ a b f g. refl;
  equal = λ a b f g. Decides-eqb a b;
}
