-- What a comparison returns, and what follows from its result.
use Rattle.std.proofs.Common.{◌≡◌, ℤ, ◌≤ℤ◌, ◌<ℤ◌, Bool, true, false, cond, refl, ap, arith}
use Rattle.std.specs.Prelude.{int_lt, int_le, ◌&&◌}
use Rattle.std.specs.Int.{int_max}
use Rattle.std.specs.Ordering.{int_eq}
use Rattle.std.proofs.lemmas.Int.{ints}

-- by cases of a `bool`
pub by_bool : {P : Type 0} (b : Bool) → (b ≡ true → P) → (b ≡ false → P) → P
by_bool true t f = t refl
by_bool false t f = f refl

-- ---- whole numbers: the result of a comparison

pub lt_true : (a b : ℤ) → a <ℤ b → int_lt a b ≡ true
lt_true a b h = grind (arith, ints)

pub lt_false : (a b : ℤ) → b ≤ℤ a → int_lt a b ≡ false
lt_false a b h = grind (arith, ints)

pub le_true : (a b : ℤ) → a ≤ℤ b → int_le a b ≡ true
le_true a b h = grind (arith, ints)

pub le_false : (a b : ℤ) → b <ℤ a → int_le a b ≡ false
le_false a b h = grind (arith, ints)

pub eq_true : (a b : ℤ) → a ≡ b → int_eq a b ≡ true
eq_true a b h = grind (arith, ints)

-- ---- whole numbers: what follows from a result

pub lt_holds : (a b : ℤ) → int_lt a b ≡ true → a <ℤ b
lt_holds a b h = grind (arith, ints)

pub lt_fails : (a b : ℤ) → int_lt a b ≡ false → b ≤ℤ a
lt_fails a b h = grind (arith, ints)

pub le_holds : (a b : ℤ) → int_le a b ≡ true → a ≤ℤ b
le_holds a b h = grind (arith, ints)

pub le_fails : (a b : ℤ) → int_le a b ≡ false → b <ℤ a
le_fails a b h = grind (arith, ints)

pub eq_holds : (a b : ℤ) → int_eq a b ≡ true → a ≡ b
eq_holds a b h = grind (arith, ints)

-- ---- two tests at once

pub and_fails : (a b : Bool) → (a && b) ≡ false → a ≡ true → b ≡ false
and_fails true b p q = p
and_fails false b p q = cc

pub not_both : (b : Bool) → b ≡ true → b ≡ false → ⊥
not_both b p q = cc

-- ---- the greater of two

pub max_right : (a b : ℤ) → a ≤ℤ b → int_max a b ≡ b
max_right a b h = ap (λ t. cond t a b) (lt_false b a h)
