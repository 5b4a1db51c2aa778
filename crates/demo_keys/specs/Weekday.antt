-- The days of the week by their numbers.
use Rattle.std.specs.Prelude.{◌≡◌, ℕ, pos, ◌≤ℤ◌}
use Rattle.std.proofs.Common.{refl, zero, suc, arith}
use Rattle.std.proofs.lemmas.Bool.Decides.{nat_tests}
use Rattle.std.proofs.lemmas.Int.{ints}
use Rattle.demo_keys.specs.declared.weekday.Weekday.{Weekday}
use Rattle.demo_keys.specs.declared.weekday.Weekday.TheVariants.{Monday, Tuesday, Wednesday, Thursday, Friday, Saturday, Sunday}

-- the number of days after Monday
abbrev pub days_after_monday : Weekday → ℕ
days_after_monday Monday = 0
days_after_monday Tuesday = 1
days_after_monday Wednesday = 2
days_after_monday Thursday = 3
days_after_monday Friday = 4
days_after_monday Saturday = 5
days_after_monday Sunday = 6

-- the day that is `n` days after Monday
abbrev pub day_at : ℕ → Weekday
day_at zero = Monday
day_at (suc zero) = Tuesday
day_at (suc (suc zero)) = Wednesday
day_at (suc (suc (suc zero))) = Thursday
day_at (suc (suc (suc (suc zero)))) = Friday
day_at (suc (suc (suc (suc (suc zero))))) = Saturday
day_at (suc (suc (suc (suc (suc (suc n)))))) = Sunday

pub day_at-days_after_monday : (day : Weekday) → day_at (days_after_monday day) ≡ day
day_at-days_after_monday Monday = refl
day_at-days_after_monday Tuesday = refl
day_at-days_after_monday Wednesday = refl
day_at-days_after_monday Thursday = refl
day_at-days_after_monday Friday = refl
day_at-days_after_monday Saturday = refl
day_at-days_after_monday Sunday = refl

pub days_after_monday-day_at : (n : ℕ) → pos 0 ≤ℤ pos n → pos n ≤ℤ pos 6 → days_after_monday (day_at n) ≡ n
days_after_monday-day_at n l h = grind (arith, nat_tests, ints)
