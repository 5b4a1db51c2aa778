use Rattle.std.proofs.Common.{◌^◌, refl, ◌≡◌, ℕ, ◌<◌, arith, codes}
use Rattle.std.specs.Fmt.{decimal, digits}
use Rattle.std.proofs.lemmas.Bool.Decides.{nat_tests}
use Rattle.blaze_int.specs.UIntPlusOne.{number_of}
use Rattle.blaze_int.specs.declared.uint_plus_one.UIntPlusOne.TheVariants.{UInt}
use Rattle.blaze_int.proofs.uint_plus_one.UIntPlusOneDisplay.fmt.Goals as goal

number-UInt : (n : ℕ) → n < 2 ^ 128 → number_of (UInt n) ≡ n
number-UInt n below = grind (arith, nat_tests)

greatest : decimal (2 ^ 128) ≡ codes "340282366920938463463374607431768211456"
unfolding digits
greatest = refl

pub returns-in-UInt-clause-writes : goal.returns-in-UInt-clause-writes
returns-in-UInt-clause-writes g c =
    let below : c.in-UInt.number < 2 ^ 128 = omega arith in
    rw (c.in-UInt.is, number-UInt c.in-UInt.number below) c.write.ensures.writes

pub returns-in-MaxPlusOne-clause-writes : goal.returns-in-MaxPlusOne-clause-writes
returns-in-MaxPlusOne-clause-writes g c = rw (c.in-MaxPlusOne.is, greatest) c.write_str.ensures.writes
