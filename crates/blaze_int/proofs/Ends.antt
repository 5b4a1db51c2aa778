-- Two bounds name no key if the rank of the end is below the rank of the start.
use Rattle.std.specs.Prelude.{◌≤ℤ◌, ◌<ℤ◌, ℤ}
use Rattle.std.specs.declared.ops.Bound.{Bound}
use Rattle.std.specs.declared.ops.Bound.TheVariants.{Included, Excluded, Unbounded}
use Rattle.std.proofs.Common.{arith}
use Rattle.std.proofs.lemmas.Int.{ints}
use Rattle.blaze_int.specs.Bounds.{IsFromStart, IsUpToEnd, start_rank, end_rank, IsNamed}

module _ {K : Type 0} (rank : K → ℤ) (low high : ℤ) where
  start_rank-least : (start : Bound K) (z : ℤ) → low ≤ℤ z → IsFromStart rank start z → start_rank rank low start ≤ℤ z
  start_rank-least (Included a) z l h = h
  start_rank-least (Excluded a) z l h = omega (arith, ints)
  start_rank-least Unbounded z l h = l

  end_rank-greatest : (end : Bound K) (z : ℤ) → z ≤ℤ high → IsUpToEnd rank end z → z ≤ℤ end_rank rank high end
  end_rank-greatest (Included b) z g h = h
  end_rank-greatest (Excluded b) z g h = omega (arith, ints)
  end_rank-greatest Unbounded z g h = g

  pub none_named : (start end : Bound K) → end_rank rank high end <ℤ start_rank rank low start → (z : ℤ) → ¬ IsNamed rank low high start end z
  none_named start end crossed z named =
      let from = start_rank-least start z named.0 named.2 in
      let to = end_rank-greatest end z named.1 named.3 in
      omega (arith, ints)
