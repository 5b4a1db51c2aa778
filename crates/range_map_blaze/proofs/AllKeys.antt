-- A map with its gaps filled, of a stream of every key.
use Rattle.range_map_blaze.proofs.Words.{ℤ, ◌≤ℤ◌, Bool, List, Option, Some, None, refl, IsSome, option_eq, IsEquivalence, options_equiv, same_along, Entry, at, SameOption, SameEntries, content_as, back, IsFilledWithNone, AreGapsFilled}
use Rattle.range_map_blaze.proofs.Streams.{range_map_as}

module _ {V : Type 0} (eq : V → V → Bool) (laws : IsEquivalence eq) (low high : ℤ) (entries : List (Entry V)) where
  pub gaps_filled : (filled new : List (Entry (Option V))) → IsFilledWithNone eq low high entries filled → SameEntries (option_eq eq) filled new → AreGapsFilled eq low high entries new
  gaps_filled filled new f s = record {
    range_map = range_map_as (option_eq eq) (options_equiv laws) low high filled new s f.range_map;
    content = λ k l u. same_along (option_eq eq) refl (f.content k l u) (back (option_eq eq) (options_equiv laws) filled new (content_as (option_eq eq) (options_equiv laws) filled new s) k);
  }

  pub every_key : (new : List (Entry (Option V))) → AreGapsFilled eq low high entries new → (k : ℤ) → low ≤ℤ k → k ≤ℤ high → IsSome (at new k)
  every_key new f k l u = some_of (at new k) (at entries k) (f.content k l u)
    where
      some_of : (x : Option (Option V)) (y : Option V) → SameOption (option_eq eq) x (Some y) → IsSome x
      some_of None y s = absurd s
      some_of (Some x) y s = refl
