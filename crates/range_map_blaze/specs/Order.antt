-- The order of range maps.
use Rattle.std.specs.Prelude.{◌≡◌, ◌+◌, ◌<◌, length, ℤ, List}
use Rattle.std.specs.declared.cmp.Ordering.{Ordering}
use Rattle.std.specs.Ordering.{int_cmp, on, then_cmp, ordering_then}
use Rattle.std.specs.Cmp.Lexicographic.{slice_cmp}
use Rattle.blaze_entries.specs.Entries.{Entry}
use Rattle.blaze_entries.specs.Pairs.{pair_list}

module _ {V : Type 0} where
  -- each key of each entry, by its rank, with the entry's value, in order
  abbrev pub ranked_pairs : List (Entry V) → List (ℤ × V)
  ranked_pairs = pair_list (λ k. k)

  module _ (value : V → V → Ordering) where
    -- pairs compare by key, and then by the values' own order
    abbrev pub pair_cmp : ℤ × V → ℤ × V → Ordering
    pair_cmp = then_cmp (on (λ p. p.0) int_cmp) (on (λ p. p.1) value)

    -- the lexicographic order of the lists of pairs: the first two pairs that differ decide, and a proper prefix is less
    abbrev pub pairs_cmp : List (Entry V) → List (Entry V) → Ordering
    pairs_cmp = on (pair_list (λ k. k)) (slice_cmp (then_cmp (on (λ p. p.0) int_cmp) (on (λ p. p.1) value)))

    -- entries compare by their ends, and then by the values' own order
    abbrev pub entry_cmp : Entry V → Entry V → Ordering
    entry_cmp = then_cmp (then_cmp (on (λ e. e.lo) int_cmp) (on (λ e. e.hi) int_cmp)) (on (λ e. e.value) value)

    -- The order of maps as an order of all lists of entries, as the laws of order need it: that of their pairs. Unequal
    -- lists may have the same pairs where they are no maps' lists; these go by their entries.
    abbrev pub map_cmp : List (Entry V) → List (Entry V) → Ordering
    map_cmp = then_cmp (on (pair_list (λ k. k)) (slice_cmp (then_cmp (on (λ p. p.0) int_cmp) (on (λ p. p.1) value))))
        (slice_cmp (then_cmp (then_cmp (on (λ e. e.lo) int_cmp) (on (λ e. e.hi) int_cmp)) (on (λ e. e.value) value)))

    -- first entries compare by their first pairs
    abbrev pub first_cmp : Entry V → Entry V → Ordering
    first_cmp e f = ordering_then (int_cmp e.lo f.lo) (value e.value f.value)

    -- the tails of two lists compare as the lists did, and have fewer entries
    pub record IsComparedOn (left other left_rest other_rest : List (Entry V)) : Type 0 where
      pub order : pairs_cmp left other ≡ pairs_cmp left_rest other_rest
      pub fewer : length left_rest + length other_rest < length left + length other
