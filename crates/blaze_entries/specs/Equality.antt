-- Equality of lists of entries.
use Rattle.std.specs.Prelude.{Bool, List}
use Rattle.std.specs.Cmp.Lexicographic.{pointwise}
use Rattle.std.specs.Ordering.{int_eq, on, eq_of_both}
use Rattle.blaze_entries.specs.Entries.{Entry}

-- whether two entries have the same ends and equal values
abbrev pub same_entry : {V : Type 0} → (V → V → Bool) → Entry V → Entry V → Bool
same_entry eq = eq_of_both (eq_of_both (on (λ e. e.lo) int_eq) (on (λ e. e.hi) int_eq)) (on (λ e. e.value) eq)

-- whether two lists have the same length, and the same entry at each position
abbrev pub same_entries : {V : Type 0} → (V → V → Bool) → List (Entry V) → List (Entry V) → Bool
same_entries eq = pointwise (eq_of_both (eq_of_both (on (λ e. e.lo) int_eq) (on (λ e. e.hi) int_eq)) (on (λ e. e.value) eq))
