-- Lists in two parts, the ranges with positions and the values at these positions: the words of this crate's own functions. No public
-- clause names them.
use Rattle.std.specs.Prelude.{◌≡◌, ℕ, ◌+◌, ℤ, Bool, List, [], ◌∷◌, map, Option, Some, None}
use Rattle.std.specs.List.{slice_get}
use Rattle.std.specs.Option.{option_and_then}
use Rattle.blaze_entries.specs.Entries.{Entry, entry}
use Rattle.blaze_entries.specs.Canonical.{IsRangeMap}

-- the entries, each with the result of a function at its value
abbrev pub with_values : {A B : Type 0} → (A → B) → List (Entry A) → List (Entry B)
with_values f es = map (λ e. entry e.lo e.hi (f e.value)) es

-- the ranges of a list, each with its position; the first has the position i
abbrev pub in_places : {V : Type 0} → ℕ → List (Entry V) → List (Entry ℕ)
in_places i [] = []
in_places i (e ∷ es) = entry e.lo e.hi i ∷ in_places (i + 1) es

-- the list has the ranges, with the values at their positions
abbrev pub HasPlacedValues : {V : Type 0} → List V → List (Entry ℕ) → List (Entry V) → Type 0
HasPlacedValues vs ranges list = with_values (slice_get vs) ranges ≡ with_values Some list

-- each list has its ranges, with its values at their positions
abbrev pub AllPlaced : {V : Type 0} → List (List V) → List (List (Entry ℕ)) → List (List (Entry V)) → Type 0
AllPlaced [] [] [] = Unit {0}
AllPlaced [] [] (L ∷ Ls) = ⊥
AllPlaced [] (N ∷ Ns) Ls = ⊥
AllPlaced (vs ∷ vss) [] Ls = ⊥
AllPlaced (vs ∷ vss) (N ∷ Ns) [] = ⊥
AllPlaced (vs ∷ vss) (N ∷ Ns) (L ∷ Ls) = HasPlacedValues vs N L × AllPlaced vss Ns Ls

-- a range with a value before other entries, where there is a value
abbrev pub with_valued_range : {V : Type 0} → Entry ℕ → Option V → List (Entry V) → List (Entry V)
with_valued_range r None es = es
with_valued_range r (Some v) es = entry r.lo r.hi v ∷ es

-- the ranges with the values at their positions
abbrev pub ranges_with_values : {V : Type 0} → List V → List (Entry ℕ) → List (Entry V)
ranges_with_values vs [] = []
ranges_with_values vs (r ∷ rs) = with_valued_range r (slice_get vs r.value) (ranges_with_values vs rs)

-- the ranges of each list, with the values at their positions
abbrev pub all_valued : {V : Type 0} → List (List V) → List (List (Entry ℕ)) → List (List (Entry V))
all_valued [] Ns = []
all_valued (vs ∷ vss) [] = []
all_valued (vs ∷ vss) (N ∷ Ns) = ranges_with_values vs N ∷ all_valued vss Ns

-- the values at some positions, one of each list
abbrev pub values_at_positions : {V : Type 0} → List (List V) → List (Option ℕ) → List (Option V)
values_at_positions [] places = []
values_at_positions (vs ∷ vss) [] = []
values_at_positions (vs ∷ vss) (position ∷ places) = option_and_then (slice_get vs) position ∷ values_at_positions vss places

-- each list is a range map's
abbrev pub AllRangeMaps : {V : Type 0} → (V → V → Bool) → ℤ → ℤ → List (List (Entry V)) → Type 0
AllRangeMaps eq low high [] = Unit {0}
AllRangeMaps eq low high (L ∷ Ls) = IsRangeMap eq low high L × AllRangeMaps eq low high Ls
