-- The canonical list of pairs: the result of painting them in order on an empty map. Each pair is a range with a value,
-- seen as an entry, and the later of two pairs wins.
use Rattle.std.specs.Prelude.{ℕ, ℤ, ◌+◌, ◌-◌, ◌*◌, ◌≤◌, int_le, length, Bool, if◌then◌else◌, List, [], ◌∷◌}
use Rattle.blaze_entries.specs.Entries.{Entry, at, SameOption}
use Rattle.blaze_entries.specs.Canonical.{IsRangeMap}
use Rattle.blaze_entries.specs.Painted.{painted_in_order}

-- the number of pairs that have a key
abbrev pub keyed_count : {V : Type 0} → List (Entry V) → ℕ
keyed_count [] = 0
keyed_count (p ∷ ps) = (if int_le p.lo p.hi then 1 else 0) + keyed_count ps

-- The list is that of a range map, with the content of the pairs painted in order on an empty map. If n pairs have a
-- key, it has at most 2n - 1 entries; if none has, it is empty.
pub record IsCanonicalOf {V : Type 0} (eq : V → V → Bool) (low high : ℤ) (pairs new : List (Entry V)) : Type 0 where
  pub range_map : IsRangeMap eq low high new
  pub content : (k : ℤ) → SameOption eq (at new k) (painted_in_order pairs (at []) k)
  pub few : length new ≤ 2 * keyed_count pairs - 1
