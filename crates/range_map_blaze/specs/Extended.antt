-- Pairs that are painted in order: each pair is a range with a value, seen as an entry, and the later pair wins.
use Rattle.std.specs.List.{Contains}
use Rattle.std.specs.Prelude.{◌≡◌, ℤ, ◌<ℤ◌, ◌+◌, ◌-◌, ◌*◌, ◌≤◌, ◌⊎◌, length, Bool, List, [], ◌∷◌, ◌++◌}
use Rattle.blaze_entries.specs.Entries.{Entry, at, SameOption}
use Rattle.blaze_entries.specs.Canonical.{IsRangeMap}
use Rattle.blaze_entries.specs.Painted.{IsInside, IsPainted, LeavesAlone, painted_in_order}

-- a key and an item that stands for its value, as the entry of that key alone
abbrev pub shown_point : {T R V : Type 0} → (T → ℤ) → (R → V) → T × R → Entry V
shown_point rank shown p = record { lo = rank p.0; hi = rank p.0; value = shown p.1 }

-- each pair has no key, or is inside one entry with an equal value
abbrev pub AreInside : {V : Type 0} → (V → V → Bool) → List (Entry V) → List (Entry V) → Type 0
AreInside eq [] es = Unit {0}
AreInside eq (p ∷ ps) es = ((p.hi <ℤ p.lo) ⊎ IsInside eq p.lo p.hi p.value es) × AreInside eq ps es

-- a paint of each pair leaves the entry alone
abbrev pub AreLeftAlone : {V : Type 0} → (V → V → Bool) → List (Entry V) → Entry V → Type 0
AreLeftAlone eq [] e = Unit {0}
AreLeftAlone eq (p ∷ ps) e = LeavesAlone eq p e × AreLeftAlone eq ps e

-- a pair is painted: one that has no key, or is inside an entry with an equal value, changes nothing, not even the stored value
pub record IsPairPainted {V : Type 0} (eq : V → V → Bool) (low high : ℤ) (p : Entry V) (old new : List (Entry V)) : Type 0 where
  pub painted : IsPainted eq low high p old new
  pub nowhere : p.hi <ℤ p.lo → new ≡ old
  pub inside : IsInside eq p.lo p.hi p.value old → new ≡ old

-- the pairs are painted one by one, each on the list that the one before gave
abbrev pub ArePaintedInTurn : {V : Type 0} → (V → V → Bool) → ℤ → ℤ → List (Entry V) → List (Entry V) → List (Entry V) → Type 0
ArePaintedInTurn eq low high [] old new = new ≡ old
ArePaintedInTurn {V} eq low high (p ∷ ps) old new = (next : List (Entry V)) × IsPairPainted eq low high p old next × ArePaintedInTurn eq low high ps next new

-- a first part of the pairs, perhaps none of them, is painted one by one
pub record IsPartPaintedInTurn {V : Type 0} (eq : V → V → Bool) (low high : ℤ) (pairs old new : List (Entry V)) : Type 0 where
  pub done : List (Entry V)
  pub rest : List (Entry V)
  pub parts : pairs ≡ done ++ rest
  pub painted : ArePaintedInTurn eq low high done old new

-- A range map on which pairs are painted in order: its content is the painted one, each pair adds two entries at most, the
-- first pair of all one. Pairs that are all inside entries with equal values change nothing, not even the stored values. An
-- entry that every pair leaves alone remains, with its stored value.
pub record IsExtended {V : Type 0} (eq : V → V → Bool) (low high : ℤ) (pairs old new : List (Entry V)) : Type 0 where
  pub range_map : IsRangeMap eq low high new
  pub content : (k : ℤ) → SameOption eq (at new k) (painted_in_order pairs (at old) k)
  pub few : length new ≤ length old + 2 * length pairs
  pub alone : old ≡ [] → length new ≤ 2 * length pairs - 1
  pub inside : AreInside eq pairs old → new ≡ old
  pub kept : (e : Entry V) → Contains old e → AreLeftAlone eq pairs e → Contains new e
