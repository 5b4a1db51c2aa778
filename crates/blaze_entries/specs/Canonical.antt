-- The canonical form of a list of entries: by definition, from its content alone, and by structure.
use Rattle.std.specs.Prelude.{◌≡◌, ℤ, pos, ◌+ℤ◌, ◌-ℤ◌, ◌≤ℤ◌, ◌<ℤ◌, Bool, true, false, List, [], ◌∷◌, Option, IsSome, ◌⊎◌, ◌↔◌}
use Rattle.blaze_entries.specs.Entries.{Entry, holds, at, SameOption}

-- ---- by definition

-- a run of the content starts at the key: it has a value, and the key before has none or an unequal one
unfoldable pub IsRunStart : {V : Type 0} → (V → V → Bool) → (ℤ → Option V) → ℤ → Type 0
IsRunStart eq content k = IsSome (content k) × (¬ SameOption eq (content (k -ℤ pos 1)) (content k))

-- a run of the content ends at the key: it has a value, and the key after has none or an unequal one
unfoldable pub IsRunEnd : {V : Type 0} → (V → V → Bool) → (ℤ → Option V) → ℤ → Type 0
IsRunEnd eq content k = IsSome (content k) × (¬ SameOption eq (content k) (content (k +ℤ pos 1)))

-- an entry starts at the key
abbrev pub HasStart : {V : Type 0} → List (Entry V) → ℤ → Type 0
HasStart [] k = ⊥
HasStart (e ∷ es) k = (k ≡ e.lo) ⊎ HasStart es k

-- an entry ends at the key
abbrev pub HasEnd : {V : Type 0} → List (Entry V) → ℤ → Type 0
HasEnd [] k = ⊥
HasEnd (e ∷ es) k = (k ≡ e.hi) ⊎ HasEnd es k

-- no key is both in the entry's range and in the range of one of the entries
abbrev pub IsClear : {V : Type 0} → Entry V → List (Entry V) → Type 0
IsClear e [] = Unit {0}
IsClear e (f ∷ fs) = ((k : ℤ) → holds e k ≡ true → holds f k ≡ true → ⊥) × IsClear e fs

-- no range is empty, and no key is in two ranges
abbrev pub IsDisjoint : {V : Type 0} → List (Entry V) → Type 0
IsDisjoint [] = Unit {0}
IsDisjoint (e ∷ es) = (e.lo ≤ℤ e.hi) × IsClear e es × IsDisjoint es

-- each entry starts above the start of the previous one
abbrev pub IsAscending : {V : Type 0} → List (Entry V) → Type 0
IsAscending [] = Unit {0}
IsAscending (e ∷ []) = Unit {0}
IsAscending (e ∷ f ∷ fs) = (e.lo <ℤ f.lo) × IsAscending (f ∷ fs)

-- the ends of each range are keys
abbrev pub AreKeys : {V : Type 0} → ℤ → ℤ → List (Entry V) → Type 0
AreKeys low high [] = Unit {0}
AreKeys low high (e ∷ es) = (low ≤ℤ e.lo) × (e.hi ≤ℤ high) × AreKeys low high es

-- canonical: disjoint and ascending; the starts are exactly the run starts of the content, and the ends exactly its run
-- ends
pub record IsOnePerRun {V : Type 0} (eq : V → V → Bool) (entries : List (Entry V)) : Type 0 where
  pub disjoint : IsDisjoint entries
  pub ascending : IsAscending entries
  pub starts : (k : ℤ) → HasStart entries k ↔ IsRunStart eq (at entries) k
  pub ends : (k : ℤ) → HasEnd entries k ↔ IsRunEnd eq (at entries) k

-- the list of every range map: it is canonical, and its ends are keys
pub record IsRangeMap {V : Type 0} (eq : V → V → Bool) (low high : ℤ) (entries : List (Entry V)) : Type 0 where
  pub runs : IsOnePerRun eq entries
  pub keys : AreKeys low high entries

-- ---- by structure

-- the next entry starts above the end of this entry, and if the two touch, their values are unequal
abbrev pub IsApart : {V : Type 0} → (V → V → Bool) → Entry V → List (Entry V) → Type 0
IsApart eq e [] = Unit {0}
IsApart eq e (f ∷ fs) = (e.hi <ℤ f.lo) × (f.lo ≡ e.hi +ℤ pos 1 → eq e.value f.value ≡ false)

-- no range is empty, and each entry is apart from the next
abbrev pub IsCanonical : {V : Type 0} → (V → V → Bool) → List (Entry V) → Type 0
IsCanonical eq [] = Unit {0}
IsCanonical eq (e ∷ es) = (e.lo ≤ℤ e.hi) × IsApart eq e es × IsCanonical eq es
