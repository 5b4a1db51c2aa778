-- The laws of canonical lists.
use Rattle.std.specs.Prelude.{◌≡◌, ◌↔◌, ◌≤◌, ℤ, pos, length, Bool, List}
use Rattle.blaze_entries.specs.Entries.{Entry, at, SameContent, SameEntries}
use Rattle.blaze_entries.specs.Canonical.{IsAscending, IsDisjoint, IsOnePerRun, IsCanonical, IsRangeMap}
use Rattle.blaze_entries.specs.Count.{keys_in, mapped_keys}
use Rattle.blaze_entries.specs.Pairs.{pair_list, ArePairsOf}

-- a list is canonical by structure exactly if it is canonical by definition
abbrev pub StructureIsDefinition : {V : Type 0} → (V → V → Bool) → Type 0
StructureIsDefinition {V} eq = (L : List (Entry V)) → IsCanonical eq L ↔ IsOnePerRun eq L

-- canonical lists with the same content have the same ranges and equal values, position by position
abbrev pub CanonicalIsUnique : {V : Type 0} → (V → V → Bool) → Type 0
CanonicalIsUnique {V} eq = (L M : List (Entry V)) → IsOnePerRun eq L → IsOnePerRun eq M → SameContent eq L M → SameEntries eq L M

-- no disjoint list with the content of a canonical list has fewer entries
abbrev pub CanonicalIsFewest : {V : Type 0} → (V → V → Bool) → Type 0
CanonicalIsFewest {V} eq = (L M : List (Entry V)) → IsOnePerRun eq L → IsDisjoint M → SameContent eq L M → length L ≤ length M

-- The only shortest list: no disjoint list with its content has fewer entries. An ascending disjoint list with that
-- content and as many entries has the same ranges and equal values, position by position.
pub record IsShortest {V : Type 0} (eq : V → V → Bool) (entries : List (Entry V)) : Type 0 where
  pub fewest : (others : List (Entry V)) → IsDisjoint others → SameContent eq entries others → length entries ≤ length others
  pub only : (others : List (Entry V)) → IsDisjoint others → IsAscending others → SameContent eq entries others → length others ≡ length entries → SameEntries eq entries others

-- a canonical list is the only shortest list with its content
abbrev pub CanonicalIsShortest : {V : Type 0} → (V → V → Bool) → Type 0
CanonicalIsShortest {V} eq = (L : List (Entry V)) → IsOnePerRun eq L → IsShortest eq L

-- the lengths of a range map's ranges add up to the number of keys that have a value
abbrev pub LengthsAreMapped : {V : Type 0} → (V → V → Bool) → Type 0
LengthsAreMapped {V} eq = (low high : ℤ) (es : List (Entry V)) → IsRangeMap eq low high es → keys_in es ≡ pos (mapped_keys low high (at es))

-- The pair list of a range map has each key with a value once, ascending, with that value. Its length is the number of
-- those keys.
abbrev pub PairsAreContent : {K V : Type 0} → (K → ℤ) → (ℤ → K) → (V → V → Bool) → ℤ → ℤ → Type 0
PairsAreContent {K} {V} rank of_rank eq low high = (es : List (Entry V)) → IsRangeMap eq low high es → ArePairsOf rank (at es) (pair_list of_rank es) × (pos (length (pair_list of_rank es)) ≡ keys_in es)
