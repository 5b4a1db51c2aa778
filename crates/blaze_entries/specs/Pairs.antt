-- The pair list of a range map: each key that has a value, ascending, with that value.
use Rattle.blaze_int.specs.Unsigned.{nat_of}
use Rattle.std.specs.Prelude.{◌≡◌, ℕ, zero, suc, ℤ, pos, ◌+ℤ◌, ◌-ℤ◌, ◌<ℤ◌, List, [], ◌∷◌, ◌++◌, Option, Some, None, if◌then◌else◌}
use Rattle.std.specs.Ordering.{int_eq}
use Rattle.blaze_entries.specs.Entries.{Entry}

-- n keys, from the key with the rank a on, each with the value v
abbrev pub pairs_from : {K V : Type 0} → (ℤ → K) → ℤ → ℕ → V → List (K × V)
pairs_from of_rank a zero v = []
pairs_from of_rank a (suc n) v = (of_rank a, v) ∷ pairs_from of_rank (a +ℤ pos 1) n v

-- the keys of an entry, each with its value
abbrev pub pairs_of : {K V : Type 0} → (ℤ → K) → Entry V → List (K × V)
pairs_of of_rank e = pairs_from of_rank e.lo (nat_of (e.hi -ℤ e.lo +ℤ pos 1)) e.value

-- the keys of the entries, each with its value, in order
abbrev pub pair_list : {K V : Type 0} → (ℤ → K) → List (Entry V) → List (K × V)
pair_list of_rank [] = []
pair_list of_rank (e ∷ es) = pairs_of of_rank e ++ pair_list of_rank es

-- the content of a list of pairs: the value of the first pair whose key has the rank k
abbrev pub value_at : {K V : Type 0} → (K → ℤ) → List (K × V) → ℤ → Option V
value_at rank [] k = None
value_at rank (p ∷ ps) k = if int_eq k (rank p.0) then Some p.1 else value_at rank ps k

-- each key is above the previous one
abbrev pub IsAscendingPairs : {K V : Type 0} → (K → ℤ) → List (K × V) → Type 0
IsAscendingPairs rank [] = Unit {0}
IsAscendingPairs rank (p ∷ []) = Unit {0}
IsAscendingPairs rank (p ∷ q ∷ ps) = (rank p.0 <ℤ rank q.0) × IsAscendingPairs rank (q ∷ ps)

-- each key that has a value is in the list once, ascending, with that value
pub record ArePairsOf {K V : Type 0} (rank : K → ℤ) (content : ℤ → Option V) (pairs : List (K × V)) : Type 0 where
  pub ascending : IsAscendingPairs rank pairs
  pub same : (k : ℤ) → value_at rank pairs k ≡ content k
