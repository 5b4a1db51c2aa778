-- Keys and their ranks. A rank is a whole number. A value of a key type is a key if its rank is from `low` to `high`.
use Rattle.std.specs.Prelude.{◌≡◌, ◌↔◌, ℤ, pos, ◌+ℤ◌, ◌-ℤ◌, ◌≤ℤ◌, Bool, IsTrue, Option, MatchOption}
use Rattle.std.specs.Ordering.{int_cmp}
use Rattle.std.specs.declared.cmp.Ordering.{Ordering}

-- the value is a key
abbrev pub IsKey : {K : Type 0} → (K → ℤ) → ℤ → ℤ → K → Type 0
IsKey rank low high k = (low ≤ℤ rank k) × (rank k ≤ℤ high)

-- the number of keys
abbrev pub key_count : ℤ → ℤ → ℤ
key_count low high = (high -ℤ low) +ℤ pos 1

-- A key exists, each number from `low` to `high` is the rank of exactly one key, and keys compare as their ranks do. A
-- variable of a number type ranges over all numbers here. So each law has the premise that the variable's rank is from
-- `low` to `high`.
pub record IsRanked {K : Type 0} (rank : K → ℤ) (of_rank : ℤ → K) (low high : ℤ) (cmp : K → K → Ordering) (eq : K → K → Bool) : Type 0 where
  pub some_key : low ≤ℤ high
  pub one_key : (k : K) → low ≤ℤ rank k → rank k ≤ℤ high → of_rank (rank k) ≡ k
  pub has_key : (z : ℤ) → low ≤ℤ z → z ≤ℤ high → rank (of_rank z) ≡ z
  pub order : (a b : K) → low ≤ℤ rank a → rank a ≤ℤ high → low ≤ℤ rank b → rank b ≤ℤ high
      → cmp a b ≡ int_cmp (rank a) (rank b)
  pub equal : (a b : K) → low ≤ℤ rank a → rank a ≤ℤ high → low ≤ℤ rank b → rank b ≤ℤ high
      → IsTrue (eq a b) ↔ (rank a ≡ rank b)

-- the key of the next rank, or `None` exactly if `k` is the greatest key
abbrev pub IsNextKey : {K : Type 0} → (K → ℤ) → ℤ → K → Option K → Type 0
IsNextKey rank high k next = MatchOption next (rank k ≡ high) (λ n. (rank n ≡ rank k +ℤ pos 1) × (rank n ≤ℤ high))
