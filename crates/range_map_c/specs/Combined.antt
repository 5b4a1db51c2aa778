-- A range whose values are combined with one value by an operation.
use Rattle.std.specs.Prelude.{◌≡◌, ◌⊎◌, ℕ, ℤ, ◌≤ℤ◌, ◌+◌, ◌%◌, ◌^◌, ◌==◌, ◌<ℤ◌, int_le, if◌then◌else◌, min, max, bit_and, bit_or, bit_xor, List, Option, Some, None, nat_eq}
use Rattle.blaze_entries.specs.Entries.{Entry, at, SameOption}
use Rattle.blaze_entries.specs.Canonical.{IsRangeMap, HasEnd}
use Rattle.blaze_streams.specs.Fills.{IsFilledWithNone}
use Rattle.range_map_blaze.specs.UpdateLaws.{changed}

-- The result of the operation of a number on the old value and the given one: 0 their sum modulo 2^64, 1 the lesser, 2 the greater, 3
-- the bits that both have, 4 the bits that either has, 5 the bits that exactly one has, 6 the old value. No call passes another number.
abbrev pub operated : ℕ → ℕ → ℕ → ℕ
operated op old v =
    if op == 0 then (old + v) % 2 ^ 64 else
    if op == 1 then min old v else
    if op == 2 then max old v else
    if op == 3 then bit_and old v else
    if op == 4 then bit_or old v else
    if op == 5 then bit_xor old v else
    old

-- the value of a key afterwards: if it had none, the given value if the place is 0, for all keys, and otherwise none
abbrev pub combined : ℕ → ℕ → ℕ → Option ℕ → Option ℕ
combined op place v None = if place == 0 then Some v else None
combined op place v (Some old) = Some (operated op old v)

-- the change leaves the value of each key from l to h as it is
unfoldable pub LeavesAll : ℤ → ℤ → (Option ℕ → Option ℕ) → List (Entry ℕ) → Type 0
LeavesAll l h change entries = (k : ℤ) → l ≤ℤ k → k ≤ℤ h → change (at entries k) ≡ at entries k

-- The keys from l to h are in pieces, the longest ranges there on which the list does not change: its entries, cut to these keys, and
-- its gaps. One of them ends at k.
pub record IsEndOfPiece (l h k : ℤ) (entries : List (Entry ℕ)) : Type 0 where
  pub pieces : List (Entry (Option ℕ))
  pub are_pieces : IsFilledWithNone nat_eq l h entries pieces
  pub is_end : HasEnd pieces k

-- `change` gives the value of a key from l to h afterwards, by its old one
module _ (low high l h : ℤ) (change : Option ℕ → Option ℕ) (old new : List (Entry ℕ)) where
  -- a range map that has at each key from l to h the changed value, and elsewhere the old one
  pub record IsCombined : Type 0 where
    pub range_map : IsRangeMap nat_eq low high new
    pub content : (k : ℤ) → SameOption nat_eq (at new k) (changed l h change (at old) k)

  -- a range map that has at the keys up to the end of a piece, perhaps of none, the changed values, and elsewhere the old ones
  pub record IsPartCombined : Type 0 where
    pub last : ℤ
    pub is_end : (last <ℤ l) ⊎ IsEndOfPiece l h last old
    pub range_map : IsRangeMap nat_eq low high new
    pub content : (k : ℤ) → SameOption nat_eq (at new k) (if int_le k last then changed l h change (at old) k else at old k)
