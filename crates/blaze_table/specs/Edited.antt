-- An edit of a list in place: a range of keys is freed. The part of an entry above the range becomes a separate entry.
-- The entry below the range is shortened, and the entries that start in it are removed.
use Rattle.std.specs.Prelude.{◌≡◌, ◌+◌, length, ◌⊎◌, ℤ, pos, ◌+ℤ◌, ◌≤ℤ◌, ◌<ℤ◌, ◌||◌, Bool, true, false, int_lt, List, Option, Some, None, IsSome, IsSomeAnd}
use Rattle.std.specs.List.{last_or}
use Rattle.std.specs.Option.{option_map}
use Rattle.blaze_entries.specs.Found.{range_in, shown_ends}
use Rattle.blaze_entries.specs.Starts.{below, start_at, with_entry, IsStartMoved}
use Rattle.blaze_entries.specs.declared.scan.Plan.{Plan}
use Rattle.blaze_entries.specs.Entries.{Entry, entry}
use Rattle.blaze_table.specs.Planned.{inner_entries, moved_count, IsLikeAbove, IsTail}
use Rattle.blaze_entries.specs.Splice.{before}

-- the ends of an existing entry that extends above z, where no entry starts right above z
abbrev pub HasRoom : {V : Type 0} → ℤ → List (Entry V) → Option (ℤ × ℤ) → Type 0
HasRoom z es None = Unit {0}
HasRoom z es (Some r) = (z <ℤ r.1) × IsSome (start_at r.0 es) × (start_at (z +ℤ pos 1) es ≡ None)

-- The part above z of the entry from r.0 to r.1 became a separate entry. The entry was moved there, or, if it starts
-- below l, a new entry with the value `tail_value` was inserted.
abbrev pub IsTailSplit : {V : Type 0} → ℤ → ℤ → Option (ℤ × ℤ) → Option V → List (Entry V) → List (Entry V) → Type 0
IsTailSplit l z None tail_value old new = new ≡ old
IsTailSplit l z (Some r) tail_value old new = ((r.0 <ℤ l) × IsSomeAnd tail_value (λ v. new ≡ with_entry (entry (z +ℤ pos 1) r.1 v) old)) ⊎ ((l ≤ℤ r.0) × IsStartMoved r.0 (z +ℤ pos 1) old new)

-- The ends of the last entry that starts below l. They may be missing if that entry also ends below l.
abbrev pub IsPredecessor : {V : Type 0} → ℤ → List (Entry V) → Option (ℤ × ℤ) → Type 0
IsPredecessor l es None = before l es ≡ es
IsPredecessor l es (Some r) = Some r ≡ option_map range_in (last_or None es)

-- if the entry with the given ends starts below l, `tail_value` is equal to its value
abbrev pub IsLikeTail : {V : Type 0} → (V → V → Bool) → ℤ → List (Entry V) → Option (ℤ × ℤ) → Option V → Type 0
IsLikeTail eq l es None tail_value = Unit {0}
IsLikeTail eq l es (Some r) tail_value = r.0 <ℤ l → (e : Entry _) → start_at r.0 es ≡ Some e → IsSomeAnd tail_value (λ v. eq e.value v ≡ true)

-- whether the edit removes the entry that starts at l: it exists and does not extend above the range
abbrev pub is_removed : {X : Type 0} → ℤ → Option X → Option (ℤ × ℤ) → Bool
is_removed l None tail = false
is_removed l (Some f) None = true
is_removed l (Some f) (Some r) = int_lt l r.0 || int_lt r.0 l

-- what an edit of the keys from l to the plan's end requires to be true of the plan and the entries
pub record IsEditPlan {T V : Type 0} (rank : T → ℤ) (eq : V → V → Bool) (l : ℤ) (es : List (Entry V)) (plan : Plan T) (value : Option V) : Type 0 where
  -- the range has a key
  pub order : l ≤ℤ rank plan.end
  -- the entry with keys on both sides of the range's end, if one exists
  pub tail : IsTail (rank plan.end) es (option_map (shown_ends rank) plan.tail)
  -- the last entry that starts below the range
  pub predecessor : IsPredecessor l (below l es) (option_map (shown_ends rank) plan.predecessor)
  -- the entry that starts at the range's first key, if one exists
  pub at_start : option_map (shown_ends rank) plan.at_start ≡ option_map range_in (start_at l es)
  -- the number of removed entries that start above the range's first key
  pub removed_count : plan.removed_count + moved_count l (option_map (shown_ends rank) plan.tail) ≡ length (inner_entries l (rank plan.end) es)
  -- a value equal to that of the last entry that starts below the range, if that entry extends above the range
  pub tail_value : IsLikeAbove eq l (rank plan.end) es value
