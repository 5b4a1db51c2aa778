-- The plan of a paint from the entries near its range, and the edits of a paint or a cut, in terms of the list.
use Rattle.std.specs.Prelude.{◌≡◌, ℕ, ◌+◌, ◌≤◌, length, ◌⊎◌, ◌++◌, ◌&&◌, ◌||◌, ℤ, pos, ◌+ℤ◌, ◌≤ℤ◌, ◌<ℤ◌, int_le, if◌then◌else◌, Bool, true, false, List, [], ◌∷◌, Option, Some, None, IfSome, IsSomeAnd}
use Rattle.std.specs.Option.{option_map}
use Rattle.std.specs.Ordering.{int_eq}
use Rattle.blaze_entries.specs.Counted.{CountedEntries}
use Rattle.blaze_entries.specs.Found.{found_in}
use Rattle.blaze_entries.specs.Starts.{below, from, last_below, start_at}
pub use Rattle.blaze_entries.specs.Walked.{Seen, tail_of, inner_entries, moved_count}
use Rattle.blaze_entries.specs.Count.{keys_in}
use Rattle.blaze_entries.specs.Cut.{GoesOnAbove}
use Rattle.blaze_entries.specs.Entries.{Entry, entry}
use Rattle.blaze_entries.specs.Splice.{before, after, IsSameAbove}
use Rattle.blaze_table.specs.Work.{IsCounted}

-- ---- the plan

-- The test says whether a value equals the range's value. For a cut it is always false.

-- the first entry does not start right above h with an equal value
abbrev pub IsUnjoined : {V : Type 0} → (V → Bool) → ℤ → List (Entry V) → Type 0
IsUnjoined test h [] = Unit {0}
IsUnjoined test h (f ∷ fs) = f.lo ≡ h +ℤ pos 1 → test f.value ≡ false

-- a range that ends at h is joined with the first entry, which ends at z
pub record IsJoinedTo {V : Type 0} (test : V → Bool) (h : ℤ) (es : List (Entry V)) (z : ℤ) : Type 0 where
  pub next : Entry V
  pub others : List (Entry V)
  pub first : es ≡ next ∷ others
  pub touches : next.lo ≡ h +ℤ pos 1
  pub ends : next.hi ≡ z
  pub like : test next.value ≡ true

-- the joined range ends at z, where the range ends at h and the entries start above h
abbrev pub IsJoinedEndAfter : {V : Type 0} → (V → Bool) → ℤ → List (Entry V) → ℤ → Type 0
IsJoinedEndAfter test h es z = ((z ≡ h) × IsUnjoined test h es) ⊎ IsJoinedTo test h es z

-- the joined range ends at z, where the range ends at h and the entries are a whole list
abbrev pub IsJoinedEnd : {V : Type 0} → (V → Bool) → ℤ → List (Entry V) → ℤ → Type 0
IsJoinedEnd test h es z = IsJoinedEndAfter test h (after h es) z

-- whether a visited entry has an equal value and ends at h or above
abbrev pub reaches : ℤ → Option (ℤ × ℤ × Bool) → Bool
reaches h None = false
reaches h (Some t) = t.2 && int_le h t.1

-- The start of an entry that is joined with a range from l on. Its value is equal, and it ends at the key before l or
-- above.
abbrev pub joined_start : ℤ → Option (ℤ × ℤ × Bool) → Option ℤ
joined_start l None = None
joined_start l (Some n) = if n.2 && (int_le l n.1 || int_eq l (n.1 +ℤ pos 1)) then Some n.0 else None

-- the plan for an edit of the keys from l to h
pub record IsPlanOf {V : Type 0} (test : V → Bool) (l h : ℤ) (es : List (Entry V)) (s : Seen) : Type 0 where
  pub end : IsJoinedEnd test h es s.end
  pub tail : s.tail ≡ tail_of h (option_map (found_in test) (last_below (h +ℤ pos 1) es))
  pub at_start : s.at_start ≡ option_map (found_in test) (start_at l es)
  pub predecessor : s.predecessor ≡ option_map (found_in test) (last_below l es)
  pub removed_count : s.removed_count + moved_count l s.tail ≡ length (inner_entries l s.end es)

-- a value equal to that of the last entry that starts below l, if that entry extends above z
abbrev pub IsLikeAbove : {V : Type 0} → (V → V → Bool) → ℤ → ℤ → List (Entry V) → Option V → Type 0
IsLikeAbove eq l z es o = IfSome (last_below l es) (λ e. z <ℤ e.hi → IsSomeAnd o (λ u. eq e.value u ≡ true))

-- A value equal to that of the last entry that starts below l. It is needed if that entry extends above h with a value
-- that is not equal to the range's.
abbrev pub IsUnlikeAbove : {V : Type 0} → (V → V → Bool) → (V → Bool) → ℤ → ℤ → List (Entry V) → Option V → Type 0
IsUnlikeAbove eq test l h es o = IfSome (last_below l es) (λ e. h <ℤ e.hi → test e.value ≡ false → IsSomeAnd o (λ u. eq e.value u ≡ true))

-- The results of a walk for an edit of the keys from l to h:
-- - the plan;
-- - the number of keys outside the range;
-- - a value equal to that of the entry that extends both below and above the range, if that value is not equal to the
--   range's.
pub record IsWalkOf {V : Type 0} (eq : V → V → Bool) (test : V → Bool) (l h : ℤ) (es : List (Entry V)) (s : Seen) (n : ℕ) (o : Option V) : Type 0 where
  pub plan : IsPlanOf test l h es s
  pub keys_outside : pos n ≡ keys_in (before l es) +ℤ keys_in (after h es)
  pub tail_value : IsUnlikeAbove eq test l h es o

-- the entry that contains the key h has keys above it too, and its value is not equal to the range's
pub record GoesOnUnequal {V : Type 0} (test : V → Bool) (h : ℤ) (es : List (Entry V)) : Type 0 where
  pub over : GoesOnAbove h es
  pub unequal : test over.entry.value ≡ false

-- Only lookups were counted, for an edit of the keys from l to h. They are at most four, plus the number of entries,
-- less the numbers of entries in the parts below and above those keys.
pub record HasEditLookups {V : Type 0} (l h : ℤ) (old new : CountedEntries V) : Type 0 where
  pub alone : new ≡ record old { looks = new.looks }
  pub risen : old.looks ≤ new.looks
  pub few : new.looks + length (before l old.entries) + length (after h old.entries) ≤ old.looks + length old.entries + 4

-- ---- the edits

-- the entry that starts at s, at z or below, ends at t above z
pub record IsEntryAcross {V : Type 0} (z : ℤ) (es : List (Entry V)) (s t : ℤ) : Type 0 where
  pub of : Entry V
  pub found : start_at s es ≡ Some of
  pub ends : of.hi ≡ t
  pub starts : s ≤ℤ z
  pub over : z <ℤ t
  pub none : start_at (z +ℤ pos 1) es ≡ None
  pub tail : after z es ≡ entry (z +ℤ pos 1) of.hi of.value ∷ from (z +ℤ pos 1) es

-- the entry with keys on both sides of the end z, if one exists
abbrev pub IsTail : {V : Type 0} → ℤ → List (Entry V) → Option (ℤ × ℤ) → Type 0
IsTail z es None = after z es ≡ from (z +ℤ pos 1) es
IsTail z es (Some r) = IsEntryAcross z es r.0 r.1

-- the entries above z start above it and are the same as before, and the entries that start up to k are unchanged
pub record AreOtherEntriesKept {V : Type 0} (eq : V → V → Bool) (k z : ℤ) (old new : List (Entry V)) : Type 0 where
  pub below : below (k +ℤ pos 1) new ≡ below (k +ℤ pos 1) old
  pub like : IsSameAbove eq z old (from (z +ℤ pos 1) new)

-- The list has the entry p. The entries above its end start above it and are the same as before. The entries that start
-- below p are unchanged.
pub record IsEntrySet {V : Type 0} (eq : V → V → Bool) (p : Entry V) (old new : List (Entry V)) : Type 0 where
  pub below : below p.lo new ≡ below p.lo old
  pub here : start_at p.lo new ≡ Some p
  pub like : IsSameAbove eq p.hi old (from (p.hi +ℤ pos 1) new)

-- the entry p is in the list, between the parts below and above it
pub record IsEntryBetween {V : Type 0} (eq : V → V → Bool) (p : Entry V) (old new : List (Entry V)) : Type 0 where
  pub above : List (Entry V)
  pub like : IsSameAbove eq p.hi old above
  pub put : new ≡ before p.lo old ++ p ∷ above

-- the entry that starts at f ends at z, and the part above z follows it
pub record IsEntryExtended {V : Type 0} (eq : V → V → Bool) (f z : ℤ) (old new : List (Entry V)) : Type 0 where
  pub of : Entry V
  pub found : start_at f old ≡ Some of
  pub above : List (Entry V)
  pub like : IsSameAbove eq z old above
  pub put : new ≡ below f old ++ entry f z of.value ∷ above

-- ---- the work

-- The work of an edit: at most p inserted entries, and at most q lookups plus one for each removed entry.
pub record IsWorked {V : Type 0} (p q : ℕ) (old new : CountedEntries V) : Type 0 where
  pub counted : IsCounted old new
  pub puts : new.put_in ≤ old.put_in + p
  pub looks : new.looks + old.taken_out ≤ old.looks + new.taken_out + q
