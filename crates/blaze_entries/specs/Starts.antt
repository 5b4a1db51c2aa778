-- Entries in the order of their starts: lookups and edits by start.
use Rattle.std.specs.Prelude.{◌≡◌, ℤ, pos, ◌+ℤ◌, ◌≤ℤ◌, int_lt, int_le, cond, List, [], ◌∷◌, ◌++◌, Option, Some, None}
use Rattle.std.specs.Ordering.{int_cmp, int_eq, match_ordering}
use Rattle.std.specs.List.{filter, last_or}
use Rattle.blaze_entries.specs.Entries.{Entry, entry}

-- the starts ascend, from low to high
abbrev pub StartsAscend : {V : Type 0} → ℤ → ℤ → List (Entry V) → Type 0
StartsAscend low high [] = Unit {0}
StartsAscend low high (e ∷ es) = (low ≤ℤ e.lo) × (e.lo ≤ℤ high) × StartsAscend (e.lo +ℤ pos 1) high es

-- the entries that start below k, and the entries that start from k on
abbrev pub below : {V : Type 0} → ℤ → List (Entry V) → List (Entry V)
below k es = filter (λ e. int_lt e.lo k) es

abbrev pub from : {V : Type 0} → ℤ → List (Entry V) → List (Entry V)
from k es = filter (λ e. int_le k e.lo) es

-- the entries that start up to k
abbrev pub up_to : {V : Type 0} → ℤ → List (Entry V) → List (Entry V)
up_to k es = filter (λ e. int_le e.lo k) es

abbrev pub first_entry : {X : Type 0} → List X → Option X
first_entry [] = None
first_entry (e ∷ es) = Some e

-- the last entry that starts below k
abbrev pub last_below : {V : Type 0} → ℤ → List (Entry V) → Option (Entry V)
last_below k es = last_or None (below k es)

-- the entry, if it ends at k or above
abbrev pub entry_reaching : {V : Type 0} → ℤ → Option (Entry V) → Option (Entry V)
entry_reaching k None = None
entry_reaching k (Some e) = cond (int_lt e.hi k) None (Some e)

-- the entry that contains the key k, if each entry ends below the start of the next
abbrev pub holder_of : {V : Type 0} → ℤ → List (Entry V) → Option (Entry V)
holder_of k es = entry_reaching k (last_below (k +ℤ pos 1) es)

-- the first entry that starts at k or above
abbrev pub first_from : {V : Type 0} → ℤ → List (Entry V) → Option (Entry V)
first_from k es = first_entry (from k es)

-- the entry that starts at k
abbrev pub start_at : {V : Type 0} → ℤ → List (Entry V) → Option (Entry V)
start_at k [] = None
start_at k (e ∷ es) = cond (int_eq k e.lo) (Some e) (start_at k es)

-- the list with one more entry, in its position
abbrev pub with_entry : {V : Type 0} → Entry V → List (Entry V) → List (Entry V)
with_entry e [] = e ∷ []
with_entry e (f ∷ fs) =
    match_ordering (int_cmp e.lo f.lo) (e ∷ f ∷ fs) (entry f.lo e.hi e.value ∷ fs) (f ∷ with_entry e fs)

-- the list without the entry that starts at k
abbrev pub without : {V : Type 0} → ℤ → List (Entry V) → List (Entry V)
without k [] = []
without k (e ∷ es) = cond (int_eq k e.lo) es (e ∷ without k es)

-- the list with the end h for the entry that starts at k
abbrev pub with_end : {V : Type 0} → ℤ → ℤ → List (Entry V) → List (Entry V)
with_end k h [] = []
with_end k h (e ∷ es) = cond (int_eq k e.lo) (entry e.lo h e.value ∷ es) (e ∷ with_end k h es)

-- the list with the end h and the value v for the entry that starts at k
abbrev pub with_end_value : {V : Type 0} → ℤ → ℤ → V → List (Entry V) → List (Entry V)
with_end_value k h v [] = []
with_end_value k h v (e ∷ es) = cond (int_eq k e.lo) (entry e.lo h v ∷ es) (e ∷ with_end_value k h v es)

-- the list with the end h for the last entry
abbrev pub with_last_end : {V : Type 0} → ℤ → List (Entry V) → List (Entry V)
with_last_end h [] = []
with_last_end h (e ∷ []) = entry e.lo h e.value ∷ []
with_last_end h (e ∷ f ∷ es) = e ∷ with_last_end h (f ∷ es)

-- the entry that started at k starts at `start`, with the same end and value
pub record IsStartMoved {V : Type 0} (k start : ℤ) (old new : List (Entry V)) : Type 0 where
  pub of : Entry V
  pub found : start_at k old ≡ Some of
  pub moved : new ≡ with_entry (entry start of.hi of.value) (without k old)

-- The entry that starts at k now ends at h and has the value v. Its old end and value belong to an entry at `start`.
pub record IsFrontReplaced {V : Type 0} (k h : ℤ) (v : V) (start : ℤ) (old new : List (Entry V)) : Type 0 where
  pub of : Entry V
  pub found : start_at k old ≡ Some of
  pub replaced : new ≡ with_entry (entry start of.hi of.value) (with_end_value k h v old)

-- an entry was inserted at `start`, which ends where the entry at k ends and has a clone of its value
pub record IsCloneInserted {V : Type 0} (is_clone : V → V → Type 0) (k start : ℤ) (old new : List (Entry V)) : Type 0 where
  pub of : Entry V
  pub found : start_at k old ≡ Some of
  pub value : V
  pub clone : is_clone of.value value
  pub inserted : new ≡ with_entry (entry start of.hi value) old

-- the first entry, which had the value v, was removed
pub record IsFirstRemoved {V : Type 0} (v : V) (old new : List (Entry V)) : Type 0 where
  pub first : Entry V
  pub removed : old ≡ first ∷ new
  pub value : first.value ≡ v

-- the last entry, which had the value v, was removed
pub record IsLastRemoved {V : Type 0} (v : V) (old new : List (Entry V)) : Type 0 where
  pub last : Entry V
  pub removed : old ≡ new ++ last ∷ []
  pub value : last.value ≡ v
