-- The results of a walk down the entries, for an edit of a range's keys. The walk goes from right above the range to
-- the first entry that starts below it.
use Rattle.std.specs.Prelude.{◌≡◌, ℕ, ◌+◌, ◌≤◌, ℤ, pos, ◌+ℤ◌, ◌≤ℤ◌, ◌<ℤ◌, length, false, MatchOption, IfSome, IsSomeAnd, int_lt, int_le, ◌||◌, Bool, if◌then◌else◌, List, [], ◌∷◌, Option, Some, None}
use Rattle.std.specs.Option.{option_map}
use Rattle.blaze_entries.specs.Counted.{CountedEntries}
use Rattle.blaze_entries.specs.Entries.{Entry, at, holds}
use Rattle.blaze_entries.specs.Found.{found_in, shown_ends, shown_found}
use Rattle.blaze_entries.specs.Overlap.{covered_keys}
use Rattle.blaze_entries.specs.Starts.{below, from, last_below, start_at}
use Rattle.blaze_entries.specs.declared.scan.Plan.{Plan}

-- each entry has a key and starts above the end of the previous one, from low to high
abbrev pub RangesAscend : {V : Type 0} → ℤ → ℤ → List (Entry V) → Type 0
RangesAscend low high [] = Unit {0}
RangesAscend low high (e ∷ es) = (low ≤ℤ e.lo) × (e.lo ≤ℤ e.hi) × (e.hi ≤ℤ high) × RangesAscend (e.hi +ℤ pos 1) high es

-- ---- the plan

-- The plan, by rank:
-- - the end of the range joined with the entry above it;
-- - the ends of the entry that keeps its keys above the range;
-- - the entry that starts at the range's first key;
-- - the entry that starts below the range;
-- - the number of entries that start above the range's first key and end within the joined range.
pub record Seen : Type 0 where
  pub end : ℤ
  pub tail : Option (ℤ × ℤ)
  pub at_start : Option (ℤ × ℤ × Bool)
  pub predecessor : Option (ℤ × ℤ × Bool)
  pub removed_count : ℕ

abbrev pub shown_plan : {T : Type 0} → (T → ℤ) → Plan T → Seen
shown_plan rank p = record { end = rank p.end; tail = option_map (shown_ends rank) p.tail; at_start = option_map (shown_found rank) p.at_start; predecessor = option_map (shown_found rank) p.predecessor; removed_count = p.removed_count }

-- The end of a range that ends at h, joined with the visited entry that starts up to the key above h. It is the entry's
-- end if the entry extends above h with an equal value, else h.
abbrev pub end_of : ℤ → Option (ℤ × ℤ × Bool) → ℤ
end_of h None = h
end_of h (Some t) = if int_lt h t.1 then (if t.2 then t.1 else h) else h

-- the ends of a visited entry, if it extends above h with an unequal value
abbrev pub tail_of : ℤ → Option (ℤ × ℤ × Bool) → Option (ℤ × ℤ)
tail_of h None = None
tail_of h (Some t) = if int_lt h t.1 then (if t.2 then None else Some (t.0, t.1)) else None

-- the entries that start above l, up to z
abbrev pub inner_entries : {V : Type 0} → ℤ → ℤ → List (Entry V) → List (Entry V)
inner_entries l z es = from (l +ℤ pos 1) (below (z +ℤ pos 1) es)

-- 1 if the entry that keeps its keys above the range starts above l, else 0: that entry is not removed, its start moves
abbrev pub moved_count : ℤ → Option (ℤ × ℤ) → ℕ
moved_count l None = 0
moved_count l (Some r) = if int_lt l r.0 then 1 else 0

-- the plan for an edit of the keys from l to h, from the entries and a test of a value
pub record IsSeenIn {V : Type 0} (test : V → Bool) (l h : ℤ) (es : List (Entry V)) (s : Seen) : Type 0 where
  pub end : s.end ≡ end_of h (option_map (found_in test) (last_below (h +ℤ pos 2) es))
  pub tail : s.tail ≡ tail_of h (option_map (found_in test) (last_below (h +ℤ pos 1) es))
  pub at_start : s.at_start ≡ option_map (found_in test) (start_at l es)
  pub predecessor : s.predecessor ≡ option_map (found_in test) (last_below l es)
  pub removed_count : s.removed_count + moved_count l s.tail ≡ length (inner_entries l s.end es)

-- ---- one more entry in front

-- the plan for a range that ends at h, before the first entry
abbrev pub unseen : ℤ → Seen
unseen h = record { end = h; tail = None; at_start = None; predecessor = None; removed_count = 0 }

-- the plan with an entry that extends above h: it gets the entry's end if its value is equal, else the part above h
abbrev pub seen_end : ℤ → Seen → ℤ × ℤ × Bool → Seen
seen_end h s t = if int_lt h t.1 then (if t.2 then record s { end = t.1 } else (if int_le t.0 h then record s { tail = Some (t.0, t.1) } else s)) else s

-- The plan with an entry that starts above the range's first key. One more entry is removed if its value is equal or it
-- ends up to h.
abbrev pub seen_within : ℤ → Seen → ℤ × ℤ × Bool → Seen
seen_within h s t = if t.2 || int_le t.1 h then record s { removed_count = s.removed_count + 1 } else s

-- the plan with an entry that starts below l, at l or above l
abbrev pub seen_start : ℤ → ℤ → Seen → ℤ × ℤ × Bool → Seen
seen_start l h s t = if int_lt t.0 l then record s { predecessor = Some t } else (if int_le t.0 l then record s { at_start = Some t } else seen_within h s t)

abbrev pub seen : ℤ → ℤ → Seen → ℤ × ℤ × Bool → Seen
seen l h s t = seen_start l h (seen_end h s t) t

-- the value of the key l, with one more entry
abbrev pub seen_value : {V : Type 0} → ℤ → Option V → Entry V → Option V
seen_value l o e = if holds e l then Some e.value else o

-- ---- the values

-- a clone of the value of the last entry that starts below l, if that entry extends above h with an unequal value
abbrev pub IsAboveCloned : {V : Type 0} → (V → V → Type 0) → (V → Bool) → ℤ → ℤ → List (Entry V) → Option V → Type 0
IsAboveCloned is_clone test l h es r = IfSome (last_below l es) (λ e. h <ℤ e.hi → test e.value ≡ false → IsSomeAnd r (is_clone e.value))

-- the last entry that starts below l extends above h, with an unequal value
abbrev pub GoesOnUnlike : {V : Type 0} → (V → Bool) → ℤ → ℤ → List (Entry V) → Type 0
GoesOnUnlike test l h es = IsSomeAnd (last_below l es) (λ e. (h <ℤ e.hi) × (test e.value ≡ false))

-- a clone of the value, if it exists and is asked for
abbrev pub IsClonedIf : {V : Type 0} → (V → V → Type 0) → Bool → Option V → Option V → Type 0
IsClonedIf is_clone wanted o r = MatchOption (if wanted then o else None) (r ≡ None) (λ v. IsSomeAnd r (is_clone v))

-- ---- the walk

-- The results of a walk down the entries to the keys from l to h:
-- - the plan;
-- - len less the number of the entries' keys from l to h;
-- - a clone of the value of the entry that starts below l and extends above h, if the value is unequal;
-- - a clone of the value of the key l, if it is asked for.
pub record IsWalk {V : Type 0} (is_clone : V → V → Type 0) (test : V → Bool) (wanted : Bool) (l h : ℤ) (len : ℕ) (es : List (Entry V)) (s : Seen) (count : ℕ) (up here : Option V) : Type 0 where
  pub plan : IsSeenIn test l h es s
  pub keys_outside : pos count +ℤ covered_keys l h es ≡ pos len
  pub tail_value : IsAboveCloned is_clone test l h es up
  pub old_value : IsClonedIf is_clone wanted (at es l) here

-- Only lookups were counted, for a walk to the keys from l to h. They are at most one for each entry that starts from l
-- to the key above h, one for the entry below them, and `more`.
pub record HasWalkLookups {V : Type 0} (more : ℕ) (l h : ℤ) (old new : CountedEntries V) : Type 0 where
  pub alone : new ≡ record old { looks = new.looks }
  pub risen : old.looks ≤ new.looks
  pub few : new.looks ≤ old.looks + length (from l (below (h +ℤ pos 2) old.entries)) + 1 + more
