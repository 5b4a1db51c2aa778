-- The work of a paint and of a cut: the numbers of inserted entries, of removed entries and of lookups.
use Rattle.std.specs.Prelude.{◌≡◌, ℕ, ◌+◌, ◌*◌, ◌≤◌, length}
use Rattle.blaze_entries.specs.Counted.{CountedEntries}

-- The counters: none decreases, and the number of entries is the old one, plus the inserted entries, less the removed
-- ones.
pub record IsCounted {V : Type 0} (old new : CountedEntries V) : Type 0 where
  pub looks : old.looks ≤ new.looks
  pub puts : old.put_in ≤ new.put_in
  pub taken : old.taken_out ≤ new.taken_out
  pub balance : length new.entries + new.taken_out + old.put_in ≡ length old.entries + old.taken_out + new.put_in

-- A failed edit: the entries are unchanged, and the work is counted.
pub record IsRefused {V : Type 0} (old new : CountedEntries V) : Type 0 where
  pub same : new.entries ≡ old.entries
  pub counted : IsCounted old new

-- All work is counted: at most `most` inserted entries, and at most six lookups plus two for each removed entry.
pub record PutsAtMost {V : Type 0} (most : ℕ) (old new : CountedEntries V) : Type 0 where
  pub counted : IsCounted old new
  pub puts : new.put_in ≤ old.put_in + most
  pub looks : new.looks + 2 * old.taken_out ≤ old.looks + 2 * new.taken_out + 6

-- a successful paint inserts at most two entries
abbrev pub IsCountedPaint : {V : Type 0} → CountedEntries V → CountedEntries V → Type 0
IsCountedPaint old new = PutsAtMost 2 old new

-- a successful cut inserts at most one entry
abbrev pub IsCountedCut : {V : Type 0} → CountedEntries V → CountedEntries V → Type 0
IsCountedCut old new = PutsAtMost 1 old new
