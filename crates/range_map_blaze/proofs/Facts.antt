-- Lemmas for a user's proofs over a range map, in one place.
-- equal numbers are the same number; what is equal to no value is none
pub use Rattle.blaze_entries.proofs.Plain.{same_is, is_none_by}
-- an entry of a map's list is a run of its content: the entry at a key, one of the list, or the one that a walk comes to
pub use Rattle.blaze_entries.proofs.Canonical.EntryRuns.{entry_place, entry_run, member_run, walked_run}
-- no entry has a key of the range, or none of its keys is counted: none of them has a value
pub use Rattle.blaze_entries.proofs.Plain.{overlap_clear, count_clear}
-- what a call makes of the items of an iterator, as that of a slice, it makes of the list that the iterator yields
pub use Rattle.range_map_blaze.proofs.Listed.{of_list}
