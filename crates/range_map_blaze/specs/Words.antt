-- The words of a user's contract over a range map, in one place. Numbers, lists, options and results have theirs in the Prelude of std.
pub use Rattle.std.specs.Range.{range_inclusive_start, range_inclusive_end}
pub use Rattle.blaze_streams.specs.Ranges.{shown_range}
pub use Rattle.blaze_streams.specs.Carried.{shown_option}
pub use Rattle.blaze_int.specs.Bounds.{start_rank, end_rank}
-- a map's list of entries, and its content: the value at each key, which is given by its rank
pub use Rattle.blaze_entries.specs.Entries.{Entry, entry, at, entry_at, SameOption, SameContent, SameEntries, shown_list}
pub use Rattle.blaze_entries.specs.Canonical.{IsRangeMap}
pub use Rattle.blaze_entries.specs.Run.{IsRun}
pub use Rattle.blaze_entries.specs.Count.{keys_in, mapped_keys}
-- what the keys of a range have
pub use Rattle.blaze_table.specs.Gap.{IsClearFrom, IsGap}
pub use Rattle.blaze_table.specs.Filled.{IsMappedFrom, IsFilled}
-- what calls leave
pub use Rattle.blaze_entries.specs.Painted.{ClonesAreAlike, IsPainted, last_at, painted_in_order}
pub use Rattle.blaze_entries.specs.Cut.{IsKeyRemoved, IsRangeCut}
pub use Rattle.blaze_entries.specs.Chosen.{IsChosen, right_first, left_with_right, left_alone}
pub use Rattle.range_map_blaze.specs.Extended.{ArePaintedInTurn, IsExtended, IsPairPainted}
pub use Rattle.range_map_blaze.specs.KeysTaken.{AreKeysTaken}
pub use Rattle.range_map_blaze.specs.Relations.{HasKeysOf, ShareNoKey}
pub use Rattle.range_map_blaze.specs.Union.{IsUnion}
pub use Rattle.range_map_blaze.specs.Updated.{Gives, IsCallableAtPieces, IsPartUpdated, IsUpdated, KeepsValues}
