-- The names from other crates that this crate's proofs use. The files of proofs import them from here.
pub use Rattle.std.proofs.Common.{◌≡◌, inl, inr, ℕ, ℤ, pos, ◌+ℤ◌, ◌≤ℤ◌, ◌<ℤ◌, Bool, false, cond, List, [], ◌∷◌, ◌++◌, Option, Some, None, refl, ◌∙◌, sym, ap, subst, arith, ◌-ℤ◌, true, OnErr, ◌-◌, length, length-append, ◌+◌, drop, length-drop, drop-drop, rules, ◌≤◌, ⊎_elim, ◌<◌, slice_set, IsPermutation, All, suc, get_or, zero, codes, negsuc, map, Bor, nat_eq, ◌*◌, take}
pub use Rattle.std.proofs.Math.Seq.{drop-cons, set-append_seam, take-length}
pub use Rattle.std.proofs.Output.{has_written_append}
pub use Rattle.std.proofs.lemmas.Bool.{and_left, and_parts, and_from, and_right}
pub use Rattle.std.proofs.lemmas.Grind.{common_steps}
pub use Rattle.std.proofs.lemmas.Int.{ints, by_lt_z}
pub use Rattle.std.proofs.lemmas.List.{append_assoc, append-nil, reverse-append, length-map, length-set, set-get_or, nil_from_length, drop_all, map-append, take_more, length-take-le}
pub use Rattle.std.proofs.lemmas.List.Elements.{Contains-append_left, filter-append, Contains-append_right, Contains-append_cases, Contains-push, Contains-push_cases, All-nil, All-push, All-map, All-weaker, All-cons, All-head, All-tail, All-contains}
pub use Rattle.std.proofs.lemmas.List.Folds.{find-append}
pub use Rattle.std.proofs.lemmas.List.Sorted.{answers_always, All-permutation, Contains-permutation, IsPermutation-map}
pub use Rattle.std.proofs.lemmas.Option.{slice_get-map, slice_get_within, slice_get_read, get_or_from_slice_get}
pub use Rattle.std.proofs.lemmas.Result.{on_ok_weaker, IfOk-weaker}
pub use Rattle.std.specs.BinaryHeap.{IsHeap, heap_items, heap_len}
pub use Rattle.std.specs.Bool.{Decides}
pub use Rattle.std.specs.Cmp.{IsEquivalence, signed_Decides, first_so, second_so}
pub use Rattle.std.specs.Fmt.{option_append, ◌++?◌, HasWritten, IsPlainFormatter}
pub use Rattle.std.specs.Int.{int_max, int_min}
pub use Rattle.std.specs.List.{Contains, slice_get, last_or, filter, items_where_true}
pub use Rattle.std.specs.List.Retain.{IsFiltered}
pub use Rattle.std.specs.List.Sorted.{IsSortedByKey, IsSortedBy}
pub use Rattle.std.specs.Option.{option_or, option_map, option_copied}
pub use Rattle.std.specs.Ordering.{int_eq, is_lt, int_cmp}
pub use Rattle.std.specs.Prelude.{◌⊎◌, Result, Ok, Err, IsSome, IsSomeAnd, IfSome, int_lt, IfOk, OnOk, int_le, is_some, ◌||◌, ◌&&◌, find, ◌↔◌, reverse, slice_index_or, IsTrue, not, option_to_list}
pub use Rattle.std.specs.Range.{range_inclusive_start, range_inclusive_end}
pub use Rattle.std.specs.Vec.{vec_len, vec_items}
pub use Rattle.std.specs.Vec.Iter.{into_iter_items}
pub use Rattle.std.specs.declared.cmp.Ordering.{Ordering}
pub use denote.Shadow.{shadow}
pub use denote.Text.{Utf8}
pub use Rattle.blaze_entries.proofs.Alike.{same_along, same_trans, same_or_right, one_value, none_from_map, same_itself, same_or_left, same_or, or_none, none_of_same, some_of_same, same_back, same_none, none_or, or_assoc}
pub use Rattle.blaze_entries.proofs.Ascending.{by_order, start_none}
pub use Rattle.blaze_entries.proofs.Canonical.Clones.{same_cloned, table_as}
pub use Rattle.blaze_entries.proofs.Canonical.Counted.{keys_apart, covered_none, overlap_most, keys_glue, are_keys_glue, are_keys_before, are_keys_after, are_keys_as, same_keys_in, overlap_whole, before_none, all_keys, keys_painted, painted_table, some_keys, one_fits, one_more, keys_among, all_fit}
pub use Rattle.blaze_entries.proofs.Canonical.Kept.{canonical_filtered, are_keys_filtered, all_filtered}
pub use Rattle.blaze_entries.proofs.Canonical.ListLaws.{canonical_is_fewest, lengths_are_mapped, canonical_is_unique, lengths_mapped}
pub use Rattle.blaze_entries.proofs.Canonical.Lookup.{IsAbove, above_rest, at_in, at_over, at_before, above_by, entry_in, entry_over, IsAbove-from_apart, by_place, holds_in, holds_under, holds_over, at_under, entry_under, value-entry_at, above_low, holds_ends}
pub use Rattle.blaze_entries.proofs.Canonical.Parts.{IsRangeMap-front, IsRangeMap-rest}
pub use Rattle.blaze_entries.proofs.Canonical.RangeMaps.{range_map, starts_ascend, split_maps, cut_map, painted_map}
pub use Rattle.blaze_entries.proofs.Canonical.Runs.{one_per_run, canonical}
pub use Rattle.blaze_entries.proofs.Canonical.SameLists.{same_from_test, test_from_same, content_decides}
pub use Rattle.blaze_entries.proofs.Canonical.Shortest.{canonical_is_shortest}
pub use Rattle.blaze_entries.proofs.Canonical.Unique.{back, unique}
pub use Rattle.blaze_entries.proofs.Halves.{more_below, below_takes, below_none, StartsBelow, below_all, below_skips, from_all, from_none, from_takes, from_skips, below_next, halves, starts_from, starts_below}
pub use Rattle.blaze_entries.proofs.InTurn.{returns-push, picked-push_true, picked-push_false}
pub use Rattle.blaze_entries.proofs.Lists.Ending.{ending_clear, ending_held, ending_all, ending_skips, ending_takes, found_from}
pub use Rattle.blaze_entries.proofs.Lists.Glued.{glue-last, and_both}
pub use Rattle.blaze_entries.proofs.Lists.Indexed.{from_index}
pub use Rattle.blaze_entries.proofs.Lists.Orders.{step_up, step_to, step_past, weaker, tail_sorted, not_less}
pub use Rattle.blaze_entries.proofs.Lists.Pushed.{has_last, pushed_joined, pushed_apart}
pub use Rattle.blaze_entries.proofs.Lists.UnitLaws.{unit_laws}
pub use Rattle.blaze_entries.proofs.Moves.{with_entry-first, length-with_end_value, absent_next}
pub use Rattle.blaze_entries.proofs.Paints.Kept.{in_before, in_from, later_in, first_in, by_first, over_in, in_after, same_in}
pub use Rattle.blaze_entries.proofs.Paints.Painted.{entries_themselves, canonical_as, above_as, content_as, before_past, after_past, length_as, is_painted, painted_short, paint_itself, painted_nowhere}
pub use Rattle.blaze_entries.proofs.Paints.Splices.{by_before, after_skips, by_after, canonical_glue, canonical_before, canonical_after, at_glue, above_after, below_before, at-before_under, at-before_over, at-after_over, below_more, before_cuts, before_ends, after_cuts, after_keeps, before_keeps, by_join, below_glue}
pub use Rattle.blaze_entries.proofs.Plain.{cut_inside, cut_outside}
pub use Rattle.blaze_entries.proofs.Scans.{length-below}
pub use Rattle.blaze_entries.proofs.Underway.{overlap_none, IsWalkUnderway, begins, fits, has_room, goes_on, stops, ends, cloned_above, refused_above, overlap_over}
pub use Rattle.blaze_entries.specs.Canonical.{IsCanonical, AreKeys, IsApart, IsRunStart, IsRunEnd, HasStart, HasEnd, IsClear, IsDisjoint, IsAscending, IsOnePerRun, IsRangeMap}
pub use Rattle.blaze_entries.specs.Cloned.{IsManyCloned, IsRangeCloned, AreCloned}
pub use Rattle.blaze_entries.specs.Count.{keys_in, mapped_keys}
pub use Rattle.blaze_entries.specs.Counted.{CountedEntries, uncounted}
pub use Rattle.blaze_entries.specs.Cut.{cut_at, cut_range_at, IsRangeCut, IsAmongOthers, GoesOnAbove, below_at, from_at, IsKeyRemoved, IsSplit, IsLastKeyRemoved, IsFirstKeyRemoved}
pub use Rattle.blaze_entries.specs.Ending.{ending_from, overlapping}
pub use Rattle.blaze_entries.specs.Entries.{Entry, at, SameOption, entry, entry_at, SameEntries, holds, SameContent, shown_list, shown_entry}
pub use Rattle.blaze_entries.specs.Equality.{same_entry, same_entries}
pub use Rattle.blaze_entries.specs.Found.{range_in, found_in, is_sought, shown_ends, shown_found}
pub use Rattle.blaze_entries.specs.Laws.{PairsAreContent, CanonicalIsShortest, CanonicalIsUnique, CanonicalIsFewest, LengthsAreMapped}
pub use Rattle.blaze_entries.specs.Overlap.{shared_count}
pub use Rattle.blaze_entries.specs.Painted.{ClonesAreAlike, IsApartFrom, IsAlreadyIn, IsInside, LeavesAlone, painted_content, last_at, painted_in_order, IsPainted}
pub use Rattle.blaze_entries.specs.Pairs.{pairs_from, pairs_of, pair_list, value_at, IsAscendingPairs}
pub use Rattle.blaze_entries.specs.RangeSets.{unit_eq, IsRangeSet, IsSetOf, same_ranges, shown_bare_range, shown_bare_ranges}
pub use Rattle.blaze_entries.specs.Splice.{before, after, glue, IsBelow, IsListWithoutRange, IsListWithoutKey, IsTableCut, overlap, covered_keys, IsKeyTaken, IsKeyCut, IsRangeTaken, IsSplitOf, IsListSplit, IsSameAbove, is_joinable, join, paint, IsListPainted, IsPaintOf, IsTablePainted}
pub use Rattle.blaze_entries.specs.Starts.{StartsAscend, last_below, entry_reaching, holder_of, start_at, with_entry, without, with_end, IsStartMoved, below, from, IsCloneInserted, IsFirstRemoved, first_entry, first_from, with_last_end, IsLastRemoved, IsFrontReplaced, with_end_value, up_to}
pub use Rattle.blaze_entries.specs.Table.{IsTable}
pub use Rattle.blaze_entries.specs.Walked.{shown_plan, IsClonedIf, Seen, HasWalkLookups, RangesAscend, end_of, IsSeenIn, IsAboveCloned, GoesOnUnlike, IsWalk}
pub use Rattle.blaze_entries.specs.declared.range_entry.RangeEntry.{RangeEntry}
pub use Rattle.blaze_entries.specs.declared.scan.Plan.{Plan}
pub use Rattle.blaze_int.proofs.Comparisons.{eq_true, le_true, le_false, lt_true, lt_false, lt_holds, not_both, le_holds, le_fails, lt_fails, by_bool, eq_holds, and_fails, max_right}
pub use Rattle.blaze_int.proofs.Naturals.{nat_of-pos, by_less}
pub use Rattle.blaze_int.proofs.Options.{if_err, is_none, none_is_not}
pub use Rattle.blaze_int.specs.Unsigned.{nat_of}
pub use Rattle.blaze_table.specs.CanonicalOf.{IsCanonicalOf, keyed_count}
pub use Rattle.blaze_table.specs.Edited.{IsEditPlan, IsPredecessor, IsTailSplit, is_removed, HasRoom, IsLikeTail}
pub use Rattle.blaze_table.specs.Filled.{AreStartsKept, filled_content, IsFilled, IsMappedFrom, IsKeptIn, IsFirstGap, AreKept}
pub use Rattle.blaze_table.specs.Filling.{never_equal, IsOrdered, IsJoint, IsJoinedAt, IsJoinedBut, IsBeside, IsNoted, IsFilledBut, IsFilling, IsGapFilled, IsOrderedTable, IsGapEnd, IsNextGap, AreThere, GoesBack, without_all}
pub use Rattle.blaze_table.specs.Gap.{IsGap, IsClearFrom}
pub use Rattle.blaze_table.specs.Keeping.{AddsKey, IsKept, KeepsMore}
pub use Rattle.blaze_table.specs.LastBelow.{IsLastBelow}
pub use Rattle.blaze_table.specs.PairValue.{value_of_pair, PutsPiece}
pub use Rattle.blaze_table.specs.Pieces.{place_cmp, IsWaiting, KeepsReaching, ArePairsPlacedBelow, IsPlacedPair, EndsAreKeys, AreAllPairsPlaced, IsPiece, HasKey, HasStarted, places_of, AreAscending}
pub use Rattle.blaze_table.specs.Planned.{tail_of, HasEditLookups, IsWalkOf, IsWorked, inner_entries, moved_count, IsTail, AreOtherEntriesKept, IsEntrySet, IsEntryBetween, IsEntryExtended, IsEntryAcross, IsJoinedEnd, IsUnjoined, joined_start, IsPlanOf, reaches, IsLikeAbove, IsJoinedTo, IsJoinedEndAfter, IsUnlikeAbove, GoesOnUnequal}
pub use Rattle.blaze_table.specs.Printed.{range_text, ranges_text, set_text}
pub use Rattle.blaze_table.specs.Retain.{AnswersAtPair, IsKeyRetained, TakesPair}
pub use Rattle.blaze_table.specs.Swept.{AreApart, key_after, IsSwept, IsBare}
pub use Rattle.blaze_table.specs.Work.{IsCountedCut, IsCounted, IsCountedPaint, PutsAtMost}
pub use Rattle.blaze_table.specs.declared.sweep.pair_value.PairValue.{PairValue}
pub use Rattle.blaze_table.specs.declared.sweep.pair_value.PairValue.TheVariants.{Moved, Present}
pub use Rattle.blaze_table.specs.declared.sweep.placed.Placed.{Placed}
