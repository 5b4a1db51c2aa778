-- The names from other crates that this crate's proofs use. The files of proofs import them from here.
pub use Rattle.std.proofs.Common.{◌≡◌, ◌+◌, length, ℤ, pos, ◌+ℤ◌, ◌≤ℤ◌, ◌<ℤ◌, true, false, cond, List, [], ◌∷◌, Option, Some, None, refl, ◌∙◌, sym, subst, ap, arith, Bool, ℕ, ◌++◌, ◌⊎◌, inl, inr, ◌≤◌, ◌-ℤ◌, append_assoc, length-append, ◌<◌, ◌-◌, not, ◌&&◌, Result, Ok, Err, rules, ⊎_elim, negsuc, zero, suc, drop, get_or, take, slice_set}
pub use Rattle.std.proofs.Math.Seq.{drop-cons, set-append_seam, take-length}
pub use Rattle.std.proofs.lemmas.Bool.{and_parts, eqb-true}
pub use Rattle.std.proofs.lemmas.Cmp.{eq_by_cmp_equiv, int_cmp_total}
pub use Rattle.std.proofs.lemmas.Int.{ints, by_lt_z}
pub use Rattle.std.proofs.lemmas.List.{length-map, map-append, take_more, length-take-le}
pub use Rattle.std.proofs.lemmas.List.Elements.{filter-append, Contains-append_left, Contains-append_right, Contains-append_cases, Contains-push, Contains-push_cases}
pub use Rattle.std.proofs.lemmas.List.Filters.{length-filter_both}
pub use Rattle.std.proofs.lemmas.Map.Keys.{IsDistinct-from_sorted}
pub use Rattle.std.proofs.lemmas.Map.Made.{update_all_none}
pub use Rattle.std.proofs.lemmas.Option.{same_Some, slice_get-map, MatchOption-at_some, MatchOption-at_none}
pub use Rattle.std.specs.BTreeMap.{is_at, IsFromIterResult, BTreeMap, insert_entry}
pub use Rattle.std.specs.BTreeMap.Range.{entries_between, entries_below, entries_from}
pub use Rattle.std.specs.Bool.{Decides}
pub use Rattle.std.specs.Cmp.{IsTotalOrder, int_cmp_is, IsEquivalence, signed_Decides, first_so, second_so}
pub use Rattle.std.specs.Fn.{Mut, Called}
pub use Rattle.std.specs.Int.{int_max, int_min}
pub use Rattle.std.specs.Iterator.{MakesProgress, item_count}
pub use Rattle.std.specs.List.{AllByRecursion, last_or, AllZip, filter, FoldsTo, items_where_true, slice_get, Contains}
pub use Rattle.std.specs.List.Retain.{IsFiltered, ReturnsInTurn}
pub use Rattle.std.specs.List.Sorted.{IsSortedBy}
pub use Rattle.std.specs.Map.{lookup, keys_of, remove_entry, values_of, set_value}
pub use Rattle.std.specs.Map.Calls.{CallableOnEachPair, RetainsPairs, SomeCallAtPair}
pub use Rattle.std.specs.Map.Iter.{TakesFirst, TakesLast, deref_pair}
pub use Rattle.std.specs.Option.{option_map, is_some, option_or, option_copied}
pub use Rattle.std.specs.Ordering.{int_eq, int_cmp, eq_by_cmp, on, match_ordering, is_gt, is_le, is_lt}
pub use Rattle.std.specs.Prelude.{nat_eq, IsSome, map, int_lt, int_le, ◌||◌, IfSome, IsSomeAnd, OnErr, ◌↔◌, MatchOption, IfNone, slice_index_or}
pub use Rattle.std.specs.declared.cmp.Ordering.{Ordering}
pub use Rattle.std.specs.declared.cmp.Ordering.TheVariants.{Less, Equal, Greater}
pub use Rattle.std.specs.declared.ops.Bound.TheVariants.{Included, Excluded, Unbounded}
pub use Rattle.std.specs.declared.ops.RangeInclusive.{RangeInclusive}
pub use denote.Ref.{Bor}
pub use Rattle.blaze_entries.specs.Answers.{IsShown, AnswersAt, SomeCallAt, IsCallableAtEach}
pub use Rattle.blaze_entries.specs.Canonical.{IsApart, IsCanonical, IsRunStart, IsRunEnd, HasStart, HasEnd, IsClear, IsDisjoint, IsAscending, IsOnePerRun, IsRangeMap, AreKeys}
pub use Rattle.blaze_entries.specs.Changed.{changed}
pub use Rattle.blaze_entries.specs.Cloned.{AreCloned}
pub use Rattle.blaze_entries.specs.Count.{keys_in, mapped_keys}
pub use Rattle.blaze_entries.specs.Counted.{CountedEntries, uncounted}
pub use Rattle.blaze_entries.specs.Chosen.{IsChosen}
pub use Rattle.blaze_entries.specs.Cut.{cut_at, cut_range_at, IsKeyRemoved, IsSplit}
pub use Rattle.blaze_entries.specs.Ending.{ending_from, overlapping}
pub use Rattle.blaze_entries.specs.Entries.{Entry, entry, shown_entry, at, SameOption, holds, SameContent, SameEntries, shown_list, entry_at}
pub use Rattle.blaze_entries.specs.Equality.{same_entry, same_entries}
pub use Rattle.blaze_entries.specs.Found.{found_in, shown_found, IsFoundAt, is_sought}
pub use Rattle.blaze_entries.specs.Laws.{CanonicalIsShortest, CanonicalIsUnique, CanonicalIsFewest, LengthsAreMapped}
pub use Rattle.blaze_entries.specs.NodeAnswers.{AnswersAtNode, TakesNode}
pub use Rattle.blaze_entries.specs.Nodes.{shown_nodes, shown_node_at, full_node, node_of, shown_node, full, AreHeld, AreFull, shown_borrowed_node, entries_of, node_before}
pub use Rattle.blaze_entries.specs.Overlap.{shared_count, overlap, covered_keys}
pub use Rattle.blaze_entries.specs.Painted.{ClonesAreAlike, IsInside, IsPainted, IsApartFrom, IsAlreadyIn, LeavesAlone, painted_content}
pub use Rattle.blaze_entries.specs.RangeSets.{unit_eq}
pub use Rattle.blaze_entries.specs.Run.{IsRun}
pub use Rattle.blaze_entries.specs.Splice.{before, after, glue, IsPaintOf, IsTablePainted, IsKeyCut, IsListSplit, IsBelow, IsSameAbove, paint, IsListPainted, is_joinable, join}
pub use Rattle.blaze_entries.specs.Starts.{StartsAscend, start_at, with_entry, without, with_end_value, IsStartMoved, IsFrontReplaced, below, from, last_below, up_to, first_entry, first_from, with_end, with_last_end, entry_reaching, holder_of, IsCloneInserted}
pub use Rattle.blaze_entries.specs.Table.{IsTable}
pub use Rattle.blaze_entries.specs.Walked.{RangesAscend, Seen, end_of, tail_of, inner_entries, moved_count, IsSeenIn, unseen, seen, seen_end, seen_start, seen_within, seen_value, IsClonedIf, shown_plan, IsWalk}
pub use Rattle.blaze_entries.specs.declared.node.EndValue.{EndValue}
pub use Rattle.blaze_entries.specs.declared.range_entry.RangeEntry.{RangeEntry}
pub use Rattle.blaze_int.proofs.Comparisons.{eq_true, by_bool, lt_true, lt_false, le_true, le_false, lt_holds, lt_fails, max_right, eq_holds, and_fails}
pub use Rattle.blaze_int.proofs.Options.{none_is_not}
pub use Rattle.blaze_int.specs.Unsigned.{nat_of}
