-- The words of this crate's proofs that come from elsewhere: a file of proofs takes those that it needs from here.
pub use Rattle.std.proofs.Common.{◌≡◌, ℕ, ◌+◌, ◌<◌, ℤ, pos, ◌+ℤ◌, ◌≤ℤ◌, ◌<ℤ◌, Bool, true, false, List, [], ◌∷◌, Option, Some, None, refl, ◌∙◌, sym, subst, arith, inl, inr, ⊎_elim, option_map, ◌⊎◌, ◌-ℤ◌, cond, ◌++◌, ap, map, append_assoc, append-nil, Result, zero, suc, length, ◌≤◌, not, ◌*◌, negsuc, codes, IfSome, if◌then◌else◌, ◌-◌, Ok, Err, OnOk, ◌&&◌, ◌||◌, rules, OnErr}
pub use Rattle.std.proofs.Output.{has_written_append}
pub use Rattle.std.proofs.lemmas.Bool.{and_parts}
pub use Rattle.std.proofs.lemmas.Int.{ints, by_lt_z}
pub use Rattle.std.proofs.lemmas.Iterator.{items_from_drains}
pub use Rattle.std.proofs.lemmas.Iterator.Adapters.{YieldsList-from_vec}
pub use Rattle.std.proofs.lemmas.List.{map-append, length-map, length-append, map-id, nil_from_length}
pub use Rattle.std.proofs.lemmas.List.Elements.{All-contains, All-from_recursion}
pub use Rattle.std.proofs.lemmas.Option.{same_Some}
pub use Rattle.std.proofs.lemmas.Result.{MatchResult-from_err, IfOk-weaker}
pub use Rattle.std.specs.Bool.{Decides}
pub use Rattle.std.specs.Cmp.{IsEquivalence, signed_Decides, Equal-is}
pub use Rattle.std.specs.Cmp.Lexicographic.{options_equiv, slice_cmp}
pub use Rattle.std.specs.Fmt.{◌++?◌, HasWritten, IsPlainFormatter, WritesOnOk}
pub use Rattle.std.specs.Fn.{Mut}
pub use Rattle.std.specs.Hash.{fed_then}
pub use Rattle.std.specs.Int.{int_max, int_min}
pub use Rattle.std.specs.Iterator.{Yields, Drains, ExtendsWithItems, IsFinite}
pub use Rattle.std.specs.List.{FoldsTo, zip, Contains, AllByRecursion, flat_map, fold, slice_get}
pub use Rattle.std.specs.Option.{is_some, option_eq, option_or, option_xor, option_to_list}
pub use Rattle.std.specs.Ordering.{int_cmp, is_eq, is_ne, ordering_then, int_eq}
pub use Rattle.std.specs.Prelude.{◌↔◌, IsSome, IsTrue, int_lt, int_le, find, reverse, IfOk, MatchOption}
pub use Rattle.std.specs.Range.{range_inclusive_start, range_inclusive_end}
pub use Rattle.std.specs.Result.{IsErr}
pub use Rattle.std.specs.Vec.Iter.{into_iter_items}
pub use Rattle.std.specs.declared.alloc.AllocError.{AllocError}
pub use Rattle.std.specs.declared.cmp.Ordering.{Ordering}
pub use Rattle.std.specs.declared.cmp.Ordering.TheVariants.{Less, Equal, Greater}
pub use denote.Ref.{Bor}
pub use denote.Shadow.{shadow}
pub use denote.Text.{Utf8}
pub use Rattle.blaze_entries.proofs.Alike.{same_itself, same_trans, same_along, same_back, same_or, or_assoc, or_none, same_or_left}
pub use Rattle.blaze_entries.proofs.Steps.{goes_last}
pub use Rattle.blaze_entries.specs.Found.{range_in, shown_ends}
pub use Rattle.blaze_entries.specs.Starts.{first_entry, up_to, StartsAscend, last_below}
pub use Rattle.blaze_int.proofs.Comparisons.{lt_true, lt_false, le_true, le_false, by_bool, lt_fails, lt_holds, max_right, le_holds}
pub use Rattle.blaze_int.proofs.Naturals.{nat_of-pos, pos_injective}
pub use Rattle.blaze_int.proofs.Options.{some_is_not, some_none, if_err, same_value}
pub use Rattle.blaze_int.specs.Bounds.{start_rank, end_rank}
pub use Rattle.blaze_int.specs.Unsigned.{nat_of}
pub use Rattle.blaze_streams.proofs.Answering.{IsAnsweredSoFar, asked, answered_none, takes_next, answered_more, answered_all, each_next, each_any, each_then}
pub use Rattle.blaze_streams.proofs.CarriedJoins.{itself_alike, exact_join}
pub use Rattle.blaze_streams.proofs.Filled.{fill_made}
pub use Rattle.blaze_streams.proofs.FoundSegments.{option_same}
pub use Rattle.blaze_streams.proofs.GapLists.{no_gap, gaps_complement, rank_of_next}
pub use Rattle.blaze_streams.proofs.ItemsTaken.{taken_more, taken_all}
pub use Rattle.blaze_streams.proofs.JoinLaws.{answers_keep_keys, left_join_has_left_keys, full_join_is_inner}
pub use Rattle.blaze_streams.proofs.LengthsLeft.{lengths_left, all_less}
pub use Rattle.blaze_streams.proofs.Paired.{joined_all}
pub use Rattle.blaze_streams.proofs.Steady.{at-after_under, at_below_from, at_first}
pub use Rattle.blaze_streams.proofs.Taken.{ends}
pub use Rattle.blaze_streams.specs.Answers.{values, EachValue, AnswersAtValue, entries_with_results, TakesValue, SomeCallAtValue}
pub use Rattle.blaze_streams.specs.Carried.{shown_option}
pub use Rattle.blaze_streams.specs.Cursors.{IsFrom, Reaches}
pub use Rattle.blaze_streams.specs.Fallible.{ok_calls}
pub use Rattle.blaze_streams.specs.Fills.{IsFilledWithNone, filled_entries, none_before}
pub use Rattle.blaze_streams.specs.Gaps.{gap_before, gaps, rank_or_end}
pub use Rattle.blaze_streams.specs.Joins.{is_joined}
pub use Rattle.blaze_streams.specs.Ranges.{shown_range}
pub use Rattle.blaze_entries.proofs.Canonical.Clones.{IsCopied}
pub use Rattle.blaze_entries.proofs.Canonical.Counted.{before_none, are_keys_as, are_keys_before, are_keys_after, some_keys, one_fits, one_more, keys_among, are_keys_glue}
pub use Rattle.blaze_entries.proofs.Canonical.EntryRuns.{entry_place, entry_run, member_run, walked_run}
pub use Rattle.blaze_entries.proofs.Canonical.Fewest.{fewest}
pub use Rattle.blaze_entries.proofs.Canonical.ListLaws.{canonical_is_unique, lengths_are_mapped}
pub use Rattle.blaze_entries.proofs.Canonical.Lookup.{at_in, IsAbove, above_rest, at_under, at_over, by_place, entry_in, entry_under, entry_over, IsAbove-from_apart, above_by, holds_ends, at_append, above_low, at_before, holds_under, holds_over, holds_in}
pub use Rattle.blaze_entries.proofs.Canonical.Mapped.{one_if}
pub use Rattle.blaze_entries.proofs.Canonical.RangeMaps.{starts_ascend}
pub use Rattle.blaze_entries.proofs.Canonical.Runs.{canonical, one_per_run, start_along, in_order}
pub use Rattle.blaze_entries.proofs.Canonical.SameLists.{content_decides}
pub use Rattle.blaze_entries.proofs.Canonical.Unique.{back, unique, breaks}
pub use Rattle.blaze_table.proofs.Cuts.Cutting.{after_all, after_whole}
pub use Rattle.blaze_table.proofs.Cuts.Splits.{canonical_part, ends_below}
pub use Rattle.blaze_table.proofs.Fills.Joints.{run_start_as}
pub use Rattle.blaze_table.proofs.Fills.KeptEntries.{all_kept, are_kept, kept_further, value_in}
pub use Rattle.blaze_entries.proofs.Lists.Ending.{ending_takes, ending_skips, ending_all}
pub use Rattle.blaze_table.proofs.Neighbours.NextEntries.{holding_none, holding_some, holding_not, below_none_is, below_here}
pub use Rattle.blaze_table.proofs.Paints.Inside.{inside_at}
pub use Rattle.blaze_entries.proofs.Paints.Kept.{over_in}
pub use Rattle.blaze_entries.proofs.Plain.{chosen, cut_inside, cut_outside, is_none_by, painted_inside, painted_outside, overlap_clear, count_clear}
pub use Rattle.blaze_table.proofs.Fills.Filled.{fill_inside, fill_held, fill_outside}
pub use Rattle.blaze_entries.proofs.Paints.Painted.{content_as, length_as, is_painted, paint_itself, canonical_as}
pub use Rattle.blaze_entries.proofs.Paints.Splices.{at-after_over, by_before, canonical_after, canonical_before, above_after, after_skips, after_keeps, before_keeps, before_cuts, by_after, at-before_over, at-before_under, at_glue, below_glue, below_more, canonical_glue, after_cuts}
pub use Rattle.blaze_table.proofs.Pairs.Lasts.{painted_one}
pub use Rattle.blaze_table.proofs.Pairs.PairLaws.{pairs_are_content}
pub use Rattle.blaze_table.proofs.Pairs.PairLists.{nat_of-next, pairs_append}
pub use Rattle.blaze_table.proofs.Pairs.Texts.{split_some}
pub use Rattle.blaze_entries.proofs.Lists.UnitLaws.{unit_laws}
pub use Rattle.blaze_table.proofs.Sweeping.Sweeps.{at_past}
pub use Rattle.blaze_table.proofs.Walks.Worked.{counted_none, counted_then}
pub use Rattle.blaze_entries.specs.Canonical.{IsCanonical, AreKeys, IsRangeMap, IsApart, IsRunStart, HasEnd, IsDisjoint, IsAscending}
pub use Rattle.blaze_table.specs.CanonicalOf.{keyed_count, IsCanonicalOf}
pub use Rattle.blaze_entries.specs.Chosen.{left_alone, left_with_right, IsChosen, right_first}
pub use Rattle.blaze_entries.specs.Complement.{value_if_none, IsComplement}
pub use Rattle.blaze_entries.specs.Count.{mapped_keys, keys_in}
pub use Rattle.blaze_entries.specs.Counted.{CountedEntries, uncounted}
pub use Rattle.blaze_entries.specs.Cut.{cut_range_at, IsRangeCut, IsAmongOthers, IsLastKeyRemoved, IsFirstKeyRemoved}
pub use Rattle.blaze_entries.specs.Ending.{ending_from, overlapping}
pub use Rattle.blaze_entries.specs.Entries.{Entry, at, entry, SameOption, holds, SameEntries, entry_at, shown_entry, shown_list, SameContent, shown_range_entry}
pub use Rattle.blaze_entries.specs.Equality.{same_entries}
pub use Rattle.blaze_table.specs.Filled.{filled_content, IsFilled}
pub use Rattle.blaze_table.specs.Gap.{IsClearFrom, IsGap}
pub use Rattle.blaze_entries.specs.Painted.{last_at, painted_in_order, IsInside, IsPainted, painted_content, IsApartBelow, IsApartFrom, LeavesAlone}
pub use Rattle.blaze_entries.specs.Pairs.{pair_list, pairs_from, value_at}
pub use Rattle.blaze_entries.specs.Run.{IsRun}
pub use Rattle.blaze_entries.specs.RangeSets.{unit_eq, IsRangeSet, shown_bare_range, shown_bare_ranges}
pub use Rattle.blaze_entries.specs.Splice.{after, before, paint, glue, IsBelow}
pub use Rattle.blaze_table.specs.Work.{IsCountedPaint, IsCounted}
pub use Rattle.range_map_blaze.specs.CutOut.{IsAlikeOff}
pub use Rattle.range_map_blaze.specs.Edits.{AreEdits, AreEndsOf, AreEntriesAsked, ArePiecesAsked, IsPieceAsked, AreEdited, IsEdited, IsPartEdited}
pub use Rattle.range_map_blaze.specs.EntriesWithin.{IsWithin}
pub use Rattle.range_map_blaze.specs.Extended.{AreInside, AreLeftAlone, ArePaintedInTurn, IsExtended, IsPairPainted, shown_point}
pub use Rattle.range_map_blaze.specs.FilledFrom.{IsFilledFrom}
pub use Rattle.range_map_blaze.specs.GapsFilled.{AreGapsFilled}
pub use Rattle.range_map_blaze.specs.Hashed.{entry_input}
pub use Rattle.range_map_blaze.specs.KeysTaken.{AreKeysTaken, IsTakenOutSomewhere}
pub use Rattle.range_map_blaze.specs.Made.{IsMade}
pub use Rattle.range_map_blaze.specs.MapLaws.{AnswersAreOnItsKeys, FullJoinIsInnerJoin, HaveSameKeys, IsUniversalMap, LeftJoinIsOnTheLeftKeys, TakingIsUndone, FillingIsUnion}
pub use Rattle.range_map_blaze.specs.OneRange.{one_range}
pub use Rattle.range_map_blaze.specs.Order.{IsComparedOn, pairs_cmp, ranked_pairs, pair_cmp, first_cmp, entry_cmp, map_cmp}
pub use Rattle.range_map_blaze.specs.OrderLaws.{tied_keys, equal_pairs_tie, equal_entries_tie}
pub use Rattle.range_map_blaze.specs.Pairs.{IsFirstPair, IsLastPair, PopsFirst, PopsLast}
pub use Rattle.range_map_blaze.specs.Printed.{entry_text, entries_text, map_text}
pub use Rattle.range_map_blaze.specs.Relations.{ShareNoKey, HasKeysOf}
pub use Rattle.range_map_blaze.specs.Somewhere.{IsFilledSomewhere, IsUpdatedSomewhere, IsPaintedSomewhere}
pub use Rattle.range_map_blaze.specs.TryLaws.{ReturnsInOk, TryIsPlain}
pub use Rattle.range_map_blaze.specs.Underway.{are_one_pair, joined_pair, IsUnderway}
pub use Rattle.range_map_blaze.specs.Union.{IsUnion}
pub use Rattle.range_map_blaze.specs.UpdateLaws.{changed, AreGivenBy, UpdatingIsByKeys, PartUpdatingIsByKeys, InsertingIsUpdating, InsertingAbsentIsUpdating, RemovingIsUpdating}
pub use Rattle.range_map_blaze.specs.Updated.{answer_or, updated, changes, AreAnswersAtPieces, AreApartFrom, Gives, IsCallableAtPieces, IsPartUpdated, IsUpdated, KeepsValue, KeepsValues}
pub use Rattle.range_map_blaze.specs.Within.{within, gaps_within, cut_each, cut_to, gaps_left, AreKeysFrom, IsUpTo, IsAcross, IsGapWalk}
