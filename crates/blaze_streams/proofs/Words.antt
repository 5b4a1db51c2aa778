-- The names from other crates that this crate's proofs use. The files of proofs import them from here.
pub use Rattle.std.proofs.Common.{◌≡◌, ℤ, ◌≤ℤ◌, cond, Option, Some, None, refl, ◌∙◌, sym, subst, ap, arith, inl, inr, ℕ, ◌<◌, pos, ◌+ℤ◌, ◌<ℤ◌, Bool, true, false, nat_eq, List, [], ◌∷◌, ◌++◌, ⊎_elim, ◌&&◌, ◌||◌, zero, suc, ◌+◌, length, if◌then◌else◌, ◌≤◌, All, IsPermutation, append_assoc, ◌-ℤ◌, map, min, slice_index_or, slice_set, drop, Bor, rules, ◌-◌, not, take}
pub use Rattle.std.proofs.Math.Seq.{set-append_seam, get_or-append_seam}
pub use Rattle.std.proofs.lemmas.Bool.{false_from_ne_true, and_left, and_right}
pub use Rattle.std.proofs.lemmas.Bool.Decides.{Decides-int_eq}
pub use Rattle.std.proofs.lemmas.Cmp.{and_equiv, on_equiv}
pub use Rattle.std.proofs.lemmas.Fn.{FoldsTo-push}
pub use Rattle.std.proofs.lemmas.Grind.{common_steps}
pub use Rattle.std.proofs.lemmas.Int.{ints, by_lt_z}
pub use Rattle.std.proofs.lemmas.List.{append-nil, map-append, length_push, length-append, length-map, nil_from_length, drop_all, set-get_or, take-append-drop}
pub use Rattle.std.proofs.lemmas.List.Elements.{AllZip-push, All-nil, All-cons, All-head, All-tail, All-append}
pub use Rattle.std.proofs.lemmas.List.Folds.{list_all-append}
pub use Rattle.std.proofs.lemmas.List.Sorted.{IsPermutation-map, All-permutation, answers_always}
pub use Rattle.std.proofs.lemmas.Option.{MatchOption-at_none, MatchOption-at_some}
pub use Rattle.std.proofs.lemmas.Result.{IfOk-weaker}
pub use Rattle.std.specs.Bool.{⊤}
pub use Rattle.std.specs.Cmp.{IsEquivalence, first_so, second_so, nat_eq_equiv}
pub use Rattle.std.specs.Cmp.Lexicographic.{lists_equiv, options_equiv}
pub use Rattle.std.specs.Fn.{Mut}
pub use Rattle.std.specs.Global.{Vec}
pub use Rattle.std.specs.Int.{int_min, int_max}
pub use Rattle.std.specs.Iterator.{IsFinite}
pub use Rattle.std.specs.List.{list_any, FoldsTo, zip, list_all}
pub use Rattle.std.specs.List.Sorted.{IsSortedByKey}
pub use Rattle.std.specs.Option.{option_eq, is_some, option_or, option_map, option_xor, option_copied}
pub use Rattle.std.specs.Ordering.{int_eq, is_lt, int_cmp, bool_cmp, ordering_then}
pub use Rattle.std.specs.Prelude.{◌⊎◌, int_le, int_lt, MatchOption}
pub use Rattle.std.specs.Range.{range_inclusive_start, range_inclusive_end}
pub use Rattle.std.specs.Rc.{rc_value}
pub use Rattle.std.specs.Vec.{vec_len, vec_items}
pub use Rattle.std.specs.Vec.Iter.{into_iter_items}
pub use Rattle.std.specs.declared.cmp.Ordering.{Ordering}
pub use Rattle.std.specs.declared.cmp.Ordering.TheVariants.{Less, Equal, Greater}
pub use Rattle.std.specs.declared.ops.RangeInclusive.{RangeInclusive}
pub use Rattle.blaze_entries.proofs.Alike.{same_along, or_none, or_assoc, same_none, same_itself, same_trans, same_or_left, same_or_right, same_back, none_or, is_some_alike, same_or}
pub use Rattle.blaze_entries.proofs.Canonical.Clones.{same_cloned}
pub use Rattle.blaze_entries.proofs.Canonical.Counted.{are_keys_as, are_keys_glue}
pub use Rattle.blaze_entries.proofs.Canonical.ListLaws.{canonical_is_unique}
pub use Rattle.blaze_entries.proofs.Canonical.Lookup.{at_in, at_under, at_over, by_place, at_append, IsAbove-from_apart, at_before, IsAbove, above_low, above_rest}
pub use Rattle.blaze_entries.proofs.Canonical.Parts.{IsRangeMap-rest, IsRangeMap-front}
pub use Rattle.blaze_entries.proofs.Canonical.Runs.{one_per_run, canonical, in_order}
pub use Rattle.blaze_entries.proofs.Canonical.Unique.{breaks}
pub use Rattle.blaze_entries.proofs.Lists.Ending.{ending_all, ending_skips, ending_takes}
pub use Rattle.blaze_entries.proofs.Lists.Glued.{IsBelow-push, and_both}
pub use Rattle.blaze_entries.proofs.Lists.Indexed.{from_index}
pub use Rattle.blaze_entries.proofs.Lists.Orders.{tail_sorted, not_less}
pub use Rattle.blaze_entries.proofs.Lists.Pushed.{has_last, pushed_joined, pushed_apart}
pub use Rattle.blaze_entries.proofs.Lists.UnitLaws.{unit_laws}
pub use Rattle.blaze_entries.proofs.Paints.Painted.{canonical_as, glue-nil}
pub use Rattle.blaze_entries.proofs.Paints.Splices.{below_more, after_keeps, at-after_over, by_after, above_after, canonical_after, canonical_glue, at_glue, below_glue, after_skips}
pub use Rattle.blaze_entries.proofs.Plain.{chosen}
pub use Rattle.blaze_entries.proofs.Steps.{goes_last, goes_first}
pub use Rattle.blaze_entries.specs.Canonical.{IsCanonical, IsRangeMap, IsApart, IsOnePerRun, AreKeys, IsDisjoint, IsAscending}
pub use Rattle.blaze_entries.specs.Chosen.{left_alone, left_with_right, IsChosen, right_first}
pub use Rattle.blaze_entries.specs.Cloned.{AreCloned}
pub use Rattle.blaze_entries.specs.Complement.{value_if_none, IsComplement}
pub use Rattle.blaze_entries.specs.Ending.{ending_from}
pub use Rattle.blaze_entries.specs.Entries.{Entry, at, SameOption, entry, SameEntries, holds, shown_entry, shown_list}
pub use Rattle.blaze_entries.specs.Found.{range_in, shown_ends}
pub use Rattle.blaze_entries.specs.Painted.{ClonesAreAlike}
pub use Rattle.blaze_entries.specs.RangeSets.{unit_eq, IsRangeSet, shown_bare_range, shown_bare_ranges}
pub use Rattle.blaze_entries.specs.Splice.{IsBelow, after, glue}
pub use Rattle.blaze_entries.specs.Starts.{first_entry}
pub use Rattle.blaze_int.proofs.Comparisons.{le_true, le_false, lt_false, eq_true, eq_holds, and_fails, by_bool, lt_true, le_fails, lt_fails, lt_holds}
pub use Rattle.blaze_int.proofs.Naturals.{nat_of-pos, next_differs}
pub use Rattle.blaze_int.proofs.Options.{is_none, same_value}
pub use Rattle.blaze_int.specs.Ranked.{IsNextKey}
pub use Rattle.blaze_int.specs.Unsigned.{nat_of}
pub use Rattle.blaze_streams.specs.Answers.{EachValue, entries_with_results, values, AnswersAtValue, SomeCallAtValue, TakesValue, IsCallableAtEachValue, IsTransformed}
pub use Rattle.blaze_streams.specs.Carried.{shown_option, AreOptions, IsItOrCarried, ArePairsCarried, shown_pair}
pub use Rattle.blaze_streams.specs.Choosing.{IsTaken, IsTakenAlone, PutsValue, PutsAlike, ahead_of}
pub use Rattle.blaze_streams.specs.Cursors.{lesser, AllCanonical, first_keys, all_after, IsNextSegment, first_key, FirstHas, Reaches, IsFrom, steady_to, AllFrom, all_steady_to, AllReach}
pub use Rattle.blaze_streams.specs.Events.{Event, Starts, Ends}
pub use Rattle.blaze_streams.specs.Fills.{with_none, none_before, filled_entries, IsFilledWithNone}
pub use Rattle.blaze_streams.specs.Gaps.{gap_before, gaps, rank_or_end}
pub use Rattle.blaze_streams.specs.JoinLaws.{as_row, AnswersKeepKeys, LeftJoinHasLeftKeys, FullJoinIsOfListOfTwo, FullJoinIsInner}
pub use Rattle.blaze_streams.specs.Joins.{is_joined, pair_eq, piece_of, IsJoinOf, IsCarriedJoin, IsSegmentPut, paired, IsLetGo, IsNotAsked, IsSkipped}
pub use Rattle.blaze_streams.specs.LastParts.{IsLastPart, IsSought}
pub use Rattle.blaze_streams.specs.Many.{has_odd, last_value, last_of_all}
pub use Rattle.blaze_streams.specs.Merges.{GivesEach, GivesBoth}
pub use Rattle.blaze_streams.specs.RangeLists.{shown_ranges}
pub use Rattle.blaze_streams.specs.Ranges.{shown_range}
pub use Rattle.blaze_streams.specs.Segments.{row, row_if_any, row_eq, shown_segment, shown_segments, IsSegmentsOf, numbered, all_numbered, AreInOrder}
pub use Rattle.blaze_streams.specs.Sweeps.{time, AscendInTime, events_of, all_events, IsSweep, shown_event, shown_events, instant}
pub use Rattle.blaze_streams.specs.Violations.{violates, ViolatesAfter, IsFirstViolation}
pub use Rattle.blaze_streams.specs.declared.events.sweep_event.SweepEvent.{SweepEvent}
pub use Rattle.blaze_streams.specs.declared.events.sweep_event.SweepEvent.TheVariants.{Start, End}
pub use Rattle.blaze_streams.specs.declared.segmenting.joins.JoinKind.{JoinKind}
pub use Rattle.blaze_streams.specs.declared.segmenting.joins.JoinKind.TheVariants.{Inner, Left, Full}
pub use Rattle.blaze_streams.specs.declared.segmenting.list_segments.Segment.{Segment}
