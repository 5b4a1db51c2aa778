-- The words of this crate's proofs that come from elsewhere: a file of proofs takes those that it needs from here.
pub use Rattle.std.proofs.Common.{◌≡◌, ℕ, suc, ◌<◌, ℤ, ◌≤ℤ◌, Bool, true, false, cond, List, [], ◌∷◌, length, Option, Some, None, refl, ◌∙◌, sym, ap, subst, arith, nat_eq, map, option_map, zero, pos, ◌+ℤ◌, ◌<ℤ◌, ◌++◌, append_assoc, append-nil, ⊎_elim, ◌+◌, ◌-ℤ◌, not, ◌&&◌, take, drop, get_or, length-drop, Bor, rules, IfOk, IfSome}
pub use Rattle.std.proofs.lemmas.Int.{ints, by_lt_z}
pub use Rattle.std.proofs.lemmas.List.{nil_from_length, length_push, map-append, take-append-drop, map-id, length-map, drop_all}
pub use Rattle.std.proofs.lemmas.List.Folds.{list_all-append}
pub use Rattle.std.proofs.lemmas.Option.{slice_get-map}
pub use Rattle.std.proofs.lemmas.Result.{IfOk-weaker}
pub use Rattle.std.proofs.lemmas.Simd.{map-map}
pub use Rattle.std.proofs.lemmas.Slice.{between_to_end}
pub use Rattle.std.specs.Cmp.{IsEquivalence, nat_eq_equiv}
pub use Rattle.std.specs.Cmp.Lexicographic.{lists_equiv, options_equiv}
pub use Rattle.std.specs.Fn.{Mut}
pub use Rattle.std.specs.Global.{Vec}
pub use Rattle.std.specs.Iterator.{IsFinite}
pub use Rattle.std.specs.List.{list_any, slice_get, list_all, between}
pub use Rattle.std.specs.Option.{is_some, option_and_then, option_or, option_xor}
pub use Rattle.std.specs.Prelude.{int_le}
pub use Rattle.std.specs.Vec.Iter.{into_iter_items}
pub use Rattle.blaze_entries.proofs.Alike.{or_none, same_trans, same_itself, same_or, or_assoc, same_back}
pub use Rattle.blaze_int.proofs.Comparisons.{by_bool}
pub use Rattle.blaze_int.proofs.Naturals.{next_differs}
pub use Rattle.blaze_int.specs.Unsigned.{nat_of}
pub use Rattle.blaze_streams.proofs.Answering.{IsAnsweredSoFar, answered_none, takes_next, answered_more, answered_all}
pub use Rattle.blaze_streams.proofs.FoundSegments.{next_less, IsFound, found_none, found_more, row_if_any-none}
pub use Rattle.blaze_streams.proofs.JoinLaws.{as_list, at_rows, canonical_rows}
pub use Rattle.blaze_streams.proofs.LengthsLeft.{all_lengths_left, lengths_left}
pub use Rattle.blaze_streams.proofs.Lesser.{lesser_one}
pub use Rattle.blaze_streams.proofs.Paired.{pair_laws}
pub use Rattle.blaze_streams.proofs.ItemsTaken.{taken_more, taken_all}
pub use Rattle.blaze_streams.proofs.RowParts.{row_append, row_length, last_append, first_some, one_of, odd_append, with_alike}
pub use Rattle.blaze_streams.proofs.Rows.{all_canonical_after, is_first, steady_none, none_left}
pub use Rattle.blaze_streams.proofs.Steady.{same_some, stops_steady}
pub use Rattle.blaze_streams.specs.Answers.{AnswersAtValue, TakesValue, values, entries_with_results}
pub use Rattle.blaze_streams.specs.Carried.{shown_option}
pub use Rattle.blaze_streams.specs.Cursors.{AllCanonical, first_keys, all_after, IsNextSegment, first_key, steady_to, all_steady_to, lesser}
pub use Rattle.blaze_streams.specs.JoinAnswers.{IsJoined}
pub use Rattle.blaze_streams.specs.JoinLaws.{as_row}
pub use Rattle.blaze_streams.specs.Joins.{paired, pair_eq, IsJoinOf}
pub use Rattle.blaze_streams.specs.Many.{has_odd, last_value, last_of_all, IsChosenOfMany, last_of_odd}
pub use Rattle.blaze_streams.specs.Merges.{GivesEach}
pub use Rattle.blaze_streams.specs.RangeLists.{shown_ranges}
pub use Rattle.blaze_streams.specs.Ranges.{shown_range}
pub use Rattle.blaze_streams.specs.Segments.{row, row_eq, row_if_any, shown_segment}
pub use Rattle.blaze_streams.specs.declared.segmenting.joins.JoinKind.{JoinKind}
pub use Rattle.blaze_streams.specs.declared.segmenting.joins.JoinKind.TheVariants.{Inner, Full}
pub use Rattle.blaze_entries.proofs.Canonical.Counted.{are_keys_after}
pub use Rattle.blaze_entries.proofs.Canonical.ListLaws.{canonical_is_unique}
pub use Rattle.blaze_entries.proofs.Canonical.Lookup.{at_in, IsAbove, IsAbove-from_apart, at_under, at_over, at_before, by_place}
pub use Rattle.blaze_entries.proofs.Canonical.Runs.{canonical, one_per_run}
pub use Rattle.blaze_entries.proofs.Canonical.Unique.{back, unique}
pub use Rattle.blaze_entries.proofs.Paints.Painted.{content_as}
pub use Rattle.blaze_entries.proofs.Lists.Indexed.{from_index}
pub use Rattle.blaze_entries.specs.Canonical.{IsApart, IsCanonical, AreKeys, IsRangeMap}
pub use Rattle.blaze_entries.specs.Chosen.{right_first, left_with_right, IsChosen}
pub use Rattle.blaze_entries.specs.Entries.{Entry, entry, at, holds, SameOption, SameEntries}
pub use Rattle.blaze_entries.specs.Splice.{glue, after}
pub use Rattle.range_map_blaze.proofs.JoinedKeys.{below_all, above_all}
pub use Rattle.range_map_blaze.proofs.Made.{made_of}
pub use Rattle.range_map_blaze.proofs.Streams.{range_map_as}
pub use Rattle.range_map_blaze.specs.Union.{IsUnion}
pub use Rattle.range_map_multi.specs.ManyJoins.{IsJoinOfMany, IsCallableAtRows, IsManyJoined, shown_row, shown_full_row, asked_row}
pub use Rattle.range_map_multi.specs.ManyLaws.{UnionOfTwoIsOr, IntersectionOfTwoIsAnd, SymmetricDifferenceOfTwoIsXor, InnerJoinOfTwoIsInnerJoin, FullJoinOfTwoIsFullJoin}
pub use Rattle.range_map_multi.specs.OnAll.{with_all, IsOnAll}
pub use Rattle.range_map_multi.specs.Parts.{AllPlaced, AllRangeMaps, values_at_positions, all_valued, with_values, in_places, HasPlacedValues, with_valued_range, ranges_with_values}
