-- The words of this crate's proofs that come from elsewhere: a file of proofs takes those that it needs from here.
pub use Rattle.std.proofs.Common.{◌≡◌, ℕ, ℤ, pos, ◌+ℤ◌, ◌-ℤ◌, ◌≤ℤ◌, ◌<ℤ◌, List, [], ◌∷◌, ◌++◌, refl, sym, ap, ◌∙◌, subst, Option, Some, None, MatchOption, string_bytes, option_map, arith, codes, append_assoc, zero, suc, ◌+◌, decimal, cond, is_some, ◌↔◌, map, true, false, Bool, IfSome, IsSome, int_le, ◌&&◌, bytes_eq, ◌⊎◌, length, nat_le, append-nil, not, eqb, take, length-take, ◌<◌, ◌^◌, ◌*◌, ◌≤◌, get_or, rules, false-eqb, ◌-◌, ⊎_elim, inl, inr, length-append, IsTrue, negsuc, Result, Ok, Err, min, take-append-drop, leb, add-one, zero-add, ◌==◌, IsAscii, Fits, w64, IsUtf8, drop, to_z, of_z}
pub use Rattle.std.proofs.KnownBytes.{Consumes-nil, Consumes-trans, Keeps-refl, Appends-trans, Appends-nil, Consumes-kept}
pub use Rattle.std.proofs.Math.Nat.{pow-le-pow_right, pow-suc}
pub use Rattle.std.proofs.Math.Seq.{take-append_seam, take-append-add}
pub use Rattle.std.proofs.lemmas.Bool.{and_parts, eq-eqb, ne_eqb, cases_eq, eqb-true}
pub use Rattle.std.proofs.lemmas.Bool.Decides.{nat_tests}
pub use Rattle.std.proofs.lemmas.Cmp.{nat_list_eq_equiv}
pub use Rattle.std.proofs.lemmas.Int.{ints, by_lt_z}
pub use Rattle.std.proofs.lemmas.Int.Digits.{digits_value_more}
pub use Rattle.std.proofs.lemmas.List.{nil_from_length, take_all, take_min, take_at, append_cancel_left}
pub use Rattle.std.proofs.lemmas.List.Elements.{All-cons, All-head, All-tail, All-nil, All-append}
pub use Rattle.std.proofs.lemmas.List.Folds.{list_all_more}
pub use Rattle.std.proofs.lemmas.List.Sums.{sum_by-append, sum_by-cons}
pub use Rattle.std.proofs.lemmas.Option.{same_Some}
pub use Rattle.std.proofs.lemmas.Result.{on_ok_weaker, IfErr-weaker, err_from_is_err_and, on_err_weaker, IfOk-weaker}
pub use Rattle.std.proofs.lemmas.Slice.{take-put_mid}
pub use Rattle.std.proofs.lemmas.Str.{IsUtf8-from_ascii}
pub use Rattle.std.proofs.lemmas.Str.Ascii.{IsAscii-cons, IsAscii-nil}
pub use Rattle.std.proofs.str.Laws.{order}
pub use Rattle.std.specs.Borrow.{Bor}
pub use Rattle.std.specs.Char.{is_ascii_alphanumeric, is_ascii, is_ascii_digit, digit_value}
pub use Rattle.std.specs.Cmp.{IsEquivalence, signed_Decides, IsTotalOrder}
pub use Rattle.std.specs.Cmp.Lexicographic.{bytes_decides}
pub use Rattle.std.specs.Fmt.{signed_decimal, debug_str, option_append, AppendsText}
pub use Rattle.std.specs.Io.KnownBytes.{Consumes, Appends, IsAtEnd, Keeps}
pub use Rattle.std.specs.List.{list_all, flat_map, All, onto_first}
pub use Rattle.std.specs.Option.{option_copied, option_or, option_xor}
pub use Rattle.std.specs.Ordering.{int_eq, is_eq}
pub use Rattle.std.specs.Prelude.{int_lt}
pub use Rattle.std.specs.Range.{range_inclusive_start, range_inclusive_end}
pub use Rattle.std.specs.Str.Parse.{digits_value}
pub use Rattle.std.specs.String.{string_eq}
pub use Rattle.std.specs.Vec.{vec_capacity, vec_len}
pub use Rattle.std.specs.Vec.Iter.{into_iter_items}
pub use Rattle.std.specs.declared.alloc.AllocError.{AllocError}
pub use Rattle.std.specs.declared.alloc.Global.{Global}
pub use Rattle.std.specs.declared.cmp.Ordering.{Ordering}
pub use Rattle.std.specs.declared.string.String.{String}
pub use Rattle.blaze_entries.proofs.Alike.{same_along, same_itself, same_trans, same_or_right, or_assoc, or_none, is_some_alike, same_or_left}
pub use Rattle.blaze_int.proofs.Naturals.{nat_of-pos, pos_injective}
pub use Rattle.blaze_int.specs.Ranked.{IsKey}
pub use Rattle.blaze_int.specs.Unsigned.{nat_of}
pub use Rattle.blaze_iters.specs.Left.{pairs_left, unopened}
pub use Rattle.blaze_iters.specs.Owned.{HasSeveralFirst, HasSeveralLast, IsLikePair, OwnedLeft, owned_ranges}
pub use Rattle.blaze_entries.proofs.Canonical.ListLaws.{canonical_is_unique}
pub use Rattle.blaze_entries.proofs.Canonical.Lookup.{holds_in, holds_ends, at_clear, at_over, at_under, by_place}
pub use Rattle.blaze_entries.proofs.Canonical.Runs.{canonical}
pub use Rattle.blaze_entries.proofs.Canonical.SameLists.{content_decides}
pub use Rattle.blaze_table.proofs.Pairs.Lasts.{painted_one}
pub use Rattle.blaze_table.proofs.Pairs.PairLaws.{pairs_are_content}
pub use Rattle.blaze_table.proofs.Sweeping.Canonicals.{few_painted}
pub use Rattle.blaze_table.proofs.Walks.Worked.{counted_none, counted_then}
unfoldable pub use Rattle.blaze_entries.specs.Canonical.{IsRunStart, IsRunEnd}
pub use Rattle.blaze_entries.specs.Canonical.{IsRangeMap, IsOnePerRun, IsDisjoint, IsAscending, IsClear, HasStart, HasEnd, AreKeys}
pub use Rattle.blaze_table.specs.CanonicalOf.{keyed_count}
pub use Rattle.blaze_entries.specs.Chosen.{right_first, IsChosen, left_with_right, left_alone}
pub use Rattle.blaze_entries.specs.Complement.{value_if_none, IsComplement}
pub use Rattle.blaze_entries.specs.Count.{mapped_keys, keys_in}
pub use Rattle.blaze_entries.specs.Counted.{CountedEntries}
pub use Rattle.blaze_entries.specs.Cut.{below_at, from_at, cut_at}
pub use Rattle.blaze_entries.specs.Entries.{Entry, entry, at, entry_at, holds, SameOption, SameEntries, SameContent}
pub use Rattle.blaze_entries.specs.Equality.{same_entries}
pub use Rattle.blaze_table.specs.Filled.{filled_content, IsFilled}
pub use Rattle.blaze_table.specs.Gap.{IsGap}
pub use Rattle.blaze_entries.specs.Painted.{last_at, painted_in_order, painted_content, IsPainted}
pub use Rattle.blaze_entries.specs.Pairs.{value_at, IsAscendingPairs, pairs_from, pairs_of, pair_list}
pub use Rattle.blaze_table.specs.Work.{IsCounted, PutsAtMost, IsCountedCut}
pub use Rattle.range_map_blaze.proofs.Order.MapOrder.{order_of_pairs, ties_where_equal}
pub use Rattle.range_map_blaze.proofs.Paints.PaintedOver.{last_is_first, painted_over, turned}
pub use Rattle.range_map_blaze.specs.Order.{ranked_pairs, map_cmp}
pub use Rattle.range_map_blaze.specs.OrderLaws.{map_cmp_total}
pub use Rattle.range_map_blaze.specs.Pairs.{PopsFirst, PopsLast}
pub use Rattle.range_map_cli.specs.Commands.{At, Len, is_word, Entries, Command, Blank, Get, command_of, command_of_words, range_of, insert_of, words_of, written_number, is_digits, command_of_request}
pub use Rattle.range_map_cli.specs.Edits.{answer_text, command_done}
pub use Rattle.range_map_cli.specs.Fills.{fills_of, painted_and_filled, paints_of, ranges_in, IsPaintOrFill, PaintsAloneAreInOrder, StepsPaintAndFill}
pub use Rattle.range_map_cli.specs.Laws.{points_of, AppendUndoesSplit, AreAllPainted, UnionIsPainting, EqualWhereGetsAre, IsOrderOfMaps, CountsAddUp, DisjointUnionCommutes, EmptyIsUnit, PartsHaveItsKeys, SetKeeps, UnionIsAssociative, UnionIsIdempotent, UniversalKeeps, XorWithItselfIsEmpty, AreRangesOrGapsFrom, CoverFrom, IsRangeOrGapAt, LookUpsCover, from_front, from_back, given_in_front, given_behind, AreNoneFromNone, EachOnce, TakeAll, Takes, AreItems, AreNoneFromEnd, EachOnceOwned, HasEnded, IsEachOnceOwned, IsItem, IsNotRefused, TakeAllOwned, TakesOwned}
pub use Rattle.range_map_cli.specs.Lines.{ends_in, Lacks, lines_of}
pub use Rattle.range_map_cli.specs.Output.{no_memory, Prints, commands_of, has_bad, Answers, error_line, IsOutput, with_command, bad_or, AnswersFirst, Closes, AreRead, Serves, Streams, Ends}
pub use Rattle.range_map_cli.specs.Pieces.{IsSameFrom, IsGreatestPiece}
pub use Rattle.range_map_cli.specs.Replies.{Content, greatest_key, least_key, line, Replies, word_or_dash, mapped_count, listed_entry, listed_entries, changed_text, content_after_command, empty_content, Lists, piece_text}
pub use Rattle.range_map_cli.specs.Sessions.{IsServing, Forwards, with_line, IsAt, content_after_commands, ClosesBefore}
pub use Rattle.range_map_cli.specs.States.{content_of, HasWords}
pub use Rattle.range_map_cli.specs.Steps.{answer, IsStepped, SameAnswer, Combines, IsEdit, content_after, after_all, answers, IsCountedRun, IsRefusedAt, IsSteppedAll, SameAnswers, first_mapped_key, last_mapped_key, pair_of, key_with_value, without_key, SamePair, complemented, IsWithout}
pub use Rattle.range_map_cli.specs.declared.End.{End}
pub use Rattle.range_map_cli.specs.declared.session.Session.{Session}
pub use Rattle.range_map_cli.specs.declared.step.Answer.{Answer}
pub use Rattle.range_map_cli.specs.declared.step.Answer.TheVariants.{Wrote, Old, Popped, Done}
pub use Rattle.range_map_cli.specs.declared.step.Step.{Step}
pub use Rattle.range_map_cli.specs.declared.step.Step.TheVariants.{Paint, Fill, Insert, Remove, PopFirst, PopLast, Clear, KeepBelow, KeepFrom, Or, And, Minus, Xor, AndSet, MinusSet, ComplementWith}
pub use mathlib.Core.Path.{fun_ext}
