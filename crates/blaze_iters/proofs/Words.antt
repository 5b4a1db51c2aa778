-- The names from other crates that this crate's proofs use. The files of proofs import them from here.
pub use Rattle.std.proofs.Common.{◌≡◌, Bool, ℕ, suc, zero, ◌+◌, ◌≤◌, ℤ, pos, ◌+ℤ◌, ◌-ℤ◌, ◌≤ℤ◌, ◌<ℤ◌, List, [], ◌∷◌, ◌++◌, length, Option, Some, None, refl, sym, ap, ◌∙◌, arith, append_assoc, append-nil, length-append, map, subst, rules, true, false, min, if◌then◌else◌, ◌&&◌, ◌||◌}
pub use Rattle.std.proofs.lemmas.Bool.Decides.{Decides-int_eq}
pub use Rattle.std.proofs.lemmas.Int.{ints}
pub use Rattle.std.proofs.lemmas.List.{reverse-append, map-append}
pub use Rattle.std.specs.Cmp.{IsEquivalence}
pub use Rattle.std.specs.Iterator.{MakesProgress, YieldsFirstBy, YieldsLastBy, item_count}
pub use Rattle.std.specs.Option.{option_to_list, is_some}
pub use Rattle.std.specs.Ordering.{int_eq}
pub use Rattle.std.specs.Prelude.{Result, Ok, Err, IfNone, option_map, unwrap_or, int_le}
pub use Rattle.std.specs.Rc.{rc_value}
pub use Rattle.std.specs.declared.alloc.AllocError.{AllocError}
pub use Rattle.blaze_entries.proofs.Canonical.Lookup.{IsAbove, IsAbove-from_apart}
pub use Rattle.blaze_entries.proofs.Canonical.Parts.{IsRangeMap-front, IsRangeMap-rest}
pub use Rattle.blaze_entries.proofs.Canonical.Runs.{canonical, one_per_run}
pub use Rattle.blaze_entries.proofs.Lists.UnitLaws.{unit_laws}
pub use Rattle.blaze_entries.proofs.Steps.{goes_last, goes_first}
pub use Rattle.blaze_entries.specs.Canonical.{IsDisjoint, IsClear, IsRangeMap, IsApart, IsCanonical, AreKeys}
pub use Rattle.blaze_entries.specs.Ending.{ending_from}
pub use Rattle.blaze_entries.specs.Entries.{Entry, entry, shown_range_entry, shown_entry, at}
pub use Rattle.blaze_entries.specs.Pairs.{pairs_from, pairs_of, pair_list}
pub use Rattle.blaze_entries.specs.RangeSets.{IsRangeSet, unit_eq, shown_bare_range}
pub use Rattle.blaze_entries.specs.declared.range_entry.RangeEntry.{RangeEntry}
pub use Rattle.blaze_int.proofs.Comparisons.{by_bool}
pub use Rattle.blaze_int.proofs.Naturals.{nat_of-pos}
pub use Rattle.blaze_int.specs.Unsigned.{nat_of}
pub use Rattle.blaze_iters.specs.KeyRanges.{ranges_then, joined_ranges, AreKeyRanges, bare_entries, TakesEnds, joined_left, TakesLastEnds}
pub use Rattle.blaze_iters.specs.Left.{RangesLeft, ranges_left, pairs_left, keys_left, shown_left, shown_key_value, OpensFirst, OpensLast, YieldsOpeningFirst, YieldsOpeningLast, IsRestAfter, IsRestBefore, TakesFirst, TakesLast}
pub use Rattle.blaze_iters.specs.Owned.{OwnedLeft, owned_ranges, HasSeveralFirst, HasSeveralLast, GivesFirstOrRefuses, GivesLastOrRefuses, TakesFirstLike, TakesLastLike, IsLikePair}
pub use Rattle.blaze_streams.proofs.Seeking.{part_rest, range_map_part, all_sought, sought, sought_part, ending_from_low}
pub use Rattle.blaze_streams.specs.LastParts.{IsLastPart, IsSought}
pub use Rattle.blaze_streams.specs.Ranges.{shown_range}
pub use Rattle.blaze_table.proofs.Pairs.PairLists.{pairs_first, pairs_last, pairs_one, pair_list-append}
