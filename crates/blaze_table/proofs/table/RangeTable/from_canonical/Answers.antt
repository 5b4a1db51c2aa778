use Rattle.blaze_table.proofs.Words.{◌∙◌, sym, ap, subst, arith, ints, IsCanonical, AreKeys, keys_in, CountedEntries, shown_list, keys_among, starts_ascend, canonical}
use Rattle.blaze_table.proofs.table.RangeTable.from_canonical.Goals as goal

pub count_list-len-requires-clause-canonical : goal.count_list-len-requires-clause-canonical
count_list-len-requires-clause-canonical g c = rw c.as_slice.ensures.value (canonical g.V.PartialEq.eq g.met.V.Eq.laws _ c.requires.range_map.runs)

pub count_list-len-requires-clause-fits : goal.count_list-len-requires-clause-fits
count_list-len-requires-clause-fits g c =
    let eq = g.V.PartialEq.eq in
    let bound = keys_among eq g.T.Integer.low g.T.Integer.high _ g.met.T.Integer.ranked.some_key (canonical eq g.met.V.Eq.laws _ c.requires.range_map.runs) c.requires.range_map.keys in
    rw c.as_slice.ensures.value (omega (arith, ints, bound, g.met.T.Integer.has_room))

pub from_sorted-requires : goal.from_sorted-requires
from_sorted-requires g c = record {
  ascend =
      let eq = g.V.PartialEq.eq in
      starts_ascend eq g.T.Integer.low g.T.Integer.high _ (canonical eq g.met.V.Eq.laws _ c.requires.range_map.runs) c.requires.range_map.keys;
}

pub invariant_of-result : goal.invariant_of-result
invariant_of-result g c =
    let eq = g.V.PartialEq.eq in
    record {
      canonical = subst (λ (s : CountedEntries g.row.V.Denot). IsCanonical eq s.entries) (sym c.in_ok-entries.ensures) (canonical eq g.met.V.Eq.laws _ c.requires.range_map.runs);
      are_keys = subst (λ (s : CountedEntries g.row.V.Denot). AreKeys g.T.Integer.low g.T.Integer.high s.entries) (sym c.in_ok-entries.ensures) c.requires.range_map.keys;
      counted = c.count_list-len.ensures ∙ ap (λ xs. keys_in (shown_list g.T.Integer.rank xs)) c.as_slice.ensures.value ∙ ap (λ (s : CountedEntries g.row.V.Denot). keys_in s.entries) (sym c.in_ok-entries.ensures);
    }
