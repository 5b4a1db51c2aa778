use Rattle.blaze_table.proofs.Words.{subst, CountedEntries, IsSplit, split_maps}
use Rattle.blaze_table.specs.Sides.{AreKeptFrom}
use Rattle.blaze_table.specs.Work.{IsCountedCut}
use Rattle.blaze_table.proofs.Cuts.Splitting.{is_split, split_counted, split_tables}
use Rattle.blaze_table.proofs.table.RangeTable.part_below.Goals as goal

pub count_parts-below_len-requires-clause-below : goal.count_parts-below_len-requires-clause-below
count_parts-below_len-requires-clause-below g c =
    (is_split g.V.PartialEq.eq g.met.V.Eq.laws _ _ _ _ c.self.invariant.canonical c.in_ok-entries.ensures.split).below_canonical

pub count_parts-below_len-requires-clause-from : goal.count_parts-below_len-requires-clause-from
count_parts-below_len-requires-clause-from g c =
    (is_split g.V.PartialEq.eq g.met.V.Eq.laws _ _ _ _ c.self.invariant.canonical c.in_ok-entries.ensures.split).from_canonical

pub count_parts-below_len-requires-clause-counted : goal.count_parts-below_len-requires-clause-counted
count_parts-below_len-requires-clause-counted g c =
    split_counted g.V.PartialEq.eq g.met.V.Eq.laws _ _ _ _ c.self.invariant.canonical c.in_ok-entries.ensures.split g.T.Integer.low g.T.Integer.high _ c.self.invariant

pub invariant_of-result : goal.invariant_of-result
invariant_of-result g c =
    (split_tables g.V.PartialEq.eq g.met.V.Eq.laws _ _ _ _ c.self.invariant.canonical c.in_ok-entries.ensures.split g.T.Integer.low g.T.Integer.high _ c.self.invariant
    _ _ c.count_parts-below_len.ensures.below c.count_parts-below_len.ensures.from).0

pub invariant_of-self-2 : goal.invariant_of-self-2
invariant_of-self-2 g c =
    (split_tables g.V.PartialEq.eq g.met.V.Eq.laws _ _ _ _ c.self.invariant.canonical c.in_ok-entries.ensures.split g.T.Integer.low g.T.Integer.high _ c.self.invariant
    _ _ c.count_parts-below_len.ensures.below c.count_parts-below_len.ensures.from).1

pub returns-clause-ok : goal.returns-clause-ok
returns-clause-ok g c =
    let rank = g.T.Integer.rank in
    let eq = g.V.PartialEq.eq in
    let low = g.T.Integer.low in
    let high = g.T.Integer.high in
    let below = c.in_ok-entries.entries.counted.entries in
    let from = c.entries_below.new.entries.counted.entries in
    subst (λ (s : CountedEntries g.row.V.Denot). IsSplit eq low high (rank c.args.key) s.entries below from) c.self.view_is
    (split_maps eq g.met.V.Eq.laws low high _ _ (rank c.args.key) _ below from (invariant_of-result g c) (invariant_of-self-2 g c)
    (is_split eq g.met.V.Eq.laws _ _ _ _ c.self.invariant.canonical c.in_ok-entries.ensures.split))

pub returns-clause-kept : goal.returns-clause-kept
returns-clause-kept g c =
    subst (λ (s : CountedEntries g.row.V.Denot). AreKeptFrom (g.T.Integer.rank c.args.key) s.entries c.entries_below.new.entries.counted.entries) c.self.view_is c.in_ok-entries.ensures.kept

pub returns-clause-counted : goal.returns-clause-counted
returns-clause-counted g c = subst (λ (s : CountedEntries g.row.V.Denot). IsCountedCut s c.entries_below.new.entries.counted) c.self.view_is c.in_ok-entries.ensures.counted
