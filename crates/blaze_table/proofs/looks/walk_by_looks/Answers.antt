use Rattle.blaze_table.proofs.Words.{if_err, ◌≡◌, ◌<ℤ◌, List, true, false, sym, subst, ap, option_map, IfSome, IsSome, CountedEntries, last_below, start_at, IsClonedIf, cloned_above, refused_above, Entry}
use Rattle.blaze_table.proofs.Walks.FewLooks.{looked_again}
use Rattle.blaze_table.proofs.Walks.Found.{has_ranges, has_keys, left_there, left_value, found_above, found_by_walk}
use Rattle.blaze_table.proofs.looks.walk_by_looks.Goals as goal

pub plan-requires-clause-ranges : goal.plan-requires-clause-ranges
plan-requires-clause-ranges g c = has_ranges g.V.PartialEq.eq (g.T.Integer.rank c.args.lo) _ g.T.Integer.low g.T.Integer.high c.requires.order _ c.args.entries.now.entries c.in_hand.ensures c.requires.table

pub plan-requires-clause-len : goal.plan-requires-clause-len
plan-requires-clause-len g c = has_keys g.V.PartialEq.eq _ _ g.T.Integer.low g.T.Integer.high c.requires.order _ c.args.entries.now.entries c.in_hand.ensures c.requires.table

pub value_above-requires : goal.value_above-requires
value_above-requires g c =
    let test = λ (w : g.row.V.Denot). g.V.PartialEq.eq w c.args.value.now in
    let predecessor = c.plan.result.0.predecessor in
    subst (λ (es : List (Entry g.row.V.Denot)). IfSome predecessor (λ f. IsSome (start_at (g.T.Integer.rank f.start) es))) (sym (ap (λ (s : CountedEntries g.row.V.Denot). s.entries) c.plan.ensures.looked))
    (left_there g.V.PartialEq.eq _ _ g.T.Integer.low g.T.Integer.high c.requires.order c.args.entries.now.entries c.in_hand.ensures c.requires.table.canonical test g.T.Integer.rank predecessor c.plan.ensures.plan.predecessor)

pub returns-in_err-tail_value-clause-refused : goal.returns-in_err-tail_value-clause-refused
returns-in_err-tail_value-clause-refused g c =
    let test = λ (w : g.row.V.Denot). g.V.PartialEq.eq w c.args.value.now in
    let es = c.args.entries.now.entries in
    if_err c.from_residual.result (found_above g.V.PartialEq.eq _ _ g.T.Integer.low g.T.Integer.high c.requires.order _ es c.in_hand.ensures c.requires.table test
    (refused_above g.T.Integer.rank test (g.T.Integer.rank c.args.hi) c.plan.result.0.predecessor (last_below (g.T.Integer.rank c.args.lo) es) c.plan.ensures.plan.predecessor c.in_err-tail_value.ensures.refused))

pub returns-in_err-tail_value-clause-looked : goal.returns-in_err-tail_value-clause-looked
returns-in_err-tail_value-clause-looked g c =
    looked_again g.V.PartialEq.eq _ _ g.T.Integer.low g.T.Integer.high c.args.entries.now c.plan.new.entries c.value_above.new.entries c.requires.order c.in_hand.ensures c.requires.table.canonical
    c.plan.ensures.looked c.plan.ensures.risen c.plan.ensures.few c.value_above.ensures.looked c.value_above.ensures.risen c.value_above.ensures.few

pub returns-clause-found : goal.returns-clause-found
returns-clause-found g c =
    let rank = g.T.Integer.rank in
    let eq = g.V.PartialEq.eq in
    let test = λ (w : g.row.V.Denot). eq w c.args.value.now in
    let es = c.args.entries.now.entries in
    let predecessor = c.plan.result.0.predecessor in
    found_by_walk eq _ _ g.T.Integer.low g.T.Integer.high c.requires.order _ es c.in_hand.ensures c.requires.table test _ c.plan.ensures.plan _ c.plan.ensures.len g.V.Clone.is_clone c.requires.clones _
    (cloned_above rank g.V.Clone.is_clone test (rank c.args.hi) predecessor (last_below (rank c.args.lo) es) (λ k. option_map (λ (e : Entry g.row.V.Denot). e.value) (start_at k es)) c.in_ok-tail_value.tail_value c.plan.ensures.plan.predecessor
    (left_value eq _ _ g.T.Integer.low g.T.Integer.high c.requires.order es c.in_hand.ensures c.requires.table.canonical)
    (subst (λ (s : CountedEntries g.row.V.Denot). IfSome predecessor (λ f. rank c.args.hi <ℤ rank f.end → f.value ≡ false → IsClonedIf g.V.Clone.is_clone true (option_map (λ (e : Entry g.row.V.Denot). e.value) (start_at (rank f.start) s.entries)) c.in_ok-tail_value.tail_value)) c.plan.ensures.looked c.in_ok-tail_value.ensures.above))

pub returns-clause-looked : goal.returns-clause-looked
returns-clause-looked g c =
    looked_again g.V.PartialEq.eq _ _ g.T.Integer.low g.T.Integer.high c.args.entries.now c.plan.new.entries c.value_above.new.entries c.requires.order c.in_hand.ensures c.requires.table.canonical
    c.plan.ensures.looked c.plan.ensures.risen c.plan.ensures.few c.value_above.ensures.looked c.value_above.ensures.risen c.value_above.ensures.few
