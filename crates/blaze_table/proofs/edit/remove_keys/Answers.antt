use Rattle.blaze_table.proofs.Words.{◌++◌, subst, sym, ap, ◌∙◌, arith, option_map, is_some, ints, range_in, shown_ends, below, start_at, IsPredecessor}
use Rattle.blaze_table.proofs.Paints.Composed.{trimmed_start, trimmed_inner, under_canonical, rest_below, taken_out}
use Rattle.blaze_table.proofs.Paints.Inner.{both_some, cleared, inner_fits, rest_gone, rest_start, rest_under}
use Rattle.blaze_table.proofs.Paints.Placing.{has_room, above_there, rest_started}
use Rattle.blaze_table.proofs.edit.remove_keys.Goals as goal

pub split_tail-requires-clause-room : goal.split_tail-requires-clause-room
split_tail-requires-clause-room g c =
    let rank = g.T.Integer.rank in
    has_room g.V.PartialEq.eq g.met.V.Eq.laws (rank c.args.plan.end) c.args.entries.now.entries (option_map (shown_ends rank) c.args.plan.tail) c.requires.place.tail

pub split_tail-requires-clause-tail_value : goal.split_tail-requires-clause-tail_value
split_tail-requires-clause-tail_value g c =
    let rank = g.T.Integer.rank in
    above_there g.V.PartialEq.eq g.met.V.Eq.laws rank (rank c.args.lo) c.args.entries.now.entries c.args.plan c.args.tail_value c.requires.canonical c.requires.place

pub trim-requires-clause-canonical : goal.trim-requires-clause-canonical
trim-requires-clause-canonical g c =
    let rank = g.T.Integer.rank in
    let eq = g.V.PartialEq.eq in
    let lo = rank c.args.lo in
    let es = c.args.entries.now.entries in
    let new = c.split_tail.new.entries.entries in
    under_canonical eq g.T.Integer.low g.T.Integer.high es c.in_hand.ensures c.requires.canonical lo new
    (rest_below eq lo (rank c.args.plan.end) es new (rest_started eq g.met.V.Eq.laws rank lo es c.args.plan c.args.tail_value c.requires.canonical c.requires.place new c.in_ok-split_tail.ensures.put))

pub trim-requires-clause-predecessor : goal.trim-requires-clause-predecessor
trim-requires-clause-predecessor g c =
    let rank = g.T.Integer.rank in
    let eq = g.V.PartialEq.eq in
    let lo = rank c.args.lo in
    let es = c.args.entries.now.entries in
    let new = c.split_tail.new.entries.entries in
    subst (λ xs. IsPredecessor lo xs (option_map (shown_ends rank) c.args.plan.predecessor))
    (sym (rest_below eq lo (rank c.args.plan.end) es new (rest_started eq g.met.V.Eq.laws rank lo es c.args.plan c.args.tail_value c.requires.canonical c.requires.place new c.in_ok-split_tail.ensures.put))) c.requires.place.predecessor

pub clear-requires-clause-here : goal.clear-requires-clause-here
clear-requires-clause-here g c =
    let rank = g.T.Integer.rank in
    let eq = g.V.PartialEq.eq in
    let lo = rank c.args.lo in
    let es = c.args.entries.now.entries in
    let new = c.split_tail.new.entries.entries in
    let p = c.requires.place in
    let put = c.in_ok-split_tail.ensures.put in
    let below = rest_below eq lo (rank c.args.plan.end) es new (rest_started eq g.met.V.Eq.laws rank lo es c.args.plan c.args.tail_value c.requires.canonical p new put) in
    let canonical = under_canonical eq g.T.Integer.low g.T.Integer.high es c.in_hand.ensures c.requires.canonical lo new below in
    c.is_removed-is_first_removed.ensures
    ∙ rest_start lo lo (rank c.args.plan.end) g.T.Integer.low g.T.Integer.high c.args.plan.at_start (option_map (shown_ends rank) c.args.plan.tail) c.args.tail_value es new (omega (arith, ints)) p.order c.in_hand.ensures
    (both_some (shown_ends rank) range_in c.args.plan.at_start (start_at lo es) p.at_start) put
    ∙ ap (λ o. is_some o) (sym (trimmed_start eq lo (rank c.args.plan.end) new c.trim.new.entries.entries canonical c.trim.ensures.entries))

pub clear-requires-clause-above : goal.clear-requires-clause-above
clear-requires-clause-above g c =
    let rank = g.T.Integer.rank in
    let eq = g.V.PartialEq.eq in
    let lo = rank c.args.lo in
    let end = rank c.args.plan.end in
    let es = c.args.entries.now.entries in
    let new = c.split_tail.new.entries.entries in
    let p = c.requires.place in
    let put = c.in_ok-split_tail.ensures.put in
    let below = rest_below eq lo end es new (rest_started eq g.met.V.Eq.laws rank lo es c.args.plan c.args.tail_value c.requires.canonical p new put) in
    let canonical = under_canonical eq g.T.Integer.low g.T.Integer.high es c.in_hand.ensures c.requires.canonical lo new below in
    let same = trimmed_inner eq lo end new c.trim.new.entries.entries canonical c.trim.ensures.entries in
    inner_fits lo end c.trim.new.entries.entries c.args.plan.removed_count
    (same ∙ rest_gone lo end (option_map (shown_ends rank) c.args.plan.tail) c.args.tail_value c.args.plan.removed_count es new p.removed_count (rest_under end es (option_map (shown_ends rank) c.args.plan.tail) p.tail) put)

pub returns-clause-cut : goal.returns-clause-cut
returns-clause-cut g c =
    let rank = g.T.Integer.rank in
    let eq = g.V.PartialEq.eq in
    let low = g.T.Integer.low in
    let high = g.T.Integer.high in
    let lo = rank c.args.lo in
    let end = rank c.args.plan.end in
    let es = c.args.entries.now.entries in
    let new = c.split_tail.new.entries.entries in
    let third = c.trim.new.entries.entries in
    let p = c.requires.place in
    let put = c.in_ok-split_tail.ensures.put in
    let started = rest_started eq g.met.V.Eq.laws rank lo es c.args.plan c.args.tail_value c.requires.canonical p new put in
    let canonical = under_canonical eq low high es c.in_hand.ensures c.requires.canonical lo new (rest_below eq lo end es new started) in
    let removed_count =
    trimmed_inner eq lo end new third canonical c.trim.ensures.entries
    ∙ rest_gone lo end (option_map (shown_ends rank) c.args.plan.tail) c.args.tail_value c.args.plan.removed_count es new p.removed_count (rest_under end es (option_map (shown_ends rank) c.args.plan.tail) p.tail) put in
    taken_out eq low high es c.in_hand.ensures c.requires.canonical lo end p.order new third c.clear.new.entries.entries started c.trim.ensures.entries
    (c.clear.ensures.entries ∙ ap (λ x. below lo third ++ x) (cleared lo end low high third c.in_hand-3.ensures p.order c.args.plan.removed_count removed_count))
