use Rattle.blaze_table.proofs.Words.{rules, ◌++◌, None, ap, ◌∙◌, arith, option_map, ints, CountedEntries, range_in, shown_ends, below, start_at}
use Rattle.blaze_table.proofs.Paints.Composed.{left_at, extended}
use Rattle.blaze_entries.proofs.EditLists.{length-with_end}
use Rattle.blaze_table.proofs.Paints.Inner.{both_some, cleared, inner_fits, rest_gone, rest_start, rest_under}
use Rattle.blaze_table.proofs.Paints.Placing.{has_room, above_there, rest_started}
use Rattle.blaze_table.proofs.Walks.Worked.{worked_edited, worked_then}
use Rattle.blaze_table.proofs.edit.extend.Goals as goal

pub split_tail-requires-clause-room : goal.split_tail-requires-clause-room
split_tail-requires-clause-room g c =
    let rank = g.T.Integer.rank in
    has_room g.V.PartialEq.eq g.met.V.Eq.laws (rank c.args.plan.end) c.args.entries.now.entries (option_map (shown_ends rank) c.args.plan.tail) c.requires.place.tail

pub split_tail-requires-clause-tail_value : goal.split_tail-requires-clause-tail_value
split_tail-requires-clause-tail_value g c =
    let rank = g.T.Integer.rank in
    above_there g.V.PartialEq.eq g.met.V.Eq.laws rank (rank c.args.lo) c.args.entries.now.entries c.args.plan None c.requires.canonical c.requires.place

pub clear-requires-clause-here : goal.clear-requires-clause-here
clear-requires-clause-here g c =
    let rank = g.T.Integer.rank in
    let lo = rank c.args.lo in
    let es = c.args.entries.now.entries in
    let p = c.requires.place in
    c.is_removed-is_first_removed.ensures
    ∙ rest_start lo lo (rank c.args.plan.end) g.T.Integer.low g.T.Integer.high c.args.plan.at_start (option_map (shown_ends rank) c.args.plan.tail) None es c.split_tail.new.entries.entries (omega (arith, ints)) p.order c.in_hand.ensures
    (both_some (shown_ends rank) range_in c.args.plan.at_start (start_at lo es) p.at_start) c.in_ok-split_tail.ensures.put

pub clear-requires-clause-above : goal.clear-requires-clause-above
clear-requires-clause-above g c =
    let rank = g.T.Integer.rank in
    let lo = rank c.args.lo in
    let end = rank c.args.plan.end in
    let es = c.args.entries.now.entries in
    let p = c.requires.place in
    inner_fits lo end c.split_tail.new.entries.entries c.args.plan.removed_count
    (rest_gone lo end (option_map (shown_ends rank) c.args.plan.tail) None c.args.plan.removed_count es c.split_tail.new.entries.entries p.removed_count (rest_under end es (option_map (shown_ends rank) c.args.plan.tail) p.tail) c.in_ok-split_tail.ensures.put)

pub returns-clause-extended : goal.returns-clause-extended
returns-clause-extended g c =
    let rank = g.T.Integer.rank in
    let eq = g.V.PartialEq.eq in
    let low = g.T.Integer.low in
    let high = g.T.Integer.high in
    let lo = rank c.args.lo in
    let end = rank c.args.plan.end in
    let es = c.args.entries.now.entries in
    let new = c.split_tail.new.entries.entries in
    let p = c.requires.place in
    let put = c.in_ok-split_tail.ensures.put in
    let removed_count = rest_gone lo end (option_map (shown_ends rank) c.args.plan.tail) None c.args.plan.removed_count es new p.removed_count (rest_under end es (option_map (shown_ends rank) c.args.plan.tail) p.tail) put in
    extended eq low high es c.in_hand.ensures lo (rank c.args.first) end (left_at eq low high es c.in_hand.ensures rank lo (rank c.args.first) c.args.plan.predecessor p.predecessor c.requires.joined)
    new c.clear.new.entries.entries c.set_end.new.self.entries (rest_started eq g.met.V.Eq.laws rank lo es c.args.plan None c.requires.canonical p new put)
    (c.clear.ensures.entries ∙ ap (λ x. below lo new ++ x) (cleared lo end low high new c.in_hand-2.ensures p.order c.args.plan.removed_count removed_count))
    (ap (λ (s : CountedEntries g.row.V.Denot). s.entries) c.set_end.ensures)

pub returns-clause-worked : goal.returns-clause-worked
returns-clause-worked g c =
    worked_edited 1 0 c.args.entries.now c.clear.new.entries c.set_end.new.self _
    (worked_then 1 0 0 c.args.entries.now c.split_tail.new.entries c.clear.new.entries c.in_ok-split_tail.ensures.worked c.clear.ensures.worked) c.set_end.ensures
    (length-with_end (g.T.Integer.rank c.args.first) (g.T.Integer.rank c.args.plan.end) c.clear.new.entries.entries)

pub returns-in_err-split_tail-clause-err : goal.returns-in_err-split_tail-clause-err
returns-in_err-split_tail-clause-err g c = search rules
