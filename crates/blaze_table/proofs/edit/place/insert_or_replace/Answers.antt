use Rattle.blaze_table.proofs.Words.{ap, sym, ◌∙◌, is_some, range_in, shown_ends, start_at}
use Rattle.blaze_table.proofs.Paints.Inner.{both_some, place_over}
use Rattle.blaze_table.proofs.edit.place.insert_or_replace.Goals as goal

pub replace_planned-requires-clause-place : goal.replace_planned-requires-clause-place
replace_planned-requires-clause-place g c =
    let rank = g.T.Integer.rank in
    let lo = rank c.args.lo in
    let es = c.args.entries.now.entries in
    let here = sym (both_some (shown_ends rank) range_in c.args.plan.at_start (start_at lo es) c.requires.place.at_start) ∙ ap (λ o. is_some o) c.in-Some.is in
    place_over g.V.PartialEq.eq rank lo g.T.Integer.low g.T.Integer.high es c.args.plan c.args.tail_value c.in_hand.ensures c.requires.canonical here c.requires.place
