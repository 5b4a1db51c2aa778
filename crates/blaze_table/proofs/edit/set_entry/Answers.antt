use Rattle.blaze_table.proofs.Words.{rules, ◌++◌, pos, ◌+ℤ◌, subst, sym, ap, ◌∙◌, option_map, below, shown_ends, IsPredecessor}
use Rattle.blaze_table.proofs.Paints.Composed.{under_canonical, trimmed_inner, set_entry}
use Rattle.blaze_table.proofs.Paints.Inner.{inner_fits, cleared}
use Rattle.blaze_table.proofs.edit.set_entry.Goals as goal

pub trim-requires-clause-canonical : goal.trim-requires-clause-canonical
trim-requires-clause-canonical g c =
    under_canonical g.V.PartialEq.eq g.T.Integer.low g.T.Integer.high c.args.entries.now.entries c.in_hand.ensures c.requires.canonical (g.T.Integer.rank c.args.lo) c.insert_or_replace.new.entries.entries c.in_ok-insert_or_replace.ensures.ok.below

pub trim-requires-clause-predecessor : goal.trim-requires-clause-predecessor
trim-requires-clause-predecessor g c =
    let rank = g.T.Integer.rank in
    subst (λ es. IsPredecessor (rank c.args.lo) es (option_map (shown_ends rank) c.args.plan.predecessor)) (sym c.in_ok-insert_or_replace.ensures.ok.below) c.requires.place.predecessor

pub clear_above-requires : goal.clear_above-requires
clear_above-requires g c =
    let lo = g.T.Integer.rank c.args.lo in
    let end = g.T.Integer.rank c.args.plan.end in
    let new = c.insert_or_replace.new.entries.entries in
    let eq = g.V.PartialEq.eq in
    let canonical = under_canonical eq g.T.Integer.low g.T.Integer.high c.args.entries.now.entries c.in_hand.ensures c.requires.canonical lo new c.in_ok-insert_or_replace.ensures.ok.below in
    inner_fits lo end c.trim.new.entries.entries c.args.plan.removed_count (trimmed_inner eq lo end new c.trim.new.entries.entries canonical c.trim.ensures.entries ∙ c.in_ok-insert_or_replace.ensures.removed_count)

pub returns-clause-put : goal.returns-clause-put
returns-clause-put g c =
    let low = g.T.Integer.low in
    let high = g.T.Integer.high in
    let lo = g.T.Integer.rank c.args.lo in
    let end = g.T.Integer.rank c.args.plan.end in
    let es = c.args.entries.now.entries in
    let new = c.insert_or_replace.new.entries.entries in
    let third = c.trim.new.entries.entries in
    let eq = g.V.PartialEq.eq in
    let canonical = under_canonical eq low high es c.in_hand.ensures c.requires.canonical lo new c.in_ok-insert_or_replace.ensures.ok.below in
    set_entry eq low high es c.in_hand.ensures c.requires.canonical lo end c.args.value c.requires.place.order new c.in_ok-insert_or_replace.ensures.ok c.in_hand-2.ensures third c.clear_above.new.entries.entries c.trim.ensures.entries
    (c.clear_above.ensures.entries
    ∙ ap (λ x. below (lo +ℤ pos 1) third ++ x) (cleared lo end low high third c.in_hand-3.ensures c.requires.place.order c.args.plan.removed_count (trimmed_inner eq lo end new third canonical c.trim.ensures.entries ∙ c.in_ok-insert_or_replace.ensures.removed_count)))

pub returns-clause-worked : goal.returns-clause-worked
returns-clause-worked g c = search rules
