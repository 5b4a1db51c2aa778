use Rattle.blaze_table.proofs.Words.{◌≡◌, ◌+◌, length, None, Some, sym, subst, ap, ◌∙◌, refl, arith, on_ok_weaker, option_map, lt_holds, lt_fails, CountedEntries, shown_ends, IsFrontReplaced, length-with_end_value, inner_entries, moved_count, IsTail, IsTailSplit}
use Rattle.blaze_table.proofs.Paints.Inner.{rest_under, over_gone, front_gone}
use Rattle.blaze_table.proofs.Paints.Placing.{rest_over, over_kept, over_front}
use Rattle.blaze_table.proofs.Walks.Worked.{worked_none, worked_edited}
use Rattle.blaze_table.proofs.edit.place.replace_planned.Goals as goal

pub returns-in-None-clause-ok : goal.returns-in-None-clause-ok
returns-in-None-clause-ok g c =
    let rank = g.T.Integer.rank in
    let eq = g.V.PartialEq.eq in
    let lo = rank c.args.lo in
    let end = rank c.args.plan.end in
    let es = c.args.entries.now.entries in
    let tail = subst (λ o. IsTail end es (option_map (shown_ends rank) o)) c.in-None.is c.requires.place.tail in
    over_kept eq g.met.V.Eq.laws lo end c.args.value c.requires.place.order es c.requires.present es c.replace.new.self.entries
    (rest_over eq g.met.V.Eq.laws lo end c.requires.place.order es es None tail tt refl) (ap (λ (s : CountedEntries g.row.V.Denot). s.entries) c.replace.ensures)

pub returns-in-None-clause-removed_count : goal.returns-in-None-clause-removed_count
returns-in-None-clause-removed_count g c =
    let rank = g.T.Integer.rank in
    over_gone (rank c.args.lo) (rank c.args.plan.end) c.args.value c.args.plan.removed_count (option_map (shown_ends rank) c.args.plan.tail) None c.args.entries.now.entries c.args.entries.now.entries c.replace.new.self.entries
    c.requires.place.removed_count (rest_under (rank c.args.plan.end) c.args.entries.now.entries (option_map (shown_ends rank) c.args.plan.tail) c.requires.place.tail)
    (subst (λ o. IsTailSplit (rank c.args.lo) (rank c.args.plan.end) (option_map (shown_ends rank) o) None c.args.entries.now.entries c.args.entries.now.entries) (sym c.in-None.is) refl)
    (ap (λ (s : CountedEntries g.row.V.Denot). s.entries) c.replace.ensures)

pub returns-in-None-clause-worked : goal.returns-in-None-clause-worked
returns-in-None-clause-worked g c =
    worked_edited 2 0 c.args.entries.now c.args.entries.now c.replace.new.self _ (worked_none 2 0 c.args.entries.now) c.replace.ensures
    (length-with_end_value (g.T.Integer.rank c.args.lo) (g.T.Integer.rank c.args.plan.end) c.args.value c.args.entries.now.entries)

pub returns-in_ok-split_tail-in-Some-clause-ok : goal.returns-in_ok-split_tail-in-Some-clause-ok
returns-in_ok-split_tail-in-Some-clause-ok g c =
    let rank = g.T.Integer.rank in
    let eq = g.V.PartialEq.eq in
    let lo = rank c.args.lo in
    let end = rank c.args.plan.end in
    let es = c.args.entries.now.entries in
    let over = lt_holds lo (rank c.in-Some.ends.start) (sym c.is_below.ensures ∙ c.if-is_below.true) in
    let tail = subst (λ o. IsTail end es (option_map (shown_ends rank) o)) c.in-Some.is c.requires.place.tail in
    over_kept eq g.met.V.Eq.laws lo end c.args.value c.requires.place.order es c.requires.present c.split_tail.new.entries.entries c.replace-then-is_below.new.self.entries
    (rest_over eq g.met.V.Eq.laws lo end c.requires.place.order es c.split_tail.new.entries.entries (Some (shown_ends rank c.in-Some.ends)) tail over c.in_ok-split_tail-in-Some.ensures.put)
    (ap (λ (s : CountedEntries g.row.V.Denot). s.entries) c.replace-then-is_below.ensures)

pub returns-in_ok-split_tail-in-Some-clause-removed_count : goal.returns-in_ok-split_tail-in-Some-clause-removed_count
returns-in_ok-split_tail-in-Some-clause-removed_count g c =
    let rank = g.T.Integer.rank in
    over_gone (rank c.args.lo) (rank c.args.plan.end) c.args.value c.args.plan.removed_count (option_map (shown_ends rank) c.args.plan.tail) None c.args.entries.now.entries c.split_tail.new.entries.entries c.replace-then-is_below.new.self.entries
    c.requires.place.removed_count (rest_under (rank c.args.plan.end) c.args.entries.now.entries (option_map (shown_ends rank) c.args.plan.tail) c.requires.place.tail)
    (subst (λ o. IsTailSplit (rank c.args.lo) (rank c.args.plan.end) (option_map (shown_ends rank) o) None c.args.entries.now.entries c.split_tail.new.entries.entries) (sym c.in-Some.is) c.in_ok-split_tail-in-Some.ensures.put)
    (ap (λ (s : CountedEntries g.row.V.Denot). s.entries) c.replace-then-is_below.ensures)

pub returns-in_ok-split_tail-in-Some-clause-worked : goal.returns-in_ok-split_tail-in-Some-clause-worked
returns-in_ok-split_tail-in-Some-clause-worked g c =
    let w = c.in_ok-split_tail-in-Some.ensures.worked in
    worked_edited 2 0 c.args.entries.now c.split_tail.new.entries c.replace-then-is_below.new.self _
    (record { counted = w.counted; puts = omega (arith, w.puts); looks = w.looks }) c.replace-then-is_below.ensures
    (length-with_end_value (g.T.Integer.rank c.args.lo) (g.T.Integer.rank c.args.plan.end) c.args.value c.split_tail.new.entries.entries)

pub returns-else-is_below-clause-ok : goal.returns-else-is_below-clause-ok
returns-else-is_below-clause-ok g c =
    let rank = g.T.Integer.rank in
    let eq = g.V.PartialEq.eq in
    let lo = rank c.args.lo in
    let end = rank c.args.plan.end in
    let es = c.args.entries.now.entries in
    let ends = c.in-Some.ends in
    let tail = subst (λ o. IsTail end es (option_map (shown_ends rank) o)) c.in-Some.is c.requires.place.tail in
    let under = lt_fails lo (rank ends.start) (sym c.is_below.ensures ∙ c.if-is_below.false) in
    on_ok_weaker c.replace_front.result (λ w. over_front eq g.met.V.Eq.laws lo end c.args.value c.requires.place.order es c.requires.present (rank ends.start) (rank ends.end) c.replace_front.new.self.entries c.requires.canonical
    under tail (subst (λ n. IsFrontReplaced lo end c.args.value n es c.replace_front.new.self.entries) c.add_one-next.ensures w)) c.replace_front.ensures.ok

pub returns-else-is_below-clause-removed_count : goal.returns-else-is_below-clause-removed_count
returns-else-is_below-clause-removed_count g c =
    let rank = g.T.Integer.rank in
    let lo = rank c.args.lo in
    let ends = c.in-Some.ends in
    let under = lt_fails lo (rank ends.start) (sym c.is_below.ensures ∙ c.if-is_below.false) in
    let removed_count = subst (λ o. c.args.plan.removed_count + moved_count lo (option_map (shown_ends rank) o) ≡ length (inner_entries lo (rank c.args.plan.end) c.args.entries.now.entries)) c.in-Some.is c.requires.place.removed_count in
    on_ok_weaker c.replace_front.result (λ w. front_gone lo (rank c.args.plan.end) (rank ends.start) (rank ends.end) c.args.value c.args.plan.removed_count c.args.entries.now.entries c.replace_front.new.self.entries under removed_count
    (subst (λ n. IsFrontReplaced lo (rank c.args.plan.end) c.args.value n c.args.entries.now.entries c.replace_front.new.self.entries) c.add_one-next.ensures w)) c.replace_front.ensures.ok
