use Rattle.blaze_table.proofs.Words.{◌≡◌, [], ◌∷◌, sym, ap, subst, ◌∙◌, nil_from_length, into_iter_items, shown_entry, shown_list, last_at}
use Rattle.blaze_table.proofs.Sweeping.JoinedPieces.{IsJoined, joined_none, joined_more}
use Rattle.blaze_table.proofs.Sweeping.Canonicals.{canonical_of_swept}
use Rattle.blaze_table.proofs.sweep.ascending.joined_entries.Goals as goal

pub loop-start-init : goal.loop-start-init
loop-start-init g c =
    rw (c.into_iter-start-iterator.ensures.into_iter_gives.0, c.new-entries.ensures.items)
    (joined_none g.V.PartialEq.eq g.met.V.Eq.laws g.T.Integer.low g.T.Integer.high (shown_list g.T.Integer.rank c.args.pairs.items) c.requires)

pub loop-start-preserved : goal.loop-start-preserved
loop-start-preserved g c =
    let rank = g.T.Integer.rank in
    let eq = g.V.PartialEq.eq in
    let all = shown_list rank c.args.pairs.items in
    let pair : g.row.T.Denot × g.row.T.Denot × g.row.V.Denot = (c.in-Some.start, c.in-Some.end, c.in-Some.value) in
    let split : into_iter_items c.loop-start.start-iterator ≡ pair ∷ into_iter_items c.next.new.self = c.in-Some.ensures.steps.0 in
    joined_more eq g.met.V.Eq.laws g.T.Integer.low g.T.Integer.high all (shown_entry rank (λ v. v) pair) (shown_list rank (into_iter_items c.next.new.self)) (shown_list rank c.loop-start.entries.items) (shown_list rank c.push_entry.new.out.items)
    c.in_hand.ensures.from c.in_hand-in-loop-start.ensures.to c.in_ok-push_entry.ensures.ok
    (subst (λ xs. IsJoined eq g.T.Integer.low g.T.Integer.high all (shown_list rank xs) (shown_list rank c.loop-start.entries.items)) split c.loop-start.invariant)

pub returns : goal.returns
returns g c =
    let rank = g.T.Integer.rank in
    let i = c.loop-start.invariant in
    let none : into_iter_items c.loop-start.start-iterator ≡ [] = nil_from_length (into_iter_items c.loop-start.start-iterator) (sym c.loop-start.start-iterator.rest.ok.0 ∙ c.in-None.ensures.steps.0) in
    canonical_of_swept g.V.PartialEq.eq g.met.V.Eq.laws g.T.Integer.low g.T.Integer.high i.from (shown_list rank c.args.pairs.items) (shown_list rank c.loop-start.entries.items) i.swept
    (λ k l. i.same k l ∙ ap (λ xs. last_at (shown_list rank xs) k) none)
