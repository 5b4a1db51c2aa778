use Rattle.range_map_multi.proofs.Words.{◌∙◌, List, map, Bor, IfOk, sym, ap, subst, Vec, is_some, list_any, shown_row, IsCallableAtRows, IsManyJoined, AllRangeMaps}
use Rattle.range_map_multi.proofs.Placed.{given_lists, given_placed, borrowed_shown}
use Rattle.range_map_multi.proofs.streams.VecMultiwaySortedDisjointMap.full_join.Goals as goal

pub full_answers-requires-clause-placed : goal.full_answers-requires-clause-placed
full_answers-requires-clause-placed g c = given_placed _ _ c.in_ok-cursors.cursors.items c.deref_mut.result.now _ (ap (λ (vs : List (Vec (Bor g.row.VC.Denot))). map (λ v. map (λ r. g.VC.ValueCarrier.shown r.now) v.items) vs) c.deref-2.ensures.value ∙ borrowed_shown g.VC.ValueCarrier.shown (λ r. r.now) (λ v. v.items) (λ v. v.items) c.in_ok-borrowed.borrowed.items c.in_ok-cursors.carriers.items (c.in_ok-borrowed.ensures ∙ ap (λ (vs : List (Vec g.row.VC.Denot)). map (λ v. v.items) vs) c.deref.ensures.value)) c.deref_mut.ensures.value c.in_ok-cursors.ensures.placed

pub full_answers-requires-clause-range_maps : goal.full_answers-requires-clause-range_maps
full_answers-requires-clause-range_maps g c =
    subst (AllRangeMaps g.VC.Value.PartialEq.eq g.T.Integer.low g.T.Integer.high) (sym (given_lists _ _ c.in_ok-cursors.cursors.items c.deref_mut.result.now _ (ap (λ (vs : List (Vec (Bor g.row.VC.Denot))). map (λ v. map (λ r. g.VC.ValueCarrier.shown r.now) v.items) vs) c.deref-2.ensures.value ∙ borrowed_shown g.VC.ValueCarrier.shown (λ r. r.now) (λ v. v.items) (λ v. v.items) c.in_ok-borrowed.borrowed.items c.in_ok-cursors.carriers.items (c.in_ok-borrowed.ensures ∙ ap (λ (vs : List (Vec g.row.VC.Denot)). map (λ v. v.items) vs) c.deref.ensures.value)) c.deref_mut.ensures.value c.in_ok-cursors.ensures.placed))
    c.in_ok-cursors.ensures.range_maps

pub full_answers-requires-clause-callable : goal.full_answers-requires-clause-callable
full_answers-requires-clause-callable g c =
    subst (IsCallableAtRows (λ a. shown_row (λ v. g.VC.ValueCarrier.shown v.now) a.0.now) g.F.FnMut g.VC.Value.PartialEq.eq g.T.Integer.low g.T.Integer.high (list_any is_some) c.args.f)
    (sym (given_lists _ _ c.in_ok-cursors.cursors.items c.deref_mut.result.now _ (ap (λ (vs : List (Vec (Bor g.row.VC.Denot))). map (λ v. map (λ r. g.VC.ValueCarrier.shown r.now) v.items) vs) c.deref-2.ensures.value ∙ borrowed_shown g.VC.ValueCarrier.shown (λ r. r.now) (λ v. v.items) (λ v. v.items) c.in_ok-borrowed.borrowed.items c.in_ok-cursors.carriers.items (c.in_ok-borrowed.ensures ∙ ap (λ (vs : List (Vec g.row.VC.Denot)). map (λ v. v.items) vs) c.deref.ensures.value)) c.deref_mut.ensures.value c.in_ok-cursors.ensures.placed))
    c.requires

pub returns : goal.returns
returns g c =
    subst (λ Ls. IfOk c.full_answers.result (IsManyJoined (λ a. shown_row (λ v. g.VC.ValueCarrier.shown v.now) a.0.now) g.F.FnMut g.VC.Value.PartialEq.eq g.T.Integer.low g.T.Integer.high (list_any is_some) g.W.PartialEq.eq c.args.f Ls))
    (given_lists _ _ c.in_ok-cursors.cursors.items c.deref_mut.result.now _ (ap (λ (vs : List (Vec (Bor g.row.VC.Denot))). map (λ v. map (λ r. g.VC.ValueCarrier.shown r.now) v.items) vs) c.deref-2.ensures.value ∙ borrowed_shown g.VC.ValueCarrier.shown (λ r. r.now) (λ v. v.items) (λ v. v.items) c.in_ok-borrowed.borrowed.items c.in_ok-cursors.carriers.items (c.in_ok-borrowed.ensures ∙ ap (λ (vs : List (Vec g.row.VC.Denot)). map (λ v. v.items) vs) c.deref.ensures.value)) c.deref_mut.ensures.value c.in_ok-cursors.ensures.placed) c.full_answers.ensures
