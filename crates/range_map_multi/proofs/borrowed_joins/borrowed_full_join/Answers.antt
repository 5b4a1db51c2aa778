use Rattle.range_map_multi.proofs.Words.{◌∙◌, List, map, Bor, sym, ap, subst, Vec, is_some, list_any, map-id, IfOk-weaker, made_of, shown_row, IsCallableAtRows, IsManyJoined, AllRangeMaps}
use Rattle.range_map_multi.proofs.Placed.{given_lists, given_placed}
use Rattle.range_map_multi.proofs.borrowed_joins.borrowed_full_join.Goals as goal

pub full_answers-requires-clause-placed : goal.full_answers-requires-clause-placed
full_answers-requires-clause-placed g c = given_placed _ _ c.in_ok-cursors.cursors.items c.deref_mut.result.now _ (ap (λ (vs : List (Vec (Bor g.row.V.Denot))). map (λ v. map (λ r. r.now) v.items) vs) c.deref.ensures.value) c.deref_mut.ensures.value c.in_ok-cursors.ensures.placed

pub full_answers-requires-clause-range_maps : goal.full_answers-requires-clause-range_maps
full_answers-requires-clause-range_maps g c =
    subst (AllRangeMaps g.V.PartialEq.eq g.T.Integer.low g.T.Integer.high) (sym (given_lists _ _ c.in_ok-cursors.cursors.items c.deref_mut.result.now _ (ap (λ (vs : List (Vec (Bor g.row.V.Denot))). map (λ v. map (λ r. r.now) v.items) vs) c.deref.ensures.value) c.deref_mut.ensures.value c.in_ok-cursors.ensures.placed))
    c.in_ok-cursors.ensures.range_maps

pub full_answers-requires-clause-callable : goal.full_answers-requires-clause-callable
full_answers-requires-clause-callable g c =
    subst (IsCallableAtRows (λ a. shown_row (λ v. v.now) a.0.now) g.F.FnMut g.V.PartialEq.eq g.T.Integer.low g.T.Integer.high (list_any is_some) c.args.f)
    (sym (given_lists _ _ c.in_ok-cursors.cursors.items c.deref_mut.result.now _ (ap (λ (vs : List (Vec (Bor g.row.V.Denot))). map (λ v. map (λ r. r.now) v.items) vs) c.deref.ensures.value) c.deref_mut.ensures.value c.in_ok-cursors.ensures.placed ∙ map-id c.in_ok-streams.streams.items ∙ c.in_ok-streams.ensures))
    c.requires

pub returns : goal.returns
returns g c =
    let joined = IsManyJoined (λ a. shown_row (λ v. v.now) a.0.now) g.F.FnMut g.V.PartialEq.eq g.T.Integer.low g.T.Integer.high (list_any is_some) g.W.PartialEq.eq c.args.f in
    let is = given_lists _ _ c.in_ok-cursors.cursors.items c.deref_mut.result.now _ (ap (λ (vs : List (Vec (Bor g.row.V.Denot))). map (λ v. map (λ r. r.now) v.items) vs) c.deref.ensures.value) c.deref_mut.ensures.value c.in_ok-cursors.ensures.placed ∙ map-id c.in_ok-streams.streams.items ∙ c.in_ok-streams.ensures in
    IfOk-weaker c.map_of.result _ _ (λ new made. made_of (joined (map g.M.AsMap.shown c.args.maps.now)) new _ made (subst (λ Ls. joined Ls c.in_ok-answers.answers) is c.in_ok-answers.ensures)) c.map_of.ensures
