use Rattle.range_map_multi.proofs.Words.{◌≡◌, ◌∙◌, ℤ, ap, map, is_some, subst, map-id, at, SameOption, row, last_value, has_odd, GivesEach}
use Rattle.range_map_multi.proofs.Placed.{odd_in_places}
use Rattle.range_map_multi.proofs.Many.{difference_of}
use Rattle.range_map_multi.proofs.streams.VecMultiwaySortedDisjointMap.symmetric_difference.Goals as goal

pub returns : goal.returns
returns g c =
    let eq = g.VC.Value.PartialEq.eq in
    let left = g.I.SortedDisjointMap.left in
    let made = c.in_ok-lists.ensures in
    let union = subst (λ Ls. GivesEach (λ xs x. SameOption eq x (last_value xs)) Ls c.in_ok-union.union) (map-id c.in_ok-lists.lists.items ∙ made.lists) c.in_ok-union.ensures in
    let odd : (k : ℤ) → is_some (at c.in_ok-odd.odd k) ≡ has_odd (row (map left c.args.self.items) k) = λ k. c.in_ok-odd.ensures k ∙ ap (λ Ls. has_odd (row Ls k)) (map-id c.in_ok-lists.keys.items ∙ made.keys) ∙ odd_in_places left c.args.self.items k in
    difference_of eq g.met.VC.Value.Eq.laws g.T.Integer.low g.T.Integer.high (map left c.args.self.items) _ _ _ union odd c.in_ok-new.ensures
