use Rattle.range_map_blaze.proofs.Words.{Some, [], ◌++◌, ◌∷◌, ◌∙◌, sym, subst, option_map, shown_range_entry, IsUnderway}
use Rattle.range_map_blaze.proofs.Paints.Paintings.{extended_nowhere, extended_pair}
use Rattle.range_map_blaze.proofs.Paints.Joinings.{reversed, ordered, underway_none, underway_one, underway_joined, underway_painted, underway_ended}
use Rattle.range_map_blaze.proofs.map.RangeMapBlaze.take_pair.Goals as goal

-- a reversed pair
pub returns-then-is_below-clause-ok : goal.returns-then-is_below-clause-ok
returns-then-is_below-clause-ok g c = λ pairs old u.
    let eq = g.V.PartialEq.eq in
    let low = g.T.Integer.low in
    let high = g.T.Integer.high in
    let next = shown_range_entry g.T.Integer.rank (λ v. v) c.args.next in
    let new = c.paint_pending.new.self.entries in
    let painted = underway_painted eq g.met.V.Eq.laws low high (option_map (shown_range_entry g.T.Integer.rank (λ v. v)) c.args.pending) pairs old c.args.self.now.entries new u c.in_ok-paint_pending.ensures.ok in
    underway_none eq g.met.V.Eq.laws low high (pairs ++ next ∷ []) old new
    (extended_nowhere eq g.met.V.Eq.laws low high next pairs old new painted (reversed next.hi next.lo c.is_below.result c.is_below.ensures c.if-is_below.true))

-- the first pair of a run
pub returns-in_default-clause-ok : goal.returns-in_default-clause-ok
returns-in_default-clause-ok g c = λ pairs old u.
    let eq = g.V.PartialEq.eq in
    let low = g.T.Integer.low in
    let high = g.T.Integer.high in
    let next = shown_range_entry g.T.Integer.rank (λ v. v) c.args.next in
    let ended = underway_ended eq g.met.V.Eq.laws low high pairs old _ (subst (λ o. IsUnderway eq low high pairs old c.args.self.now.entries (option_map (shown_range_entry g.T.Integer.rank (λ v. v)) o)) c.in_default.is u) in
    underway_one eq g.met.V.Eq.laws low high next pairs old _ ended (ordered next.hi next.lo c.is_below.result c.is_below.ensures c.if-is_below.false)

-- a pair that is joined
pub returns-then-are_joinable-clause-ok : goal.returns-then-are_joinable-clause-ok
returns-then-are_joinable-clause-ok g c = λ pairs old u.
    let eq = g.V.PartialEq.eq in
    let low = g.T.Integer.low in
    let high = g.T.Integer.high in
    let rank = g.T.Integer.rank in
    let next = shown_range_entry rank (λ v. v) c.args.next in
    let begun = subst (λ o. IsUnderway eq low high pairs old c.args.self.now.entries (option_map (shown_range_entry rank (λ v. v)) o)) c.in-Some.is u in
    subst (λ p. IsUnderway eq low high (pairs ++ next ∷ []) old c.args.self.now.entries (Some p)) (sym c.join.ensures)
    (underway_joined eq g.met.V.Eq.laws low high (shown_range_entry rank (λ v. v) c.in-Some.pair) next pairs old _ begun (ordered next.hi next.lo c.is_below.result c.is_below.ensures c.if-is_below.false) (sym c.are_joinable.ensures ∙ c.if-are_joinable.true))

-- a pair that begins a run of its own
pub returns-clause-ok : goal.returns-clause-ok
returns-clause-ok g c = λ pairs old u.
    let eq = g.V.PartialEq.eq in
    let low = g.T.Integer.low in
    let high = g.T.Integer.high in
    let rank = g.T.Integer.rank in
    let next = shown_range_entry rank (λ v. v) c.args.next in
    let begun = subst (λ o. IsUnderway eq low high pairs old c.args.self.now.entries (option_map (shown_range_entry rank (λ v. v)) o)) c.in-Some.is u in
    underway_one eq g.met.V.Eq.laws low high next pairs old _ (underway_painted eq g.met.V.Eq.laws low high _ pairs old _ _ begun (extended_pair eq g.met.V.Eq.laws low high _ _ _ c.in_hand.ensures c.in_ok-paint_pair.ensures.ok)) (ordered next.hi next.lo c.is_below.result c.is_below.ensures c.if-is_below.false)
