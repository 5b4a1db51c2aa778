use Rattle.std.proofs.Common.{rules}
use Rattle.range_map_blaze.proofs.Words.{◌≡◌, sym, subst, Some, None, range_inclusive_end, at, IsGap}
use Rattle.range_map_blaze.proofs.Told.{piece_holds, piece_run, piece_below, piece_above}
use Rattle.range_map_blaze.proofs.map.RangeMapBlaze.range_or_gap_at.Goals as goal

pub returns-in-None-clause-entry : goal.returns-in-None-clause-entry
returns-in-None-clause-entry g c =
    let rank = g.T.Integer.rank in
    let low = g.T.Integer.low in
    let high = g.T.Integer.high in
    let content = at c.args.self.now.entries in
    let k = rank c.args.key in
    let range = c.new-in-None.result in (
      subst (λ s. at s.entries k ≡ None) c.self.view_is (sym c.in-None.ensures.value),
      subst (λ a. IsGap low high content k (rank a) (rank (range_inclusive_end range))) (sym c.new-in-None.ensures.start)
          (subst (λ b. IsGap low high content k (rank c.gap_round-start.result.0) (rank b)) (sym c.new-in-None.ensures.end)
          (subst (λ s. IsGap low high (at s.entries) k (rank c.gap_round-start.result.0) (rank c.gap_round-start.result.1)) c.self.view_is c.gap_round-start.ensures)),
    )

pub returns-in-Some-clause-entry : goal.returns-in-Some-clause-entry
returns-in-Some-clause-entry g c = search rules

pub returns-in-Some-clause-holds : goal.returns-in-Some-clause-holds
returns-in-Some-clause-holds g c =
    piece_holds g.V.PartialEq.eq g.met.V.Eq.laws g.T.Integer.low g.T.Integer.high c.args.self.now.entries c.in_hand.ensures (g.T.Integer.rank c.args.key) _ _ (Some c.in-Some.entry.2) (returns-in-Some-clause-entry g c)

pub returns-in-None-clause-holds : goal.returns-in-None-clause-holds
returns-in-None-clause-holds g c =
    piece_holds g.V.PartialEq.eq g.met.V.Eq.laws g.T.Integer.low g.T.Integer.high c.args.self.now.entries c.in_hand.ensures (g.T.Integer.rank c.args.key) _ _ None (returns-in-None-clause-entry g c)

pub returns-in-Some-clause-run : goal.returns-in-Some-clause-run
returns-in-Some-clause-run g c =
    piece_run g.V.PartialEq.eq g.met.V.Eq.laws g.T.Integer.low g.T.Integer.high c.args.self.now.entries c.in_hand.ensures (g.T.Integer.rank c.args.key) _ _ (Some c.in-Some.entry.2) (returns-in-Some-clause-entry g c)

pub returns-in-None-clause-run : goal.returns-in-None-clause-run
returns-in-None-clause-run g c =
    piece_run g.V.PartialEq.eq g.met.V.Eq.laws g.T.Integer.low g.T.Integer.high c.args.self.now.entries c.in_hand.ensures (g.T.Integer.rank c.args.key) _ _ None (returns-in-None-clause-entry g c)

pub returns-in-Some-clause-below : goal.returns-in-Some-clause-below
returns-in-Some-clause-below g c =
    piece_below g.V.PartialEq.eq g.met.V.Eq.laws g.T.Integer.low g.T.Integer.high c.args.self.now.entries c.in_hand.ensures (g.T.Integer.rank c.args.key) _ _ (Some c.in-Some.entry.2) (returns-in-Some-clause-entry g c)

pub returns-in-None-clause-below : goal.returns-in-None-clause-below
returns-in-None-clause-below g c =
    piece_below g.V.PartialEq.eq g.met.V.Eq.laws g.T.Integer.low g.T.Integer.high c.args.self.now.entries c.in_hand.ensures (g.T.Integer.rank c.args.key) _ _ None (returns-in-None-clause-entry g c)

pub returns-in-Some-clause-above : goal.returns-in-Some-clause-above
returns-in-Some-clause-above g c =
    piece_above g.V.PartialEq.eq g.met.V.Eq.laws g.T.Integer.low g.T.Integer.high c.args.self.now.entries c.in_hand.ensures (g.T.Integer.rank c.args.key) _ _ (Some c.in-Some.entry.2) (returns-in-Some-clause-entry g c)

pub returns-in-None-clause-above : goal.returns-in-None-clause-above
returns-in-None-clause-above g c =
    piece_above g.V.PartialEq.eq g.met.V.Eq.laws g.T.Integer.low g.T.Integer.high c.args.self.now.entries c.in_hand.ensures (g.T.Integer.rank c.args.key) _ _ None (returns-in-None-clause-entry g c)
