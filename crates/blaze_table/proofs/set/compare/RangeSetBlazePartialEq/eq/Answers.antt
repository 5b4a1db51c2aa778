use Rattle.blaze_table.proofs.Words.{◌≡◌, same_ranges}
use Rattle.blaze_table.proofs.Pairs.KeySets.{ranges_decide, keys_decide}
use Rattle.blaze_table.proofs.set.compare.RangeSetBlazePartialEq.eq.Goals as goal

pub returns-clause-ranges : goal.returns-clause-ranges
returns-clause-ranges g c =
    let tested : c.eq.result ≡ same_ranges c.args.self.now c.args.other.now = rw (← c.self.view_is, ← c.other.view_is) c.eq.ensures.entries in
    ranges_decide c.args.self.now c.args.other.now c.eq.result tested

pub returns-clause-keys : goal.returns-clause-keys
returns-clause-keys g c =
    let tested : c.eq.result ≡ same_ranges c.args.self.now c.args.other.now = rw (← c.self.view_is, ← c.other.view_is) c.eq.ensures.entries in
    keys_decide c.args.self.now c.args.other.now c.eq.result tested g.T.Integer.low g.T.Integer.high c.in_hand.ensures c.in_hand-2.ensures
