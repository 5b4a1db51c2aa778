use Rattle.blaze_iters.proofs.Words.{[], ◌∙◌, sym, ap, ending_from, canonical, ending_from_low}
use Rattle.blaze_iters.proofs.tables.seeking_range_values.SeekingRangeValuesIter.new.Goals as goal

pub returns : goal.returns
returns g c =
    let eq = g.V.PartialEq.eq in
    c.iter_ending_from.ensures ∙ ap (λ k. ending_from k c.args.table.now.entries) c.min_value.ensures
    ∙ ending_from_low eq g.T.Integer.low g.T.Integer.high c.args.table.now.entries (canonical eq g.met.V.Eq.laws _ c.in_hand.ensures.runs) c.in_hand.ensures.keys

pub invariant_of-result : goal.invariant_of-result
invariant_of-result g c = record { gone = []; parts = sym (returns g c) }
