use Rattle.blaze_table.proofs.Words.{length, ◌↔◌, shown_list, AreApart, key_after}
use Rattle.blaze_table.proofs.sweep.ascending.is_ascending.Given as goal

-- the remaining pairs are apart from the last one exactly if all pairs are apart
abbrev pub invariant-loop-pair : goal.invariant-loop-pair
invariant-loop-pair g l =
    let rank = g.T.Integer.rank in
    let low = g.T.Integer.low in
    AreApart (key_after rank low l.last) (shown_list rank l.rest) ↔ AreApart low (shown_list rank l.pairs)

abbrev pub decreases-loop-pair : goal.decreases-loop-pair
decreases-loop-pair g l = length l.rest
