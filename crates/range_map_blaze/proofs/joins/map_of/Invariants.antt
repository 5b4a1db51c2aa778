use Rattle.range_map_blaze.proofs.Words.{◌≡◌, ◌++◌, shown_list}
use Rattle.range_map_blaze.proofs.joins.map_of.Given as goal

-- the entries are those taken from the stream, and the rest is left
abbrev pub invariant-loop-item : goal.invariant-loop-item
invariant-loop-item g l = shown_list g.T.Integer.rank l.entries.items ++ l.item-iterator ≡ l.fn.stream
