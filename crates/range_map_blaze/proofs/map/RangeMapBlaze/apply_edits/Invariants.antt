use Rattle.range_map_blaze.proofs.Words.{◌≡◌, ◌++◌, List, Option, into_iter_items, Entry, shown_list, IsCounted, AreEdited}
use Rattle.range_map_blaze.proofs.map.RangeMapBlaze.apply_edits.Given as goal

-- the edits that were taken are made
abbrev pub invariant-loop-start : goal.invariant-loop-start
invariant-loop-start g l =
    (goal.iterator-loop-start g).can_next l.start-iterator
    × (goal.iterator-loop-start g).is_finite l.start-iterator
    × ((done : List (Entry (Option g.row.V.Denot)))
    × (shown_list g.T.Integer.rank l.fn.edits.items ≡ done ++ shown_list g.T.Integer.rank (into_iter_items l.start-iterator))
    × AreEdited g.V.PartialEq.eq g.T.Integer.low g.T.Integer.high done l.fn.self.entries l.self.entries
    × IsCounted l.fn.self l.self)
