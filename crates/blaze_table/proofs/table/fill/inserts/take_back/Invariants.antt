use Rattle.blaze_table.proofs.Words.{◌≡◌, length, map, AreThere, without_all, IsCounted}
use Rattle.blaze_table.proofs.table.fill.inserts.take_back.Given as goal

-- the entries that start at the remaining keys are not removed yet
abbrev pub invariant-loop-start : goal.invariant-loop-start
invariant-loop-start g l =
    let rank = g.T.Integer.rank in
    record {
      there : AreThere (map rank l.starts.items) l.entries.entries;
      taken : without_all (map rank l.starts.items) l.entries.entries ≡ without_all (map rank l.fn.starts.items) l.fn.entries.entries;
      counted : IsCounted l.fn.entries l.entries;
    }

abbrev pub decreases-loop-start : goal.decreases-loop-start
decreases-loop-start g l = length l.starts.items
