use Rattle.blaze_iters.proofs.Words.{◌≡◌, ◌++◌, map, rc_value, shown_entry}
use Rattle.blaze_iters.proofs.tables.into_range_values.shared_entries.Given as goal

-- the converted entries and the remaining ones are all entries
abbrev pub invariant-loop-entry : goal.invariant-loop-entry
invariant-loop-entry g l = map (shown_entry g.T.Integer.rank rc_value) l.entries.items ++ l.entry-iterator ≡ l.fn.table.entries
