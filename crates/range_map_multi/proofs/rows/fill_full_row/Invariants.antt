use Rattle.range_map_multi.proofs.Words.{◌≡◌, ◌++◌, drop, map, Some}
use Rattle.range_map_multi.proofs.rows.fill_full_row.Given as goal

-- what was found, and what is left, are all
abbrev pub invariant-loop-item : goal.invariant-loop-item
invariant-loop-item g l = map Some l.row.items ++ drop l.item-index l.found ≡ l.found
