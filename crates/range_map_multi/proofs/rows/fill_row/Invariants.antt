use Rattle.range_map_multi.proofs.Words.{◌≡◌, ◌++◌, drop, map, values_at_positions}
use Rattle.range_map_multi.proofs.rows.fill_row.Given as goal

-- what was picked, and what is to be picked, are all
abbrev pub invariant-loop-i : goal.invariant-loop-i
invariant-loop-i g l = l.row.items ++ values_at_positions (map (λ v. v.items) (drop l.i l.lists)) (drop l.i l.places) ≡ values_at_positions (map (λ v. v.items) l.lists) l.places
