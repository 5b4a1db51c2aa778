use Rattle.std.proofs.Common.{ℕ, pos, List, drop, nat_eq}
use Rattle.range_map_blaze.specs.Words.{Entry, shown_list, ArePaintedInTurn}
use Rattle.proved_uses.proofs.loops.paint_in_turn.Given as goal

-- what painting the other rules leaves, painting all rules leaves
abbrev pub invariant-loop-lo : goal.invariant-loop-lo
invariant-loop-lo l = (new : List (Entry ℕ)) → ArePaintedInTurn nat_eq (pos 0) (pos 18446744073709551615) (shown_list (λ n. pos n) (drop l.lo-index l.rules)) l.map.entries new
    → ArePaintedInTurn nat_eq (pos 0) (pos 18446744073709551615) (shown_list (λ n. pos n) l.rules) l.fn.map.entries new
