use Rattle.blaze_table.proofs.Words.{◌≡◌, ◌+◌, ℤ, pos, List, option_map, found_in, shown_found, below, last_below, shown_plan, IsWalkUnderway, Entry}
use Rattle.blaze_table.proofs.Walks.Descents.{rounds}
use Rattle.blaze_table.proofs.looks.plan.Given as goal

-- the entries below a key precede the visited ones, and the lookup of the last of them is made
abbrev pub invariant-loop-last : goal.invariant-loop-last
invariant-loop-last g l = record {
  key : ℤ;
  seen : List (Entry g.row.V.Denot);
  same : l.entries ≡ record l.fn.entries { looks = l.entries.looks };
  found : option_map (shown_found g.T.Integer.rank) l.last ≡ option_map (found_in (λ w. g.V.PartialEq.eq w l.value)) (last_below key l.fn.entries.entries);
  walk : IsWalkUnderway (λ w. g.V.PartialEq.eq w l.value) (g.T.Integer.rank l.lo) (g.T.Integer.rank l.hi) (pos (g.T.SafeLen.SafeLength.number l.fn.len)) (l.fn.entries.looks + 1) g.T.Integer.high l.fn.entries.entries (below key l.fn.entries.entries) seen (shown_plan g.T.Integer.rank l.plan) (pos (g.T.SafeLen.SafeLength.number l.keys_outside)) l.entries.looks;
}

abbrev pub decreases-loop-last : goal.decreases-loop-last
decreases-loop-last g l = rounds l.fn.entries.entries (option_map (shown_found g.T.Integer.rank) l.last)
