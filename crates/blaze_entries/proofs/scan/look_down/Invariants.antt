use Rattle.blaze_entries.proofs.Words.{◌≡◌, length, pos, List, option_copied, Entry, at, is_sought, shown_plan}
use Rattle.blaze_entries.proofs.Underway.{IsWalkUnderway}
use Rattle.blaze_entries.proofs.scan.look_down.Given as goal

-- the remaining entries precede those already visited
abbrev pub invariant-loop-next : goal.invariant-loop-next
invariant-loop-next g l = record {
  seen : List (Entry g.row.V.Denot);
  walk : IsWalkUnderway (is_sought g.V.PartialEq.eq (option_copied l.value)) (g.T.Integer.rank l.lo) (g.T.Integer.rank l.hi) (pos (g.T.SafeLen.SafeLength.number l.fn.len)) l.fn.looks.number g.T.Integer.high l.fn.tree l.entries seen (shown_plan g.T.Integer.rank l.plan) (pos (g.T.SafeLen.SafeLength.number l.keys_outside)) l.looks.number;
  value : option_copied l.held ≡ at seen (g.T.Integer.rank l.lo);
}

abbrev pub decreases-loop-next : goal.decreases-loop-next
decreases-loop-next g l = length l.entries
