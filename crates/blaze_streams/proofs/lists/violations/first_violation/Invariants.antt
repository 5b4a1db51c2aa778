use Rattle.blaze_streams.proofs.Words.{◌≡◌, ◌+◌, length, None, map, option_map, option_copied, AreKeys}
use Rattle.blaze_streams.proofs.FirstViolation.{first_violation_after}
use Rattle.blaze_streams.proofs.lists.violations.first_violation.Given as goal

abbrev pub invariant-loop-item : goal.invariant-loop-item
invariant-loop-item g l =
    let eq = g.I.Value.PartialEq.eq in
    let entry = g.I.Ranged.entry in
    record {
      count : l.place + length l.rest ≡ length l.items;
      first : first_violation_after eq None (map entry l.items) ≡ option_map (λ i. l.place + i) (first_violation_after eq (option_map entry (option_copied l.before)) (map entry l.rest));
      keys : AreKeys g.T.Integer.low g.T.Integer.high (map entry l.rest) → AreKeys g.T.Integer.low g.T.Integer.high (map entry l.items);
    }

abbrev pub decreases-loop-item : goal.decreases-loop-item
decreases-loop-item g l = length l.rest
