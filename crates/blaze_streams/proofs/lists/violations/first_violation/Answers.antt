use Rattle.blaze_streams.proofs.Words.{sym, ◌∙◌, ap, map, length-map}
use Rattle.blaze_streams.proofs.FirstViolation.{found, ended}
use Rattle.blaze_streams.proofs.lists.violations.first_violation.Goals as goal

pub returns-then-is_violation-clause-some : goal.returns-then-is_violation-clause-some
returns-then-is_violation-clause-some g c =
    found g.I.Value.PartialEq.eq _ _ _ _ _ c.loop-item.place c.loop-item.invariant.first (ap (map g.I.Ranged.entry) c.in-Some.ensures.cases.0) (sym c.is_violation.ensures.law ∙ c.if-is_violation.true)

pub returns-clause-none : goal.returns-clause-none
returns-clause-none g c =
    ended g.I.Value.PartialEq.eq g.met.I.Value.Eq.laws _ _ _ _ _ c.loop-item.place c.loop-item.invariant.first (simp length-map c.in_default.ensures.cases) c.loop-item.invariant.keys
