use Rattle.range_map_blaze.proofs.Words.{member_run, walked_run}
use Rattle.range_map_blaze.proofs.laws.entries_are_runs.Goals as goal

pub returns-clause-member : goal.returns-clause-member
returns-clause-member g c = λ es e map u. member_run g.V.PartialEq.eq g.met.V.Eq.laws g.T.Integer.low g.T.Integer.high es map e u

pub returns-clause-walked : goal.returns-clause-walked
returns-clause-walked g c = λ es done rest e map parts. walked_run g.V.PartialEq.eq g.met.V.Eq.laws g.T.Integer.low g.T.Integer.high es map done rest e parts
