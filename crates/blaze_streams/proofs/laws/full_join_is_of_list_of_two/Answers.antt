use Rattle.blaze_streams.proofs.JoinLaws.{full_join_is_of_list_of_two}
use Rattle.blaze_streams.proofs.laws.full_join_is_of_list_of_two.Goals as goal

pub returns : goal.returns
returns g c = full_join_is_of_list_of_two g.V.PartialEq.eq g.met.V.Eq.laws g.T.Integer.low g.T.Integer.high
