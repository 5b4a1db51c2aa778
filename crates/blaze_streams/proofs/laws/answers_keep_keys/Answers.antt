use Rattle.blaze_streams.proofs.JoinLaws.{answers_keep_keys}
use Rattle.blaze_streams.proofs.laws.answers_keep_keys.Goals as goal

pub returns : goal.returns
returns g c = answers_keep_keys _ g.W.PartialEq.eq
