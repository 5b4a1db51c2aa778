use Rattle.blaze_table.proofs.Pairs.PairLaws.{pairs_are_content}
use Rattle.blaze_table.proofs.laws.pairs_are_content.Goals as goal

pub returns : goal.returns
returns g c = pairs_are_content g.T.Integer.rank g.T.Integer.of_rank g.V.PartialEq.eq g.T.Integer.low g.T.Integer.high g.met.T.Integer.ranked.has_key g.met.V.Eq.laws
