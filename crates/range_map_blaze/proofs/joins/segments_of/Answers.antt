use Rattle.range_map_blaze.proofs.Words.{IfOk-weaker, itself_alike, exact_join}
use Rattle.range_map_blaze.proofs.joins.segments_of.Goals as goal

pub join_of-requires-clause-left : goal.join_of-requires-clause-left
join_of-requires-clause-left g c = itself_alike g.V.PartialEq.eq g.met.V.Eq.laws

pub join_of-requires-clause-right : goal.join_of-requires-clause-right
join_of-requires-clause-right g c = itself_alike g.V2.PartialEq.eq g.met.V2.Eq.laws

pub returns : goal.returns
returns g c = rw⁻¹ (c.new.ensures, c.new-2.ensures) (IfOk-weaker c.join_of.result _ _ (exact_join g.V.PartialEq.eq g.V2.PartialEq.eq g.T.Integer.low g.T.Integer.high c.args.kind _ _) c.join_of.ensures)
