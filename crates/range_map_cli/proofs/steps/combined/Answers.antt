use Rattle.range_map_cli.proofs.Words.{IfOk-weaker, ComplementWith}
use Rattle.range_map_cli.proofs.Stepping.Stepped.{complement_is, stepped}
use Rattle.range_map_cli.proofs.steps.combined.Goals as goal

pub returns-in-ComplementWith : goal.returns-in-ComplementWith
returns-in-ComplementWith g c =
    IfOk-weaker c.complement_with.result _ _ (λ new made. stepped g.V.PartialEq.eq g.T.Integer.rank _ _ _ (ComplementWith c.in-ComplementWith.value) _ _ c.in-ComplementWith.is (record {
      range_map = made.0.range_map;
      content = complement_is g.V.PartialEq.eq _ _ _ _ _ made.0;
    })) c.complement_with.ensures
