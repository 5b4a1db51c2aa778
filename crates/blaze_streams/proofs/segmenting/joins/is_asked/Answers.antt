use Rattle.blaze_streams.proofs.Words.{◌∙◌}
use Rattle.blaze_streams.proofs.CarriedJoins.{joined_as_shown}
use Rattle.blaze_streams.proofs.segmenting.joins.is_asked.Goals as goal

pub returns : goal.returns
returns g c =
    c.is_joined.ensures ∙ joined_as_shown (λ x. g.VCL.ValueCarrier.shown x.now) (λ x. g.VCR.ValueCarrier.shown x.now) c.args.kind _ _ _ _ c.here.ensures c.here-2.ensures
