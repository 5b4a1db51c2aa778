use Rattle.blaze_streams.proofs.Words.{Some}
use Rattle.blaze_streams.proofs.merge.piece_list.VecTuple2RangeInclusivePieceList.push_piece.Goals as goal

pub returns : goal.returns
returns g c =
    let value = g.VC.ValueCarrier.shown c.args.carrier in
    record { alike = Some value; same = g.met.VC.Value.Eq.laws.refl value; put = c.in_ok-push_joined.ensures.ok }
