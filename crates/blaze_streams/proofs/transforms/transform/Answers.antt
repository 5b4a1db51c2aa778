use Rattle.blaze_streams.proofs.Answering.{each_any}
use Rattle.blaze_streams.proofs.transforms.transform.Goals as goal

pub answers_of-requires-clause-have : goal.answers_of-requires-clause-have
answers_of-requires-clause-have g c = each_any (g.S.SortedDisjointMap.left c.args.stream)
