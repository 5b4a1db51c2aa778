use Rattle.range_map_blaze.proofs.Words.{each_any, each_then}
use Rattle.range_map_blaze.proofs.joins.transformed.Goals as goal

pub map_of_answers-requires-clause-have : goal.map_of_answers-requires-clause-have
map_of_answers-requires-clause-have g c = each_then _ g.C.Asks.has_arguments (λ v _. c.requires.have v) _ (each_any _)

pub map_of_answers-requires-clause-callable : goal.map_of_answers-requires-clause-callable
map_of_answers-requires-clause-callable g c = rw c.new.ensures c.requires.callable

pub returns : goal.returns
returns g c = rw c.new.ensures at c.map_of_answers.ensures
