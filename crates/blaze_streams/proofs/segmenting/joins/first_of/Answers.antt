use Rattle.blaze_streams.proofs.Words.{◌∙◌, ap, option_map, first_key, lesser}
use Rattle.blaze_streams.proofs.segmenting.joins.first_of.Goals as goal

pub returns-clause-first : goal.returns-clause-first
returns-clause-first g c =
    c.lesser_of.ensures ∙ ap (λ k. lesser k (option_map g.T.Integer.rank c.first-2.result)) c.first.ensures.first ∙ ap (lesser (first_key c.args.left.now)) c.first-2.ensures.first
