use Rattle.range_map_blaze.proofs.Words.{◌∙◌, ap, map, CountedEntries, pair_list}
use Rattle.range_map_blaze.proofs.map.RangeMapBlaze.into_values.Goals as goal

pub returns-clause-values : goal.returns-clause-values
returns-clause-values g c =
    c.new.ensures.values ∙ ap (λ (s : CountedEntries g.row.V.Denot). map (λ (p : g.row.T.Denot × g.row.V.Denot). p.1) (pair_list g.T.Integer.of_rank s.entries)) c.self.view_is
