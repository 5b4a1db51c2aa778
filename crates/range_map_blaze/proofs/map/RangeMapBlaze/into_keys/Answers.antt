use Rattle.range_map_blaze.proofs.Words.{◌∙◌, ap, map, CountedEntries, pair_list}
use Rattle.range_map_blaze.proofs.map.RangeMapBlaze.into_keys.Goals as goal

pub returns-clause-keys : goal.returns-clause-keys
returns-clause-keys g c =
    c.new.ensures.keys ∙ ap (λ (s : CountedEntries g.row.V.Denot). map (λ (p : g.row.T.Denot × g.row.V.Denot). p.0) (pair_list g.T.Integer.of_rank s.entries)) c.self.view_is
