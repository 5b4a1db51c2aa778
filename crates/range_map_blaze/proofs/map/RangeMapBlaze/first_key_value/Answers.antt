use Rattle.range_map_blaze.proofs.Words.{◌∙◌, sym, ap, slice_get}
use Rattle.range_map_blaze.proofs.Order.EndPairs.{first_of, none_first}
use Rattle.range_map_blaze.proofs.map.RangeMapBlaze.first_key_value.Goals as goal

pub returns-in-Some : goal.returns-in-Some
returns-in-Some g c = first_of c.args.self.now.entries _ c.in_hand.ensures.runs.disjoint c.in_hand.ensures.runs.ascending (sym (c.in-Some.ensures ∙ ap (λ s. slice_get s.entries 0) c.self.view_is))

pub returns-in-None : goal.returns-in-None
returns-in-None g c = none_first c.args.self.now.entries (sym (c.in-None.ensures ∙ ap (λ s. slice_get s.entries 0) c.self.view_is))
