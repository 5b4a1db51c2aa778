use Rattle.range_map_blaze.proofs.Words.{◌-◌, ◌∙◌, length, sym, ap, refl, slice_get}
use Rattle.range_map_blaze.proofs.Order.EndPairs.{last_of, none_of}
use Rattle.range_map_blaze.proofs.map.RangeMapBlaze.last_key_value.Goals as goal

pub returns-in-Some : goal.returns-in-Some
returns-in-Some g c = last_of c.args.self.now.entries _ c.in_hand.ensures.runs.disjoint c.in_hand.ensures.runs.ascending (sym (c.in-Some.ensures ∙ ap (λ s. slice_get s.entries (length s.entries - 1)) c.self.view_is))

pub returns-in-None : goal.returns-in-None
returns-in-None g c = none_of c.args.self.now.entries _ refl (sym (c.in-None.ensures ∙ ap (λ s. slice_get s.entries (length s.entries - 1)) c.self.view_is))
