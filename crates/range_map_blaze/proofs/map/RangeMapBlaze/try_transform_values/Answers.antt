use Rattle.range_map_blaze.proofs.map.RangeMapBlaze.try_transform_values.Goals as goal

pub returns : goal.returns
returns g c = rw c.self.view_is at c.transformed.ensures
