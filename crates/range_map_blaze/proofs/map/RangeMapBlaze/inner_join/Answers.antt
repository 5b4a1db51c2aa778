use Rattle.range_map_blaze.proofs.map.RangeMapBlaze.inner_join.Goals as goal

pub returns : goal.returns
returns g c = rw (c.self.view_is, c.other.view_is) at c.joined.ensures
