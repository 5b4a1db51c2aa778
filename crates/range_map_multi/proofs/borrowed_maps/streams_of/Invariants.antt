use Rattle.range_map_multi.proofs.Words.{◌≡◌, ◌++◌, drop, map}
use Rattle.range_map_multi.proofs.borrowed_maps.streams_of.Given as goal

-- the streams made, and those of the maps that are left, are all
abbrev pub invariant-loop-map : goal.invariant-loop-map
invariant-loop-map g l = l.streams.items ++ map g.M.AsMap.shown (drop l.map-index l.maps) ≡ map g.M.AsMap.shown l.maps
