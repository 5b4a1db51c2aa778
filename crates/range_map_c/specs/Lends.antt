-- A `RangeMap` after the borrow of its map ends.
use Rattle.range_map_c.specs.Handle.{row_entries}
use Rattle.range_map_c.specs.declared.handle.RangeMap.{RangeMap}
use Rattle.range_map_c.specs.contracts.handle.Map.{the_row}

-- the handle `m`, at the same pointer, with the entries of the map `x`
abbrev pub with_map : RangeMap → the_row.Denot → RangeMap
with_map m x = record { at = m.at; alloc = m.alloc; entries = row_entries x }
