use Rattle.range_map_blaze.proofs.operators.chosen.borrowed_chosen.Goals as goal

pub from_canonical-requires : goal.from_canonical-requires
from_canonical-requires g c = record {
  range_map = c.in_ok-entries.ensures.range_map;
}

pub returns : goal.returns
returns g c = rw c.in_ok-table.ensures c.in_ok-entries.ensures
