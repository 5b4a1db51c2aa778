use Rattle.range_map_blaze.proofs.Words.{◌≡◌, ◌∙◌, ap, CountedEntries}
use Rattle.range_map_blaze.proofs.operators.chosen.owned_chosen.Goals as goal

pub from_canonical-requires : goal.from_canonical-requires
from_canonical-requires g c = record {
  range_map = c.in_ok-entries.ensures.range_map;
}

pub returns : goal.returns
returns g c =
    let left_is : c.new-left.result ≡ c.args.left.entries = c.new-left.ensures ∙ ap (λ (s : CountedEntries g.row.V.Denot). s.entries) c.left.view_is in
    rw c.in_ok-table.ensures (rw left_is at c.in_ok-entries.ensures)
