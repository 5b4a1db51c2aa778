use Rattle.range_map_blaze.proofs.Words.{◌≡◌, ap, IfOk-weaker, CountedEntries}
use Rattle.range_map_blaze.proofs.Choices.{both_alone}
use Rattle.range_map_blaze.proofs.operators.exactly_one.alone_with.Goals as goal

pub returns : goal.returns
returns g c =
    let left_is : c.left.inside.table.entries ≡ c.args.left.entries = ap (λ (s : CountedEntries g.row.V.Denot). s.entries) c.left.view_is in
    let right_is : c.right.inside.table.entries ≡ c.args.right.now.entries = ap (λ (s : CountedEntries g.row.V.Denot). s.entries) c.right.view_is in
    let left_off = rw right_is at c.in_ok-left_alone.ensures in
    let right_off = rw left_is at c.in_ok-right_alone.ensures in
    IfOk-weaker c.union_owned.result _ _ (λ map union. both_alone g.V.PartialEq.eq g.met.V.Eq.laws _ _ _ _ _ _ _ left_off right_off union.chosen) c.union_owned.ensures
