use Rattle.range_map_blaze.proofs.Words.{◌≡◌, ap, IfOk-weaker, CountedEntries}
use Rattle.range_map_blaze.proofs.Choices.{both_alone, chosen_without}
use Rattle.range_map_blaze.proofs.operators.exactly_one.alone_owned.Goals as goal

pub returns : goal.returns
returns g c =
    let eq = g.V.PartialEq.eq in
    let laws = g.met.V.Eq.laws in
    let left_is : c.left.inside.table.entries ≡ c.args.left.entries = ap (λ (s : CountedEntries g.row.V.Denot). s.entries) c.left.view_is in
    let right_is : c.right.inside.table.entries ≡ c.args.right.entries = ap (λ (s : CountedEntries g.row.V.Denot). s.entries) c.right.view_is in
    let same = rw right_is at c.ranges_of.ensures.same_keys in
    let cut = rw (c.as_table.ensures, c.in_ok-keys.ensures) at c.in_ok-left_alone.ensures in
    let left_off = chosen_without eq laws _ _ _ _ _ _ same cut in
    let right_off = rw left_is at c.in_ok-right_alone.ensures in
    IfOk-weaker c.union_owned.result _ _ (λ map union. both_alone eq laws _ _ _ _ _ _ _ left_off right_off union.chosen) c.union_owned.ensures
