use Rattle.range_map_multi.proofs.Words.{◌∙◌, drop, map, ap, arith, drop_all, values_at_positions, taken_all}
use Rattle.range_map_multi.proofs.Pickings.{picked_none}
use Rattle.range_map_multi.proofs.rows.fill_row.Goals as goal

pub returns : goal.returns
returns g c =
    let lists = map (λ v. v.items) (drop c.loop-i.i c.args.lists.now) in
    taken_all _ _ _ c.loop-i.invariant (ap (values_at_positions lists) (drop_all c.loop-i.i c.args.places.now (omega arith)) ∙ picked_none lists)
