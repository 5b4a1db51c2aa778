use Rattle.range_map_blaze.proofs.pairs.push_clone.Goals as goal

pub returns : goal.returns
returns g c = (c.in_ok-clone.field-0, c.requires c.args.value.now c.in_ok-clone.field-0 c.in_ok-clone.ensures.cases, c.in_ok-push.ensures.items)
