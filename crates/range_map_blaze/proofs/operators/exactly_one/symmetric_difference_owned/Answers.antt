use Rattle.range_map_blaze.proofs.Words.{◌≡◌, ◌∙◌, ap, IfOk-weaker, CountedEntries}
use Rattle.range_map_blaze.proofs.Choices.{either_first}
use Rattle.range_map_blaze.proofs.operators.exactly_one.symmetric_difference_owned.Goals as goal

pub returns-then-is_narrow-2 : goal.returns-then-is_narrow-2
returns-then-is_narrow-2 g c = IfOk-weaker c.alone_owned-then-is_narrow-2.result _ _ (λ map. either_first g.V.PartialEq.eq g.met.V.Eq.laws _ _ _ _ _) c.alone_owned-then-is_narrow-2.ensures

pub returns : goal.returns
returns g c =
    let right_is : c.new.result ≡ c.args.right.entries = c.new.ensures ∙ ap (λ (s : CountedEntries g.row.V.Denot). s.entries) c.right.view_is in
    rw right_is at c.owned_chosen.ensures
