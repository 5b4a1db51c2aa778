use Rattle.range_map_blaze.proofs.Words.{◌≡◌, ◌∙◌, ap, IfOk-weaker, CountedEntries}
use Rattle.range_map_blaze.proofs.Unions.{union_of}
use Rattle.range_map_blaze.proofs.operators.union.merged_owned.Goals as goal

pub returns : goal.returns
returns g c =
    let right_is : c.new.result ≡ c.args.right.entries = c.new.ensures ∙ ap (λ (s : CountedEntries g.row.V.Denot). s.entries) c.right.view_is in
    IfOk-weaker c.owned_chosen.result _ _ (λ map. union_of g.V.PartialEq.eq g.met.V.Eq.laws _ _ _ _ _ c.in_hand.ensures c.in_hand-2.ensures) (rw right_is at c.owned_chosen.ensures)
