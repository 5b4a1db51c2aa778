use Rattle.range_map_blaze.proofs.Words.{◌∙◌, sym, subst, IfOk-weaker, IsFinite, shown_bare_range, IsRangeSet, taken_more, taken_all}
use Rattle.range_map_blaze.proofs.operators.set_of.set_of.Goals as goal

pub loop-range-init-derived : goal.loop-range-init-derived
loop-range-init-derived g c = (g.met.S.SortedDisjoint.ready _, subst IsFinite (sym (g.met.S.SortedDisjoint.counted _)) tt)

pub loop-range-preserved : goal.loop-range-preserved
loop-range-preserved g c =
    taken_more (shown_bare_range g.T.Integer.rank) _ _ c.in-Some.range _ _ _ c.in_ok-push.ensures.items
    (g.met.S.SortedDisjoint.gives _ _ _ c.in-Some.ensures.steps) c.loop-range.invariant

pub from_canonical-requires : goal.from_canonical-requires
from_canonical-requires g c = record {
  range_set =
      subst (IsRangeSet g.T.Integer.low g.T.Integer.high)
      (sym (taken_all _ _ _ c.loop-range.invariant (g.met.S.SortedDisjoint.gives _ _ _ c.in-None.ensures.steps).0)) c.in_hand.ensures;
}

pub returns : goal.returns
returns g c =
    let all = taken_all _ _ _ c.loop-range.invariant (g.met.S.SortedDisjoint.gives _ _ _ c.in-None.ensures.steps).0 in
    IfOk-weaker c.from_canonical.result _ _ (λ set same. same ∙ all) c.from_canonical.ensures
