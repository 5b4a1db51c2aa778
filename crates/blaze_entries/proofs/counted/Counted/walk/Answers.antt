use Rattle.blaze_entries.proofs.Words.{◌≡◌, ◌<ℤ◌, true, false, subst, IfSome, option_copied, CountedEntries, at, is_sought, RangesAscend, shown_plan, IsWalk, IsClonedIf}
use Rattle.blaze_entries.proofs.Underway.{above_at, cloned_above}
use Rattle.blaze_entries.proofs.counted.Counted.walk.Goals as goal

pub returns-clause-found : goal.returns-clause-found
returns-clause-found g c =
    let rank = g.T.Integer.rank in
    let l = rank c.args.lo in
    let h = rank c.args.hi in
    let test = is_sought g.V.PartialEq.eq (option_copied c.args.value) in
    let es = c.self.inside.tree in
    subst (λ (s : CountedEntries g.row.V.Denot). RangesAscend g.T.Integer.low g.T.Integer.high s.entries → IsWalk g.V.Clone.is_clone test c.args.wanted l h (g.T.SafeLen.SafeLength.number c.args.len) s.entries (shown_plan rank c.look_down.result.0) (g.T.SafeLen.SafeLength.number c.look_down.result.1) c.in_ok-tail_value.tail_value c.in_ok-old_value.old_value) c.self.view_is
    (λ r. record {
      plan = c.look_down.ensures.plan;
      keys_outside = c.look_down.ensures.len;
      tail_value = cloned_above rank g.V.Clone.is_clone test h _ _ (λ k. at _ l) _ c.look_down.ensures.plan.predecessor (above_at l h c.requires.order g.T.Integer.low g.T.Integer.high _ r)
          (subst (λ o. IfSome c.look_down.result.0.predecessor (λ f. h <ℤ rank f.end → f.value ≡ false → IsClonedIf g.V.Clone.is_clone true o c.in_ok-tail_value.tail_value)) c.look_down.ensures.value c.in_ok-tail_value.ensures.clone);
      old_value = subst (λ o. IsClonedIf g.V.Clone.is_clone c.args.wanted o c.in_ok-old_value.old_value) c.look_down.ensures.value c.in_ok-old_value.ensures.clone;
    }) c.requires.ranges
