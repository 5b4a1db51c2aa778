use Rattle.range_map_blaze.proofs.Words.{Some, sym, ap, shown_range, shown_bare_range}
use Rattle.blaze_entries.proofs.Steps.{goes_first}
use Rattle.range_map_blaze.proofs.GapWalks.{one_gap, front_gaps, front_walk}
use Rattle.range_map_blaze.proofs.gaps.GapsIterator.next.Goals as goal

pub returns-in_default-next-clause-steps : goal.returns-in_default-next-clause-steps
returns-in_default-next-clause-steps g c =
    let rank = g.T.Integer.rank in
    let all = one_gap (rank c.in-Some.first) (rank c.in-Some.last) _ _ c.in_default-next.ensures.steps.0.0 (rw c.in-Some.is at c.loop-self.invariant.walk) (rw c.in-Some.is at c.loop-self.invariant.same) in
    (rw (c.new.ensures.start, c.new.ensures.end) all, c.new.ensures.exhausted)

pub invariant_of-self-in-Some-keys_below : goal.invariant_of-self-in-Some-keys_below
invariant_of-self-in-Some-keys_below g c =
    let rank = g.T.Integer.rank in
    let ends = c.into_inner-start.result in
    front_walk rank (rank c.in-Some.first) (rank c.in-Some.last) (rank ends.0) (rank ends.1) (shown_range rank (λ v. v.now) (c.in-Some-next.range, c.in-Some-next.field-0-1)) _ _ c.keys_below.result _
    c.in-Some-next.ensures.steps.0 (ap rank c.into_inner-start.ensures.end) (rw c.in-Some.is at c.loop-self.invariant.walk) c.keys_above-self-inside.ensures

pub returns-in-Some-keys_below-clause-steps : goal.returns-in-Some-keys_below-clause-steps
returns-in-Some-keys_below-clause-steps g c =
    let rank = g.T.Integer.rank in
    let ends = c.into_inner-start.result in
    let e = shown_range rank (λ v. v.now) (c.in-Some-next.range, c.in-Some-next.field-0-1) in
    let parts = front_gaps rank (rank c.in-Some.first) (rank c.in-Some.last) (rank ends.0) (rank ends.1) e _ _ _ _ _ c.in-Some-next.ensures.steps.0 (ap rank c.into_inner-start.ensures.start) (ap rank c.into_inner-start.ensures.end)
    (rw c.in-Some.is at c.loop-self.invariant.same) c.keys_below.ensures c.keys_above-self-inside.ensures in
    let split = rw c.in-Some-keys_below.is at parts in (
      rw (c.new-in-Some-keys_below.ensures.start, c.new-in-Some-keys_below.ensures.end) split,
      c.new-in-Some-keys_below.ensures.exhausted,
    )

pub returns-in-Some-keys_below-clause-goes : goal.returns-in-Some-keys_below-clause-goes
returns-in-Some-keys_below-clause-goes g c = goes_first _ (λ _. tt) (shown_bare_range g.T.Integer.rank) (Some c.new-in-Some-keys_below.result) _ _ (returns-in-Some-keys_below-clause-steps g c).0

pub loop-self-preserved : goal.loop-self-preserved
loop-self-preserved g c =
    let rank = g.T.Integer.rank in
    let ends = c.into_inner-start.result in
    let e = shown_range rank (λ v. v.now) (c.in-Some-next.range, c.in-Some-next.field-0-1) in
    let parts = front_gaps rank (rank c.in-Some.first) (rank c.in-Some.last) (rank ends.0) (rank ends.1) e _ _ _ _ _ c.in-Some-next.ensures.steps.0 (ap rank c.into_inner-start.ensures.start) (ap rank c.into_inner-start.ensures.end)
    (rw c.in-Some.is at c.loop-self.invariant.same) c.keys_below.ensures c.keys_above-self-inside.ensures in
    let all = rw c.in_default-keys_below.is at parts in
    record {
      walk = front_walk rank (rank c.in-Some.first) (rank c.in-Some.last) (rank ends.0) (rank ends.1) e _ _ c.keys_below.result _ c.in-Some-next.ensures.steps.0 (ap rank c.into_inner-start.ensures.end) (rw c.in-Some.is at c.loop-self.invariant.walk) c.keys_above-self-inside.ensures;
      same = sym all;
    }
