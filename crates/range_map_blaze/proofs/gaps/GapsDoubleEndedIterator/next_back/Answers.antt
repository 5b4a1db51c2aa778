use Rattle.range_map_blaze.proofs.Words.{Some, sym, ap, ◌∙◌, append-nil, goes_last, shown_range, shown_bare_range, gaps_left}
use Rattle.range_map_blaze.proofs.GapWalks.{one_gap, back_gaps, back_walk}
use Rattle.range_map_blaze.proofs.gaps.GapsDoubleEndedIterator.next_back.Goals as goal

pub returns-in_default-next_back-clause-steps : goal.returns-in_default-next_back-clause-steps
returns-in_default-next_back-clause-steps g c =
    let rank = g.T.Integer.rank in
    let all = one_gap (rank c.in-Some.first) (rank c.in-Some.last) _ _ c.in_default-next_back.ensures.steps.0.0 (rw c.in-Some.is at c.loop-self.invariant.walk) (rw c.in-Some.is at c.loop-self.invariant.same) in
    (rw (c.new.ensures.start, c.new.ensures.end) all, c.new.ensures.exhausted)

pub invariant_of-self-in-Some-keys_above : goal.invariant_of-self-in-Some-keys_above
invariant_of-self-in-Some-keys_above g c =
    let rank = g.T.Integer.rank in
    let ends = c.into_inner-start.result in
    back_walk rank (rank c.in-Some.first) (rank c.in-Some.last) (rank ends.0) (rank ends.1) (shown_range rank (λ v. v.now) (c.in-Some-next_back.range, c.in-Some-next_back.field-0-1)) _ _ _ c.keys_above.result
    c.in-Some-next_back.ensures.steps.0 (ap rank c.into_inner-start.ensures.start) (rw c.in-Some.is at c.loop-self.invariant.walk) c.keys_below-self-inside.ensures

pub returns-in-Some-keys_above-clause-steps : goal.returns-in-Some-keys_above-clause-steps
returns-in-Some-keys_above-clause-steps g c =
    let rank = g.T.Integer.rank in
    let ends = c.into_inner-start.result in
    let e = shown_range rank (λ v. v.now) (c.in-Some-next_back.range, c.in-Some-next_back.field-0-1) in
    let parts = back_gaps rank (rank c.in-Some.first) (rank c.in-Some.last) (rank ends.0) (rank ends.1) e _ _ _ _ _ c.in-Some-next_back.ensures.steps.0 (ap rank c.into_inner-start.ensures.start) (ap rank c.into_inner-start.ensures.end)
    (rw c.in-Some.is at c.loop-self.invariant.walk) (rw c.in-Some.is at c.loop-self.invariant.same) c.keys_below-self-inside.ensures c.keys_above.ensures in
    let split = rw c.in-Some-keys_above.is at parts in (
      rw (c.new-in-Some-keys_above.ensures.start, c.new-in-Some-keys_above.ensures.end) split,
      c.new-in-Some-keys_above.ensures.exhausted,
    )

pub returns-in-Some-keys_above-clause-goes : goal.returns-in-Some-keys_above-clause-goes
returns-in-Some-keys_above-clause-goes g c = goes_last _ (λ _. tt) (shown_bare_range g.T.Integer.rank) (Some c.new-in-Some-keys_above.result) _ _ (returns-in-Some-keys_above-clause-steps g c).0

pub loop-self-preserved : goal.loop-self-preserved
loop-self-preserved g c =
    let rank = g.T.Integer.rank in
    let ends = c.into_inner-start.result in
    let e = shown_range rank (λ v. v.now) (c.in-Some-next_back.range, c.in-Some-next_back.field-0-1) in
    let walk = rw c.in-Some.is at c.loop-self.invariant.walk in
    let parts = back_gaps rank (rank c.in-Some.first) (rank c.in-Some.last) (rank ends.0) (rank ends.1) e _ _ _ _ _ c.in-Some-next_back.ensures.steps.0 (ap rank c.into_inner-start.ensures.start) (ap rank c.into_inner-start.ensures.end) walk
    (rw c.in-Some.is at c.loop-self.invariant.same) c.keys_below-self-inside.ensures c.keys_above.ensures in
    let all = rw c.in_default-keys_above.is at parts in
    record {
      walk = back_walk rank (rank c.in-Some.first) (rank c.in-Some.last) (rank ends.0) (rank ends.1) e _ _ _ c.keys_above.result c.in-Some-next_back.ensures.steps.0 (ap rank c.into_inner-start.ensures.start) walk c.keys_below-self-inside.ensures;
      same = sym (append-nil (gaps_left rank c.keys_below-self-inside.result c.next_back.new.self)) ∙ sym all;
    }
