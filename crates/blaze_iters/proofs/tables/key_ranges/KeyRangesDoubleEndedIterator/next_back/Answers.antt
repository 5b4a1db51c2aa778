use Rattle.blaze_iters.proofs.Words.{Some, sym, subst, ◌∙◌, goes_last, unit_eq, IsRangeSet, shown_bare_range, IsRangeMap-front, unit_laws}
use Rattle.blaze_iters.proofs.JoinedBack.{back_joined, back_apart, back_alone}
use Rattle.blaze_iters.proofs.tables.key_ranges.KeyRangesDoubleEndedIterator.next_back.Goals as goal

pub invariant_of-self-then-not-is_next : goal.invariant_of-self-then-not-is_next
invariant_of-self-then-not-is_next g c =
    let i = c.loop-previous.invariant in
    let parts = back_apart g.T.Integer.rank _ (c.in_ok-first.first, c.in_ok-first.first_end) _ _ _ _ _ c.in-Some-next_ends_back.previous
    i.first (rw c.in-Some-next_ends_back.is at c.next_ends_back.ensures) (sym c.is_next.ensures ∙ c.if-not-is_next.true) i.left in
    IsRangeMap-front unit_eq unit_laws g.T.Integer.low g.T.Integer.high _ _ (subst (IsRangeSet g.T.Integer.low g.T.Integer.high) (c.self.view_is ∙ parts) c.self.invariant)

pub returns-then-not-is_next-clause-steps : goal.returns-then-not-is_next-clause-steps
returns-then-not-is_next-clause-steps g c =
    let i = c.loop-previous.invariant in
    let parts = back_apart g.T.Integer.rank _ (c.in_ok-first.first, c.in_ok-first.first_end) _ _ _ _ _ c.in-Some-next_ends_back.previous
    i.first (rw c.in-Some-next_ends_back.is at c.next_ends_back.ensures) (sym c.is_next.ensures ∙ c.if-not-is_next.true) i.left in
    (rw (c.new-then-not-is_next.ensures.start, c.new-then-not-is_next.ensures.end) parts, c.new-then-not-is_next.ensures.exhausted)

pub returns-then-not-is_next-clause-goes : goal.returns-then-not-is_next-clause-goes
returns-then-not-is_next-clause-goes g c =
    goes_last _ (λ _. tt) (shown_bare_range g.T.Integer.rank) (Some c.new-then-not-is_next.result) _ _ (returns-then-not-is_next-clause-steps g c).0

pub loop-previous-preserved : goal.loop-previous-preserved
loop-previous-preserved g c =
    let i = c.loop-previous.invariant in
    record {
      first = i.first;
      none = i.none;
      left = back_joined g.T.Integer.rank c.loop-previous.self-inside.open (c.in_ok-first.first, c.in_ok-first.first_end) _ _ _ _ _ c.in-Some-next_ends_back.previous
          (rw c.in-Some-next_ends_back.is at c.next_ends_back.ensures) (sym c.is_next.ensures ∙ c.if-not-is_next.false) i.left;
    }

pub invariant_of-self-else-is_next : goal.invariant_of-self-else-is_next
invariant_of-self-else-is_next g c =
    let i = c.loop-previous.invariant in
    let parts = back_alone g.T.Integer.rank _ (c.in_ok-first.first, c.in_ok-first.first_end) _ _ _ _ _ _ i.first i.none (rw c.in_default-next_ends_back.is at c.next_ends_back.ensures) (sym c.is_next-2.ensures ∙ c.if-is_next.false) i.left in
    IsRangeMap-front unit_eq unit_laws g.T.Integer.low g.T.Integer.high _ _ (subst (IsRangeSet g.T.Integer.low g.T.Integer.high) (c.self.view_is ∙ parts) c.self.invariant)
