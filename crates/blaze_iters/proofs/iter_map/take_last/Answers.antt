use Rattle.blaze_iters.proofs.Words.{◌≡◌, ℤ, List, [], Option, Some, None, refl, append-nil, IfNone, RangeEntry, Entry, ranges_left, shown_left, OpensLast}
use Rattle.blaze_iters.proofs.Steps.{last_full, moved_last, opens_last}
use Rattle.blaze_iters.proofs.iter_map.take_last.Goals as goal

module _ {K R V I : Type 0} (rank : K → ℤ) (shown : R → V) (left : I → List (Entry V)) (inner rest : I) (front : Option (RangeEntry K R)) (none : (left inner ≡ []) × (left rest ≡ [])) where
  -- if no range is between, the range that is open at the front is the last
  moved_front : ranges_left left (shown_left rank shown front inner None) ≡ ranges_left left (shown_left rank shown None rest front)
  moved_front = rw (none.0, none.1) (simp append-nil)

  -- the range that is open at the front is opened at the back
  opens_front : OpensLast left (shown_left rank shown front inner None) (shown_left rank shown None rest None)
  opens_front = record { between = rw (none.0, none.1) refl; far = rw none.0 refl }

-- a fact that holds in each case
in_each : {A : Type 0} (o : Option A) (P : Type 0) → P → IfNone o P
in_each None P p = p
in_each (Some x) P p = tt

pub returns-in-Some-clause-left : goal.returns-in-Some-clause-left
returns-in-Some-clause-left g c =
    let entries = g.met.I.BothEnds.gives_back _ _ _ c.in-Some.ensures.steps in
    rw (c.into_inner-start.ensures.start, c.into_inner-start.ensures.end) (moved_last _ _ _ _ entries)

pub returns-in-Some-clause-full : goal.returns-in-Some-clause-full
returns-in-Some-clause-full g c =
    let entries = g.met.I.BothEnds.gives_back _ _ _ c.in-Some.ensures.steps in
    let full = last_full _ _ (rw entries at c.in_hand.ensures.runs.disjoint) in
    (c.requires.0, rw (c.into_inner-start.ensures.start, c.into_inner-start.ensures.end) full)

pub next_back-requires : goal.next_back-requires
next_back-requires g c = g.met.I.BothEnds.ready_back _

pub returns-in-Some-clause-opens : goal.returns-in-Some-clause-opens
returns-in-Some-clause-opens g c =
    let entries = g.met.I.BothEnds.gives_back _ _ _ c.in-Some.ensures.steps in
    opens_last _ _ _ _ refl entries refl

pub returns-in-None-clause-left : goal.returns-in-None-clause-left
returns-in-None-clause-left g c =
    let none = g.met.I.BothEnds.gives_back _ _ _ c.in-None.ensures.steps in
    rw (c.take.ensures.value, c.take.ensures.after) (moved_front g.T.Integer.rank g.VC.ValueCarrier.shown g.I.SortedDisjointMap.left c.args.inner.now c.next_back.new.self c.args.front.now none)

pub returns-in-None-clause-full : goal.returns-in-None-clause-full
returns-in-None-clause-full g c = rw (c.take.ensures.value, c.take.ensures.after) (tt, c.requires.0)

pub returns-in-None-clause-opens : goal.returns-in-None-clause-opens
returns-in-None-clause-opens g c =
    let none = g.met.I.BothEnds.gives_back _ _ _ c.in-None.ensures.steps in
    rw c.take.ensures.after (opens_front g.T.Integer.rank g.VC.ValueCarrier.shown g.I.SortedDisjointMap.left c.args.inner.now c.next_back.new.self c.args.front.now none)

pub returns-in-None-clause-none : goal.returns-in-None-clause-none
returns-in-None-clause-none g c =
    let none = g.met.I.BothEnds.gives_back _ _ _ c.in-None.ensures.steps in
    in_each c.take.result _ (rw (c.take.ensures.after, none.1) refl)
