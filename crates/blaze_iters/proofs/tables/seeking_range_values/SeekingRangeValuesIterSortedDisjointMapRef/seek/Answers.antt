use Rattle.blaze_iters.proofs.Words.{rules, ◌≡◌, ◌∙◌, sym, subst, shown_entry, canonical, IsLastPart, IsSought, all_sought, sought, sought_part}
use Rattle.blaze_iters.proofs.tables.seeking_range_values.SeekingRangeValuesIterSortedDisjointMapRef.seek.Goals as goal

pub invariant_of-self : goal.invariant_of-self
invariant_of-self g c =
    let rank = g.T.Integer.rank in
    let all = c.self.inside.table.now.entries in
    let e = shown_entry rank (λ v. v.now) c.in-Some.found in
    let part = subst (IsLastPart all) c.in-Some.ensures.steps c.self.invariant in
    let found = sought g.V.PartialEq.eq (rank c.args.key) (rank c.greater.result) all _ e (canonical g.V.PartialEq.eq g.met.V.Eq.laws _ c.in_hand.ensures.runs) part c.greater.ensures in
    subst (IsLastPart all) (sym c.iter_ending_from-self-inside.ensures) (sought_part g.V.PartialEq.eq (rank c.args.key) all _ _ part found)

pub returns-in-Some : goal.returns-in-Some
returns-in-Some g c =
    let rank = g.T.Integer.rank in
    let all = c.self.inside.table.now.entries in
    let e = shown_entry rank (λ v. v.now) c.in-Some.found in
    let part = subst (IsLastPart all) c.in-Some.ensures.steps c.self.invariant in
    let found = sought g.V.PartialEq.eq (rank c.args.key) (rank c.greater.result) all _ e (canonical g.V.PartialEq.eq g.met.V.Eq.laws _ c.in_hand.ensures.runs) part c.greater.ensures in
    subst (λ l. IsSought (rank c.args.key) l c.iter_ending_from-self-inside.result) (sym c.in-Some.ensures.steps ∙ c.self.view_is) (subst (IsSought (rank c.args.key) _) (sym c.iter_ending_from-self-inside.ensures) found)

pub returns-in_default : goal.returns-in_default
returns-in_default g c =
    let same : c.next.new.self ≡ c.args.self.now = search rules in
    subst (IsSought (g.T.Integer.rank c.args.key) c.args.self.now) (sym same) (all_sought _ _)
