use Rattle.range_map_blaze.proofs.Words.{◌≤ℤ◌, ◌<ℤ◌, ◌∙◌, refl, ap, sym, subst, arith, ints, int_max, int_min, CountedEntries, ending_from, entry, shown_entry, IsCopied, canonical, within}
use Rattle.range_map_blaze.proofs.Paints.Following.{IsOnward, whole_first, within_next, within_over, onward_next, copied_none, copied_more, copied_all}
use Rattle.range_map_blaze.proofs.map.RangeMapBlaze.clones_within.Goals as goal

pub loop-first-init : goal.loop-first-init
loop-first-init g c =
    let rank = g.T.Integer.rank in
    let eq = g.V.PartialEq.eq in
    let es = c.args.self.now.entries in
    let l = rank c.args.start in
    let h = rank c.args.end in
    let whole = whole_first eq l h es (canonical eq g.met.V.Eq.laws es c.in_hand.ensures.runs) in
    let is = c.into_iter-first-iterator.ensures.into_iter_gives ∙ c.iter_ending_from-first-items.ensures ∙ ap (λ (s : CountedEntries g.row.V.Denot). ending_from l s.entries) c.self.view_is in (
      tt,
      tt,
      subst (IsOnward eq l) (sym is) whole.onward,
      copied_none rank eq (within l h es) _ c.new-list.result.items (ap (within l h) is ∙ whole.same) c.new-list.ensures.items,
    )

pub loop-first-preserved : goal.loop-first-preserved
loop-first-preserved g c =
    let rank = g.T.Integer.rank in
    let eq = g.V.PartialEq.eq in
    let l = rank c.args.start in
    let h = rank c.args.end in
    let all = within l h c.args.self.now.entries in
    let items = c.loop-first.list.items in
    let i = c.loop-first.invariant in
    let e = shown_entry rank (λ v. v.now) (c.in-Some.first, c.in-Some.last, c.in-Some.value) in
    let rest = c.next.new.self in
    let onward = subst (IsOnward eq l) c.in-Some.ensures.steps i.2 in
    let under : e.lo ≤ℤ h = grind (arith, ints, c.is_below.ensures, c.if-is_below.false) in
    let next = ap (within l h) c.in-Some.ensures.steps ∙ within_next eq l h e rest onward c.requires.order under in
    let pushed = c.in_ok-push_clone.ensures in (
      tt,
      tt,
      onward_next eq l h e rest onward,
      copied_more rank eq all (within l h rest) (within l h rest) (entry (int_max l e.lo) (int_min h e.hi) e.value) (c.greater.result, c.lesser.result, pushed.0) items c.push_clone.new.entries.items
          (subst (λ left. IsCopied rank eq all left items) next i.3) refl (sym c.greater.ensures) (sym c.lesser.ensures)
          pushed.1 pushed.2,
    )

pub returns-then-is_below : goal.returns-then-is_below
returns-then-is_below g c =
    let rank = g.T.Integer.rank in
    let eq = g.V.PartialEq.eq in
    let l = rank c.args.start in
    let h = rank c.args.end in
    let all = within l h c.args.self.now.entries in
    let items = c.loop-first.list.items in
    let i = c.loop-first.invariant in
    let e = shown_entry rank (λ v. v.now) (c.in-Some.first, c.in-Some.last, c.in-Some.value) in
    let onward = subst (IsOnward eq l) c.in-Some.ensures.steps i.2 in
    let over : h <ℤ e.lo = grind (arith, ints, c.is_below.ensures, c.if-is_below.true) in
    let none = ap (within l h) c.in-Some.ensures.steps ∙ within_over eq l h e c.next.new.self onward c.requires.order over in
    copied_all rank eq all items (subst (λ left. IsCopied rank eq all left items) none i.3)

pub returns : goal.returns
returns g c =
    let rank = g.T.Integer.rank in
    let eq = g.V.PartialEq.eq in
    let l = rank c.args.start in
    let h = rank c.args.end in
    let all = within l h c.args.self.now.entries in
    let items = c.loop-first.list.items in
    copied_all rank eq all items (subst (λ left. IsCopied rank eq all left items) (ap (within l h) c.in-None.ensures.steps.0) c.loop-first.invariant.3)
