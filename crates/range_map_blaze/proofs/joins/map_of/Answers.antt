use Rattle.range_map_blaze.proofs.Words.{◌∙◌, ◌++◌, ◌∷◌, [], refl, sym, ap, subst, append_assoc, append-nil, map-append, range_inclusive_start, IsRangeMap, uncounted, IfOk-weaker, Entry, entry, shown_entry, shown_list}
use Rattle.range_map_blaze.proofs.joins.map_of.Goals as goal

pub loop-item-init : goal.loop-item-init
loop-item-init g c = rw (c.new-entries.ensures.items, c.into_iter-item-iterator.ensures.into_iter_gives) refl

pub loop-item-preserved : goal.loop-item-preserved
loop-item-preserved g c =
    let rank = g.T.Integer.rank in
    let old = shown_list rank c.loop-item.entries.items in
    let start = c.into_inner-start.result.0 in
    let end = c.into_inner-start.result.1 in
    let value = c.in-Some.item.1.0 in
    let e : Entry g.row.W.Denot = record { lo = rank start; hi = rank end; value = value } in
    let lo = ap rank c.into_inner-start.ensures.start in
    let hi = ap rank c.into_inner-start.ensures.end in
    let left = c.in-Some.ensures.steps.0 in
    ap (λ items. shown_list rank items ++ c.next.new.self) c.in_ok-push.ensures.items
    ∙ ap (λ es. es ++ c.next.new.self) (map-append (shown_entry rank (λ v. v)) c.loop-item.entries.items _)
    ∙ append_assoc old (e ∷ []) c.next.new.self
    ∙ ap (λ l. old ++ entry l (rank end) value ∷ c.next.new.self) lo
    ∙ ap (λ h. old ++ entry (rank (range_inclusive_start c.in-Some.item.0)) h value ∷ c.next.new.self) hi
    ∙ ap (λ es. old ++ es) (sym left) ∙ c.loop-item.invariant

pub from_canonical-requires : goal.from_canonical-requires
from_canonical-requires g c = record {
  range_map =
      let all = sym (append-nil _) ∙ ap (λ es. shown_list g.T.Integer.rank c.loop-item.entries.items ++ es) (sym c.in-None.ensures.steps.0.0) ∙ c.loop-item.invariant in
      subst (IsRangeMap g.W.PartialEq.eq g.T.Integer.low g.T.Integer.high) (sym all) c.in_hand.ensures;
}

pub returns : goal.returns
returns g c =
    let all = sym (append-nil _) ∙ ap (λ es. shown_list g.T.Integer.rank c.loop-item.entries.items ++ es) (sym c.in-None.ensures.steps.0.0) ∙ c.loop-item.invariant in
    IfOk-weaker c.from_canonical.result _ _ (λ map made. made ∙ ap uncounted all) c.from_canonical.ensures
