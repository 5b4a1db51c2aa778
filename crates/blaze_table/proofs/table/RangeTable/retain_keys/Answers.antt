use Rattle.blaze_table.proofs.Words.{◌∙◌, refl, sym, subst, ap, pos, All, items_where_true, CountedEntries, shown_list, pair_list, AnswersAtPair, IsKeyRetained, TakesPair, IsTable, range_map, starts_ascend}
use Rattle.blaze_table.proofs.Pairs.AtPairs.{all_pairs}
use Rattle.blaze_table.proofs.Pairs.Keeping.{IsReached, reached_none, reached_order, reached_room, reached_more, reached_table, reached_pairs}
use Rattle.blaze_table.proofs.table.RangeTable.retain_keys.Goals as goal

pub loop-start-init : goal.loop-start-init
loop-start-init g c =
    let eq = g.V.PartialEq.eq in
    let low = g.T.Integer.low in
    let high = g.T.Integer.high in
    let len = g.T.SafeLen.SafeLength.number c.self.inside.len in
    let Reached = IsReached (AnswersAtPair g.F.Fn) c.args.f g.T.Integer.rank eq low high g.T.Integer.of_rank c.args.self.now.entries in
    let table = subst (λ (s : CountedEntries g.row.V.Denot). IsTable eq low high len s.entries) c.self.view_is c.self.invariant in (
      tt,
      tt,
      subst (λ left. Reached left (pos len) (shown_list g.T.Integer.rank c.new-kept.result.items))
          (sym (c.into_iter-start-iterator.ensures.into_iter_gives ∙ c.iter-start-items.ensures ∙ ap (λ (s : CountedEntries g.row.V.Denot). s.entries) c.self.view_is))
          (subst (λ es. Reached c.args.self.now.entries (pos len) (shown_list g.T.Integer.rank es)) (sym c.new-kept.ensures.items)
          (reached_none _ _ _ _ _ _ g.T.Integer.of_rank _ len table)),
    )

pub keep_keys-requires-clause-callable : goal.keep_keys-requires-clause-callable
keep_keys-requires-clause-callable g c =
    let P = TakesPair g.F.Fn c.args.f in
    let h = rw c.in-Some.ensures.steps at c.loop-start.invariant.2 in
    all_pairs g.T.Integer.of_rank P h.done _ _ (subst (λ es. All P (pair_list g.T.Integer.of_rank es)) h.parts c.requires.callable)

pub keep_keys-requires-clause-order : goal.keep_keys-requires-clause-order
keep_keys-requires-clause-order g c = let h = rw c.in-Some.ensures.steps at c.loop-start.invariant.2 in reached_order _ _ _ _ _ _ _ _ _ _ _ _ h

pub keep_keys-requires-clause-counted : goal.keep_keys-requires-clause-counted
keep_keys-requires-clause-counted g c = let h = rw c.in-Some.ensures.steps at c.loop-start.invariant.2 in reached_room _ _ _ _ _ _ _ _ _ _ _ _ h

pub loop-start-preserved : goal.loop-start-preserved
loop-start-preserved g c =
    let h = rw c.in-Some.ensures.steps at c.loop-start.invariant.2 in
    (tt, tt, reached_more _ _ _ _ _ _ _ _ _ _ _ _ h _ _ c.in_ok-len.ensures.kept c.in_ok-len.ensures.counted)

pub set_sorted-requires : goal.set_sorted-requires
set_sorted-requires g c = record {
  ascend =
      let h = rw c.in-None.ensures.steps.0 at c.loop-start.invariant.2 in
      starts_ascend g.V.PartialEq.eq g.T.Integer.low g.T.Integer.high _ h.kept.canonical h.kept.are_keys;
}

pub invariant_of-self-2 : goal.invariant_of-self-2
invariant_of-self-2 g c =
    let h = rw c.in-None.ensures.steps.0 at c.loop-start.invariant.2 in
    subst (λ (s : CountedEntries g.row.V.Denot). IsTable g.V.PartialEq.eq g.T.Integer.low g.T.Integer.high (g.T.SafeLen.SafeLength.number c.loop-start.len) s.entries) (sym c.in_ok-set_sorted.ensures.ok)
    (reached_table _ _ _ _ _ _ _ _ _ _ h _ refl)

pub returns-clause-ok : goal.returns-clause-ok
returns-clause-ok g c =
    let eq = g.V.PartialEq.eq in
    let low = g.T.Integer.low in
    let high = g.T.Integer.high in
    let Retained = IsKeyRetained g.F.Fn c.args.f g.T.Integer.rank g.T.Integer.of_rank eq low high c.args.self.now.entries in
    let h = rw c.in-None.ensures.steps.0 at c.loop-start.invariant.2 in
    let pairs = reached_pairs _ _ _ _ _ _ _ _ _ _ h in
    let kept : Retained (shown_list g.T.Integer.rank c.loop-start.kept.items) = record {
      kept = items_where_true pairs.answers (pair_list g.T.Integer.of_rank c.args.self.now.entries);
      filtered = (pairs.answers, c.args.f, pairs.long, pairs.returns, refl);
      range_map = range_map eq g.met.V.Eq.laws low high (g.T.SafeLen.SafeLength.number c.loop-start.len) _ (reached_table _ _ _ _ _ _ _ _ _ _ h _ refl);
      content = pairs.content;
    } in
    subst (λ (s : CountedEntries g.row.V.Denot). Retained s.entries) (sym c.in_ok-set_sorted.ensures.ok) kept
