use Rattle.range_map_blaze.proofs.Words.{[], ◌∷◌, ◌++◌, ◌∙◌, sym, ap, map, map-append, shown_entry}
use Rattle.range_map_blaze.proofs.pairs.borrowed_pairs_of.Goals as goal

pub loop-item-init-derived : goal.loop-item-init-derived
loop-item-init-derived g c = c.requires _ c.into_iter-item-iterator.ensures.into_iter_gives

pub loop-item-smaller : goal.loop-item-smaller
loop-item-smaller g c = (c.in-Some.ensures.goes.on c.loop-item.iterator.1).2

pub loop-item-preserved : goal.loop-item-preserved
loop-item-preserved g c =
    let shown = shown_entry g.T.Integer.rank (λ v. v.now) in
    let x = c.parts.result in
    ap (λ xs. map shown xs) c.in_ok-push.ensures.items ∙ map-append shown c.loop-item.pairs.items (x ∷ [])
    ∙ ap (λ es. es ++ shown x ∷ []) c.loop-item.invariant ∙ ap (λ e. map g.P.BorrowedPair.pair c.loop-item.yielded ++ e ∷ []) c.parts.ensures
    ∙ sym (map-append g.P.BorrowedPair.pair c.loop-item.yielded (c.in-Some.item ∷ []))

pub returns : goal.returns
returns g c =
    let it = c.into_iter-item-iterator in
    (it.result, c.loop-item.yielded, it.ensures.into_iter_gives, (_, (_, c.loop-item.yielded_by, c.in-None.ensures.steps)), c.loop-item.invariant)
