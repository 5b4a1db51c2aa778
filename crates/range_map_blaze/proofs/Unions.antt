-- A union has few entries: no more than a list that is made by painting the right list's entries over the left list.
use Rattle.range_map_blaze.proofs.Words.{option_or, ◌+◌, ◌*◌, ◌≤◌, ℤ, Bool, cond, List, [], ◌∷◌, length, Some, None, ◌∙◌, sym, ap, subst, arith, IsEquivalence, same_itself, same_trans, same_back, same_or, or_assoc, Entry, at, holds, SameOption, SameContent, IsCanonical, IsRangeMap, right_first, IsChosen, last_at, painted_in_order, paint, fewest, is_painted, paint_itself, canonical, one_per_run, IsUnion, painted_one}
use Rattle.range_map_blaze.proofs.Paints.PaintedOver.{last_is_first, turned}

-- a list with the content after the entries are painted in their order, with at most two entries more for each
record IsManyPainted {V : Type 0} (eq : V → V → Bool) (ps old new : List (Entry V)) : Type 0 where
  is_canonical : IsCanonical eq new
  content : (k : ℤ) → SameOption eq (at new k) (painted_in_order ps (at old) k)
  few : length new ≤ length old + 2 * length ps

module _ {V : Type 0} (eq : V → V → Bool) (laws : IsEquivalence eq) where
  many_painted : (ps old : List (Entry V)) → IsCanonical eq ps → IsCanonical eq old → (new : List (Entry V)) × IsManyPainted eq ps old new
  many_painted [] old c d = (old, record { is_canonical = d; content = λ k. same_itself eq laws (at old k); few = omega arith })
  many_painted (p ∷ ps) old c d =
      let cur = paint eq p.lo p.hi p.value old in
      let one = is_painted eq laws p old cur c.0 d (paint_itself eq laws p old d) in
      let rest = many_painted ps cur c.2 one.canonical in (
        rest.0,
        record {
          is_canonical = rest.1.is_canonical;
          content = λ k. same_trans eq laws (at rest.0 k) (option_or (last_at ps k) (at cur k)) _ (rest.1.content k)
              (subst (SameOption eq (option_or (last_at ps k) (at cur k))) (sym (or_assoc (last_at ps k) (cond (holds p k) (Some p.value) None) (at old k)))
              (same_or eq (last_at ps k) (last_at ps k) (at cur k) _ (same_itself eq laws (last_at ps k)) (subst (SameOption eq (at cur k)) (painted_one (holds p k) p.value (at old k)) (one.content k))));
          few = omega (arith, rest.1.few, one.few);
        },
      )

  pub union_of : (low high : ℤ) (left right new : List (Entry V)) → IsRangeMap eq low high left → IsRangeMap eq low high right → IsChosen eq low high right_first left right new → IsUnion eq low high left right new
  union_of low high left right new l r c =
      let over = canonical eq laws right r.runs in
      let many = many_painted right left over (canonical eq laws left l.runs) in
      let same : SameContent eq new many.0 = λ k. same_trans eq laws (at new k) (right_first (at left k) (at right k)) (at many.0 k) (c.content k)
      (same_back eq laws (at many.0 k) _ (subst (SameOption eq (at many.0 k)) (ap (λ o. option_or o (at left k)) (last_is_first eq right k over) ∙ turned (at right k) (at left k)) (many.1.content k))) in
      record { chosen = c; few = omega (arith, fewest eq laws new many.0 (canonical eq laws new c.range_map.runs) (one_per_run eq laws many.0 many.1.is_canonical).disjoint same, many.1.few) }
