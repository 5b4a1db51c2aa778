-- Whether a range is inside an entry with an equal value, by the entry that starts at the range or below it.
use Rattle.blaze_table.proofs.Words.{◌≡◌, ◌+◌, ◌≤◌, ℤ, pos, ◌+ℤ◌, ◌≤ℤ◌, ◌<ℤ◌, Bool, true, false, List, [], ◌∷◌, ◌++◌, length, Option, Some, None, refl, ◌∙◌, sym, subst, ap, arith, inl, inr, ◌↔◌, int_le, last_or, option_map, option_or, ints, and_parts, and_from, le_true, le_holds, not_both, found_in, Seen, StartsAscend, below, last_below, start_at, by_order, start_none, below_none, below_takes, Entry, IsCanonical, IsInside, IsPlanOf, reaches, before, after, IsBelow, IsAbove-from_apart, above_by, by_after, before_keeps, after_skips}
use Rattle.blaze_table.proofs.Paints.Inside.{inside_above}
use Rattle.blaze_table.proofs.Cuts.Splits.{last_at, no_last_from, ends_below}
use Rattle.blaze_table.proofs.Paints.Widened.{after_over}

-- the last entry that starts up to a key starts at it, or is the last that starts below it
last_up : {V : Type 0} (l high : ℤ) (o : Option (Entry V)) (b : ℤ) (es : List (Entry V)) → StartsAscend b high es → last_or o (below (l +ℤ pos 1) es) ≡ option_or (start_at l es) (last_or o (below l es))
last_up l high o b [] s = refl
last_up l high o b (e ∷ es) s = by_order l e.lo
    (λ u p t. rw (below_none (l +ℤ pos 1) e.lo high (e ∷ es) (omega (arith, ints)) (omega (arith, ints), s.1, s.2), below_none l e.lo high (e ∷ es) (omega (arith, ints)) (omega (arith, ints), s.1, s.2), start_none l e.lo high (e ∷ es) u (omega (arith, ints), s.1, s.2)) refl)
    (λ u p t. rw (below_takes (l +ℤ pos 1) e es (omega (arith, ints)), below_none (l +ℤ pos 1) (e.lo +ℤ pos 1) high es (omega (arith, ints)) s.2, t) refl)
    (λ u p t. rw (below_takes (l +ℤ pos 1) e es (omega (arith, ints)), below_takes l e es u, t) (last_up l high (Some e) (e.lo +ℤ pos 1) es s.2))

module _ {V : Type 0} (eq : V → V → Bool) (v : V) (l h : ℤ) (w : l ≤ℤ h) where
  abbrev test : V → Bool
  test x = eq x v

  map_or : (a b : Option (Entry V)) → option_map (found_in test) (option_or a b) ≡ option_or (option_map (found_in test) a) (option_map (found_in test) b)
  map_or None b = refl
  map_or (Some e) b = refl

  -- If a range is inside an entry, the list has at most one entry more than the parts below and above the range.
  pub inside_short : (es : List (Entry V)) → IsCanonical eq es → IsInside eq l h v es → length es ≤ length (before l es) + length (after h es) + 1
  inside_short [] c i = absurd i
  inside_short (e ∷ es) c (inl p) = by_after h e es
      (λ u q. rw (q, after_over eq h es (above_by e.hi h es p.1 (IsAbove-from_apart eq e es c.1)) c.2) (omega arith))
      (λ u m q. rw q (omega arith))
      (λ u m q. rw q (omega arith))
  inside_short (e ∷ es) c (inr p) =
      let over = inside_above eq l h v e.hi es c.2 (IsAbove-from_apart eq e es c.1) p in
      rw (before_keeps l e es over, after_skips h e es (omega (arith, ints))) (omega (arith, inside_short es c.2 p))

  not_inside : (b high : ℤ) (es : List (Entry V)) → l <ℤ b → StartsAscend b high es → IsInside eq l h v es → ⊥
  not_inside b high [] u s i = i
  not_inside b high (e ∷ es) u s (inl p) = absurd (omega (arith, ints, s.0, p.0))
  not_inside b high (e ∷ es) u s (inr p) = not_inside (e.lo +ℤ pos 1) high es (omega (arith, ints, s.0)) s.2 p

  inside_part : (xs : List (Entry V)) (e : Entry V) (ys : List (Entry V)) → e.lo ≤ℤ l → h ≤ℤ e.hi → eq e.value v ≡ true → IsInside eq l h v (xs ++ e ∷ ys)
  inside_part [] e ys a b q = inl (a, b, q)
  inside_part (x ∷ xs) e ys a b q = inr (inside_part xs e ys a b q)

  part_inside : (high : ℤ) (xs : List (Entry V)) (e : Entry V) (ys : List (Entry V)) → e.lo ≤ℤ l → IsBelow e.lo xs → StartsAscend (l +ℤ pos 1) high ys → IsInside eq l h v (xs ++ e ∷ ys) → (h ≤ℤ e.hi) × (eq e.value v ≡ true)
  part_inside high [] e ys a b s (inl p) = (p.1, p.2)
  part_inside high [] e ys a b s (inr p) = absurd (not_inside (l +ℤ pos 1) high ys (omega (arith, ints)) s p)
  part_inside high (x ∷ xs) e ys a b s (inl p) = absurd (omega (arith, ints, b.0, p.1))
  part_inside high (x ∷ xs) e ys a b s (inr p) = part_inside high xs e ys a b.1 s p

  module _ (low high : ℤ) (es : List (Entry V)) (s : StartsAscend low high es) (c : IsCanonical eq es) where
    -- by the last entry that starts up to the range's first key
    inside_last : (o : Option (Entry V)) → last_below (l +ℤ pos 1) es ≡ o → (reaches h (option_map (found_in test) o) ≡ true) ↔ IsInside eq l h v es
    inside_last None q = ((λ r. cc), (λ i. absurd (not_inside (l +ℤ pos 1) high es (omega (arith, ints)) (no_last_from (l +ℤ pos 1) low high es s q) i)))
    inside_last (Some e) q =
        let i = last_at (l +ℤ pos 1) low high e es s q in
        let up = i.starts in (
          (λ r.
              let t = and_parts (eq e.value v) (int_le h e.hi) r in
              subst (IsInside eq l h v) (sym i.parts) (inside_part i.front e i.back (omega (arith, ints)) (le_holds h e.hi t.1) t.0)),
          (λ j.
              let t = part_inside high i.front e i.back (omega (arith, ints)) (ends_below eq i.front e i.back (subst (IsCanonical eq) i.parts c)) i.back_from (subst (IsInside eq l h v) i.parts j) in
              and_from (eq e.value v) (int_le h e.hi) t.1 (le_true h e.hi t.0)),
        )

    pub inside_seen : (p : Seen) → IsPlanOf test l h es p → (reaches h (option_or p.at_start p.predecessor) ≡ true) ↔ IsInside eq l h v es
    inside_seen p r =
        let entry_containing : option_map (found_in test) (last_below (l +ℤ pos 1) es) ≡ option_or p.at_start p.predecessor = ap (option_map (found_in test)) (last_up l high None low es s) ∙ map_or (start_at l es) (last_below l es)
        ∙ sym (ap (λ x. option_or x p.predecessor) r.at_start ∙ ap (option_or (option_map (found_in test) (start_at l es))) r.predecessor) in
        let last = inside_last (last_below (l +ℤ pos 1) es) refl in
        ((λ t. last.0 (ap (reaches h) entry_containing ∙ t)), (λ i. sym (ap (reaches h) entry_containing) ∙ last.1 i))

    pub not_reached : (p : Seen) → IsPlanOf test l h es p → reaches h (option_or p.at_start p.predecessor) ≡ false → IsInside eq l h v es → ⊥
    not_reached p r n i = not_both (reaches h (option_or p.at_start p.predecessor)) ((inside_seen p r).1 i) n
