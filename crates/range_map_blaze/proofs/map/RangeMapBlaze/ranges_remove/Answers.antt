use Rattle.range_map_blaze.proofs.Words.{rules, ◌≡◌, ℤ, ◌<ℤ◌, Bool, true, false, ◌&&◌, cond, List, None, refl, ◌∙◌, ap, sym, subst, arith, IsEquivalence, int_le, ints, by_lt_z, le_false, same_itself, IsRangeMap, cut_range_at, cut_inside, cut_outside, IsRangeCut, Entry, at, SameOption}
use Rattle.range_map_blaze.proofs.map.RangeMapBlaze.ranges_remove.Goals as goal

never_equal : (a : Bool) → (a && false) ≡ false
never_equal true = refl
never_equal false = refl

module _ {V : Type 0} (eq : V → V → Bool) (laws : IsEquivalence eq) (low high l h : ℤ) (es : List (Entry V)) (w : h <ℤ l) where
  off : (j : ℤ) → (int_le l j && int_le j h) ≡ false
  off j = by_lt_z j l
      (λ u. ap (λ b. b && int_le j h) (le_false l j u))
      (λ u. ap (λ b. int_le l j && b) (le_false j h (omega (arith, ints))) ∙ never_equal (int_le l j))

  -- a range without a key takes nothing out
  cut_nowhere : IsRangeMap eq low high es → IsRangeCut eq low high l h es es
  cut_nowhere r = record {
    range_map = r;
    content = content;
    inside = cut_inside eq es es l h content;
    outside = cut_outside eq es es l h content;
    kept = λ e i u. i;
  }
    where
      content : (j : ℤ) → SameOption eq (at es j) (cut_range_at l h (at es) j)
      content j = subst (SameOption eq (at es j)) (sym (ap (λ b. cond b None (at es j)) (off j))) (same_itself eq laws (at es j))

pub returns-in-Some-clause-none : goal.returns-in-Some-clause-none
returns-in-Some-clause-none g c = λ told below. let ends = c.in-Some.ensures.ranks told in absurd (omega (arith, ints, ends.0, ends.1, c.in-Some.ensures.order))

pub returns-clause-ok : goal.returns-clause-ok
returns-clause-ok g c = λ told. cut_nowhere g.V.PartialEq.eq g.met.V.Eq.laws g.T.Integer.low g.T.Integer.high _ _ _ (c.in-None.ensures.ranks told) c.in_hand.ensures

pub returns-in-Some-clause-ok : goal.returns-in-Some-clause-ok
returns-in-Some-clause-ok g c = search rules

pub returns-in-Some-clause-refused : goal.returns-in-Some-clause-refused
returns-in-Some-clause-refused g c = search rules
