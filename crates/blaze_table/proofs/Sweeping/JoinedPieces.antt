-- Ascending disjoint pairs, appended to a list one by one.
use Rattle.blaze_table.proofs.Words.{◌≡◌, ℤ, pos, ◌+ℤ◌, ◌≤ℤ◌, Bool, List, [], ◌∷◌, refl, ◌∙◌, sym, subst, arith, Some, IsEquivalence, ints, Entry, SameOption, last_at, glue, AreApart, IsSwept}
use Rattle.blaze_table.proofs.Pairs.Lasts.{last_below, last_first, last_over}
use Rattle.blaze_table.proofs.Sweeping.Sweeps.{swept_none, swept_more}

-- the list has what all pairs paint below the key `from`, and the remaining pairs paint the rest
pub record IsJoined {V : Type 0} (eq : V → V → Bool) (low high : ℤ) (all rest out : List (Entry V)) : Type 0 where
  pub from : ℤ
  pub swept : IsSwept eq low high (last_at all) from out
  pub apart : AreApart from rest
  pub same : (k : ℤ) → from ≤ℤ k → last_at all k ≡ last_at rest k

module _ {V : Type 0} (eq : V → V → Bool) (laws : IsEquivalence eq) (low high : ℤ) (all : List (Entry V)) where
  pub joined_none : AreApart low all → IsJoined eq low high all all []
  joined_none a = record {
    from = low;
    swept = swept_none eq laws low high (last_at all) low (λ k l. last_below low k all a l);
    apart = a;
    same = λ k l. refl;
  }

  pub joined_more : (e : Entry V) (rest out new : List (Entry V)) → low ≤ℤ e.lo → e.hi ≤ℤ high → new ≡ glue eq out (e ∷ []) → IsJoined eq low high all (e ∷ rest) out → IsJoined eq low high all rest new
  joined_more e rest out new f u is c = record {
    from = e.hi +ℤ pos 1;
    swept = swept_more eq laws low high (last_at all) c.from e.lo e.hi e.value out new c.apart.0 (λ k l h. c.same k l ∙ last_below e.lo k (e ∷ rest) (omega (arith, ints), c.apart.1, c.apart.2) h) c.apart.1 f u
        (λ k l h. subst (SameOption eq (Some e.value)) (sym (c.same k (omega (arith, ints, c.apart.0)) ∙ last_first k e rest c.apart.2 l h)) (laws.refl e.value)) is c.swept;
    apart = c.apart.2;
    same = λ k l. c.same k (omega (arith, ints, c.apart.0, c.apart.1)) ∙ last_over k e rest (omega (arith, ints));
  }
