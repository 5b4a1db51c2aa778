-- Keys that have values, entry by entry.
use Rattle.blaze_table.proofs.Words.{nat_of, ◌≡◌, ◌<◌, ℤ, ◌-ℤ◌, ◌≤ℤ◌, ◌<ℤ◌, Bool, true, false, cond, List, [], ◌∷◌, Some, refl, ◌∙◌, sym, subst, arith, IsSome, ints, nat_of-pos, Entry, at, entry_at, holds, IsMappedFrom, by_place, entry_in, entry_under, entry_over, holds_in}

module _ {V : Type 0} where
  -- the list has a value at each key of one of its entries
  pub entry_held : (e : Entry V) (es : List (Entry V)) (k : ℤ) → Some e ≡ entry_at es k → IsMappedFrom (at es) e.lo e.hi
  entry_held e [] k p j l h = cc
  entry_held e (f ∷ fs) k p j l h = by_place f k
      (λ a b. let same : e ≡ f = cc (p, entry_in f fs k a b) in rw (holds_in f j (subst (λ (x : Entry V). x.lo ≤ℤ j) same l) (subst (λ (x : Entry V). j ≤ℤ x.hi) same h)) refl)
      (λ a. more (holds f j) (entry_held e fs k (p ∙ entry_under f fs k a) j l h))
      (λ b. more (holds f j) (entry_held e fs k (p ∙ entry_over f fs k b) j l h))
    where
      more : (b : Bool) → IsSome (at fs j) → IsSome (cond b (Some f.value) (at fs j))
      more true s = refl
      more false s = s

-- a later key is nearer to the end
pub nearer : (a b end : ℤ) → a <ℤ b → b ≤ℤ end → nat_of (end -ℤ b) < nat_of (end -ℤ a)
nearer a b end l h = omega (arith, ints, nat_of-pos (end -ℤ b) (omega (arith, ints)), nat_of-pos (end -ℤ a) (omega (arith, ints)))
