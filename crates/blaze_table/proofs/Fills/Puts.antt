-- An entry is inserted into a gap of an ordered list.
use Rattle.blaze_table.proofs.Words.{◌≡◌, ℤ, pos, ◌+ℤ◌, ◌-ℤ◌, ◌≤ℤ◌, ◌<ℤ◌, Bool, cond, true, false, List, [], ◌∷◌, Option, Some, None, refl, ◌∙◌, sym, ap, arith, inl, inr, ◌⊎◌, Contains, ints, by_lt_z, start_at, with_entry, by_order, AreKeys, HasStart, keys_in, Entry, at, holds, never_equal, IsOrdered, IsClearFrom, painted_content, IsAbove, IsAbove-from_apart, at_in, at_under, at_over, holds_under, holds_over, above_by, by_first, same_in, later_in}
use Rattle.blaze_table.proofs.Fills.Ordered.{apart_by}

module _ {V : Type 0} (low high : ℤ) (p : Entry V) where
  -- the list with the entry
  pub record IsPut (es new : List (Entry V)) : Type 0 where
    pub ordered : IsOrdered new
    pub above : (b : ℤ) → IsAbove b es → b <ℤ p.lo → IsAbove b new
    pub are_keys : AreKeys low high es → AreKeys low high new
    pub count : keys_in new ≡ keys_in es +ℤ ((p.hi -ℤ p.lo) +ℤ pos 1)
    pub content : (k : ℤ) → at new k ≡ painted_content p.lo p.hi p.value (at es) k
    pub starts : (k : ℤ) → HasStart new k → (k ≡ p.lo) ⊎ HasStart es k
    pub absent : start_at p.lo es ≡ None
    pub kept : (e : Entry V) → Contains es e → Contains new e

  some_not : (x : V) (o : Option V) → o ≡ Some x → o ≡ None → ⊥
  some_not x o q r = cc

  swapped : (a b : Bool) (x y : V) (o : Option V) → (a ≡ true → b ≡ true → ⊥) → cond a (Some x) (cond b (Some y) o) ≡ cond b (Some y) (cond a (Some x) o)
  swapped true true x y o n = absurd (n refl refl)
  swapped true false x y o n = refl
  swapped false true x y o n = refl
  swapped false false x y o n = refl

  module _ (from : low ≤ℤ p.lo) (order : p.lo ≤ℤ p.hi) (to : p.hi ≤ℤ high) where
    none_start : (es : List (Entry V)) → IsAbove p.hi es → IsOrdered es → start_at p.lo es ≡ None
    none_start [] a c = refl
    none_start (f ∷ fs) a c = by_order p.lo f.lo
        (λ o q r. rw r (none_start fs (above_by f.hi p.hi fs (omega (arith, ints, c.0)) (IsAbove-from_apart never_equal f fs c.1)) c.2))
        (λ o q r. absurd (omega (arith, ints)))
        (λ o q r. absurd (omega (arith, ints)))

    -- before entries above it
    put_front : (es : List (Entry V)) → IsOrdered es → IsAbove p.hi es → IsPut es (p ∷ es)
    put_front es c a = record {
      ordered = (order, apart_by p es a, c);
      above = λ b x l. l;
      are_keys = λ k. (from, to, k);
      count = omega (arith, ints);
      content = λ k. refl;
      starts = λ k h. h;
      absent = none_start es a c;
      kept = later_in p es;
    }

    -- after an entry that ends below it
    put_behind : (f : Entry V) (fs new : List (Entry V)) → IsOrdered (f ∷ fs) → f.hi <ℤ p.lo → IsPut fs new → IsPut (f ∷ fs) (f ∷ new)
    put_behind f fs new c l i = record {
      ordered = (c.0, apart_by f new (i.above f.hi (IsAbove-from_apart never_equal f fs c.1) l), i.ordered);
      above = λ b x m. x;
      are_keys = λ k. (k.0, k.1, i.are_keys k.2);
      count = omega (arith, ints, i.count);
      content = λ k. ap (cond (holds f k) (Some f.value)) (i.content k) ∙ swapped (holds f k) (holds p k) f.value p.value (at fs k) (λ q r. apart k q r);
      starts = λ k h. elim h [ inl q ↦ inr (inl q) | inr q ↦ elim (i.starts k q) [ inl r ↦ inl r | inr r ↦ inr (inr r) ] ];
      absent = skip (i.absent);
      kept = λ e h. by_first f fs e h (same_in f new e) (λ l. later_in f new e (i.kept e l));
    }
      where
        skip : start_at p.lo fs ≡ None → start_at p.lo (f ∷ fs) ≡ None
        skip n = by_order p.lo f.lo (λ o q r. rw r n) (λ o q r. absurd (omega (arith, ints, c.0))) (λ o q r. rw r n)

        apart : (k : ℤ) → holds f k ≡ true → holds p k ≡ true → ⊥
        apart k q r = by_lt_z f.hi k (λ m. let n = holds_over f k m in cc) (λ m. let n = holds_under p k (omega (arith, ints)) in cc)

    pub put_in : (es : List (Entry V)) → IsOrdered es → IsClearFrom (at es) p.lo p.hi → IsPut es (with_entry p es)
    put_in [] c n = put_front [] c tt
    put_in (f ∷ fs) c n = by_order p.lo f.lo
        (λ o q r. rw q (put_front (f ∷ fs) c (by_lt_z p.hi f.lo (λ l. l)
        (λ l. absurd (some_not f.value (at (f ∷ fs) f.lo) (at_in f fs f.lo (omega (arith, ints)) c.0) (n f.lo (omega (arith, ints)) l))))))
        (λ o q r. absurd (some_not f.value (at (f ∷ fs) f.lo) (at_in f fs f.lo (omega (arith, ints)) c.0) (n f.lo (omega (arith, ints)) (omega (arith, ints)))))
        (λ o q r.
        let l : f.hi <ℤ p.lo = by_lt_z f.hi p.lo (λ m. m) (λ m. absurd (some_not f.value (at (f ∷ fs) p.lo) (at_in f fs p.lo (omega (arith, ints)) m) (n p.lo (omega (arith, ints)) order))) in
        rw q (put_behind f fs (with_entry p fs) c l (put_in fs c.2 (λ j a b. sym (at_over f fs j (omega (arith, ints))) ∙ n j a b))))

-- no entry starts at a key without a value
pub absent_in : {V : Type 0} (k : ℤ) (es : List (Entry V)) → IsOrdered es → at es k ≡ None → start_at k es ≡ None
absent_in k [] c n = refl
absent_in {V} k (f ∷ fs) c n = by_order k f.lo
    (λ o q r. rw r (absent_in k fs c.2 (sym (at_under f fs k o) ∙ n)))
    (λ o q r. absurd (no_value (at (f ∷ fs) k) (at_in f fs k (omega (arith, ints)) (omega (arith, ints, c.0))) n))
    (λ o q r. rw r (by_lt_z f.hi k
    (λ l. absent_in k fs c.2 (sym (at_over f fs k l) ∙ n))
    (λ l. absurd (no_value (at (f ∷ fs) k) (at_in f fs k (omega (arith, ints)) l) n))))
  where
    no_value : {x : V} (o : Option V) → o ≡ Some x → o ≡ None → ⊥
    no_value o p q = cc
