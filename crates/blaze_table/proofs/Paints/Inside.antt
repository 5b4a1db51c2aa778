-- A paint inside an entry with an equal value changes nothing.
use Rattle.blaze_table.proofs.Words.{ℤ, ◌≤ℤ◌, ◌<ℤ◌, Bool, List, [], ◌∷◌, length, Some, refl, sym, ap, arith, inl, inr, IsEquivalence, ints, same_along, same_itself, Entry, at, SameOption, IsCanonical, IsInside, IsListPainted, IsAbove, IsAbove-from_apart, at_in, at_over, by_place, holds_in, holds_under, holds_over}

module _ {V : Type 0} (eq : V → V → Bool) (l h : ℤ) (v : V) where
  pub inside_above : (b : ℤ) (es : List (Entry V)) → IsCanonical eq es → IsAbove b es → IsInside eq l h v es → b <ℤ l
  inside_above b [] c a i = absurd i
  inside_above b (e ∷ es) c a (inl w) = omega (arith, ints, w.0)
  inside_above b (e ∷ es) c a (inr i) = omega (arith, ints, c.0, inside_above e.hi es c.2 (IsAbove-from_apart eq e es c.1) i)

  pub inside_at : (es : List (Entry V)) (k : ℤ) → IsCanonical eq es → IsInside eq l h v es → l ≤ℤ k → k ≤ℤ h → SameOption eq (at es k) (Some v)
  inside_at [] k c i a b = absurd i
  inside_at (e ∷ es) k c (inl w) a b = same_along eq (sym (at_in e es k (omega (arith, ints, w.0)) (omega (arith, ints, w.1)))) refl w.2
  inside_at (e ∷ es) k c (inr i) a b =
      same_along eq (sym (at_over e es k (omega (arith, ints, inside_above e.hi es c.2 (IsAbove-from_apart eq e es c.1) i)))) refl (inside_at es k c.2 i a b)

  module _ (laws : IsEquivalence eq) where
    pub inside_painted : (es : List (Entry V)) → IsCanonical eq es → IsInside eq l h v es → IsListPainted eq (record { lo = l; hi = h; value = v }) es es
    inside_painted es c i =
        let p : Entry V = record { lo = l; hi = h; value = v } in
        record {
          canonical = c;
          content = λ k. by_place p k
              (λ a b. rw (holds_in p k a b) (inside_at es k c i a b))
              (λ a. rw (holds_under p k a) (same_itself eq laws (at es k)))
              (λ b. rw (holds_over p k b) (same_itself eq laws (at es k)));
          few = omega arith;
          alone = λ e. let none = ap length e in omega arith;
          kept = λ e i a. i;
        }
