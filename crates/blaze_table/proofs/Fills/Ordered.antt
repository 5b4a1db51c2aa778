-- Ordered lists, whose touching entries may have equal values.
use Rattle.blaze_table.proofs.Words.{none_is_not, ◌≡◌, ℕ, ℤ, pos, ◌-ℤ◌, ◌<ℤ◌, Bool, true, false, List, [], ◌∷◌, Option, Some, None, refl, ◌∙◌, sym, subst, arith, inl, inr, IsSome, ints, by_lt_z, same_along, IsApart, IsCanonical, HasStart, Entry, at, SameOption, never_equal, IsOrdered, IsOrderedTable, IsTable, IsAbove, IsAbove-from_apart, at_in, at_over, at_before}
use Rattle.blaze_entries.specs.Canonical.{IsRunStart}

not_true : (b : Bool) → (b ≡ true → ⊥) → b ≡ false
not_true true h = absurd (h refl)
not_true false h = refl

module _ {V : Type 0} where
  pub apart_by : (e : Entry V) (es : List (Entry V)) → IsAbove e.hi es → IsApart never_equal e es
  apart_by e [] a = tt
  apart_by e (f ∷ fs) a = (a, λ p. refl)

  pub ordered_of : (eq : V → V → Bool) (es : List (Entry V)) → IsCanonical eq es → IsOrdered es
  ordered_of eq [] c = tt
  ordered_of eq (e ∷ es) c = (c.0, apart_by e es (IsAbove-from_apart eq e es c.1), ordered_of eq es c.2)

  pub ordered_table : (eq : V → V → Bool) (low high : ℤ) (n : ℕ) (es : List (Entry V)) → IsTable eq low high n es → IsOrderedTable low high n es
  ordered_table eq low high n es t = record { canonical = ordered_of eq es t.canonical; are_keys = t.are_keys; counted = t.counted }

  -- each start is above the bound of the list and has a value
  pub start_above : (b k : ℤ) (es : List (Entry V)) → IsOrdered es → IsAbove b es → HasStart es k → b <ℤ k
  start_above b k [] c a h = absurd h
  start_above b k (e ∷ es) c a (inl p) = omega (arith, ints)
  start_above b k (e ∷ es) c a (inr q) = let r = start_above e.hi k es c.2 (IsAbove-from_apart never_equal e es c.1) q in omega (arith, ints, c.0)

  -- an ordered list is canonical if each start is a run start
  pub canonical_by_starts : (eq : V → V → Bool) (es : List (Entry V)) → IsOrdered es → ((k : ℤ) → HasStart es k → IsRunStart eq (at es) k) → IsCanonical eq es
  unfolding IsRunStart
  canonical_by_starts eq [] c s = tt
  canonical_by_starts eq (e ∷ es) c s = (c.0, apart es c s, canonical_by_starts eq es c.2 later)
    where
      apart : (es : List (Entry V)) → IsOrdered (e ∷ es) → ((k : ℤ) → HasStart (e ∷ es) k → IsRunStart eq (at (e ∷ es)) k) → IsApart eq e es
      apart [] c s = tt
      apart (f ∷ fs) c s = (
        c.1.0,
        λ p. not_true (eq e.value f.value) (λ q.
            (s f.lo (inr (inl refl))).1 (same_along eq
            (sym (at_in e (f ∷ fs) (f.lo -ℤ pos 1) (omega (arith, ints, c.0)) (omega (arith, ints))))
            (sym (at_over e (f ∷ fs) f.lo c.1.0 ∙ at_in f fs f.lo (omega (arith, ints)) c.2.0)) q)),
      )

      later : (k : ℤ) → HasStart es k → IsRunStart eq (at es) k
      later k h =
          let above = start_above e.hi k es c.2 (IsAbove-from_apart never_equal e es c.1) h in
          let r = s k (inr h) in
          let here : at (e ∷ es) k ≡ at es k = at_over e es k above in (
            subst IsSome here r.0,
            λ q. by_lt_z e.hi (k -ℤ pos 1)
                (λ l. r.1 (same_along eq (sym (at_over e es (k -ℤ pos 1) l)) (sym here) q))
                (λ l. none_against (at es (k -ℤ pos 1)) (at es k) (at_before never_equal es e.hi (k -ℤ pos 1) c.2 (IsAbove-from_apart never_equal e es c.1) l) (subst IsSome here r.0) q),
          )
        where
          none_against : (a b : Option V) → a ≡ None → IsSome b → SameOption eq a b → ⊥
          none_against None None p h q = none_is_not {X = V} None refl h
          none_against None (Some y) p h q = q
          none_against (Some x) b p h q = cc
