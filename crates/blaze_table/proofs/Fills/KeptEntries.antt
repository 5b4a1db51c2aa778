-- Entries that remain after a fill, with their very values.
use Rattle.blaze_table.proofs.Words.{◌≡◌, ℤ, pos, ◌+ℤ◌, ◌≤ℤ◌, ◌<ℤ◌, Bool, List, [], ◌∷◌, Option, Some, refl, ◌∙◌, sym, subst, arith, IsEquivalence, Contains, ints, by_lt_z, same_along, same_back, same_trans, IsCanonical, Entry, entry, at, SameOption, IsKeptIn, AreStartsKept, AreKept, IsAbove-from_apart, at_in, at_over, by_first, same_in, later_in, over_in}
use Rattle.blaze_entries.specs.Canonical.{IsRunEnd}

module _ {V : Type 0} where
  none_in : {P : Type 0} (e : Entry V) → Contains [] e → P
  none_in e (k, u, q) = absurd (omega arith)

  -- an entry of the list remains
  pub kept_same : (es : List (Entry V)) (e : Entry V) → Contains es e → IsKeptIn es e
  kept_same es e c = (e.hi, omega (arith, ints), c)

  pub kept_first : (f : Entry V) (es : List (Entry V)) (e : Entry V) → f ≡ e → IsKeptIn (f ∷ es) e
  kept_first f es e q = kept_same (f ∷ es) e (same_in f es e q)

  pub kept_later : (f : Entry V) (es : List (Entry V)) (e : Entry V) → IsKeptIn es e → IsKeptIn (f ∷ es) e
  kept_later f es e k = (k.0, k.1, later_in f es (entry e.lo k.0 e.value) k.2)

  -- an entry that remains with a later end also remains with its own end
  pub kept_further : (es : List (Entry V)) (e : Entry V) (h : ℤ) → e.hi ≤ℤ h → IsKeptIn es (entry e.lo h e.value) → IsKeptIn es e
  kept_further es e h u k = (k.0, omega (arith, ints, u, k.1), k.2)

module _ {V : Type 0} (eq : V → V → Bool) where
  pub starts_same : (content : ℤ → Option V) (es : List (Entry V)) → AreStartsKept eq content es es
  starts_same content es e c s = kept_same es e c

  -- if nothing changes, all entries remain
  pub all_kept : (content : ℤ → Option V) (es : List (Entry V)) → AreKept eq content es es
  all_kept content es = record { starts = starts_same content es; whole = λ e c s t. c }

  -- the value of a canonical list at the keys of an entry
  pub value_in : (es : List (Entry V)) (e : Entry V) (k : ℤ) → IsCanonical eq es → Contains es e → e.lo ≤ℤ k → k ≤ℤ e.hi → at es k ≡ Some e.value
  value_in [] e k d c l h = none_in e c
  value_in (f ∷ fs) e k d c l h = by_first f fs e c
      (λ q. subst (λ (x : Entry V). at (f ∷ fs) k ≡ Some x.value) q (at_in f fs k (subst (λ (x : Entry V). x.lo ≤ℤ k) (sym q) l) (subst (λ (x : Entry V). k ≤ℤ x.hi) (sym q) h)))
      (λ m. let o = over_in eq f.hi fs e (IsAbove-from_apart eq f fs d.1) d.2 m in at_over f fs k (omega (arith, ints, o.0)) ∙ value_in fs e k d.2 m l h)

  -- no range is empty
  order_in : (es : List (Entry V)) (e : Entry V) → IsCanonical eq es → Contains es e → e.lo ≤ℤ e.hi
  order_in [] e d c = none_in e c
  order_in (f ∷ fs) e d c = by_first f fs e c
      (λ q. subst (λ (x : Entry V). x.lo ≤ℤ x.hi) q d.0)
      (λ m. order_in fs e d.2 m)

  -- an entry whose end is a run end of the content has no later end
  pub are_kept : (laws : IsEquivalence eq) (content : ℤ → Option V) (old new : List (Entry V)) → IsCanonical eq old → IsCanonical eq new → ((k : ℤ) → SameOption eq (at new k) (content k))
      → AreStartsKept eq content old new → AreKept eq content old new
  unfolding IsRunEnd
  are_kept laws content old new d f same starts = record {
    starts = starts;
    whole = λ e c s t.
        let k = starts e c s in
        let lo = order_in old e d c in
        let further : e.hi <ℤ k.0 → ⊥ = λ l. t.1 (beside e.hi (e.hi +ℤ pos 1) e.value
        (value_in new (entry e.lo k.0 e.value) e.hi f k.2 lo (omega (arith, ints)))
        (value_in new (entry e.lo k.0 e.value) (e.hi +ℤ pos 1) f k.2 (omega (arith, ints)) (omega (arith, ints)))) in
        subst (λ h. Contains new (entry e.lo h e.value)) (by_lt_z e.hi k.0 (λ l. absurd (further l)) (λ m. omega (arith, ints, k.1))) k.2;
  }
    where
      beside : (a b : ℤ) (v : V) → at new a ≡ Some v → at new b ≡ Some v → SameOption eq (content a) (content b)
      beside a b v p q = same_trans eq laws (content a) (at new a) (content b) (same_back eq laws (at new a) (content a) (same a))
          (same_along eq {a = at new b} (q ∙ sym p) refl (same b))
