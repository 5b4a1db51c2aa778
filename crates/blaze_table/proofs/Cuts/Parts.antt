-- The entries that remain after a split at a key, and the work of a split that is counted.
use Rattle.blaze_table.proofs.Words.{◌≡◌, ℕ, ◌+◌, ◌≤◌, Bool, ℤ, pos, ◌-ℤ◌, ◌≤ℤ◌, List, [], ◌∷◌, ◌++◌, length, refl, ◌∙◌, sym, subst, ap, arith, ⊎_elim, IsEquivalence, Result, Ok, Err, IfOk, Contains, Contains-append_left, Contains-append_right, Contains-append_cases, CountedEntries, uncounted, from, with_entry, IsCloneInserted, Entry, entry, IsCanonical, IsSplitOf, IsCountedCut, before, after, by_before, by_after, by_first, same_in, later_in, in_from, in_before, length_as}
use Rattle.blaze_table.specs.Sides.{AreKeptBelow, AreKeptFrom}
use Rattle.blaze_table.proofs.Neighbours.Holders.{Holder, is_holder, put_inside}
use Rattle.blaze_table.proofs.Cuts.SplitEdits.{starts_under}

module _ {V : Type 0} where
  before_short : (k : ℤ) (es : List (Entry V)) → length (before k es) ≤ length es
  before_short k [] = omega arith
  before_short k (e ∷ es) = by_before k e es (λ u p. rw p (omega (arith, before_short k es))) (λ u v p. rw p (omega arith)) (λ u v p. rw p (omega arith))

  after_short : (k : ℤ) (es : List (Entry V)) → length (after k es) ≤ length es
  after_short k [] = omega arith
  after_short k (e ∷ es) = by_after k e es (λ u p. rw p (omega (arith, after_short k es))) (λ u v p. rw p (omega arith)) (λ u v p. rw p (omega arith))

  -- one more entry in the list
  in_longer : (xs : List (Entry V)) (f p : Entry V) (ys : List (Entry V)) (e : Entry V) → Contains (xs ++ f ∷ ys) e → Contains (xs ++ f ∷ p ∷ ys) e
  in_longer xs f p ys e m = ⊎_elim
      (λ l. Contains-append_left xs (f ∷ p ∷ ys) e l)
      (λ r. Contains-append_right xs (f ∷ p ∷ ys) e (by_first f ys e r (λ q. same_in f (p ∷ ys) e q) (λ l. later_in f (p ∷ ys) e (later_in p ys e l))))
      (Contains-append_cases xs (f ∷ ys) e m)

  -- a split without a clone
  pub if_kept : {O E : Type 0} (counted : O → CountedEntries V) (k : ℤ) (es : List (Entry V)) (r : Result O E) → IfOk r (λ o. counted o ≡ uncounted (from k es)) → IfOk r (λ o. AreKeptFrom k es (counted o).entries)
  if_kept counted k es (Err x) f = tt
  if_kept counted k es (Ok o) f = λ e m u. subst (λ (s : CountedEntries V). Contains s.entries e) (sym f) (in_from k es e m u)

module _ {V : Type 0} (eq : V → V → Bool) (laws : IsEquivalence eq) (k high : ℤ) (es : List (Entry V)) (s z : ℤ) (h : Holder eq k high es s z) where
  -- a clone is inserted at the key, and the list is split
  pub kept_inside : (is_clone : V → V → Type 0) (mid new : List (Entry V)) → k ≤ℤ z → IsCloneInserted is_clone s k es mid → new ≡ from k mid → AreKeptFrom k es new
  kept_inside is_clone mid new u i f = λ e m w.
      let l = starts_under eq laws k high es s z h in
      let one = is_holder eq k high es s z h i.found in
      let p = entry k h.of.hi i.value in
      let put : mid ≡ h.front ++ h.of ∷ p ∷ h.back = i.inserted ∙ ap (λ (x : Entry V). with_entry (entry k x.hi i.value) es) (sym one) ∙ put_inside eq k high es s z h k l u p refl in
      subst (λ xs. Contains xs e) (sym f) (in_from k mid e (subst (λ xs. Contains xs e) (sym put) (in_longer h.front h.of p h.back e (subst (λ xs. Contains xs e) h.parts m))) w)

module _ {V : Type 0} (eq : V → V → Bool) (k : ℤ) (es under over : List (Entry V)) (r : IsSplitOf eq k es under over) where
  pub kept_below : IsCanonical eq es → AreKeptBelow k es under
  kept_below c = λ e m u. subst (λ xs. Contains xs e) (sym r.below_is) (in_before eq k es e c m u)

  pub below_short : length under ≤ length es
  below_short = omega (arith, ap length r.below_is, before_short k es)

  pub from_short : IsEquivalence eq → length over ≤ length es
  from_short laws = omega (arith, length_as eq laws (after (k -ℤ pos 1) es) over r.like, after_short (k -ℤ pos 1) es)

-- the entries that left are counted
pub counted_part : {V : Type 0} (old mid new : CountedEntries V) (n : ℕ) → mid ≡ record old { entries = mid.entries } → n + length mid.entries ≡ length old.entries → new ≡ record mid { taken_out = mid.taken_out + n } → IsCountedCut old new
counted_part {V} old mid new n same q r =
    let long = ap (λ (s : CountedEntries V). length s.entries) r in
    let looks = ap (λ (s : CountedEntries V). s.looks) r in
    let puts = ap (λ (s : CountedEntries V). s.put_in) r in
    let taken = ap (λ (s : CountedEntries V). s.taken_out) r in
    let old_looks = ap (λ (s : CountedEntries V). s.looks) same in
    let old_puts = ap (λ (s : CountedEntries V). s.put_in) same in
    let old_taken = ap (λ (s : CountedEntries V). s.taken_out) same in
    record {
      counted = record {
        looks = omega (arith, looks, old_looks);
        puts = omega (arith, puts, old_puts);
        taken = omega (arith, taken, old_taken);
        balance = omega (arith, long, puts, taken, old_puts, old_taken, q);
      };
      puts = omega (arith, puts, old_puts);
      looks = omega (arith, looks, taken, old_looks, old_taken);
    }
