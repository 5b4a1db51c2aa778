-- Each entry of a range map is a run of its content.
use Rattle.blaze_entries.proofs.Words.{◌≡◌, ℤ, pos, ◌+ℤ◌, ◌-ℤ◌, ◌≤ℤ◌, ◌<ℤ◌, Bool, List, [], ◌∷◌, ◌++◌, Some, ◌∙◌, sym, subst, arith, ints, IsEquivalence, Contains, Contains-append_left, Contains-append_right, Contains-push, Entry, at, entry_at, IsCanonical, IsRangeMap, IsRun}
use Rattle.blaze_entries.specs.Canonical.{IsRunStart, IsRunEnd}
use Rattle.blaze_entries.proofs.Alike.{same_along}
use Rattle.blaze_entries.proofs.Canonical.EntryAt.{entry_holds, entry_starts, entry_ends, entry_value}
use Rattle.blaze_entries.proofs.Canonical.Lookup.{IsAbove-from_apart, entry_in, entry_over, holds_in, holds_ends}
use Rattle.blaze_entries.proofs.Canonical.Runs.{canonical}
use Rattle.blaze_entries.proofs.Paints.Kept.{by_first, first_in, over_in}

module _ {V : Type 0} (eq : V → V → Bool) (laws : IsEquivalence eq) (low high : ℤ) (es : List (Entry V)) (map : IsRangeMap eq low high es) where
  -- the entry at a key is a run, and has the key
  module _ (k : ℤ) (e : Entry V) (is : entry_at es k ≡ Some e) where
    pub entry_place : (e.lo ≤ℤ k) × (k ≤ℤ e.hi)
    entry_place = holds_ends e k (entry_holds k e es is)

    pub entry_run : IsRun eq (at es) e.lo e.hi e.value
    unfolding IsRunStart IsRunEnd
    entry_run =
        let order : e.lo ≤ℤ e.hi = omega (arith, ints, entry_place.0, entry_place.1) in
        let value : (j : ℤ) → e.lo ≤ℤ j → j ≤ℤ e.hi → at es j ≡ Some e.value = λ j l h. entry_value k e es j map.runs.disjoint is (holds_in e j l h) in
        let first = value e.lo (omega (arith, ints)) order in
        let last = value e.hi order (omega (arith, ints)) in
        let starts = (map.runs.starts e.lo).0 (entry_starts k e es is) in
        let ends = (map.runs.ends e.hi).0 (entry_ends k e es is) in
        record {
          order = order;
          value = value;
          starts = starts;
          ends = ends;
          below = λ same. starts.1 (same_along eq (sym same) (sym first) (laws.refl e.value));
          above = λ same. ends.1 (same_along eq (sym last) (sym same) (laws.refl e.value));
        }

  -- an entry of the list is the entry at its start
  contained : (xs : List (Entry V)) (e : Entry V) → IsCanonical eq xs → Contains xs e → entry_at xs e.lo ≡ Some e
  contained [] e c (i, u, q) = absurd (omega arith)
  contained (f ∷ fs) e c u = by_first f fs e u
      (λ q. subst (λ (x : Entry V). entry_at (f ∷ fs) x.lo ≡ Some x) q (entry_in f fs f.lo (omega (arith, ints)) c.0))
      (λ l. let over = over_in eq f.hi fs e (IsAbove-from_apart eq f fs c.1) c.2 l in entry_over f fs e.lo over.0 ∙ contained fs e c.2 l)

  pub member_run : (e : Entry V) → Contains es e → IsRun eq (at es) e.lo e.hi e.value
  member_run e u = entry_run e.lo e (contained es e (canonical eq laws es map.runs) u)

  -- an entry behind others, as a walk over the list finds it
  pub walked_run : (done rest : List (Entry V)) (e : Entry V) → es ≡ done ++ e ∷ rest → IsRun eq (at es) e.lo e.hi e.value
  walked_run done rest e parts = member_run e (subst (λ xs. Contains xs e) (sym parts) (Contains-append_right done (e ∷ rest) e (first_in e rest)))
