-- A walk down to a range makes at most a few more lookups than a paint of the range removes entries.
use Rattle.blaze_table.proofs.Words.{◌≡◌, ℕ, ◌+◌, ◌≤◌, ℤ, pos, ◌+ℤ◌, ◌≤ℤ◌, Bool, List, [], ◌∷◌, length, ◌∙◌, ap, arith, Result, Ok, Err, OnOk, IfOk, ints, by_lt_z, CountedEntries, StartsAscend, below, from, HasWalkLookups, below_takes, below_skips, below_none, from_takes, from_skips, from_all, Entry, entry, IsCanonical, IsCountedPaint, PutsAtMost, HasEditLookups, IsWorked, before, after, IsTablePainted, IsAbove-from_apart, above_by, by_before, by_after}
use Rattle.blaze_table.proofs.Walks.Plans.{from_above}
use Rattle.blaze_table.proofs.Walks.Worked.{counted_then, counted_looked}

module _ {V : Type 0} where
  -- at most one entry starts at the key right above the range
  few_starts : (l h b high : ℤ) (es : List (Entry V)) → l ≤ℤ h → StartsAscend b high es
      → length (from l (below (h +ℤ pos 2) es)) + length (below l es) + length (from (h +ℤ pos 1) es) ≤ length es + 1
  few_starts l h b high [] w s = omega arith
  few_starts l h b high (e ∷ es) w s = by_lt_z e.lo (h +ℤ pos 2)
      (λ u. by_lt_z e.lo l
      (λ m. rw (below_takes (h +ℤ pos 2) e es u, from_skips l e (below (h +ℤ pos 2) es) m, below_takes l e es m, from_skips (h +ℤ pos 1) e es (omega (arith, ints))) (omega (arith, few_starts l h (e.lo +ℤ pos 1) high es w s.2)))
      (λ m. by_lt_z e.lo (h +ℤ pos 1)
      (λ n. rw (below_takes (h +ℤ pos 2) e es u, from_takes l e (below (h +ℤ pos 2) es) m, below_skips l e es m, from_skips (h +ℤ pos 1) e es n) (omega (arith, few_starts l h (e.lo +ℤ pos 1) high es w s.2)))
      (λ n. rw (below_takes (h +ℤ pos 2) e es u, below_none (h +ℤ pos 2) (e.lo +ℤ pos 1) high es (omega (arith, ints)) s.2, from_takes l e [] m, below_skips l e es m, below_none l (e.lo +ℤ pos 1) high es (omega (arith, ints)) s.2, from_takes (h +ℤ pos 1) e es n, from_all (h +ℤ pos 1) (e.lo +ℤ pos 1) high es (omega (arith, ints)) s.2) (omega arith))))
      (λ u. rw (below_none (h +ℤ pos 2) e.lo high (e ∷ es) u (omega (arith, ints), s.1, s.2), below_none l e.lo high (e ∷ es) (omega (arith, ints)) (omega (arith, ints), s.1, s.2), from_all (h +ℤ pos 1) e.lo high (e ∷ es) (omega (arith, ints)) (omega (arith, ints), s.1, s.2)) (omega arith))

module _ {V : Type 0} (eq : V → V → Bool) where
  before_starts : (l : ℤ) (es : List (Entry V)) → IsCanonical eq es → length (before l es) ≤ length (below l es)
  before_starts l [] c = omega arith
  before_starts l (e ∷ es) c = by_before l e es
      (λ u p. rw (p, below_takes l e es (omega (arith, ints, c.0))) (omega (arith, before_starts l es c.2)))
      (λ u m p. rw (p, below_takes l e es m) (omega arith))
      (λ u m p. rw p (omega arith))

  after_starts : (h : ℤ) (es : List (Entry V)) → IsCanonical eq es → length (after h es) ≤ length (from (h +ℤ pos 1) es) + 1
  after_starts h [] c = omega arith
  after_starts h (e ∷ es) c =
      let over : h ≤ℤ e.hi → from (h +ℤ pos 1) es ≡ es = λ u. from_above eq h es (above_by e.hi h es u (IsAbove-from_apart eq e es c.1)) c.2 in
      by_after h e es
      (λ u p. rw (p, from_skips (h +ℤ pos 1) e es (omega (arith, ints, c.0))) (omega (arith, after_starts h es c.2)))
      (λ u m p. rw (p, from_skips (h +ℤ pos 1) e es (omega (arith, ints)), over (omega (arith, ints))) (omega arith))
      (λ u m p. rw (p, from_takes (h +ℤ pos 1) e es (omega (arith, ints)), over (omega (arith, ints))) (omega arith))

  -- the lookups of a walk, and at most one more
  looked : (l h low high : ℤ) (old new : CountedEntries V) → l ≤ℤ h → StartsAscend low high old.entries → IsCanonical eq old.entries → new ≡ record old { looks = new.looks } → old.looks ≤ new.looks
      → new.looks ≤ old.looks + length (from l (below (h +ℤ pos 2) old.entries)) + 2 → HasEditLookups l h old new
  looked l h low high old new w s c alone risen few = record {
    alone = alone;
    risen = risen;
    few = omega (arith, few, few_starts l h low high old.entries w s, before_starts l old.entries c, after_starts h old.entries c);
  }

  pub looked_by_walk : (l h low high : ℤ) {old new : CountedEntries V} → l ≤ℤ h → StartsAscend low high old.entries → IsCanonical eq old.entries → HasWalkLookups 0 l h old new → HasEditLookups l h old new
  looked_by_walk l h low high {old} {new} w s c k = looked l h low high old new w s c k.alone k.risen (omega (arith, k.few))

  pub looked_again : (l h low high : ℤ) (old mid new : CountedEntries V) → l ≤ℤ h → StartsAscend low high old.entries → IsCanonical eq old.entries → mid ≡ record old { looks = mid.looks } → old.looks ≤ mid.looks
      → mid.looks ≤ old.looks + length (from l (below (h +ℤ pos 2) old.entries)) + 1 → new ≡ record mid { looks = new.looks } → mid.looks ≤ new.looks → new.looks ≤ mid.looks + 1 → HasEditLookups l h old new
  looked_again l h low high old mid new w s c walked up few again risen once =
      looked l h low high old new w s c (again ∙ ap (λ (x : CountedEntries V). record x { looks = new.looks }) walked) (omega (arith, up, risen)) (omega (arith, few, once))

-- few lookups, and then the edit; the list has at most one entry more than the parts below and above the range
module _ {V : Type 0} (l h : ℤ) (old mid new : CountedEntries V) (looked : HasEditLookups l h old mid) where
  pub counted : (most : ℕ) → IsWorked most 0 mid new → length new.entries ≤ length (before l mid.entries) + length (after h mid.entries) + 1 → PutsAtMost most old new
  counted most work short =
      let same : mid.entries ≡ old.entries = ap (λ (x : CountedEntries V). x.entries) looked.alone in
      let long = ap length same in
      let low_part = ap (λ xs. length (before l xs)) same in
      let high_part = ap (λ xs. length (after h xs)) same in
      let puts = ap (λ (x : CountedEntries V). x.put_in) looked.alone in
      let taken = ap (λ (x : CountedEntries V). x.taken_out) looked.alone in
      record {
        counted = counted_then old mid new (counted_looked old mid looked.alone looked.risen) work.counted;
        puts = omega (arith, puts, work.puts);
        looks = omega (arith, looked.few, puts, taken, long, low_part, high_part, short, work.counted.puts, work.counted.taken, work.counted.balance, work.looks);
      }
