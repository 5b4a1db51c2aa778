-- Nodes collected from a list whose starts ascend are the nodes of that list.
use Rattle.blaze_entries.proofs.Words.{◌≡◌, ℤ, pos, ◌+ℤ◌, ◌≤ℤ◌, ◌<ℤ◌, Bool, true, false, cond, List, [], ◌∷◌, map, Option, Some, None, refl, ◌∙◌, sym, subst, ap, arith, IsSome, is_at, IsFromIterResult, BTreeMap, IsTotalOrder, int_cmp_is, AllByRecursion, lookup, keys_of, option_map, int_cmp, eq_by_cmp, on, Less, Equal, Greater, eq_by_cmp_equiv, int_cmp_total, ints, IsDistinct-from_sorted, update_all_none, Entry, shown_entry, shown_nodes, shown_node_at, full_node, node_of, StartsAscend, start_at, EndValue}
use Rattle.std.specs.List.Sorted.{IsStrictlySortedBy}
use Rattle.blaze_entries.proofs.Ascending.{by_order, start_none}
use Rattle.blaze_entries.proofs.NodeLists.{as_entries_lookup}

-- two lists whose starts ascend are equal if they have the same entry at each start
module _ {V : Type 0} where
  pub start_first : (e : Entry V) (es : List (Entry V)) → start_at e.lo (e ∷ es) ≡ Some e
  start_first e es = by_order e.lo e.lo (λ o q r. absurd (omega (arith, ints))) (λ o q r. rw r refl) (λ o q r. absurd (omega (arith, ints)))

  start_later : (k : ℤ) (e : Entry V) (es : List (Entry V)) → e.lo <ℤ k → start_at k (e ∷ es) ≡ start_at k es
  start_later k e es l = by_order k e.lo (λ o q r. rw r refl) (λ o q r. absurd (omega (arith, ints))) (λ o q r. rw r refl)

  some_none : (e : Entry V) (o : Option (Entry V)) → o ≡ Some e → o ≡ None → ⊥
  some_none e o p q = cc

  one_found : (e f : Entry V) (o : Option (Entry V)) → o ≡ Some e → o ≡ Some f → e ≡ f
  one_found e f o p q = cc

  pub same_starts : (b high : ℤ) (es fs : List (Entry V)) → StartsAscend b high es → StartsAscend b high fs → ((k : ℤ) → b ≤ℤ k → k ≤ℤ high → start_at k es ≡ start_at k fs) → es ≡ fs
  same_starts b high [] [] a c h = refl
  same_starts b high [] (f ∷ fs) a c h = absurd (some_none f (start_at f.lo (f ∷ fs)) (start_first f fs) (sym (h f.lo c.0 c.1)))
  same_starts b high (e ∷ es) [] a c h = absurd (some_none e (start_at e.lo (e ∷ es)) (start_first e es) (h e.lo a.0 a.1))
  same_starts b high (e ∷ es) (f ∷ fs) a c h = by_order e.lo f.lo
      (λ l p q. absurd (some_none e (start_at e.lo (e ∷ es)) (start_first e es) (h e.lo a.0 a.1 ∙ start_none e.lo f.lo high (f ∷ fs) l (omega (arith, ints), c.1, c.2))))
      (λ l p q.
      let one : e ≡ f = one_found e f (start_at e.lo (e ∷ es)) (start_first e es) (h e.lo a.0 a.1 ∙ ap (λ k. start_at k (f ∷ fs)) l ∙ start_first f fs) in
      let others : es ≡ fs = same_starts (e.lo +ℤ pos 1) high es fs a.2 (subst (λ k. StartsAscend (k +ℤ pos 1) high fs) (sym l) c.2) (λ k d u.
      let first = a.0 in
      sym (start_later k e es (omega (arith, ints))) ∙ h k (omega (arith, ints)) u ∙ start_later k f fs (omega (arith, ints))) in
      λ i. one i ∷ others i)
      (λ l p q. absurd (some_none f (start_at f.lo (f ∷ fs)) (start_first f fs) (sym (h f.lo c.0 c.1) ∙ start_none f.lo e.lo high (e ∷ es) l (omega (arith, ints), a.1, a.2))))

  -- the start of an entry is from b to high
  start_within : (k b high : ℤ) (es : List (Entry V)) → StartsAscend b high es → IsSome (start_at k es) → (b ≤ℤ k) × (k ≤ℤ high)
  start_within k b high [] a s = cc
  start_within k b high (e ∷ es) a s = by_order k e.lo
      (λ o p q. later (start_within k (e.lo +ℤ pos 1) high es a.2 (rw q at s)))
      (λ o p q. (omega (arith, ints, a.0), omega (arith, ints, a.1)))
      (λ o p q. later (start_within k (e.lo +ℤ pos 1) high es a.2 (rw q at s)))
    where
      later : ((e.lo +ℤ pos 1) ≤ℤ k) × (k ≤ℤ high) → (b ≤ℤ k) × (k ≤ℤ high)
      later w = (omega (arith, ints, a.0, w.0), w.1)

some_mapped : {X Y : Type 0} (f : X → Y) (o : Option X) → IsSome o → IsSome (option_map f o)
some_mapped f None i = cc
some_mapped f (Some x) i = refl

some_later : {X : Type 0} (t : Bool) (x : X) (o : Option X) → IsSome o → IsSome (cond t (Some x) o)
some_later true x o i = refl
some_later false x o i = i

less_says : (a b : ℤ) → int_cmp a b ≡ Less → a <ℤ b
less_says a b h = by_order a b
    (λ o p q. o)
    (λ o p q. let no : Less ≡ Equal = sym h ∙ p in cc)
    (λ o p q. let no : Less ≡ Greater = sym h ∙ p in cc)

-- the order of ranks is total
ranks_total : {T : Type 0} (rank : T → ℤ) → IsTotalOrder (on rank int_cmp)
ranks_total rank = record {
  antisymm = λ x y. int_cmp_total.antisymm (rank x) (rank y);
  trans = λ x y z. int_cmp_total.trans (rank x) (rank y) (rank z);
  congr = λ x y z. int_cmp_total.congr (rank x) (rank y) (rank z);
}

module _ {T V : Type 0} (rank : T → ℤ) where
  -- starts that ascend are sorted by rank, and the other way round
  starts_sorted : (b high : ℤ) (xs : List (T × EndValue T V)) → StartsAscend b high (shown_nodes rank xs) → IsStrictlySortedBy (on rank int_cmp) (keys_of xs)
  unfolding IsStrictlySortedBy
  starts_sorted b high [] a = tt
  starts_sorted b high (x ∷ xs) a = (
    all_later x (rank x.0 +ℤ pos 1) (omega (arith, ints)) xs a.2,
    starts_sorted (rank x.0 +ℤ pos 1) high xs a.2,
  )
    where
      all_later : (x : T × EndValue T V) (c : ℤ) → rank x.0 <ℤ c → (ys : List (T × EndValue T V)) → StartsAscend c high (shown_nodes rank ys) → AllByRecursion (λ y. on rank int_cmp x.0 y ≡ Less) (keys_of ys)
      all_later x c u [] a = tt
      all_later x c u (y ∷ ys) a = (
        sym (int_cmp_is (rank x.0) (rank y.0) Less (omega (arith, ints, a.0))),
        all_later x (rank y.0 +ℤ pos 1) (omega (arith, ints, a.0)) ys a.2,
      )

  abbrev HasStart : List (T × EndValue T V) → T → Type 0
  HasStart xs q = IsSome (lookup (is_at (on rank int_cmp q)) xs)

  has_first : (x : T × EndValue T V) (xs : List (T × EndValue T V)) → HasStart (x ∷ xs) x.0
  has_first x xs = by_order (rank x.0) (rank x.0) (λ o p q. absurd (omega (arith, ints))) (λ o p q. rw q refl) (λ o p q. absurd (omega (arith, ints)))

  above : (r : ℤ) (q : T) (ys : List (T × EndValue T V)) → AllByRecursion (λ y. int_cmp r (rank y) ≡ Less) (keys_of ys) → HasStart ys q → (r +ℤ pos 1) ≤ℤ rank q
  above r q [] s i = cc
  above r q (y ∷ ys) s i = by_order (rank q) (rank y.0)
      (λ o p e. above r q ys s.1 (rw e at i))
      (λ o p e. let less = less_says r (rank y.0) s.0 in omega (arith, ints))
      (λ o p e. above r q ys s.1 (rw e at i))

  sorted_starts : (b high : ℤ) (xs : List (T × EndValue T V)) → IsStrictlySortedBy (on rank int_cmp) (keys_of xs) → ((q : T) → HasStart xs q → b ≤ℤ rank q) → ((q : T) → HasStart xs q → rank q ≤ℤ high) → StartsAscend b high (shown_nodes rank xs)
  unfolding IsStrictlySortedBy
  sorted_starts b high [] s f t = tt
  sorted_starts b high (x ∷ xs) s f t = (
    f x.0 (has_first x xs),
    t x.0 (has_first x xs),
    sorted_starts (rank x.0 +ℤ pos 1) high xs s.1 (λ q i. above (rank x.0) q xs s.0 i) (λ q i. t q (some_later (is_at (on rank int_cmp q) x.0) x.1 _ i)),
  )

  module _ (low high : ℤ) (xs : List (T × EndValue T V)) (n : BTreeMap T (EndValue T V)) (a : StartsAscend low high (shown_nodes rank xs)) (made : IsFromIterResult (on rank int_cmp) xs n) where
    found : (q : T) → lookup (is_at (on rank int_cmp q)) n.entries ≡ lookup (is_at (on rank int_cmp q)) xs
    found q = made.0 q ∙ update_all_none (eq_by_cmp_equiv (ranks_total rank)) (eq_by_cmp (on rank int_cmp)) (λ x y. refl) xs q (IsDistinct-from_sorted (on rank int_cmp) (keys_of xs) (starts_sorted low high xs a))

    within : (q : T) → HasStart n.entries q → (low ≤ℤ rank q) × (rank q ≤ℤ high)
    within q i = start_within (rank q) low high (shown_nodes rank xs) a
        (subst (λ o. IsSome o) (as_entries_lookup rank q xs) (some_mapped (shown_node_at rank q) (lookup (is_at (on rank int_cmp q)) xs) (subst (λ o. IsSome o) (found q) i)))

    starts : StartsAscend low high (shown_nodes rank n.entries)
    starts = sorted_starts low high n.entries made.1 (λ q i. (within q i).0) (λ q i. (within q i).1)

    pub collected : (of_rank : ℤ → T) → ((z : ℤ) → low ≤ℤ z → z ≤ℤ high → rank (of_rank z) ≡ z) → shown_nodes rank n.entries ≡ shown_nodes rank xs
    collected of_rank has_key = same_starts low high (shown_nodes rank n.entries) (shown_nodes rank xs) starts a (λ j l u.
        let q = of_rank j in
        subst (λ z. start_at z (shown_nodes rank n.entries) ≡ start_at z (shown_nodes rank xs)) (has_key j l u)
        (sym (as_entries_lookup rank q n.entries) ∙ ap (option_map (shown_node_at rank q)) (found q) ∙ as_entries_lookup rank q xs))

-- the nodes of entries
pub as_entries_of_nodes : {T V : Type 0} (rank : T → ℤ) (xs : List (T × T × V)) → shown_nodes rank (map node_of xs) ≡ map full_node (map (shown_entry rank (λ v. v)) xs)
as_entries_of_nodes rank [] = refl
as_entries_of_nodes rank (x ∷ xs) = ap (λ l. full_node (shown_entry rank (λ v. v) x) ∷ l) (as_entries_of_nodes rank xs)
