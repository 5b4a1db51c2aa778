-- The map's own edits and lookups, as edits and lookups of the entries.
use Rattle.blaze_entries.proofs.Words.{◌≡◌, ◌-◌, length, ℤ, pos, ◌+ℤ◌, ◌≤ℤ◌, Bool, true, false, cond, not, ◌&&◌, List, [], ◌∷◌, ◌++◌, Option, Some, None, refl, ◌∙◌, sym, subst, ap, arith, int_lt, int_le, map, int_cmp, int_eq, is_gt, is_le, is_lt, match_ordering, on, Ordering, Less, Equal, Greater, filter, last_or, slice_get, option_map, lookup, remove_entry, keys_of, values_of, TakesFirst, TakesLast, insert_entry, is_at, entries_between, entries_below, entries_from, Included, Excluded, Unbounded, ints, length-map, slice_get-map, Entry, entry, changed, EndValue, shown_nodes, shown_node, shown_node_at, StartsAscend, below, from, up_to, first_entry, last_below, start_at, with_entry, without, with_end, with_end_value, with_last_end}
use Rattle.blaze_entries.proofs.Ascending.{by_order}

pub last_of_append : {X : Type 0} (o : Option X) (t : List X) (e : X) → last_or o (t ++ e ∷ []) ≡ Some e
last_of_append o [] e = refl
last_of_append o (x ∷ t) e = last_of_append (Some x) t e

-- the results of `next_back` and `next`
pub last_taken : {A X : Type 0} (shows : A → X) (s t : List X) (r : Option A) → TakesLast shows s r t → option_map shows r ≡ last_or None s
last_taken shows s t None h = rw h.0 refl
last_taken shows s t (Some x) h = rw h (sym (last_of_append None t (shows x)))

pub first_taken : {A X : Type 0} (shows : A → X) (s t : List X) (r : Option A) → TakesFirst shows s r t → option_map shows r ≡ first_entry s
first_taken shows s t None h = rw h.0 refl
first_taken shows s t (Some x) h = rw h refl

-- the comparisons of a lookup, by rank
module _ (k z : ℤ) where
  above_is : is_gt (int_cmp k z) ≡ int_lt z k
  above_is = by_order k z
      (λ o p e. rw p (sym (grind (arith, ints)))) (λ o p e. rw p (sym (grind (arith, ints)))) (λ o p e. rw p (sym (grind (arith, ints))))

  not_above_is : not (is_le (int_cmp k z)) ≡ int_lt z k
  not_above_is = by_order k z
      (λ o p e. rw p (sym (grind (arith, ints)))) (λ o p e. rw p (sym (grind (arith, ints)))) (λ o p e. rw p (sym (grind (arith, ints))))

  not_past_is : not (is_lt (int_cmp k z)) ≡ int_le z k
  not_past_is = by_order k z
      (λ o p e. rw p (sym (grind (arith, ints)))) (λ o p e. rw p (sym (grind (arith, ints)))) (λ o p e. rw p (sym (grind (arith, ints))))

  up_to_is : is_le (int_cmp k z) ≡ int_le k z
  up_to_is = by_order k z
      (λ o p e. rw p (sym (grind (arith, ints)))) (λ o p e. rw p (sym (grind (arith, ints)))) (λ o p e. rw p (sym (grind (arith, ints))))

  up_to_and_is : is_le (int_cmp k z) && true ≡ int_le k z
  up_to_and_is = by_order k z
      (λ o p e. rw p (sym (grind (arith, ints)))) (λ o p e. rw p (sym (grind (arith, ints)))) (λ o p e. rw p (sym (grind (arith, ints))))

-- items that pass two tests
filter_both : {X : Type 0} (p q : X → Bool) (xs : List X) → filter (λ x. p x && q x) xs ≡ filter q (filter p xs)
filter_both p q [] = refl
filter_both p q (x ∷ xs) =
    elim (p x) as (λ b. cond (b && q x) (x ∷ filter (λ x. p x && q x) xs) (filter (λ x. p x && q x) xs) ≡ filter q (cond b (x ∷ filter p xs) (filter p xs))) [
      | true ↦ ap (λ l. cond (q x) (x ∷ l) l) (filter_both p q xs)
      | false ↦ filter_both p q xs
    ]

module _ {T V : Type 0} (rank : T → ℤ) where
  module _ (k : T) where
    pub as_entries_insert : (m : List (T × EndValue T V)) (s : EndValue T V) → shown_nodes rank (insert_entry (on rank int_cmp) m k s) ≡ with_entry (entry (rank k) (rank s.end) s.value) (shown_nodes rank m)
    as_entries_insert [] s = refl
    as_entries_insert (e ∷ m) s = both (int_cmp (rank k) (rank e.0)) (as_entries_insert m s)
      where
        both : (o : Ordering) → shown_nodes rank (insert_entry (on rank int_cmp) m k s) ≡ with_entry (entry (rank k) (rank s.end) s.value) (shown_nodes rank m)
            → shown_nodes rank (match_ordering o ((k, s) ∷ e ∷ m) ((e.0, s) ∷ m) (e ∷ insert_entry (on rank int_cmp) m k s))
            ≡ match_ordering o (entry (rank k) (rank s.end) s.value ∷ shown_nodes rank (e ∷ m)) (entry (rank e.0) (rank s.end) s.value ∷ shown_nodes rank m) (shown_node rank e ∷ with_entry (entry (rank k) (rank s.end) s.value) (shown_nodes rank m))
        both Less p = refl
        both Equal p = refl
        both Greater p = ap (λ t. shown_node rank e ∷ t) p

    pub as_entries_remove : (m : List (T × EndValue T V)) → shown_nodes rank (remove_entry (is_at (on rank int_cmp k)) m) ≡ without (rank k) (shown_nodes rank m)
    as_entries_remove [] = refl
    as_entries_remove (e ∷ m) = both (int_eq (rank k) (rank e.0)) (as_entries_remove m)
      where
        both : (t : Bool) → shown_nodes rank (remove_entry (is_at (on rank int_cmp k)) m) ≡ without (rank k) (shown_nodes rank m)
            → shown_nodes rank (cond t m (e ∷ remove_entry (is_at (on rank int_cmp k)) m)) ≡ cond t (shown_nodes rank m) (shown_node rank e ∷ without (rank k) (shown_nodes rank m))
        both true p = refl
        both false p = ap (λ t. shown_node rank e ∷ t) p

    pub as_entries_end : (z : T) (m : List (T × EndValue T V)) → shown_nodes rank (changed (is_at (on rank int_cmp k)) (λ s. record s { end = z }) m) ≡ with_end (rank k) (rank z) (shown_nodes rank m)
    as_entries_end z [] = refl
    as_entries_end z (e ∷ m) = both (int_eq (rank k) (rank e.0)) (as_entries_end z m)
      where
        both : (t : Bool) → shown_nodes rank (changed (is_at (on rank int_cmp k)) (λ s. record s { end = z }) m) ≡ with_end (rank k) (rank z) (shown_nodes rank m)
            → shown_nodes rank (cond t ((e.0, record e.1 { end = z }) ∷ m) (e ∷ changed (is_at (on rank int_cmp k)) (λ s. record s { end = z }) m)) ≡ cond t (entry (rank e.0) (rank z) e.1.value ∷ shown_nodes rank m) (shown_node rank e ∷ with_end (rank k) (rank z) (shown_nodes rank m))
        both true p = refl
        both false p = ap (λ t. shown_node rank e ∷ t) p

    pub as_entries_set : (z : T) (v : V) (m : List (T × EndValue T V)) → shown_nodes rank (changed (is_at (on rank int_cmp k)) (λ _. record { end = z; value = v }) m) ≡ with_end_value (rank k) (rank z) v (shown_nodes rank m)
    as_entries_set z v [] = refl
    as_entries_set z v (e ∷ m) = both (int_eq (rank k) (rank e.0)) (as_entries_set z v m)
      where
        both : (t : Bool) → shown_nodes rank (changed (is_at (on rank int_cmp k)) (λ _. record { end = z; value = v }) m) ≡ with_end_value (rank k) (rank z) v (shown_nodes rank m)
            → shown_nodes rank (cond t ((e.0, record { end = z; value = v }) ∷ m) (e ∷ changed (is_at (on rank int_cmp k)) (λ _. record { end = z; value = v }) m)) ≡ cond t (entry (rank e.0) (rank z) v ∷ shown_nodes rank m) (shown_node rank e ∷ with_end_value (rank k) (rank z) v (shown_nodes rank m))
        both true p = refl
        both false p = ap (λ t. shown_node rank e ∷ t) p

    pub as_entries_lookup : (m : List (T × EndValue T V)) → option_map (shown_node_at rank k) (lookup (is_at (on rank int_cmp k)) m) ≡ start_at (rank k) (shown_nodes rank m)
    as_entries_lookup [] = refl
    as_entries_lookup (e ∷ m) =
        let later = as_entries_lookup m in
        by_order (rank k) (rank e.0)
        (λ o p q. rw q later)
        (λ o p q. rw q (ap (λ z. Some (entry z (rank e.1.end) e.1.value)) o))
        (λ o p q. rw q later)

  as_entries_filter : (test : T → Bool) (keep : ℤ → Bool) → ((q : T) → test q ≡ keep (rank q)) → (m : List (T × EndValue T V)) → shown_nodes rank (filter (λ p. test p.0) m) ≡ filter (λ e. keep e.lo) (shown_nodes rank m)
  as_entries_filter test keep same [] = refl
  as_entries_filter test keep same (e ∷ m) = rw (same e.0) (both (keep (rank e.0)) (as_entries_filter test keep same m))
    where
      both : (t : Bool) → shown_nodes rank (filter (λ p. test p.0) m) ≡ filter (λ e. keep e.lo) (shown_nodes rank m)
          → shown_nodes rank (cond t (e ∷ filter (λ p. test p.0) m) (filter (λ p. test p.0) m)) ≡ cond t (shown_node rank e ∷ filter (λ e. keep e.lo) (shown_nodes rank m)) (filter (λ e. keep e.lo) (shown_nodes rank m))
      both true p = ap (λ t. shown_node rank e ∷ t) p
      both false p = p

  -- all nodes start up to the greatest key
  pub as_entries_all : (b high : ℤ) (m : List (T × EndValue T V)) → StartsAscend b high (shown_nodes rank m) → shown_nodes rank (entries_between (on rank int_cmp) Unbounded Unbounded m) ≡ below (high +ℤ pos 1) (shown_nodes rank m)
  as_entries_all b high [] h = refl
  as_entries_all b high (e ∷ m) h =
      let later = as_entries_all (rank e.0 +ℤ pos 1) high m h.2 in
      let is_below : int_lt (rank e.0) (high +ℤ pos 1) ≡ true = grind (arith, ints, h.1) in
      rw is_below (ap (λ t. shown_node rank e ∷ t) later)

  module _ (k : T) (m : List (T × EndValue T V)) where
    -- the nodes that start below a key
    pub as_entries_between : shown_nodes rank (entries_between (on rank int_cmp) Unbounded (Excluded k) m) ≡ below (rank k) (shown_nodes rank m)
    as_entries_between = as_entries_filter (λ q. not (is_le (int_cmp (rank k) (rank q)))) (λ z. int_lt z (rank k)) (λ q. not_above_is (rank k) (rank q)) m

    -- the nodes that start from a key on
    pub as_entries_at_or_above : shown_nodes rank (entries_between (on rank int_cmp) (Included k) Unbounded m) ≡ from (rank k) (shown_nodes rank m)
    as_entries_at_or_above = as_entries_filter (λ q. is_le (int_cmp (rank k) (rank q)) && true) (λ z. int_le (rank k) z) (λ q. up_to_and_is (rank k) (rank q)) m

    -- the nodes that start from a key on, up to another
    pub as_entries_from_up_to : (last : T) → shown_nodes rank (entries_between (on rank int_cmp) (Included k) (Included last) m) ≡ up_to (rank last) (from (rank k) (shown_nodes rank m))
    as_entries_from_up_to last =
        as_entries_filter (λ q. is_le (int_cmp (rank k) (rank q)) && not (is_lt (int_cmp (rank last) (rank q)))) (λ z. int_le (rank k) z && int_le z (rank last))
        (λ q. rw (up_to_is (rank k) (rank q)) (rw (not_past_is (rank last) (rank q)) refl)) m
        ∙ filter_both (λ e. int_le (rank k) e.lo) (λ e. int_le e.lo (rank last)) (shown_nodes rank m)

    -- the parts below a key and from it on
    pub as_entries_below : shown_nodes rank (entries_below (on rank int_cmp k) m) ≡ below (rank k) (shown_nodes rank m)
    as_entries_below = as_entries_filter (λ q. is_gt (int_cmp (rank k) (rank q))) (λ z. int_lt z (rank k)) (λ q. above_is (rank k) (rank q)) m

    pub as_entries_from : shown_nodes rank (entries_from (on rank int_cmp k) m) ≡ from (rank k) (shown_nodes rank m)
    as_entries_from = as_entries_filter (λ q. is_le (int_cmp (rank k) (rank q))) (λ z. int_le (rank k) z) (λ q. up_to_is (rank k) (rank q)) m

-- The last entry gets another end: the list is the one with a new entry at its start.
with_last : {V : Type 0} (h b high : ℤ) (x : Entry V) (xs : List (Entry V)) (e : Entry V) → StartsAscend b high (x ∷ xs) → slice_get (x ∷ xs) (length xs) ≡ Some e
    → (b ≤ℤ e.lo) × (with_entry (entry e.lo h e.value) (x ∷ xs) ≡ with_last_end h (x ∷ xs))
with_last {V} h b high x [] e s p =
    let same : x ≡ e = cc in
    subst (λ (f : Entry V). (b ≤ℤ f.lo) × (with_entry (entry f.lo h f.value) (x ∷ []) ≡ entry x.lo h x.value ∷ [])) same
    (s.0, by_order x.lo x.lo (λ o p q. absurd (omega (arith, ints))) (λ o p q. rw p refl) (λ o p q. absurd (omega (arith, ints))))
with_last h b high x (y ∷ ys) e s p =
    let later = with_last h (x.lo +ℤ pos 1) high y ys e s.2 p in
    let up = later.0 in (
      omega (arith, ints, s.0, up),
      by_order e.lo x.lo (λ o p q. absurd (omega (arith, ints))) (λ o p q. absurd (omega (arith, ints))) (λ o p q. rw p (ap (λ l. x ∷ l) later.1)),
    )

-- the last entry of a map gets another end by a write
pub last_end_written : {T V : Type 0} (rank : T → ℤ) (low high : ℤ) (m new : List (T × EndValue T V)) (k h : T) (v : EndValue T V) (written : EndValue T V → List (T × EndValue T V))
    → StartsAscend low high (shown_nodes rank m) → slice_get (keys_of m) (length m - 1) ≡ Some k → slice_get (values_of m) (length m - 1) ≡ Some v
    → ((w : EndValue T V) → written w ≡ insert_entry (on rank int_cmp) m k w) → new ≡ written (record v { end = h })
    → shown_nodes rank new ≡ with_last_end (rank h) (shown_nodes rank m)
last_end_written {T} {V} rank low high m new k h v written s p q u n =
    ap (shown_nodes rank) n ∙ ap (shown_nodes rank) (u (record v { end = h })) ∙ as_entries_insert rank k m (record v { end = h })
    ∙ by_list m s p q
  where
    both : (o : Option (T × EndValue T V)) → option_map (λ e. e.0) o ≡ Some k → option_map (λ e. e.1) o ≡ Some v → o ≡ Some (k, v)
    both None p q = cc
    both (Some e) p q =
        let first : e.0 ≡ k = cc in
        let second : e.1 ≡ v = cc in
        ap (λ x. Some (x, e.1)) first ∙ ap (λ y. Some (k, y)) second

    by_list : (es : List (T × EndValue T V)) → StartsAscend low high (shown_nodes rank es) → slice_get (keys_of es) (length es - 1) ≡ Some k → slice_get (values_of es) (length es - 1) ≡ Some v
        → with_entry (entry (rank k) (rank h) v.value) (shown_nodes rank es) ≡ with_last_end (rank h) (shown_nodes rank es)
    by_list [] s p q = absurd (cc)
    by_list (x ∷ es) s p q =
        let place : length (x ∷ es) - 1 ≡ length (shown_nodes rank es) = omega (arith, length-map es (shown_node rank)) in
        let found = both (slice_get (x ∷ es) (length (x ∷ es) - 1)) (sym (slice_get-map (λ e. e.0) (x ∷ es) (length (x ∷ es) - 1)) ∙ p) (sym (slice_get-map (λ e. e.1) (x ∷ es) (length (x ∷ es) - 1)) ∙ q) in
        (with_last (rank h) low high (shown_node rank x) (shown_nodes rank es) (shown_node rank (k, v)) s
        (ap (slice_get (shown_nodes rank (x ∷ es))) (sym place) ∙ slice_get-map (shown_node rank) (x ∷ es) (length (x ∷ es) - 1) ∙ ap (option_map (shown_node rank)) found)).1
