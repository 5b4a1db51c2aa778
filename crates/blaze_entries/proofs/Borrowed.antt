-- Borrowed nodes that a lookup returned, among full nodes.
use Rattle.blaze_entries.proofs.Words.{◌≡◌, ℕ, ◌-◌, ◌<◌, length, ℤ, pos, ◌+ℤ◌, true, false, cond, List, [], ◌∷◌, Option, Some, None, Result, Ok, Err, refl, ◌∙◌, sym, subst, ap, arith, IsSome, IfSome, OnErr, int_lt, ◌↔◌, option_map, option_copied, slice_get, length-map, slice_get-map, Bor, Entry, entry, full_node, full, AreHeld, shown_node, shown_node_at, shown_borrowed_node, shown_nodes, last_below, entry_reaching, holder_of, first_from, start_at, with_entry, IsCloneInserted, EndValue}
use Rattle.blaze_entries.proofs.Held.{last_below-held, first_from-held, start_at-held, none_held, some_held}

module _ {T V : Type 0} (rank : T → ℤ) where
  is_full : (p : Entry (Option V)) (e : Entry V) → p ≡ full_node e → IsSome p.value
  is_full p e q = subst (λ (x : Entry (Option V)). IsSome x.value) (sym q) refl

  -- the node of an entry has a value
  pub full_borrowed : (r : Option (Bor T × Bor (EndValue T (Option V)))) (o : Option (Entry V)) → option_map (shown_borrowed_node rank) r ≡ option_map full_node o → IfSome r (λ p. IsSome p.1.now.value)
  full_borrowed None o q = tt
  full_borrowed (Some p) None q = cc
  full_borrowed (Some p) (Some e) q = let s : shown_borrowed_node rank p ≡ full_node e = cc in is_full (shown_borrowed_node rank p) e s

  -- the node at a start
  module _ (k : T) (r : Option (EndValue T (Option V))) (o : Option (Entry V)) (q : option_map (shown_node_at rank k) r ≡ option_map full_node o) where
    pub some_taken : IsSome o → IsSome r
    some_taken i = by_cases r o q i
      where
        by_cases : (r : Option (EndValue T (Option V))) (o : Option (Entry V)) → option_map (shown_node_at rank k) r ≡ option_map full_node o → IsSome o → IsSome r
        by_cases None None q i = i
        by_cases None (Some e) q i = cc
        by_cases (Some n) o q i = refl

    pub full_taken : IfSome r (λ n. IsSome n.value)
    full_taken = by_cases r o q
      where
        by_cases : (r : Option (EndValue T (Option V))) (o : Option (Entry V)) → option_map (shown_node_at rank k) r ≡ option_map full_node o → IfSome r (λ n. IsSome n.value)
        by_cases None o q = tt
        by_cases (Some n) None q = cc
        by_cases (Some n) (Some e) q = let s : shown_node_at rank k n ≡ full_node e = cc in is_full (shown_node_at rank k n) e s

    pub value_taken : (v : V) → option_map (λ n. n.value) r ≡ Some (Some v) → option_map (λ e. e.value) o ≡ Some v
    value_taken v t = by_cases r o q t
      where
        by_cases : (r : Option (EndValue T (Option V))) (o : Option (Entry V)) → option_map (shown_node_at rank k) r ≡ option_map full_node o → option_map (λ n. n.value) r ≡ Some (Some v) → option_map (λ e. e.value) o ≡ Some v
        by_cases None o q t = cc
        by_cases (Some n) None q t = cc
        by_cases (Some n) (Some e) q t =
            let s : shown_node_at rank k n ≡ full_node e = cc in
            let w : n.value ≡ Some e.value = ap (λ (x : Entry (Option V)). x.value) s in
            cc

module _ {V : Type 0} (low high k : ℤ) (ps : List (Entry (Option V))) (h : AreHeld low high ps) where
  pub found_below : last_below k ps ≡ option_map full_node (last_below k (full ps))
  found_below = ap (last_below k) h.full.held ∙ last_below-held k (full ps)

  pub found_from : first_from k ps ≡ option_map full_node (first_from k (full ps))
  found_from = ap (first_from k) h.full.held ∙ first_from-held k (full ps)

  pub found_at : start_at k ps ≡ option_map full_node (start_at k (full ps))
  found_at = ap (start_at k) h.full.held ∙ start_at-held k (full ps)

  pub absent_at : start_at k (full ps) ≡ None → start_at k ps ≡ None
  absent_at n = found_at ∙ none_held (start_at k (full ps)) n

  pub present_at : IsSome (start_at k (full ps)) → IsSome (start_at k ps)
  present_at i = subst (λ o. IsSome o) (sym found_at) (some_held (start_at k (full ps)) i)

pub no_value : (X : Type 0) → IsSome {T = X} None → ⊥
no_value X j = cc

-- a node by its position in the list
pub node_at_index : {T V : Type 0} (rank : T → ℤ) (m : List (T × EndValue T (Option V))) (i : ℕ) (r : Option (Bor T × Bor (EndValue T (Option V))))
    → IfSome r (λ p. slice_get m i ≡ Some (p.0.now, p.1.now)) → IsSome r ↔ (0 < length m) → (low high : ℤ) → (h : AreHeld low high (shown_nodes rank m))
    → option_map (shown_borrowed_node rank) r ≡ option_map full_node (slice_get (full (shown_nodes rank m)) i)
node_at_index {T} {V} rank m i r f v low high h =
    shown m r f v ∙ ap (λ (ps : List (Entry (Option V))). slice_get ps i) h.full.held ∙ slice_get-map full_node (full (shown_nodes rank m)) i
  where
    shown : (m : List (T × EndValue T (Option V))) (r : Option (Bor T × Bor (EndValue T (Option V))))
        → IfSome r (λ p. slice_get m i ≡ Some (p.0.now, p.1.now)) → IsSome r ↔ (0 < length m) → option_map (shown_borrowed_node rank) r ≡ slice_get (shown_nodes rank m) i
    shown m (Some p) f v = sym (slice_get-map (shown_node rank) m i ∙ ap (option_map (shown_node rank)) f)
    shown [] None f v = refl
    shown (e ∷ m) None f v = absurd (no_value (Bor T × Bor (EndValue T (Option V))) (v.1 (omega arith)))

-- the last node
pub last_node : {T V : Type 0} (rank : T → ℤ) (m : List (T × EndValue T (Option V))) (r : Option (Bor T × Bor (EndValue T (Option V))))
    → IfSome r (λ p. slice_get m (length m - 1) ≡ Some (p.0.now, p.1.now)) → IsSome r ↔ (0 < length m) → (low high : ℤ) → (h : AreHeld low high (shown_nodes rank m))
    → option_map (shown_borrowed_node rank) r ≡ option_map full_node (slice_get (full (shown_nodes rank m)) (length (full (shown_nodes rank m)) - 1))
last_node rank m r f v low high h =
    let size : length m ≡ length (full (shown_nodes rank m)) = sym (length-map m (shown_node rank)) ∙ ap length h.full.held ∙ length-map (full (shown_nodes rank m)) full_node in
    node_at_index rank m (length m - 1) r f v low high h ∙ ap (λ n. option_map full_node (slice_get (full (shown_nodes rank m)) (n - 1))) size
