-- The results of std's calls on full nodes, as results on the entries.
use Rattle.blaze_entries.proofs.Words.{◌≡◌, ℤ, pos, ◌+ℤ◌, List, [], ◌∷◌, ◌++◌, Option, Some, None, refl, ◌∙◌, sym, ap, map, MatchOption, IfSome, option_map, last_or, int_cmp, on, Less, Equal, Greater, remove_entry, insert_entry, is_at, entries_between, entries_below, entries_from, Included, Excluded, Unbounded, Bor, changed, Entry, entry, full_node, shown_nodes, shown_node_at, shown_borrowed_node, entries_of, AreHeld, below, from, up_to, with_entry, without, with_end, with_end_value, with_last_end, EndValue}
use Rattle.blaze_entries.proofs.Ascending.{by_order}
use Rattle.blaze_entries.proofs.Held.{edited_nodes, nodes_ascend, with_entry-held, without-held, with_end-held, with_end_value-held, with_last_end-held, below-held, from-held, up_to-held}
use Rattle.blaze_entries.proofs.NodeLists.{as_entries_insert, as_entries_remove, as_entries_end, as_entries_set, as_entries_below, as_entries_from, as_entries_between, as_entries_at_or_above, as_entries_from_up_to, as_entries_all, last_of_append}

module _ {T V : Type 0} (rank : T → ℤ) (low high : ℤ) (m n : List (T × EndValue T (Option V))) (h : AreHeld low high (shown_nodes rank m)) where
  -- the nodes are the nodes of the entries
  abbrev AreThose : List (Entry V) → Type 0
  AreThose es = shown_nodes rank n ≡ map full_node es

  pub inserted : (k z : T) (v : V) → n ≡ insert_entry (on rank int_cmp) m k (record { end = z; value = Some v }) → AreThose (with_entry (entry (rank k) (rank z) v) (entries_of rank m))
  inserted k z v q =
      edited_nodes low high (with_entry (entry (rank k) (rank z) (Some v))) _ _ _ h (ap (shown_nodes rank) q ∙ as_entries_insert rank k m (record { end = z; value = Some v }))
      (with_entry-held (entry (rank k) (rank z) v) (entries_of rank m))

  pub removed : (k : T) → n ≡ remove_entry (is_at (on rank int_cmp k)) m → AreThose (without (rank k) (entries_of rank m))
  removed k q = edited_nodes low high (without (rank k)) _ _ _ h (ap (shown_nodes rank) q ∙ as_entries_remove rank k m) (without-held (rank k) (entries_of rank m))

  pub end_set : (k z : T) → n ≡ changed (is_at (on rank int_cmp k)) (λ s. record s { end = z }) m → AreThose (with_end (rank k) (rank z) (entries_of rank m))
  end_set k z q = edited_nodes low high (with_end (rank k) (rank z)) _ _ _ h (ap (shown_nodes rank) q ∙ as_entries_end rank k z m) (with_end-held (rank k) (rank z) (entries_of rank m))

  pub last_end_set : (z : ℤ) → shown_nodes rank n ≡ with_last_end z (shown_nodes rank m) → AreThose (with_last_end z (entries_of rank m))
  last_end_set z q = edited_nodes low high (with_last_end z) _ _ _ h q (with_last_end-held z (entries_of rank m))

  pub replaced : (k z : T) (v : V) → n ≡ changed (is_at (on rank int_cmp k)) (λ _. record { end = z; value = Some v }) m → AreThose (with_end_value (rank k) (rank z) v (entries_of rank m))
  replaced k z v q =
      edited_nodes low high (with_end_value (rank k) (rank z) (Some v)) _ _ _ h (ap (shown_nodes rank) q ∙ as_entries_set rank k z (Some v) m)
      (with_end_value-held (rank k) (rank z) v (entries_of rank m))

  pub split_below : (k : T) → n ≡ entries_below (on rank int_cmp k) m → AreThose (below (rank k) (entries_of rank m))
  split_below k q = edited_nodes low high (below (rank k)) _ _ _ h (ap (shown_nodes rank) q ∙ as_entries_below rank k m) (below-held (rank k) (entries_of rank m))

  pub split_from : (k : T) → n ≡ entries_from (on rank int_cmp k) m → AreThose (from (rank k) (entries_of rank m))
  split_from k q = edited_nodes low high (from (rank k)) _ _ _ h (ap (shown_nodes rank) q ∙ as_entries_from rank k m) (from-held (rank k) (entries_of rank m))

  -- the nodes that a range of the map yields
  module _ (k : T) where
    pub ranged_below : n ≡ entries_between (on rank int_cmp) Unbounded (Excluded k) m → AreThose (below (rank k) (entries_of rank m))
    ranged_below q = edited_nodes low high (below (rank k)) _ _ _ h (ap (shown_nodes rank) q ∙ as_entries_between rank k m) (below-held (rank k) (entries_of rank m))

    pub ranged_from : n ≡ entries_between (on rank int_cmp) (Included k) Unbounded m → AreThose (from (rank k) (entries_of rank m))
    ranged_from q = edited_nodes low high (from (rank k)) _ _ _ h (ap (shown_nodes rank) q ∙ as_entries_at_or_above rank k m) (from-held (rank k) (entries_of rank m))

    pub ranged_between : (z : T) → n ≡ entries_between (on rank int_cmp) (Included k) (Included z) m → AreThose (up_to (rank z) (from (rank k) (entries_of rank m)))
    ranged_between z q =
        edited_nodes low high (λ l. up_to (rank z) (from (rank k) l)) _ _ _ h (ap (shown_nodes rank) q ∙ as_entries_from_up_to rank k m z)
        (ap (up_to (rank z)) (from-held (rank k) (entries_of rank m)) ∙ up_to-held (rank z) (from (rank k) (entries_of rank m)))

  pub ranged_all : n ≡ entries_between (on rank int_cmp) Unbounded Unbounded m → AreThose (below (high +ℤ pos 1) (entries_of rank m))
  ranged_all q =
      edited_nodes low high (below (high +ℤ pos 1)) _ _ _ h (ap (shown_nodes rank) q ∙ as_entries_all rank low high m (nodes_ascend low high _ h))
      (below-held (high +ℤ pos 1) (entries_of rank m))

-- the last item of a list, as `next_back` yields it
pub last_yielded : {A X : Type 0} (view : A → X) (s t : List X) (r : Option A) → MatchOption r ((s ≡ []) × (t ≡ [])) (λ x. s ≡ t ++ view x ∷ []) → option_map view r ≡ last_or None s
last_yielded view s t None h = rw h.0 refl
last_yielded view s t (Some x) h = rw h (sym (last_of_append None t (view x)))

-- a node that a lookup by its key returned
pub borrowed_at : {T V : Type 0} (rank : T → ℤ) (k : T) (r : Option (Bor T × Bor (EndValue T V))) (o : Option (EndValue T V))
    → option_map (λ p. p.1.now) r ≡ o → IfSome r (λ p. on rank int_cmp k p.0.now ≡ Equal) → option_map (shown_borrowed_node rank) r ≡ option_map (shown_node_at rank k) o
borrowed_at rank k None o q e = ap (option_map (shown_node_at rank k)) q
borrowed_at rank k (Some p) o q e =
    let same : rank p.0.now ≡ rank k = equal_says (rank k) (rank p.0.now) e in
    ap (λ z. Some (entry z (rank p.1.now.end) p.1.now.value)) same ∙ ap (option_map (shown_node_at rank k)) q
  where
    equal_says : (a b : ℤ) → int_cmp a b ≡ Equal → b ≡ a
    equal_says a b h = by_order a b
        (λ o p q. let no : Less ≡ Equal = sym p ∙ h in cc)
        (λ o p q. sym o)
        (λ o p q. let no : Greater ≡ Equal = sym p ∙ h in cc)
