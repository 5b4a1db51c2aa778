-- The order of range maps is that of their pairs, and ties exactly where they have the same content.
use Rattle.range_map_blaze.proofs.Words.{◌≡◌, ℤ, Bool, true, false, cond, List, [], ◌∷◌, Option, Some, refl, ◌∙◌, sym, ap, Ordering, Less, Equal, Greater, int_cmp, int_eq, is_eq, ordering_then, Decides, IsEquivalence, Equal-is, signed_Decides, slice_cmp, ◌↔◌, same_along, IsRangeMap, Entry, SameContent, SameOption, same_entries, value_at, pairs_are_content, content_decides, ranked_pairs, pair_cmp, pairs_cmp, entry_cmp, map_cmp, equal_pairs_tie, equal_entries_tie}
use Rattle.range_map_blaze.proofs.Order.PairOrder.{both_Equal}

alone : (o p : Ordering) → (o ≡ Equal → p ≡ Equal) → o ≡ ordering_then o p
alone Less p h = refl
alone Equal p h = sym (h refl)
alone Greater p h = refl

module _ {V : Type 0} (eq : V → V → Bool) (value : V → V → Ordering) (ties : (x y : V) → eq x y ≡ is_eq (value x y)) where
  same_cond : (b c : Bool) → b ≡ c → (u v : V) → eq u v ≡ true → (x y : Option V) → SameOption eq x y → SameOption eq (cond b (Some u) x) (cond c (Some v) y)
  same_cond true true p u v h x y s = h
  same_cond true false p u v h x y s = absurd cc
  same_cond false true p u v h x y s = absurd cc
  same_cond false false p u v h x y s = s

  -- lists of pairs that tie have the same content
  values_tie : (ps qs : List (ℤ × V)) → slice_cmp (pair_cmp value) ps qs ≡ Equal → (k : ℤ) → SameOption eq (value_at (λ z. z) ps k) (value_at (λ z. z) qs k)
  values_tie [] [] h k = tt
  values_tie [] (q ∷ qs) h k = absurd cc
  values_tie (p ∷ ps) [] h k = absurd cc
  values_tie (p ∷ ps) (q ∷ qs) h k =
      let tie = both_Equal (pair_cmp value p q) (slice_cmp (pair_cmp value) ps qs) h in
      let here = both_Equal (int_cmp p.0 q.0) (value p.1 q.1) tie.0 in
      let key : p.0 ≡ q.0 = (signed_Decides p.0 q.0).0 (ap is_eq here.0) in
      same_cond (int_eq k p.0) (int_eq k q.0) (ap (λ j. int_eq k j) key) p.1 q.1 (ties p.1 q.1 ∙ ap is_eq here.1) (value_at (λ z. z) ps k) (value_at (λ z. z) qs k) (values_tie ps qs tie.1 k)

  module _ (laws : IsEquivalence eq) (low high : ℤ) (L M : List (Entry V)) (l : IsRangeMap eq low high L) (m : IsRangeMap eq low high M) where
    -- range maps whose pairs tie have the same content
    tied_content : pairs_cmp value L M ≡ Equal → SameContent eq L M
    tied_content h k =
        let left = pairs_are_content (λ z. z) (λ z. z) eq low high (λ z a b. refl) laws L l in
        let other = pairs_are_content (λ z. z) (λ z. z) eq low high (λ z a b. refl) laws M m in
        same_along eq (left.0.same k) (other.0.same k) (values_tie (ranked_pairs L) (ranked_pairs M) h k)

    equal_content : Decides (same_entries eq L M) (SameContent eq L M)
    equal_content = content_decides eq laws low high L M (same_entries eq L M) refl l m

    pub order_of_pairs : pairs_cmp value L M ≡ map_cmp value L M
    order_of_pairs =
        let entries = slice_cmp (entry_cmp value) L M in
        alone (pairs_cmp value L M) entries (λ h. (Equal-is entries).0 (sym (equal_entries_tie value eq ties L M) ∙ equal_content.1 (tied_content h)))

    pub ties_where_equal : (o : Ordering) → o ≡ pairs_cmp value L M → (o ≡ Equal) ↔ SameContent eq L M
    ties_where_equal o p = (λ h. tied_content (sym p ∙ h), λ s. p ∙ equal_pairs_tie value eq ties L M (equal_content.1 s))
