-- Entries as full nodes: lookups and edits of the nodes are lookups and edits of the entries.
use Rattle.blaze_entries.proofs.Words.{◌≡◌, ℤ, pos, ◌+ℤ◌, Bool, true, false, cond, List, [], ◌∷◌, Option, Some, None, refl, ◌∙◌, sym, subst, ap, map, int_lt, int_le, IsSome, int_cmp, int_eq, match_ordering, Less, Equal, Greater, filter, last_or, option_map, Entry, entry, StartsAscend, below, from, up_to, first_entry, last_below, first_from, start_at, with_entry, without, with_end, with_end_value, with_last_end, IsStartMoved, IsFrontReplaced, full_node, full, AreFull, AreHeld}

module _ {V : Type 0} where
  pub full-held : (es : List (Entry V)) → full (map full_node es) ≡ es
  full-held [] = refl
  full-held (e ∷ es) = ap (λ l. e ∷ l) (full-held es)

  pub starts_of_held : (b high : ℤ) (es : List (Entry V)) → StartsAscend b high es → StartsAscend b high (map full_node es)
  starts_of_held b high [] h = tt
  starts_of_held b high (e ∷ es) h = (h.0, h.1, starts_of_held (e.lo +ℤ pos 1) high es h.2)

  -- the nodes of entries whose starts ascend
  pub are_held : (low high : ℤ) (ps : List (Entry (Option V))) (es : List (Entry V)) → ps ≡ map full_node es → StartsAscend low high es → AreHeld low high ps
  are_held low high ps es q s =
      subst (AreHeld low high) (sym q)
      (record {
        ascend = subst (StartsAscend low high) (sym (full-held es)) s;
        full = record { held = ap (map full_node) (sym (full-held es)) };
      })

  -- the starts of the nodes ascend
  pub nodes_ascend : (low high : ℤ) (ps : List (Entry (Option V))) → AreHeld low high ps → StartsAscend low high ps
  nodes_ascend low high ps h = subst (StartsAscend low high) (sym h.full.held) (starts_of_held low high (full ps) h.ascend)

  filter-held : (test : ℤ → Bool) (es : List (Entry V)) → filter (λ p. test p.lo) (map full_node es) ≡ map full_node (filter (λ e. test e.lo) es)
  filter-held test [] = refl
  filter-held test (e ∷ es) =
      elim (test e.lo) as (λ b. cond b (full_node e ∷ filter (λ p. test p.lo) (map full_node es)) (filter (λ p. test p.lo) (map full_node es))
      ≡ map full_node (cond b (e ∷ filter (λ e. test e.lo) es) (filter (λ e. test e.lo) es))) [
        | true ↦ ap (λ l. full_node e ∷ l) (filter-held test es)
        | false ↦ filter-held test es
      ]

  pub below-held : (k : ℤ) (es : List (Entry V)) → below k (map full_node es) ≡ map full_node (below k es)
  below-held k es = filter-held (λ z. int_lt z k) es

  pub from-held : (k : ℤ) (es : List (Entry V)) → from k (map full_node es) ≡ map full_node (from k es)
  from-held k es = filter-held (λ z. int_le k z) es

  pub up_to-held : (k : ℤ) (es : List (Entry V)) → up_to k (map full_node es) ≡ map full_node (up_to k es)
  up_to-held k es = filter-held (λ z. int_le z k) es

  last-held : (o : Option (Entry V)) (es : List (Entry V)) → last_or (option_map full_node o) (map full_node es) ≡ option_map full_node (last_or o es)
  last-held o [] = refl
  last-held o (e ∷ es) = last-held (Some e) es

  pub last_below-held : (k : ℤ) (es : List (Entry V)) → last_below k (map full_node es) ≡ option_map full_node (last_below k es)
  last_below-held k es = ap (last_or None) (below-held k es) ∙ last-held None (below k es)

  pub first_entry-held : (es : List (Entry V)) → first_entry (map full_node es) ≡ option_map full_node (first_entry es)
  first_entry-held [] = refl
  first_entry-held (e ∷ es) = refl

  pub first_from-held : (k : ℤ) (es : List (Entry V)) → first_from k (map full_node es) ≡ option_map full_node (first_from k es)
  first_from-held k es = ap first_entry (from-held k es) ∙ first_entry-held (from k es)

  pub start_at-held : (k : ℤ) (es : List (Entry V)) → start_at k (map full_node es) ≡ option_map full_node (start_at k es)
  start_at-held k [] = refl
  start_at-held k (e ∷ es) =
      elim (int_eq k e.lo) as (λ b. cond b (Some (full_node e)) (start_at k (map full_node es)) ≡ option_map full_node (cond b (Some e) (start_at k es))) [
        | true ↦ refl
        | false ↦ start_at-held k es
      ]

  pub with_entry-held : (e : Entry V) (es : List (Entry V)) → with_entry (full_node e) (map full_node es) ≡ map full_node (with_entry e es)
  with_entry-held e [] = refl
  with_entry-held e (f ∷ fs) =
      elim (int_cmp e.lo f.lo) as (λ o. match_ordering o (full_node e ∷ full_node f ∷ map full_node fs) (full_node (entry f.lo e.hi e.value) ∷ map full_node fs) (full_node f ∷ with_entry (full_node e) (map full_node fs))
      ≡ map full_node (match_ordering o (e ∷ f ∷ fs) (entry f.lo e.hi e.value ∷ fs) (f ∷ with_entry e fs))) [
        | Less ↦ refl
        | Equal ↦ refl
        | Greater ↦ ap (λ l. full_node f ∷ l) (with_entry-held e fs)
      ]

  pub without-held : (k : ℤ) (es : List (Entry V)) → without k (map full_node es) ≡ map full_node (without k es)
  without-held k [] = refl
  without-held k (e ∷ es) =
      elim (int_eq k e.lo) as (λ b. cond b (map full_node es) (full_node e ∷ without k (map full_node es)) ≡ map full_node (cond b es (e ∷ without k es))) [
        | true ↦ refl
        | false ↦ ap (λ l. full_node e ∷ l) (without-held k es)
      ]

  pub with_end-held : (k h : ℤ) (es : List (Entry V)) → with_end k h (map full_node es) ≡ map full_node (with_end k h es)
  with_end-held k h [] = refl
  with_end-held k h (e ∷ es) =
      elim (int_eq k e.lo) as (λ b. cond b (full_node (entry e.lo h e.value) ∷ map full_node es) (full_node e ∷ with_end k h (map full_node es)) ≡ map full_node (cond b (entry e.lo h e.value ∷ es) (e ∷ with_end k h es))) [
        | true ↦ refl
        | false ↦ ap (λ l. full_node e ∷ l) (with_end-held k h es)
      ]

  pub with_last_end-held : (h : ℤ) (es : List (Entry V)) → with_last_end h (map full_node es) ≡ map full_node (with_last_end h es)
  with_last_end-held h [] = refl
  with_last_end-held h (e ∷ []) = refl
  with_last_end-held h (e ∷ f ∷ es) = ap (λ l. full_node e ∷ l) (with_last_end-held h (f ∷ es))

  pub with_end_value-held : (k h : ℤ) (v : V) (es : List (Entry V)) → with_end_value k h (Some v) (map full_node es) ≡ map full_node (with_end_value k h v es)
  with_end_value-held k h v [] = refl
  with_end_value-held k h v (e ∷ es) =
      elim (int_eq k e.lo) as (λ b. cond b (full_node (entry e.lo h v) ∷ map full_node es) (full_node e ∷ with_end_value k h (Some v) (map full_node es)) ≡ map full_node (cond b (entry e.lo h v ∷ es) (e ∷ with_end_value k h v es))) [
        | true ↦ refl
        | false ↦ ap (λ l. full_node e ∷ l) (with_end_value-held k h v es)
      ]

  -- a node that a lookup returns is the node of an entry
  pub record IsHeld (p : Entry (Option V)) (o : Option (Entry V)) : Type 0 where
    pub of : Entry V
    pub found : o ≡ Some of
    pub is : p ≡ full_node of

  pub is_held : (p : Entry (Option V)) (o : Option (Entry V)) → option_map full_node o ≡ Some p → IsHeld p o
  is_held p None q = cc
  is_held p (Some e) q = record { of = e; found = refl; is = sym (some_is q) }
    where
      some_is : Some (full_node e) ≡ Some p → full_node e ≡ p
      some_is r = cc

  pub some_held : (o : Option (Entry V)) → IsSome o → IsSome (option_map full_node o)
  some_held None h = cc
  some_held (Some e) h = refl

  pub none_held : (o : Option (Entry V)) → o ≡ None → option_map full_node o ≡ None
  none_held o q = ap (option_map full_node) q

  -- an entry gets another start
  pub start_moved-held : (k s : ℤ) (es : List (Entry V)) (ps : List (Entry (Option V))) → IsStartMoved k s (map full_node es) ps → (new : List (Entry V)) × (ps ≡ map full_node new) × IsStartMoved k s es new
  start_moved-held k s es ps m =
      let h = is_held m.of (start_at k es) (sym (start_at-held k es) ∙ m.found) in
      let new = with_entry (entry s h.of.hi h.of.value) (without k es) in (
        new,
        m.moved ∙ ap (λ (p : Entry (Option V)). with_entry (entry s p.hi p.value) (without k (map full_node es))) h.is
            ∙ ap (with_entry (entry s h.of.hi (Some h.of.value))) (without-held k es) ∙ with_entry-held (entry s h.of.hi h.of.value) (without k es),
        record { of = h.of; found = h.found; moved = refl },
      )

  pub front_replaced-held : (k z : ℤ) (v : V) (s : ℤ) (es : List (Entry V)) (ps : List (Entry (Option V))) → IsFrontReplaced k z (Some v) s (map full_node es) ps → (new : List (Entry V)) × (ps ≡ map full_node new) × IsFrontReplaced k z v s es new
  front_replaced-held k z v s es ps m =
      let h = is_held m.of (start_at k es) (sym (start_at-held k es) ∙ m.found) in
      let new = with_entry (entry s h.of.hi h.of.value) (with_end_value k z v es) in (
        new,
        m.replaced ∙ ap (λ (p : Entry (Option V)). with_entry (entry s p.hi p.value) (with_end_value k z (Some v) (map full_node es))) h.is
            ∙ ap (with_entry (entry s h.of.hi (Some h.of.value))) (with_end_value-held k z v es) ∙ with_entry-held (entry s h.of.hi h.of.value) (with_end_value k z v es),
        record { of = h.of; found = h.found; replaced = refl },
      )

  -- the nodes after an edit
  pub edited_nodes : (low high : ℤ) (f : List (Entry (Option V)) → List (Entry (Option V))) (ps ns : List (Entry (Option V))) (es : List (Entry V))
      → AreHeld low high ps → ns ≡ f ps → f (map full_node (full ps)) ≡ map full_node es → ns ≡ map full_node es
  edited_nodes low high f ps ns es h q c = q ∙ ap f h.full.held ∙ c

  pub full_of : (ns : List (Entry (Option V))) (es : List (Entry V)) → ns ≡ map full_node es → full ns ≡ es
  full_of ns es q = ap full q ∙ full-held es

  -- a node that gets another start, as an entry that gets another start
  pub start_moved_full : (low high k s : ℤ) (ps ns : List (Entry (Option V))) → AreHeld low high ps → IsStartMoved k s ps ns → IsStartMoved k s (full ps) (full ns) × (ns ≡ map full_node (full ns))
  start_moved_full low high k s ps ns h m =
      let r = start_moved-held k s (full ps) ns (subst (λ (x : List (Entry (Option V))). IsStartMoved k s x ns) h.full.held m) in
      let q : full ns ≡ r.0 = full_of ns r.0 r.1 in
      (subst (IsStartMoved k s (full ps)) (sym q) r.2, r.1 ∙ ap (map full_node) (sym q))

  pub front_replaced_full : (low high k z : ℤ) (v : V) (s : ℤ) (ps ns : List (Entry (Option V))) → AreHeld low high ps → IsFrontReplaced k z (Some v) s ps ns → IsFrontReplaced k z v s (full ps) (full ns) × (ns ≡ map full_node (full ns))
  front_replaced_full low high k z v s ps ns h m =
      let r = front_replaced-held k z v s (full ps) ns (subst (λ (x : List (Entry (Option V))). IsFrontReplaced k z (Some v) s x ns) h.full.held m) in
      let q : full ns ≡ r.0 = full_of ns r.0 r.1 in
      (subst (IsFrontReplaced k z v s (full ps)) (sym q) r.2, r.1 ∙ ap (map full_node) (sym q))

  -- the nodes of entries are full
  pub full_held : (ps : List (Entry (Option V))) (es : List (Entry V)) → ps ≡ map full_node es → AreFull ps
  full_held ps es q = record { held = q ∙ ap (map full_node) (sym (full_of ps es q)) }
