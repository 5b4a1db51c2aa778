-- A map's `retain` calls a closure at one node after another: which nodes and which entries remain.
use Rattle.blaze_entries.proofs.Words.{◌≡◌, ℤ, pos, ◌+ℤ◌, Bool, true, false, cond, List, [], ◌∷◌, ◌++◌, Option, Some, refl, ◌∙◌, sym, subst, ap, arith, ints, None, map, Bor, Mut, Called, FoldsTo, IsFiltered, items_where_true, RangeInclusive, CallableOnEachPair, RetainsPairs, SomeCallAtPair, IsShown, AnswersAt, SomeCallAt, IsCallableAtEach, TakesNode, AnswersAtNode, Entry, entry, StartsAscend, EndValue, shown_nodes, entries_of, node_before, full_node, AreFull, AreHeld}
use Rattle.blaze_entries.proofs.Ascending.{start_lower}
use Rattle.blaze_entries.proofs.Held.{are_held}

-- the calls of one test as calls of another test that represents it
module _ {F P K X : Type 0} (R : F → K → X → Bool → X → F → Type 0) (S : P → K → X → Bool → X → P → Type 0) (seen : F → P)
    (told : (f : F) (k : K) (v : X) (b : Bool) (w : X) (h : F) → R f k v b w h → S (seen f) k v b w (seen h)) where
  pub retains_seen : (f : F) (es kept : List (K × X)) → RetainsPairs R f es kept → RetainsPairs S (seen f) es kept
  retains_seen f [] kept r = r
  retains_seen f (e ∷ es) kept r = (r.0, r.1, seen r.2, r.3, told f e.0 e.1 r.0 r.1 r.2 r.4, retains_seen r.2 es r.3 r.5, r.6)

  folds_seen : (f h : F) (es : List (K × X)) → FoldsTo (SomeCallAtPair R) f es h → FoldsTo (SomeCallAtPair S) (seen f) es (seen h)
  folds_seen f h [] q = ap seen q
  folds_seen f h (e ∷ es) s = (seen s.0, (s.1.0, s.1.1, told f e.0 e.1 s.1.0 s.1.1 s.0 s.1.2), folds_seen s.0 h es s.2)

  pub callable_seen : (Q : F → K → X → Type 0) (U : P → K → X → Type 0) → ((f : F) (k : K) (v : X) → U (seen f) k v → Q f k v)
      → (f : F) (es : List (K × X)) → CallableOnEachPair S U (seen f) es → CallableOnEachPair R Q f es
  callable_seen Q U takes f es c = record {
    at = λ before after h k v q s. takes h k v (c.at before after (seen h) k v q (folds_seen f h before s));
  }

module _ {V : Type 0} where
  -- each node has a value
  abbrev AllFull : List (Entry (Option V)) → Type 0
  AllFull [] = Unit {0}
  AllFull (p ∷ ps) = (v : V) × (p.value ≡ Some v) × AllFull ps

  all_full : (ps : List (Entry (Option V))) (es : List (Entry V)) → ps ≡ map full_node es → AllFull ps
  all_full [] es q = tt
  all_full (p ∷ ps) [] q = cc
  all_full (p ∷ ps) (e ∷ es) q =
      let first : p ≡ full_node e = cc in
      let others : ps ≡ map full_node es = cc in
      (e.value, ap (λ (x : Entry (Option V)). x.value) first, all_full ps es others)

  before-append : (l h : ℤ) (o : Option V) (es fs : List (Entry V)) → node_before l h o (es ++ fs) ≡ node_before l h o es ++ fs
  before-append l h None es fs = refl
  before-append l h (Some v) es fs = refl

  -- a full node before full ones
  full_before : (l h : ℤ) (o : Option V) (v : V) (ps : List (Entry (Option V))) (es : List (Entry V)) → o ≡ Some v → ps ≡ map full_node es
      → entry l h o ∷ ps ≡ map full_node (node_before l h o es)
  full_before l h o v ps es q r =
      subst (λ (o : Option V). entry l h o ∷ ps ≡ map full_node (node_before l h o es)) (sym q) (ap (λ t. entry l h (Some v) ∷ t) r)

  -- a part of the list, in its order
  starts_of_part : (b high : ℤ) (bs : List Bool) (es : List (Entry V)) → StartsAscend b high es → StartsAscend b high (items_where_true bs es)
  starts_of_part b high [] es s = tt
  starts_of_part b high (c ∷ bs) [] s = tt
  starts_of_part b high (true ∷ bs) (e ∷ es) s = (s.0, s.1, starts_of_part (e.lo +ℤ pos 1) high bs es s.2)
  starts_of_part b high (false ∷ bs) (e ∷ es) s = start_lower (e.lo +ℤ pos 1) b high (items_where_true bs es) (omega (arith, ints, s.0)) (starts_of_part (e.lo +ℤ pos 1) high bs es s.2)

module _ {F T V : Type 0} {rank : T → ℤ} {g : Mut F (Bor (RangeInclusive T) × (Bor V × Unit {0})) Bool} where
  -- a call at an entry's range and value
  pub answers_at : {f h : F} {e : Entry V} {range : Bor (RangeInclusive T)} {value : Bor V} {r : Bool}
      → Called g f (range, (value, tt)) r h → IsShown rank g e range value → AnswersAt rank g f e r h
  answers_at c i = record { range = _; value = _; shown = i; called = c }

module _ {F T V : Type 0} (rank : T → ℤ) (g : Mut F (Bor (RangeInclusive T) × (Bor V × Unit {0})) Bool) where
  entries-append : (xs ys : List (T × EndValue T (Option V))) → entries_of rank (xs ++ ys) ≡ entries_of rank xs ++ entries_of rank ys
  entries-append [] ys = refl
  entries-append (x ∷ xs) ys =
      ap (node_before (rank x.0) (rank x.1.end) x.1.value) (entries-append xs ys)
      ∙ before-append (rank x.0) (rank x.1.end) x.1.value (entries_of rank xs) (entries_of rank ys)

  -- the entry of a full node, and the entries of the others
  entries-node : (k : T) (n : EndValue T (Option V)) (v : V) (ns : List (T × EndValue T (Option V))) → n.value ≡ Some v
      → entries_of rank ((k, n) ∷ ns) ≡ entry (rank k) (rank n.end) v ∷ entries_of rank ns
  entries-node k n v ns q = ap (λ o. node_before (rank k) (rank n.end) o (entries_of rank ns)) q

  folds_at_entries : (f h : F) (ns : List (T × EndValue T (Option V))) → FoldsTo (SomeCallAtPair (AnswersAtNode rank g)) f ns h
      → FoldsTo (SomeCallAt rank g) f (entries_of rank ns) h
  folds_at_entries f h [] q = q
  folds_at_entries f h (n ∷ ns) s =
      subst (λ l. FoldsTo (SomeCallAt rank g) f l h) (sym (entries-node n.0 n.1 s.1.2.value ns s.1.2.full))
      (s.0, (s.1.0, s.1.2.answers), folds_at_entries s.0 h ns s.2)

  value_at : (before after : List (T × EndValue T (Option V))) (k : T) (n : EndValue T (Option V))
      → AllFull (shown_nodes rank (before ++ (k, n) ∷ after)) → (v : V) × (n.value ≡ Some v)
  value_at [] after k n a = (a.0, a.1)
  value_at (b ∷ before) after k n a = value_at before after k n a.2

  -- a closure that may be called at the entries in turn may be called at their nodes
  pub callable_at_nodes : (f : F) (ns : List (T × EndValue T (Option V))) → AreFull (shown_nodes rank ns) → IsCallableAtEach rank g f (entries_of rank ns)
      → CallableOnEachPair (AnswersAtNode rank g) (TakesNode rank g) f ns
  callable_at_nodes f ns full c = record {
    at = λ before after h k n q s.
        let v = value_at before after k n (subst (λ l. AllFull (shown_nodes rank l)) q (all_full (shown_nodes rank ns) _ full.held)) in
        record {
          value = v.0;
          full = v.1;
          taken = c.at (entries_of rank before) (entries_of rank after) (entry (rank k) (rank n.end) v.0) h
              (ap (entries_of rank) q ∙ entries-append before ((k, n) ∷ after) ∙ ap (λ l. entries_of rank before ++ l) (entries-node k n v.0 after v.1))
              (folds_at_entries f h before s);
        };
  }

  -- the entries of the nodes that remain are the entries that remain
  pub filtered_at_nodes : (f : F) (ns new : List (T × EndValue T (Option V))) → RetainsPairs (AnswersAtNode rank g) f ns new
      → IsFiltered (AnswersAt rank g) f (entries_of rank ns) (entries_of rank new)
  filtered_at_nodes f [] new r = ([], f, refl, refl, ap (entries_of rank) r)
  filtered_at_nodes f (n ∷ ns) new r =
      let v = r.4.value in
      let e = entry (rank n.0) (rank n.1.end) v in
      let i = filtered_at_nodes r.2 ns r.3 r.5 in
      subst (λ l. IsFiltered (AnswersAt rank g) f l (entries_of rank new)) (sym (entries-node n.0 n.1 v ns r.4.full)) (
        r.0 ∷ i.0,
        i.1,
        omega (arith, i.2),
        (r.2, r.4.answers, i.3),
        ap (entries_of rank) r.6 ∙ chosen r.1 r.3 e i.0 (entries_of rank ns) r.0 (ap (λ m. entries_of rank ((n.0, m) ∷ r.3)) r.4.stays ∙ entries-node n.0 n.1 v r.3 r.4.full) i.4,
      )
    where
      chosen : (w : EndValue T (Option V)) (rest : List (T × EndValue T (Option V))) (e : Entry V) (bs : List Bool) (es : List (Entry V)) (b : Bool)
          → entries_of rank ((n.0, w) ∷ rest) ≡ e ∷ entries_of rank rest → entries_of rank rest ≡ items_where_true bs es
          → entries_of rank (cond b ((n.0, w) ∷ rest) rest) ≡ items_where_true (b ∷ bs) (e ∷ es)
      chosen w rest e bs es true p q = p ∙ ap (λ l. e ∷ l) q
      chosen w rest e bs es false p q = q

  -- the nodes are the nodes of entries
  abbrev AreShown : List (T × EndValue T (Option V)) → Type 0
  AreShown ns = shown_nodes rank ns ≡ map full_node (entries_of rank ns)

  full_nodes : (f : F) (ns new : List (T × EndValue T (Option V))) → RetainsPairs (AnswersAtNode rank g) f ns new → AreShown new
  full_nodes f [] new r = subst AreShown (sym r) refl
  full_nodes f (n ∷ ns) new r =
      let rest = full_nodes r.2 ns r.3 r.5 in
      let first = full_before (rank n.0) (rank r.1.end) r.1.value r.4.value (shown_nodes rank r.3) (entries_of rank r.3)
      (ap (λ (m : EndValue T (Option V)). m.value) r.4.stays ∙ r.4.full) rest in
      subst AreShown (sym r.6) (chosen r.1 r.3 r.0 first rest)
    where
      chosen : (w : EndValue T (Option V)) (rest : List (T × EndValue T (Option V))) (b : Bool) → AreShown ((n.0, w) ∷ rest) → AreShown rest → AreShown (cond b ((n.0, w) ∷ rest) rest)
      chosen w rest true p q = p
      chosen w rest false p q = q

  -- the nodes that remain are full, and their starts ascend
  pub held_nodes : (low high : ℤ) (f : F) (ns new : List (T × EndValue T (Option V))) → AreHeld low high (shown_nodes rank ns)
      → RetainsPairs (AnswersAtNode rank g) f ns new → AreHeld low high (shown_nodes rank new)
  held_nodes low high f ns new h r =
      let i = filtered_at_nodes f ns new r in
      are_held low high (shown_nodes rank new) (entries_of rank new) (full_nodes f ns new r)
      (subst (StartsAscend low high) (sym i.4) (starts_of_part low high i.0 (entries_of rank ns) h.ascend))
