-- What a closure answered so far at the segments of many lists, and one answer more.
use Rattle.range_map_multi.proofs.Words.{◌≡◌, ℕ, suc, ◌<◌, ℤ, ◌≤ℤ◌, Bool, true, false, cond, List, [], ◌∷◌, length, Option, Some, None, refl, ◌∙◌, sym, ap, subst, arith, is_some, list_any, Mut, IsEquivalence, ints, Entry, entry, glue, at_in, canonical, one_per_run, AnswersAtValue, TakesValue, AllCanonical, first_keys, all_after, IsNextSegment, row, row_eq, IsAnsweredSoFar, answered_none, takes_next, answered_more, answered_all, next_less, all_lengths_left, all_canonical_after, is_first, IsJoinOfMany, IsCallableAtRows, IsManyJoined, AllPlaced, AllRangeMaps, values_at_positions, row_length}
use Rattle.range_map_multi.proofs.Placed.{alike, with_row, next_alike}
use Rattle.range_map_multi.proofs.RowSegments.{entries_where, AreSegments, AllKeys, next_is, none_is, segments_exist, rows_equiv, asked_segments}

module _ {V : Type 0} (eq : V → V → Bool) (laws : IsEquivalence eq) (low high : ℤ) where
  all_canonical : (Ls : List (List (Entry V))) → AllRangeMaps eq low high Ls → AllCanonical eq Ls
  all_canonical [] m = tt
  all_canonical (L ∷ Ls) m = (canonical eq laws L m.0.runs, all_canonical Ls m.1)

  all_keys : (Ls : List (List (Entry V))) → AllRangeMaps eq low high Ls → AllKeys low high Ls
  all_keys [] m = tt
  all_keys (L ∷ Ls) m = (m.0.keys, all_keys Ls m.1)

module _ {F X W V : Type 0} (shows : X → List (Option V)) (g : Mut F X W) (eqv : V → V → Bool) (eq : W → W → Bool) (low high : ℤ) (asks : List (Option V) → Bool) (f : F) where
  module _ (vss : List (List V)) (lists : List (List (Entry V))) where
    -- the closure was asked at the segments before those that are left, and the list has its answers
    pub record IsAskedSoFar (Ns : List (List (Entry ℕ))) (f' : F) (out : List (Entry W)) : Type 0 where
      pub all : List (Entry (List (Option V)))
      pub are : IsJoinOfMany eqv low high asks lists all
      pub left : List (List (Entry V))
      pub placed : AllPlaced vss Ns left
      pub canonical : AllCanonical eqv left
      pub next : List (Entry (List (Option V)))
      pub nexts : AreSegments left next
      pub so_far : IsAnsweredSoFar shows g (row_eq eqv) eq low high f all (entries_where asks next) f' out

    pub asked_none : (laws : IsEquivalence eqv) (Ns : List (List (Entry ℕ))) → AllPlaced vss Ns lists → AllRangeMaps eqv low high lists
        → ((k : ℤ) → asks (row lists k) ≡ true → list_any is_some (row lists k) ≡ true) → IsAskedSoFar Ns f []
    asked_none laws Ns p m h =
        let c = all_canonical eqv laws low high lists m in
        let s = segments_exist eqv (suc (all_lengths_left lists)) lists c (omega arith) in
        let are = asked_segments eqv laws low high asks lists s.0 c (all_keys eqv laws low high lists m) s.1 h in
        record {
          all = entries_where asks s.0;
          are = are;
          left = lists;
          placed = p;
          canonical = c;
          next = s.0;
          nexts = s.1;
          so_far = answered_none shows g (row_eq eqv) eq low high f (entries_where asks s.0) (rows_equiv eqv laws) are.range_map;
        }

    -- with no segment left, all are answered
    pub asked_all : (laws : IsEquivalence eq) (Ns : List (List (Entry ℕ))) (f' : F) (out : List (Entry W)) → IsAskedSoFar Ns f' out → first_keys Ns ≡ None → IsManyJoined shows g eqv low high asks eq f lists out
    asked_all laws Ns f' out h e =
        let none = none_is h.left h.next h.nexts ((alike vss Ns h.left h.placed).firsts ∙ e) in
        record {
          segments = h.all;
          are_segments = h.are;
          answered = answered_all shows g (row_eq eqv) eq low high f h.all laws (entries_where asks h.next) f' out h.so_far (ap (entries_where asks) none);
        }

    module _ (Ns Ns' : List (List (Entry ℕ))) (f' : F) (out : List (Entry W)) (p : Entry (List (Option ℕ))) (h : IsAskedSoFar Ns f' out) (n : IsNextSegment Ns p Ns') where
      next_left : IsNextSegment h.left (with_row vss p) (all_after p.hi h.left)
      next_left = next_alike vss Ns Ns' h.left p h.placed n

      placed_left : AllPlaced vss Ns' (all_after p.hi h.left)
      placed_left = subst (λ l. AllPlaced vss l (all_after p.hi h.left)) (sym n.left) ((alike vss Ns h.left h.placed).next p.hi)

      others : (rest : List (Entry (List (Option V)))) × ((h.next ≡ with_row vss p ∷ rest) × AreSegments (all_after p.hi h.left) rest)
      others = next_is h.left (with_row vss p) h.next h.nexts next_left

      here : asks (values_at_positions vss p.value) ≡ true → entries_where asks h.next ≡ with_row vss p ∷ entries_where asks others.0
      here t = ap (entries_where asks) others.1.0 ∙ ap (λ b. cond b (with_row vss p ∷ entries_where asks others.0) (entries_where asks others.0)) t

      not_here : asks (values_at_positions vss p.value) ≡ false → entries_where asks h.next ≡ entries_where asks others.0
      not_here t = ap (entries_where asks) others.1.0 ∙ ap (λ b. cond b (with_row vss p ∷ entries_where asks others.0) (entries_where asks others.0)) t

      -- as many places as lists of values
      pub asked_count : length p.value ≡ length vss
      asked_count = ap length n.has ∙ row_length Ns p.lo ∙ sym (alike vss Ns h.left h.placed).count

      -- a list has something at the segment
      pub asked_some : list_any is_some (values_at_positions vss p.value) ≡ true
      asked_some = (is_first eqv h.left (all_after p.hi h.left) (with_row vss p) h.canonical next_left).some

      pub asked_less : all_lengths_left Ns' < all_lengths_left Ns
      asked_less =
          let less = next_less eqv h.left (all_after p.hi h.left) (with_row vss p) h.canonical next_left in
          let before = (alike vss Ns h.left h.placed).keys in
          let after = (alike vss Ns' (all_after p.hi h.left) placed_left).keys in
          omega (arith, less, before, after)

      -- the closure may be called at the row of the segment
      pub asked_takes : IsCallableAtRows shows g eqv low high asks f lists → asks (values_at_positions vss p.value) ≡ true → TakesValue shows g f' (values_at_positions vss p.value)
      asked_takes may t = takes_next shows g (row_eq eqv) eq low high f h.all (may.at h.all h.are) (entries_where asks h.next) (entries_where asks others.0) (with_row vss p) f' out h.so_far (here t)

      -- one answer more
      pub asked_more : (laws : IsEquivalence eq) (f'' : F) (new : List (Entry W)) (w : W) → asks (values_at_positions vss p.value) ≡ true → AnswersAtValue shows g f' (values_at_positions vss p.value) w f'' → new ≡ glue eq out (entry p.lo p.hi w ∷ []) → IsAskedSoFar Ns' f'' new
      asked_more laws f'' new w t answer put = record {
        all = h.all;
        are = h.are;
        left = all_after p.hi h.left;
        placed = placed_left;
        canonical = all_canonical_after eqv p.hi h.left h.canonical;
        next = others.0;
        nexts = others.1.1;
        so_far = answered_more shows g (row_eq eqv) eq low high f h.all laws (entries_where asks h.next) (entries_where asks others.0) (with_row vss p) f' f'' out new w p.lo p.hi h.so_far (here t) answer refl refl put;
      }

      -- a segment that the closure is not asked for
      pub asked_not : asks (values_at_positions vss p.value) ≡ false → IsAskedSoFar Ns' f' out
      asked_not t = record {
        all = h.all;
        are = h.are;
        left = all_after p.hi h.left;
        placed = placed_left;
        canonical = all_canonical_after eqv p.hi h.left h.canonical;
        next = others.0;
        nexts = others.1.1;
        so_far = subst (λ l. IsAnsweredSoFar shows g (row_eq eqv) eq low high f h.all l f' out) (not_here t) h.so_far;
      }

  -- ---- no lists, where the join is asked for the row of nothing

  module _ (laws : IsEquivalence eqv) (full : low ≤ℤ high) (asked : asks [] ≡ true) where
    abbrev everywhere : Entry (List (Option V))
    everywhere = entry low high []

    join_of_none : IsJoinOfMany eqv low high asks [] (everywhere ∷ [])
    join_of_none = record {
      range_map = record {
        runs = one_per_run (row_eq eqv) (rows_equiv eqv laws) (everywhere ∷ []) (full, tt, tt);
        keys = (omega (arith, ints), omega (arith, ints), tt);
      };
      content = λ k l h. at_in everywhere [] k l h ∙ sym (ap (λ b. cond b (Some []) None) asked);
    }

    start : IsAnsweredSoFar shows g (row_eq eqv) eq low high f (everywhere ∷ []) (everywhere ∷ []) f []
    start = answered_none shows g (row_eq eqv) eq low high f (everywhere ∷ []) (rows_equiv eqv laws) join_of_none.range_map

    pub none_takes : IsCallableAtRows shows g eqv low high asks f [] → TakesValue shows g f []
    none_takes may = takes_next shows g (row_eq eqv) eq low high f (everywhere ∷ []) (may.at (everywhere ∷ []) join_of_none) (everywhere ∷ []) [] everywhere f [] start refl

    pub none_joined : (laws_w : IsEquivalence eq) (f' : F) (w : W) (new : List (Entry W)) → AnswersAtValue shows g f [] w f' → new ≡ entry low high w ∷ [] → IsManyJoined shows g eqv low high asks eq f [] new
    none_joined laws_w f' w new answer put = record {
      segments = everywhere ∷ [];
      are_segments = join_of_none;
      answered = answered_all shows g (row_eq eqv) eq low high f (everywhere ∷ []) laws_w [] f' new
          (answered_more shows g (row_eq eqv) eq low high f (everywhere ∷ []) laws_w (everywhere ∷ []) [] everywhere f f' [] new w low high start refl answer refl refl put) refl;
    }
