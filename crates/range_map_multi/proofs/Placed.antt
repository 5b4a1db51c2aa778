-- Lists that are gone through by the places of their ranges.
use Rattle.range_map_multi.proofs.Words.{nat_of, ◌≡◌, ℕ, ◌+◌, ℤ, pos, ◌+ℤ◌, ◌-ℤ◌, Bool, true, false, not, cond, nat_eq, suc, List, [], ◌∷◌, ◌++◌, length, map, Option, Some, None, is_some, refl, ◌∙◌, sym, ap, option_map, append_assoc, append-nil, subst, arith, int_le, slice_get, option_and_then, IsEquivalence, nat_eq_equiv, length_push, map-map, next_differs, Entry, entry, at, holds, AreKeys, IsCanonical, IsRangeMap, after, canonical, one_per_run, values, first_key, steady_to, lesser, first_keys, all_steady_to, all_after, IsNextSegment, row, lengths_left, all_lengths_left, has_odd, with_values, in_places, HasPlacedValues, AllPlaced, with_valued_range, ranges_with_values, all_valued, values_at_positions, AllRangeMaps}

-- ---- other values on the same ranges

module _ {A B : Type 0} (f : A → B) where
  at_with : (es : List (Entry A)) (k : ℤ) → at (with_values f es) k ≡ option_map f (at es k)
  at_with [] k = refl
  at_with (e ∷ es) k = either (holds e k) (at_with es k)
    where
      either : (b : Bool) → at (with_values f es) k ≡ option_map f (at es k) → cond b (Some (f e.value)) (at (with_values f es) k) ≡ option_map f (cond b (Some e.value) (at es k))
      either true p = refl
      either false p = p

  after_with : (t : ℤ) (es : List (Entry A)) → after t (with_values f es) ≡ with_values f (after t es)
  after_with t [] = refl
  after_with t (e ∷ es) = either (int_le e.hi t) (int_le e.lo t) (after_with t es)
    where
      either : (b c : Bool) → after t (with_values f es) ≡ with_values f (after t es)
          → cond b (after t (with_values f es)) (cond c (entry (t +ℤ pos 1) e.hi (f e.value) ∷ with_values f es) (entry e.lo e.hi (f e.value) ∷ with_values f es))
          ≡ with_values f (cond b (after t es) (cond c (entry (t +ℤ pos 1) e.hi e.value ∷ es) (e ∷ es)))
      either true c p = p
      either false true p = refl
      either false false p = refl

  first_with : (es : List (Entry A)) → first_key (with_values f es) ≡ first_key es
  first_with [] = refl
  first_with (e ∷ es) = refl

  steady_with : (s : ℤ) (es : List (Entry A)) → steady_to s (with_values f es) ≡ steady_to s es
  steady_with s [] = refl
  steady_with s (e ∷ es) = refl

  lengths_with : (es : List (Entry A)) → lengths_left (with_values f es) ≡ lengths_left es
  lengths_with [] = refl
  lengths_with (e ∷ es) = ap (λ n. nat_of ((e.hi -ℤ e.lo) +ℤ pos 1) + n) (lengths_with es)

module _ {V : Type 0} where
  -- ---- one list

  found_there : (g : ℕ → Option V) (x : Option V) (y : Option ℕ) → option_map g y ≡ option_map Some x → x ≡ option_and_then g y
  found_there g None None p = refl
  found_there g None (Some i) p = cc
  found_there g (Some v) None p = cc
  found_there g (Some v) (Some i) p = cc

  at_placed : (vs : List V) (N : List (Entry ℕ)) (L : List (Entry V)) (k : ℤ) → HasPlacedValues vs N L → at L k ≡ option_and_then (slice_get vs) (at N k)
  at_placed vs N L k p = found_there (slice_get vs) (at L k) (at N k) (sym (at_with (slice_get vs) N k) ∙ ap (λ l. at l k) p ∙ at_with Some L k)

  after_placed : (vs : List V) (N : List (Entry ℕ)) (L : List (Entry V)) (t : ℤ) → HasPlacedValues vs N L → HasPlacedValues vs (after t N) (after t L)
  after_placed vs N L t p = sym (after_with (slice_get vs) t N) ∙ ap (after t) p ∙ after_with Some t L

  valued_placed : (vs : List V) (N : List (Entry ℕ)) (L : List (Entry V)) → HasPlacedValues vs N L → ranges_with_values vs N ≡ L
  valued_placed vs [] [] p = refl
  valued_placed vs [] (e ∷ es) p = cc
  valued_placed vs (r ∷ rs) [] p = cc
  valued_placed vs (r ∷ rs) (e ∷ es) p =
      let first : entry r.lo r.hi (slice_get vs r.value) ≡ entry e.lo e.hi (Some e.value) = cc in
      let others : HasPlacedValues vs rs es = cc in
      ap (λ o. with_valued_range r o (ranges_with_values vs rs)) (ap (λ x. x.value) first)
      ∙ ap (λ l. entry r.lo r.hi e.value ∷ l) (valued_placed vs rs es others)
      ∙ ap (λ l. entry l r.hi e.value ∷ es) (ap (λ x. x.lo) first)
      ∙ ap (λ h. entry e.lo h e.value ∷ es) (ap (λ x. x.hi) first)

  get_seam : (before after : List V) (v : V) → slice_get (before ++ v ∷ after) (length before) ≡ Some v
  get_seam [] after v = refl
  get_seam (x ∷ xs) after v = get_seam xs after v

  placed_from : (all before : List V) (L : List (Entry V)) (i : ℕ) → all ≡ before ++ values L → i ≡ length before → HasPlacedValues all (in_places i L) L
  placed_from all before [] i p q = refl
  placed_from all before (e ∷ es) i p q =
      let here : slice_get all i ≡ Some e.value = ap (λ l. slice_get l i) p ∙ ap (slice_get (before ++ e.value ∷ values es)) q ∙ get_seam before (values es) e.value in
      let one_more : i + 1 ≡ length (before ++ e.value ∷ []) = simp length_push (omega (arith, q)) in
      ap (λ o. entry e.lo e.hi o ∷ with_values (slice_get all) (in_places (i + 1) es)) here
      ∙ ap (λ l. entry e.lo e.hi (Some e.value) ∷ l) (placed_from all (before ++ e.value ∷ []) es (i + 1) (p ∙ sym (append_assoc before (e.value ∷ []) (values es))) one_more)

  -- the values of a list, at the places of its ranges
  pub placed_all : (vs : List V) (N : List (Entry ℕ)) (L : List (Entry V)) → vs ≡ values L → N ≡ in_places 0 L → HasPlacedValues vs N L
  placed_all vs N L p q = ap (with_values (slice_get vs)) q ∙ placed_from vs [] L 0 p refl

  -- one range more with its position
  pub place_more : (n n' : ℕ) (e : Entry V) (r : Entry ℕ) (left next : List (Entry V)) → left ≡ e ∷ next → r.lo ≡ e.lo → r.hi ≡ e.hi → r.value ≡ n → n' ≡ n + 1 → in_places n left ≡ r ∷ in_places n' next
  place_more n n' e r left next l lo hi v m =
      ap (in_places n) l
      ∙ ap (λ x. entry x e.hi n ∷ in_places (n + 1) next) (sym lo) ∙ ap (λ x. entry r.lo x n ∷ in_places (n + 1) next) (sym hi)
      ∙ ap (λ x. entry r.lo r.hi x ∷ in_places (n + 1) next) (sym v) ∙ ap (λ x. r ∷ in_places x next) (sym m)

  canonical_places : (eq : V → V → Bool) (i : ℕ) (es : List (Entry V)) → IsCanonical eq es → IsCanonical nat_eq (in_places i es)
  canonical_places eq i [] c = tt
  canonical_places eq i (e ∷ []) c = (c.0, tt, tt)
  canonical_places eq i (e ∷ f ∷ fs) c = (c.0, (c.1.0, λ q. next_differs i), canonical_places eq (i + 1) (f ∷ fs) c.2)

  keys_places : (low high : ℤ) (i : ℕ) (es : List (Entry V)) → AreKeys low high es → AreKeys low high (in_places i es)
  keys_places low high i [] k = tt
  keys_places low high i (e ∷ es) k = (k.0, k.1, keys_places low high (i + 1) es k.2)

  pub range_map_places : (eq : V → V → Bool) → IsEquivalence eq → (low high : ℤ) (es : List (Entry V)) → IsRangeMap eq low high es → IsRangeMap nat_eq low high (in_places 0 es)
  range_map_places eq laws low high es m = record {
    runs = one_per_run nat_eq nat_eq_equiv (in_places 0 es) (canonical_places eq 0 es (canonical eq laws es m.runs));
    keys = keys_places low high 0 es m.keys;
  }

  there_in_places : (k : ℤ) (i : ℕ) (es : List (Entry V)) → is_some (at (in_places i es) k) ≡ is_some (at es k)
  there_in_places k i [] = refl
  there_in_places k i (e ∷ es) = first (holds e k) (there_in_places k (i + 1) es)
    where
      first : (h : Bool) → is_some (at (in_places (i + 1) es) k) ≡ is_some (at es k) → is_some (cond h (Some i) (at (in_places (i + 1) es) k)) ≡ is_some (cond h (Some e.value) (at es k))
      first true p = refl
      first false p = p

  -- ---- many lists

  -- lists and their ranges with places, gone through together
  pub record AreAlike (vss : List (List V)) (Ns : List (List (Entry ℕ))) (Ls : List (List (Entry V))) : Type 0 where
    pub firsts : first_keys Ls ≡ first_keys Ns
    pub ends : (s : ℤ) → all_steady_to s Ls ≡ all_steady_to s Ns
    pub rows : (k : ℤ) → row Ls k ≡ values_at_positions vss (row Ns k)
    pub keys : all_lengths_left Ls ≡ all_lengths_left Ns
    pub next : (t : ℤ) → AllPlaced vss (all_after t Ns) (all_after t Ls)
    pub valued_are : all_valued vss Ns ≡ Ls
    pub count : length vss ≡ length Ns
    pub count_left : length Ls ≡ length Ns

  pub alike : (vss : List (List V)) (Ns : List (List (Entry ℕ))) (Ls : List (List (Entry V))) → AllPlaced vss Ns Ls → AreAlike vss Ns Ls
  alike [] [] [] p = record { firsts = refl; ends = λ s. refl; rows = λ k. refl; keys = refl; next = λ t. tt; valued_are = refl; count = refl; count_left = refl }
  alike [] [] (L ∷ Ls) p = absurd p
  alike [] (N ∷ Ns) Ls p = absurd p
  alike (vs ∷ vss) [] Ls p = absurd p
  alike (vs ∷ vss) (N ∷ Ns) [] p = absurd p
  alike (vs ∷ vss) (N ∷ Ns) (L ∷ Ls) p =
      let r = alike vss Ns Ls p.1 in
      let get = slice_get vs in
      let is = sym p.0 in
      record {
        firsts = ap (λ o. lesser o (first_keys Ls)) (sym (first_with Some L) ∙ ap first_key is ∙ first_with get N) ∙ ap (lesser (first_key N)) r.firsts;
        ends = λ s. ap (λ o. lesser o (all_steady_to s Ls)) (sym (steady_with Some s L) ∙ ap (steady_to s) is ∙ steady_with get s N) ∙ ap (lesser (steady_to s N)) (r.ends s);
        rows = λ k. ap (λ o. o ∷ row Ls k) (at_placed vs N L k p.0) ∙ ap (λ l. option_and_then get (at N k) ∷ l) (r.rows k);
        keys = ap (λ n. n + all_lengths_left Ls) (sym (lengths_with Some L) ∙ ap lengths_left is ∙ lengths_with get N) ∙ ap (λ n. lengths_left N + n) r.keys;
        next = λ t. (after_placed vs N L t p.0, r.next t);
        valued_are = ap (λ l. l ∷ all_valued vss Ns) (valued_placed vs N L p.0) ∙ ap (λ l. L ∷ l) r.valued_are;
        count = ap suc r.count;
        count_left = ap suc r.count_left;
      }

  -- ---- lists taken apart one after another

  placed_push : (vss : List (List V)) (Ns : List (List (Entry ℕ))) (Ls : List (List (Entry V))) (vs : List V) (N : List (Entry ℕ)) (L : List (Entry V)) → AllPlaced vss Ns Ls → HasPlacedValues vs N L → AllPlaced (vss ++ vs ∷ []) (Ns ++ N ∷ []) (Ls ++ L ∷ [])
  placed_push [] [] [] vs N L a p = (p, tt)
  placed_push [] [] (M ∷ Ls) vs N L a p = absurd a
  placed_push [] (M ∷ Ns) Ls vs N L a p = absurd a
  placed_push (us ∷ vss) [] Ls vs N L a p = absurd a
  placed_push (us ∷ vss) (M ∷ Ns) [] vs N L a p = absurd a
  placed_push (us ∷ vss) (M ∷ Ns) (K ∷ Ls) vs N L a p = (a.0, placed_push vss Ns Ls vs N L a.1 p)

  range_maps_push : (eq : V → V → Bool) (low high : ℤ) (Ls : List (List (Entry V))) (L : List (Entry V)) → AllRangeMaps eq low high Ls → IsRangeMap eq low high L → AllRangeMaps eq low high (Ls ++ L ∷ [])
  range_maps_push eq low high [] L a m = (m, tt)
  range_maps_push eq low high (K ∷ Ls) L a m = (a.0, range_maps_push eq low high Ls L a.1 m)

  -- the lists before those that are left are taken apart
  pub record AreTakenApart (eq : V → V → Bool) (low high : ℤ) (all left : List (List (Entry V))) (vss : List (List V)) (Ns : List (List (Entry ℕ))) : Type 0 where
    pub done : List (List (Entry V))
    pub whole : all ≡ done ++ left
    pub placed : AllPlaced vss Ns done
    pub range_maps : AllRangeMaps eq low high done

  module _ (eq : V → V → Bool) (low high : ℤ) (all : List (List (Entry V))) where
    pub apart_none : AreTakenApart eq low high all all [] []
    apart_none = record { done = []; whole = refl; placed = tt; range_maps = tt }

    pub apart_more : (left next : List (List (Entry V))) (L : List (Entry V)) (vss vss' : List (List V)) (vs : List V) (Ns Ns' : List (List (Entry ℕ))) (N : List (Entry ℕ)) → AreTakenApart eq low high all left vss Ns
        → left ≡ L ∷ next → vss' ≡ vss ++ vs ∷ [] → Ns' ≡ Ns ++ N ∷ [] → HasPlacedValues vs N L → IsRangeMap eq low high L → AreTakenApart eq low high all next vss' Ns'
    apart_more left next L vss vss' vs Ns Ns' N a l v n p m = record {
      done = a.done ++ L ∷ [];
      whole = a.whole ∙ ap (λ x. a.done ++ x) l ∙ sym (append_assoc a.done (L ∷ []) next);
      placed = rw (v, n) (placed_push vss Ns a.done vs N L a.placed p);
      range_maps = range_maps_push eq low high a.done L a.range_maps m;
    }

    pub apart_all : (left : List (List (Entry V))) (vss : List (List V)) (Ns : List (List (Entry ℕ))) → AreTakenApart eq low high all left vss Ns → left ≡ [] → AllPlaced vss Ns all × AllRangeMaps eq low high all
    apart_all left vss Ns a e =
        let is : all ≡ a.done = a.whole ∙ ap (λ x. a.done ++ x) e ∙ append-nil a.done in
        (subst (AllPlaced vss Ns) (sym is) a.placed, subst (AllRangeMaps eq low high) (sym is) a.range_maps)

  -- a segment with the values at its places
  abbrev pub with_row : List (List V) → Entry (List (Option ℕ)) → Entry (List (Option V))
  with_row vss p = entry p.lo p.hi (values_at_positions vss p.value)

  -- the first segment by places is the first by values
  pub next_alike : (vss : List (List V)) (Ns Ns' : List (List (Entry ℕ))) (Ls : List (List (Entry V))) (p : Entry (List (Option ℕ))) → AllPlaced vss Ns Ls → IsNextSegment Ns p Ns' → IsNextSegment Ls (with_row vss p) (all_after p.hi Ls)
  next_alike vss Ns Ns' Ls p a n = let r = alike vss Ns Ls a in record { starts = r.firsts ∙ n.starts; ends = r.ends p.lo ∙ n.ends; has = ap (values_at_positions vss) n.has ∙ sym (r.rows p.lo); left = refl }

-- ---- the keys that an odd number of lists have

odd_first : {V : Type 0} (x : Option V) (xs : List (Option V)) → has_odd (x ∷ xs) ≡ cond (is_some x) (not (has_odd xs)) (has_odd xs)
odd_first None xs = refl
odd_first (Some x) xs = refl

pub odd_in_places : {A V : Type 0} (left : A → List (Entry V)) (xs : List A) (k : ℤ) → has_odd (row (map (λ s. in_places 0 (left s)) xs) k) ≡ has_odd (row (map left xs) k)
odd_in_places left [] k = refl
odd_in_places left (x ∷ xs) k =
    let there = has_odd (row (map (λ s. in_places 0 (left s)) xs) k) in
    odd_first (at (in_places 0 (left x)) k) (row (map (λ s. in_places 0 (left s)) xs) k)
    ∙ ap (λ a. cond a (not there) there) (there_in_places k 0 (left x)) ∙ ap (λ o. cond (is_some (at (left x) k)) (not o) o) (odd_in_places left xs k)
    ∙ sym (odd_first (at (left x) k) (row (map left xs) k))

-- ---- lists by another name

module _ {V : Type 0} (vss vss' : List (List V)) (Ns Ns' : List (List (Entry ℕ))) (Ls : List (List (Entry V))) (is : vss' ≡ vss) (ranges : Ns' ≡ Ns) (placed : AllPlaced vss Ns Ls) where
  pub given_lists : all_valued vss' Ns' ≡ Ls
  given_lists = ap (λ vs. all_valued vs Ns') is ∙ ap (all_valued vss) ranges ∙ (alike vss Ns Ls placed).valued_are

  pub given_placed : AllPlaced vss' Ns' (all_valued vss' Ns')
  given_placed = subst (AllPlaced vss' Ns') (sym given_lists) (subst (λ vs. AllPlaced vs Ns' Ls) (sym is) (subst (λ ns. AllPlaced vss ns Ls) (sym ranges) placed))

-- what references to items show is what the items show
pub borrowed_shown : {A C V B D : Type 0} (shown : C → V) (now : A → C) (items : B → List A) (owned : D → List C) (borrowed : List B) (lists : List D) → map (λ v. map now (items v)) borrowed ≡ map owned lists
    → map (λ v. map (λ c. shown (now c)) (items v)) borrowed ≡ map (λ v. map shown (owned v)) lists
borrowed_shown {B = B} shown now items owned borrowed lists p = sym (through borrowed) ∙ ap (map (map shown)) p ∙ map-map (map shown) owned lists
  where
    through : (vs : List B) → map (map shown) (map (λ v. map now (items v)) vs) ≡ map (λ v. map (λ c. shown (now c)) (items v)) vs
    through [] = refl
    through (v ∷ vs) = ap (λ l. l ∷ map (map shown) (map (λ v. map now (items v)) vs)) (map-map shown now (items v)) ∙ ap (λ l. map (λ c. shown (now c)) (items v) ∷ l) (through vs)
