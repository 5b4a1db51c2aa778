-- Pairs with their positions.
use Rattle.blaze_table.proofs.Words.{holds_in, holds_ends, tail_sorted, not_less}
use Rattle.std.proofs.Common.{◌≡◌, ℕ, zero, suc, ◌+◌, ◌<◌, ℤ, ◌≤ℤ◌, ◌<ℤ◌, true, List, [], ◌∷◌, ◌++◌, length, All, IsPermutation, Some, None, drop, refl, ◌∙◌, sym, ap, subst, arith, inl, inr, ⊎_elim}
use Rattle.std.specs.Prelude.{slice_get, slice_index_or, ◌⊎◌}
use Rattle.std.specs.List.{Contains}
use Rattle.std.specs.List.Sorted.{IsSortedByKey}
use Rattle.std.specs.Ordering.{is_lt, int_cmp}
use Rattle.std.specs.declared.cmp.Ordering.{Ordering}
use Rattle.std.proofs.lemmas.Int.{ints}
use Rattle.std.proofs.lemmas.List.{map-append}
use Rattle.std.proofs.lemmas.List.Elements.{All-nil, All-push, All-head, All-tail, All-weaker, Contains-append_left, Contains-push}
use Rattle.std.proofs.lemmas.List.Sorted.{All-permutation, Contains-permutation, IsPermutation-map}
use Rattle.std.proofs.lemmas.Option.{get_or_from_slice_get, slice_get_within}
use Rattle.blaze_int.proofs.Comparisons.{by_bool}
use Rattle.blaze_entries.specs.Canonical.{AreKeys}
use Rattle.blaze_entries.specs.Entries.{Entry, entry, holds}
use Rattle.blaze_entries.specs.Painted.{last_at}
use Rattle.blaze_table.specs.Pieces.{IsPlacedPair, places_of, ArePairsPlacedBelow, AreAllPairsPlaced, HasKey, EndsAreKeys, AreAscending, IsPiece}
use Rattle.blaze_table.proofs.Pairs.Lasts.{last_none, last_is}
use Rattle.blaze_table.specs.declared.sweep.placed.Placed.{Placed}

-- ---- items of lists

-- a list has one item at each index
pub one_item : {X : Type 0} (xs : List X) (j : ℕ) (x y : X) → slice_get xs j ≡ Some x → slice_get xs j ≡ Some y → x ≡ y
one_item xs j x y p q = cc

pub item_of : {X : Type 0} (P : X → Type 0) (xs : List X) (j : ℕ) (x : X) → All P xs → slice_get xs j ≡ Some x → P x
item_of P xs j x all q = subst P (get_or_from_slice_get xs j x x q) (all j x (slice_get_within xs j x q))

-- the first of the items from the n-th on
pub head_of_drop : {X : Type 0} (n : ℕ) (xs : List X) (x : X) (rest : List X) → drop n xs ≡ x ∷ rest → (slice_get xs n ≡ Some x) × (drop (n + 1) xs ≡ rest)
head_of_drop zero [] x rest q = cc
head_of_drop (suc n) [] x rest q = cc
head_of_drop zero (y ∷ ys) x rest q = (cc, cc)
head_of_drop (suc n) (y ∷ ys) x rest q =
    let h = head_of_drop n ys x rest q in
    let step : suc n + 1 ≡ suc (n + 1) = omega arith in
    (h.0, ap (λ m. drop m (y ∷ ys)) step ∙ h.1)

-- the ends of a pair are keys
keys_at : {V : Type 0} (low high : ℤ) (ps : List (Entry V)) (j : ℕ) (e : Entry V) → AreKeys low high ps → slice_get ps j ≡ Some e → (low ≤ℤ e.lo) × (e.hi ≤ℤ high)
keys_at low high [] j e a q = cc
keys_at low high (p ∷ ps) zero e a q = let same : p ≡ e = cc in (omega (arith, ints, a.0, ap (λ (x : Entry _). x.lo) same), omega (arith, ints, a.1, ap (λ (x : Entry _). x.hi) same))
keys_at low high (p ∷ ps) (suc j) e a q = keys_at low high ps j e a.2 q

-- a fact that is true below n and at n is true below n + 1
pub one_more : (P : ℕ → Type 0) (n : ℕ) → ((j : ℕ) → j < n → P j) → P n → (j : ℕ) → j < n + 1 → P j
one_more P n below here j l = by_case (nat_case j n l)
  where
    nat_case : (j n : ℕ) → j < n + 1 → (n ≡ j) ⊎ (j < n)
    nat_case zero zero l = inl refl
    nat_case zero (suc n) l = inr (omega arith)
    nat_case (suc j) zero l = absurd (omega arith)
    nat_case (suc j) (suc n) l = ⊎_elim (λ (h : n ≡ j). inl (omega arith)) (λ (h : j < n). inr (omega arith)) (nat_case j n (omega arith))

    by_case : (n ≡ j) ⊎ (j < n) → P j
    by_case (inl q) = subst P q here
    by_case (inr h) = below j h

-- ---- pairs appended one by one

module _ {T V : Type 0} (rank : T → ℤ) (ps : List (Entry V)) where
  pub placed_none : ArePairsPlacedBelow rank ps 0 []
  placed_none = record {
    known = All-nil (IsPlacedPair rank ps);
    complete = λ j l e q w. absurd (omega arith);
  }

  module _ (n : ℕ) (placed : List (Placed T V)) (c : ArePairsPlacedBelow rank ps n placed) (e : Entry V) (is : slice_get ps n ≡ Some e) where
    -- a pair without a key
    pub placed_skip : e.hi <ℤ e.lo → ArePairsPlacedBelow rank ps (n + 1) placed
    placed_skip w = record {
      known = c.known;
      complete = one_more (λ j. (f : Entry V) → slice_get ps j ≡ Some f → f.lo ≤ℤ f.hi → Contains (places_of placed) j) n c.complete
          (λ f q h. let same : e ≡ f = one_item ps n e f is q in absurd (omega (arith, ints, ap (λ (x : Entry V). x.lo) same, ap (λ (x : Entry V). x.hi) same)));
    }

    -- a pair with a key
    pub placed_more : (s t : T) (v : V) (new : List (Placed T V)) → new ≡ placed ++ (record { start = s; end = t; place = n; value = v }) ∷ [] → e ≡ entry (rank s) (rank t) v → rank s ≤ℤ rank t → ArePairsPlacedBelow rank ps (n + 1) new
    placed_more s t v new is_new r o =
        let places : places_of new ≡ places_of placed ++ n ∷ [] = ap places_of is_new ∙ map-append (λ (p : Placed T V). p.place) placed ((record { start = s; end = t; place = n; value = v }) ∷ []) in
        record {
          known = subst (All (IsPlacedPair rank ps)) (sym is_new) (All-push (IsPlacedPair rank ps) placed (record { start = s; end = t; place = n; value = v }) c.known (record { is = is ∙ ap Some r; order = o }));
          complete = one_more (λ j. (f : Entry V) → slice_get ps j ≡ Some f → f.lo ≤ℤ f.hi → Contains (places_of new) j) n
              (λ j l f q h. subst (λ m. Contains m j) (sym places) (Contains-append_left (places_of placed) (n ∷ []) j (c.complete j l f q h)))
              (λ f q h. subst (λ m. Contains m n) (sym places) (Contains-push (places_of placed) n));
        }

  -- the same pairs in another order
  pub placed_sorted : (n : ℕ) (placed new : List (Placed T V)) → ArePairsPlacedBelow rank ps n placed → n ≡ length ps → IsPermutation placed new → AreAllPairsPlaced rank ps new
  placed_sorted n placed new c l p = record {
    known = All-permutation (IsPlacedPair rank ps) placed new p c.known;
    complete = λ j w e q h. Contains-permutation (places_of placed) (places_of new) j (IsPermutation-map (λ (p : Placed T V). p.place) placed new p) (c.complete j (omega (arith, w, l)) e q h);
  }

  pub ends_are_keys : (low high : ℤ) (placed : List (Placed T V)) → AreKeys low high ps → All (IsPlacedPair rank ps) placed → All (EndsAreKeys rank low high) placed
  ends_are_keys low high placed are known = All-weaker (IsPlacedPair rank ps) (EndsAreKeys rank low high) (λ p h. keys_at low high ps p.place (entry (rank p.start) (rank p.end) p.value) are h.is) placed known

-- ---- the list after a sort by the first keys

module _ {T V : Type 0} (rank : T → ℤ) (low high : ℤ) (cmp : T → T → Ordering)
    (order : (a b : T) → low ≤ℤ rank a → rank a ≤ℤ high → low ≤ℤ rank b → rank b ≤ℤ high → cmp a b ≡ int_cmp (rank a) (rank b)) where
  -- the first is the least
  least : (p : Placed T V) (placed : List (Placed T V)) → All (EndsAreKeys rank low high) (p ∷ placed) → All (λ (p : Placed T V). rank p.start ≤ℤ rank p.end) (p ∷ placed) → IsSortedByKey (λ (p : Placed T V). p.start) cmp (p ∷ placed)
      → (j : ℕ) (q : Placed T V) → slice_get (p ∷ placed) j ≡ Some q → rank p.start ≤ℤ rank q.start
  least p placed keys have up zero q is = let same : p ≡ q = cc in omega (arith, ints, ap (λ (x : Placed T V). rank x.start) same)
  least p [] keys have up (suc j) q is = cc
  least p (r ∷ placed) keys have up (suc j) q is =
      let k_tail = All-tail (EndsAreKeys rank low high) p (r ∷ placed) keys in
      let h_tail = All-tail (λ (p : Placed T V). rank p.start ≤ℤ rank p.end) p (r ∷ placed) have in
      let kp = All-head (EndsAreKeys rank low high) p (r ∷ placed) keys in
      let kr = All-head (EndsAreKeys rank low high) r placed k_tail in
      let hp = All-head (λ (p : Placed T V). rank p.start ≤ℤ rank p.end) p (r ∷ placed) have in
      let hr = All-head (λ (p : Placed T V). rank p.start ≤ℤ rank p.end) r placed h_tail in
      let h : rank p.start ≤ℤ rank r.start = not_less (rank r.start) (rank p.start) (sym (ap is_lt (order r.start p.start kr.0 (omega (arith, ints, hr, kr.1)) kp.0 (omega (arith, ints, hp, kp.1)))) ∙ up 0 r (omega arith) (omega arith)) in
      let t = least r placed k_tail h_tail (tail_sorted (λ (x y : Placed T V). is_lt (cmp x.start y.start)) p (r ∷ placed) up) j q is in
      omega (arith, ints, h, t)

  pub ascends : (placed : List (Placed T V)) → All (EndsAreKeys rank low high) placed → All (λ (p : Placed T V). rank p.start ≤ℤ rank p.end) placed → IsSortedByKey (λ (p : Placed T V). p.start) cmp placed → AreAscending rank placed
  ascends [] keys have up i j p q l r s = cc
  ascends (x ∷ xs) keys have up zero j p q l r s =
      let same : x ≡ p = cc in
      let h = least x xs keys have up j q s in
      omega (arith, ints, h, ap (λ (x : Placed T V). rank x.start) same)
  ascends (x ∷ xs) keys have up (suc i) zero p q l r s = absurd (omega arith)
  ascends (x ∷ xs) keys have up (suc i) (suc j) p q l r s =
      ascends xs (All-tail (EndsAreKeys rank low high) x xs keys) (All-tail (λ (p : Placed T V). rank p.start ≤ℤ rank p.end) x xs have) (tail_sorted (λ (x y : Placed T V). is_lt (cmp x.start y.start)) x xs up) i j p q (omega arith) r s

-- ---- what the placed pairs paint

-- a pair with the position, at its index
record IsFound {T V : Type 0} (placed : List (Placed T V)) (place : ℕ) : Type 0 where
  index : ℕ
  pair : Placed T V
  is : slice_get placed index ≡ Some pair
  place_is : pair.place ≡ place

found : {T V : Type 0} (placed : List (Placed T V)) (place : ℕ) → Contains (places_of placed) place → IsFound placed place
found {T = T} {V = V} placed place c = at_index placed c.0 c.1 c.2
  where
    at_index : (xs : List (Placed T V)) (k : ℕ) → k < length (places_of xs) → slice_index_or (places_of xs) k place ≡ place → IsFound xs place
    at_index [] k l q = absurd (omega arith)
    at_index (x ∷ xs) zero l q = record { index = 0; pair = x; is = refl; place_is = q }
    at_index (x ∷ xs) (suc k) l q = let f = at_index xs k (omega arith) q in record { index = suc f.index; pair = f.pair; is = f.is; place_is = f.place_is }

module _ {T V : Type 0} (rank : T → ℤ) (ps : List (Entry V)) (placed : List (Placed T V)) (c : AreAllPairsPlaced rank ps placed) where
  -- a pair with a key is in the placed list
  by_place : {P : Type 0} (j : ℕ) (e : Entry V) (k : ℤ) → slice_get ps j ≡ Some e → holds e k ≡ true → ((i : ℕ) (p : Placed T V) → slice_get placed i ≡ Some p → p.place ≡ j → HasKey rank p k → P) → P
  by_place j e k q h f =
      let ends = holds_ends e k h in
      let it = found placed j (c.complete j (slice_get_within ps j e q) e q (omega (arith, ints, ends.0, ends.1))) in
      let known = item_of (IsPlacedPair rank ps) placed it.index it.pair c.known it.is in
      let same : entry (rank it.pair.start) (rank it.pair.end) it.pair.value ≡ e = one_item ps j (entry (rank it.pair.start) (rank it.pair.end) it.pair.value) e (subst (λ m. slice_get ps m ≡ Some (entry (rank it.pair.start) (rank it.pair.end) it.pair.value)) it.place_is known.is) q in
      f it.index it.pair it.is it.place_is (omega (arith, ints, ends.0, ap (λ (x : Entry V). x.lo) same), omega (arith, ints, ends.1, ap (λ (x : Entry V). x.hi) same))

  -- no pair contains the key
  pub none_at : (k : ℤ) → ((i : ℕ) (p : Placed T V) → slice_get placed i ≡ Some p → HasKey rank p k → ⊥) → last_at ps k ≡ None
  none_at k none = last_none ps k (λ j e q. by_bool (holds e k) (λ h. by_place j e k q h (λ i p r s w. absurd (none i p r w))) (λ b. b))

  -- a piece has the value of its pair
  pub value_of : (x : Entry ℕ) (piece : IsPiece rank placed x) (k : ℤ) → x.lo ≤ℤ k → k ≤ℤ x.hi → last_at ps k ≡ Some piece.pair.value
  value_of x piece k l u =
      let pair = piece.pair in
      let e = entry (rank pair.start) (rank pair.end) pair.value in
      last_is ps pair.place e k (item_of (IsPlacedPair rank ps) placed x.value pair c.known piece.is).is (holds_in e k (omega (arith, ints, piece.start)) (omega (arith, ints, piece.end)))
      (λ i f g r. by_bool (holds f k) (λ h. by_place i f k r h (λ m p s t w. let n = piece.last m p s k l u w in absurd (omega (arith, g, n, t)))) (λ b. b))
