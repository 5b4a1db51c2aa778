-- What a table in order has at a key, and round it, by where the key is among its first and last keys.
use Rattle.blaze_int.proofs.Naturals.{by_less}
use Rattle.std.proofs.Common.{◌≡◌, ℕ, zero, suc, ◌+◌, ◌-◌, ◌<◌, ◌≤◌, ℤ, pos, ◌+ℤ◌, ◌≤ℤ◌, ◌<ℤ◌, List, [], ◌∷◌, length, get_or, slice_get, slice_index_or, Bool, true, false, ◌&&◌, Option, Some, None, int_le, MatchBool, refl, sym, ap, subst, ◌∙◌, arith, FitsSigned, w64, to_z, of_z}
use Rattle.std.proofs.lemmas.Int.{ints, by_lt_z, to_z-of_z}
use Rattle.std.proofs.lemmas.Option.{slice_get-get_or, slice_get_past}
use Rattle.std.specs.Option.{option_map}
use Rattle.std.specs.List.{filter}
use Rattle.blaze_entries.specs.Entries.{Entry, entry, at, entry_at, holds}
use Rattle.blaze_entries.specs.Ending.{overlapping}
use Rattle.blaze_table.specs.Gap.{IsGap, IsClearFrom}
use Rattle.range_map_c.specs.Ordered.{AreOrdered, AreApart, IsRank, IsRankBelow, IsSorted}
use Rattle.range_map_c.specs.Tables.{rows}
use Rattle.range_map_c.specs.Told.{first_of, last_of, told_entry}
use Rattle.range_map_c.proofs.Picked.{filter_none, first_passing, last_passing, filter_both, entry_at-first, at-entry_at}

-- ---- entries in order

module _ {V : Type 0} (d : Entry V) where
  full : (es : List (Entry V)) → AreOrdered es → (i : ℕ) → i < length es → (get_or es i d).lo ≤ℤ (get_or es i d).hi
  full [] o i lt = absurd (omega arith)
  full (e ∷ []) o zero lt = o
  full (e ∷ []) o (suc i) lt = absurd (omega arith)
  full (e ∷ f ∷ fs) o zero lt = o.0
  full (e ∷ f ∷ fs) o (suc i) lt = full (f ∷ fs) o.2 i (omega arith)

  apart : (es : List (Entry V)) → AreOrdered es → (i j : ℕ) → i < j → j < length es → (get_or es i d).hi <ℤ (get_or es j d).lo
  apart [] o i j less lt = absurd (omega arith)
  apart (e ∷ []) o i j less lt = absurd (omega arith)
  apart (e ∷ f ∷ fs) o i zero less lt = absurd (omega arith)
  apart (e ∷ f ∷ fs) o zero (suc zero) less lt = o.1
  apart (e ∷ f ∷ fs) o zero (suc (suc j)) less lt =
      let a : e.hi <ℤ f.lo = o.1 in let b : f.lo ≤ℤ f.hi = full (f ∷ fs) o.2 0 (omega arith) in
      let c : f.hi <ℤ (get_or fs j d).lo = apart (f ∷ fs) o.2 0 (suc j) (omega arith) (omega arith) in omega (arith, ints)
  apart (e ∷ f ∷ fs) o (suc i) (suc j) less lt = apart (f ∷ fs) o.2 i j (omega arith) (omega arith)

  ordered : (es : List (Entry V)) → ((i : ℕ) → i < length es → (get_or es i d).lo ≤ℤ (get_or es i d).hi)
      → ((i : ℕ) → suc i < length es → (get_or es i d).hi <ℤ (get_or es (suc i) d).lo) → AreOrdered es
  ordered [] a b = tt
  ordered (e ∷ []) a b = a 0 (omega arith)
  ordered (e ∷ f ∷ fs) a b = (a 0 (omega arith), b 0 (omega arith), ordered (f ∷ fs) (λ i lt. a (suc i) (omega arith)) (λ i lt. b (suc i) (omega arith)))

module _ {V : Type 0} where
  off_above : (e : Entry V) (k : ℤ) → e.hi <ℤ k → holds e k ≡ false
  off_above e k h = grind (arith, ints)

  off_below : (e : Entry V) (k : ℤ) → k <ℤ e.lo → holds e k ≡ false
  off_below e k h = grind (arith, ints)

  on : (e : Entry V) (k : ℤ) → e.lo ≤ℤ k → k ≤ℤ e.hi → holds e k ≡ true
  on e k h g = grind (arith, ints)

-- ---- keys in order

-- a key that was passed to a call is the same key
module _ (keys : List ℤ) (k : ℤ) (n : ℕ) (fits : FitsSigned w64 k) where
  pub rank_of_key : IsRank keys (to_z w64 (of_z w64 k)) n → IsRank keys k n
  rank_of_key r = subst (λ (z : ℤ). IsRank keys z n) (to_z-of_z w64 k fits) r

  pub rank_below_of_key : IsRankBelow keys (to_z w64 (of_z w64 k)) n → IsRankBelow keys k n
  rank_below_of_key r = subst (λ (z : ℤ). IsRankBelow keys z n) (to_z-of_z w64 k fits) r

module _ (los his : List ℤ) (a : AreApart los his) where
  pub sorted : IsSorted los
  sorted i j le lt = by_less i j
      (λ less. let f = a.full i (omega arith) in let g = a.apart i j less lt in omega (arith, ints))
      (λ not. let same : i ≡ j = omega arith in subst (λ n. slice_index_or los i (pos 0) ≤ℤ slice_index_or los n (pos 0)) same (omega (arith, ints)))

  his_sorted : (i j : ℕ) → i ≤ j → j < length los → slice_index_or his i (pos 0) ≤ℤ slice_index_or his j (pos 0)
  his_sorted i j le lt = by_less i j
      (λ less. let g = a.apart i j less lt in let f = a.full j lt in omega (arith, ints))
      (λ not. let same : i ≡ j = omega arith in subst (λ n. slice_index_or his i (pos 0) ≤ℤ slice_index_or his n (pos 0)) same (omega (arith, ints)))

  -- no row before n ends at k or above, so n rows end below it
  pub below_all : (k : ℤ) (n : ℕ) → IsRank los k n → ((i : ℕ) → n ≡ suc i → slice_index_or his i (pos 0) <ℤ k) → IsRankBelow his k n
  below_all k n r past = record {
    within = let l = a.long in let w = r.within in omega arith;
    before = λ i lt. before n r past i lt;
    after = λ i le lt. let l = a.long in let m : i < length los = omega arith in let b = r.after i le m in let f = a.full i m in omega (arith, ints);
  } where
    before : (n : ℕ) → IsRank los k n → ((i : ℕ) → n ≡ suc i → slice_index_or his i (pos 0) <ℤ k) → (i : ℕ) → i < n → slice_index_or his i (pos 0) <ℤ k
    before zero r past i lt = absurd (omega arith)
    before (suc n) r past i lt = let w = r.within in let b = past n refl in let m = his_sorted i n (omega arith) (omega arith) in omega (arith, ints)

  -- row i ends at k or above, and is the last that starts at most at k
  pub below_row : (k : ℤ) (n i : ℕ) → IsRank los k n → n ≡ suc i → k ≤ℤ slice_index_or his i (pos 0) → IsRankBelow his k i
  below_row k n i r is within = record {
    within = let l = a.long in let w = r.within in omega arith;
    before = λ j lt. let w = r.within in let b = r.before i (omega arith) in let m = a.apart j i lt (omega arith) in omega (arith, ints);
    after = λ j le lt. let l = a.long in let m = his_sorted i j le (omega arith) in omega (arith, ints);
  }

-- ---- rows

abbrev pub no_row : Entry ℕ
no_row = entry (pos 0) (pos 0) 0

abbrev pub row : List ℤ → List ℤ → List ℕ → ℕ → Entry ℕ
row los his vs i = entry (slice_index_or los i (pos 0)) (slice_index_or his i (pos 0)) (slice_index_or vs i 0)

pub row_is : (los his : List ℤ) (vs : List ℕ) → length his ≡ length los → length vs ≡ length los → (i : ℕ) → get_or (rows los his vs) i no_row ≡ row los his vs i
row_is [] [] [] p q i = refl
row_is [] [] (v ∷ vs) p q i = absurd (omega arith)
row_is [] (h ∷ hs) vs p q i = absurd (omega arith)
row_is (l ∷ ls) [] vs p q i = absurd (omega arith)
row_is (l ∷ ls) (h ∷ hs) [] p q i = absurd (omega arith)
row_is (l ∷ ls) (h ∷ hs) (v ∷ vs) p q zero = refl
row_is (l ∷ ls) (h ∷ hs) (v ∷ vs) p q (suc i) = row_is ls hs vs (omega arith) (omega arith) i

pub length-rows : {V : Type 0} (los his : List ℤ) (vs : List V) → length his ≡ length los → length vs ≡ length los → length (rows los his vs) ≡ length los
length-rows [] his vs p q = refl
length-rows (l ∷ ls) [] vs p q = absurd (omega arith)
length-rows (l ∷ ls) (h ∷ hs) [] p q = absurd (omega arith)
length-rows (l ∷ ls) (h ∷ hs) (v ∷ vs) p q = ap suc (length-rows ls hs vs (omega arith) (omega arith))

module _ (los his : List ℤ) (vs : List ℕ) (p : length his ≡ length los) (q : length vs ≡ length los) where
  -- what holds of row i holds of the entry i, and the other way round
  of_entry : (P : Entry ℕ → Type 0) (i : ℕ) → P (get_or (rows los his vs) i no_row) → P (row los his vs i)
  of_entry P i h = subst P (row_is los his vs p q i) h

  of_row : (P : Entry ℕ → Type 0) (i : ℕ) → P (row los his vs i) → P (get_or (rows los his vs) i no_row)
  of_row P i h = subst P (sym (row_is los his vs p q i)) h

  is_row : (i : ℕ) → i < length los → i < length (rows los his vs)
  is_row i lt = subst (λ n. i < n) (sym (length-rows los his vs p q)) lt

  is_place : (i : ℕ) → i < length (rows los his vs) → i < length los
  is_place i lt = subst (λ n. i < n) (length-rows los his vs p q) lt

  pub rows_apart : AreOrdered (rows los his vs) → AreApart los his
  rows_apart o = record {
    long = p;
    full = λ i lt. of_entry (λ e. e.lo ≤ℤ e.hi) i (full no_row (rows los his vs) o i (is_row i lt));
    apart = λ i j less lt. of_entry (λ e. e.hi <ℤ slice_index_or los j (pos 0)) i
        (of_entry (λ f. (get_or (rows los his vs) i no_row).hi <ℤ f.lo) j (apart no_row (rows los his vs) o i j less (is_row j lt)));
  }

  pub rows_ordered : ((i : ℕ) → i < length los → slice_index_or los i (pos 0) ≤ℤ slice_index_or his i (pos 0))
      → ((i : ℕ) → suc i < length los → slice_index_or his i (pos 0) <ℤ slice_index_or los (suc i) (pos 0)) → AreOrdered (rows los his vs)
  rows_ordered f g = ordered no_row (rows los his vs) (λ i lt. of_row (λ e. e.lo ≤ℤ e.hi) i (f i (is_place i lt)))
      (λ i lt. of_row (λ e. (get_or (rows los his vs) i no_row).hi <ℤ e.lo) (suc i)
      (of_row (λ e. e.hi <ℤ slice_index_or los (suc i) (pos 0)) i (g i (is_place (suc i) lt))))

  -- row i, as an entry there is, and none past the last
  pub row_got : (i : ℕ) → i < length los → slice_get (rows los his vs) i ≡ Some (row los his vs i)
  row_got i lt = slice_get-get_or (rows los his vs) i no_row (is_row i lt) ∙ ap (λ e. Some e) (row_is los his vs p q i)

  pub row_past : (i : ℕ) → length los ≤ i → slice_get (rows los his vs) i ≡ None
  row_past i le = slice_get_past (rows los his vs) i (let l = length-rows los his vs p q in omega arith)

  -- no row has the key: the first n end below it, and the others start above it
  pub none_at : (k : ℤ) (n : ℕ) → ((i : ℕ) → i < n → slice_index_or his i (pos 0) <ℤ k) → ((i : ℕ) → n ≤ i → i < length los → k <ℤ slice_index_or los i (pos 0))
      → at (rows los his vs) k ≡ None
  none_at k n before after =
      let none = filter_none no_row (λ e. holds e k) (rows los his vs) (λ i lt. of_row (λ e. holds e k ≡ false) i
      (by_less i n (λ less. off_above (row los his vs i) k (before i less)) (λ not. off_below (row los his vs i) k (after i not (is_place i lt))))) in
      at-entry_at (rows los his vs) k ∙ ap (option_map (λ (e : Entry ℕ). e.value)) (entry_at-first (rows los his vs) k ∙ ap first_of none)

  module _ (o : AreOrdered (rows los his vs)) where
    -- row i has the key
    pub row_at : (k : ℤ) (i : ℕ) → i < length los → slice_index_or los i (pos 0) ≤ℤ k → k ≤ℤ slice_index_or his i (pos 0) → entry_at (rows los his vs) k ≡ Some (row los his vs i)
    row_at k i lt low high =
        let a = rows_apart o in
        entry_at-first (rows los his vs) k
        ∙ first_passing no_row (λ e. holds e k) (rows los his vs) i (is_row i lt)
        (λ j less. of_row (λ e. holds e k ≡ false) j (off_above (row los his vs j) k (let b = a.apart j i less lt in omega (arith, ints))))
        (of_row (λ e. holds e k ≡ true) i (on (row los his vs i) k low high))
        ∙ ap (λ e. Some e) (row_is los his vs p q i)

    pub value_at : (k : ℤ) (i : ℕ) → i < length los → slice_index_or los i (pos 0) ≤ℤ k → k ≤ℤ slice_index_or his i (pos 0) → at (rows los his vs) k ≡ Some (slice_index_or vs i 0)
    value_at k i lt low high = at-entry_at (rows los his vs) k ∙ ap (option_map (λ (e : Entry ℕ). e.value)) (row_at k i lt low high)

    -- the first row that ends at k or above
    module _ (k : ℤ) (n : ℕ) (r : IsRankBelow his k n) where
      pub gap_at : (n < length los → k <ℤ slice_index_or los n (pos 0)) → at (rows los his vs) k ≡ None
      gap_at above = none_at k n r.before (λ i le lt.
          let a = rows_apart o in let s = sorted los his a n i le lt in let b = above (omega arith) in omega (arith, ints))

      pub next_row : (g : ℤ) → (n < length los → slice_index_or los n (pos 0) ≤ℤ g) → slice_get (rows los his vs) n ≡ first_of (overlapping k g (rows los his vs))
      next_row g most = by_less n (length los) there none where
        both : filter (λ (e : Entry ℕ). int_le k e.hi && int_le e.lo g) (rows los his vs) ≡ overlapping k g (rows los his vs)
        both = sym (filter_both (λ (e : Entry ℕ). int_le e.lo g) (λ (e : Entry ℕ). int_le k e.hi) (rows los his vs))

        early : (e : Entry ℕ) → e.hi <ℤ k → (int_le k e.hi && int_le e.lo g) ≡ false
        early e h = grind (arith, ints)

        in_reach : (e : Entry ℕ) → k ≤ℤ e.hi → e.lo ≤ℤ g → (int_le k e.hi && int_le e.lo g) ≡ true
        in_reach e h l = grind (arith, ints)

        there : n < length los → slice_get (rows los his vs) n ≡ first_of (overlapping k g (rows los his vs))
        there lt =
            slice_get-get_or (rows los his vs) n no_row (is_row n lt)
            ∙ sym (first_passing no_row (λ e. int_le k e.hi && int_le e.lo g) (rows los his vs) n (is_row n lt)
            (λ j less. of_row (λ e. (int_le k e.hi && int_le e.lo g) ≡ false) j (early (row los his vs j) (r.before j less)))
            (of_row (λ e. (int_le k e.hi && int_le e.lo g) ≡ true) n (in_reach (row los his vs n) (r.after n (omega arith) (omega arith)) (most lt))))
            ∙ ap first_of both

        none : length los ≤ n → slice_get (rows los his vs) n ≡ first_of (overlapping k g (rows los his vs))
        none le =
            row_past n le
            ∙ ap first_of (sym (filter_none no_row (λ e. int_le k e.hi && int_le e.lo g) (rows los his vs)
            (λ j lt. of_row (λ e. (int_le k e.hi && int_le e.lo g) ≡ false) j (early (row los his vs j) (r.before j (let m = is_place j lt in omega arith)))))
            ∙ both)

      -- the greatest range of keys without a value round k
      pub gap_round : (least greatest a b : ℤ) → (n < length los → k <ℤ slice_index_or los n (pos 0)) → least ≤ℤ a → b ≤ℤ greatest → least ≤ℤ k → k ≤ℤ greatest
          → (n ≡ 0 → a ≡ least) → ((i : ℕ) → n ≡ i + 1 → a ≡ slice_index_or his i (pos 0) +ℤ pos 1)
          → (length los ≤ n → b ≡ greatest) → (n < length los → b +ℤ pos 1 ≡ slice_index_or los n (pos 0))
          → IsGap least greatest (at (rows los his vs)) k a b
      gap_round least greatest a b above from to low high first later last earlier = record {
        from = from;
        to = to;
        starts = by_less 0 n (λ less. let e = later (n - 1) (omega arith) in let c = r.before (n - 1) (omega arith) in omega (arith, ints)) (λ not. let e = first (omega arith) in omega (arith, ints));
        ends = by_less n (length los) (λ less. let e = earlier less in let c = above less in omega (arith, ints)) (λ not. let e = last not in omega (arith, ints));
        clear = λ j f t. none_at j n (before j f) (after j t);
        greatest = λ c e lc ck ke eg clear. (start c e lc ck ke clear, end c e ck ke eg clear);
      } where
        apart_rows : AreApart los his
        apart_rows = rows_apart o

        before : (j : ℤ) → a ≤ℤ j → (i : ℕ) → i < n → slice_index_or his i (pos 0) <ℤ j
        before j f i lt =
            let l = r.within in let e = later (n - 1) (omega arith) in
            let s = his_sorted los his apart_rows i (n - 1) (omega arith) (omega arith) in omega (arith, ints)

        after : (j : ℤ) → j ≤ℤ b → (i : ℕ) → n ≤ i → i < length los → j <ℤ slice_index_or los i (pos 0)
        after j t i le lt = let e = earlier (omega arith) in let s = sorted los his apart_rows n i le lt in omega (arith, ints)

        start : (c e : ℤ) → least ≤ℤ c → c ≤ℤ k → k ≤ℤ e → IsClearFrom (at (rows los his vs)) c e → a ≤ℤ c
        start c e lc ck ke clear = by_less 0 n
            (λ less. by_lt_z (slice_index_or his (n - 1) (pos 0)) c
            (λ under. let is = later (n - 1) (omega arith) in omega (arith, ints))
            (λ over.
            let l = r.within in let u = r.before (n - 1) (omega arith) in
            let full = apart_rows.full (n - 1) (omega arith) in
            let has = value_at (slice_index_or his (n - 1) (pos 0)) (n - 1) (omega arith) full (omega (arith, ints)) in
            let none = clear (slice_index_or his (n - 1) (pos 0)) over (omega (arith, ints)) in absurd (cc)))
            (λ not. let is = first (omega arith) in omega (arith, ints))

        end : (c e : ℤ) → c ≤ℤ k → k ≤ℤ e → e ≤ℤ greatest → IsClearFrom (at (rows los his vs)) c e → e ≤ℤ b
        end c e ck ke eg clear = by_less n (length los)
            (λ less. by_lt_z e (slice_index_or los n (pos 0))
            (λ under. let is = earlier less in omega (arith, ints))
            (λ over.
            let u = above less in
            let full = apart_rows.full n less in
            let has = value_at (slice_index_or los n (pos 0)) n less (omega (arith, ints)) full in
            let none = clear (slice_index_or los n (pos 0)) (omega (arith, ints)) over in absurd (cc)))
            (λ not. let is = last not in omega (arith, ints))

    -- the last row that starts at k or below
    module _ (k g : ℤ) where
      late : (e : Entry ℕ) → k <ℤ e.lo → (int_le g e.hi && int_le e.lo k) ≡ false
      late e h = grind (arith, ints)

      in_reach_back : (e : Entry ℕ) → g ≤ℤ e.hi → e.lo ≤ℤ k → (int_le g e.hi && int_le e.lo k) ≡ true
      in_reach_back e h l = grind (arith, ints)

      both_back : filter (λ (e : Entry ℕ). int_le g e.hi && int_le e.lo k) (rows los his vs) ≡ overlapping g k (rows los his vs)
      both_back = sym (filter_both (λ (e : Entry ℕ). int_le e.lo k) (λ (e : Entry ℕ). int_le g e.hi) (rows los his vs))

      pub previous_row : (n i : ℕ) → IsRank los k n → n ≡ i + 1 → g ≤ℤ slice_index_or his i (pos 0) → slice_get (rows los his vs) i ≡ last_of (overlapping g k (rows los his vs))
      previous_row n i r is most =
          let w = r.within in
          slice_get-get_or (rows los his vs) i no_row (is_row i (omega arith))
          ∙ sym (last_passing no_row (λ e. int_le g e.hi && int_le e.lo k) (rows los his vs) i (is_row i (omega arith))
          (λ j less lt. of_row (λ e. (int_le g e.hi && int_le e.lo k) ≡ false) j (late (row los his vs j) (r.after j (omega arith) (is_place j lt))))
          (of_row (λ e. (int_le g e.hi && int_le e.lo k) ≡ true) i (in_reach_back (row los his vs i) most (r.before i (omega arith)))))
          ∙ ap last_of both_back

      pub none_previous : IsRank los k 0 → None ≡ last_of (overlapping g k (rows los his vs))
      none_previous r =
          ap last_of (sym (filter_none no_row (λ e. int_le g e.hi && int_le e.lo k) (rows los his vs)
          (λ j lt. of_row (λ e. (int_le g e.hi && int_le e.lo k) ≡ false) j (late (row los his vs j) (r.after j (omega arith) (is_place j lt)))))
          ∙ both_back)

-- an entry is told, so it was there
same_entry : (b : Bool) (lo hi : ℤ) (v : ℕ) (e : Entry ℕ) → told_entry b lo hi v ≡ Some e → (b ≡ true) × (entry lo hi v ≡ e)
same_entry true lo hi v e t = (refl, cc)
same_entry false lo hi v e t = absurd (cc)

module _ (b : Bool) (lo hi : ℤ) (v : ℕ) (e : Entry ℕ) (t : told_entry b lo hi v ≡ Some e) (least greatest : ℤ) (keys : b ≡ true → (lo ≤ℤ greatest) × (least ≤ℤ hi)) where
  pub told_start : e.lo ≤ℤ greatest
  told_start = let same = same_entry b lo hi v e t in subst (λ (x : Entry ℕ). x.lo ≤ℤ greatest) same.1 (keys same.0).0

  pub told_end : least ≤ℤ e.hi
  told_end = let same = same_entry b lo hi v e t in subst (λ (x : Entry ℕ). least ≤ℤ x.hi) same.1 (keys same.0).1

pub piece_told : (X : Type 0) (b : Bool) (lo hi : ℤ) (v : ℕ) (o : Option (Entry ℕ)) (e : Entry ℕ) → told_entry b lo hi v ≡ Some e → o ≡ Some e → MatchBool b (o ≡ Some (entry lo hi v)) X
piece_told X true lo hi v o e t h = h ∙ sym t
piece_told X false lo hi v o e t h = absurd (cc)
