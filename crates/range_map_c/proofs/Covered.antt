-- How many keys of a range the first rows of a table have.
use Rattle.std.proofs.Common.{◌≡◌, ℕ, zero, suc, ◌+◌, ◌<◌, ◌≤◌, ℤ, pos, ◌+ℤ◌, ◌-ℤ◌, ◌≤ℤ◌, ◌<ℤ◌, int_le, if◌then◌else◌, true, false, List, [], ◌∷◌, length, get_or, take, slice_index_or, refl, sym, ap, subst, ◌∙◌, arith}
use Rattle.std.proofs.lemmas.Int.{ints}
use Rattle.std.specs.Int.{int_max, int_min}
use Rattle.std.specs.Prelude.{unsigned_abs}
use Rattle.blaze_entries.specs.Entries.{Entry}
use Rattle.range_map_c.specs.Ordered.{AreOrdered, IsRankBelow}
use Rattle.blaze_entries.specs.Overlap.{covered_keys, overlap, shared_count}
use Rattle.range_map_c.specs.Tables.{rows}
use Rattle.range_map_c.proofs.InOrder.{no_row, row, row_is, length-rows, sorted, rows_apart}

shared_below : (l h a b : ℤ) → b <ℤ l → shared_count l h a b ≡ pos 0
shared_below l h a b under = grind (arith, ints)

shared_above : (l h a b : ℤ) → h <ℤ a → shared_count l h a b ≡ pos 0
shared_above l h a b over = grind (arith, ints)

-- the keys from x up to y are y - x and one
abbrev between : ℤ → ℤ → ℤ
between x y = if int_le x y then (y -ℤ x) +ℤ pos 1 else pos 0

counted_between : (x y : ℤ) (n : ℕ) → x ≤ℤ y → n ≡ unsigned_abs (y -ℤ x) → pos (n + 1) ≡ between x y
counted_between x y n le is =
    let test : int_le x y ≡ true = grind (arith, ints) in rw test (omega (arith, ints))

none_between : (x y : ℤ) → y <ℤ x → pos 0 ≡ between x y
none_between x y lt = let test : int_le x y ≡ false = grind (arith, ints) in rw test refl

module _ (l h a b x y : ℤ) (max : x ≡ int_max l a) (min : y ≡ int_min h b) where
  pub counted_shared : (n : ℕ) → x ≤ℤ y → n ≡ unsigned_abs (y -ℤ x) → pos (n + 1) ≡ shared_count l h a b
  counted_shared n le is = counted_between x y n le is ∙ ap (λ z. between z y) max ∙ ap (λ z. between (int_max l a) z) min

module _ {V : Type 0} (d : Entry V) (l h : ℤ) where
  covered_none : (es : List (Entry V)) → ((i : ℕ) → i < length es → overlap l h (get_or es i d) ≡ pos 0) → covered_keys l h es ≡ pos 0
  covered_none [] none = refl
  covered_none (e ∷ es) none =
      let a : overlap l h e ≡ pos 0 = none 0 (omega arith) in let b = covered_none es (λ i lt. none (suc i) (omega arith)) in omega (arith, ints)

  covered_begun : (es : List (Entry V)) (n : ℕ) → n ≤ length es → ((i : ℕ) → i < n → overlap l h (get_or es i d) ≡ pos 0) → covered_keys l h (take n es) ≡ pos 0
  covered_begun es zero le none = refl
  covered_begun [] (suc n) le none = refl
  covered_begun (e ∷ es) (suc n) le none =
      let a : overlap l h e ≡ pos 0 = none 0 (omega arith) in let b = covered_begun es n (omega arith) (λ i lt. none (suc i) (omega arith)) in omega (arith, ints)

  covered_more : (es : List (Entry V)) (n : ℕ) → n < length es → covered_keys l h (take (suc n) es) ≡ covered_keys l h (take n es) +ℤ overlap l h (get_or es n d)
  covered_more [] n lt = absurd (omega arith)
  covered_more (e ∷ es) zero lt = omega (arith, ints)
  covered_more (e ∷ es) (suc n) lt = let b = covered_more es n (omega arith) in omega (arith, ints)

  covered_done : (es : List (Entry V)) (n : ℕ) → ((i : ℕ) → n ≤ i → i < length es → overlap l h (get_or es i d) ≡ pos 0) → covered_keys l h (take n es) ≡ covered_keys l h es
  covered_done es zero none = sym (covered_none es (λ i lt. none i (omega arith) lt))
  covered_done [] (suc n) none = refl
  covered_done (e ∷ es) (suc n) none = let b = covered_done es n (λ i le lt. none (suc i) (omega arith) (omega arith)) in omega (arith, ints)

module _ (los his : List ℤ) (vs : List ℕ) (p : length his ≡ length los) (q : length vs ≡ length los) (l h : ℤ) where
  of_row : (P : Entry ℕ → Type 0) (i : ℕ) → P (row los his vs i) → P (get_or (rows los his vs) i no_row)
  of_row P i g = subst P (sym (row_is los his vs p q i)) g

  -- no row that ends below the range counts
  pub counted_begun : (n : ℕ) → IsRankBelow his l n → covered_keys l h (take n (rows los his vs)) ≡ pos 0
  counted_begun n r = covered_begun no_row l h (rows los his vs) n (let a = length-rows los his vs p q in let w = r.within in omega arith)
      (λ i lt. of_row (λ e. overlap l h e ≡ pos 0) i (shared_below l h _ _ (r.before i lt)))

  pub counted_more : (n : ℕ) → n < length los
      → covered_keys l h (take (n + 1) (rows los his vs)) ≡ covered_keys l h (take n (rows los his vs)) +ℤ shared_count l h (slice_index_or los n (pos 0)) (slice_index_or his n (pos 0))
  counted_more n lt =
      let next : suc n ≡ n + 1 = omega arith in
      subst (λ m. covered_keys l h (take m (rows los his vs)) ≡ covered_keys l h (take n (rows los his vs)) +ℤ shared_count l h (slice_index_or los n (pos 0)) (slice_index_or his n (pos 0))) next
      (covered_more no_row l h (rows los his vs) n (let a = length-rows los his vs p q in omega arith)
      ∙ ap (λ e. covered_keys l h (take n (rows los his vs)) +ℤ overlap l h e) (row_is los his vs p q n))

  -- no row from one on that starts above the range counts
  pub counted_done : AreOrdered (rows los his vs) → (n : ℕ) → (n < length los → h <ℤ slice_index_or los n (pos 0)) → covered_keys l h (take n (rows los his vs)) ≡ covered_keys l h (rows los his vs)
  counted_done o n above = covered_done no_row l h (rows los his vs) n
      (λ i le lt. of_row (λ e. overlap l h e ≡ pos 0) i (shared_above l h _ _
      (let m : i < length los = (let a = length-rows los his vs p q in omega arith) in
      let s = sorted los his (rows_apart los his vs p q o) n i le m in let b = above (omega arith) in omega (arith, ints))))
