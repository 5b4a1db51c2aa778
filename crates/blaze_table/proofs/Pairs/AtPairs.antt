-- A fact about each pair of a pair list, applied to the pairs of one entry and to one key.
use Rattle.blaze_table.proofs.Words.{ℕ, zero, suc, ℤ, pos, ◌+ℤ◌, ◌≤ℤ◌, ◌<ℤ◌, List, [], ◌∷◌, ◌++◌, subst, arith, All, ints, by_lt_z, All-nil, All-cons, All-head, All-tail, Entry, pairs_from, pairs_of, pair_list}
use Rattle.blaze_table.proofs.Pairs.PairLists.{pair_list-append}

module _ {X : Type 0} (P : X → Type 0) where
  all_front : (xs ys : List X) → All P (xs ++ ys) → All P xs
  all_front [] ys a = All-nil P
  all_front (x ∷ xs) ys a = All-cons P x xs (All-head P x (xs ++ ys) a) (all_front xs ys (All-tail P x (xs ++ ys) a))

  all_back : (xs ys : List X) → All P (xs ++ ys) → All P ys
  all_back [] ys a = a
  all_back (x ∷ xs) ys a = all_back xs ys (All-tail P x (xs ++ ys) a)

module _ {K V : Type 0} (of_rank : ℤ → K) (P : K × V → Type 0) where
  -- the pair of a key, among n keys from a on
  pub all_at : (a : ℤ) (n : ℕ) (v : V) (k : ℤ) → All P (pairs_from of_rank a n v) → a ≤ℤ k → k <ℤ (a +ℤ pos n) → P (of_rank k, v)
  all_at a zero v k h l m = absurd (omega (arith, ints))
  all_at a (suc n) v k h l m = by_lt_z a k
      (λ u. all_at (a +ℤ pos 1) n v k (All-tail P _ _ h) (omega (arith, ints)) (omega (arith, ints)))
      (λ u. subst (λ j. P (of_rank j, v)) (omega (arith, ints)) (All-head P _ _ h))

  -- the pairs of an entry
  pub all_pairs : (done : List (Entry V)) (e : Entry V) (rest : List (Entry V)) → All P (pair_list of_rank (done ++ e ∷ rest)) → All P (pairs_of of_rank e)
  all_pairs done e rest h =
      let here = all_back P (pair_list of_rank done) (pair_list of_rank (e ∷ rest)) (subst (All P) (pair_list-append of_rank done (e ∷ rest)) h) in
      all_front P (pairs_of of_rank e) (pair_list of_rank rest) here
