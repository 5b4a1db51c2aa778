-- Pair lists, split at either end, and their content.
use Rattle.blaze_table.proofs.Words.{nat_of, ◌≡◌, ℕ, zero, suc, ◌+◌, ℤ, pos, ◌+ℤ◌, ◌-ℤ◌, ◌≤ℤ◌, ◌<ℤ◌, List, [], ◌∷◌, ◌++◌, refl, ap, sym, ◌∙◌, arith, ints, nat_of-pos, Entry, pairs_from, pairs_of, pair_list}
use Rattle.std.proofs.Common.{append_assoc, append-nil}

pub nat_of-next : (z : ℤ) → pos 0 ≤ℤ z → nat_of (z +ℤ pos 1) ≡ suc (nat_of z)
nat_of-next z h =
    let is = nat_of-pos z h in
    let more : z +ℤ pos 1 ≡ pos (suc (nat_of z)) = omega (arith, ints) in
    ap nat_of more

module _ {K V : Type 0} (of_rank : ℤ → K) where
  pub pairs_append : (a : ℤ) (m n : ℕ) (v : V) → pairs_from of_rank a (n + m) v ≡ pairs_from of_rank a m v ++ pairs_from of_rank (a +ℤ pos m) n v
  pairs_append a zero n v =
      let none : n + 0 ≡ n = omega arith in
      let e : a ≡ a +ℤ pos 0 = omega (arith, ints) in
      ap (λ k. pairs_from of_rank a k v) none ∙ ap (λ b. pairs_from of_rank b n v) e
  pairs_append a (suc m) n v =
      let one : n + suc m ≡ suc (n + m) = omega arith in
      let e : (a +ℤ pos 1) +ℤ pos m ≡ a +ℤ pos (suc m) = omega (arith, ints) in
      ap (λ k. pairs_from of_rank a k v) one
      ∙ ap (λ t. (of_rank a, v) ∷ t) (pairs_append (a +ℤ pos 1) m n v ∙ ap (λ b. pairs_from of_rank (a +ℤ pos 1) m v ++ pairs_from of_rank b n v) e)

  -- the first pair of a range of several keys, and the others
  pub pairs_first : (lo hi : ℤ) (v : V) → lo <ℤ hi → pairs_from of_rank lo (nat_of (hi -ℤ lo +ℤ pos 1)) v ≡ (of_rank lo, v) ∷ pairs_from of_rank (lo +ℤ pos 1) (nat_of (hi -ℤ (lo +ℤ pos 1) +ℤ pos 1)) v
  pairs_first lo hi v h =
      let e : hi -ℤ lo +ℤ pos 1 ≡ (hi -ℤ (lo +ℤ pos 1) +ℤ pos 1) +ℤ pos 1 = omega (arith, ints) in
      ap (λ n. pairs_from of_rank lo n v) (ap nat_of e ∙ nat_of-next (hi -ℤ (lo +ℤ pos 1) +ℤ pos 1) (omega (arith, ints)))

  -- the last pair, and the others
  pub pairs_last : (lo before : ℤ) (v : V) → lo ≤ℤ before → pairs_from of_rank lo (nat_of (before +ℤ pos 1 -ℤ lo +ℤ pos 1)) v ≡ pairs_from of_rank lo (nat_of (before -ℤ lo +ℤ pos 1)) v ++ (of_rank (before +ℤ pos 1), v) ∷ []
  pairs_last lo before v h =
      let n : ℕ = nat_of (before -ℤ lo +ℤ pos 1) in
      let is : pos n ≡ before -ℤ lo +ℤ pos 1 = nat_of-pos (before -ℤ lo +ℤ pos 1) (omega (arith, ints)) in
      let more : before +ℤ pos 1 -ℤ lo +ℤ pos 1 ≡ pos (1 + n) = omega (arith, ints) in
      let end : lo +ℤ pos n ≡ before +ℤ pos 1 = omega (arith, ints) in
      ap (λ m. pairs_from of_rank lo m v) (ap nat_of more) ∙ pairs_append lo n 1 v ∙ ap (λ b. pairs_from of_rank lo n v ++ (of_rank b, v) ∷ []) end

  -- the pairs of a range of one key
  pub pairs_one : (a : ℤ) (v : V) → pairs_from of_rank a (nat_of (a -ℤ a +ℤ pos 1)) v ≡ (of_rank a, v) ∷ []
  pairs_one a v = let one : a -ℤ a +ℤ pos 1 ≡ pos 1 = omega (arith, ints) in ap (λ n. pairs_from of_rank a n v) (ap nat_of one)

  pub pair_list-append : (es fs : List (Entry V)) → pair_list of_rank (es ++ fs) ≡ pair_list of_rank es ++ pair_list of_rank fs
  pair_list-append [] fs = refl
  pair_list-append (e ∷ es) fs = ap (λ t. pairs_of of_rank e ++ t) (pair_list-append es fs) ∙ sym (append_assoc (pairs_of of_rank e) (pair_list of_rank es) (pair_list of_rank fs))

  pub pair_list-push : (es : List (Entry V)) (e : Entry V) → pair_list of_rank (es ++ e ∷ []) ≡ pair_list of_rank es ++ pairs_of of_rank e
  pair_list-push es e = pair_list-append es (e ∷ []) ∙ ap (λ t. pair_list of_rank es ++ t) (append-nil (pairs_of of_rank e))
