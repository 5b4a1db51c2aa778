-- The pair list of a range map is its content, key by key.
use Rattle.blaze_table.proofs.Words.{nat_of, option_or, ◌≡◌, ℕ, zero, suc, ℤ, pos, ◌+ℤ◌, ◌-ℤ◌, ◌≤ℤ◌, ◌<ℤ◌, Bool, true, false, cond, List, [], ◌∷◌, ◌++◌, length, Option, Some, None, refl, ap, sym, ◌∙◌, subst, arith, int_eq, IsEquivalence, ints, by_lt_z, nat_of-pos, Entry, at, IsCanonical, AreKeys, keys_in, PairsAreContent, pairs_from, pairs_of, pair_list, value_at, IsAscendingPairs, IsAbove, IsAbove-from_apart, at_in, at_under, at_over, by_place, above_low, canonical}
use Rattle.std.proofs.lemmas.List.{length-append}

-- the n numbers from a on are the ranks of keys
abbrev pub AreRanks : {K : Type 0} → (K → ℤ) → (ℤ → K) → ℤ → ℕ → Type 0
AreRanks rank of_rank a n = (z : ℤ) → a ≤ℤ z → z <ℤ (a +ℤ pos n) → rank (of_rank z) ≡ z

module _ {K V : Type 0} (rank : K → ℤ) (of_rank : ℤ → K) where
  -- the first pair is above b
  abbrev pub ArePairsAbove : ℤ → List (K × V) → Type 0
  ArePairsAbove b [] = Unit {0}
  ArePairsAbove b (p ∷ ps) = b <ℤ rank p.0

  ascending_cons : (p : K × V) (ps : List (K × V)) → ArePairsAbove (rank p.0) ps → IsAscendingPairs rank ps → IsAscendingPairs rank (p ∷ ps)
  ascending_cons p [] a h = tt
  ascending_cons p (q ∷ ps) a h = (a, h)

  -- n keys from a on, and then other keys above them
  ascending_from : (a : ℤ) (n : ℕ) (v : V) (rest : List (K × V)) → AreRanks rank of_rank a n → ArePairsAbove (a +ℤ pos n -ℤ pos 1) rest → IsAscendingPairs rank rest
      → ArePairsAbove (a -ℤ pos 1) (pairs_from of_rank a n v ++ rest) × IsAscendingPairs rank (pairs_from of_rank a n v ++ rest)
  ascending_from a zero v rest r f h = let e : a +ℤ pos 0 -ℤ pos 1 ≡ a -ℤ pos 1 = omega (arith, ints) in (subst (λ b. ArePairsAbove b rest) e f, h)
  ascending_from a (suc n) v rest r f h =
      let e : a +ℤ pos (suc n) -ℤ pos 1 ≡ (a +ℤ pos 1) +ℤ pos n -ℤ pos 1 = omega (arith, ints) in
      let i = ascending_from (a +ℤ pos 1) n v rest (λ z l m. r z (omega (arith, ints)) (omega (arith, ints))) (subst (λ b. ArePairsAbove b rest) e f) h in
      let is : rank (of_rank a) ≡ a = r a (omega (arith, ints)) (omega (arith, ints)) in
      let next : (a +ℤ pos 1) -ℤ pos 1 ≡ rank (of_rank a) = omega (arith, ints, is) in
      (omega (arith, ints, is), ascending_cons (of_rank a, v) _ (subst (λ b. ArePairsAbove b (pairs_from of_rank (a +ℤ pos 1) n v ++ rest)) next i.0) i.1)

  -- the value of a list of pairs at a key, by its parts
  value_at-append : (ps qs : List (K × V)) (k : ℤ) → value_at rank (ps ++ qs) k ≡ option_or (value_at rank ps k) (value_at rank qs k)
  value_at-append [] qs k = refl
  value_at-append (p ∷ ps) qs k = first (int_eq k (rank p.0)) (value_at-append ps qs k)
    where
      first : (b : Bool) → value_at rank (ps ++ qs) k ≡ option_or (value_at rank ps k) (value_at rank qs k) → cond b (Some p.1) (value_at rank (ps ++ qs) k) ≡ option_or (cond b (Some p.1) (value_at rank ps k)) (value_at rank qs k)
      first true e = refl
      first false e = e

  at_itself : (k j : ℤ) (x : Option V) (v : V) → k ≡ j → cond (int_eq k j) (Some v) x ≡ Some v
  at_itself k j x v e = grind (arith, ints)

  at_other : (k j : ℤ) (x : Option V) (v : V) → (k ≡ j → ⊥) → cond (int_eq k j) (Some v) x ≡ x
  at_other k j x v n = grind (arith, ints)

  value_inside : (a : ℤ) (n : ℕ) (v : V) (k : ℤ) → AreRanks rank of_rank a n → a ≤ℤ k → k <ℤ (a +ℤ pos n) → value_at rank (pairs_from of_rank a n v) k ≡ Some v
  value_inside a zero v k r l h = absurd (omega (arith, ints))
  value_inside a (suc n) v k r l h =
      let is : rank (of_rank a) ≡ a = r a (omega (arith, ints)) (omega (arith, ints)) in
      by_lt_z a k
      (λ m. at_other k (rank (of_rank a)) _ v (λ e. absurd (omega (arith, ints, is, e))) ∙ value_inside (a +ℤ pos 1) n v k (λ z i j. r z (omega (arith, ints)) (omega (arith, ints))) (omega (arith, ints)) (omega (arith, ints)))
      (λ m. at_itself k (rank (of_rank a)) _ v (omega (arith, ints, is)))

  value_under : (a : ℤ) (n : ℕ) (v : V) (k : ℤ) → AreRanks rank of_rank a n → k <ℤ a → value_at rank (pairs_from of_rank a n v) k ≡ None
  value_under a zero v k r l = refl
  value_under a (suc n) v k r l =
      let is : rank (of_rank a) ≡ a = r a (omega (arith, ints)) (omega (arith, ints)) in
      at_other k (rank (of_rank a)) _ v (λ e. absurd (omega (arith, ints, is, e))) ∙ value_under (a +ℤ pos 1) n v k (λ z i j. r z (omega (arith, ints)) (omega (arith, ints))) (omega (arith, ints))

  value_over : (a : ℤ) (n : ℕ) (v : V) (k : ℤ) → AreRanks rank of_rank a n → (a +ℤ pos n) ≤ℤ k → value_at rank (pairs_from of_rank a n v) k ≡ None
  value_over a zero v k r l = refl
  value_over a (suc n) v k r l =
      let is : rank (of_rank a) ≡ a = r a (omega (arith, ints)) (omega (arith, ints)) in
      at_other k (rank (of_rank a)) _ v (λ e. absurd (omega (arith, ints, is, e))) ∙ value_over (a +ℤ pos 1) n v k (λ z i j. r z (omega (arith, ints)) (omega (arith, ints))) (omega (arith, ints))

  pairs_long : (a : ℤ) (n : ℕ) (v : V) → length (pairs_from of_rank a n v) ≡ n
  pairs_long a zero v = refl
  pairs_long a (suc n) v = ap suc (pairs_long (a +ℤ pos 1) n v)

  module _ (eq : V → V → Bool) (low high : ℤ) (ranks : (z : ℤ) → low ≤ℤ z → z ≤ℤ high → rank (of_rank z) ≡ z) where
    abbrev pub keys_of : Entry V → ℕ
    keys_of e = nat_of (e.hi -ℤ e.lo +ℤ pos 1)

    keys_end : (e : Entry V) → e.lo ≤ℤ e.hi → e.lo +ℤ pos (keys_of e) ≡ e.hi +ℤ pos 1
    keys_end e w = let is = nat_of-pos (e.hi -ℤ e.lo +ℤ pos 1) (omega (arith, ints)) in omega (arith, ints, is)

    among : (e : Entry V) → e.lo ≤ℤ e.hi → low ≤ℤ e.lo → e.hi ≤ℤ high → AreRanks rank of_rank e.lo (keys_of e)
    among e w f t z l h = ranks z (omega (arith, ints)) (omega (arith, ints, keys_end e w))

    ascending_list : (es : List (Entry V)) (b : ℤ) → IsCanonical eq es → AreKeys low high es → IsAbove b es → ArePairsAbove b (pair_list of_rank es) × IsAscendingPairs rank (pair_list of_rank es)
    ascending_list [] b c k a = (tt, tt)
    ascending_list (e ∷ es) b c k a =
        let i = ascending_list es e.hi c.2 k.2 (IsAbove-from_apart eq e es c.1) in
        let end : e.hi ≡ e.lo +ℤ pos (keys_of e) -ℤ pos 1 = omega (arith, ints, keys_end e c.0) in
        let r = ascending_from e.lo (keys_of e) e.value (pair_list of_rank es) (among e c.0 k.0 k.1) (subst (λ x. ArePairsAbove x (pair_list of_rank es)) end i.0) i.1 in
        (further (e.lo -ℤ pos 1) b _ (omega (arith, ints)) r.0, r.1)
      where
        further : (c d : ℤ) (ps : List (K × V)) → d ≤ℤ c → ArePairsAbove c ps → ArePairsAbove d ps
        further c d [] l h = tt
        further c d (p ∷ ps) l h = omega (arith, ints, h)

    same_list : (es : List (Entry V)) (k : ℤ) → IsCanonical eq es → AreKeys low high es → value_at rank (pair_list of_rank es) k ≡ at es k
    same_list [] k c h = refl
    same_list (e ∷ es) k c h =
        let r = among e c.0 h.0 h.1 in
        let i = same_list es k c.2 h.2 in
        value_at-append (pairs_of of_rank e) (pair_list of_rank es) k ∙ by_place e k
        (λ l m. ap (λ o. option_or o (value_at rank (pair_list of_rank es) k)) (value_inside e.lo (keys_of e) e.value k r l (omega (arith, ints, keys_end e c.0))) ∙ sym (at_in e es k l m))
        (λ l. ap (λ o. option_or o (value_at rank (pair_list of_rank es) k)) (value_under e.lo (keys_of e) e.value k r l) ∙ i ∙ sym (at_under e es k l))
        (λ l. ap (λ o. option_or o (value_at rank (pair_list of_rank es) k)) (value_over e.lo (keys_of e) e.value k r (omega (arith, ints, keys_end e c.0))) ∙ i ∙ sym (at_over e es k l))

    long_list : (es : List (Entry V)) → IsCanonical eq es → pos (length (pair_list of_rank es)) ≡ keys_in es
    long_list [] c = refl
    long_list (e ∷ es) c =
        omega (arith, ints, length-append (pairs_of of_rank e) (pair_list of_rank es), pairs_long e.lo (keys_of e) e.value, keys_end e c.0, long_list es c.2)

    pub pairs_are_content : IsEquivalence eq → PairsAreContent rank of_rank eq low high
    pairs_are_content laws es m =
        let c = canonical eq laws es m.runs in
        (record { ascending = (ascending_list es (low -ℤ pos 1) c m.keys (above_low low high es m.keys)).1; same = λ k. same_list es k c m.keys }, long_list es c)
