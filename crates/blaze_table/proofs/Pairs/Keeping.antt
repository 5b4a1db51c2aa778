-- Keys appended to a list one by one: the pairs that remain of those that a closure was called with.
use Rattle.blaze_table.proofs.Words.{nat_of, option_or, ◌≡◌, ℕ, ◌+◌, ℤ, pos, ◌+ℤ◌, ◌-ℤ◌, ◌≤ℤ◌, Bool, true, false, cond, List, [], ◌∷◌, ◌++◌, Some, None, refl, ap, sym, ◌∙◌, subst, arith, int_eq, IsEquivalence, items_where_true, ints, by_lt_z, nat_of-pos, returns-push, picked-push_true, picked-push_false, same_along, same_trans, same_or, Entry, entry, at, SameOption, IsCanonical, AreKeys, keys_in, AddsKey, IsKept, KeepsMore, pairs_from, pairs_of, pair_list, value_at, glue, IsBelow, IsTable, keys_glue, are_keys_glue, some_keys, IsAbove, IsAbove-from_apart, at_in, at_under, at_over, above_low, canonical_glue, at_glue, below_glue, below_more}
use Rattle.std.proofs.Common.{append_assoc, append-nil}
use Rattle.std.proofs.lemmas.List.{length-append}
use Rattle.blaze_table.proofs.Pairs.PairLists.{pairs_append, pair_list-push}
use Rattle.blaze_table.proofs.Cuts.Splits.{canonical_part}

-- the number of keys of a list with one more key
pub keys_added : {V : Type 0} (eq : V → V → Bool) (k : ℤ) (v : V) (old new : List (Entry V)) → AddsKey eq k v old new → keys_in new ≡ keys_in old +ℤ pos 1
keys_added eq k v old new a = ap keys_in a.glued ∙ omega (arith, ints, keys_glue eq old (entry k k a.value ∷ []))

value_at-push : {T V : Type 0} (rank : T → ℤ) (ps : List (T × V)) (p : T × V) (k : ℤ) → value_at rank (ps ++ p ∷ []) k ≡ option_or (value_at rank ps k) (cond (int_eq k (rank p.0)) (Some p.1) None)
value_at-push rank [] p k = refl
value_at-push rank (q ∷ ps) p k = first (int_eq k (rank q.0)) (value_at-push rank ps p k)
  where
    first : (b : Bool) → value_at rank (ps ++ p ∷ []) k ≡ option_or (value_at rank ps k) (cond (int_eq k (rank p.0)) (Some p.1) None) → cond b (Some q.1) (value_at rank (ps ++ p ∷ []) k) ≡ option_or (cond b (Some q.1) (value_at rank ps k)) (cond (int_eq k (rank p.0)) (Some p.1) None)
    first true e = refl
    first false e = e

module _ {F T V : Type 0} (R : F → T × V → Bool → F → Type 0) (f : F) (rank : T → ℤ) (eq : V → V → Bool) (low high : ℤ) where
  pub kept_none : (b : ℤ) → IsKept R f rank eq low high [] b []
  kept_none b = record {
    answers = [];
    long = refl;
    returns = refl;
    canonical = tt;
    are_keys = tt;
    below = tt;
    content = λ k. tt;
  }

  pub kept_below : (pairs : List (T × V)) (b c : ℤ) (es : List (Entry V)) → b ≤ℤ c → IsKept R f rank eq low high pairs b es → IsKept R f rank eq low high pairs c es
  kept_below pairs b c es l h = record {
    answers = h.answers;
    long = h.long;
    returns = h.returns;
    canonical = h.canonical;
    are_keys = h.are_keys;
    below = below_more b c es l h.below;
    content = h.content;
  }

  -- one part of the pairs, and then another part
  pub more_both : (xs ys : List (T × V)) (a b c d : ℤ) (old mid new : List (Entry V)) → b ≤ℤ c → KeepsMore R f rank eq low high xs a b old mid → KeepsMore R f rank eq low high ys c d mid new → KeepsMore R f rank eq low high (xs ++ ys) a d old new
  more_both xs ys a b c d old mid new l p q pairs h = subst (λ ps. IsKept R f rank eq low high ps d new) (append_assoc pairs xs ys) (q (pairs ++ xs) (kept_below (pairs ++ xs) b c mid l (p pairs h)))

  -- the closure returns false at one more pair
  pub more_no : (p : T × V) (b : ℤ) (es : List (Entry V)) → R f p false f → KeepsMore R f rank eq low high (p ∷ []) b (b +ℤ pos 1) es es
  more_no p b es r pairs h = record {
    answers = h.answers ++ false ∷ [];
    long = omega (arith, h.long, length-append h.answers (false ∷ []), length-append pairs (p ∷ []));
    returns = returns-push R f f f h.answers pairs false p h.long h.returns r;
    canonical = h.canonical;
    are_keys = h.are_keys;
    below = below_more b (b +ℤ pos 1) es (omega (arith, ints)) h.below;
    content = λ k. subst (λ ps. SameOption eq (at es k) (value_at rank ps k)) (sym (picked-push_false h.answers pairs p h.long)) (h.content k);
  }

  module _ (laws : IsEquivalence eq) where
    one_key : (k j : ℤ) (v w : V) → eq v w ≡ true → SameOption eq (at (entry k k w ∷ []) j) (cond (int_eq j k) (Some v) None)
    one_key k j v w e = by_lt_z j k
        (λ l. same_along eq (sym (at_under (entry k k w) [] j l)) (none_there (omega (arith, ints))) tt)
        (λ l. by_lt_z k j
        (λ m. same_along eq (sym (at_over (entry k k w) [] j m)) (none_there (omega (arith, ints))) tt)
        (λ m. same_along eq (sym (at_in (entry k k w) [] j l m)) (some_there (omega (arith, ints))) (laws.symm w v ∙ e)))
      where
        none_there : (j ≡ k → ⊥) → None ≡ cond (int_eq j k) (Some v) None
        none_there n = grind (arith, ints)

        some_there : j ≡ k → Some v ≡ cond (int_eq j k) (Some v) None
        some_there p = grind (arith, ints)

    -- the closure returns true at one more pair, whose key k is appended to the list
    pub more_yes : (p : T × V) (k : ℤ) (es new : List (Entry V)) → rank p.0 ≡ k → low ≤ℤ k → k ≤ℤ high → R f p true f → AddsKey eq k p.1 es new → KeepsMore R f rank eq low high (p ∷ []) k (k +ℤ pos 1) es new
    more_yes p k es new is from to r a pairs h =
        let one = entry k k a.value ∷ [] in
        let canonical = canonical_glue eq laws (k -ℤ pos 1) es one h.canonical (omega (arith, ints), tt, tt) (below_more k (k -ℤ pos 1 +ℤ pos 1) es (omega (arith, ints)) h.below) (omega (arith, ints)) in
        let like : (j : ℤ) → SameOption eq (at (glue eq es one) j) (option_or (value_at rank (items_where_true h.answers pairs) j) (cond (int_eq j k) (Some p.1) None)) = λ j.
        same_trans eq laws _ _ _ (at_glue eq laws es one j h.canonical (omega (arith, ints), tt, tt)) (same_or eq (at es j) _ (at one j) _ (h.content j) (one_key k j p.1 a.value a.like)) in
        let value : (j : ℤ) → value_at rank (items_where_true (h.answers ++ true ∷ []) (pairs ++ p ∷ [])) j ≡ option_or (value_at rank (items_where_true h.answers pairs) j) (cond (int_eq j k) (Some p.1) None) = λ j.
        ap (λ ps. value_at rank ps j) (picked-push_true h.answers pairs p h.long) ∙ value_at-push rank (items_where_true h.answers pairs) p j ∙ ap (λ z. option_or (value_at rank (items_where_true h.answers pairs) j) (cond (int_eq j z) (Some p.1) None)) is in
        record {
          answers = h.answers ++ true ∷ [];
          long = omega (arith, h.long, length-append h.answers (true ∷ []), length-append pairs (p ∷ []));
          returns = returns-push R f f f h.answers pairs true p h.long h.returns r;
          canonical = subst (IsCanonical eq) (sym a.glued) canonical;
          are_keys = subst (AreKeys low high) (sym a.glued) (are_keys_glue eq low high es one h.are_keys (from, to, tt));
          below = subst (IsBelow (k +ℤ pos 1)) (sym a.glued) (below_glue eq (k +ℤ pos 1) es one (below_more k (k +ℤ pos 1) es (omega (arith, ints)) h.below) (omega (arith, ints), tt));
          content = λ j. same_along eq (ap (λ l. at l j) (sym a.glued)) (sym (value j)) (like j);
        }

  -- no keys
  pub more_none : (of_rank : ℤ → T) (lo : ℤ) (v : V) (es : List (Entry V)) → KeepsMore R f rank eq low high (pairs_from of_rank lo (nat_of (lo -ℤ lo)) v) lo lo es es
  more_none of_rank lo v es pairs h =
      let none : lo -ℤ lo ≡ pos 0 = omega (arith, ints) in
      subst (λ n. IsKept R f rank eq low high (pairs ++ pairs_from of_rank lo (nat_of n) v) lo es) (sym none)
      (subst (λ ps. IsKept R f rank eq low high ps lo es) (sym (append-nil pairs)) h)

  -- the keys from lo to before k, and then k
  pub more_next : (of_rank : ℤ → T) (lo k next : ℤ) (v : V) (old mid new : List (Entry V)) → lo ≤ℤ k → next ≡ k +ℤ pos 1
      → KeepsMore R f rank eq low high (pairs_from of_rank lo (nat_of (k -ℤ lo)) v) lo k old mid → KeepsMore R f rank eq low high (pairs_from of_rank k 1 v) k (k +ℤ pos 1) mid new
      → KeepsMore R f rank eq low high (pairs_from of_rank lo (nat_of (next -ℤ lo)) v) lo next old new
  more_next of_rank lo k next v old mid new l e p q =
      let m : ℕ = nat_of (k -ℤ lo) in
      let is : pos m ≡ k -ℤ lo = nat_of-pos (k -ℤ lo) (omega (arith, ints)) in
      let here : lo +ℤ pos m ≡ k = omega (arith, ints) in
      let long : next -ℤ lo ≡ pos (1 + m) = omega (arith, ints) in
      let all : pairs_from of_rank lo (nat_of (next -ℤ lo)) v ≡ pairs_from of_rank lo m v ++ pairs_from of_rank k 1 v =
      ap (λ n. pairs_from of_rank lo n v) (ap nat_of long) ∙ pairs_append of_rank lo m 1 v ∙ ap (λ b. pairs_from of_rank lo m v ++ pairs_from of_rank b 1 v) here in
      subst (λ b. KeepsMore R f rank eq low high (pairs_from of_rank lo (nat_of (next -ℤ lo)) v) lo b old new) (sym e)
      (subst (λ ps. KeepsMore R f rank eq low high ps lo (k +ℤ pos 1) old new) (sym all)
      (more_both (pairs_from of_rank lo m v) (pairs_from of_rank k 1 v) lo k k (k +ℤ pos 1) old mid new (omega (arith, ints)) p q))

  -- the entries before the remaining ones were visited, and the list has the pairs of theirs that remain
  pub record IsReached (of_rank : ℤ → T) (all left : List (Entry V)) (len : ℤ) (es : List (Entry V)) : Type 0 where
    pub canonical : IsCanonical eq all
    pub done : List (Entry V)
    pub parts : all ≡ done ++ left
    pub end : ℤ
    pub kept : IsKept R f rank eq low high (pair_list of_rank done) end es
    pub above : IsAbove (end -ℤ pos 1) left
    pub counted : len ≡ keys_in es +ℤ keys_in left

  pub reached_none : (of_rank : ℤ → T) (all : List (Entry V)) (len : ℕ) → IsTable eq low high len all → IsReached of_rank all all (pos len) []
  reached_none of_rank all len t = record {
    canonical = t.canonical;
    done = [];
    parts = refl;
    end = low;
    kept = kept_none low;
    above = above_low low high all t.are_keys;
    counted = omega (arith, ints, t.counted);
  }

  module _ (of_rank : ℤ → T) (all : List (Entry V)) (e : Entry V) (rest : List (Entry V)) (len : ℤ) (es : List (Entry V)) (h : IsReached of_rank all (e ∷ rest) len es) where
    here : IsCanonical eq (e ∷ rest)
    here = canonical_part eq h.done (e ∷ rest) (subst (IsCanonical eq) h.parts h.canonical)

    pub reached_order : e.lo ≤ℤ e.hi
    reached_order = here.0

    pub reached_room : (e.hi -ℤ e.lo +ℤ pos 1) ≤ℤ len
    reached_room = omega (arith, ints, h.counted, some_keys eq es h.kept.canonical, some_keys eq rest here.2)

    pub reached_more : (next : ℤ) (new : List (Entry V)) → KeepsMore R f rank eq low high (pairs_of of_rank e) e.lo (e.hi +ℤ pos 1) es new
        → next +ℤ keys_in es +ℤ (e.hi -ℤ e.lo +ℤ pos 1) ≡ len +ℤ keys_in new → IsReached of_rank all rest next new
    reached_more next new m q = record {
      canonical = h.canonical;
      done = h.done ++ e ∷ [];
      parts = h.parts ∙ sym (append_assoc h.done (e ∷ []) rest);
      end = e.hi +ℤ pos 1;
      kept = subst (λ ps. IsKept R f rank eq low high ps (e.hi +ℤ pos 1) new) (sym (pair_list-push of_rank h.done e))
          (m (pair_list of_rank h.done) (kept_below _ h.end e.lo es (omega (arith, ints, h.above)) h.kept));
      above = subst (λ b. IsAbove b rest) (omega (arith, ints)) (IsAbove-from_apart eq e rest here.1);
      counted = omega (arith, ints, h.counted);
    }

  -- all entries were visited
  module _ (of_rank : ℤ → T) (all : List (Entry V)) (len : ℤ) (es : List (Entry V)) (h : IsReached of_rank all [] len es) where
    pub reached_table : (n : ℕ) → pos n ≡ len → IsTable eq low high n es
    reached_table n p = record {
      canonical = h.kept.canonical;
      are_keys = h.kept.are_keys;
      counted = omega (arith, ints, p, h.counted);
    }

    pub reached_pairs : IsKept R f rank eq low high (pair_list of_rank all) h.end es
    reached_pairs = subst (λ l. IsKept R f rank eq low high (pair_list of_rank l) h.end es) (sym (h.parts ∙ append-nil h.done)) h.kept
