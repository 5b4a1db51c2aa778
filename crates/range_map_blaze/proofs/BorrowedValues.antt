-- Entries whose values are borrowed, and the entries with the values themselves.
use Rattle.range_map_blaze.proofs.Words.{option_or, ◌≡◌, ◌+◌, ℤ, Bool, true, false, cond, List, [], ◌∷◌, ◌++◌, length, map, Option, Some, None, refl, ◌∙◌, sym, ap, subst, arith, int_le, IsEquivalence, map-append, Bor, same_along, same_trans, Entry, at, holds, shown_entry, SameOption, SameEntries, shown_list, IsApart, IsCanonical, AreKeys, IsRangeMap, last_at, painted_in_order, content_as, length_as, canonical, one_per_run, back, keyed_count, IsCanonicalOf}
use Rattle.range_map_blaze.proofs.Streams.{range_map_as, same-push}

-- the entry with the value itself
abbrev pub itself : {V : Type 0} → Entry (Bor V) → Entry V
itself e = record { lo = e.lo; hi = e.hi; value = e.value.now }

abbrev value_of : {V : Type 0} → Option (Bor V) → Option V
value_of None = None
value_of (Some v) = Some v.now

-- equality of borrowed values is that of the values
abbrev pub borrowed_eq : {V : Type 0} → (V → V → Bool) → Bor V → Bor V → Bool
borrowed_eq eq x y = eq x.now y.now

module _ {V : Type 0} where
  pub listed_itself : {T : Type 0} (rank : T → ℤ) (xs : List (T × T × Bor V)) → map itself (shown_list rank xs) ≡ map (shown_entry rank (λ v. v.now)) xs
  listed_itself rank [] = refl
  listed_itself rank (x ∷ xs) = ap (λ es. shown_entry rank (λ v. v.now) x ∷ es) (listed_itself rank xs)

  value_of_cond : (b : Bool) (v : Bor V) (o : Option (Bor V)) → value_of (cond b (Some v) o) ≡ cond b (Some v.now) (value_of o)
  value_of_cond true v o = refl
  value_of_cond false v o = refl

  value_of_or : (a b : Option (Bor V)) → value_of (option_or a b) ≡ option_or (value_of a) (value_of b)
  value_of_or None b = refl
  value_of_or (Some v) b = refl

  at_itself : (es : List (Entry (Bor V))) (k : ℤ) → value_of (at es k) ≡ at (map itself es) k
  at_itself [] k = refl
  at_itself (e ∷ es) k = value_of_cond (holds e k) e.value (at es k) ∙ ap (λ o. cond (holds e k) (Some e.value.now) o) (at_itself es k)

  last_itself : (ps : List (Entry (Bor V))) (k : ℤ) → value_of (last_at ps k) ≡ last_at (map itself ps) k
  last_itself [] k = refl
  last_itself (p ∷ ps) k =
      let here = value_of_cond (holds p k) p.value None in
      value_of_or (last_at ps k) (cond (holds p k) (Some p.value) None)
      ∙ ap (λ o. option_or o (value_of (cond (holds p k) (Some p.value) None))) (last_itself ps k)
      ∙ ap (λ o. option_or (last_at (map itself ps) k) o) here

  painted_itself : (ps : List (Entry (Bor V))) (k : ℤ) → value_of (painted_in_order ps (at []) k) ≡ painted_in_order (map itself ps) (at []) k
  painted_itself ps k = value_of_or (last_at ps k) None ∙ ap (λ o. option_or o None) (last_itself ps k)

  keyed_itself : (ps : List (Entry (Bor V))) → keyed_count (map itself ps) ≡ keyed_count ps
  keyed_itself [] = refl
  keyed_itself (p ∷ ps) = ap (λ n. cond (int_le p.lo p.hi) 1 0 + n) (keyed_itself ps)

  length_itself : (ps : List (Entry (Bor V))) → length (map itself ps) ≡ length ps
  length_itself [] = refl
  length_itself (p ∷ ps) = omega (arith, length_itself ps)

  keys_itself : (low high : ℤ) (es : List (Entry (Bor V))) → AreKeys low high es → AreKeys low high (map itself es)
  keys_itself low high [] a = tt
  keys_itself low high (e ∷ es) a = (a.0, a.1, keys_itself low high es a.2)

module _ {V : Type 0} (eq : V → V → Bool) where
  same_itself : (x y : Option (Bor V)) → SameOption (borrowed_eq eq) x y → SameOption eq (value_of x) (value_of y)
  same_itself None None s = s
  same_itself None (Some y) s = s
  same_itself (Some x) None s = s
  same_itself (Some x) (Some y) s = s

  apart_itself : (e : Entry (Bor V)) (es : List (Entry (Bor V))) → IsApart (borrowed_eq eq) e es → IsApart eq (itself e) (map itself es)
  apart_itself e [] a = tt
  apart_itself e (f ∷ es) a = a

  canonical_itself : (es : List (Entry (Bor V))) → IsCanonical (borrowed_eq eq) es → IsCanonical eq (map itself es)
  canonical_itself [] c = tt
  canonical_itself (e ∷ es) c = (c.0, apart_itself e es c.1, canonical_itself es c.2)

  -- a borrowed value more, and a value equal to it
  pub cloned_more : {T : Type 0} (rank : T → ℤ) (xs : List (T × T × Bor V)) (es new : List (T × T × V)) (x : T × T × Bor V) (y : T × T × V) → new ≡ es ++ y ∷ [] → y.0 ≡ x.0 → y.1 ≡ x.1 → eq x.2.now y.2 ≡ true
      → SameEntries eq (map (shown_entry rank (λ v. v.now)) xs) (shown_list rank es) → SameEntries eq (map (shown_entry rank (λ v. v.now)) (xs ++ x ∷ [])) (shown_list rank new)
  cloned_more rank xs es new x y n lo hi v s =
      let all = ap (map (shown_entry rank (λ w. w))) n ∙ map-append (shown_entry rank (λ w. w)) es (y ∷ []) in
      subst (λ fs. SameEntries eq (map (shown_entry rank (λ w. w.now)) (xs ++ x ∷ [])) fs) (sym all)
      (subst (λ gs. SameEntries eq gs (shown_list rank es ++ shown_entry rank (λ w. w) y ∷ [])) (sym (map-append (shown_entry rank (λ w. w.now)) xs (x ∷ [])))
      (same-push eq (map (shown_entry rank (λ w. w.now)) xs) (shown_list rank es) (shown_entry rank (λ w. w.now) x) (shown_entry rank (λ w. w) y) s (ap rank (sym lo)) (ap rank (sym hi)) v))

  module _ (laws : IsEquivalence eq) where
    borrowed_laws : IsEquivalence (borrowed_eq eq)
    borrowed_laws = record { refl = λ x. laws.refl x.now; symm = λ x y. laws.symm x.now y.now; congr = λ x y z. laws.congr x.now y.now z.now }

    module _ (low high : ℤ) where
      range_map_itself : (es : List (Entry (Bor V))) → IsRangeMap (borrowed_eq eq) low high es → IsRangeMap eq low high (map itself es)
      range_map_itself es r = record {
        runs = one_per_run eq laws (map itself es) (canonical_itself es (canonical (borrowed_eq eq) borrowed_laws es r.runs));
        keys = keys_itself low high es r.keys;
      }

      -- the canonical list of pairs with borrowed values, and the one of the pairs with the values themselves
      pub canonical_of_itself : (ps es : List (Entry (Bor V))) → IsCanonicalOf (borrowed_eq eq) low high ps es → IsCanonicalOf eq low high (map itself ps) (map itself es)
      canonical_of_itself ps es c = record {
        range_map = range_map_itself es c.range_map;
        content = λ k. same_along eq (at_itself es k) (painted_itself ps k) (same_itself (at es k) (painted_in_order ps (at []) k) (c.content k));
        few = omega (arith, c.few, length_itself es, keyed_itself ps);
      }

      -- with clones of the values
      pub canonical_of_as : (ps es fs : List (Entry V)) → IsCanonicalOf eq low high ps es → SameEntries eq es fs → IsCanonicalOf eq low high ps fs
      canonical_of_as ps es fs c s = record {
        range_map = range_map_as eq laws low high es fs s c.range_map;
        content = λ k. same_trans eq laws (at fs k) (at es k) (painted_in_order ps (at []) k) (back eq laws es fs (content_as eq laws es fs s) k) (c.content k);
        few = omega (arith, c.few, length_as eq laws es fs s);
      }

      -- what the lists of the code say of these
      pub cloned_is : {T : Type 0} (rank : T → ℤ) (pairs borrowed : List (T × T × Bor V)) (new : List (Entry V)) → IsCanonicalOf (borrowed_eq eq) low high (shown_list rank pairs) (shown_list rank borrowed)
          → SameEntries eq (map (shown_entry rank (λ v. v.now)) borrowed) new → IsCanonicalOf eq low high (map (shown_entry rank (λ v. v.now)) pairs) new
      cloned_is rank pairs borrowed new c s =
          let d = canonical_of_itself (shown_list rank pairs) (shown_list rank borrowed) c in
          canonical_of_as (map (shown_entry rank (λ v. v.now)) pairs) (map (shown_entry rank (λ v. v.now)) borrowed) new
          (subst (λ es. IsCanonicalOf eq low high (map (shown_entry rank (λ v. v.now)) pairs) es) (listed_itself rank borrowed)
          (subst (λ qs. IsCanonicalOf eq low high qs (map itself (shown_list rank borrowed))) (listed_itself rank pairs) d))
          s
