-- Ranges that a lookup skips, up to a key.
use Rattle.blaze_streams.proofs.Words.{int_max, ◌≡◌, ◌≤◌, ℤ, ◌≤ℤ◌, Bool, List, [], ◌∷◌, ◌++◌, length, refl, ◌∙◌, sym, ap, subst, append_assoc, arith, IsEquivalence, ints, by_lt_z, length-append, AreKeys, IsCanonical, IsRangeMap, ending_from, Entry, after, IsBelow, IsAbove-from_apart, IsRangeMap-rest, ending_all, ending_skips, ending_takes, after_skips, below_more, IsLastPart, IsSought}

-- a suffix without its first item is a suffix
pub part_rest : {A : Type 0} (list rest : List A) (x : A) → IsLastPart list (x ∷ rest) → IsLastPart list rest
part_rest list rest x p = record { gone = p.gone ++ x ∷ []; parts = p.parts ∙ sym (append_assoc p.gone (x ∷ []) rest) }

-- a suffix of a suffix is a suffix
part_part : {A : Type 0} (list rest found : List A) → IsLastPart list rest → IsLastPart rest found → IsLastPart list found
part_part list rest found p q = record { gone = p.gone ++ q.gone; parts = p.parts ∙ ap (λ l. p.gone ++ l) q.parts ∙ sym (append_assoc p.gone q.gone found) }

pub all_sought : {V : Type 0} (k : ℤ) (rest : List (Entry V)) → IsSought k rest rest
all_sought k rest = record { gone = []; parts = refl; below = tt }

-- the part above the key is the same, and has no more ranges
pub sought_same : {V : Type 0} (k : ℤ) (old new : List (Entry V)) → IsSought k old new → after k new ≡ after k old
sought_same {V} k old new s = sym (ap (after k) s.parts ∙ passed s.gone s.below)
  where
    passed : (gone : List (Entry V)) → IsBelow k gone → after k (gone ++ new) ≡ after k new
    passed [] b = refl
    passed (e ∷ es) b = let l = b.0 in after_skips k e (es ++ new) (omega (arith, ints, l)) ∙ passed es b.1

pub sought_fewer : {V : Type 0} (k : ℤ) (old new : List (Entry V)) → IsSought k old new → length new ≤ length old
sought_fewer k old new s = omega (arith, ap length s.parts ∙ length-append s.gone new)

module _ {V : Type 0} (eq : V → V → Bool) where
  ending_first : (t : ℤ) (e : Entry V) (es : List (Entry V)) → IsCanonical eq (e ∷ es) → t ≤ℤ e.hi → ending_from t (e ∷ es) ≡ e ∷ es
  ending_first t e es c l = ending_takes t e es l ∙ ap (λ xs. e ∷ xs) (ending_all eq t e.hi es c.2 l (IsAbove-from_apart eq e es c.1))

  ending_sought : (t : ℤ) (es : List (Entry V)) → IsCanonical eq es → IsSought t es (ending_from t es)
  ending_sought t [] c = all_sought t []
  ending_sought t (e ∷ es) c = by_lt_z e.hi t
      (λ l. let found = ending_sought t es c.2 in
      rw (ending_skips t e es l) (record { gone = e ∷ found.gone; parts = ap (λ xs. e ∷ xs) found.parts; below = (l, found.below) }))
      (λ l. rw (ending_first t e es c l) (all_sought t (e ∷ es)))

  -- the ranges before a range end below it
  below_next : (gone rest : List (Entry V)) (e : Entry V) → IsCanonical eq (gone ++ e ∷ rest) → IsBelow e.lo gone × IsCanonical eq (e ∷ rest)
  below_next [] rest e c = (tt, c)
  below_next (d ∷ []) rest e c = ((omega (arith, ints, c.1.0), tt), c.2)
  below_next (d ∷ f ∷ fs) rest e c =
      let below = below_next (f ∷ fs) rest e c.2 in
      ((omega (arith, ints, c.1.0, c.2.0, below.0.0), below.0), below.1)

  ending_behind : (t : ℤ) (gone rest : List (Entry V)) → IsBelow t gone → ending_from t (gone ++ rest) ≡ ending_from t rest
  ending_behind t [] rest b = refl
  ending_behind t (d ∷ ds) rest b = ending_skips t d (ds ++ rest) b.0 ∙ ending_behind t ds rest b.1

  -- A lookup of the later of the key and the next range's start finds the remaining ranges without those that end below
  -- the key.
  pub sought : (k t : ℤ) (list rest : List (Entry V)) (e : Entry V) → IsCanonical eq list → IsLastPart list (e ∷ rest) → t ≡ int_max k e.lo → IsSought k (e ∷ rest) (ending_from t list)
  sought k t list rest e c p is =
      let below = below_next p.gone rest e (subst (IsCanonical eq) p.parts c) in
      let to : e.lo ≤ℤ t = grind (arith, ints, is) in
      let found = ap (ending_from t) p.parts ∙ ending_behind t p.gone (e ∷ rest) (below_more e.lo t p.gone to below.0) in
      subst (IsSought k (e ∷ rest)) (sym found)
      (by_lt_z k e.lo
      (λ l. let same : t ≡ e.lo = grind (arith, ints, is, l) in subst (IsSought k (e ∷ rest)) (sym (ending_first t e rest below.1 (omega (arith, ints, same, below.1.0)))) (all_sought k (e ∷ rest)))
      (λ l. let same : k ≡ t = grind (arith, ints, is, l) in subst (λ z. IsSought z (e ∷ rest) (ending_from t (e ∷ rest))) (sym same) (ending_sought t (e ∷ rest) below.1)))

  pub sought_part : (k : ℤ) (list rest found : List (Entry V)) → IsLastPart list rest → IsSought k rest found → IsLastPart list found
  sought_part k list rest found p s = part_part list rest found p (record { gone = s.gone; parts = s.parts })

  -- the entries of a range map from the least key on are all its entries
  pub ending_from_low : (low high : ℤ) (es : List (Entry V)) → IsCanonical eq es → AreKeys low high es → ending_from low es ≡ es
  ending_from_low low high [] c k = refl
  ending_from_low low high (e ∷ es) c k = ending_first low e es c (omega (arith, ints, c.0, k.0))

module _ {V : Type 0} (eq : V → V → Bool) (laws : IsEquivalence eq) (low high : ℤ) where
  behind : (gone rest : List (Entry V)) → IsRangeMap eq low high (gone ++ rest) → IsRangeMap eq low high rest
  behind [] rest m = m
  behind (e ∷ es) rest m = behind es rest (IsRangeMap-rest eq laws low high e (es ++ rest) m)

  -- a suffix of a range map's list is a range map's list
  pub range_map_part : (list rest : List (Entry V)) → IsRangeMap eq low high list → IsLastPart list rest → IsRangeMap eq low high rest
  range_map_part list rest m p = behind p.gone rest (subst (IsRangeMap eq low high) p.parts m)
