-- Lists whose starts ascend, in two parts: below a key and from it on.
use Rattle.blaze_entries.proofs.Words.{◌≡◌, ℤ, pos, ◌+ℤ◌, ◌≤ℤ◌, ◌<ℤ◌, cond, ◌⊎◌, inl, inr, List, [], ◌∷◌, ◌++◌, refl, ◌∙◌, sym, ap, arith, ints, by_lt_z, lt_true, lt_false, le_true, le_false, Entry, StartsAscend, below, from}

-- each start is below k
abbrev pub StartsBelow : {V : Type 0} → ℤ → List (Entry V) → Type 0
StartsBelow k [] = Unit {0}
StartsBelow k (e ∷ es) = (e.lo <ℤ k) × StartsBelow k es

module _ {V : Type 0} where
  pub more_below : (k j : ℤ) (es : List (Entry V)) → k ≤ℤ j → StartsBelow k es → StartsBelow j es
  more_below k j [] l h = tt
  more_below k j (e ∷ es) l h = (omega (arith, ints, h.0), more_below k j es l h.1)

  pub below_takes : (k : ℤ) (e : Entry V) (es : List (Entry V)) → e.lo <ℤ k → below k (e ∷ es) ≡ e ∷ below k es
  below_takes k e es l = ap (λ b. cond b (e ∷ below k es) (below k es)) (lt_true e.lo k l)

  pub below_skips : (k : ℤ) (e : Entry V) (es : List (Entry V)) → k ≤ℤ e.lo → below k (e ∷ es) ≡ below k es
  below_skips k e es l = ap (λ b. cond b (e ∷ below k es) (below k es)) (lt_false e.lo k l)

  pub from_takes : (k : ℤ) (e : Entry V) (es : List (Entry V)) → k ≤ℤ e.lo → from k (e ∷ es) ≡ e ∷ from k es
  from_takes k e es l = ap (λ b. cond b (e ∷ from k es) (from k es)) (le_true k e.lo l)

  pub from_skips : (k : ℤ) (e : Entry V) (es : List (Entry V)) → e.lo <ℤ k → from k (e ∷ es) ≡ from k es
  from_skips k e es l = ap (λ b. cond b (e ∷ from k es) (from k es)) (le_false k e.lo l)

  pub below_all : (k : ℤ) (es : List (Entry V)) → StartsBelow k es → below k es ≡ es
  below_all k [] h = refl
  below_all k (e ∷ es) h = below_takes k e es h.0 ∙ ap (λ l. e ∷ l) (below_all k es h.1)

  pub below_none : (k b high : ℤ) (es : List (Entry V)) → k ≤ℤ b → StartsAscend b high es → below k es ≡ []
  below_none k b high [] l h = refl
  below_none k b high (e ∷ es) l h =
      below_skips k e es (omega (arith, ints, h.0)) ∙ below_none k (e.lo +ℤ pos 1) high es (omega (arith, ints, h.0)) h.2

  pub from_all : (k b high : ℤ) (es : List (Entry V)) → k ≤ℤ b → StartsAscend b high es → from k es ≡ es
  from_all k b high [] l h = refl
  from_all k b high (e ∷ es) l h =
      from_takes k e es (omega (arith, ints, h.0))
      ∙ ap (λ t. e ∷ t) (from_all k (e.lo +ℤ pos 1) high es (omega (arith, ints, h.0)) h.2)

  pub from_none : (k : ℤ) (es : List (Entry V)) → StartsBelow k es → from k es ≡ []
  from_none k [] h = refl
  from_none k (e ∷ es) h = from_skips k e es h.0 ∙ from_none k es h.1

  pub starts_from : (k b high : ℤ) (es : List (Entry V)) → StartsAscend b high es → StartsAscend k high (from k es)
  starts_from k b high [] h = tt
  starts_from k b high (e ∷ es) h = by_lt_z e.lo k
      (λ l. rw (from_skips k e es l) (starts_from k (e.lo +ℤ pos 1) high es h.2))
      (λ l. rw (from_takes k e es l, from_all k (e.lo +ℤ pos 1) high es (omega (arith, ints)) h.2) (l, h.1, h.2))

  pub starts_of_below : (k b high : ℤ) (es : List (Entry V)) → StartsAscend b high es → StartsAscend b high (below k es)
  starts_of_below k b high [] h = tt
  starts_of_below k b high (e ∷ es) h = by_lt_z e.lo k
      (λ l. rw (below_takes k e es l) (h.0, h.1, starts_of_below k (e.lo +ℤ pos 1) high es h.2))
      (λ l. rw (below_none k e.lo high (e ∷ es) l (omega (arith, ints), h.1, h.2)) tt)

  -- all entries start below a number above the greatest key
  below_every : (b high k : ℤ) (es : List (Entry V)) → high <ℤ k → StartsAscend b high es → below k es ≡ es
  below_every b high k [] l h = refl
  below_every b high k (e ∷ es) l h =
      below_takes k e es (omega (arith, ints, h.1)) ∙ ap (λ t. e ∷ t) (below_every (e.lo +ℤ pos 1) high k es l h.2)

  -- the entries that start up to k, bounded by the next key if it exists
  pub below_next : (low high k t : ℤ) (es : List (Entry V)) → StartsAscend low high es → (t ≡ k +ℤ pos 1) ⊎ ((k ≡ high) × (t ≡ high)) → below (t +ℤ pos 1) es ≡ below (k +ℤ pos 2) es
  below_next low high k t es h (inl q) = let r : t +ℤ pos 1 ≡ k +ℤ pos 2 = omega (arith, ints, q) in ap (λ x. below x es) r
  below_next low high k t es h (inr q) =
      let at_top = q.0 in
      let last = q.1 in
      below_every low high (t +ℤ pos 1) es (omega (arith, ints)) h ∙ sym (below_every low high (k +ℤ pos 2) es (omega (arith, ints)) h)

  -- the two parts of a list, one after the other, are the list
  pub halves : (k b high : ℤ) (es : List (Entry V)) → StartsAscend b high es → es ≡ below k es ++ from k es
  halves k b high [] h = refl
  halves k b high (e ∷ es) h = by_lt_z e.lo k
      (λ l. rw (below_takes k e es l, from_skips k e es l) (ap (λ t. e ∷ t) (halves k (e.lo +ℤ pos 1) high es h.2)))
      (λ l. rw (below_none k e.lo high (e ∷ es) l (omega (arith, ints), h.1, h.2)) (sym (from_all k e.lo high (e ∷ es) l (omega (arith, ints), h.1, h.2))))

  pub starts_below : (k : ℤ) (es : List (Entry V)) → StartsBelow k (below k es)
  starts_below k [] = tt
  starts_below k (e ∷ es) = by_lt_z e.lo k
      (λ l. rw (below_takes k e es l) (l, starts_below k es))
      (λ l. rw (below_skips k e es l) (starts_below k es))
