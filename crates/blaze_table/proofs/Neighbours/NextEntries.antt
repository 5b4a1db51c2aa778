-- The entries at a key and next to it, by the starts near the key.
use Rattle.blaze_table.proofs.Words.{◌≡◌, ℤ, pos, ◌+ℤ◌, ◌≤ℤ◌, ◌<ℤ◌, Bool, true, false, cond, List, [], ◌∷◌, ◌++◌, Option, Some, None, refl, ◌∙◌, sym, ap, subst, arith, int_lt, int_le, find, reverse, filter, last_or, option_or, ints, reverse-append, append-nil, find-append, filter-append, lt_true, lt_false, StartsAscend, below, first_entry, last_below, first_from, below_all, below_none, Entry, entry_at, IsCanonical, IsBelow, entry_in, entry_under, entry_over}
use Rattle.blaze_table.proofs.Cuts.Splits.{LastAt, last_at, no_last_from, ends_below, canonical_part}

takes : {X : Type 0} (b : Bool) (x y : X) → b ≡ true → cond b x y ≡ x
takes true x y p = refl
takes false x y p = cc

passes : {X : Type 0} (b : Bool) (x y : X) → b ≡ false → cond b x y ≡ y
passes true x y p = cc
passes false x y p = refl

module _ {V : Type 0} where
  -- ---- above a key

  -- the least entry that starts from the next key on
  pub above_is : (k : ℤ) (es : List (Entry V)) → first_from (k +ℤ pos 1) es ≡ find (λ e. int_lt k e.lo) es
  above_is k [] = refl
  above_is k (e ∷ es) = ap (λ b. first_entry (cond b (e ∷ filter (λ x. int_le (k +ℤ pos 1) x.lo) es) (filter (λ x. int_le (k +ℤ pos 1) x.lo) es))) (next k e.lo) ∙ step (int_lt k e.lo) (above_is k es)
    where
      next : (a b : ℤ) → int_le (a +ℤ pos 1) b ≡ int_lt a b
      next a b = grind (arith, ints)

      step : (b : Bool) → first_from (k +ℤ pos 1) es ≡ find (λ x. int_lt k x.lo) es → first_entry (cond b (e ∷ filter (λ x. int_le (k +ℤ pos 1) x.lo) es) (filter (λ x. int_le (k +ℤ pos 1) x.lo) es)) ≡ cond b (Some e) (find (λ x. int_lt k x.lo) es)
      step true p = refl
      step false p = p

  -- none starts above the greatest key
  pub above_none : (k b high : ℤ) (es : List (Entry V)) → high ≤ℤ k → StartsAscend b high es → find (λ e. int_lt k e.lo) es ≡ None
  above_none k b high [] l h = refl
  above_none k b high (e ∷ es) l h = passes (int_lt k e.lo) (Some e) (find (λ x. int_lt k x.lo) es) (lt_false k e.lo (omega (arith, ints, h.1))) ∙ above_none k (e.lo +ℤ pos 1) high es l h.2

  -- ---- at a key

  entry_past : (k b : ℤ) (xs ys : List (Entry V)) → b ≤ℤ k → IsBelow b xs → entry_at (xs ++ ys) k ≡ entry_at ys k
  entry_past k b [] ys l h = refl
  entry_past k b (x ∷ xs) ys l h = entry_over x (xs ++ ys) k (omega (arith, ints, h.0)) ∙ entry_past k b xs ys l h.1

  pub nothing_at : (k b high : ℤ) (es : List (Entry V)) → k <ℤ b → StartsAscend b high es → entry_at es k ≡ None
  nothing_at k b high [] l h = refl
  nothing_at k b high (e ∷ es) l h = entry_under e es k (omega (arith, ints, h.0)) ∙ nothing_at k (e.lo +ℤ pos 1) high es (omega (arith, ints, h.0)) h.2

module _ {V : Type 0} (eq : V → V → Bool) (k b high : ℤ) (es : List (Entry V)) (c : IsCanonical eq es) (a : StartsAscend b high es) where
  pub holding_none : None ≡ last_below (k +ℤ pos 1) es → None ≡ entry_at es k
  holding_none n = sym (nothing_at k (k +ℤ pos 1) high es (omega (arith, ints)) (no_last_from (k +ℤ pos 1) b high es a (sym n)))

  -- by the last entry that starts up to the key
  module _ (e : Entry V) (is : Some e ≡ last_below (k +ℤ pos 1) es) where
    abbrev pub last : LastAt (k +ℤ pos 1) high e es
    last = last_at (k +ℤ pos 1) b high e es a (sym is)

    pub front_ends : IsBelow e.lo last.front
    front_ends = ends_below eq last.front e last.back (subst (IsCanonical eq) last.parts c)

    entry_here : entry_at es k ≡ entry_at (e ∷ last.back) k
    entry_here = ap (λ l. entry_at l k) last.parts ∙ entry_past k e.lo last.front (e ∷ last.back) (omega (arith, ints, last.starts)) front_ends

    pub holding_some : k ≤ℤ e.hi → Some e ≡ entry_at es k
    holding_some h = sym (entry_here ∙ entry_in e last.back k (omega (arith, ints, last.starts)) h)

    pub holding_not : e.hi <ℤ k → None ≡ entry_at es k
    holding_not h = sym (entry_here ∙ entry_over e last.back k h ∙ nothing_at k (k +ℤ pos 1) high last.back (omega (arith, ints)) last.back_from)

-- ---- below a key

module _ {V : Type 0} (eq : V → V → Bool) (k : ℤ) where
  one_more : (x : Entry V) (xs : List (Entry V)) → find (λ e. int_lt e.hi k) (reverse (x ∷ xs)) ≡ option_or (find (λ e. int_lt e.hi k) (reverse xs)) (cond (int_lt x.hi k) (Some x) None)
  one_more x xs = ap (find (λ e. int_lt e.hi k)) (reverse-append (x ∷ []) xs) ∙ find-append (λ e. int_lt e.hi k) (reverse xs) (x ∷ [])

  -- none of the entries that start above the key ends below it
  none_below : (b high : ℤ) (es : List (Entry V)) → k <ℤ b → IsCanonical eq es → StartsAscend b high es → find (λ e. int_lt e.hi k) (reverse es) ≡ None
  none_below b high [] l c a = refl
  none_below b high (e ∷ es) l c a =
      one_more e es ∙ ap (λ o. option_or o (cond (int_lt e.hi k) (Some e) None)) (none_below (e.lo +ℤ pos 1) high es (omega (arith, ints, a.0)) c.2 a.2)
      ∙ passes (int_lt e.hi k) (Some e) None (lt_false e.hi k (omega (arith, ints, a.0, c.0)))

  last_some : (x : Entry V) (xs : List (Entry V)) (o : Option (Entry V)) → option_or (last_or (Some x) xs) o ≡ last_or (Some x) xs
  last_some x [] o = refl
  last_some x (y ∷ xs) o = last_some y xs o

  -- if all entries end below the key, it is the last one
  all_below : (d : ℤ) (es : List (Entry V)) → d ≤ℤ k → IsBelow d es → find (λ e. int_lt e.hi k) (reverse es) ≡ last_or None es
  all_below d [] l h = refl
  all_below d (e ∷ es) l h =
      one_more e es ∙ ap (λ o. option_or o (cond (int_lt e.hi k) (Some e) None)) (all_below d es l h.1)
      ∙ ap (option_or (last_or None es)) (takes (int_lt e.hi k) (Some e) None (lt_true e.hi k (omega (arith, ints, h.0)))) ∙ before es
    where
      before : (xs : List (Entry V)) → option_or (last_or None xs) (Some e) ≡ last_or (Some e) xs
      before [] = refl
      before (x ∷ xs) = last_some x xs (Some e)

  module _ (b high : ℤ) (es : List (Entry V)) (c : IsCanonical eq es) (a : StartsAscend b high es) where
    pub below_none_is : None ≡ last_below (k +ℤ pos 1) es → None ≡ find (λ e. int_lt e.hi k) (reverse es)
    below_none_is n = sym (none_below (k +ℤ pos 1) high es (omega (arith, ints)) c (no_last_from (k +ℤ pos 1) b high es a (sym n)))

    module _ (e : Entry V) (is : Some e ≡ last_below (k +ℤ pos 1) es) where
      abbrev parts : LastAt (k +ℤ pos 1) high e es
      parts = last eq k b high es c a e is

      apart : find (λ x. int_lt x.hi k) (reverse es) ≡ option_or (cond (int_lt e.hi k) (Some e) None) (find (λ x. int_lt x.hi k) (reverse parts.front))
      apart =
          ap (λ l. find (λ x. int_lt x.hi k) (reverse l)) parts.parts ∙ ap (find (λ x. int_lt x.hi k)) (reverse-append parts.front (e ∷ parts.back))
          ∙ find-append (λ x. int_lt x.hi k) (reverse (e ∷ parts.back)) (reverse parts.front)
          ∙ ap (λ o. option_or o (find (λ x. int_lt x.hi k) (reverse parts.front))) (one_more e parts.back
          ∙ ap (λ o. option_or o (cond (int_lt e.hi k) (Some e) None)) (none_below (k +ℤ pos 1) high parts.back (omega (arith, ints)) (canonical_part eq parts.front (e ∷ parts.back) (subst (IsCanonical eq) parts.parts c)).2 parts.back_from))

      -- the last entry that starts up to the key ends below it
      pub below_here : e.hi <ℤ k → Some e ≡ find (λ x. int_lt x.hi k) (reverse es)
      below_here h = sym (apart ∙ ap (λ o. option_or o (find (λ x. int_lt x.hi k) (reverse parts.front))) (takes (int_lt e.hi k) (Some e) None (lt_true e.hi k h)))

      -- the last entry that starts up to the key does not end below it: the previous one does
      pub below_before : k ≤ℤ e.hi → last_below e.lo es ≡ find (λ x. int_lt x.hi k) (reverse es)
      below_before h =
          ap (last_or None) front_is
          ∙ sym (apart ∙ ap (λ o. option_or o (find (λ x. int_lt x.hi k) (reverse parts.front))) (passes (int_lt e.hi k) (Some e) None (lt_false e.hi k h))
          ∙ all_below e.lo parts.front (omega (arith, ints, parts.starts)) (front_ends eq k b high es c a e is))
        where
          front_is : below e.lo es ≡ parts.front
          front_is =
              ap (below e.lo) parts.parts ∙ filter-append (λ x. int_lt x.lo e.lo) parts.front (e ∷ parts.back)
              ∙ ap (λ l. l ++ below e.lo (e ∷ parts.back)) (below_all e.lo parts.front parts.front_below)
              ∙ ap (λ l. parts.front ++ l) (passes (int_lt e.lo e.lo) (e ∷ below e.lo parts.back) (below e.lo parts.back) (lt_false e.lo e.lo (omega (arith, ints)))
              ∙ below_none e.lo (k +ℤ pos 1) high parts.back (omega (arith, ints, parts.starts)) parts.back_from)
              ∙ append-nil parts.front
