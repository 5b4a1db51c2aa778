-- Free ranges, found by a walk over the entries from below or from above.
use Rattle.blaze_int.proofs.Options.{some_is_not}
use Rattle.blaze_int.proofs.Comparisons.{by_bool}
use Rattle.std.specs.Prelude.{◌↔◌, int_le, filter, not, IsTrue, MatchOption}
use Rattle.std.specs.Option.{option_or, is_some}
use Rattle.std.proofs.Common.{◌≡◌, ℕ, ◌<◌, ℤ, pos, ◌+ℤ◌, ◌-ℤ◌, ◌≤ℤ◌, ◌<ℤ◌, Bool, true, false, cond, List, [], ◌∷◌, ◌++◌, Option, Some, None, IsSome, refl, ◌∙◌, sym, ap, subst, arith}
use Rattle.std.proofs.lemmas.Int.{ints, by_lt_z}
use Rattle.blaze_entries.specs.Starts.{up_to}
use Rattle.blaze_entries.specs.Canonical.{IsCanonical}
use Rattle.blaze_entries.specs.Ending.{ending_from, overlapping}
use Rattle.blaze_entries.specs.Entries.{Entry, at, holds}
use Rattle.blaze_table.specs.Filled.{IsMappedFrom}
use Rattle.blaze_entries.proofs.Canonical.Lookup.{at_in, at_under, at_over, at_append}
use Rattle.range_map_c.specs.Gaps.{IsFreeRange, HasNoFreeRange, IsFirstFreeRange, IsLastFreeRange}

module _ {V : Type 0} where
  -- each starts above b, each ends below b, each ends at b or above, each starts up to b
  abbrev pub AllAbove : ℤ → List (Entry V) → Type 0
  AllAbove b [] = Unit {0}
  AllAbove b (e ∷ es) = (b <ℤ e.lo) × AllAbove b es

  abbrev pub AllBelow : ℤ → List (Entry V) → Type 0
  AllBelow b [] = Unit {0}
  AllBelow b (e ∷ es) = (e.hi <ℤ b) × AllBelow b es

  abbrev pub AllFrom : ℤ → List (Entry V) → Type 0
  AllFrom b [] = Unit {0}
  AllFrom b (e ∷ es) = (b ≤ℤ e.hi) × AllFrom b es

  abbrev pub AllUpTo : ℤ → List (Entry V) → Type 0
  AllUpTo b [] = Unit {0}
  AllUpTo b (e ∷ es) = (e.lo ≤ℤ b) × AllUpTo b es

  -- no range is empty, and each is below the later ones
  abbrev pub InOrder : List (Entry V) → Type 0
  InOrder [] = Unit {0}
  InOrder (e ∷ es) = (e.lo ≤ℤ e.hi) × AllAbove e.hi es × InOrder es

  above_less : (b c : ℤ) (es : List (Entry V)) → c ≤ℤ b → AllAbove b es → AllAbove c es
  above_less b c [] l a = tt
  above_less b c (e ∷ es) l a = (omega (arith, ints, a.0), above_less b c es l a.1)

  pub in_order : (eq : V → V → Bool) (es : List (Entry V)) → IsCanonical eq es → InOrder es
  in_order eq [] c = tt
  in_order eq (e ∷ []) c = (c.0, tt, tt)
  in_order eq (e ∷ f ∷ fs) c = let later = in_order eq (f ∷ fs) c.2 in (c.0, (c.1.0, above_less f.hi e.hi fs (omega (arith, ints, c.1.0, later.0)) later.1), later)

  above_some : (p : Entry V → Bool) (b : ℤ) (es : List (Entry V)) → AllAbove b es → AllAbove b (filter p es)
  above_some p b [] a = tt
  above_some p b (e ∷ es) a = by_bool (p e) (λ t. rw t (a.0, above_some p b es a.1)) (λ t. rw t (above_some p b es a.1))

  pub order_some : (p : Entry V → Bool) (es : List (Entry V)) → InOrder es → InOrder (filter p es)
  order_some p [] o = tt
  order_some p (e ∷ es) o = by_bool (p e) (λ t. rw t (o.0, above_some p e.hi es o.1, order_some p es o.2)) (λ t. rw t (order_some p es o.2))

  pub from_some : (p : Entry V → Bool) (b : ℤ) (es : List (Entry V)) → AllFrom b es → AllFrom b (filter p es)
  from_some p b [] a = tt
  from_some p b (e ∷ es) a = by_bool (p e) (λ t. rw t (a.0, from_some p b es a.1)) (λ t. rw t (from_some p b es a.1))

  pub from_ending : (l : ℤ) (es : List (Entry V)) → AllFrom l (ending_from l es)
  from_ending l [] = tt
  from_ending l (e ∷ es) = by_bool (int_le l e.hi) (λ t. rw t (grind (arith, ints), from_ending l es)) (λ t. rw t (from_ending l es))

  pub up_to_all : (h : ℤ) (es : List (Entry V)) → AllUpTo h (up_to h es)
  up_to_all h [] = tt
  up_to_all h (e ∷ es) = by_bool (int_le e.lo h) (λ t. rw t (grind (arith, ints), up_to_all h es)) (λ t. rw t (up_to_all h es))

  at_ending : (l k : ℤ) (es : List (Entry V)) → l ≤ℤ k → at es k ≡ at (ending_from l es) k
  at_ending l k [] u = refl
  at_ending l k (e ∷ es) u = by_bool (int_le l e.hi) (λ t. rw t (ap (cond (holds e k) (Some e.value)) (at_ending l k es u))) (λ t. rw t (at_over e es k (grind (arith, ints)) ∙ at_ending l k es u))

  at_up_to : (h k : ℤ) (es : List (Entry V)) → k ≤ℤ h → at es k ≡ at (up_to h es) k
  at_up_to h k [] u = refl
  at_up_to h k (e ∷ es) u = by_bool (int_le e.lo h) (λ t. rw t (ap (cond (holds e k) (Some e.value)) (at_up_to h k es u))) (λ t. rw t (at_under e es k (grind (arith, ints)) ∙ at_up_to h k es u))

  pub at_overlapping : (l h k : ℤ) (es : List (Entry V)) → l ≤ℤ k → k ≤ℤ h → at es k ≡ at (overlapping l h es) k
  at_overlapping l h k es u w = at_ending l k es u ∙ at_up_to h k (ending_from l es) w

  none_below : (b k : ℤ) (es : List (Entry V)) → AllAbove b es → k ≤ℤ b → at es k ≡ None
  none_below b k [] a u = refl
  none_below b k (e ∷ es) a u = at_under e es k (omega (arith, ints, a.0)) ∙ none_below b k es a.1 u

  none_above : (b k : ℤ) (es : List (Entry V)) → AllBelow b es → b ≤ℤ k → at es k ≡ None
  none_above b k [] a u = refl
  none_above b k (e ∷ es) a u = at_over e es k (omega (arith, ints, a.0)) ∙ none_above b k es a.1 u

  -- ---- the last of entries in order

  above_last : (b : ℤ) (es : List (Entry V)) (e : Entry V) → AllAbove b (es ++ e ∷ []) → AllAbove b es × (b <ℤ e.lo)
  above_last b [] e a = (tt, a.0)
  above_last b (f ∷ fs) e a = let more = above_last b fs e a.1 in ((a.0, more.0), more.1)

  from_last : (b : ℤ) (es : List (Entry V)) (e : Entry V) → AllFrom b (es ++ e ∷ []) → AllFrom b es × (b ≤ℤ e.hi)
  from_last b [] e a = (tt, a.0)
  from_last b (f ∷ fs) e a = let more = from_last b fs e a.1 in ((a.0, more.0), more.1)

  up_to_last : (b : ℤ) (es : List (Entry V)) (e : Entry V) → AllUpTo b (es ++ e ∷ []) → e.lo ≤ℤ b
  up_to_last b [] e a = a.0
  up_to_last b (f ∷ fs) e a = up_to_last b fs e a.1

  order_last : (es : List (Entry V)) (e : Entry V) → InOrder (es ++ e ∷ []) → InOrder es × AllBelow e.lo es × (e.lo ≤ℤ e.hi)
  order_last [] e o = (tt, tt, o.0)
  order_last (f ∷ fs) e o = let more = order_last fs e o.2 in let above = above_last f.hi fs e o.1 in ((o.0, above.0, more.0), (above.1, more.1), more.2)

  starts_below : (h b : ℤ) (es : List (Entry V)) → InOrder es → AllBelow b es → b ≤ℤ (h +ℤ pos 1) → AllUpTo h es
  starts_below h b [] o a u = tt
  starts_below h b (e ∷ es) o a u = (omega (arith, ints, a.0, o.0), starts_below h b es o.2 a.1 u)

  ends_above : (l b : ℤ) (es : List (Entry V)) → InOrder es → AllAbove b es → l ≤ℤ (b +ℤ pos 1) → AllFrom l es
  ends_above l b [] o a u = tt
  ends_above l b (e ∷ es) o a u = (omega (arith, ints, a.0, o.0), ends_above l b es o.2 a.1 u)

  some_last : (es : List (Entry V)) (e : Entry V) (k : ℤ) → e.lo ≤ℤ k → k ≤ℤ e.hi → IsSome (at (es ++ e ∷ []) k)
  some_last es e k l h = subst (λ o. IsSome o) (sym (at_append es (e ∷ []) k)) (subst (λ o. IsSome (option_or (at es k) o)) (sym (at_in e [] k l h)) (either (at es k)))
    where
      either : (o : Option V) → IsSome (option_or o (Some e.value))
      either None = refl
      either (Some x) = refl

  below_last : (es : List (Entry V)) (e : Entry V) (k : ℤ) → k <ℤ e.lo → at (es ++ e ∷ []) k ≡ at es k
  below_last es e k l = at_append es (e ∷ []) k ∙ ap (option_or (at es k)) (at_under e [] k l) ∙ either (at es k)
    where
      either : (o : Option V) → option_or o None ≡ o
      either None = refl
      either (Some x) = refl

  over_last : (es : List (Entry V)) (e : Entry V) (k : ℤ) → AllBelow e.lo es → e.lo ≤ℤ e.hi → e.hi <ℤ k → at (es ++ e ∷ []) k ≡ None
  over_last es e k a w l = at_append es (e ∷ []) k ∙ ap (λ o. option_or o (at (e ∷ []) k)) (none_above e.lo k es a (omega (arith, ints))) ∙ at_over e [] k l

-- ---- the walk

module _ {V : Type 0} (c : ℤ → Option V) (a b : ℤ) (n : ℕ) where
  -- Only the keys from l to h can still have a free range, and their content is that of the entries that are left.
  pub record IsSearched (l h : ℤ) (left : List (Entry V)) : Type 0 where
    pub some : 0 < n
    pub from : a ≤ℤ l
    pub to : h ≤ℤ b
    pub order : l ≤ℤ h
    pub low : (k : ℤ) → IsFreeRange c a b n k → l ≤ℤ k
    pub high : (k : ℤ) → IsFreeRange c a b n k → (k +ℤ pos n) ≤ℤ (h +ℤ pos 1)
    pub same : (k : ℤ) → l ≤ℤ k → k ≤ℤ h → c k ≡ at left k
    pub ordered : InOrder left
    pub ends : AllFrom l left
    pub starts : AllUpTo h left

  module _ (l h : ℤ) (left : List (Entry V)) (s : IsSearched l h left) where
    -- no key of a free range has a value
    no_key : (k j : ℤ) → IsFreeRange c a b n k → k ≤ℤ j → j <ℤ (k +ℤ pos n) → l ≤ℤ j → j ≤ℤ h → IsSome (at left j) → ⊥
    no_key k j f u w x y is = some_is_not (at left j) is (sym (s.same j x y) ∙ f.clear j u (omega (arith, ints)))

    -- a free range of all that is left in front of the entries
    free_below : (m : ℤ) → AllAbove m left → (l +ℤ pos n) ≤ℤ (m +ℤ pos 1) → (l +ℤ pos n) ≤ℤ (h +ℤ pos 1) → IsFirstFreeRange c a b n l
    free_below m above fits within = record {
      free = record { some = s.some; from = s.from; to = let t = s.to in omega (arith, ints); clear = λ j u w. s.same j u (omega (arith, ints)) ∙ none_below m j left above (omega (arith, ints)) };
      least = s.low;
    }

    -- and of all that is left behind them
    free_above : (first m : ℤ) → ((j : ℤ) → m ≤ℤ j → j ≤ℤ h → at left j ≡ None) → (first +ℤ pos n) ≡ (h +ℤ pos 1) → m ≤ℤ first → l ≤ℤ first → IsLastFreeRange c a b n first
    free_above first m none is fits within = record {
      free = record { some = s.some; from = let t = s.from in omega (arith, ints); to = let t = s.to in omega (arith, ints); clear = λ j u w. s.same j (omega (arith, ints)) (omega (arith, ints)) ∙ none j (omega (arith, ints)) (omega (arith, ints)) };
      greatest = λ k f. let t = s.high k f in omega (arith, ints);
    }

    too_few : (h +ℤ pos 1) <ℤ (l +ℤ pos n) → HasNoFreeRange c a b n
    too_few short k f = let x = s.low k f in let y = s.high k f in absurd (omega (arith, ints))

  module _ (l h : ℤ) (e : Entry V) (es : List (Entry V)) (s : IsSearched l h (e ∷ es)) where
    -- the gap below the first entry is long enough
    pub found_below : l <ℤ e.lo → (l +ℤ pos n) ≤ℤ e.lo → IsFirstFreeRange c a b n l
    found_below u w = let t = s.starts.0 in free_below l h (e ∷ es) s (e.lo -ℤ pos 1) (omega (arith, ints), above_less e.hi (e.lo -ℤ pos 1) es (let o = s.ordered.0 in omega (arith, ints)) s.ordered.1) (omega (arith, ints)) (omega (arith, ints))

    -- it is not: a free range starts above the entry
    passed : (l <ℤ e.lo → e.lo <ℤ (l +ℤ pos n)) → (k : ℤ) → IsFreeRange c a b n k → e.hi <ℤ k
    passed short k f =
        let some = f.some in let x = s.low k f in let y = s.high k f in let o = s.ordered.0 in let t = s.starts.0 in let r = s.ends.0 in
        by_lt_z k e.lo
        (λ u. let w : e.lo <ℤ (l +ℤ pos n) = short (omega (arith, ints)) in absurd (no_key l h (e ∷ es) s k e.lo f (omega (arith, ints)) (omega (arith, ints)) (omega (arith, ints)) t (is_here e.lo (omega (arith, ints)) o)))
        (λ u. by_lt_z e.hi k (λ w. w) (λ w. absurd (no_key l h (e ∷ es) s k k f (omega (arith, ints)) (omega (arith, ints)) x (omega (arith, ints)) (is_here k u w))))
      where
        is_here : (k : ℤ) → e.lo ≤ℤ k → k ≤ℤ e.hi → IsSome (at (e ∷ es) k)
        is_here k u w = subst (λ o. IsSome o) (sym (at_in e es k u w)) refl

    pub none_behind : (l <ℤ e.lo → e.lo <ℤ (l +ℤ pos n)) → h ≤ℤ e.hi → HasNoFreeRange c a b n
    none_behind short u k f = let x = passed short k f in let y = s.high k f in let some = f.some in absurd (omega (arith, ints))

    pub searched_above : (l <ℤ e.lo → e.lo <ℤ (l +ℤ pos n)) → e.hi <ℤ h → IsSearched (e.hi +ℤ pos 1) h es
    searched_above short u = record {
      some = s.some;
      from = let t = s.from in let r = s.ends.0 in omega (arith, ints);
      to = s.to;
      order = omega (arith, ints);
      low = λ k f. let x = passed short k f in omega (arith, ints);
      high = s.high;
      same = λ k x y. s.same k (let r = s.ends.0 in omega (arith, ints)) y ∙ at_over e es k (omega (arith, ints));
      ordered = s.ordered.2;
      ends = ends_above (e.hi +ℤ pos 1) e.hi es s.ordered.2 s.ordered.1 (omega (arith, ints));
      starts = s.starts.1;
    }

  module _ (l h : ℤ) (e : Entry V) (es : List (Entry V)) (s : IsSearched l h (es ++ e ∷ [])) where
    order : InOrder es × AllBelow e.lo es × (e.lo ≤ℤ e.hi)
    order = order_last es e s.ordered

    -- the gap above the last entry is long enough
    pub found_above : (first : ℤ) → e.hi <ℤ h → (first +ℤ pos n) ≡ (h +ℤ pos 1) → e.hi <ℤ first → IsLastFreeRange c a b n first
    found_above first u is w = let t = (from_last l es e s.ends).1 in
        free_above l h (es ++ e ∷ []) s first (e.hi +ℤ pos 1) (λ j x y. over_last es e j order.1 order.2 (omega (arith, ints))) is (omega (arith, ints)) (omega (arith, ints))

    -- it is not: a free range ends below the entry
    passed_back : (e.hi <ℤ h → (h +ℤ pos 1) <ℤ ((e.hi +ℤ pos 1) +ℤ pos n)) → (k : ℤ) → IsFreeRange c a b n k → (k +ℤ pos n) ≤ℤ e.lo
    passed_back short k f =
        let some = f.some in let x = s.low k f in let y = s.high k f in let o = order.2 in let t = up_to_last h es e s.starts in let r = (from_last l es e s.ends).1 in
        by_lt_z e.lo (k +ℤ pos n)
        (λ u. by_lt_z e.hi k
        (λ w. let v : (h +ℤ pos 1) <ℤ ((e.hi +ℤ pos 1) +ℤ pos n) = short (omega (arith, ints)) in absurd (omega (arith, ints)))
        (λ w. by_lt_z k e.lo
        (λ v. absurd (no_key l h (es ++ e ∷ []) s k e.lo f (omega (arith, ints)) u (omega (arith, ints)) t (some_last es e e.lo (omega (arith, ints)) o)))
        (λ v. absurd (no_key l h (es ++ e ∷ []) s k k f (omega (arith, ints)) (omega (arith, ints)) x (omega (arith, ints)) (some_last es e k v w)))))
        (λ u. u)

    pub none_before : (e.hi <ℤ h → (h +ℤ pos 1) <ℤ ((e.hi +ℤ pos 1) +ℤ pos n)) → e.lo ≤ℤ l → HasNoFreeRange c a b n
    none_before short u k f = let x = passed_back short k f in let y = s.low k f in let some = f.some in absurd (omega (arith, ints))

    pub searched_below : (e.hi <ℤ h → (h +ℤ pos 1) <ℤ ((e.hi +ℤ pos 1) +ℤ pos n)) → l <ℤ e.lo → IsSearched l (e.lo -ℤ pos 1) es
    searched_below short u = let t = up_to_last h es e s.starts in record {
      some = s.some;
      from = s.from;
      to = let r = s.to in omega (arith, ints);
      order = omega (arith, ints);
      low = s.low;
      high = λ k f. let x = passed_back short k f in omega (arith, ints);
      same = λ k x y. s.same k x (omega (arith, ints)) ∙ below_last es e k (omega (arith, ints));
      ordered = order.0;
      ends = (from_last l es e s.ends).0;
      starts = starts_below (e.lo -ℤ pos 1) e.lo es order.0 order.1 (omega (arith, ints));
    }

  module _ (l h : ℤ) (s : IsSearched l h []) where
    pub found_last : (l +ℤ pos n) ≤ℤ (h +ℤ pos 1) → IsFirstFreeRange c a b n l
    found_last u = free_below l h [] s h tt u u

    pub found_first : (first : ℤ) → (first +ℤ pos n) ≡ (h +ℤ pos 1) → l ≤ℤ first → IsLastFreeRange c a b n first
    found_first first is u = free_above l h [] s first l (λ j x y. refl) is u u

    pub none_left : (h +ℤ pos 1) <ℤ (l +ℤ pos n) → HasNoFreeRange c a b n
    none_left = too_few l h [] s

-- ---- the walk, by what a loop has at hand

module _ {V : Type 0} (c : ℤ → Option V) (a b : ℤ) (n : ℕ) (l h x y : ℤ) (left rest : List (Entry V)) (e : Entry V) (s : IsSearched c a b n l h left) where
  module _ (is : left ≡ e ∷ rest) (low : e.lo ≡ x) (high : e.hi ≡ y) where
    at_first : IsSearched c a b n l h (e ∷ rest)
    at_first = subst (IsSearched c a b n l h) is s

    pub found_before : (l +ℤ pos n) ≤ℤ x → IsFirstFreeRange c a b n l
    found_before w = let some = s.some in found_below c a b n l h e rest at_first (omega (arith, ints)) (omega (arith, ints))

    pub nothing_after : x <ℤ (l +ℤ pos n) → h ≤ℤ y → HasNoFreeRange c a b n
    nothing_after short u = none_behind c a b n l h e rest at_first (λ _. omega (arith, ints)) (omega (arith, ints))

    pub searched_after : x <ℤ (l +ℤ pos n) → y <ℤ h → IsSearched c a b n (y +ℤ pos 1) h rest
    searched_after short u = subst (λ z. IsSearched c a b n (z +ℤ pos 1) h rest) high (searched_above c a b n l h e rest at_first (λ _. omega (arith, ints)) (omega (arith, ints)))

  module _ (is : left ≡ rest ++ e ∷ []) (low : e.lo ≡ x) (high : e.hi ≡ y) where
    at_last : IsSearched c a b n l h (rest ++ e ∷ [])
    at_last = subst (IsSearched c a b n l h) is s

    pub found_after : (first : ℤ) → (y +ℤ pos n) ≤ℤ h → (first +ℤ pos n) ≡ (h +ℤ pos 1) → IsLastFreeRange c a b n first
    found_after first w ends = let some = s.some in found_above c a b n l h e rest at_last first (omega (arith, ints)) ends (omega (arith, ints))

    pub nothing_before : h <ℤ (y +ℤ pos n) → x ≤ℤ l → HasNoFreeRange c a b n
    nothing_before short u = none_before c a b n l h e rest at_last (λ _. omega (arith, ints)) (omega (arith, ints))

    pub searched_before : h <ℤ (y +ℤ pos n) → l <ℤ x → IsSearched c a b n l (x -ℤ pos 1) rest
    searched_before short u = subst (λ z. IsSearched c a b n l (z -ℤ pos 1) rest) low (searched_below c a b n l h e rest at_last (λ _. omega (arith, ints)) (omega (arith, ints)))

-- all keys are still to be searched
pub searched_none : {V : Type 0} (eq : V → V → Bool) (es : List (Entry V)) (a b : ℤ) (n : ℕ) → IsCanonical eq es → 0 < n → a ≤ℤ b → IsSearched (at es) a b n a b (overlapping a b es)
searched_none eq es a b n canon some order = record {
  some = some;
  from = omega (arith, ints);
  to = omega (arith, ints);
  order = order;
  low = λ k f. f.from;
  high = λ k f. f.to;
  same = λ k u w. at_overlapping a b k es u w;
  ordered = order_some (λ e. int_le e.lo b) (ending_from a es) (order_some (λ e. int_le a e.hi) es (in_order eq es canon));
  ends = from_some (λ e. int_le e.lo b) a (ending_from a es) (from_ending a es);
  starts = up_to_all b (ending_from a es);
}

-- no key is free just where each has a value
pub held_by : {V : Type 0} (c : ℤ → Option V) (a b : ℤ) (all : Bool) (o : Option ℤ) → is_some o ≡ not all → MatchOption o (HasNoFreeRange c a b 1) (λ first. IsFirstFreeRange c a b 1 first)
    → IsTrue all ↔ IsMappedFrom c a b
held_by c a b true None e none = (λ _ k l h. some_or (c k) (λ is. none k (record { some = omega arith; from = l; to = omega (arith, ints); clear = λ j u w. let same : k ≡ j = omega (arith, ints) in subst (λ i. c i ≡ None) same is })), λ _. refl)
  where
    some_or : {X : Type 0} (o : Option X) → (o ≡ None → ⊥) → IsSome o
    some_or None f = absurd (f refl)
    some_or (Some x) f = refl
held_by c a b true (Some first) e is = absurd cc
held_by c a b false None e none = absurd cc
held_by c a b false (Some first) e is = (λ t. absurd cc, λ held. absurd (some_is_not (c first) (held first is.free.from (let t = is.free.to in omega (arith, ints))) (is.free.clear first (omega (arith, ints)) (omega (arith, ints)))))
