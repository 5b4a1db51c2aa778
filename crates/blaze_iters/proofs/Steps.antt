-- One call of an iterator over the keys of ranges, at either end.
use Rattle.blaze_iters.proofs.Words.{Bool, Result, Ok, Err, AllocError, TakesFirstLike, TakesLastLike, GivesFirstOrRefuses, GivesLastOrRefuses, IsLikePair, map, map-append, IfNone, TakesFirst, TakesLast, YieldsOpeningFirst, YieldsOpeningLast, YieldsFirstBy, YieldsLastBy, shown_key_value, keys_left, nat_of, ◌≡◌, ℕ, suc, zero, ◌+◌, ◌≤◌, ℤ, pos, ◌+ℤ◌, ◌-ℤ◌, ◌≤ℤ◌, ◌<ℤ◌, List, [], ◌∷◌, ◌++◌, length, Option, Some, None, refl, sym, ap, ◌∙◌, arith, append_assoc, append-nil, length-append, option_map, option_to_list, MakesProgress, item_count, ints, reverse-append, nat_of-pos, RangeEntry, Entry, entry, shown_range_entry, IsDisjoint, IsClear, pairs_from, pairs_of, pair_list, pairs_first, pairs_last, pairs_one, pair_list-append, RangesLeft, ranges_left, pairs_left, shown_left, OpensFirst, OpensLast, IsRestAfter, IsRestBefore, OwnedLeft, owned_ranges, HasSeveralFirst, HasSeveralLast}

module _ {K V : Type 0} (of_rank : ℤ → K) where
  -- the first of several keys
  first_of_many : (lo hi next : ℤ) (v : V) → next ≡ lo +ℤ pos 1 → next ≤ℤ hi → pairs_of of_rank (entry lo hi v) ≡ (of_rank lo, v) ∷ pairs_of of_rank (entry next hi v)
  first_of_many lo hi next v e h = rw e (pairs_first of_rank lo hi v (omega (arith, ints)))

  -- the last of several keys
  last_of_many : (lo hi previous : ℤ) (v : V) → previous +ℤ pos 1 ≡ hi → lo ≤ℤ previous → pairs_of of_rank (entry lo hi v) ≡ pairs_of of_rank (entry lo previous v) ++ (of_rank hi, v) ∷ []
  last_of_many lo hi previous v e h = rw e at (pairs_last of_rank lo previous v h)

  -- the only key
  only_key : (lo hi : ℤ) (v : V) → lo ≡ hi → pairs_of of_rank (entry lo hi v) ≡ (of_rank hi, v) ∷ []
  only_key lo hi v e = rw e (pairs_one of_rank hi v)

  -- a non-empty entry has a pair
  some_pair : (e : Entry V) → e.lo ≤ℤ e.hi → 1 ≤ length (pairs_of of_rank e)
  some_pair e h = many e.lo (nat_of (e.hi -ℤ e.lo +ℤ pos 1)) (let p = nat_of-pos (e.hi -ℤ e.lo +ℤ pos 1) (omega (arith, ints)) in omega (arith, ints))
    where
      many : (a : ℤ) (n : ℕ) → 1 ≤ n → 1 ≤ length (pairs_from of_rank a n e.value)
      many a zero p = absurd (omega arith)
      many a (suc n) p = omega arith

  -- non-empty ranges have pairs
  some_first : (e : Entry V) (es : List (Entry V)) → e.lo ≤ℤ e.hi → 1 ≤ length (pair_list of_rank (e ∷ es))
  some_first e es h = omega (arith, some_pair e h, length-append (pairs_of of_rank e) (pair_list of_rank es))

  some_last : (es : List (Entry V)) (e : Entry V) → e.lo ≤ℤ e.hi → 1 ≤ length (pair_list of_rank (es ++ e ∷ []))
  some_last es e h = rw (pair_list-append of_rank es (e ∷ [])) (omega (arith, some_first e [] h, length-append (pair_list of_rank es) (pair_list of_rank (e ∷ []))))

  -- the number of entries is at most the number of pairs
  entries_within : (es : List (Entry V)) → IsDisjoint es → length es ≤ length (pair_list of_rank es)
  entries_within [] d = omega arith
  entries_within (e ∷ es) d = omega (arith, some_pair e d.0, entries_within es d.2, length-append (pairs_of of_rank e) (pair_list of_rank es))

  -- the number of unopened ranges is at most the number of pairs
  pub whole_within : {I : Type 0} (left : I → List (Entry V)) (s : RangesLeft V I) → IsDisjoint (left s.inner) → length (left s.inner) ≤ length (pair_list of_rank (ranges_left left s))
  whole_within left s d =
      let inner = entries_within (left s.inner) d in
      let front = option_to_list s.front in
      let back = option_to_list s.back in
      rw (pair_list-append of_rank (front ++ left s.inner) back, pair_list-append of_rank front (left s.inner)) (simp length-append (omega arith))

module _ {K R V : Type 0} (rank : K → ℤ) (of_rank : ℤ → K) (shown : R → V) where
  abbrev parts : Option (RangeEntry K R) → List (Entry V)
  parts rest = option_to_list (option_map (shown_range_entry rank shown) rest)

  part_first : (e : RangeEntry K R) (rest : Option (RangeEntry K R)) → of_rank (rank e.start) ≡ e.start → IsRestAfter rank e rest
      → pairs_of of_rank (shown_range_entry rank shown e) ≡ (e.start, shown e.value) ∷ pair_list of_rank (parts rest)
  part_first e None k r = rw (only_key of_rank (rank e.start) (rank e.end) (shown e.value) r, ← r, k) refl
  part_first e (Some q) k r = rw (r.2, r.3, append-nil) (rw k at (first_of_many of_rank (rank e.start) (rank e.end) (rank q.start) (shown e.value) r.0 r.1))

  part_last : (e : RangeEntry K R) (rest : Option (RangeEntry K R)) → of_rank (rank e.end) ≡ e.end → IsRestBefore rank e rest
      → pairs_of of_rank (shown_range_entry rank shown e) ≡ pair_list of_rank (parts rest) ++ (e.end, shown e.value) ∷ []
  part_last e None k r = rw k at (only_key of_rank (rank e.start) (rank e.end) (shown e.value) r)
  part_last e (Some q) k r = rw (r.2, r.3, append-nil) (rw k at (last_of_many of_rank (rank e.start) (rank e.end) (rank q.end) (shown e.value) r.0 r.1))

  -- the first key is taken
  takes_first : {I : Type 0} (left : I → List (Entry V)) (e : RangeEntry K R) (rest : Option (RangeEntry K R)) (inner : I) (back : Option (RangeEntry K R)) → of_rank (rank e.start) ≡ e.start → IsRestAfter rank e rest
      → pairs_left of_rank left (shown_left rank shown (Some e) inner back) ≡ (e.start, shown e.value) ∷ pairs_left of_rank left (shown_left rank shown rest inner back)
  takes_first left e rest inner back k r =
      let after = left inner ++ parts back in
      rw (append_assoc (parts rest) (left inner) (parts back), pair_list-append of_rank (parts rest) after) (ap (λ t. t ++ pair_list of_rank after) (part_first e rest k r))

  -- the last key is taken
  takes_last : {I : Type 0} (left : I → List (Entry V)) (e : RangeEntry K R) (rest front : Option (RangeEntry K R)) (inner : I) → of_rank (rank e.end) ≡ e.end → IsRestBefore rank e rest
      → pairs_left of_rank left (shown_left rank shown front inner (Some e)) ≡ pairs_left of_rank left (shown_left rank shown front inner rest) ++ (e.end, shown e.value) ∷ []
  takes_last left e rest front inner k r =
      let before = parts front ++ left inner in
      rw (pair_list-append of_rank before (parts (Some e)), pair_list-append of_rank before (parts rest), append-nil, part_last e rest k r)
      (sym (append_assoc (pair_list of_rank before) (pair_list of_rank (parts rest)) ((e.end, shown e.value) ∷ [])))

module _ {K V : Type 0} (rank : K → ℤ) (of_rank : ℤ → K) (s : OwnedLeft V) where
  -- the range that is taken first has several keys
  several_first : (e : RangeEntry K V) (inner : List (Entry V)) (back : Option (RangeEntry K V)) → owned_ranges s ≡ owned_ranges (shown_left rank (λ v. v) (Some e) inner back) → rank e.start <ℤ rank e.end → HasSeveralFirst s
  several_first e inner back q h = (shown_range_entry rank (λ v. v) e, inner ++ option_to_list (option_map (shown_range_entry rank (λ (v : V). v)) back), q, h)

  -- the range that is taken last has several keys
  several_last : (e : RangeEntry K V) (front : Option (RangeEntry K V)) (inner : List (Entry V)) → owned_ranges s ≡ owned_ranges (shown_left rank (λ v. v) front inner (Some e)) → rank e.start <ℤ rank e.end → HasSeveralLast s
  several_last e front inner q h = (shown_range_entry rank (λ v. v) e, option_to_list (option_map (shown_range_entry rank (λ (v : V). v)) front) ++ inner, q, h)

  pub some_of_first : HasSeveralFirst s → 1 ≤ length (pairs_left of_rank (λ es. es) s)
  some_of_first h = let full : h.0.lo ≤ℤ h.0.hi = omega (arith, ints, h.3) in rw h.2 (some_first of_rank h.0 h.1 full)

  pub some_of_last : HasSeveralLast s → 1 ≤ length (pairs_left of_rank (λ es. es) s)
  some_of_last h = let full : h.0.lo ≤ℤ h.0.hi = omega (arith, ints, h.3) in rw h.2 (some_last of_rank h.1 h.0 full)

-- the range that is open at the near end is not used
module _ {V I : Type 0} (left : I → List (Entry V)) (s t : RangesLeft V I) (near : Option (Entry V)) where
  opened_first : OpensFirst left s t → OpensFirst left s (record t { front = near })
  opened_first o = record { between = o.between; far = o.far }

  opened_last : OpensLast left s t → OpensLast left s (record t { back = near })
  opened_last o = record { between = o.between; far = o.far }

-- if no range is open at an end, the next range at that end is opened
module _ {V I : Type 0} (left : I → List (Entry V)) (s t : RangesLeft V I) where
  pub opens_first : (e : Entry V) → s.front ≡ None → left s.inner ≡ e ∷ left t.inner → t.back ≡ s.back → OpensFirst left s t
  opens_first e none taken far = record { between = rw (none, taken) refl; far = rw (none, taken) far }

  pub opens_last : (e : Entry V) → s.back ≡ None → left s.inner ≡ left t.inner ++ e ∷ [] → t.front ≡ s.front → OpensLast left s t
  opens_last e none taken far = record { between = rw (none, taken, reverse-append) refl; far = rw (none, taken, reverse-append) far }

-- ---- the key that a call takes from the range `opened`, which was open before the call or is opened by it

module _ {K R V I : Type 0} (rank : K → ℤ) (of_rank : ℤ → K) (shown : R → V) (opened : Option (RangeEntry K R)) (left : I → List (Entry V)) (inner : I) (far : Option (RangeEntry K R)) where
  -- if a range was open before the call, no range is opened
  pub keeps_first : (e : RangeEntry K R) → opened ≡ Some e → OpensFirst left (shown_left rank shown opened inner far) (shown_left rank shown None inner far)
  keeps_first e o = rw o (record { between = refl; far = refl })

  pub keeps_last : (e : RangeEntry K R) → opened ≡ Some e → OpensLast left (shown_left rank shown far inner opened) (shown_left rank shown far inner None)
  keeps_last e o = rw o (record { between = refl; far = refl })

  module _ (s : RangesLeft V I) (ranges : ranges_left left s ≡ ranges_left left (shown_left rank shown opened inner far)) (none : IfNone opened (ranges_left left (shown_left rank shown None inner far) ≡ [])) (opens : OpensFirst left s (shown_left rank shown None inner far)) where
    no_range : opened ≡ None → ranges_left left s ≡ []
    no_range o = ranges ∙ rw o (rw o at none)

    pub next_pair : (r : Option (K × R)) (rest : Option (RangeEntry K R)) → TakesFirst rank of_rank (λ e. (e.start, e.value)) opened r rest
        → YieldsOpeningFirst left (shown_key_value shown) (pairs_left of_rank left) s r (shown_left rank shown rest inner far)
    next_pair None rest t = ((ap (pair_list of_rank) (no_range t.0), rw t.1 (ap (pair_list of_rank) (rw t.0 at none))), tt)
    next_pair (Some p) rest t = (rw (ranges, t.1, ← t.2) (takes_first rank of_rank shown left t.0 rest inner far t.3 t.4), opened_first left s (shown_left rank shown None inner far) _ opens)

    pub next_key : (r : Option K) (rest : Option (RangeEntry K R)) → TakesFirst rank of_rank (λ e. e.start) opened r rest
        → YieldsOpeningFirst left (λ k. k) (keys_left of_rank left) s r (shown_left rank shown rest inner far)
    next_key None rest t = ((ap (λ es. map (λ p. p.0) (pair_list of_rank es)) (no_range t.0), rw t.1 (ap (λ es. map (λ p. p.0) (pair_list of_rank es)) (rw t.0 at none))), tt)
    next_key (Some k) rest t = (rw (ranges, t.1, ← t.2) (ap (map (λ p. p.0)) (takes_first rank of_rank shown left t.0 rest inner far t.3 t.4)), opened_first left s (shown_left rank shown None inner far) _ opens)

  module _ (s : RangesLeft V I) (ranges : ranges_left left s ≡ ranges_left left (shown_left rank shown far inner opened)) (none : IfNone opened (ranges_left left (shown_left rank shown far inner None) ≡ [])) (opens : OpensLast left s (shown_left rank shown far inner None)) where
    no_last_range : opened ≡ None → ranges_left left s ≡ []
    no_last_range o = ranges ∙ rw o (rw o at none)

    pub next_back_pair : (r : Option (K × R)) (rest : Option (RangeEntry K R)) → TakesLast rank of_rank (λ e. (e.end, e.value)) opened r rest
        → YieldsOpeningLast left (shown_key_value shown) (pairs_left of_rank left) s r (shown_left rank shown far inner rest)
    next_back_pair None rest t = ((ap (pair_list of_rank) (no_last_range t.0), rw t.1 (ap (pair_list of_rank) (rw t.0 at none))), tt)
    next_back_pair (Some p) rest t = (rw (ranges, t.1, ← t.2) (takes_last rank of_rank shown left t.0 rest far inner t.3 t.4), opened_last left s (shown_left rank shown far inner None) _ opens)

    pub next_back_key : (r : Option K) (rest : Option (RangeEntry K R)) → TakesLast rank of_rank (λ e. e.end) opened r rest
        → YieldsOpeningLast left (λ k. k) (keys_left of_rank left) s r (shown_left rank shown far inner rest)
    next_back_key None rest t = ((ap (λ es. map (λ p. p.0) (pair_list of_rank es)) (no_last_range t.0), rw t.1 (ap (λ es. map (λ p. p.0) (pair_list of_rank es)) (rw t.0 at none))), tt)
    next_back_key (Some k) rest t = (rw (ranges, t.1, ← t.2) (ap (map (λ p. p.0)) (takes_last rank of_rank shown left t.0 rest far inner t.3 t.4) ∙ map-append (λ p. p.0) _ _), opened_last left s (shown_left rank shown far inner None) _ opens)

-- the key that a call takes, with a clone of the value
module _ {K V : Type 0} (rank : K → ℤ) (of_rank : ℤ → K) (eq : V → V → Bool) (opened : Option (RangeEntry K V)) where
  abbrev stored : V → V
  stored v = v

  abbrev whole : List (Entry V) → List (Entry V)
  whole es = es

  module _ (inner : List (Entry V)) (far : Option (RangeEntry K V)) (s : OwnedLeft V) where
    pub next_like : owned_ranges s ≡ owned_ranges (shown_left rank (λ v. v) opened inner far) → IfNone opened (owned_ranges (shown_left rank (λ v. v) None inner far) ≡ []) → OpensFirst (λ es. es) s (shown_left rank (λ v. v) None inner far)
        → (r : Option (Result (K × V) AllocError)) (rest : Option (RangeEntry K V)) → TakesFirstLike rank of_rank eq opened r rest → GivesFirstOrRefuses (pairs_left of_rank (λ es. es)) (IsLikePair eq) s r (shown_left rank (λ v. v) rest inner far)
    next_like ranges none opens None rest t = (ap (pair_list of_rank) (no_range rank of_rank stored opened whole inner far s ranges none opens t.0), rw t.1 (ap (pair_list of_rank) (rw t.0 at none)))
    next_like ranges none opens (Some (Ok a)) rest t = (
      ((t.0.start, t.0.value), rw (ranges, t.1) (takes_first rank of_rank stored whole t.0 rest inner far t.2.2 t.2.3), (t.2.0, t.2.1)),
      opened_first whole s (shown_left rank stored None inner far) _ opens,
    )
    next_like ranges none opens (Some (Err x)) rest t = several_first rank of_rank s t.0 inner far (rw t.1 at ranges) t.2.0

    pub next_back_like : owned_ranges s ≡ owned_ranges (shown_left rank (λ v. v) far inner opened) → IfNone opened (owned_ranges (shown_left rank (λ v. v) far inner None) ≡ []) → OpensLast (λ es. es) s (shown_left rank (λ v. v) far inner None)
        → (r : Option (Result (K × V) AllocError)) (rest : Option (RangeEntry K V)) → TakesLastLike rank of_rank eq opened r rest → GivesLastOrRefuses (pairs_left of_rank (λ es. es)) (IsLikePair eq) s r (shown_left rank (λ v. v) far inner rest)
    next_back_like ranges none opens None rest t = (ap (pair_list of_rank) (no_last_range rank of_rank stored opened whole inner far s ranges none opens t.0), rw t.1 (ap (pair_list of_rank) (rw t.0 at none)))
    next_back_like ranges none opens (Some (Ok a)) rest t = (
      ((t.0.end, t.0.value), rw (ranges, t.1) (takes_last rank of_rank stored whole t.0 rest far inner t.2.2 t.2.3), (t.2.0, t.2.1)),
      opened_last whole s (shown_left rank stored far inner None) _ opens,
    )
    next_back_like ranges none opens (Some (Err x)) rest t = several_last rank of_rank s t.0 far inner (rw t.1 at ranges) t.2.0

-- the last of non-empty entries is not empty
pub last_full : {V : Type 0} (es : List (Entry V)) (e : Entry V) → IsDisjoint (es ++ e ∷ []) → e.lo ≤ℤ e.hi
last_full [] e d = d.0
last_full (f ∷ es) e d = last_full es e d.2

-- the first range is taken out of the list between
pub moved_first : {V : Type 0} (inner all back : List (Entry V)) (e : Entry V) → all ≡ e ∷ inner → all ++ back ≡ (e ∷ inner) ++ back
moved_first inner all back e p = ap (λ l. l ++ back) p

-- the last range is taken out of the list between
pub moved_last : {V : Type 0} (front inner all : List (Entry V)) (e : Entry V) → all ≡ inner ++ e ∷ [] → (front ++ all) ++ [] ≡ (front ++ inner) ++ e ∷ []
moved_last front inner all e p = rw p (simp (append_assoc, append-nil))

clear_front : {V : Type 0} (f : Entry V) (es : List (Entry V)) (e : Entry V) → IsClear f (es ++ e ∷ []) → IsClear f es
clear_front f [] e k = tt
clear_front f (g ∷ es) e k = (k.0, clear_front f es e k.1)

-- the list between, without its last range
pub rest_disjoint : {V : Type 0} (es : List (Entry V)) (e : Entry V) → IsDisjoint (es ++ e ∷ []) → IsDisjoint es
rest_disjoint [] e d = tt
rest_disjoint (f ∷ es) e d = (d.0, clear_front f es e d.1, rest_disjoint es e d.2)

-- a call that takes one of the items makes progress
module _ {S A B : Type 0} (can : S → Type 0) (rest : S → List B) (s : S) (x : A) (t : S) where
  pub goes_first : (y : B) → can t → rest s ≡ y ∷ rest t → MakesProgress can (item_count rest) s (Some x) t
  goes_first y c e = let n : length (rest s) ≡ suc (length (rest t)) = ap length e in record { on = λ _. (c, tt, omega arith); keeps = c; rests = λ _. tt }

  pub goes_last : (y : B) → can t → rest s ≡ rest t ++ y ∷ [] → MakesProgress can (item_count rest) s (Some x) t
  goes_last y c e = let n : length (rest s) ≡ length (rest t) + 1 = ap length e ∙ length-append (rest t) (y ∷ []) in record { on = λ _. (c, tt, omega arith); keeps = c; rests = λ _. tt }

  -- a call after which nothing remains makes progress
  pub goes_refused : can t → 1 ≤ length (rest s) → rest t ≡ [] → MakesProgress can (item_count rest) s (Some x) t
  goes_refused c h e = let n : length (rest t) ≡ 0 = ap length e in record { on = λ _. (c, tt, omega arith); keeps = c; rests = λ _. tt }

-- a call that yields an item of the iterator makes progress
module _ {S A B : Type 0} (view : A → B) (rest : S → List B) (s t : S) where
  pub goes_on_first : (r : Option A) → YieldsFirstBy view rest s r t → MakesProgress (λ _. Unit {0}) (item_count rest) s r t
  goes_on_first None y = record { on = λ _. tt; keeps = tt; rests = λ _. tt }
  goes_on_first (Some x) y = goes_first (λ _. Unit {0}) rest s x t (view x) tt y

  pub goes_on_last : (r : Option A) → YieldsLastBy view rest s r t → MakesProgress (λ _. Unit {0}) (item_count rest) s r t
  goes_on_last None y = record { on = λ _. tt; keeps = tt; rests = λ _. tt }
  goes_on_last (Some x) y = goes_last (λ _. Unit {0}) rest s x t (view x) tt y
