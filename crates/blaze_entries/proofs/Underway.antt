-- A walk down the entries to a range, before its end: its results from the entries that it has visited.
use Rattle.blaze_entries.proofs.Words.{◌≡◌, ℕ, ◌+◌, ◌≤◌, length, ℤ, pos, ◌+ℤ◌, ◌-ℤ◌, ◌≤ℤ◌, ◌<ℤ◌, Bool, true, false, cond, List, [], ◌∷◌, ◌++◌, Option, Some, None, refl, ◌∙◌, sym, subst, ap, arith, append_assoc, length-append, int_lt, int_le, IfSome, IsSomeAnd, int_max, int_min, last_or, option_map, ints, by_lt_z, filter-append, le_true, le_false, lt_holds, lt_fails, Entry, at, found_in, shown_found, shared_count, overlap, covered_keys, StartsAscend, below, from, last_below, RangesAscend, Seen, IsSeenIn, unseen, seen, seen_value, IsClonedIf, RangeEntry}
use Rattle.blaze_entries.proofs.Ascending.{start_lower}
use Rattle.blaze_entries.proofs.Halves.{StartsBelow, below_none, below_takes, from_takes, starts_from, starts_below, halves}
use Rattle.blaze_entries.proofs.Scans.{length-below, length-from}
use Rattle.blaze_entries.proofs.Seen.{starts_of, none_seen, next_seen, past_seen}

some_shared : (l h a b : ℤ) → pos 0 ≤ℤ shared_count l h a b
some_shared l h a b = up_to_keys (int_max l a) (int_min h b)
  where
    up_to_keys : (a b : ℤ) → pos 0 ≤ℤ cond (int_le a b) ((b -ℤ a) +ℤ pos 1) (pos 0)
    up_to_keys a b = grind (arith, ints)

module _ {V : Type 0} where
  -- a part of a list whose ranges ascend
  ranges_part : (b high : ℤ) (xs ys : List (Entry V)) → RangesAscend b high (xs ++ ys) → (c : ℤ) × (b ≤ℤ c) × RangesAscend c high ys
  ranges_part b high [] ys r = (b, omega (arith, ints), r)
  ranges_part b high (x ∷ xs) ys r = let i = ranges_part (x.hi +ℤ pos 1) high xs ys r.3 in (i.0, omega (arith, ints, r.0, r.1, i.1), i.2)

  below_part : (k : ℤ) (xs ys : List (Entry V)) → StartsBelow k (xs ++ ys) → StartsBelow k xs × StartsBelow k ys
  below_part k [] ys s = (tt, s)
  below_part k (x ∷ xs) ys s = let i = below_part k xs ys s.1 in ((s.0, i.0), i.1)

  module _ (l h : ℤ) where
    pub covered-append : (xs ys : List (Entry V)) → covered_keys l h (xs ++ ys) ≡ covered_keys l h xs +ℤ covered_keys l h ys
    covered-append [] ys = omega (arith, ints)
    covered-append (x ∷ xs) ys = omega (arith, ints, covered-append xs ys)

    pub some_covered : (es : List (Entry V)) → pos 0 ≤ℤ covered_keys l h es
    some_covered [] = omega (arith, ints)
    some_covered (e ∷ es) = omega (arith, ints, some_shared l h e.lo e.hi, some_covered es)

    pub overlap_none : (e : Entry V) → e.lo ≤ℤ e.hi → e.hi <ℤ l → overlap l h e ≡ pos 0
    overlap_none e w u = grind (arith, ints)

    pub overlap_over : (e : Entry V) → h <ℤ e.lo → overlap l h e ≡ pos 0
    overlap_over e u = grind (arith, ints)

    -- entries that start above the range share no key with it
    covered_over : (b high : ℤ) (es : List (Entry V)) → h <ℤ b → StartsAscend b high es → covered_keys l h es ≡ pos 0
    covered_over b high [] u s = refl
    covered_over b high (e ∷ es) u s = omega (arith, ints, overlap_over e (omega (arith, ints, s.0)), covered_over (e.lo +ℤ pos 1) high es (omega (arith, ints, s.0)) s.2)

    at_over : (b high : ℤ) (es : List (Entry V)) → l <ℤ b → StartsAscend b high es → at es l ≡ None
    at_over b high [] u s = refl
    at_over b high (e ∷ es) u s = rw (le_false e.lo l (omega (arith, ints, s.0))) (at_over (e.lo +ℤ pos 1) high es (omega (arith, ints, s.0)) s.2)

    -- entries before an entry that starts below the range start below it and share no key with it
    past : (b high : ℤ) (xs : List (Entry V)) (e : Entry V) (ys : List (Entry V)) → RangesAscend b high (xs ++ e ∷ ys) → e.lo <ℤ l → StartsBelow l xs × (covered_keys l h xs ≡ pos 0) × (at (xs ++ e ∷ ys) l ≡ at (e ∷ ys) l)
    past b high [] e ys r u = (tt, refl, refl)
    past b high (x ∷ xs) e ys r u =
        let i = past (x.hi +ℤ pos 1) high xs e ys r.3 u in
        let p = ranges_part (x.hi +ℤ pos 1) high xs (e ∷ ys) r.3 in
        let under : x.hi <ℤ l = omega (arith, ints, p.1, p.2.0) in
        ((omega (arith, ints, r.1), i.0), omega (arith, ints, i.1, overlap_none x r.1 under), rw (le_true x.lo l (omega (arith, ints, r.1)), le_false l x.hi under) i.2)

module _ {V : Type 0} (test : V → Bool) (l h : ℤ) (len : ℤ) (n : ℕ) where
  -- The results of a walk over entries: the plan, the number of keys outside the shared ones, and the lookups after the
  -- first n.
  pub record IsFound (es : List (Entry V)) (s : Seen) (left : ℤ) (looks : ℕ) : Type 0 where
    pub seen : IsSeenIn test l h es s
    pub kept : left +ℤ covered_keys l h es ≡ len
    pub few : looks ≤ n + length (from l (below (h +ℤ pos 2) es))
    pub risen : n ≤ looks

  -- The results so far are those of the last entries of a list, which all start at l or above. The others precede them.
  pub record IsWalkUnderway (high : ℤ) (es others tail : List (Entry V)) (s : Seen) (left : ℤ) (looks : ℕ) : Type 0 where
    pub parts : es ≡ others ++ tail
    pub near : StartsBelow (h +ℤ pos 2) others
    pub starts : StartsAscend l high tail
    pub found : IsFound tail s left looks

module _ {V : Type 0} (test : V → Bool) (l h low high : ℤ) (w : l ≤ℤ h) (es : List (Entry V)) (r : RangesAscend low high es) where
  -- the entries that start above the key above the range
  abbrev over : List (Entry V)
  over = from (h +ℤ pos 2) es

  over_starts : StartsAscend (h +ℤ pos 2) high over
  over_starts = starts_from (h +ℤ pos 2) low high es (starts_of low high es r)

  pub begins : (len : ℤ) {n looks : ℕ} (others : List (Entry V)) (s : Seen) → others ≡ below (h +ℤ pos 2) es → s ≡ unseen h → looks ≡ n → IsWalkUnderway test l h len n high es others over s len looks
  begins len others s up none q = record {
    parts = halves (h +ℤ pos 2) low high es (starts_of low high es r) ∙ ap (λ xs. xs ++ over) (sym up);
    near = subst (StartsBelow (h +ℤ pos 2)) (sym up) (starts_below (h +ℤ pos 2) es);
    starts = start_lower (h +ℤ pos 2) l high over (omega (arith, ints)) over_starts;
    found = record {
      seen = subst (IsSeenIn test l h over) (sym none) (none_seen test l h high w (h +ℤ pos 2) over (omega (arith, ints)) over_starts);
      kept = omega (arith, ints, covered_over l h (h +ℤ pos 2) high over (omega (arith, ints)) over_starts);
      few = omega (arith, q);
      risen = omega (arith, q);
    };
  }

  pub value_begins : None ≡ at over l
  value_begins = sym (at_over l h (h +ℤ pos 2) high over (omega (arith, ints)) over_starts)

module _ {V : Type 0} {test : V → Bool} {l h high : ℤ} {es : List (Entry V)} {len : ℤ} {n : ℕ} {others tail : List (Entry V)} {s : Seen} {left : ℤ} {looks : ℕ} (i : IsWalkUnderway test l h len n high es others tail s left looks) where
  -- no entry remains
  pub ends : others ≡ [] → IsFound test l h len n es s left looks
  ends none = subst (λ xs. IsFound test l h len n xs s left looks) (sym (i.parts ∙ ap (λ xs. xs ++ tail) none)) i.found

  -- the entry e is next, and its lookup returns f
  module _ (low : ℤ) (w : l ≤ℤ h) (r : RangesAscend low high es) (xs : List (Entry V)) (e : Entry V) (next : others ≡ xs ++ e ∷ []) {f : ℤ × ℤ × Bool} (is : f ≡ found_in test e) where
    abbrev whole : es ≡ xs ++ e ∷ tail
    whole = i.parts ∙ ap (λ ys. ys ++ tail) next ∙ append_assoc xs (e ∷ []) tail

    abbrev ranges : (c : ℤ) × (low ≤ℤ c) × RangesAscend c high (e ∷ tail)
    ranges = ranges_part low high xs (e ∷ tail) (subst (RangesAscend low high) whole r)

    abbrev near_parts : StartsBelow (h +ℤ pos 2) xs × StartsBelow (h +ℤ pos 2) (e ∷ [])
    near_parts = below_part (h +ℤ pos 2) xs (e ∷ []) (subst (StartsBelow (h +ℤ pos 2)) next i.near)

    abbrev start : f.0 ≡ e.lo
    start = ap (λ (t : ℤ × ℤ × Bool). t.0) is

    abbrev keys : shared_count l h f.0 f.1 ≡ overlap l h e
    keys = ap (λ (t : ℤ × ℤ × Bool). shared_count l h t.0 t.1) is

    -- no more entries are removed than exist
    pub fits : s.removed_count + 1 ≤ length es
    fits =
        let removed_count = i.found.seen.removed_count in
        let all = ap length whole ∙ length-append xs (e ∷ tail) in
        omega (arith, removed_count, all, length-from (l +ℤ pos 1) (below (s.end +ℤ pos 1) tail), length-below (s.end +ℤ pos 1) tail)

    pub has_room : covered_keys l h es ≤ℤ len → shared_count l h f.0 f.1 ≤ℤ left
    has_room room =
        let all = ap (covered_keys l h) whole ∙ covered-append l h xs (e ∷ tail) in
        let kept = i.found.kept in
        omega (arith, ints, keys, room, all, kept, some_covered l h xs)

    module _ {q : Seen} (saw : q ≡ seen l h s f) where
      seen_next : IsSeenIn test l h (e ∷ tail) q
      seen_next = subst (IsSeenIn test l h (e ∷ tail)) (sym (saw ∙ ap (seen l h s) is)) (next_seen test l h high w ranges.0 e tail ranges.2 near_parts.1.0 i.starts s i.found.seen)

      module _ (rest : ℤ) (taken : rest +ℤ shared_count l h f.0 f.1 ≡ left) where
        -- it starts at l or above, and the walk continues
        pub goes_on : {more : ℕ} → more ≡ looks + 1 → int_lt f.0 l ≡ false → IsWalkUnderway test l h len n high es xs (e ∷ tail) q rest more
        goes_on one u =
            let up = lt_fails f.0 l u in
            let here = start in
            let length_more = ap length (ap (from l) (below_takes (h +ℤ pos 2) e tail near_parts.1.0) ∙ from_takes l e (below (h +ℤ pos 2) tail) (omega (arith, ints))) in
            let kept = i.found.kept in
            record {
              parts = whole;
              near = near_parts.0;
              starts = let s = starts_of ranges.0 high (e ∷ tail) ranges.2 in (omega (arith, ints), s.1, s.2);
              found = record {
                seen = seen_next;
                kept = omega (arith, ints, taken, kept, keys);
                few = omega (arith, one, length_more, i.found.few);
                risen = omega (arith, one, i.found.risen);
              };
            }

        -- it starts below l, and the walk ends
        pub stops : int_lt f.0 l ≡ true → IsFound test l h len n es q rest looks
        stops u =
            let down = lt_holds f.0 l u in
            let here = start in
            let under : e.lo <ℤ l = omega (arith, ints) in
            let p = past l h low high xs e tail (subst (RangesAscend low high) whole r) under in
            let all = ap (covered_keys l h) whole ∙ covered-append l h xs (e ∷ tail) in
            let kept = i.found.kept in
            let more = ap (λ ys. length (from l (below (h +ℤ pos 2) ys))) whole in
            record {
              seen = subst (λ ys. IsSeenIn test l h ys q) (sym whole) (past_seen test l h high w xs e tail p.0 under q seen_next);
              kept = omega (arith, ints, taken, kept, all, p.1, keys);
              few = omega (arith, i.found.few, more, longer (e ∷ tail) xs, longer tail (e ∷ []));
              risen = i.found.risen;
            }
          where
            longer : (ys zs : List (Entry V)) → length (from l (below (h +ℤ pos 2) ys)) ≤ length (from l (below (h +ℤ pos 2) (zs ++ ys)))
            longer ys zs =
                let parts = ap length (ap (from l) (filter-append (λ x. int_lt x.lo (h +ℤ pos 2)) zs ys) ∙ filter-append (λ x. int_le l x.lo) (below (h +ℤ pos 2) zs) (below (h +ℤ pos 2) ys))
                ∙ length-append (from l (below (h +ℤ pos 2) zs)) (from l (below (h +ℤ pos 2) ys)) in
                omega (arith, parts)

    -- the value of the key l
    module _ {o p : Option V} (v : o ≡ at tail l) (saw : p ≡ seen_value l o e) where
      pub value_goes_on : p ≡ at (e ∷ tail) l
      value_goes_on = saw ∙ ap (λ x. seen_value l x e) v

      pub value_stops : int_lt f.0 l ≡ true → p ≡ at es l
      value_stops u =
          let down = lt_holds f.0 l u in
          let here = start in
          let p = past l h low high xs e tail (subst (RangesAscend low high) whole r) (omega (arith, ints)) in
          value_goes_on ∙ sym (ap (λ ys. at ys l) whole ∙ p.2)

-- it is the value of the last entry that starts below l, if that entry extends above h
pub above_at : {V : Type 0} (l h : ℤ) → l ≤ℤ h → (b high : ℤ) (es : List (Entry V)) → RangesAscend b high es → IfSome (last_below l es) (λ e. h <ℤ e.hi → at es l ≡ Some e.value)
above_at l h w b high [] r = tt
above_at {V} l h w b high (x ∷ xs) r = by_lt_z x.lo l
    (λ u. rw (below_takes l x xs u) (by_others u (below l xs) refl (above_at l h w (x.hi +ℤ pos 1) high xs r.3)))
    (λ u. rw (below_none l l high (x ∷ xs) (omega (arith, ints)) (let s = starts_of b high (x ∷ xs) r in (u, s.1, s.2))) tt)
  where
    by_others : x.lo <ℤ l → (ys : List (Entry V)) → below l xs ≡ ys → IfSome (last_or None ys) (λ e. h <ℤ e.hi → at xs l ≡ Some e.value) → IfSome (last_or (Some x) ys) (λ e. h <ℤ e.hi → at (x ∷ xs) l ≡ Some e.value)
    by_others u [] q i = λ long. rw (le_true x.lo l (omega (arith, ints)), le_true l x.hi (omega (arith, ints))) refl
    by_others u (y ∷ ys) q i = by_lt_z x.hi l
        (λ v. rw (le_true x.lo l (omega (arith, ints)), le_false l x.hi v) i)
        (λ v. let none : y ∷ ys ≡ [] = sym q ∙ below_none l (x.hi +ℤ pos 1) high xs (omega (arith, ints)) (starts_of (x.hi +ℤ pos 1) high xs r.3) in cc)

-- a clone made from the result of a lookup is a clone of the entry's value
pub cloned_above : {T V : Type 0} (rank : T → ℤ) (is_clone : V → V → Type 0) (test : V → Bool) (h : ℤ) (left : Option (RangeEntry T Bool)) (o : Option (Entry V)) (v : ℤ → Option V) (r : Option V) → option_map (shown_found rank) left ≡ option_map (found_in test) o
    → IfSome o (λ e. h <ℤ e.hi → v e.lo ≡ Some e.value) → IfSome left (λ f. h <ℤ rank f.end → f.value ≡ false → IsClonedIf is_clone true (v (rank f.start)) r) → IfSome o (λ e. h <ℤ e.hi → test e.value ≡ false → IsSomeAnd r (is_clone e.value))
cloned_above rank is_clone test h left None v r q full_node i = tt
cloned_above rank is_clone test h None (Some e) v r q full_node i = cc
cloned_above rank is_clone test h (Some f) (Some e) v r q full_node i = λ u n.
    let s : shown_found rank f ≡ found_in test e = cc in
    subst (λ x. IsClonedIf is_clone true x r) (ap (λ (t : ℤ × ℤ × Bool). v t.0) s ∙ full_node u)
    (i (subst (λ z. h <ℤ z) (sym (ap (λ (t : ℤ × ℤ × Bool). t.1) s)) u) (ap (λ (t : ℤ × ℤ × Bool). t.2) s ∙ n))

-- if a clone is needed, the last entry that starts below the range extends above it with an unequal value
pub refused_above : {T V : Type 0} (rank : T → ℤ) (test : V → Bool) (h : ℤ) (left : Option (RangeEntry T Bool)) (o : Option (Entry V)) → option_map (shown_found rank) left ≡ option_map (found_in test) o
    → IsSomeAnd left (λ f. (h <ℤ rank f.end) × (f.value ≡ false)) → IsSomeAnd o (λ e. (h <ℤ e.hi) × (test e.value ≡ false))
refused_above rank test h None o q i = absurd i
refused_above rank test h (Some f) None q i = cc
refused_above rank test h (Some f) (Some e) q i =
    let s : shown_found rank f ≡ found_in test e = cc in
    (subst (λ z. h <ℤ z) (ap (λ (t : ℤ × ℤ × Bool). t.1) s) i.0, sym (ap (λ (t : ℤ × ℤ × Bool). t.2) s) ∙ i.1)
