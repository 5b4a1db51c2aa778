-- What lookups return, in plain words: the entry at a key, the nearest entries, and the gap around a key.
use Rattle.range_map_blaze.proofs.Words.{◌≡◌, ◌⊎◌, ℤ, pos, ◌+ℤ◌, ◌-ℤ◌, ◌≤ℤ◌, ◌<ℤ◌, Bool, List, [], ◌∷◌, Option, Some, None, refl, ◌∙◌, sym, subst, ap, arith, ints, inl, inr, int_le, find, option_map, option_or, IsSome, Contains, IsEquivalence, StartsAscend, last_below, Entry, entry, at, entry_at, SameOption, IsCanonical, IsRangeMap, IsRun, IsGap, IsClearFrom, IsChosen, left_alone, one_range, unit_eq, shown_range, same_Some, some_none, canonical, starts_ascend, at_append, at_in, at_over, at_under, at_before, at_past, entry_place, entry_run, member_run, walked_run, is_none_by, Bor}
use Rattle.std.specs.Prelude.{IfSome, MatchOption}
use Rattle.std.specs.Option.{option_copied}
use Rattle.std.specs.Range.{range_inclusive_start, range_inclusive_end}
use Rattle.std.specs.declared.ops.RangeInclusive.{RangeInclusive}
use Rattle.blaze_entries.proofs.Canonical.Lookup.{value-entry_at}
use Rattle.blaze_entries.proofs.Paints.Kept.{first_in, later_in}
use Rattle.blaze_table.proofs.Cuts.Splits.{last_at, no_last_from}
use Rattle.range_map_blaze.proofs.Nearest.{by_end, ends_above, ends_below}

-- the range and the value that a lookup returns, and the entry that they are
abbrev Told : Type 0 → Type 0 → Type 0
Told T V = Option (RangeInclusive T × Bor V)

module _ {T V : Type 0} (rank : T → ℤ) (eq : V → V → Bool) (laws : IsEquivalence eq) (low high : ℤ) (es : List (Entry V)) (map : IsRangeMap eq low high es) (k : ℤ) where
  abbrev IsToldRun : RangeInclusive T × Bor V → Type 0
  IsToldRun p = IsRun eq (at es) (rank (range_inclusive_start p.0)) (rank (range_inclusive_end p.0)) p.1.now

  -- ---- the entry at a key

  pub told_run : (o : Told T V) → option_map (shown_range rank (λ v. v.now)) o ≡ entry_at es k → IfSome o IsToldRun
  told_run None is = tt
  told_run (Some p) is = entry_run eq laws low high es map k (shown_range rank (λ v. v.now) p) (sym is)

  pub told_place : (o : Told T V) → option_map (shown_range rank (λ v. v.now)) o ≡ entry_at es k → IfSome o (λ p. (rank (range_inclusive_start p.0) ≤ℤ k) × (k ≤ℤ rank (range_inclusive_end p.0)))
  told_place None is = tt
  told_place (Some p) is = entry_place eq laws low high es map k (shown_range rank (λ v. v.now) p) (sym is)

  pub told_none : (o : Told T V) → option_map (shown_range rank (λ v. v.now)) o ≡ entry_at es k → o ≡ None → at es k ≡ None
  told_none o is none = sym (value-entry_at es k) ∙ ap (option_map (λ (e : Entry V). e.value)) (sym is ∙ ap (option_map (shown_range rank (λ v. v.now))) none)

  -- ---- the first entry that ends at a key or above

  record IsFirstEnding (xs : List (Entry V)) (e : Entry V) : Type 0 where
    member : Contains xs e
    reaches : k ≤ℤ e.hi
    clear : (j : ℤ) → k ≤ℤ j → j <ℤ e.lo → at xs j ≡ None

  first_ending : (xs : List (Entry V)) → IsCanonical eq xs → (e : Entry V) → find (λ x. int_le k x.hi) xs ≡ Some e → IsFirstEnding xs e
  first_ending [] c e is = absurd (some_none (sym is))
  first_ending (x ∷ xs) c e is = by_end eq k x
      (λ over.
      let more = first_ending xs c.2 e (sym (ends_below eq k x xs over) ∙ is) in
      record { member = later_in x xs e more.member; reaches = more.reaches; clear = λ j a b. at_over x xs j (omega (arith, ints, over, a)) ∙ more.clear j a b })
      (λ to. subst (IsFirstEnding (x ∷ xs)) (same_Some x e (sym (ends_above eq k x xs to) ∙ is))
      (record { member = first_in x xs; reaches = to; clear = λ j a b. at_before eq (x ∷ xs) (x.lo -ℤ pos 1) j c (omega (arith, ints)) (omega (arith, ints, b)) }))

  none_ending : (xs : List (Entry V)) → IsCanonical eq xs → find (λ x. int_le k x.hi) xs ≡ None → (j : ℤ) → k ≤ℤ j → at xs j ≡ None
  none_ending [] c is j a = refl
  none_ending (x ∷ xs) c is j a = by_end eq k x
      (λ over. at_over x xs j (omega (arith, ints, over, a)) ∙ none_ending xs c.2 (sym (ends_below eq k x xs over) ∙ is) j a)
      (λ to. absurd (some_none (sym (ends_above eq k x xs to) ∙ is)))

  module _ (o : Told T V) (is : option_map (shown_range rank (λ v. v.now)) o ≡ find (λ x. int_le k x.hi) es) where
    above : IfSome o (λ p. IsFirstEnding es (shown_range rank (λ v. v.now) p))
    above = by_found o is
      where
        by_found : (f : Told T V) → option_map (shown_range rank (λ v. v.now)) f ≡ find (λ x. int_le k x.hi) es → IfSome f (λ p. IsFirstEnding es (shown_range rank (λ v. v.now) p))
        by_found None p = tt
        by_found (Some q) p = first_ending es (canonical eq laws es map.runs) (shown_range rank (λ v. v.now) q) (sym p)

    pub above_run : IfSome o IsToldRun
    above_run = by_some o above
      where
        by_some : (f : Told T V) → IfSome f (λ p. IsFirstEnding es (shown_range rank (λ v. v.now) p)) → IfSome f IsToldRun
        by_some None p = tt
        by_some (Some q) p = member_run eq laws low high es map (shown_range rank (λ v. v.now) q) p.member

    pub above_reaches : IfSome o (λ p. k ≤ℤ rank (range_inclusive_end p.0))
    above_reaches = by_some o above
      where
        by_some : (f : Told T V) → IfSome f (λ p. IsFirstEnding es (shown_range rank (λ v. v.now) p)) → IfSome f (λ p. k ≤ℤ rank (range_inclusive_end p.0))
        by_some None p = tt
        by_some (Some q) p = p.reaches

    pub above_clear : IfSome o (λ p. (j : ℤ) → k ≤ℤ j → j <ℤ rank (range_inclusive_start p.0) → at es j ≡ None)
    above_clear = by_some o above
      where
        by_some : (f : Told T V) → IfSome f (λ p. IsFirstEnding es (shown_range rank (λ v. v.now) p)) → IfSome f (λ p. (j : ℤ) → k ≤ℤ j → j <ℤ rank (range_inclusive_start p.0) → at es j ≡ None)
        by_some None p = tt
        by_some (Some q) p = p.clear

    pub above_none : o ≡ None → (j : ℤ) → k ≤ℤ j → at es j ≡ None
    above_none none = none_ending es (canonical eq laws es map.runs) (sym is ∙ ap (option_map (shown_range rank (λ v. v.now))) none)

  -- ---- the last entry that starts at a key or below

  record IsLastStarting (e : Entry V) : Type 0 where
    run : IsRun eq (at es) e.lo e.hi e.value
    reaches : e.lo ≤ℤ k
    clear : (j : ℤ) → e.hi <ℤ j → j ≤ℤ k → at es j ≡ None

  starts : StartsAscend low high es
  starts = starts_ascend eq low high es (canonical eq laws es map.runs) map.keys

  nothing_above : (j b : ℤ) (xs : List (Entry V)) → j <ℤ b → StartsAscend b high xs → at xs j ≡ None
  nothing_above j b [] u a = refl
  nothing_above j b (x ∷ xs) u a = at_under x xs j (omega (arith, ints, u, a.0)) ∙ nothing_above j (x.lo +ℤ pos 1) xs (omega (arith, ints, u, a.0)) a.2

  last_starting : (e : Entry V) → last_below (k +ℤ pos 1) es ≡ Some e → IsLastStarting e
  last_starting e is =
      let c = canonical eq laws es map.runs in
      let last = last_at (k +ℤ pos 1) low high e es starts is in
      let run = walked_run eq laws low high es map last.front last.back e last.parts in
      let front = Rattle.blaze_table.proofs.Cuts.Splits.ends_below eq last.front e last.back (subst (IsCanonical eq) last.parts c) in
      record {
        run = run;
        reaches = omega (arith, ints, last.starts);
        clear = λ j over to.
            ap (λ xs. at xs j) last.parts ∙ at_append last.front (e ∷ last.back) j
            ∙ ap (λ o. option_or o (at (e ∷ last.back) j)) (at_past e.lo j last.front front (omega (arith, ints, over, run.order)))
            ∙ at_over e last.back j over ∙ nothing_above j (k +ℤ pos 1) last.back (omega (arith, ints, to)) last.back_from;
      }

  module _ (o : Told T V) (is : option_map (shown_range rank (λ v. v.now)) o ≡ last_below (k +ℤ pos 1) es) where
    below : IfSome o (λ p. IsLastStarting (shown_range rank (λ v. v.now) p))
    below = by_found o is
      where
        by_found : (f : Told T V) → option_map (shown_range rank (λ v. v.now)) f ≡ last_below (k +ℤ pos 1) es → IfSome f (λ p. IsLastStarting (shown_range rank (λ v. v.now) p))
        by_found None p = tt
        by_found (Some q) p = last_starting (shown_range rank (λ v. v.now) q) (sym p)

    pub below_run : IfSome o IsToldRun
    below_run = by_some o below
      where
        by_some : (f : Told T V) → IfSome f (λ p. IsLastStarting (shown_range rank (λ v. v.now) p)) → IfSome f IsToldRun
        by_some None p = tt
        by_some (Some q) p = p.run

    pub below_reaches : IfSome o (λ p. rank (range_inclusive_start p.0) ≤ℤ k)
    below_reaches = by_some o below
      where
        by_some : (f : Told T V) → IfSome f (λ p. IsLastStarting (shown_range rank (λ v. v.now) p)) → IfSome f (λ p. rank (range_inclusive_start p.0) ≤ℤ k)
        by_some None p = tt
        by_some (Some q) p = p.reaches

    pub below_clear : IfSome o (λ p. (j : ℤ) → rank (range_inclusive_end p.0) <ℤ j → j ≤ℤ k → at es j ≡ None)
    below_clear = by_some o below
      where
        by_some : (f : Told T V) → IfSome f (λ p. IsLastStarting (shown_range rank (λ v. v.now) p)) → IfSome f (λ p. (j : ℤ) → rank (range_inclusive_end p.0) <ℤ j → j ≤ℤ k → at es j ≡ None)
        by_some None p = tt
        by_some (Some q) p = p.clear

    pub below_none : o ≡ None → (j : ℤ) → j ≤ℤ k → at es j ≡ None
    below_none none j to = nothing_above j (k +ℤ pos 1) es (omega (arith, ints, to)) (no_last_from (k +ℤ pos 1) low high es starts (sym is ∙ ap (option_map (shown_range rank (λ v. v.now))) none))

-- ---- the gap around a key

module _ {V : Type 0} (low high : ℤ) (content : ℤ → Option V) (k a b : ℤ) (gap : IsGap low high content k a b) where
  some_or : (o : Option V) → (o ≡ None → ⊥) → IsSome o
  some_or None never = absurd (never refl)
  some_or (Some x) never = refl

  clear_above : content (b +ℤ pos 1) ≡ None → IsClearFrom content k (b +ℤ pos 1)
  clear_above none j from to = grind (arith, ints, gap.clear j, gap.starts, none)

  clear_below : content (a -ℤ pos 1) ≡ None → IsClearFrom content (a -ℤ pos 1) k
  clear_below none j from to = grind (arith, ints, gap.clear j, gap.ends, none)

  -- the keys next to it have values
  pub gap_above : b <ℤ high → IsSome (content (b +ℤ pos 1))
  gap_above room = some_or (content (b +ℤ pos 1)) (λ none.
      let wider = gap.greatest k (b +ℤ pos 1) (omega (arith, ints, gap.from, gap.starts)) (omega (arith, ints)) (omega (arith, ints, gap.ends)) (omega (arith, ints, room)) (clear_above none) in
      omega (arith, ints, wider.1))

  pub gap_below : low <ℤ a → IsSome (content (a -ℤ pos 1))
  gap_below room = some_or (content (a -ℤ pos 1)) (λ none.
      let wider = gap.greatest (a -ℤ pos 1) k (omega (arith, ints, room)) (omega (arith, ints, gap.starts)) (omega (arith, ints)) (omega (arith, ints, gap.ends, gap.to)) (clear_below none) in
      omega (arith, ints, wider.0))

-- ---- the entry or the gap at a key

module _ {V : Type 0} (eq : V → V → Bool) (laws : IsEquivalence eq) (low high : ℤ) (es : List (Entry V)) (map : IsRangeMap eq low high es) (k a b : ℤ) where
  -- what a lookup says of the keys from a to b and of the value that it returns with them
  abbrev pub IsPieceTold : Option (Bor V) → Type 0
  IsPieceTold r = MatchOption r ((at es k ≡ None) × IsGap low high (at es) k a b) (λ v. entry_at es k ≡ Some (entry a b v.now))

  pub piece_holds : (r : Option (Bor V)) → IsPieceTold r → (a ≤ℤ k) × (k ≤ℤ b)
  piece_holds None p = (p.1.starts, p.1.ends)
  piece_holds (Some v) p = entry_place eq laws low high es map k (entry a b v.now) p

  pub piece_run : (r : Option (Bor V)) → IsPieceTold r → (j : ℤ) → a ≤ℤ j → j ≤ℤ b → at es j ≡ option_copied r
  piece_run None p j from to = p.1.clear j from to
  piece_run (Some v) p j from to = (entry_run eq laws low high es map k (entry a b v.now) p).value j from to

  pub piece_below : (r : Option (Bor V)) → IsPieceTold r → r ≡ None → low <ℤ a → IsSome (at es (a -ℤ pos 1))
  piece_below None p none = gap_below low high (at es) k a b p.1
  piece_below (Some v) p none = absurd (some_none none)

  pub piece_above : (r : Option (Bor V)) → IsPieceTold r → r ≡ None → b <ℤ high → IsSome (at es (b +ℤ pos 1))
  piece_above None p none = gap_above low high (at es) k a b p.1
  piece_above (Some v) p none = absurd (some_none none)

-- ---- the gaps of a range

module _ {V : Type 0} (low high l h : ℤ) (es : List (Entry V)) (new : List (Entry (Unit {0}))) (gaps : IsChosen unit_eq low high left_alone (one_range l h) es new) where
  one_unit : (o : Option (Unit {0})) → SameOption unit_eq o (Some tt) → o ≡ Some tt
  one_unit None s = absurd s
  one_unit (Some u) s = refl

  pub gaps_free : (k : ℤ) → l ≤ℤ k → k ≤ℤ h → at es k ≡ None → at new k ≡ Some tt
  gaps_free k from to none = one_unit (at new k) (subst (SameOption unit_eq (at new k)) (at_in (entry l h tt) [] k from to) (gaps.right_none k none))

  taken_by : (o : Option V) (k : ℤ) → at es k ≡ o → IsSome o → at new k ≡ None
  taken_by None k is some = absurd (cc)
  taken_by (Some v) k is some = is_none_by unit_eq (at new k) (gaps.right_some k v is)

  pub gaps_taken : (k : ℤ) → IsSome (at es k) → at new k ≡ None
  gaps_taken k some = taken_by (at es k) k refl some

  alone_none : (o : Option V) → left_alone {A = Unit {0}} None o ≡ None
  alone_none None = refl
  alone_none (Some v) = refl

  pub gaps_outside : (k : ℤ) → (k <ℤ l) ⊎ (h <ℤ k) → at new k ≡ None
  gaps_outside k out = is_none_by unit_eq (at new k) (subst (SameOption unit_eq (at new k)) (ap (λ o. left_alone o (at es k)) (nothing out) ∙ alone_none (at es k)) (gaps.content k))
    where
      nothing : (k <ℤ l) ⊎ (h <ℤ k) → at (one_range l h) k ≡ None
      nothing (inl u) = at_under (entry l h tt) [] k u
      nothing (inr u) = at_over (entry l h tt) [] k u
