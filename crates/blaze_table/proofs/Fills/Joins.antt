-- An entry is joined with the previous one, which it touches and whose value is equal.
use Rattle.blaze_table.proofs.Words.{none_is_not, ◌≡◌, ℤ, pos, ◌+ℤ◌, ◌-ℤ◌, ◌≤ℤ◌, ◌<ℤ◌, Bool, cond, true, false, List, [], ◌∷◌, ◌++◌, Option, Some, None, option_map, refl, ◌∙◌, sym, subst, ap, arith, inl, inr, IsSome, ints, by_lt_z, append_assoc, IsEquivalence, range_in, StartsAscend, last_below, start_at, with_end, without, none_from_map, same_along, same_back, same_itself, some_of_same, by_order, start_none, StartsBelow, more_below, AreKeys, HasStart, Entry, entry, at, entry_at, holds, SameOption, SameContent, IsKeptIn, never_equal, IsJoint, IsJoinedAt, IsOrdered, IsLastBelow, IsAbove, IsAbove-from_apart, at_in, at_under, at_over, by_place, value-entry_at, by_first, first_in, later_in}
use Rattle.blaze_table.proofs.Cuts.Splits.{no_last_from}
use Rattle.blaze_table.proofs.Neighbours.Holders.{Holder, entry_containing, there, end_moved, without-between, starts_behind}
use Rattle.blaze_table.proofs.Neighbours.NextEntries.{holding_none, holding_some, holding_not}
use Rattle.blaze_entries.proofs.EditLists.{start_skips}
use Rattle.blaze_table.proofs.Fills.KeptEntries.{kept_first, kept_later, kept_same}
use Rattle.blaze_table.proofs.Fills.Upwards.{none_under}
use Rattle.blaze_table.proofs.Fills.Ordered.{apart_by, start_above}

module _ {V : Type 0} (eq : V → V → Bool) (laws : IsEquivalence eq) (low high : ℤ) where
  -- the list after the join, and its first entry
  pub record IsOne (s : ℤ) (old new : List (Entry V)) : Type 0 where
    pub joined : IsJoinedAt eq low high s old new
    pub above : (b : ℤ) → IsAbove b old → IsAbove b new

  -- the first two entries
  one_here : (e f : Entry V) (fs : List (Entry V)) → IsOrdered (e ∷ f ∷ fs) → AreKeys low high (e ∷ f ∷ fs) → f.lo ≡ e.hi +ℤ pos 1 → eq e.value f.value ≡ true
      → IsOne f.lo (e ∷ f ∷ fs) (entry e.lo f.hi e.value ∷ fs)
  one_here e f fs c k touch alike = record {
    joined = record {
      ordered = (omega (arith, ints, c.0, c.2.0), apart_by (entry e.lo f.hi e.value) fs (IsAbove-from_apart never_equal f fs c.2.1), c.2.2);
      are_keys = (k.0, k.2.1, k.2.2);
      count = omega (arith, ints);
      same = content;
      starts = λ j h. elim h [
        | inl p ↦ (inl p, λ q. omega (arith, ints, c.0))
        | inr p ↦ (inr (inr p), λ q. let a = start_above f.hi j fs c.2.2 (IsAbove-from_apart never_equal f fs c.2.1) p in omega (arith, ints, c.2.0))
      ];
      kept = λ x h n. by_first e (f ∷ fs) x h
          (λ q. subst (IsKeptIn (entry e.lo f.hi e.value ∷ fs)) q (f.hi, omega (arith, ints, c.0, c.2.0), first_in (entry e.lo f.hi e.value) fs))
          (λ l. by_first f fs x l
          (λ q. absurd (n (ap (λ (y : Entry V). y.lo) (sym q))))
          (λ m. kept_same (entry e.lo f.hi e.value ∷ fs) x (later_in (entry e.lo f.hi e.value) fs x m)));
    };
    above = λ b a. a;
  }
    where
      content : SameContent eq (entry e.lo f.hi e.value ∷ fs) (e ∷ f ∷ fs)
      content j = by_place (entry e.lo f.hi e.value) j
          (λ l u. by_lt_z e.hi j
          (λ m. same_along eq (sym (at_in (entry e.lo f.hi e.value) fs j l u)) (sym (at_over e (f ∷ fs) j m ∙ at_in f fs j (omega (arith, ints)) u)) alike)
          (λ m. same_along eq (sym (at_in (entry e.lo f.hi e.value) fs j l u)) (sym (at_in e (f ∷ fs) j l m)) (laws.refl e.value)))
          (λ l. same_along eq (sym (at_under (entry e.lo f.hi e.value) fs j l)) (sym (at_under e (f ∷ fs) j l ∙ at_under f fs j (omega (arith, ints, c.0)))) (same_itself eq laws (at fs j)))
          (λ u. same_along eq (sym (at_over (entry e.lo f.hi e.value) fs j u)) (sym (at_over e (f ∷ fs) j (omega (arith, ints, c.2.0)) ∙ at_over f fs j u)) (same_itself eq laws (at fs j)))

  -- a join after the first entry
  one_behind : (s : ℤ) (d : Entry V) (old new : List (Entry V)) → IsOrdered (d ∷ old) → AreKeys low high (d ∷ old) → d.lo <ℤ s → IsOne s old new → IsOne s (d ∷ old) (d ∷ new)
  one_behind s d old new c k l i = record {
    joined = record {
      ordered = (c.0, apart_by d new (i.above d.hi (IsAbove-from_apart never_equal d old c.1)), i.joined.ordered);
      are_keys = (k.0, k.1, i.joined.are_keys);
      count = omega (arith, ints, i.joined.count);
      same = λ j. both (holds d j) j;
      starts = λ j h. elim h [
        | inl p ↦ (inl p, λ q. omega (arith, ints))
        | inr p ↦ let r = i.joined.starts j p in (inr r.0, r.1)
      ];
      kept = λ x h n. by_first d old x h
          (λ q. kept_first d new x q)
          (λ m. kept_later d new x (i.joined.kept x m n));
    };
    above = λ b a. a;
  }
    where
      both : (b : Bool) (j : ℤ) → SameOption eq (cond b (Some d.value) (at new j)) (cond b (Some d.value) (at old j))
      both true j = laws.refl d.value
      both false j = i.joined.same j

  pub one_in : (front : List (Entry V)) (e f : Entry V) (fs : List (Entry V)) → IsOrdered (front ++ e ∷ f ∷ fs) → AreKeys low high (front ++ e ∷ f ∷ fs) → f.lo ≡ e.hi +ℤ pos 1 → eq e.value f.value ≡ true
      → StartsBelow f.lo front → IsOne f.lo (front ++ e ∷ f ∷ fs) (front ++ entry e.lo f.hi e.value ∷ fs)
  one_in [] e f fs c k touch alike b = one_here e f fs c k touch alike
  one_in (d ∷ front) e f fs c k touch alike b = one_behind f.lo d (front ++ e ∷ f ∷ fs) (front ++ entry e.lo f.hi e.value ∷ fs) c k b.0 (one_in front e f fs c.2 k.2 touch alike b.1)

  -- if no entry starts at the joint, nothing is joined
  pub not_joined : (s : ℤ) (old new : List (Entry V)) → new ≡ old → IsOrdered old → AreKeys low high old → (HasStart old s → ⊥) → IsJoinedAt eq low high s old new
  not_joined s old new q c k n = subst (IsJoinedAt eq low high s old) (sym q) (record {
    ordered = c;
    are_keys = k;
    count = refl;
    same = λ j. same_itself eq laws (at old j);
    starts = λ j h. (h, λ p. n (subst (HasStart old) p h));
    kept = λ x h m. kept_same old x h;
  })

module _ {V : Type 0} where
  start_from : (b high k : ℤ) (es : List (Entry V)) → StartsAscend b high es → HasStart es k → b ≤ℤ k
  start_from b high k [] a h = absurd h
  start_from b high k (e ∷ es) a (inl p) = omega (arith, ints, a.0)
  start_from b high k (e ∷ es) a (inr p) = let r = start_from (e.lo +ℤ pos 1) high k es a.2 p in omega (arith, ints, a.0)

  start_in : (b k : ℤ) (xs ys : List (Entry V)) → StartsBelow b xs → b ≤ℤ k → HasStart (xs ++ ys) k → HasStart ys k
  start_in b k [] ys u l h = h
  start_in b k (x ∷ xs) ys u l (inl p) = absurd (omega (arith, ints, u.0))
  start_in b k (x ∷ xs) ys u l (inr p) = start_in b k xs ys u.1 l p

  -- no entry starts at s if the last one that starts up to s starts below it
  pub none_starts : (s low high a z : ℤ) (es : List (Entry V)) → StartsAscend low high es → IsOrdered es → IsLastBelow (s +ℤ pos 1) a z es → a <ℤ s → HasStart es s → ⊥
  none_starts s low high a z es u c p l h =
      let i = entry_containing never_equal (s +ℤ pos 1) high es low a z u c p in
      let lo = i.lo in
      let rest = start_in i.of.lo s i.front (i.of ∷ i.back) i.front_starts (omega (arith, ints)) (subst (λ xs. HasStart xs s) i.parts h) in
      elim rest [
        | inl q ↦ omega (arith, ints)
        | inr q ↦ (let r = start_from (s +ℤ pos 1) high s i.back i.back_starts q in omega (arith, ints))
      ]

  pub none_last : (s low high : ℤ) (es : List (Entry V)) → StartsAscend low high es → None ≡ option_map range_in (last_below (s +ℤ pos 1) es) → HasStart es s → ⊥
  none_last s low high es u p h =
      let r = start_from (s +ℤ pos 1) high s es (no_last_from (s +ℤ pos 1) low high es u (none_from_map range_in (last_below (s +ℤ pos 1) es) p)) h in
      omega (arith, ints)

  start_past : (s : ℤ) (xs ys : List (Entry V)) → StartsBelow s xs → start_at s (xs ++ ys) ≡ start_at s ys
  start_past s [] ys u = refl
  start_past s (x ∷ xs) ys u = start_skips s x (xs ++ ys) (λ q. omega (arith, ints, u.0)) ∙ start_past s xs ys u.1

  pub record IsFirstOf (s : ℤ) (f : Entry V) (es : List (Entry V)) : Type 0 where
    pub rest : List (Entry V)
    pub parts : es ≡ f ∷ rest
    pub lo : f.lo ≡ s

  no_some : (f : Entry V) → None ≡ Some f → ⊥
  no_some f p = cc

  first_of : (s high : ℤ) (f : Entry V) (es : List (Entry V)) → StartsAscend s high es → start_at s es ≡ Some f → IsFirstOf s f es
  first_of s high f [] a p = absurd (no_some f p)
  first_of s high f (e ∷ es) a p = by_order s e.lo
      (λ o q r. absurd (no_some f (sym (start_skips s e es (λ t. omega (arith, ints)) ∙ start_none s (e.lo +ℤ pos 1) high es (omega (arith, ints)) a.2) ∙ p)))
      (λ o q r.
      let same : e ≡ f = some_same (sym (ap (λ t. cond t (Some e) (start_at s es)) r) ∙ p) in
      record { rest = es; parts = ap (λ x. x ∷ es) same; lo = subst (λ (x : Entry V). x.lo ≡ s) same (sym o) })
      (λ o q r. absurd (omega (arith, ints, a.0)))
    where
      some_same : Some e ≡ Some f → e ≡ f
      some_same q = cc

  some_at : (es : List (Entry V)) (k : ℤ) (e : Entry V) → Some e ≡ entry_at es k → at es k ≡ Some e.value
  some_at es k e p = sym (ap (option_map (λ (x : Entry V). x.value)) p ∙ value-entry_at es k)

  none_at : (es : List (Entry V)) (k : ℤ) → None ≡ entry_at es k → at es k ≡ None
  none_at es k p = sym (ap (option_map (λ (x : Entry V). x.value)) p ∙ value-entry_at es k)

  module _ (eq : V → V → Bool) (laws : IsEquivalence eq) (low high s : ℤ) (es : List (Entry V)) (c : IsOrdered es) (k : AreKeys low high es) (u : StartsAscend low high es) (joint : IsJoint eq (at es) s) where
    value_before : IsSome (at es (s -ℤ pos 1))
    value_before = some_of_same eq (at es s) (at es (s -ℤ pos 1)) (same_back eq laws (at es (s -ℤ pos 1)) (at es s) joint.1) joint.0

    -- a joint is not the least key
    pub joint_above : low <ℤ s
    joint_above = by_lt_z low s (λ l. l) (λ l. absurd (none_is_not (at es (s -ℤ pos 1)) (none_under low high (s -ℤ pos 1) es k (omega (arith, ints))) value_before))

    -- an entry starts before it
    pub entry_before : None ≡ option_map range_in (last_below s es) → ⊥
    entry_before p =
        let next : s -ℤ pos 1 +ℤ pos 1 ≡ s = omega (arith, ints) in
        let none : None ≡ last_below (s -ℤ pos 1 +ℤ pos 1) es = sym (ap (λ x. last_below x es) next ∙ none_from_map range_in (last_below s es) p) in
        none_is_not (at es (s -ℤ pos 1)) (none_at es (s -ℤ pos 1) (holding_none never_equal (s -ℤ pos 1) low high es c u none)) value_before

    -- the entry that starts at the joint, and the previous one
    module _ (a1 z1 a2 z2 : ℤ) (one : IsLastBelow (s +ℤ pos 1) a1 z1 es) (at_it : s ≤ℤ a1) (two : IsLastBelow s a2 z2 es) where
      abbrev this : Holder never_equal (s +ℤ pos 1) high es a1 z1
      this = entry_containing never_equal (s +ℤ pos 1) high es low a1 z1 u c one

      abbrev that : Holder never_equal s high es a2 z2
      that = entry_containing never_equal s high es low a2 z2 u c two

      pub starts_here : start_at s es ≡ Some this.of
      starts_here =
          let lo = this.lo in
          let is : a1 ≡ s = omega (arith, ints, this.starts) in
          subst (λ x. start_at x es ≡ Some this.of) is (there never_equal (s +ℤ pos 1) high es a1 z1 this)

      first : IsFirstOf s this.of that.back
      first = first_of s high this.of that.back that.back_starts
          (sym (ap (start_at s) that.parts
          ∙ start_past s that.front (that.of ∷ that.back) (more_below that.of.lo s that.front (omega (arith, ints, that.starts)) that.front_starts)
          ∙ start_skips s that.of that.back (λ q. omega (arith, ints, that.starts))) ∙ starts_here)

      parts : es ≡ that.front ++ that.of ∷ this.of ∷ first.rest
      parts = that.parts ∙ ap (λ t. that.front ++ that.of ∷ t) first.parts

      both : IsOrdered (that.of ∷ this.of ∷ first.rest)
      both = subst (λ t. IsOrdered (that.of ∷ t)) first.parts that.here

      next : s -ℤ pos 1 +ℤ pos 1 ≡ s
      next = omega (arith, ints)

      last : Some that.of ≡ last_below (s -ℤ pos 1 +ℤ pos 1) es
      last = sym (ap (λ x. last_below x es) next ∙ that.last)

      reaches : (s -ℤ pos 1) ≤ℤ that.of.hi
      reaches = by_lt_z that.of.hi (s -ℤ pos 1)
          (λ l. absurd (none_is_not (at es (s -ℤ pos 1)) (none_at es (s -ℤ pos 1) (holding_not never_equal (s -ℤ pos 1) low high es c u that.of last l)) value_before))
          (λ l. l)

      touch : this.of.lo ≡ that.of.hi +ℤ pos 1
      touch = omega (arith, ints, reaches, both.1.0, first.lo)

      alike : eq that.of.value this.of.value ≡ true
      alike = same_along eq
          (some_at es (s -ℤ pos 1) that.of (holding_some never_equal (s -ℤ pos 1) low high es c u that.of last reaches))
          (some_at es s this.of (holding_some never_equal s low high es c u this.of (sym this.last) (omega (arith, ints, first.lo, both.2.0))))
          joint.1

      taken_from : without s es ≡ that.front ++ that.of ∷ first.rest
      taken_from = ap (without s) (parts ∙ sym (append_assoc that.front (that.of ∷ []) (this.of ∷ first.rest)))
          ∙ without-between s this.of (that.front ++ that.of ∷ []) first.rest first.lo
          (starts_behind s that.front that.of (more_below that.of.lo s that.front (omega (arith, ints, that.starts)) that.front_starts) that.starts)
          ∙ append_assoc that.front (that.of ∷ []) first.rest

      pub joined : (new : List (Entry V)) → new ≡ with_end a2 z1 (without s es) → IsJoinedAt eq low high s es new
      joined new q =
          let made : new ≡ that.front ++ entry that.of.lo this.of.hi that.of.value ∷ first.rest =
          q ∙ ap (with_end a2 z1) taken_from ∙ end_moved never_equal s high es a2 z2 that z1 first.rest
          ∙ ap (λ x. that.front ++ entry that.of.lo x that.of.value ∷ first.rest) (sym this.hi) in
          let below = more_below that.of.lo this.of.lo that.front (omega (arith, ints, that.starts, first.lo)) that.front_starts in
          let i = one_in eq laws low high that.front that.of this.of first.rest (subst IsOrdered parts c) (subst (AreKeys low high) parts k) touch alike below in
          subst (λ x. IsJoinedAt eq low high x es new) first.lo
          (subst (λ x. IsJoinedAt eq low high this.of.lo x new) (sym parts)
          (subst (IsJoinedAt eq low high this.of.lo (that.front ++ that.of ∷ this.of ∷ first.rest)) (sym made) i.joined))
