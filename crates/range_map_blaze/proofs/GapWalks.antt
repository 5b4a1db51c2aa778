-- A walk over the gaps of a range, from both ends.
use Rattle.range_map_blaze.proofs.Words.{◌≡◌, ℤ, pos, ◌+ℤ◌, ◌-ℤ◌, ◌≤ℤ◌, ◌<ℤ◌, Bool, true, false, cond, List, [], ◌∷◌, ◌++◌, Option, Some, None, IfSome, ◌∙◌, sym, ap, subst, arith, append_assoc, int_lt, ints, by_lt_z, lt_true, lt_false, up_to, IsCanonical, ending_from, overlapping, Entry, entry, IsAbove, IsAbove-from_apart, above_by, gap_before, no_gap, gaps_within, gaps_left, AreKeysFrom, IsUpTo, IsAcross, IsGapWalk}
use Rattle.range_map_blaze.proofs.GapsWithin.{up_to_takes, up_to_skips, up_to_none}
use Rattle.range_map_blaze.proofs.Paints.Following.{EndsFrom, whole_first}

module _ {V : Type 0} where
  -- ---- from the front

  across_above : (b h : ℤ) (es : List (Entry V)) → IsUpTo b h es → IsAcross (b +ℤ pos 1) h es
  across_above b h [] u = tt
  across_above b h (e ∷ es) u = (omega (arith, ints, u.0, u.1), u.1, u.2, u.3)

  -- no entry is left: all keys are a gap
  pub one_gap : (l h : ℤ) (es : List (Entry V)) (all : List (Entry (Unit {0}))) → es ≡ [] → IsGapWalk l h es → gaps_within l h es ≡ all → all ≡ entry l h tt ∷ []
  one_gap l h es all none w same =
      sym same
      ∙ ap (gaps_within l h) none
      ∙ ap (λ b. cond b (entry l (h +ℤ pos 1 -ℤ pos 1) tt ∷ []) []) (lt_true l (h +ℤ pos 1) (omega (arith, ints, w.order)))
      ∙ ap (λ z. entry l z tt ∷ []) (omega (arith, ints))

  -- ---- from the back

  -- the others lie below the last
  up_to_last : (b h : ℤ) (es : List (Entry V)) (e : Entry V) → IsUpTo b h (es ++ e ∷ []) → (b <ℤ e.lo) × IsUpTo b (e.lo -ℤ pos 1) es
  up_to_last b h [] e u = (u.0, tt)
  up_to_last b h (d ∷ ds) e u =
      let rest = up_to_last d.hi h ds e u.3 in
      (omega (arith, ints, u.0, u.1, rest.0), (u.0, u.1, omega (arith, ints, u.1, rest.0), rest.1))

  across_last : (l h : ℤ) (es : List (Entry V)) (e : Entry V) → IsAcross l h (es ++ e ∷ []) → IsAcross l (e.lo -ℤ pos 1) es
  across_last l h [] e u = tt
  across_last l h (d ∷ ds) e u =
      let rest = up_to_last d.hi h ds e u.3 in
      (u.0, u.1, omega (arith, ints, u.1, rest.0), rest.1)

  -- what is left once the last entry was taken
  pub walk_back : (l h : ℤ) (es : List (Entry V)) (e : Entry V) → IsGapWalk l h (es ++ e ∷ []) → l <ℤ e.lo → IsGapWalk l (e.lo -ℤ pos 1) es
  walk_back l h es e w u = record { order = omega (arith, ints); entries = across_last l h es e w.entries }

  -- the gaps below the last entry, and the gap above it
  abbrev split_gaps : ℤ → ℤ → List (Entry V) → Entry V → List (Entry (Unit {0}))
  split_gaps l h es e = cond (int_lt l e.lo) (gaps_within l (e.lo -ℤ pos 1) es) [] ++ gap_before (e.hi +ℤ pos 1) (h +ℤ pos 1)

  last_gap : (e : Entry V) (h : ℤ) → cond (int_lt e.hi h) (gap_before (e.hi +ℤ pos 1) (h +ℤ pos 1)) [] ≡ gap_before (e.hi +ℤ pos 1) (h +ℤ pos 1)
  last_gap e h = by_lt_z e.hi h
      (λ u. ap (λ b. cond b (gap_before (e.hi +ℤ pos 1) (h +ℤ pos 1)) []) (lt_true e.hi h u))
      (λ u.
      ap (λ b. cond b (gap_before (e.hi +ℤ pos 1) (h +ℤ pos 1)) []) (lt_false e.hi h u)
      ∙ sym (no_gap (e.hi +ℤ pos 1) (h +ℤ pos 1) (omega (arith, ints))))

  pub gaps_back : (l h : ℤ) (es : List (Entry V)) (e : Entry V) → IsAcross l h (es ++ e ∷ []) → gaps_within l h (es ++ e ∷ []) ≡ split_gaps l h es e
  gaps_back l h [] e w =
      let last : gap_before l (e.lo -ℤ pos 1 +ℤ pos 1) ≡ gap_before l e.lo = ap (gap_before l) (omega (arith, ints)) in
      ap (λ G. gap_before l e.lo ++ G) (last_gap e h)
      ∙ ap (λ t. t ++ gap_before (e.hi +ℤ pos 1) (h +ℤ pos 1)) (by_lt_z l e.lo
      (λ u. sym last ∙ sym (ap (λ b. cond b (gap_before l (e.lo -ℤ pos 1 +ℤ pos 1)) []) (lt_true l e.lo u)))
      (λ u. no_gap l e.lo u ∙ sym (ap (λ b. cond b (gap_before l (e.lo -ℤ pos 1 +ℤ pos 1)) []) (lt_false l e.lo u))))
  gaps_back l h (d ∷ ds) e w =
      let rest = up_to_last d.hi h ds e w.3 in
      let after = gaps_back (d.hi +ℤ pos 1) h ds e (across_above d.hi h (ds ++ e ∷ []) w.3) in
      let G = gap_before (e.hi +ℤ pos 1) (h +ℤ pos 1) in
      let same : cond (int_lt (d.hi +ℤ pos 1) e.lo) (gaps_within (d.hi +ℤ pos 1) (e.lo -ℤ pos 1) ds) [] ≡ cond (int_lt d.hi (e.lo -ℤ pos 1)) (gaps_within (d.hi +ℤ pos 1) (e.lo -ℤ pos 1) ds) [] =
      ap (λ b. cond b (gaps_within (d.hi +ℤ pos 1) (e.lo -ℤ pos 1) ds) []) (same_test d.hi e.lo) in
      ap (λ b. gap_before l d.lo ++ cond b (gaps_within (d.hi +ℤ pos 1) h (ds ++ e ∷ [])) []) (lt_true d.hi h (under rest))
      ∙ ap (λ t. gap_before l d.lo ++ t) (after ∙ ap (λ t. t ++ G) same)
      ∙ sym (append_assoc (gap_before l d.lo) (cond (int_lt d.hi (e.lo -ℤ pos 1)) (gaps_within (d.hi +ℤ pos 1) (e.lo -ℤ pos 1) ds) []) G)
      ∙ ap (λ b. cond b (gaps_within l (e.lo -ℤ pos 1) (d ∷ ds)) [] ++ G) (sym (lt_true l e.lo (omega (arith, ints, w.0, rest.0))))
    where
      same_test : (a b : ℤ) → int_lt (a +ℤ pos 1) b ≡ int_lt a (b -ℤ pos 1)
      same_test a b = by_lt_z (a +ℤ pos 1) b
          (λ u. lt_true (a +ℤ pos 1) b u ∙ sym (lt_true a (b -ℤ pos 1) (omega (arith, ints))))
          (λ u. lt_false (a +ℤ pos 1) b u ∙ sym (lt_false a (b -ℤ pos 1) (omega (arith, ints))))

      top : (b : ℤ) (es : List (Entry V)) → IsUpTo b h (es ++ e ∷ []) → e.lo ≤ℤ h
      top b [] u = u.2
      top b (f ∷ fs) u = top f.hi fs u.3

      under : (d.hi <ℤ e.lo) × IsUpTo d.hi (e.lo -ℤ pos 1) ds → d.hi <ℤ h
      under rest = omega (arith, ints, rest.0, top d.hi ds w.3)

-- ---- by the keys that a step finds

-- keys by the first and the last of them, as a list of ranges
abbrev pub keys_list : {T : Type 0} → (T → ℤ) → Option (T × T) → List (Entry (Unit {0}))
keys_list rank None = []
keys_list rank (Some p) = entry (rank p.0) (rank p.1) tt ∷ []

module _ {T : Type 0} (rank : T → ℤ) where
  gap_is : (a b : ℤ) (r : Option (T × T)) → AreKeysFrom rank a b r → gap_before a (b +ℤ pos 1) ≡ keys_list rank r
  gap_is a b None k = no_gap a (b +ℤ pos 1) (omega (arith, ints))
  gap_is a b (Some p) k =
      let end : b +ℤ pos 1 -ℤ pos 1 ≡ b = omega (arith, ints) in
      ap (λ t. cond t (entry a (b +ℤ pos 1 -ℤ pos 1) tt ∷ []) []) (lt_true a (b +ℤ pos 1) (omega (arith, ints, k.0)))
      ∙ ap (λ z. entry a z tt ∷ []) (end ∙ sym k.2)
      ∙ ap (λ z. entry z (rank p.1) tt ∷ []) (sym k.1)

  module _ {V : Type 0} where
    gaps_are_left : (a b : ℤ) (t : Bool) (r : Option (T × T)) (es : List (Entry V)) → AreKeysFrom rank a b r → (a ≤ℤ b → t ≡ true) → (b <ℤ a → t ≡ false) → cond t (gaps_within a b es) [] ≡ gaps_left rank r es
    gaps_are_left a b t None es k y n = ap (λ u. cond u (gaps_within a b es) []) (n k)
    gaps_are_left a b t (Some p) es k y n =
        ap (λ u. cond u (gaps_within a b es) []) (y k.0)
        ∙ ap (λ z. gaps_within z b es) (sym k.1)
        ∙ ap (λ z. gaps_within (rank p.0) z es) (sym k.2)

    walk_kept : (a b : ℤ) (r : Option (T × T)) (es : List (Entry V)) → AreKeysFrom rank a b r → (a ≤ℤ b → IsGapWalk a b es) → IfSome r (λ p. IsGapWalk (rank p.0) (rank p.1) es)
    walk_kept a b None es k w = tt
    walk_kept a b (Some p) es k w = subst (λ z. IsGapWalk z (rank p.1) es) (sym k.1) (subst (λ z. IsGapWalk a z es) (sym k.2) (w k.0))

    -- the first entry has keys from s up to t: `under` are the keys below it that are left, `over` those above
    module _ (l h s t : ℤ) (e : Entry V) (es old : List (Entry V)) (under over : Option (T × T)) where
      pub front_gaps : (all : List (Entry (Unit {0}))) → old ≡ e ∷ es → s ≡ e.lo → t ≡ e.hi → gaps_within l h old ≡ all → AreKeysFrom rank l (s -ℤ pos 1) under → AreKeysFrom rank (t +ℤ pos 1) h over → all ≡ keys_list rank under ++ gaps_left rank over es
      front_gaps all p q r same u o =
          let from = subst (λ z. AreKeysFrom rank l (z -ℤ pos 1) under) q u in
          let to = subst (λ z. AreKeysFrom rank (z +ℤ pos 1) h over) r o in
          let end : e.lo ≡ e.lo -ℤ pos 1 +ℤ pos 1 = omega (arith, ints) in
          sym same
          ∙ ap (gaps_within l h) p
          ∙ ap (λ G. G ++ cond (int_lt e.hi h) (gaps_within (e.hi +ℤ pos 1) h es) []) (ap (gap_before l) end ∙ gap_is l (e.lo -ℤ pos 1) under from)
          ∙ ap (λ G. keys_list rank under ++ G)
          (gaps_are_left (e.hi +ℤ pos 1) h (int_lt e.hi h) over es to (λ a. lt_true e.hi h (omega (arith, ints))) (λ a. lt_false e.hi h (omega (arith, ints))))

      pub front_walk : old ≡ e ∷ es → t ≡ e.hi → IsGapWalk l h old → AreKeysFrom rank (t +ℤ pos 1) h over → IfSome over (λ p. IsGapWalk (rank p.0) (rank p.1) es)
      front_walk p r w o =
          let to = subst (λ z. AreKeysFrom rank (z +ℤ pos 1) h over) r o in
          let next = (subst (IsGapWalk l h) p w).entries in
          walk_kept (e.hi +ℤ pos 1) h over es to (λ a. record { order = a; entries = across_above e.hi h es next.3 })

      -- the same of the last entry
      pub back_gaps : (all : List (Entry (Unit {0}))) → old ≡ es ++ e ∷ [] → s ≡ e.lo → t ≡ e.hi → IsGapWalk l h old → gaps_within l h old ≡ all → AreKeysFrom rank l (s -ℤ pos 1) under → AreKeysFrom rank (t +ℤ pos 1) h over
          → all ≡ gaps_left rank under es ++ keys_list rank over
      back_gaps all p q r w same u o =
          let from = subst (λ z. AreKeysFrom rank l (z -ℤ pos 1) under) q u in
          let to = subst (λ z. AreKeysFrom rank (z +ℤ pos 1) h over) r o in
          let below : cond (int_lt l e.lo) (gaps_within l (e.lo -ℤ pos 1) es) [] ≡ gaps_left rank under es =
          gaps_are_left l (e.lo -ℤ pos 1) (int_lt l e.lo) under es from (λ a. lt_true l e.lo (omega (arith, ints))) (λ a. lt_false l e.lo (omega (arith, ints))) in
          sym same
          ∙ ap (gaps_within l h) p
          ∙ gaps_back l h es e (subst (IsGapWalk l h) p w).entries
          ∙ ap (λ G. G ++ gap_before (e.hi +ℤ pos 1) (h +ℤ pos 1)) below
          ∙ ap (λ G. gaps_left rank under es ++ G) (gap_is (e.hi +ℤ pos 1) h over to)

      pub back_walk : old ≡ es ++ e ∷ [] → s ≡ e.lo → IsGapWalk l h old → AreKeysFrom rank l (s -ℤ pos 1) under → IfSome under (λ p. IsGapWalk (rank p.0) (rank p.1) es)
      back_walk p q w u =
          let from = subst (λ z. AreKeysFrom rank l (z -ℤ pos 1) under) q u in
          walk_kept l (e.lo -ℤ pos 1) under es from (λ a. walk_back l h es e (subst (IsGapWalk l h) p w) (omega (arith, ints)))

-- ---- at first

module _ {V : Type 0} (eq : V → V → Bool) where
  up_to_are : (b h : ℤ) (es : List (Entry V)) → IsCanonical eq es → IsAbove b es → IsUpTo b h (up_to h es)
  up_to_are b h [] c a = tt
  up_to_are b h (e ∷ es) c a =
      let above = IsAbove-from_apart eq e es c.1 in
      by_lt_z h e.lo
      (λ u. rw (up_to_skips h e es u, up_to_none eq h es c.2 (above_by e.hi h es (omega (arith, ints, c.0)) above)) tt)
      (λ u. rw (up_to_takes h e es u) (a, c.0, u, up_to_are e.hi h es c.2 above))

  across_first : (l h : ℤ) (es : List (Entry V)) → IsCanonical eq es → EndsFrom l es → IsAcross l h (up_to h es)
  across_first l h [] c a = tt
  across_first l h (e ∷ es) c a =
      let above = IsAbove-from_apart eq e es c.1 in
      by_lt_z h e.lo
      (λ u. rw (up_to_skips h e es u, up_to_none eq h es c.2 (above_by e.hi h es (omega (arith, ints, c.0)) above)) tt)
      (λ u. rw (up_to_takes h e es u) (a, c.0, u, up_to_are e.hi h es c.2 above))

  -- the entries that share a key with a range
  pub walk_first : (l h : ℤ) (es os : List (Entry V)) → IsCanonical eq es → l ≤ℤ h → os ≡ overlapping l h es → IsGapWalk l h os
  walk_first l h es os c u is =
      let whole = whole_first eq l h es c in
      rw is (record { order = u; entries = across_first l h (ending_from l es) whole.onward.canonical whole.onward.ends })
