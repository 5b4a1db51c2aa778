-- The first item of a list that violates the law, found from the front.
use Rattle.blaze_streams.proofs.Words.{◌≡◌, ℕ, zero, suc, ◌+◌, ◌<◌, ℤ, pos, ◌+ℤ◌, ◌≤ℤ◌, ◌<ℤ◌, Bool, true, false, List, [], ◌∷◌, length, Option, Some, None, refl, ◌∙◌, ap, arith, if◌then◌else◌, int_le, int_lt, ◌&&◌, ◌||◌, option_map, int_eq, IsEquivalence, ints, lt_false, le_false, eq_true, eq_holds, and_fails, Entry, IsApart, IsCanonical, IsOnePerRun, AreKeys, IsRangeMap, canonical, one_per_run, violates, ViolatesAfter, IsFirstViolation}

-- ---- tests

or_first : (a b : Bool) → (a || b) ≡ false → a ≡ false
or_first true b p = cc
or_first false b p = refl

or_second : (a b : Bool) → (a || b) ≡ false → b ≡ false
or_second true b p = cc
or_second false b p = p

none_of : (a b c d : Bool) → a ≡ false → b ≡ false → (c ≡ true → d ≡ false) → (a || (b || (c && d))) ≡ false
none_of true b c d p q r = cc
none_of false true c d p q r = cc
none_of false false true d p q r = r refl
none_of false false false d p q r = refl

-- ---- one item of the search

abbrev step : Bool → Option ℕ → Option ℕ
step here later = if here then Some 0 else option_map suc later

step_here : (b : Bool) (o : Option ℕ) → step b o ≡ Some 0 → b ≡ true
step_here true o p = refl
step_here false None p = cc
step_here false (Some k) p = cc

step_later : (b : Bool) (o : Option ℕ) (i : ℕ) → step b o ≡ Some (suc i) → (b ≡ false) × (o ≡ Some i)
step_later true o i p = cc
step_later false None i p = cc
step_later false (Some k) i p = (refl, cc)

step_none : (b : Bool) (o : Option ℕ) → step b o ≡ None → (b ≡ false) × (o ≡ None)
step_none true o p = cc
step_none false None p = (refl, refl)
step_none false (Some k) p = cc

module _ {V : Type 0} (eq : V → V → Bool) where
  -- ---- the search

  abbrev pub first_violation_after : Option (Entry V) → List (Entry V) → Option ℕ
  first_violation_after before [] = None
  first_violation_after before (e ∷ es) = step (violates eq before e) (first_violation_after (Some e) es)

  found_here : (before : Option (Entry V)) (es : List (Entry V)) (i : ℕ) → first_violation_after before es ≡ Some i → ViolatesAfter eq before es i
  found_here before [] i p = cc
  found_here before (e ∷ es) zero p = step_here (violates eq before e) (first_violation_after (Some e) es) p
  found_here before (e ∷ es) (suc i) p = found_here (Some e) es i (step_later (violates eq before e) (first_violation_after (Some e) es) i p).1

  found_first : (before : Option (Entry V)) (es : List (Entry V)) (i : ℕ) → first_violation_after before es ≡ Some i → (j : ℕ) → j < i → ViolatesAfter eq before es j → ⊥
  found_first before [] i p j l h = h
  found_first before (e ∷ es) zero p j l h = absurd (omega arith)
  found_first before (e ∷ es) (suc i) p zero l h = let s = step_later (violates eq before e) (first_violation_after (Some e) es) i p in cc (s.0, h)
  found_first before (e ∷ es) (suc i) p (suc j) l h = found_first (Some e) es i (step_later (violates eq before e) (first_violation_after (Some e) es) i p).1 j (omega arith) h

  pub found : (all rest : List (Entry V)) (before : Option (Entry V)) (e : Entry V) (es : List (Entry V)) (place : ℕ)
      → first_violation_after None all ≡ option_map (λ i. place + i) (first_violation_after before rest) → rest ≡ e ∷ es → violates eq before e ≡ true → IsFirstViolation eq all place
  found all rest before e es place p r b =
      let here : first_violation_after before rest ≡ Some 0 = rw (r, b) refl in
      let there : first_violation_after None all ≡ Some place = p ∙ ap (λ o. option_map (λ i. place + i) o) here ∙ ap Some (omega arith) in
      record { here = found_here None all place there; first = found_first None all place there }

  -- ---- no violation

  abbrev Follows : Option (Entry V) → List (Entry V) → Type 0
  Follows None es = Unit {0}
  Follows (Some d) es = IsApart eq d es

  no_violation : (d e : Entry V) → violates eq (Some d) e ≡ false → (e.lo ≤ℤ e.hi) × (d.hi <ℤ e.lo) × (e.lo ≡ d.hi +ℤ pos 1 → eq d.value e.value ≡ false)
  no_violation d e p =
      let filled : int_lt e.hi e.lo ≡ false = or_first _ _ p in
      let others = or_second (int_lt e.hi e.lo) _ p in
      let above : int_le e.lo d.hi ≡ false = or_first _ _ others in
      let touching = or_second (int_le e.lo d.hi) _ others in
      (omega (arith, ints), omega (arith, ints), λ q. and_fails (int_eq e.lo (d.hi +ℤ pos 1)) _ touching (eq_true _ _ q))

  sound : (before : Option (Entry V)) (es : List (Entry V)) → first_violation_after before es ≡ None → Follows before es × IsCanonical eq es
  sound None [] p = (tt, tt)
  sound (Some d) [] p = (tt, tt)
  sound None (e ∷ es) p =
      let s = step_none (violates eq None e) (first_violation_after (Some e) es) p in
      let r = sound (Some e) es s.1 in
      (tt, (omega (arith, ints, s.0), r.0, r.1))
  sound (Some d) (e ∷ es) p =
      let s = step_none (violates eq (Some d) e) (first_violation_after (Some e) es) p in
      let n = no_violation d e s.0 in
      let r = sound (Some e) es s.1 in
      ((n.1, n.2), (n.0, r.0, r.1))

  -- ---- a violation

  complete : (before : Option (Entry V)) (es : List (Entry V)) (i : ℕ) → ViolatesAfter eq before es i → Follows before es → IsCanonical eq es → ⊥
  complete before [] i h f c = h
  complete None (e ∷ es) zero h f c = omega (arith, ints, c.0)
  complete (Some d) (e ∷ es) zero h f c =
      let n = none_of (int_lt e.hi e.lo) (int_le e.lo d.hi) (int_eq e.lo (d.hi +ℤ pos 1)) (eq d.value e.value) (lt_false _ _ c.0) (le_false _ _ f.0) (λ q. f.1 (eq_holds _ _ q)) in
      cc (h, n)
  complete before (e ∷ es) (suc i) h f c = complete (Some e) es i h c.1 c.2

module _ {V : Type 0} (eq : V → V → Bool) (laws : IsEquivalence eq) where
  pub ended : (low high : ℤ) (all rest : List (Entry V)) (before : Option (Entry V)) (place : ℕ)
      → first_violation_after eq None all ≡ option_map (λ i. place + i) (first_violation_after eq before rest) → length rest ≡ 0 → (AreKeys low high rest → AreKeys low high all) → IsRangeMap eq low high all
  ended low high all [] before place p n k = record { runs = one_per_run eq laws all (sound eq None all p).1; keys = k tt }
  ended low high all (e ∷ es) before place p n k = absurd (omega arith)

  -- a list with a violation does not obey the law
  pub broken : (es : List (Entry V)) (place : ℕ) → IsFirstViolation eq es place → IsOnePerRun eq es → ⊥
  broken es place b r = complete eq None es place b.here tt (canonical eq laws es r)
