-- The first segment of many lists: each list has the same range at all its keys, or none.
use Rattle.blaze_streams.proofs.Words.{◌≡◌, ℤ, ◌≤ℤ◌, ◌<ℤ◌, Bool, true, false, List, [], ◌∷◌, Option, Some, None, Bor, refl, ◌∙◌, sym, ap, arith, inl, inr, ⊎_elim, ◌⊎◌, is_some, option_copied, list_any, ints, Entry, at, after, IsAbove, above_after, canonical_after, at-after_over, shown_option, row, first_key, steady_to, AllCanonical, first_keys, AllFrom, all_steady_to, AllReach, all_after, IsNextSegment}
use Rattle.blaze_streams.proofs.Steady.{AtMost, Stops, same_some, steady, from_first, stops_steady, steady_far, starts_there, at_below_from, at-after_under}
use Rattle.blaze_streams.proofs.Lesser.{at_most_both, at_most_itself, lesser_one, some_lesser}

-- the first range of a list ends at t, or starts right above it
abbrev pub AnyStops : {A : Type 0} → ℤ → List (List (Entry A)) → Type 0
AnyStops t [] = ⊥
AnyStops t (L ∷ Ls) = Stops t L ⊎ AnyStops t Ls

-- the copy of a borrowed option
pub shown_copied : {A : Type 0} (o : Option (Bor A)) → shown_option (λ r. r.now) o ≡ option_copied o
shown_copied None = refl
shown_copied (Some r) = refl

module _ {A : Type 0} where
  none_present : (x : Option A) (r : List (Option A)) → x ≡ None → list_any is_some r ≡ false → list_any is_some (x ∷ r) ≡ false
  none_present None r p q = q
  none_present (Some v) r p q = cc

  first_present : (x : Option A) (r : List (Option A)) (v : A) → x ≡ Some v → list_any is_some (x ∷ r) ≡ true
  first_present None r v p = cc
  first_present (Some w) r v p = refl

  other_present : (x : Option A) (r : List (Option A)) → list_any is_some r ≡ true → list_any is_some (x ∷ r) ≡ true
  other_present None r p = p
  other_present (Some w) r p = refl

  pub from_firsts : (s : ℤ) (Ls : List (List (Entry A))) → AtMost s (first_keys Ls) → AllFrom s Ls
  from_firsts s [] m = tt
  from_firsts s (L ∷ Ls) m = let n = at_most_both (first_key L) (first_keys Ls) s m in (from_first s L n.0, from_firsts s Ls n.1)

  stops_rows : (s t : ℤ) (Ls : List (List (Entry A))) → all_steady_to s Ls ≡ Some t → AnyStops t Ls
  stops_rows s t [] p = cc
  stops_rows s t (L ∷ Ls) p = ⊎_elim (λ e. inl (stops_steady s t L e)) (λ e. inr (stops_rows s t Ls e)) (lesser_one (steady_to s L) (all_steady_to s Ls) t p)

  first_after : (t s : ℤ) (es : List (Entry A)) → IsAbove t es → first_key es ≡ Some s → t <ℤ s
  first_after t s [] a p = cc
  first_after t s (e ∷ es) a p = let u : e.lo ≡ s = same_some e.lo s p in omega (arith, ints, a)

  pub firsts_after : (t s : ℤ) (Ls : List (List (Entry A))) → first_keys (all_after t Ls) ≡ Some s → t <ℤ s
  firsts_after t s [] p = cc
  firsts_after t s (L ∷ Ls) p = ⊎_elim
      (λ e. first_after t s (after t L) (above_after t L) e)
      (λ e. firsts_after t s Ls e)
      (lesser_one (first_key (after t L)) (first_keys (all_after t Ls)) s p)

  -- lists without a first key have no values
  pub none_left : (Ls : List (List (Entry A))) (k : ℤ) → first_keys Ls ≡ None → list_any is_some (row Ls k) ≡ false
  none_left [] k p = refl
  none_left ([] ∷ Ls) k p = none_left Ls k p
  none_left ((e ∷ L) ∷ Ls) k p = absurd (some_lesser e.lo (first_keys Ls) p)

  pub steady_none : (s : ℤ) (Ls : List (List (Entry A))) → all_steady_to s Ls ≡ None → first_keys Ls ≡ None
  steady_none s [] p = refl
  steady_none s ([] ∷ Ls) p = steady_none s Ls p
  steady_none s ((e ∷ L) ∷ Ls) p = absurd (some_lesser _ (all_steady_to s Ls) p)

  -- the relation of the first segment to the lists
  pub record IsFirstSegment (Ls : List (List (Entry A))) (p : Entry (List (Option A))) : Type 0 where
    pub full : p.lo ≤ℤ p.hi
    pub from : AllFrom p.lo Ls
    pub steady : (k : ℤ) → p.lo ≤ℤ k → k ≤ℤ p.hi → row Ls k ≡ p.value
    pub some : list_any is_some p.value ≡ true
    pub stops : AnyStops p.hi Ls

  module _ (eq : A → A → Bool) where
    pub rows_low : (Ls : List (List (Entry A))) (s k : ℤ) → AllCanonical eq Ls → AllFrom s Ls → k <ℤ s → list_any is_some (row Ls k) ≡ false
    rows_low [] s k c f h = refl
    rows_low (L ∷ Ls) s k c f h = none_present (at L k) (row Ls k) (at_below_from eq L s k c.0 f.0 h) (rows_low Ls s k c.1 f.1 h)

    pub rows_under : (t k : ℤ) (Ls : List (List (Entry A))) → AllCanonical eq Ls → k ≤ℤ t → list_any is_some (row (all_after t Ls) k) ≡ false
    rows_under t k [] c h = refl
    rows_under t k (L ∷ Ls) c h = none_present (at (after t L) k) (row (all_after t Ls) k) (at-after_under eq t k L c.0 h) (rows_under t k Ls c.1 h)

    pub rows_over : (t k : ℤ) (Ls : List (List (Entry A))) → AllCanonical eq Ls → t <ℤ k → row (all_after t Ls) k ≡ row Ls k
    rows_over t k [] c h = refl
    rows_over t k (L ∷ Ls) c h = ap (λ x. x ∷ row (all_after t Ls) k) (at-after_over eq t k L c.0 h) ∙ ap (λ r. at L k ∷ r) (rows_over t k Ls c.1 h)

    pub all_canonical_after : (t : ℤ) (Ls : List (List (Entry A))) → AllCanonical eq Ls → AllCanonical eq (all_after t Ls)
    all_canonical_after t [] c = tt
    all_canonical_after t (L ∷ Ls) c = (canonical_after eq t L c.0, all_canonical_after t Ls c.1)

    -- no list ends below the first key of all
    pub reach_from : (s : ℤ) (Ls : List (List (Entry A))) → AllCanonical eq Ls → AllFrom s Ls → AllReach s Ls
    reach_from s [] c f = tt
    reach_from s ([] ∷ Ls) c f = (tt, reach_from s Ls c.1 f.1)
    reach_from s ((e ∷ es) ∷ Ls) c f = (omega (arith, ints, c.0.0, f.0), reach_from s Ls c.1 f.1)

    steady_rows : (s t k : ℤ) (Ls : List (List (Entry A))) → AllCanonical eq Ls → AllFrom s Ls → AtMost t (all_steady_to s Ls) → s ≤ℤ k → k ≤ℤ t → row Ls k ≡ row Ls s
    steady_rows s t k [] c f m l h = refl
    steady_rows s t k (L ∷ Ls) c f m l h =
        let n = at_most_both (steady_to s L) (all_steady_to s Ls) t m in
        ap (λ x. x ∷ row Ls k) (steady eq s t k L c.0 f.0 n.0 l h) ∙ ap (λ r. at L s ∷ r) (steady_rows s t k Ls c.1 f.1 n.1 l h)

    starts_row : (s : ℤ) (Ls : List (List (Entry A))) → AllCanonical eq Ls → first_keys Ls ≡ Some s → list_any is_some (row Ls s) ≡ true
    starts_row s [] c p = cc
    starts_row s (L ∷ Ls) c p = ⊎_elim
        (λ e. let b = starts_there eq s L c.0 e in first_present (at L s) (row Ls s) b.0 b.1)
        (λ e. other_present (at L s) (row Ls s) (starts_row s Ls c.1 e))
        (lesser_one (first_key L) (first_keys Ls) s p)

    far_rows : (s t : ℤ) (Ls : List (List (Entry A))) → AllCanonical eq Ls → AllFrom s Ls → all_steady_to s Ls ≡ Some t → s ≤ℤ t
    far_rows s t [] c f p = cc
    far_rows s t (L ∷ Ls) c f p = ⊎_elim
        (λ e. steady_far eq s t L c.0 f.0 e)
        (λ e. far_rows s t Ls c.1 f.1 e)
        (lesser_one (steady_to s L) (all_steady_to s Ls) t p)

    pub is_first : (Ls Ls' : List (List (Entry A))) (p : Entry (List (Option A))) → AllCanonical eq Ls → IsNextSegment Ls p Ls' → IsFirstSegment Ls p
    is_first Ls Ls' p c n =
        let from = from_firsts p.lo Ls (at_most_itself (first_keys Ls) p.lo n.starts) in
        record {
          full = far_rows p.lo p.hi Ls c from n.ends;
          from = from;
          steady = λ k a b. steady_rows p.lo p.hi k Ls c from (at_most_itself (all_steady_to p.lo Ls) p.hi n.ends) a b ∙ sym n.has;
          some = ap (list_any is_some) n.has ∙ starts_row p.lo Ls c n.starts;
          stops = stops_rows p.lo p.hi Ls n.ends;
        }
