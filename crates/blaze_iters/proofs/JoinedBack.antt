-- Ranges that are joined where they touch, taken from the back.
use Rattle.blaze_iters.proofs.Words.{◌≡◌, ℤ, pos, ◌+ℤ◌, true, false, List, [], ◌∷◌, ◌++◌, Option, Some, None, refl, sym, ◌∙◌, ap, append_assoc, int_eq, map-append, by_bool, Entry, entry, TakesLastEnds, joined_ranges, joined_left, bare_entries, ranges_then}

-- ---- the ranges without values

module _ {V : Type 0} where
  joined_bare : (lo hi : ℤ) (es : List (Entry V)) → joined_ranges lo hi (bare_entries es ++ []) ≡ joined_ranges lo hi es
  joined_bare lo hi [] = refl
  joined_bare lo hi (e ∷ es) = rw (joined_bare lo e.hi es, joined_bare e.lo e.hi es) refl

  -- no range follows the entries
  pub joined_none : {T : Type 0} (rank : T → ℤ) (first : Option (T × T)) (es : List (Entry V)) → joined_left rank first (ranges_then rank es None) ≡ joined_left rank first es
  joined_none rank None es = refl
  joined_none rank (Some p) es = joined_bare (rank p.0) (rank p.1) es

  -- the last of the entries
  bare_last : {T : Type 0} (rank : T → ℤ) (p : T × T) (old new : List (Entry V)) → TakesLastEnds rank (Some p) old new → bare_entries old ≡ bare_entries new ++ entry (rank p.0) (rank p.1) tt ∷ []
  bare_last rank p old new t =
      ap bare_entries t.1 ∙ map-append (λ (e : Entry V). entry e.lo e.hi tt) new (entry (rank p.0) (rank p.1) t.0 ∷ [])

-- ---- the last two of them

module _ (p b : Entry (Unit {0})) where
  join_last : (lo hi : ℤ) (es : List (Entry (Unit {0}))) → int_eq b.lo (p.hi +ℤ pos 1) ≡ true → joined_ranges lo hi (es ++ p ∷ b ∷ []) ≡ joined_ranges lo hi (es ++ entry p.lo b.hi tt ∷ [])
  join_last lo hi [] t = rw t refl
  join_last lo hi (d ∷ ds) t = rw (join_last lo d.hi ds t, join_last d.lo d.hi ds t) refl

  apart_last : (lo hi : ℤ) (es : List (Entry (Unit {0}))) → int_eq b.lo (p.hi +ℤ pos 1) ≡ false → joined_ranges lo hi (es ++ p ∷ b ∷ []) ≡ joined_ranges lo hi (es ++ p ∷ []) ++ b ∷ []
  apart_last lo hi [] f = by_bool (int_eq p.lo (hi +ℤ pos 1))
      (λ t. rw (t, f) refl)
      (λ t. rw (t, f) refl)
  apart_last lo hi (d ∷ ds) f = by_bool (int_eq d.lo (hi +ℤ pos 1))
      (λ t. rw t (apart_last lo d.hi ds f))
      (λ t. rw t (ap (λ rs. entry lo hi tt ∷ rs) (apart_last d.lo d.hi ds f)))

-- ---- one call from the back: the remaining entries, and the range from lo to hi that was already taken

module _ {V T : Type 0} (rank : T → ℤ) (opened : Option (T × T)) (a : T × T) (lo hi : ℤ) (left rest : List (Entry V)) (all : List (Entry (Unit {0}))) where
  -- the last entry ends right below the range
  pub back_joined : (p : T × T) → TakesLastEnds rank (Some p) left rest → int_eq lo (rank p.1 +ℤ pos 1) ≡ true
      → joined_ranges (rank a.0) (rank a.1) (bare_entries left ++ entry lo hi tt ∷ []) ≡ all
      → joined_ranges (rank a.0) (rank a.1) (bare_entries rest ++ entry (rank p.0) hi tt ∷ []) ≡ all
  back_joined p t touch is =
      let e : Entry (Unit {0}) = entry (rank p.0) (rank p.1) tt in
      let b : Entry (Unit {0}) = entry lo hi tt in
      sym (join_last e b (rank a.0) (rank a.1) (bare_entries rest) touch)
      ∙ ap (joined_ranges (rank a.0) (rank a.1)) (sym (ap (λ rs. rs ++ b ∷ []) (bare_last rank p left rest t) ∙ append_assoc (bare_entries rest) (e ∷ []) (b ∷ [])))
      ∙ is

  -- the last entry does not end right below the range
  pub back_apart : (p : T × T) → opened ≡ Some a → TakesLastEnds rank (Some p) left rest → int_eq lo (rank p.1 +ℤ pos 1) ≡ false
      → joined_ranges (rank a.0) (rank a.1) (bare_entries left ++ entry lo hi tt ∷ []) ≡ all
      → all ≡ joined_left rank opened (ranges_then rank rest (Some p)) ++ entry lo hi tt ∷ []
  back_apart p o t apart is =
      let e : Entry (Unit {0}) = entry (rank p.0) (rank p.1) tt in
      let b : Entry (Unit {0}) = entry lo hi tt in
      sym is
      ∙ ap (joined_ranges (rank a.0) (rank a.1)) (ap (λ rs. rs ++ b ∷ []) (bare_last rank p left rest t) ∙ append_assoc (bare_entries rest) (e ∷ []) (b ∷ []))
      ∙ apart_last e b (rank a.0) (rank a.1) (bare_entries rest) apart
      ∙ ap (λ q. joined_left rank q (ranges_then rank rest (Some p)) ++ b ∷ []) (sym o)

  -- no entry remains, and the first range ends apart from it
  pub back_alone : (back : Option (T × T)) → opened ≡ Some a → back ≡ None → TakesLastEnds rank None left rest → int_eq lo (rank a.1 +ℤ pos 1) ≡ false
      → joined_ranges (rank a.0) (rank a.1) (bare_entries left ++ entry lo hi tt ∷ []) ≡ all
      → all ≡ joined_left rank opened (ranges_then rank rest back) ++ entry lo hi tt ∷ []
  back_alone back o n t apart is =
      let b : Entry (Unit {0}) = entry lo hi tt in
      let two : joined_ranges (rank a.0) (rank a.1) (b ∷ []) ≡ entry (rank a.0) (rank a.1) tt ∷ b ∷ [] = rw apart refl in
      sym is
      ∙ ap (λ es. joined_ranges (rank a.0) (rank a.1) (bare_entries es ++ b ∷ [])) t.0
      ∙ two
      ∙ sym (ap (λ q. joined_left rank q (ranges_then rank rest back) ++ b ∷ []) o
      ∙ ap (λ k. joined_left rank (Some a) (ranges_then rank rest k) ++ b ∷ []) n
      ∙ ap (λ es. joined_left rank (Some a) (ranges_then rank es None) ++ b ∷ []) t.1)
