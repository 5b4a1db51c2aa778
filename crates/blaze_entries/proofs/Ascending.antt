-- Lists whose starts ascend: which edits keep the order, and the lengths of the edited lists.
use Rattle.blaze_entries.proofs.Words.{◌≡◌, ◌+◌, ℤ, pos, ◌+ℤ◌, ◌≤ℤ◌, ◌<ℤ◌, true, false, cond, List, [], ◌∷◌, ◌++◌, length, Option, Some, None, refl, arith, IsSome, int_cmp, int_eq, Less, Equal, Greater, ints, by_lt_z, Entry, entry, StartsAscend, start_at, with_entry, without, with_end, with_end_value, with_last_end}

-- by cases: two numbers, by their order
pub by_order : {P : Type 0} (a b : ℤ)
    → (a <ℤ b → int_cmp a b ≡ Less → int_eq a b ≡ false → P)
    → (a ≡ b → int_cmp a b ≡ Equal → int_eq a b ≡ true → P)
    → (b <ℤ a → int_cmp a b ≡ Greater → int_eq a b ≡ false → P) → P
by_order a b l e g = by_lt_z a b
    (λ h. l h (grind (arith, ints)) (grind (arith, ints)))
    (λ h. by_lt_z b a (λ k. g k (grind (arith, ints)) (grind (arith, ints))) (λ k. e (omega (arith, ints)) (grind (arith, ints)) (grind (arith, ints))))

module _ {V : Type 0} where
  -- no entry starts below the first
  pub start_none : (k b high : ℤ) (es : List (Entry V)) → k <ℤ b → StartsAscend b high es → start_at k es ≡ None
  start_none k b high [] l h = refl
  start_none k b high (e ∷ es) l h = by_order k e.lo
      (λ o q r. rw r (start_none k (e.lo +ℤ pos 1) high es (omega (arith, ints)) h.2))
      (λ o q r. absurd (omega (arith, ints, h.0)))
      (λ o q r. absurd (omega (arith, ints, h.0)))

  -- the lower bound of the starts may be lowered
  pub start_lower : (b c high : ℤ) (es : List (Entry V)) → c ≤ℤ b → StartsAscend b high es → StartsAscend c high es
  start_lower b c high [] l h = tt
  start_lower b c high (e ∷ es) l h = (omega (arith, ints, h.0), h.1, h.2)

  pub start_with_entry : (b high : ℤ) (e : Entry V) (es : List (Entry V)) → b ≤ℤ e.lo → e.lo ≤ℤ high → StartsAscend b high es → StartsAscend b high (with_entry e es)
  start_with_entry b high e [] l u h = (l, u, tt)
  start_with_entry b high e (f ∷ fs) l u h = by_order e.lo f.lo
      (λ o p q. rw p (l, u, (omega (arith, ints), h.1, h.2)))
      (λ o p q. rw p (h.0, h.1, h.2))
      (λ o p q. rw p (h.0, h.1, start_with_entry (f.lo +ℤ pos 1) high e fs (omega (arith, ints)) u h.2))

  pub start_without : (b high k : ℤ) (es : List (Entry V)) → StartsAscend b high es → StartsAscend b high (without k es)
  start_without b high k [] h = tt
  start_without b high k (e ∷ es) h =
      elim (int_eq k e.lo) as (λ t. StartsAscend b high (cond t es (e ∷ without k es))) [
        | true ↦ start_lower (e.lo +ℤ pos 1) b high es (omega (arith, ints, h.0)) h.2
        | false ↦ (h.0, h.1, start_without (e.lo +ℤ pos 1) high k es h.2)
      ]

  pub start_with_end : (b high k z : ℤ) (es : List (Entry V)) → StartsAscend b high es → StartsAscend b high (with_end k z es)
  start_with_end b high k z [] h = tt
  start_with_end b high k z (e ∷ es) h =
      elim (int_eq k e.lo) as (λ t. StartsAscend b high (cond t (entry e.lo z e.value ∷ es) (e ∷ with_end k z es))) [
        | true ↦ h
        | false ↦ (h.0, h.1, start_with_end (e.lo +ℤ pos 1) high k z es h.2)
      ]

  pub start_with_last_end : (b high z : ℤ) (es : List (Entry V)) → StartsAscend b high es → StartsAscend b high (with_last_end z es)
  start_with_last_end b high z [] h = tt
  start_with_last_end b high z (e ∷ []) h = h
  start_with_last_end b high z (e ∷ f ∷ es) h = (h.0, h.1, start_with_last_end (e.lo +ℤ pos 1) high z (f ∷ es) h.2)

  -- a prefix of the list
  pub start_front : (b high : ℤ) (xs ys : List (Entry V)) → StartsAscend b high (xs ++ ys) → StartsAscend b high xs
  start_front b high [] ys h = tt
  start_front b high (x ∷ xs) ys h = (h.0, h.1, start_front (x.lo +ℤ pos 1) high xs ys h.2)

  pub start_with_end_value : (b high k z : ℤ) (v : V) (es : List (Entry V)) → StartsAscend b high es → StartsAscend b high (with_end_value k z v es)
  start_with_end_value b high k z v [] h = tt
  start_with_end_value b high k z v (e ∷ es) h =
      elim (int_eq k e.lo) as (λ t. StartsAscend b high (cond t (entry e.lo z v ∷ es) (e ∷ with_end_value k z v es))) [
        | true ↦ h
        | false ↦ (h.0, h.1, start_with_end_value (e.lo +ℤ pos 1) high k z v es h.2)
      ]

  -- an insertion adds one entry, and a removal removes one
  pub length-with_entry : (e : Entry V) (es : List (Entry V)) → start_at e.lo es ≡ None → length (with_entry e es) ≡ length es + 1
  length-with_entry e [] n = omega arith
  length-with_entry e (f ∷ fs) n = by_order e.lo f.lo
      (λ o p q. rw p (omega arith))
      (λ o p q. absurd (some_none f (start_at e.lo fs) (rw q at n)))
      (λ o p q. rw p (omega (arith, length-with_entry e fs (rw q at n))))
    where
      some_none : (f : Entry V) (o : Option (Entry V)) → Some f ≡ None → ⊥
      some_none f o p = cc

  pub length-without : (k : ℤ) (es : List (Entry V)) → IsSome (start_at k es) → length (without k es) + 1 ≡ length es
  length-without k [] s = cc
  length-without k (e ∷ es) s =
      elim (int_eq k e.lo) as (λ t. IsSome (cond t (Some e) (start_at k es)) → length (cond t es (e ∷ without k es)) + 1 ≡ length (e ∷ es)) [
        | true ↦ λ h. omega arith
        | false ↦ λ h. omega (arith, length-without k es h)
      ] s
