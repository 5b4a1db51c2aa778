-- Edits of lists whose starts ascend: the part below a key and the part from it on.
use Rattle.blaze_entries.proofs.Words.{◌≡◌, ℤ, pos, ◌+ℤ◌, ◌≤ℤ◌, ◌<ℤ◌, Bool, true, false, cond, List, [], ◌∷◌, ◌++◌, length, Some, None, refl, ◌∙◌, sym, ap, arith, IsSome, int_lt, int_le, int_eq, ints, eq_true, below, from, start_at, with_entry, without, with_end, with_end_value, with_last_end, Entry, entry}
use Rattle.blaze_entries.proofs.Ascending.{by_order}
use Rattle.blaze_entries.proofs.Halves.{StartsBelow, below_takes, below_skips, from_takes, from_skips}
use Rattle.blaze_entries.proofs.Moves.{absent_next}

module _ {V : Type 0} where
  none_some : (e : Entry V) → Some e ≡ None → ⊥
  none_some e p = cc

  both_parts : (b : Bool) (e : Entry V) {xs ys : List (Entry V)} → xs ≡ ys → cond b (e ∷ xs) xs ≡ cond b (e ∷ ys) ys
  both_parts b e p = ap (λ t. cond b (e ∷ t) t) p

  pub start_skips : (k : ℤ) (e : Entry V) (es : List (Entry V)) → (k ≡ e.lo → ⊥) → start_at k (e ∷ es) ≡ start_at k es
  start_skips k e es n = by_order k e.lo (λ o q r. rw r refl) (λ o q r. absurd (n o)) (λ o q r. rw r refl)

  -- an insertion
  pub below_with : (k : ℤ) (p : Entry V) (es : List (Entry V)) → k ≤ℤ p.lo → below k (with_entry p es) ≡ below k es
  below_with k p [] l = below_skips k p [] l
  below_with k p (f ∷ fs) l = by_order p.lo f.lo
      (λ o q r. rw q (below_skips k p (f ∷ fs) l))
      (λ o q r. rw q (below_skips k (entry f.lo p.hi p.value) fs (omega (arith, ints)) ∙ sym (below_skips k f fs (omega (arith, ints)))))
      (λ o q r. rw q (both_parts (int_lt f.lo k) f (below_with k p fs l)))

  pub from_with_under : (k : ℤ) (p : Entry V) (es : List (Entry V)) → p.lo <ℤ k → from k (with_entry p es) ≡ from k es
  from_with_under k p [] l = from_skips k p [] l
  from_with_under k p (f ∷ fs) l = by_order p.lo f.lo
      (λ o q r. rw q (from_skips k p (f ∷ fs) l))
      (λ o q r. rw q (from_skips k (entry f.lo p.hi p.value) fs (omega (arith, ints)) ∙ sym (from_skips k f fs (omega (arith, ints)))))
      (λ o q r. rw q (both_parts (int_le k f.lo) f (from_with_under k p fs l)))

  pub from_with : (p : Entry V) (es : List (Entry V)) → start_at p.lo es ≡ None → from p.lo (with_entry p es) ≡ p ∷ from p.lo es
  from_with p [] n = from_takes p.lo p [] (omega (arith, ints))
  from_with p (f ∷ fs) n = by_order p.lo f.lo
      (λ o q r. rw q (from_takes p.lo p (f ∷ fs) (omega (arith, ints))))
      (λ o q r. absurd (none_some f (sym (ap (λ t. cond t (Some f) (start_at p.lo fs)) r) ∙ n)))
      (λ o q r. rw q (from_skips p.lo f (with_entry p fs) o ∙ from_with p fs (absent_next p.lo f fs r n) ∙ ap (λ t. p ∷ t) (sym (from_skips p.lo f fs o))))

  pub start_with : (p : Entry V) (es : List (Entry V)) → start_at p.lo (with_entry p es) ≡ Some p
  start_with p [] = rw (eq_true p.lo p.lo refl) refl
  start_with p (f ∷ fs) = by_order p.lo f.lo
      (λ o q r. rw (q, eq_true p.lo p.lo refl) refl)
      (λ o q r. rw (q, r) (ap (λ x. Some (entry x p.hi p.value)) (sym o)))
      (λ o q r. rw (q, r) (start_with p fs))

  pub start_beside : (k : ℤ) (p : Entry V) (es : List (Entry V)) → (k ≡ p.lo → ⊥) → start_at k (with_entry p es) ≡ start_at k es
  start_beside k p [] n = start_skips k p [] n
  start_beside k p (f ∷ fs) n = by_order p.lo f.lo
      (λ o q r. rw q (start_skips k p (f ∷ fs) n))
      (λ o q r. rw q (start_skips k (entry f.lo p.hi p.value) fs (λ t. n (omega (arith, ints))) ∙ sym (start_skips k f fs (λ t. n (omega (arith, ints))))))
      (λ o q r. rw q (ap (λ t. cond (int_eq k f.lo) (Some f) t) (start_beside k p fs n)))

  pub without_with : (p : Entry V) (es : List (Entry V)) → start_at p.lo es ≡ None → without p.lo (with_entry p es) ≡ es
  without_with p [] n = rw (eq_true p.lo p.lo refl) refl
  without_with p (f ∷ fs) n = by_order p.lo f.lo
      (λ o q r. rw (q, eq_true p.lo p.lo refl) refl)
      (λ o q r. absurd (none_some f (sym (ap (λ t. cond t (Some f) (start_at p.lo fs)) r) ∙ n)))
      (λ o q r. rw (q, r) (ap (λ t. f ∷ t) (without_with p fs (absent_next p.lo f fs r n))))

  -- a removal
  pub start_beside_without : (k s : ℤ) (es : List (Entry V)) → (k ≡ s → ⊥) → start_at k (without s es) ≡ start_at k es
  start_beside_without k s [] n = refl
  start_beside_without k s (f ∷ fs) n = by_order s f.lo
      (λ o q r. rw r (ap (λ t. cond (int_eq k f.lo) (Some f) t) (start_beside_without k s fs n)))
      (λ o q r. rw r (sym (start_skips k f fs (λ t. n (omega (arith, ints))))))
      (λ o q r. rw r (ap (λ t. cond (int_eq k f.lo) (Some f) t) (start_beside_without k s fs n)))

  -- what a removal changes
  pub below_without : (k s : ℤ) (es : List (Entry V)) → k ≤ℤ s → below k (without s es) ≡ below k es
  below_without k s [] l = refl
  below_without k s (e ∷ es) l = by_order s e.lo
      (λ o q r. rw r (same (below_without k s es l) (int_lt e.lo k)))
      (λ o q r. rw r (sym (below_skips k e es (omega (arith, ints)))))
      (λ o q r. rw r (same (below_without k s es l) (int_lt e.lo k)))
    where
      same : below k (without s es) ≡ below k es → (b : Bool) → cond b (e ∷ below k (without s es)) (below k (without s es)) ≡ cond b (e ∷ below k es) (below k es)
      same later b = ap (λ t. cond b (e ∷ t) t) later

  pub from_without : (k s : ℤ) (es : List (Entry V)) → s <ℤ k → from k (without s es) ≡ from k es
  from_without k s [] l = refl
  from_without k s (e ∷ es) l = by_order s e.lo
      (λ o q r. rw r (same (from_without k s es l) (int_le k e.lo)))
      (λ o q r. rw r (sym (from_skips k e es (omega (arith, ints)))))
      (λ o q r. rw r (same (from_without k s es l) (int_le k e.lo)))
    where
      same : from k (without s es) ≡ from k es → (b : Bool) → cond b (e ∷ from k (without s es)) (from k (without s es)) ≡ cond b (e ∷ from k es) (from k es)
      same later b = ap (λ t. cond b (e ∷ t) t) later

  -- a replacement
  pub below_replaced : (k s z : ℤ) (v : V) (es : List (Entry V)) → k ≤ℤ s → below k (with_end_value s z v es) ≡ below k es
  below_replaced k s z v [] l = refl
  below_replaced k s z v (f ∷ fs) l = by_order s f.lo
      (λ o q r. rw r (both_parts (int_lt f.lo k) f (below_replaced k s z v fs l)))
      (λ o q r. rw r (below_skips k (entry f.lo z v) fs (omega (arith, ints)) ∙ sym (below_skips k f fs (omega (arith, ints)))))
      (λ o q r. rw r (both_parts (int_lt f.lo k) f (below_replaced k s z v fs l)))

  pub from_replaced : (k s z : ℤ) (v : V) (es : List (Entry V)) → s <ℤ k → from k (with_end_value s z v es) ≡ from k es
  from_replaced k s z v [] l = refl
  from_replaced k s z v (f ∷ fs) l = by_order s f.lo
      (λ o q r. rw r (both_parts (int_le k f.lo) f (from_replaced k s z v fs l)))
      (λ o q r. rw r (from_skips k (entry f.lo z v) fs (omega (arith, ints)) ∙ sym (from_skips k f fs (omega (arith, ints)))))
      (λ o q r. rw r (both_parts (int_le k f.lo) f (from_replaced k s z v fs l)))

  pub start_replaced : (k z : ℤ) (v : V) (es : List (Entry V)) → IsSome (start_at k es) → start_at k (with_end_value k z v es) ≡ Some (entry k z v)
  start_replaced k z v [] i = cc
  start_replaced k z v (f ∷ fs) i = by_order k f.lo
      (λ o q r. rw (r, r) (start_replaced k z v fs (rw r at i)))
      (λ o q r. rw (r, r) (ap (λ x. Some (entry x z v)) (sym o)))
      (λ o q r. rw (r, r) (start_replaced k z v fs (rw r at i)))

  pub start_beside_replaced : (k s z : ℤ) (v : V) (es : List (Entry V)) → (k ≡ s → ⊥) → start_at k (with_end_value s z v es) ≡ start_at k es
  start_beside_replaced k s z v [] n = refl
  start_beside_replaced k s z v (f ∷ fs) n = by_order s f.lo
      (λ o q r. rw r (ap (λ t. cond (int_eq k f.lo) (Some f) t) (start_beside_replaced k s z v fs n)))
      (λ o q r. rw r (start_skips k (entry f.lo z v) fs (λ t. n (omega (arith, ints))) ∙ sym (start_skips k f fs (λ t. n (omega (arith, ints))))))
      (λ o q r. rw r (ap (λ t. cond (int_eq k f.lo) (Some f) t) (start_beside_replaced k s z v fs n)))

  -- the entry at a key is among those that start up to it
  pub start_below : (k : ℤ) (es : List (Entry V)) → start_at k (below (k +ℤ pos 1) es) ≡ start_at k es
  start_below k [] = refl
  start_below k (f ∷ fs) = by_order k f.lo
      (λ o q r. rw (below_skips (k +ℤ pos 1) f fs (omega (arith, ints)), r) (start_below k fs))
      (λ o q r. rw (below_takes (k +ℤ pos 1) f fs (omega (arith, ints))) (rw r refl))
      (λ o q r. rw (below_takes (k +ℤ pos 1) f fs (omega (arith, ints))) (rw r (start_below k fs)))

  -- the lengths
  pub length-with_end : (k z : ℤ) (es : List (Entry V)) → length (with_end k z es) ≡ length es
  length-with_end k z [] = refl
  length-with_end k z (e ∷ es) = elim (int_eq k e.lo) as (λ t. length (cond t (entry e.lo z e.value ∷ es) (e ∷ with_end k z es)) ≡ length (e ∷ es)) [
    | true ↦ refl
    | false ↦ omega (arith, length-with_end k z es)
  ]

  pub length-with_last_end : (z : ℤ) (es : List (Entry V)) → length (with_last_end z es) ≡ length es
  length-with_last_end z [] = refl
  length-with_last_end z (e ∷ []) = refl
  length-with_last_end z (e ∷ f ∷ es) = omega (arith, length-with_last_end z (f ∷ es))

  pub end_put : (k z : ℤ) (e : Entry V) (xs ys : List (Entry V)) → e.lo ≡ k → StartsBelow k xs → with_end k z (xs ++ e ∷ ys) ≡ xs ++ entry e.lo z e.value ∷ ys
  end_put k z e [] ys p h = by_order k e.lo (λ o q r. absurd (omega (arith, ints))) (λ o q r. rw r refl) (λ o q r. absurd (omega (arith, ints)))
  end_put k z e (x ∷ xs) ys p h = by_order k x.lo
      (λ o q r. absurd (omega (arith, ints, h.0)))
      (λ o q r. absurd (omega (arith, ints, h.0)))
      (λ o q r. rw r (ap (λ t. x ∷ t) (end_put k z e xs ys p h.1)))
