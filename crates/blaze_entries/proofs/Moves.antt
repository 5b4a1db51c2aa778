-- An empty node is inserted, and filled after an edit of another node.
use Rattle.blaze_entries.proofs.Words.{◌≡◌, ◌+◌, length, ℤ, pos, ◌+ℤ◌, ◌≤ℤ◌, ◌<ℤ◌, true, false, cond, List, [], ◌∷◌, Option, Some, None, refl, ◌∙◌, sym, subst, ap, arith, IsSome, int_eq, ints, eq_true, Entry, entry, StartsAscend, start_at, with_entry, without, with_end_value, IsStartMoved, IsFrontReplaced}
use Rattle.blaze_entries.proofs.Ascending.{by_order, start_with_entry, start_without, start_with_end_value, length-with_entry, length-without}

module _ {V : Type 0} where
  -- an entry below all others comes first
  pub with_entry-first : (e : Entry V) (b high : ℤ) (es : List (Entry V)) → e.lo <ℤ b → StartsAscend b high es → with_entry e es ≡ e ∷ es
  with_entry-first e b high [] l h = refl
  with_entry-first e b high (f ∷ fs) l h = by_order e.lo f.lo
      (λ o p q. rw p refl)
      (λ o p q. absurd (omega (arith, ints, h.0)))
      (λ o p q. absurd (omega (arith, ints, h.0)))

  -- the start of an entry differs from a start without an entry
  pub differs : (k s : ℤ) (es : List (Entry V)) → IsSome (start_at k es) → start_at s es ≡ None → int_eq k s ≡ false
  differs k s es i n = by_order k s
      (λ o p q. q)
      (λ o p q. absurd (not_none (start_at s es) (subst (λ x. IsSome (start_at x es)) o i) n))
      (λ o p q. q)
    where
      not_none : (o : Option (Entry V)) → IsSome o → o ≡ None → ⊥
      not_none None i n = cc
      not_none (Some e) i n = cc

  -- an insertion does not change lookups at other starts
  pub start_at-with_entry : (k : ℤ) (e : Entry V) (es : List (Entry V)) → int_eq k e.lo ≡ false → start_at k (with_entry e es) ≡ start_at k es
  start_at-with_entry k e [] n = rw n refl
  start_at-with_entry k e (f ∷ fs) n = by_order e.lo f.lo
      (λ o p q. rw (p, n) refl)
      (λ o p q. let m : int_eq k f.lo ≡ false = subst (λ x. int_eq k x ≡ false) o n in rw (p, m) refl)
      (λ o p q. rw p (ap (cond (int_eq k f.lo) (Some f)) (start_at-with_entry k e fs n)))

  -- the value of an inserted entry, changed
  set_put : (k h z : ℤ) (u v : V) (es : List (Entry V)) → with_end_value k z v (with_entry (entry k h u) es) ≡ with_entry (entry k z v) es
  set_put k h z u v [] = rw (eq_true k k refl) refl
  set_put k h z u v (f ∷ fs) = by_order k f.lo
      (λ o p q. rw (p, eq_true k k refl) refl)
      (λ o p q. rw (p, q) refl)
      (λ o p q. rw (p, q) (ap (λ l. f ∷ l) (set_put k h z u v fs)))

  pub absent_next : (k : ℤ) (f : Entry V) (fs : List (Entry V)) → int_eq k f.lo ≡ false → start_at k (f ∷ fs) ≡ None → start_at k fs ≡ None
  absent_next k f fs q n = rw q at n

  not_first : (k : ℤ) (f : Entry V) (fs : List (Entry V)) → int_eq k f.lo ≡ true → start_at k (f ∷ fs) ≡ None → ⊥
  not_first k f fs q n = let m : Some f ≡ None = rw q at n in cc

  -- insert one entry, remove another, fill the first
  module _ (k s h z : ℤ) (u w : V) (n : int_eq k s ≡ false) where
    set_behind_without : (b high : ℤ) (es : List (Entry V)) → StartsAscend b high es → start_at s es ≡ None
        → with_end_value s z w (without k (with_entry (entry s h u) es)) ≡ with_entry (entry s z w) (without k es)
    set_behind_without b high [] a m = rw (n, eq_true s s refl) refl
    set_behind_without b high (f ∷ fs) a m = by_order s f.lo
        (λ o p q. rw (p, n, eq_true s s refl) (sym (with_entry-first (entry s z w) f.lo high (without k (f ∷ fs)) o (start_without f.lo high k (f ∷ fs) (omega (arith, ints), a.1, a.2)))))
        (λ o p q. absurd (not_first s f fs q m))
        (λ o p q. rw p (by_order k f.lo
        (λ o2 p2 q2. rw (q2, q, p) (ap (λ l. f ∷ l) (set_behind_without (f.lo +ℤ pos 1) high fs a.2 (absent_next s f fs q m))))
        (λ o2 p2 q2. rw q2 (set_put s h z u w fs))
        (λ o2 p2 q2. rw (q2, q, p) (ap (λ l. f ∷ l) (set_behind_without (f.lo +ℤ pos 1) high fs a.2 (absent_next s f fs q m))))))

    -- insert one entry, change another, fill the first
    set_behind_change : (y : ℤ) (v : V) (b high : ℤ) (es : List (Entry V)) → StartsAscend b high es → start_at s es ≡ None
        → with_end_value s z w (with_end_value k y v (with_entry (entry s h u) es)) ≡ with_entry (entry s z w) (with_end_value k y v es)
    set_behind_change y v b high [] a m = rw (n, eq_true s s refl) refl
    set_behind_change y v b high (f ∷ fs) a m = by_order s f.lo
        (λ o p q. rw (p, n, eq_true s s refl) (sym (with_entry-first (entry s z w) f.lo high (with_end_value k y v (f ∷ fs)) o (start_with_end_value f.lo high k y v (f ∷ fs) (omega (arith, ints), a.1, a.2)))))
        (λ o p q. absurd (not_first s f fs q m))
        (λ o p q. rw p (by_order k f.lo
        (λ o2 p2 q2. rw (q2, q, p) (ap (λ l. f ∷ l) (set_behind_change y v (f.lo +ℤ pos 1) high fs a.2 (absent_next s f fs q m))))
        (λ o2 p2 q2. rw (q2, q, p) (ap (λ l. entry f.lo y v ∷ l) (set_put s h z u w fs)))
        (λ o2 p2 q2. rw (q2, q, p) (ap (λ l. f ∷ l) (set_behind_change y v (f.lo +ℤ pos 1) high fs a.2 (absent_next s f fs q m))))))

  -- a move: insert an empty node, remove the old node, put its content into the empty one
  pub is_start_moved : (k s h : ℤ) (u : V) (b high : ℤ) (old one two new : List (Entry V)) (node : Entry V)
      → StartsAscend b high old → IsSome (start_at k old) → start_at s old ≡ None
      → one ≡ with_entry (entry s h u) old → Some node ≡ start_at k one → two ≡ without k one → new ≡ with_end_value s node.hi node.value two → IsStartMoved k s old new
  is_start_moved k s h u b high old one two new node a i m p f q r =
      let n = differs k s old i m in
      record {
        of = node;
        found = sym (start_at-with_entry k (entry s h u) old n) ∙ ap (start_at k) (sym p) ∙ sym f;
        moved = r ∙ ap (with_end_value s node.hi node.value) (q ∙ ap (without k) p) ∙ set_behind_without k s h node.hi u node.value n b high old a m;
      }

  -- a new front: insert an empty node, replace the old node, put its content into the empty one
  pub is_front_replaced : (k y s h : ℤ) (v u : V) (b high : ℤ) (old one two new : List (Entry V)) (node : Entry V)
      → StartsAscend b high old → IsSome (start_at k old) → start_at s old ≡ None
      → one ≡ with_entry (entry s h u) old → Some node ≡ start_at k one → two ≡ with_end_value k y v one → new ≡ with_end_value s node.hi node.value two → IsFrontReplaced k y v s old new
  is_front_replaced k y s h v u b high old one two new node a i m p f q r =
      let n = differs k s old i m in
      record {
        of = node;
        found = sym (start_at-with_entry k (entry s h u) old n) ∙ ap (start_at k) (sym p) ∙ sym f;
        replaced = r ∙ ap (with_end_value s node.hi node.value) (q ∙ ap (with_end_value k y v) p) ∙ set_behind_change k s h node.hi u node.value n y v b high old a m;
      }

  -- the old node still exists
  pub still_there : (k s h : ℤ) (u : V) (old one : List (Entry V)) → IsSome (start_at k old) → start_at s old ≡ None → one ≡ with_entry (entry s h u) old → None ≡ start_at k one → ⊥
  still_there k s h u old one i m p f =
      not_none (start_at k old) i (sym (start_at-with_entry k (entry s h u) old (differs k s old i m)) ∙ ap (start_at k) (sym p) ∙ sym f)
    where
      not_none : (o : Option (Entry V)) → IsSome o → o ≡ None → ⊥
      not_none None i n = cc
      not_none (Some e) i n = cc

  -- a move keeps the order
  pub start_moved : (b high k s : ℤ) (old new : List (Entry V)) → b ≤ℤ s → s ≤ℤ high → StartsAscend b high old → IsStartMoved k s old new → StartsAscend b high new
  start_moved b high k s old new l u a m =
      subst (StartsAscend b high) (sym m.moved) (start_with_entry b high (entry s m.of.hi m.of.value) (without k old) l u (start_without b high k old a))

  pub start_front_replaced : (b high k y s : ℤ) (v : V) (old new : List (Entry V)) → b ≤ℤ s → s ≤ℤ high → StartsAscend b high old → IsFrontReplaced k y v s old new → StartsAscend b high new
  start_front_replaced b high k y s v old new l u a m =
      subst (StartsAscend b high) (sym m.replaced) (start_with_entry b high (entry s m.of.hi m.of.value) (with_end_value k y v old) l u (start_with_end_value b high k y v old a))

  -- the number of entries after a move
  start_at-without : (k s : ℤ) (es : List (Entry V)) → start_at s es ≡ None → start_at s (without k es) ≡ None
  start_at-without k s [] n = n
  start_at-without k s (e ∷ es) n = by_order s e.lo
      (λ o p q. by_order k e.lo
      (λ o2 p2 q2. rw (q2, q) (start_at-without k s es (absent_next s e es q n)))
      (λ o2 p2 q2. rw q2 (absent_next s e es q n))
      (λ o2 p2 q2. rw (q2, q) (start_at-without k s es (absent_next s e es q n))))
      (λ o p q. absurd (not_first s e es q n))
      (λ o p q. by_order k e.lo
      (λ o2 p2 q2. rw (q2, q) (start_at-without k s es (absent_next s e es q n)))
      (λ o2 p2 q2. rw q2 (absent_next s e es q n))
      (λ o2 p2 q2. rw (q2, q) (start_at-without k s es (absent_next s e es q n))))

  start_at-with_end_value : (k y s : ℤ) (v : V) (es : List (Entry V)) → start_at s es ≡ None → start_at s (with_end_value k y v es) ≡ None
  start_at-with_end_value k y s v [] n = n
  start_at-with_end_value k y s v (e ∷ es) n = by_order s e.lo
      (λ o p q. by_order k e.lo
      (λ o2 p2 q2. rw (q2, q) (start_at-with_end_value k y s v es (absent_next s e es q n)))
      (λ o2 p2 q2. rw (q2, q) (absent_next s e es q n))
      (λ o2 p2 q2. rw (q2, q) (start_at-with_end_value k y s v es (absent_next s e es q n))))
      (λ o p q. absurd (not_first s e es q n))
      (λ o p q. by_order k e.lo
      (λ o2 p2 q2. rw (q2, q) (start_at-with_end_value k y s v es (absent_next s e es q n)))
      (λ o2 p2 q2. rw (q2, q) (absent_next s e es q n))
      (λ o2 p2 q2. rw (q2, q) (start_at-with_end_value k y s v es (absent_next s e es q n))))

  pub length-with_end_value : (k y : ℤ) (v : V) (es : List (Entry V)) → length (with_end_value k y v es) ≡ length es
  length-with_end_value k y v [] = refl
  length-with_end_value k y v (e ∷ es) =
      elim (int_eq k e.lo) as (λ b. length (cond b (entry e.lo y v ∷ es) (e ∷ with_end_value k y v es)) ≡ length (e ∷ es)) [
        | true ↦ refl
        | false ↦ omega (arith, length-with_end_value k y v es)
      ]

  pub length_moved : (k s : ℤ) (old new : List (Entry V)) → IsSome (start_at k old) → start_at s old ≡ None → IsStartMoved k s old new → length new ≡ length old
  length_moved k s old new i n m =
      ap length m.moved ∙ length-with_entry (entry s m.of.hi m.of.value) (without k old) (start_at-without k s old n) ∙ length-without k old i

  pub length_front_replaced : (k y s : ℤ) (v : V) (old new : List (Entry V)) → start_at s old ≡ None → IsFrontReplaced k y v s old new → length new ≡ length old + 1
  length_front_replaced k y s v old new n m =
      ap length m.replaced ∙ length-with_entry (entry s m.of.hi m.of.value) (with_end_value k y v old) (start_at-with_end_value k y s v old n) ∙ ap (λ l. l + 1) (length-with_end_value k y v old)
