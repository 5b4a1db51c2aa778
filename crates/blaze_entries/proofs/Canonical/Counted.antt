-- The numbers of keys of the parts of a list.
use Rattle.blaze_entries.proofs.Words.{◌≡◌, ℕ, ℤ, pos, ◌+◌, ◌≤◌, ◌+ℤ◌, ◌-ℤ◌, ◌≤ℤ◌, Bool, cond, List, [], ◌∷◌, refl, ◌∙◌, sym, ap, subst, arith, IsEquivalence, int_max, int_min, int_le, ints, by_lt_z, by_bool, lt_true, lt_false, le_true, max_right, shared_count, Entry, SameEntries, entry, IsApart, IsCanonical, AreKeys, keys_in, before, after, glue, IsPaintOf, IsTable, overlap, covered_keys}
use Rattle.blaze_entries.proofs.Underway.{overlap_none, overlap_over}
use Rattle.blaze_entries.proofs.Canonical.Lookup.{IsAbove, IsAbove-from_apart, above_by}
use Rattle.blaze_entries.proofs.Paints.Splices.{by_before, by_after, by_join, canonical_paint}

-- ---- the greater and the lesser of two

max_left : (a b : ℤ) → b ≤ℤ a → int_max a b ≡ a
max_left a b h = by_lt_z b a (λ u. ap (λ t. cond t a b) (lt_true b a u)) (λ u. ap (λ t. cond t a b) (lt_false b a u) ∙ omega (arith, ints))

min_left : (a b : ℤ) → a ≤ℤ b → int_min a b ≡ a
min_left a b h = ap (λ t. cond t b a) (lt_false b a h)

min_right : (a b : ℤ) → b ≤ℤ a → int_min a b ≡ b
min_right a b h = by_lt_z b a (λ u. ap (λ t. cond t b a) (lt_true b a u)) (λ u. ap (λ t. cond t b a) (lt_false b a u) ∙ omega (arith, ints))

-- the shared keys, by the first and the last of them
shared_from : (l h a b x y : ℤ) → int_max l a ≡ x → int_min h b ≡ y → x ≤ℤ y → shared_count l h a b ≡ (y -ℤ x) +ℤ pos 1
shared_from l h a b x y p q w =
    ap (λ z. cond (int_le z (int_min h b)) ((int_min h b -ℤ z) +ℤ pos 1) (pos 0)) p
    ∙ ap (λ z. cond (int_le x z) ((z -ℤ x) +ℤ pos 1) (pos 0)) q
    ∙ ap (λ t. cond t ((y -ℤ x) +ℤ pos 1) (pos 0)) (le_true x y w)

-- a range shares no more keys than it has
shared_most : (l h a b : ℤ) → a ≤ℤ b → shared_count l h a b ≤ℤ (b -ℤ a +ℤ pos 1)
shared_most l h a b w =
    let x = int_max l a in
    let y = int_min h b in
    let low : a ≤ℤ x = by_lt_z a l (λ u. subst (λ z. a ≤ℤ z) (sym (max_left l a (omega (arith, ints)))) (omega (arith, ints))) (λ u. subst (λ z. a ≤ℤ z) (sym (max_right l a u)) (omega (arith, ints))) in
    let high : y ≤ℤ b = by_lt_z h b (λ u. subst (λ z. z ≤ℤ b) (sym (min_left h b (omega (arith, ints)))) (omega (arith, ints))) (λ u. subst (λ z. z ≤ℤ b) (sym (min_right h b u)) (omega (arith, ints))) in
    by_bool (int_le x y) (λ p. rw p (between x y a b low high)) (λ p. rw p (omega (arith, ints)))
  where
    between : (x y a b : ℤ) → a ≤ℤ x → y ≤ℤ b → ((y -ℤ x) +ℤ pos 1) ≤ℤ (b -ℤ a +ℤ pos 1)
    between x y a b p q = omega (arith, ints)

-- the keys of a list are counted entry by entry: the next sum fits
pub one_fits : (sum len most : ℕ) (lo hi left rest all : ℤ) → pos sum +ℤ left ≡ all → left ≡ (hi -ℤ lo +ℤ pos 1) +ℤ rest → pos 0 ≤ℤ rest → all ≤ℤ pos most → lo +ℤ pos len ≡ hi +ℤ pos 1 → sum + len ≤ most
one_fits sum len most lo hi left rest all counted split some fits length = omega (arith, ints)

pub one_more : (sum len next : ℕ) (lo hi left rest all : ℤ) → pos sum +ℤ left ≡ all → left ≡ (hi -ℤ lo +ℤ pos 1) +ℤ rest → lo +ℤ pos len ≡ hi +ℤ pos 1 → next ≡ sum + len → pos next +ℤ rest ≡ all
one_more sum len next lo hi left rest all counted split length plus = omega (arith, ints)

-- the sum of some keys and the keys of a range, which fits
pub all_keys : (some len all : ℕ) (kept lo hi : ℤ) → pos some ≡ kept → lo +ℤ pos len ≡ hi +ℤ pos 1 → all ≡ some + len → pos all ≡ kept +ℤ ((hi -ℤ lo) +ℤ pos 1)
all_keys some len all kept lo hi left length plus = omega (arith, ints)

pub all_fit : (some len most : ℕ) (lo hi whole : ℤ) → (pos some +ℤ ((hi -ℤ lo) +ℤ pos 1)) ≤ℤ whole → whole ≤ℤ pos most → lo +ℤ pos len ≡ hi +ℤ pos 1 → some + len ≤ most
all_fit some len most lo hi whole fits room length = omega (arith, ints)

module _ {V : Type 0} where
  pub overlap_left : (l h : ℤ) (e : Entry V) → e.lo ≤ℤ l → l ≤ℤ e.hi → e.hi ≤ℤ h → overlap l h e ≡ (e.hi -ℤ l) +ℤ pos 1
  overlap_left l h e a b d = shared_from l h e.lo e.hi l e.hi (max_left l e.lo a) (min_right h e.hi d) b

  pub overlap_whole : (l h : ℤ) (e : Entry V) → e.lo ≤ℤ l → l ≤ℤ h → h ≤ℤ e.hi → overlap l h e ≡ (h -ℤ l) +ℤ pos 1
  overlap_whole l h e a b d = shared_from l h e.lo e.hi l h (max_left l e.lo a) (min_left h e.hi d) b

  pub overlap_all : (l h : ℤ) (e : Entry V) → e.lo ≤ℤ e.hi → l ≤ℤ e.lo → e.hi ≤ℤ h → overlap l h e ≡ (e.hi -ℤ e.lo) +ℤ pos 1
  overlap_all l h e w a b = shared_from l h e.lo e.hi e.lo e.hi (max_right l e.lo a) (min_right h e.hi b) w

  pub overlap_right : (l h : ℤ) (e : Entry V) → l ≤ℤ e.lo → e.lo ≤ℤ h → h ≤ℤ e.hi → overlap l h e ≡ (h -ℤ e.lo) +ℤ pos 1
  overlap_right l h e a b d = shared_from l h e.lo e.hi e.lo h (max_right l e.lo a) (min_left h e.hi d) b

  pub overlap_most : (l h : ℤ) (e : Entry V) → e.lo ≤ℤ e.hi → overlap l h e ≤ℤ (e.hi -ℤ e.lo +ℤ pos 1)
  overlap_most l h e w = shared_most l h e.lo e.hi w

  pub same_keys_in : (eq : V → V → Bool) (es fs : List (Entry V)) → SameEntries eq es fs → keys_in es ≡ keys_in fs
  same_keys_in eq [] [] s = refl
  same_keys_in eq [] (f ∷ fs) s = absurd s
  same_keys_in eq (e ∷ es) [] s = absurd s
  same_keys_in eq (e ∷ es) (f ∷ fs) s = omega (arith, ints, s.0, s.1, same_keys_in eq es fs s.3)

module _ {V : Type 0} (eq : V → V → Bool) where
  pub some_keys : (es : List (Entry V)) → IsCanonical eq es → pos 0 ≤ℤ keys_in es
  some_keys [] c = omega (arith, ints)
  some_keys (e ∷ es) c = omega (arith, ints, c.0, some_keys es c.2)

  pub covered_none : (l h : ℤ) (es : List (Entry V)) → IsCanonical eq es → IsAbove h es → covered_keys l h es ≡ pos 0
  covered_none l h [] c a = refl
  covered_none l h (e ∷ es) c a = omega (arith, ints, overlap_over l h e a, covered_none l h es c.2 (above_more e es c.1 (omega (arith, ints, c.0))))
    where
      above_more : (e : Entry V) (es : List (Entry V)) → IsApart eq e es → h ≤ℤ e.hi → IsAbove h es
      above_more e [] p q = tt
      above_more e (f ∷ fs) p q = omega (arith, ints, p.0)

  pub before_none : (l : ℤ) (es : List (Entry V)) → IsCanonical eq es → IsAbove (l -ℤ pos 1) es → before l es ≡ []
  before_none l [] c a = refl
  before_none l (e ∷ es) c a = by_before l e es (λ h p. absurd (omega (arith, ints, c.0))) (λ h m p. absurd (omega (arith, ints))) (λ h m p. p)

  pub keys_glue : (L M : List (Entry V)) → keys_in (glue eq L M) ≡ keys_in L +ℤ keys_in M
  keys_glue [] M = omega (arith, ints)
  keys_glue (e ∷ []) [] = omega (arith, ints)
  keys_glue (e ∷ []) (f ∷ fs) = by_join eq e f fs (λ q v p. rw p (omega (arith, ints))) (λ n p. rw p (omega (arith, ints)))
  keys_glue (e ∷ f ∷ L) M = omega (arith, ints, keys_glue (f ∷ L) M)

  -- the keys below a range, in it and above it are all keys
  pub keys_apart : (l h : ℤ) (es : List (Entry V)) → l ≤ℤ h → IsCanonical eq es → (keys_in (before l es) +ℤ covered_keys l h es) +ℤ keys_in (after h es) ≡ keys_in es
  keys_apart l h [] w c = refl
  keys_apart l h (e ∷ es) w c =
      let i = keys_apart l h es w c.2 in
      let a = IsAbove-from_apart eq e es c.1 in
      let here = c.0 in
      by_before l e es
      (λ u p. by_after h e es
      (λ m q. rw (p, q) (omega (arith, ints, i, overlap_none l h e c.0 u)))
      (λ m n q. absurd (omega (arith, ints)))
      (λ m n q. absurd (omega (arith, ints))))
      (λ u v p.
      let none = ap keys_in (before_none l es c.2 (above_by e.hi (l -ℤ pos 1) es (omega (arith, ints)) a)) in
      by_after h e es
      (λ m q. rw (p, q) (omega (arith, ints, i, none, overlap_left l h e (omega (arith, ints)) u m)))
      (λ m n q. rw (p, q) (omega (arith, ints, overlap_whole l h e (omega (arith, ints)) w (omega (arith, ints)), covered_none l h es c.2 (above_by e.hi h es (omega (arith, ints)) a))))
      (λ m n q. absurd (omega (arith, ints))))
      (λ u v p.
      let none = ap keys_in (before_none l es c.2 (above_by e.hi (l -ℤ pos 1) es (omega (arith, ints)) a)) in
      by_after h e es
      (λ m q. rw (p, q) (omega (arith, ints, i, none, overlap_all l h e c.0 v m)))
      (λ m n q. rw (p, q) (omega (arith, ints, overlap_right l h e v n (omega (arith, ints)), covered_none l h es c.2 (above_by e.hi h es (omega (arith, ints)) a))))
      (λ m n q. rw (p, q) (omega (arith, ints, overlap_over l h e n, covered_none l h es c.2 (above_by e.hi h es (omega (arith, ints)) a)))))

  -- a list has no more keys from a on than the type has
  pub keys_bound : (a high : ℤ) (es : List (Entry V)) → a ≤ℤ (high +ℤ pos 1) → IsCanonical eq es → IsAbove (a -ℤ pos 1) es → (low : ℤ) → AreKeys low high es → keys_in es ≤ℤ ((high -ℤ a) +ℤ pos 1)
  keys_bound a high [] w c f low k = omega (arith, ints)
  keys_bound a high (e ∷ es) w c f low k =
      omega (arith, ints, c.0, k.1, f, keys_bound (e.hi +ℤ pos 1) high es (omega (arith, ints, k.1)) c.2 (above_by e.hi (e.hi +ℤ pos 1 -ℤ pos 1) es (omega (arith, ints)) (IsAbove-from_apart eq e es c.1)) low k.2)

  pub keys_among : (low high : ℤ) (es : List (Entry V)) → low ≤ℤ high → IsCanonical eq es → AreKeys low high es → keys_in es ≤ℤ ((high -ℤ low) +ℤ pos 1)
  keys_among low high [] w c k = omega (arith, ints)
  keys_among low high (e ∷ es) w c k = keys_bound low high (e ∷ es) (omega (arith, ints)) c (omega (arith, ints, k.0)) low k

  pub are_keys_before : (low high k : ℤ) (es : List (Entry V)) → AreKeys low high es → AreKeys low high (before k es)
  are_keys_before low high k [] a = tt
  are_keys_before low high k (e ∷ es) a = by_before k e es
      (λ h p. rw p (a.0, a.1, are_keys_before low high k es a.2))
      (λ h l p. rw p (a.0, omega (arith, ints, a.1), tt))
      (λ h l p. rw p tt)

  pub are_keys_after : (low high k : ℤ) (es : List (Entry V)) → AreKeys low high es → AreKeys low high (after k es)
  are_keys_after low high k [] a = tt
  are_keys_after low high k (e ∷ es) a = by_after k e es
      (λ h p. rw p (are_keys_after low high k es a.2))
      (λ h l p. rw p (omega (arith, ints, a.0), a.1, a.2))
      (λ h l p. rw p a)

  pub are_keys_glue : (low high : ℤ) (L M : List (Entry V)) → AreKeys low high L → AreKeys low high M → AreKeys low high (glue eq L M)
  are_keys_glue low high [] M l m = m
  are_keys_glue low high (e ∷ []) [] l m = l
  are_keys_glue low high (e ∷ []) (f ∷ fs) l m = by_join eq e f fs (λ q v p. rw p (l.0, m.1, m.2)) (λ n p. rw p (l.0, l.1, m))
  are_keys_glue low high (e ∷ f ∷ L) M l m = (l.0, l.1, are_keys_glue low high (f ∷ L) M l.2 m)

  pub are_keys_as : (low high : ℤ) (es fs : List (Entry V)) → SameEntries eq es fs → AreKeys low high es → AreKeys low high fs
  are_keys_as low high [] [] s a = tt
  are_keys_as low high [] (f ∷ fs) s a = absurd s
  are_keys_as low high (e ∷ es) [] s a = absurd s
  are_keys_as low high (e ∷ es) (f ∷ fs) s a = (omega (arith, ints, s.0, a.0), omega (arith, ints, s.1, a.1), are_keys_as low high es fs s.3 a.2)

  module _ (laws : IsEquivalence eq) where
    -- a painted list has no more keys than the type has
    with_value : (low high l h : ℤ) (v : V) (es : List (Entry V)) → l ≤ℤ h → low ≤ℤ l → h ≤ℤ high → IsCanonical eq es → AreKeys low high es
        → ((keys_in (before l es) +ℤ keys_in (after h es)) +ℤ ((h -ℤ l) +ℤ pos 1)) ≤ℤ ((high -ℤ low) +ℤ pos 1)
    with_value low high l h v es w f t c a =
        let p = entry l h v in
        let left = glue eq (before l es) (p ∷ []) in
        let new = glue eq left (after h es) in
        let canonical = canonical_paint eq laws l h v es w c in
        let keys = are_keys_glue low high left (after h es) (are_keys_glue low high (before l es) (p ∷ []) (are_keys_before low high l es a) (f, t, tt)) (are_keys_after low high h es a) in
        omega (arith, ints, keys_among low high new (omega (arith, ints)) canonical keys, keys_glue left (after h es), keys_glue (before l es) (p ∷ []))

    pub keys_painted : (low high l h : ℤ) (es : List (Entry V)) → l ≤ℤ h → low ≤ℤ l → h ≤ℤ high → IsCanonical eq es → AreKeys low high es
        → ((keys_in (before l es) +ℤ keys_in (after h es)) +ℤ ((h -ℤ l) +ℤ pos 1)) ≤ℤ ((high -ℤ low) +ℤ pos 1)
    keys_painted low high l h [] w f t c a = omega (arith, ints)
    keys_painted low high l h (e ∷ es) w f t c a = with_value low high l h e.value (e ∷ es) w f t c a

    -- a list that the code painted is the list of a table, with its number of keys
    pub painted_table : (low high : ℤ) (n : ℕ) (p : Entry V) (es new : List (Entry V)) → low ≤ℤ p.lo → p.hi ≤ℤ high → AreKeys low high es
        → pos n ≡ (keys_in (before p.lo es) +ℤ keys_in (after p.hi es)) +ℤ ((p.hi -ℤ p.lo) +ℤ pos 1)
        → IsPaintOf eq p es new → IsCanonical eq new → IsTable eq low high n new
    painted_table low high n p es new f t a k r c =
        let left = glue eq (before p.lo es) (p ∷ []) in
        record {
          canonical = c;
          are_keys = subst (AreKeys low high) (sym r.glued) (are_keys_glue low high left r.above (are_keys_glue low high (before p.lo es) (p ∷ []) (are_keys_before low high p.lo es a) (f, t, tt)) (are_keys_as low high (after p.hi es) r.above r.like.alike (are_keys_after low high p.hi es a)));
          counted = k ∙ sym (ap keys_in r.glued ∙ omega (arith, ints, keys_glue left r.above, keys_glue (before p.lo es) (p ∷ []), same_keys_in eq (after p.hi es) r.above r.like.alike));
        }
