-- A painted list: its value at each key, its canonical form and its length.
use Rattle.blaze_entries.proofs.Words.{◌≡◌, ◌+◌, ◌≤◌, ℤ, pos, ◌+ℤ◌, ◌-ℤ◌, ◌≤ℤ◌, ◌<ℤ◌, Bool, true, false, cond, List, [], ◌∷◌, length, Option, Some, None, refl, ◌∙◌, sym, ap, arith, option_or, int_lt, int_le, ints, by_lt_z, IsEquivalence, and_parts, by_bool, lt_true, lt_false, le_true, le_false, eq_holds, eq_true, and_fails, Entry, holds, at, SameOption, entry, IsApart, IsCanonical, before, after, is_joinable, join, glue, paint, IsBelow, painted_content}
use Rattle.blaze_entries.proofs.Alike.{same_along, same_itself, same_trans}
use Rattle.blaze_entries.proofs.Canonical.Lookup.{IsAbove, at_in, at_under, at_over, by_place, at_before, holds_in, holds_under, holds_over}

module _ {V : Type 0} where
  -- `before`, by the position of its entry
  pub before_keeps : (k : ℤ) (e : Entry V) (es : List (Entry V)) → e.hi <ℤ k → before k (e ∷ es) ≡ e ∷ before k es
  before_keeps k e es h = ap (λ b. cond b (e ∷ before k es) (cond (int_lt e.lo k) (entry e.lo (k -ℤ pos 1) e.value ∷ []) [])) (lt_true e.hi k h)

  pub before_cuts : (k : ℤ) (e : Entry V) (es : List (Entry V)) → k ≤ℤ e.hi → e.lo <ℤ k → before k (e ∷ es) ≡ entry e.lo (k -ℤ pos 1) e.value ∷ []
  before_cuts k e es h l =
      ap (λ b. cond b (e ∷ before k es) (cond (int_lt e.lo k) (entry e.lo (k -ℤ pos 1) e.value ∷ []) [])) (lt_false e.hi k h)
      ∙ ap (λ b. cond b (entry e.lo (k -ℤ pos 1) e.value ∷ []) []) (lt_true e.lo k l)

  pub before_ends : (k : ℤ) (e : Entry V) (es : List (Entry V)) → k ≤ℤ e.hi → k ≤ℤ e.lo → before k (e ∷ es) ≡ []
  before_ends k e es h l =
      ap (λ b. cond b (e ∷ before k es) (cond (int_lt e.lo k) (entry e.lo (k -ℤ pos 1) e.value ∷ []) [])) (lt_false e.hi k h)
      ∙ ap (λ b. cond b (entry e.lo (k -ℤ pos 1) e.value ∷ []) []) (lt_false e.lo k l)

  pub by_before : {P : Type 0} (k : ℤ) (e : Entry V) (es : List (Entry V))
      → (e.hi <ℤ k → before k (e ∷ es) ≡ e ∷ before k es → P)
      → (k ≤ℤ e.hi → e.lo <ℤ k → before k (e ∷ es) ≡ entry e.lo (k -ℤ pos 1) e.value ∷ [] → P)
      → (k ≤ℤ e.hi → k ≤ℤ e.lo → before k (e ∷ es) ≡ [] → P) → P
  by_before k e es a b c = by_lt_z e.hi k (λ h. a h (before_keeps k e es h)) (λ h. by_lt_z e.lo k (λ l. b h l (before_cuts k e es h l)) (λ l. c h l (before_ends k e es h l)))

  -- `after`, by the position of its entry
  pub after_skips : (k : ℤ) (e : Entry V) (es : List (Entry V)) → e.hi ≤ℤ k → after k (e ∷ es) ≡ after k es
  after_skips k e es h = ap (λ b. cond b (after k es) (cond (int_le e.lo k) (entry (k +ℤ pos 1) e.hi e.value ∷ es) (e ∷ es))) (le_true e.hi k h)

  pub after_cuts : (k : ℤ) (e : Entry V) (es : List (Entry V)) → k <ℤ e.hi → e.lo ≤ℤ k → after k (e ∷ es) ≡ entry (k +ℤ pos 1) e.hi e.value ∷ es
  after_cuts k e es h l =
      ap (λ b. cond b (after k es) (cond (int_le e.lo k) (entry (k +ℤ pos 1) e.hi e.value ∷ es) (e ∷ es))) (le_false e.hi k h)
      ∙ ap (λ b. cond b (entry (k +ℤ pos 1) e.hi e.value ∷ es) (e ∷ es)) (le_true e.lo k l)

  pub after_keeps : (k : ℤ) (e : Entry V) (es : List (Entry V)) → k <ℤ e.hi → k <ℤ e.lo → after k (e ∷ es) ≡ e ∷ es
  after_keeps k e es h l =
      ap (λ b. cond b (after k es) (cond (int_le e.lo k) (entry (k +ℤ pos 1) e.hi e.value ∷ es) (e ∷ es))) (le_false e.hi k h)
      ∙ ap (λ b. cond b (entry (k +ℤ pos 1) e.hi e.value ∷ es) (e ∷ es)) (le_false e.lo k l)

  pub by_after : {P : Type 0} (k : ℤ) (e : Entry V) (es : List (Entry V))
      → (e.hi ≤ℤ k → after k (e ∷ es) ≡ after k es → P)
      → (k <ℤ e.hi → e.lo ≤ℤ k → after k (e ∷ es) ≡ entry (k +ℤ pos 1) e.hi e.value ∷ es → P)
      → (k <ℤ e.hi → k <ℤ e.lo → after k (e ∷ es) ≡ e ∷ es → P) → P
  by_after k e es a b c = by_lt_z k e.hi (λ h. by_lt_z k e.lo (λ l. c h l (after_keeps k e es h l)) (λ l. b h l (after_cuts k e es h l))) (λ h. a h (after_skips k e es h))

  -- the two together are at most one longer than the list
  pub length_around : (l h : ℤ) (es : List (Entry V)) → l ≤ℤ h → length (before l es) + length (after h es) ≤ length es + 1
  length_around l h [] w = omega arith
  length_around l h (e ∷ es) w = by_before l e es
      (λ a p. rw (p, after_skips h e es (omega (arith, ints))) (omega (arith, length_around l h es w)))
      (λ a b p. rw p (omega (arith, after_short (e ∷ es))))
      (λ a b p. rw p (omega (arith, after_short (e ∷ es))))
    where
      after_short : (es : List (Entry V)) → length (after h es) ≤ length es
      after_short [] = omega arith
      after_short (e ∷ es) = by_after h e es (λ a p. rw p (omega (arith, after_short es))) (λ a b p. rw p (omega arith)) (λ a b p. rw p (omega arith))

  pub below_before : (k : ℤ) (es : List (Entry V)) → IsBelow k (before k es)
  below_before k [] = tt
  below_before k (e ∷ es) = by_before k e es
      (λ a p. rw p (a, below_before k es))
      (λ a b p. rw p (omega (arith, ints), tt))
      (λ a b p. rw p tt)

  pub above_after : (k : ℤ) (es : List (Entry V)) → IsAbove k (after k es)
  above_after k [] = tt
  above_after k (e ∷ es) = by_after k e es
      (λ a p. rw p (above_after k es))
      (λ a b p. rw p (omega (arith, ints)))
      (λ a b p. rw p b)

  pub below_more : (b c : ℤ) (es : List (Entry V)) → b ≤ℤ c → IsBelow b es → IsBelow c es
  below_more b c [] l h = tt
  below_more b c (e ∷ es) l h = (omega (arith, ints, h.0), below_more b c es l h.1)

module _ {V : Type 0} (eq : V → V → Bool) where
  apart_before : (k : ℤ) (e : Entry V) (es : List (Entry V)) → IsApart eq e es → IsApart eq e (before k es)
  apart_before k e [] a = tt
  apart_before k e (f ∷ fs) a = by_before k f fs (λ h p. rw p a) (λ h l p. rw p a) (λ h l p. rw p tt)

  pub canonical_before : (k : ℤ) (es : List (Entry V)) → IsCanonical eq es → IsCanonical eq (before k es)
  canonical_before k [] c = tt
  canonical_before k (e ∷ es) c = by_before k e es
      (λ h p. rw p (c.0, apart_before k e es c.1, canonical_before k es c.2))
      (λ h l p. rw p (omega (arith, ints), tt, tt))
      (λ h l p. rw p tt)

  pub canonical_after : (k : ℤ) (es : List (Entry V)) → IsCanonical eq es → IsCanonical eq (after k es)
  canonical_after k [] c = tt
  canonical_after k (e ∷ es) c = by_after k e es
      (λ h p. rw p (canonical_after k es c.2))
      (λ h l p. rw p (omega (arith, ints), apart_cut e es c.1, c.2))
      (λ h l p. rw p c)
    where
      apart_cut : (e : Entry V) (es : List (Entry V)) → IsApart eq e es → IsApart eq (entry (k +ℤ pos 1) e.hi e.value) es
      apart_cut e [] a = tt
      apart_cut e (f ∷ fs) a = a

  pub at-before_under : (k q : ℤ) (es : List (Entry V)) → IsCanonical eq es → q <ℤ k → at (before k es) q ≡ at es q
  at-before_under k q [] c l = refl
  at-before_under k q (e ∷ es) c l = by_before k e es
      (λ h p. rw p (ap (cond (holds e q) (Some e.value)) (at-before_under k q es c.2 l)))
      (λ h m p. rw p (by_lt_z q e.lo
      (λ u. at_under (entry e.lo (k -ℤ pos 1) e.value) [] q u ∙ sym (at_before eq (e ∷ es) q q c u (omega (arith, ints))))
      (λ u. at_in (entry e.lo (k -ℤ pos 1) e.value) [] q u (omega (arith, ints)) ∙ sym (at_in e es q u (omega (arith, ints))))))
      (λ h m p. rw p (sym (at_before eq (e ∷ es) q q c (omega (arith, ints)) (omega (arith, ints)))))

  pub at-before_over : (k q : ℤ) (es : List (Entry V)) → k ≤ℤ q → at (before k es) q ≡ None
  at-before_over k q [] l = refl
  at-before_over k q (e ∷ es) l = by_before k e es
      (λ h p. rw p (at_over e (before k es) q (omega (arith, ints)) ∙ at-before_over k q es l))
      (λ h m p. rw p (at_over (entry e.lo (k -ℤ pos 1) e.value) [] q (omega (arith, ints))))
      (λ h m p. rw p refl)

  pub at-after_over : (k q : ℤ) (es : List (Entry V)) → IsCanonical eq es → k <ℤ q → at (after k es) q ≡ at es q
  at-after_over k q [] c l = refl
  at-after_over k q (e ∷ es) c l = by_after k e es
      (λ h p. rw p (at-after_over k q es c.2 l ∙ sym (at_over e es q (omega (arith, ints)))))
      (λ h m p. rw p (by_lt_z e.hi q
      (λ u. at_over (entry (k +ℤ pos 1) e.hi e.value) es q u ∙ sym (at_over e es q u))
      (λ u. at_in (entry (k +ℤ pos 1) e.hi e.value) es q (omega (arith, ints)) u ∙ sym (at_in e es q (omega (arith, ints)) u))))
      (λ h m p. rw p refl)

  -- `join`, by whether the two touch with equal values
  pub by_join : {P : Type 0} (e f : Entry V) (fs : List (Entry V))
      → (f.lo ≡ e.hi +ℤ pos 1 → eq e.value f.value ≡ true → join eq e (f ∷ fs) ≡ entry e.lo f.hi e.value ∷ fs → P)
      → ((f.lo ≡ e.hi +ℤ pos 1 → eq e.value f.value ≡ false) → join eq e (f ∷ fs) ≡ e ∷ f ∷ fs → P) → P
  by_join e f fs met not_met = by_bool (is_joinable eq e f)
      (λ p. let t = and_parts _ _ p in met (eq_holds f.lo (e.hi +ℤ pos 1) t.0) t.1 (ap (λ b. cond b (entry e.lo f.hi e.value ∷ fs) (e ∷ f ∷ fs)) p))
      (λ p. not_met (λ q. and_fails _ _ p (eq_true f.lo (e.hi +ℤ pos 1) q)) (ap (λ b. cond b (entry e.lo f.hi e.value ∷ fs) (e ∷ f ∷ fs)) p))

  pub length-glue : (L M : List (Entry V)) → length (glue eq L M) ≤ length L + length M
  length-glue [] M = omega arith
  length-glue (e ∷ []) [] = omega arith
  length-glue (e ∷ []) (f ∷ fs) = by_join e f fs (λ q v p. rw p (omega arith)) (λ n p. rw p (omega arith))
  length-glue (e ∷ f ∷ L) M = omega (arith, length-glue (f ∷ L) M)

  pub below_glue : (b : ℤ) (L M : List (Entry V)) → IsBelow b L → IsBelow b M → IsBelow b (glue eq L M)
  below_glue b [] M l m = m
  below_glue b (e ∷ []) [] l m = l
  below_glue b (e ∷ []) (f ∷ fs) l m = by_join e f fs (λ q v p. rw p m) (λ n p. rw p (l.0, m))
  below_glue b (e ∷ f ∷ L) M l m = (l.0, below_glue b (f ∷ L) M l.1 m)

  apart_glue : (e g : Entry V) (L M : List (Entry V)) → IsApart eq e (g ∷ L) → IsApart eq e (glue eq (g ∷ L) M)
  apart_glue e g [] [] a = a
  apart_glue e g [] (f ∷ fs) a = by_join g f fs (λ q v p. rw p a) (λ n p. rw p a)
  apart_glue e g (h ∷ L) M a = a

  module _ (laws : IsEquivalence eq) where
    apart_like : (e f : Entry V) (fs : List (Entry V)) → eq e.value f.value ≡ true → IsApart eq f fs → IsApart eq (entry e.lo f.hi e.value) fs
    apart_like e f [] v a = tt
    apart_like e f (g ∷ fs) v a = (a.0, λ p. laws.congr e.value f.value g.value v ∙ a.1 p)

    pub canonical_glue : (b : ℤ) (L M : List (Entry V)) → IsCanonical eq L → IsCanonical eq M → IsBelow (b +ℤ pos 1) L → IsAbove b M → IsCanonical eq (glue eq L M)
    canonical_glue b [] M c d l m = d
    canonical_glue b (e ∷ []) [] c d l m = c
    canonical_glue b (e ∷ []) (f ∷ fs) c d l m = by_join e f fs
        (λ q v p. rw p (omega (arith, ints, c.0, d.0), apart_like e f fs v d.1, d.2))
        (λ n p. rw p (c.0, (omega (arith, ints, l.0), n), d))
    canonical_glue b (e ∷ f ∷ L) M c d l m = (c.0, apart_glue e f L M c.1, canonical_glue b (f ∷ L) M c.2 d l.1 m)

    same_or : (b : Bool) (v : V) (x y z : Option V) → SameOption eq x (option_or y z) → SameOption eq (cond b (Some v) x) (option_or (cond b (Some v) y) z)
    same_or true v x y z h = laws.refl v
    same_or false v x y z h = h

    or_none : (a : Option V) → SameOption eq a (option_or a None)
    or_none None = tt
    or_none (Some x) = laws.refl x

    at_join : (e f : Entry V) (fs : List (Entry V)) (k : ℤ) → e.lo ≤ℤ e.hi → f.lo ≤ℤ f.hi → f.lo ≡ e.hi +ℤ pos 1 → eq e.value f.value ≡ true → SameOption eq (at (entry e.lo f.hi e.value ∷ fs) k) (at (e ∷ f ∷ fs) k)
    at_join e f fs k c d q v =
        let j = entry e.lo f.hi e.value in
        by_place e k
        (λ l h. same_along eq (sym (at_in j fs k l (omega (arith, ints)))) (sym (at_in e (f ∷ fs) k l h)) (laws.refl e.value))
        (λ l. same_along eq (sym (at_under j fs k l)) (sym (at_under e (f ∷ fs) k l ∙ at_under f fs k (omega (arith, ints)))) (same_itself eq laws (at fs k)))
        (λ h. by_lt_z f.hi k
        (λ u. same_along eq (sym (at_over j fs k u)) (sym (at_over e (f ∷ fs) k h ∙ at_over f fs k u)) (same_itself eq laws (at fs k)))
        (λ u. same_along eq (sym (at_in j fs k (omega (arith, ints)) u)) (sym (at_over e (f ∷ fs) k h ∙ at_in f fs k (omega (arith, ints)) u)) v))

    pub at_glue : (L M : List (Entry V)) (k : ℤ) → IsCanonical eq L → IsCanonical eq M → SameOption eq (at (glue eq L M) k) (option_or (at L k) (at M k))
    at_glue [] M k c d = same_itself eq laws (at M k)
    at_glue (e ∷ []) [] k c d = or_none (at (e ∷ []) k)
    at_glue (e ∷ []) (f ∷ fs) k c d =
        let whole = same_or (holds e k) e.value (at (f ∷ fs) k) None (at (f ∷ fs) k) (same_itself eq laws (at (f ∷ fs) k)) in
        by_join e f fs
        (λ q v p. rw p (same_trans eq laws (at (entry e.lo f.hi e.value ∷ fs) k) (at (e ∷ f ∷ fs) k) _ (at_join e f fs k c.0 d.0 q v) whole))
        (λ n p. rw p whole)
    at_glue (e ∷ f ∷ L) M k c d = same_or (holds e k) e.value (at (glue eq (f ∷ L) M) k) (at (f ∷ L) k) (at M k) (at_glue (f ∷ L) M k c.2 d)

    module _ (l h : ℤ) (v : V) (es : List (Entry V)) (w : l ≤ℤ h) (c : IsCanonical eq es) where
      abbrev pub left : List (Entry V)
      left = glue eq (before l es) (entry l h v ∷ [])

      pub canonical_left : IsCanonical eq left
      canonical_left = canonical_glue (l -ℤ pos 1) (before l es) (entry l h v ∷ []) (canonical_before l es c) (w, tt, tt) (below_more l (l -ℤ pos 1 +ℤ pos 1) (before l es) (omega (arith, ints)) (below_before l es)) (omega (arith, ints))

      pub below_left : IsBelow (h +ℤ pos 1) left
      below_left = below_glue (h +ℤ pos 1) (before l es) (entry l h v ∷ []) (below_more l (h +ℤ pos 1) (before l es) (omega (arith, ints)) (below_before l es)) (omega (arith, ints), tt)

      pub canonical_paint : IsCanonical eq (paint eq l h v es)
      canonical_paint = canonical_glue h left (after h es) canonical_left (canonical_after h es c) below_left (above_after h es)

      pub at_left : (k : ℤ) → SameOption eq (at left k) (option_or (at (before l es) k) (at (entry l h v ∷ []) k))
      at_left k = at_glue (before l es) (entry l h v ∷ []) k (canonical_before l es c) (w, tt, tt)

      pub three : (k : ℤ) → option_or (option_or (at (before l es) k) (at (entry l h v ∷ []) k)) (at (after h es) k) ≡ painted_content l h v (at es) k
      three k = by_place (entry l h v) k
          (λ a b. rw (at-before_over l k es a, holds_in (entry l h v) k a b) refl)
          (λ a. rw (at-before_under l k es c a, holds_under (entry l h v) k a) (or_last (at es k) (at (after h es) k) (at_before eq (after h es) h k (canonical_after h es c) (above_after h es) (omega (arith, ints)))))
          (λ b. rw (at-before_over l k es (omega (arith, ints)), holds_over (entry l h v) k b) (at-after_over h k es c b))
        where
          or_last : (a b : Option V) → b ≡ None → option_or (option_or a None) b ≡ a
          or_last None b p = p
          or_last (Some x) b p = refl
