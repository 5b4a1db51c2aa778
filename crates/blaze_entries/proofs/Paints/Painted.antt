-- A painted list, where values above the range may be equal to the old ones instead of the same.
use Rattle.blaze_entries.proofs.Words.{option_or, ◌≡◌, ◌+◌, ◌≤◌, ℤ, ◌≤ℤ◌, ◌<ℤ◌, Bool, true, false, cond, List, [], ◌∷◌, ◌++◌, length, Option, Some, refl, ◌∙◌, sym, ap, arith, int_le, ints, IsEquivalence, Entry, holds, at, SameOption, SameContent, SameEntries, IsApart, IsCanonical, before, after, glue, paint, IsBelow, IsPaintOf, IsListPainted, ◌&&◌}
use Rattle.blaze_entries.proofs.Alike.{same_along, same_itself, same_trans, same_or_right, same_or_left}
use Rattle.blaze_entries.proofs.Canonical.Lookup.{IsAbove, by_place, holds_under, holds_over}
use Rattle.blaze_entries.proofs.Canonical.Unique.{back}
use Rattle.blaze_entries.proofs.Paints.Kept.{in_after, kept_apart}
use Rattle.blaze_entries.proofs.Paints.Splices.{canonical_left, below_left, at_left, canonical_glue, canonical_after, above_after, at_glue, three, length-glue, length_around, before_keeps, after_skips}

module _ {V : Type 0} (eq : V → V → Bool) (laws : IsEquivalence eq) where
  pub entries_themselves : (es : List (Entry V)) → SameEntries eq es es
  entries_themselves [] = tt
  entries_themselves (e ∷ es) = (refl, refl, laws.refl e.value, entries_themselves es)

  apart_as : (e f : Entry V) (es fs : List (Entry V)) → e.hi ≡ f.hi → eq e.value f.value ≡ true → SameEntries eq es fs → IsApart eq e es → IsApart eq f fs
  apart_as e f [] [] p v s a = tt
  apart_as e f [] (h ∷ fs) p v s a = absurd s
  apart_as e f (g ∷ es) [] p v s a = absurd s
  apart_as e f (g ∷ es) (h ∷ fs) p v s a =
      (omega (arith, ints, a.0, s.0), λ q. let n = a.1 (omega (arith, ints, s.0)) in values_as e.value f.value g.value h.value v s.2 n)
    where
      values_as : (x y z w : V) → eq x y ≡ true → eq z w ≡ true → eq x z ≡ false → eq y w ≡ false
      values_as x y z w p q n = sym (laws.congr x y w p) ∙ laws.symm x w ∙ sym (laws.congr z w x q) ∙ laws.symm z x ∙ n

  pub canonical_as : (es fs : List (Entry V)) → SameEntries eq es fs → IsCanonical eq es → IsCanonical eq fs
  canonical_as [] [] s c = tt
  canonical_as [] (f ∷ fs) s c = absurd s
  canonical_as (e ∷ es) [] s c = absurd s
  canonical_as (e ∷ es) (f ∷ fs) s c = (omega (arith, ints, c.0, s.0, s.1), apart_as e f es fs s.1 s.2 s.3 c.1, canonical_as es fs s.3 c.2)

  pub above_as : (b : ℤ) (es fs : List (Entry V)) → SameEntries eq es fs → IsAbove b es → IsAbove b fs
  above_as b [] [] s a = tt
  above_as b [] (f ∷ fs) s a = absurd s
  above_as b (e ∷ es) [] s a = absurd s
  above_as b (e ∷ es) (f ∷ fs) s a = omega (arith, ints, s.0)

  pub length_as : (es fs : List (Entry V)) → SameEntries eq es fs → length fs ≡ length es
  length_as [] [] s = refl
  length_as [] (f ∷ fs) s = absurd s
  length_as (e ∷ es) [] s = absurd s
  length_as (e ∷ es) (f ∷ fs) s = omega (arith, length_as es fs s.3)

  pub content_as : (es fs : List (Entry V)) → SameEntries eq es fs → SameContent eq es fs
  content_as [] [] s k = tt
  content_as [] (f ∷ fs) s k = absurd s
  content_as (e ∷ es) [] s k = absurd s
  content_as (e ∷ es) (f ∷ fs) s k = same_cond (holds e k) (holds f k) (holds_as k) (at es k) (at fs k) (content_as es fs s.3 k)
    where
      holds_as : (k : ℤ) → holds e k ≡ holds f k
      holds_as k = ap (λ l. int_le l k && int_le k e.hi) s.0 ∙ ap (λ h. int_le f.lo k && int_le k h) s.1

      same_cond : (a b : Bool) → a ≡ b → (x y : Option V) → SameOption eq x y → SameOption eq (cond a (Some e.value) x) (cond b (Some f.value) y)
      same_cond true true p x y h = s.2
      same_cond true false p x y h = cc
      same_cond false true p x y h = cc
      same_cond false false p x y h = h

  -- it has at most one entry more than the parts below and above
  pub painted_short : (p : Entry V) (es new : List (Entry V)) → IsPaintOf eq p es new → length new ≤ length (before p.lo es) + length (after p.hi es) + 1
  painted_short p es new r =
      let left = glue eq (before p.lo es) (p ∷ []) in
      let long = ap length r.glued in
      omega (arith, long, length-glue eq left r.above, length-glue eq (before p.lo es) (p ∷ []), length_as (after p.hi es) r.above r.like.alike)

  painted_alone : (p : Entry V) (es new : List (Entry V)) → IsPaintOf eq p es new → es ≡ [] → length new ≤ 1
  painted_alone p es new r e =
      let none_before = ap (λ l. length (before p.lo l)) e in
      let none_after = ap (λ l. length (after p.hi l)) e in
      omega (arith, painted_short p es new r, none_before, none_after)

  pub is_painted : (p : Entry V) (es new : List (Entry V)) → p.lo ≤ℤ p.hi → IsCanonical eq es → IsPaintOf eq p es new → IsListPainted eq p es new
  is_painted p es new w c r =
      let left = glue eq (before p.lo es) (p ∷ []) in
      let left_is = canonical_left eq laws p.lo p.hi p.value es w c in
      let like = r.like.alike in
      let above_is = canonical_as (after p.hi es) r.above like (canonical_after eq p.hi es c) in
      let over = above_as p.hi (after p.hi es) r.above like (above_after p.hi es) in
      record {
        canonical = rw r.glued (canonical_glue eq laws p.hi left r.above left_is above_is (below_left eq laws p.lo p.hi p.value es w c) over);
        content = λ k. rw r.glued (same_trans eq laws (at (glue eq left r.above) k) _ _
            (at_glue eq laws left r.above k left_is above_is)
            (same_trans eq laws _ (option_or (at left k) (at (after p.hi es) k)) _
            (same_or_right eq laws (at left k) (at r.above k) (at (after p.hi es) k) (back eq laws (after p.hi es) r.above (content_as (after p.hi es) r.above like) k))
            (same_along eq refl (three eq laws p.lo p.hi p.value es w c k) (same_or_left eq laws (at left k) _ (at (after p.hi es) k) (at_left eq laws p.lo p.hi p.value es w c k)))));
        few = omega (arith, painted_short p es new r, length_around p.lo p.hi es w);
        alone = painted_alone p es new r;
        kept = λ e i a. rw r.glued (kept_apart eq laws p es r.above w c over r.like e i a);
      }

  -- the painted list itself
  pub paint_itself : (p : Entry V) (es : List (Entry V)) → IsCanonical eq es → IsPaintOf eq p es (paint eq p.lo p.hi p.value es)
  paint_itself p es c = record {
    above = after p.hi es;
    like = record { alike = entries_themselves (after p.hi es); kept = λ e i u. in_after eq p.hi es e c i u };
    glued = refl;
  }

  pub glue-nil : (L : List (Entry V)) → glue eq L [] ≡ L
  glue-nil [] = refl
  glue-nil (e ∷ []) = refl
  glue-nil (e ∷ f ∷ L) = ap (λ l. e ∷ l) (glue-nil (f ∷ L))

module _ {V : Type 0} where
  pub before_past : (l : ℤ) (A X : List (Entry V)) → IsBelow l A → before l (A ++ X) ≡ A ++ before l X
  before_past l [] X b = refl
  before_past l (e ∷ A) X b = before_keeps l e (A ++ X) b.0 ∙ ap (λ m. e ∷ m) (before_past l A X b.1)

  pub after_past : (l h : ℤ) (A X : List (Entry V)) → l ≤ℤ h → IsBelow l A → after h (A ++ X) ≡ after h X
  after_past l h [] X w b = refl
  after_past l h (e ∷ A) X w b = after_skips h e (A ++ X) (omega (arith, ints, b.0)) ∙ after_past l h A X w b.1

module _ {V : Type 0} (eq : V → V → Bool) (laws : IsEquivalence eq) (p : Entry V) where
  -- a range without a key paints nothing
  pub painted_nowhere : (es : List (Entry V)) → p.hi <ℤ p.lo → IsCanonical eq es → IsListPainted eq p es es
  painted_nowhere es h c = record {
    canonical = c;
    content = λ k. same_along eq refl (sym (nowhere (at es k) k)) (same_itself eq laws (at es k));
    few = omega arith;
    alone = λ e. let none = ap length e in omega arith;
    kept = λ e i a. i;
  }
    where
      nowhere : (o : Option V) (k : ℤ) → cond (holds p k) (Some p.value) o ≡ o
      nowhere o k = by_place p k (λ l u. absurd (omega (arith, ints))) (λ l. ap (λ b. cond b (Some p.value) o) (holds_under p k l)) (λ u. ap (λ b. cond b (Some p.value) o) (holds_over p k u))
