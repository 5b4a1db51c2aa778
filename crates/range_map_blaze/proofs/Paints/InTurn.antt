-- Pairs painted one by one.
use Rattle.range_map_blaze.proofs.Words.{◌≡◌, ℤ, ◌≤ℤ◌, ◌<ℤ◌, Bool, true, false, ◌&&◌, cond, List, [], ◌∷◌, ◌++◌, map, Some, refl, ◌∙◌, sym, subst, arith, int_le, IsEquivalence, ints, map-append, same_itself, same_trans, Entry, at, holds, SameOption, IsRangeMap, IsInside, IsPainted, painted_content, painted_inside, painted_outside, ArePaintedInTurn, IsPairPainted}
use Rattle.range_map_blaze.proofs.Paints.Insides.{inside_equal}
use Rattle.range_map_blaze.proofs.Paints.LeftAlone.{alone_equal}
use Rattle.range_map_blaze.proofs.Paints.Nowhere.{painted_nowhere}

module _ {V : Type 0} (eq : V → V → Bool) (laws : IsEquivalence eq) (low high : ℤ) where
  pub pair_painted : (p : Entry V) (old new : List (Entry V)) → p.lo ≤ℤ p.hi → IsPainted eq low high p old new → (IsInside eq p.lo p.hi p.value old → new ≡ old) → IsPairPainted eq low high p old new
  pair_painted p old new w i same = record { painted = i; nowhere = λ u. absurd (omega (arith, ints, w, u)); inside = same }

  pub pair_nowhere : (p : Entry V) (es : List (Entry V)) → p.hi <ℤ p.lo → IsRangeMap eq low high es → IsPairPainted eq low high p es es
  pair_nowhere p es w r = record { painted = painted_nowhere eq laws low high p es w r; nowhere = λ u. refl; inside = λ u. refl }

  -- of a pair an equal one is painted
  pub pair_alike : (p q : Entry V) (old new : List (Entry V)) → IsPairPainted eq low high q old new → q.lo ≡ p.lo → q.hi ≡ p.hi → eq q.value p.value ≡ true → IsPairPainted eq low high p old new
  pair_alike p q old new i lo hi v = record {
    painted = record {
      range_map = i.painted.range_map;
      content = content;
      inside = painted_inside eq old new p content;
      outside = painted_outside eq old new p content;
      few = i.painted.few;
      alone = i.painted.alone;
      kept = λ e m a. i.painted.kept e m (alone_equal eq laws e p q lo hi v a);
    };
    nowhere = λ u. i.nowhere (omega (arith, ints, lo, hi, u));
    inside = λ u. i.inside (subst (λ z. IsInside eq z q.hi q.value old) (sym lo) (subst (λ z. IsInside eq p.lo z q.value old) (sym hi) (inside_equal eq laws p.lo p.hi p.value q.value old (laws.symm p.value q.value ∙ v) u)));
  }
    where
      either : (b : Bool) (k : ℤ) → SameOption eq (cond b (Some q.value) (at old k)) (cond b (Some p.value) (at old k))
      either true k = v
      either false k = same_itself eq laws (at old k)

      alike : (k : ℤ) → SameOption eq (painted_content q.lo q.hi q.value (at old) k) (painted_content p.lo p.hi p.value (at old) k)
      alike k =
          let same : holds q k ≡ holds p k = λ i. int_le (lo i) k && int_le k (hi i) in
          subst (λ b. SameOption eq (cond b (Some q.value) (at old k)) (cond (holds p k) (Some p.value) (at old k))) (sym same) (either (holds p k) k)

      content : (k : ℤ) → SameOption eq (at new k) (painted_content p.lo p.hi p.value (at old) k)
      content k = same_trans eq laws (at new k) (painted_content q.lo q.hi q.value (at old) k) (painted_content p.lo p.hi p.value (at old) k) (i.painted.content k) (alike k)

  -- one pair more
  pub in_turn_more : (ps : List (Entry V)) (p : Entry V) (old cur new : List (Entry V)) → ArePaintedInTurn eq low high ps old cur → IsPairPainted eq low high p cur new → ArePaintedInTurn eq low high (ps ++ p ∷ []) old new
  in_turn_more [] p old cur new q i = (new, subst (λ es. IsPairPainted eq low high p es new) q i, refl)
  in_turn_more (r ∷ ps) p old cur new j i = (j.0, j.1, in_turn_more ps p j.0 cur new j.2 i)

  -- one more, of which an equal one is painted
  pub in_turn_by : (p q : Entry V) (ps old cur new : List (Entry V)) → ArePaintedInTurn eq low high ps old cur → IsPairPainted eq low high q cur new
      → q.lo ≡ p.lo → q.hi ≡ p.hi → eq q.value p.value ≡ true → ArePaintedInTurn eq low high (ps ++ p ∷ []) old new
  in_turn_by p q ps old cur new d i lo hi v = in_turn_more ps p old cur new d (pair_alike p q cur new i lo hi v)

  -- the same of items that show the pairs
  pub in_turn_item : {A : Type 0} (shown : A → Entry V) (items : List A) (x : A) (q : Entry V) (old cur new : List (Entry V)) → ArePaintedInTurn eq low high (map shown items) old cur
      → IsPairPainted eq low high q cur new → q.lo ≡ (shown x).lo → q.hi ≡ (shown x).hi → q.value ≡ (shown x).value → ArePaintedInTurn eq low high (map shown (items ++ x ∷ [])) old new
  in_turn_item shown items x q old cur new d i lo hi v =
      subst (λ ps. ArePaintedInTurn eq low high ps old new) (sym (map-append shown items (x ∷ [])))
      (in_turn_by (shown x) q (map shown items) old cur new d i lo hi (subst (λ w. eq q.value w ≡ true) v (laws.refl q.value)))
