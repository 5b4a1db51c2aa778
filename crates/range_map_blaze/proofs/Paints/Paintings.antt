-- Pairs painted in parts, one part after another.
use Rattle.range_map_blaze.proofs.Words.{option_or, ◌≡◌, ◌-◌, ◌*◌, ◌≤◌, ℤ, ◌≤ℤ◌, ◌<ℤ◌, Bool, false, cond, List, [], ◌∷◌, ◌++◌, length, Some, None, refl, ◌∙◌, sym, ap, subst, arith, inl, inr, Result, Ok, Err, OnOk, IsEquivalence, ints, by_lt_z, length-append, same_itself, same_trans, same_or, or_none, or_assoc, Entry, at, holds, SameOption, IsInside, IsPainted, last_at, painted_in_order, painted_one, IsCanonical, IsRangeMap, canonical, AreInside, AreLeftAlone, ArePaintedInTurn, IsExtended, IsPairPainted}
use Rattle.range_map_blaze.proofs.Paints.Insides.{inside_parts}
use Rattle.range_map_blaze.proofs.Paints.LeftAlone.{alone_parts, has_key}

module _ {V : Type 0} where
  -- the last of two lists is that of the second, where it has one
  pub last_append : (ps qs : List (Entry V)) (k : ℤ) → last_at (ps ++ qs) k ≡ option_or (last_at qs k) (last_at ps k)
  last_append [] qs k = sym (or_none (last_at qs k))
  last_append (p ∷ ps) qs k = ap (λ o. option_or o (cond (holds p k) (Some p.value) None)) (last_append ps qs k) ∙ or_assoc (last_at qs k) (last_at ps k) (cond (holds p k) (Some p.value) None)

  no_key : (p : Entry V) (k : ℤ) → p.hi <ℤ p.lo → holds p k ≡ false
  no_key p k w = grind (arith, ints)

  pub last_nowhere : (p : Entry V) (k : ℤ) → p.hi <ℤ p.lo → last_at (p ∷ []) k ≡ None
  last_nowhere p k w = ap (λ b. cond b (Some p.value) None) (no_key p k w)

module _ {V : Type 0} (eq : V → V → Bool) (laws : IsEquivalence eq) where
  module _ (low high : ℤ) where
    -- no pair
    pub extended_none : (es : List (Entry V)) → IsRangeMap eq low high es → IsExtended eq low high [] es es
    extended_none es r = record { range_map = r; content = λ k. same_itself eq laws (at es k); few = omega arith; alone = λ e. omega (arith, ap length e); inside = λ _. refl; kept = λ e m a. m }

    -- one pair
    pub extended_one : (p : Entry V) (old new : List (Entry V)) → IsPainted eq low high p old new → p.lo ≤ℤ p.hi → (IsInside eq p.lo p.hi p.value old → new ≡ old) → IsExtended eq low high (p ∷ []) old new
    extended_one p old new i w u = record {
      range_map = i.range_map;
      content = λ k. subst (SameOption eq (at new k)) (painted_one (holds p k) p.value (at old k)) (i.content k);
      few = omega (arith, i.few);
      alone = λ e. omega (arith, i.alone e);
      inside = λ a. elim a.0 [ inl h ↦ absurd (omega (arith, ints)) | inr h ↦ u h ];
      kept = λ e m a. i.kept e m a.0;
    }

    empty : (es : List (Entry V)) → length es ≤ 0 → es ≡ []
    empty [] h = refl
    empty (e ∷ es) h = absurd (omega arith)

    alone_more : (done others part old cur new : List (Entry V)) → IsExtended eq low high done old cur → IsExtended eq low high part cur new → length part ≤ length others
        → old ≡ [] → length new ≤ 2 * length (done ++ others) - 1
    alone_more [] others part old cur new d p l e =
        let none = empty cur (omega (arith, d.few, ap length e)) in
        omega (arith, p.alone none, l)
    alone_more (q ∷ done) others part old cur new d p l e = omega (arith, d.alone e, p.few, l, length-append done others)

    -- a part, and then a part that stands for others
    pub extended_more : (done others part old cur new : List (Entry V)) → IsExtended eq low high done old cur → IsExtended eq low high part cur new
        → ((k : ℤ) → SameOption eq (last_at part k) (last_at others k)) → length part ≤ length others → ((es : List (Entry V)) → IsCanonical eq es → AreInside eq others es → AreInside eq part es)
        → ((e : Entry V) → e.lo ≤ℤ e.hi → AreLeftAlone eq others e → AreLeftAlone eq part e) → IsExtended eq low high (done ++ others) old new
    extended_more done others part old cur new d p s l f g = record {
      range_map = p.range_map;
      content = λ k. subst (SameOption eq (at new k)) (sym (or_assoc (last_at others k) (last_at done k) (at old k)) ∙ ap (λ o. option_or o (at old k)) (sym (last_append done others k)))
          (same_trans eq laws (at new k) (painted_in_order part (at cur) k) (option_or (last_at others k) (painted_in_order done (at old) k)) (p.content k)
          (same_or eq (last_at part k) (last_at others k) (at cur k) (painted_in_order done (at old) k) (s k) (d.content k)));
      few = omega (arith, d.few, p.few, length-append done others);
      alone = alone_more done others part old cur new d p l;
      inside = λ a.
          let b = inside_parts eq done others old a in
          let same = d.inside b.0 in
          p.inside (f cur (canonical eq laws cur d.range_map.runs) (subst (AreInside eq others) (sym same) b.1)) ∙ same;
      kept = λ e m a.
          let b = alone_parts eq done others e a in
          let here = d.kept e m b.0 in
          p.kept e here (g e (has_key eq cur e (canonical eq laws cur d.range_map.runs) here) b.1);
    }

    -- a pair without a key
    pub extended_nowhere : (p : Entry V) (done old new : List (Entry V)) → IsExtended eq low high done old new → p.hi <ℤ p.lo → IsExtended eq low high (done ++ p ∷ []) old new
    extended_nowhere p done old new d w = extended_more done (p ∷ []) [] old new new d (extended_none new d.range_map)
        (λ k. subst (SameOption eq None) (sym (last_nowhere p k w)) tt) (omega arith) (λ es c a. tt) (λ e o a. tt)

    -- one pair that is painted
    pub extended_pair : (p : Entry V) (old new : List (Entry V)) → IsRangeMap eq low high old → IsPairPainted eq low high p old new → IsExtended eq low high (p ∷ []) old new
    extended_pair p old new r i = by_lt_z p.hi p.lo
        (λ w. subst (IsExtended eq low high (p ∷ []) old) (sym (i.nowhere w)) (extended_nowhere p [] old old (extended_none old r) w))
        (λ w. extended_one p old new i.painted w i.inside)

    -- pairs that are painted one by one
    pub in_turn : (ps old new : List (Entry V)) → IsRangeMap eq low high old → ArePaintedInTurn eq low high ps old new → IsExtended eq low high ps old new
    in_turn [] old new r i = subst (IsExtended eq low high [] old) (sym i) (extended_none old r)
    in_turn (p ∷ ps) old new r i = extended_more (p ∷ []) ps ps old i.0 new (extended_pair p old i.0 r i.1) (in_turn ps i.0 new i.1.painted.range_map i.2)
        (λ k. same_itself eq laws (last_at ps k)) (omega arith) (λ es c a. a) (λ e o a. a)

    pub pair_extended : {A E : Type 0} (r : Result A E) (p : Entry V) (old new : List (Entry V)) → IsRangeMap eq low high old → OnOk r (IsPairPainted eq low high p old new) → OnOk r (IsExtended eq low high (p ∷ []) old new)
    pair_extended (Ok x) p old new r i = extended_pair p old new r i
    pair_extended (Err e) p old new r i = tt
