-- The content of a list that ranges are cut from, one after another.
use Rattle.range_map_blaze.proofs.Words.{option_or, ◌≡◌, ◌∙◌, ℤ, Bool, true, false, List, [], ◌∷◌, ◌++◌, Option, Some, None, if◌then◌else◌, refl, sym, ap, subst, IsEquivalence, same_along, same_itself, same_trans, Entry, at, holds, SameOption, IsRangeMap, left_alone, IsChosen, IsRangeCut, IsAlikeOff, at_append, chosen}

-- what is left at a key when one range more is cut out, which has the key or not
less : {V A : Type 0} (eq : V → V → Bool) (has : Bool) (unit : A) (x left : Option V) (cut : Option A) → SameOption eq left (left_alone x cut) → SameOption eq (if has then None else left) (left_alone x (option_or cut (if has then Some unit else None)))
less eq true unit x left None s = tt
less eq true unit x left (Some c) s = tt
less eq false unit x left None s = s
less eq false unit x left (Some c) s = s

-- what ranges leave at a key beside others, which cut out what they leave
part : {V A : Type 0} (eq : V → V → Bool) (x left : Option V) (done rest : Option A) → SameOption eq left (left_alone x done) → SameOption eq (left_alone left (option_or done rest)) (left_alone x (option_or done rest))
part eq x left None None s = s
part eq x left None (Some r) s = tt
part eq x left (Some d) rest s = tt

module _ {V : Type 0} (eq : V → V → Bool) (laws : IsEquivalence eq) (low high : ℤ) (es : List (Entry V)) where
  pub cut_none : (new : List (Entry V)) → es ≡ new → IsRangeMap eq low high es → IsChosen {B = Unit {0}} eq low high left_alone es [] new
  cut_none new p r = chosen (subst (IsRangeMap eq low high) p r) (λ k. same_along eq (ap (λ es'. at es' k) p) refl (same_itself eq laws (at es k)))

  -- one range more
  pub cut_more : (r : Entry (Unit {0})) (done : List (Entry (Unit {0}))) (old new : List (Entry V)) → IsChosen eq low high left_alone es done old → IsRangeCut eq low high r.lo r.hi old new → IsChosen eq low high left_alone es (done ++ r ∷ []) new
  cut_more r done old new a c = chosen c.range_map (λ k. same_trans eq laws (at new k) _ _ (c.content k)
      (same_along eq refl (sym (ap (left_alone (at es k)) (at_append done (r ∷ []) k)))
      (less eq (holds r k) r.value (at es k) (at old k) (at done k) (a.content k))))

  -- a first part of the ranges
  pub cut_part : (done rest ranges : List (Entry (Unit {0}))) (new : List (Entry V)) → ranges ≡ done ++ rest → IsChosen eq low high left_alone es done new → IsAlikeOff eq ranges es new
  cut_part done rest ranges new p c k =
      let there : at ranges k ≡ option_or (at done k) (at rest k) = ap (λ rs. at rs k) p ∙ at_append done rest k in
      subst (λ o. SameOption eq (left_alone (at new k) o) (left_alone (at es k) o)) (sym there) (part eq (at es k) (at new k) (at done k) (at rest k) (c.content k))
