-- A range map's list painted over another.
use Rattle.range_map_blaze.proofs.Words.{option_or, ◌≡◌, ℤ, Bool, true, false, cond, List, [], ◌∷◌, ◌++◌, Option, Some, None, refl, ◌∙◌, sym, ap, IsEquivalence, same_along, same_itself, same_trans, same_or, or_assoc, Entry, at, holds, IsCanonical, IsRangeMap, right_first, IsChosen, last_at, painted_in_order, IsAbove-from_apart, at_before, by_place, holds_under, holds_over, canonical, IsExtended, chosen}
use Rattle.range_map_blaze.proofs.Paints.Paintings.{last_append}

-- the value where the key is held, else what was there
abbrev over : {V : Type 0} → Bool → V → Option V → Option V
over b v o = cond b (Some v) o

-- in a canonical list the last entry that has a key is the first
pub last_is_first : {V : Type 0} (eq : V → V → Bool) (es : List (Entry V)) (k : ℤ) → IsCanonical eq es → last_at es k ≡ at es k
last_is_first eq [] k c = refl
last_is_first {V} eq (e ∷ es) k c = either (holds e k) e.value (last_at es k) (at es k) (last_is_first eq es k c.2) alone
  where
    either : (b : Bool) (v : V) (l a : Option V) → l ≡ a → (b ≡ true → a ≡ None) → option_or l (over b v None) ≡ over b v a
    either true v l a p n = ap (λ o. option_or o (Some v)) (p ∙ n refl)
    either false v None a p n = p
    either false v (Some x) a p n = p

    differ : {P : Type 0} (b : Bool) → b ≡ true → b ≡ false → P
    differ true p q = cc
    differ false p q = cc

    alone : holds e k ≡ true → at es k ≡ None
    alone h = by_place e k (λ l g. at_before eq es e.hi k c.2 (IsAbove-from_apart eq e es c.1) g) (λ l. differ (holds e k) h (holds_under e k l)) (λ l. differ (holds e k) h (holds_over e k l))

-- the choice by the words of a painting
pub turned : {V : Type 0} (y x : Option V) → option_or y x ≡ right_first x y
turned None x = refl
turned (Some y) x = refl

-- all of a range map's list painted
pub painted_over : {V : Type 0} (eq : V → V → Bool) (laws : IsEquivalence eq) (low high : ℤ) (old over new : List (Entry V)) → IsRangeMap eq low high over → IsExtended eq low high over old new → IsChosen eq low high right_first old over new
painted_over {V} eq laws low high old over new r s = chosen s.range_map (λ k. same_along eq refl (ap (λ o. option_or o (at old k)) (last_is_first eq over k (canonical eq laws over r.runs)) ∙ turned (at over k) (at old k)) (s.content k))

-- a first part painted, and then the rest put over
pub painted_then : {V : Type 0} (eq : V → V → Bool) (laws : IsEquivalence eq) (low high : ℤ) (old done rest whole cur new : List (Entry V)) → whole ≡ done ++ rest → IsRangeMap eq low high whole → IsRangeMap eq low high rest
    → IsExtended eq low high done old cur → IsChosen eq low high right_first cur rest new → IsChosen eq low high right_first old whole new
painted_then {V} eq laws low high old done rest whole cur new p w r s c = chosen c.range_map (λ k. same_trans eq laws (at new k) (right_first (at cur k) (at rest k)) (right_first (at old k) (at whole k)) (c.content k)
    (same_along eq (turned (at rest k) (at cur k)) (there k) (same_or eq (at rest k) (at rest k) (at cur k) (painted_in_order done (at old) k) (same_itself eq laws (at rest k)) (s.content k))))
  where
    there : (k : ℤ) → option_or (at rest k) (painted_in_order done (at old) k) ≡ right_first (at old k) (at whole k)
    there k =
        ap (λ o. option_or o (painted_in_order done (at old) k)) (sym (last_is_first eq rest k (canonical eq laws rest r.runs)))
        ∙ sym (or_assoc (last_at rest k) (last_at done k) (at old k))
        ∙ ap (λ o. option_or o (at old k)) (sym (last_append done rest k))
        ∙ ap (λ ps. option_or (last_at ps k) (at old k)) (sym p)
        ∙ ap (λ o. option_or o (at old k)) (last_is_first eq whole k (canonical eq laws whole w.runs))
        ∙ turned (at whole k) (at old k)
