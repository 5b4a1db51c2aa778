-- The set of ranges after a sweep, and lists of ranges with the same keys.
use Rattle.blaze_table.proofs.Words.{option_or, ◌≡◌, ℤ, Bool, true, false, cond, List, [], ◌∷◌, Option, Some, None, refl, ◌∙◌, sym, ap, subst, Decides, Entry, at, holds, SameOption, SameEntries, IsCanonicalOf, last_at, painted_in_order, IsRangeSet, IsSetOf, same_ranges, unit_eq, entries_themselves, same_from_test, test_from_same, content_decides, unit_laws}

unit_same : (a b : Option (Unit {0})) → SameOption unit_eq a b → a ≡ b
unit_same None None s = refl
unit_same None (Some y) s = absurd s
unit_same (Some x) None s = absurd s
unit_same (Some x) (Some y) s = refl

-- for ranges without values, the last and the first range that contains a key give the same value
last_is_at : (es : List (Entry (Unit {0}))) (k : ℤ) → painted_in_order es (at []) k ≡ at es k
last_is_at [] k = refl
last_is_at (e ∷ es) k = either (last_at es k) (holds e k) ∙ ap (λ o. cond (holds e k) (Some tt) o) (last_is_at es k)
  where
    either : (o : Option (Unit {0})) (b : Bool) → option_or (option_or o (cond b (Some tt) None)) None ≡ cond b (Some tt) (option_or o None)
    either None true = refl
    either None false = refl
    either (Some u) true = refl
    either (Some u) false = refl

-- the canonical list of ranges without values is their set
pub set_of : (low high : ℤ) (ranges set : List (Entry (Unit {0}))) → IsCanonicalOf unit_eq low high ranges set → IsSetOf low high ranges set
set_of low high ranges set c = record { range_set = c.range_map; same_keys = λ k. unit_same (at set k) (painted_in_order ranges (at []) k) (c.content k) ∙ last_is_at ranges k }

-- ---- the same ranges

entries_same : (L M : List (Entry (Unit {0}))) → SameEntries unit_eq L M → L ≡ M
entries_same [] [] s = refl
entries_same [] (f ∷ fs) s = absurd s
entries_same (e ∷ es) [] s = absurd s
entries_same (e ∷ es) (f ∷ fs) s = let rest = entries_same es fs s.3 in λ i. (record { lo = s.0 i; hi = s.1 i; value = tt }) ∷ rest i

same_of : (a b : Option (Unit {0})) → a ≡ b → SameOption unit_eq a b
same_of None None p = tt
same_of None (Some y) p = absurd cc
same_of (Some x) None p = absurd cc
same_of (Some x) (Some y) p = refl

module _ (L M : List (Entry (Unit {0}))) (r : Bool) (is : r ≡ same_ranges L M) where
  pub ranges_decide : Decides r (L ≡ M)
  ranges_decide = (
    λ h. entries_same L M (same_from_test unit_eq L M (sym is ∙ h)),
    λ p. is ∙ test_from_same unit_eq L M (subst (SameEntries unit_eq L) p (entries_themselves unit_eq unit_laws L)),
  )

  -- sets with the same keys have the same ranges
  pub keys_decide : (low high : ℤ) → IsRangeSet low high L → IsRangeSet low high M → Decides r ((k : ℤ) → at L k ≡ at M k)
  keys_decide low high l m =
      let content = content_decides unit_eq unit_laws low high L M r is l m in
      (λ h k. unit_same (at L k) (at M k) (content.0 h k), λ s. content.1 (λ k. same_of (at L k) (at M k) (s k)))
