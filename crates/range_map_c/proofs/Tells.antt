-- What a call tells by what a call of the map gave.
use Rattle.std.specs.Prelude.{◌≡◌, ◌↔◌, IsTrue, not, pos, ℕ, ℤ, Bool, List, [], Option, Some, None, MatchOption, nat_eq}
use Rattle.std.proofs.Common.{refl, ap, sym, subst, ◌∙◌, rules, arith}
use Rattle.std.proofs.lemmas.Int.{ints}
use Rattle.blaze_entries.proofs.Plain.{same_is}
use Rattle.blaze_entries.specs.Entries.{Entry, at, SameOption}
use Rattle.blaze_table.specs.Gap.{IsGap}
use Rattle.range_map_c.specs.Handle.{least_key, greatest_key}
use Rattle.range_map_c.specs.Told.{told}

-- two lengths differ exactly if the numbers of keys do
pub differs_by : (a b : ℕ) (x y : ℤ) → pos a ≡ x → pos b ≡ y → IsTrue (not (nat_eq a b)) ↔ (¬ (x ≡ y))
differs_by a b x y p q = subst (λ z. IsTrue (not (nat_eq a b)) ↔ (¬ (z ≡ y))) p (subst (λ z. IsTrue (not (nat_eq a b)) ↔ (¬ (pos a ≡ z))) q (first_of (search rules, grind (arith, ints))))

-- a value is told that equals the one that was there
pub told_same : (there : Bool) (v : ℕ) (answer was : Option ℕ) → told there v ≡ answer → SameOption nat_eq was answer → told there v ≡ was
told_same there v answer was is same = is ∙ same_is was answer same

-- the gap round a key, where a call gave no value
abbrev Gap : List (Entry ℕ) → ℤ → ℤ → ℤ → Type 0
Gap es k a b = (at es k ≡ None) × IsGap least_key greatest_key (at es) k a b

pub gap_told : {X : Type 0} (r : Option X) (B : X → Type 0) (es : List (Entry ℕ)) (k k' a a' b b' : ℤ) → r ≡ None → MatchOption r (Gap es k' a' b') B → k' ≡ k → a' ≡ a → b' ≡ b
    → Gap es k a b
gap_told None B es k k' a a' b b' none gap ke ae be = subst (λ h. Gap es k a h) be (subst (λ l. Gap es k l b') ae (subst (λ j. Gap es j a' b') ke gap))
gap_told (Some x) B es k k' a a' b b' none gap ke ae be = absurd (subst (λ o. MatchOption o ⊥ (λ _. Unit {0})) none tt)

-- the entries of a map that was borrowed, or of the empty one in its place
pub read_entries : {B R E : Type 0} (f : R → List E) (g : B → R) (o : Option B) (es : List E) (r none : R) → MatchOption o (es ≡ []) (λ b. es ≡ f (g b)) → MatchOption o (r ≡ none) (λ b. r ≡ g b) → f none ≡ []
    → es ≡ f r
read_entries f g None es r none is read empty = is ∙ sym empty ∙ ap f (sym read)
read_entries f g (Some b) es r none is read empty = is ∙ ap f (sym read)
