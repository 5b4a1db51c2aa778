-- The first item of a list that violates the law of a stream.
use Rattle.std.specs.Prelude.{◌≡◌, ℕ, zero, suc, ◌<◌, pos, ◌+ℤ◌, int_le, int_lt, Bool, true, ◌&&◌, ◌||◌, List, [], ◌∷◌, Option, Some, None}
use Rattle.std.specs.Ordering.{int_eq}
use Rattle.blaze_entries.specs.Entries.{Entry}

-- The entry violates the law after the previous one, if one exists. Its range is empty, or does not start above the
-- previous end, or touches an equal value.
abbrev pub violates : {V : Type 0} → (V → V → Bool) → Option (Entry V) → Entry V → Bool
violates eq None e = int_lt e.hi e.lo
violates eq (Some d) e = int_lt e.hi e.lo || (int_le e.lo d.hi || (int_eq e.lo (d.hi +ℤ pos 1) && eq d.value e.value))

-- the entry at a position of the list violates the law; `before` is the entry before the list
abbrev pub ViolatesAfter : {V : Type 0} → (V → V → Bool) → Option (Entry V) → List (Entry V) → ℕ → Type 0
ViolatesAfter eq before [] i = ⊥
ViolatesAfter eq before (e ∷ es) zero = violates eq before e ≡ true
ViolatesAfter eq before (e ∷ es) (suc i) = ViolatesAfter eq (Some e) es i

-- the entry at a position of the list violates the law
abbrev pub ViolatesAt : {V : Type 0} → (V → V → Bool) → List (Entry V) → ℕ → Type 0
ViolatesAt eq es i = ViolatesAfter eq None es i

-- the position is that of the first entry that violates the law
pub record IsFirstViolation {V : Type 0} (eq : V → V → Bool) (es : List (Entry V)) (place : ℕ) : Type 0 where
  pub here : ViolatesAt eq es place
  pub first : (i : ℕ) → i < place → ¬ ViolatesAt eq es i
