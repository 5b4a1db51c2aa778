-- The value of a list of entries at a key.
use Rattle.blaze_entries.proofs.Words.{◌≡◌, ℤ, pos, ◌-ℤ◌, ◌≤ℤ◌, ◌<ℤ◌, Bool, true, false, List, [], ◌∷◌, ◌++◌, Some, None, refl, ◌∙◌, arith, cond, option_map, option_or, ints, by_lt_z, Entry, holds, at, entry_at, IsApart, IsCanonical, IsClear, AreKeys}

-- the first range starts above b
abbrev pub IsAbove : {V : Type 0} → ℤ → List (Entry V) → Type 0
IsAbove b [] = Unit {0}
IsAbove b (e ∷ es) = b <ℤ e.lo

pub IsAbove-from_apart : {V : Type 0} (eq : V → V → Bool) (e : Entry V) (es : List (Entry V)) → IsApart eq e es → IsAbove e.hi es
IsAbove-from_apart eq e [] a = tt
IsAbove-from_apart eq e (f ∷ fs) a = a.0

pub above_by : {V : Type 0} (b c : ℤ) (es : List (Entry V)) → c ≤ℤ b → IsAbove b es → IsAbove c es
above_by b c [] l a = tt
above_by b c (e ∷ es) l a = omega (arith, ints, l, a)

-- a canonical list without its first entry
pub above_rest : {V : Type 0} (eq : V → V → Bool) (b : ℤ) (e : Entry V) (es : List (Entry V)) → b ≤ℤ e.hi → IsCanonical eq (e ∷ es) → IsAbove b es
above_rest eq b e es l c = above_by e.hi b es l (IsAbove-from_apart eq e es c.1)

pub above_low : {V : Type 0} (low high : ℤ) (es : List (Entry V)) → AreKeys low high es → IsAbove (low -ℤ pos 1) es
above_low low high [] k = tt
above_low low high (e ∷ es) k = omega (arith, ints, k.0)

-- at a key of the first range
pub at_in : {V : Type 0} (e : Entry V) (es : List (Entry V)) (k : ℤ) → e.lo ≤ℤ k → k ≤ℤ e.hi → at (e ∷ es) k ≡ Some e.value
at_in e es k l h = grind (arith, ints)

pub at_under : {V : Type 0} (e : Entry V) (es : List (Entry V)) (k : ℤ) → k <ℤ e.lo → at (e ∷ es) k ≡ at es k
at_under e es k l = grind (arith, ints)

pub at_over : {V : Type 0} (e : Entry V) (es : List (Entry V)) (k : ℤ) → e.hi <ℤ k → at (e ∷ es) k ≡ at es k
at_over e es k l = grind (arith, ints)

-- the value of two lists is that of the first list that has one
pub at_append : {V : Type 0} (xs ys : List (Entry V)) (k : ℤ) → at (xs ++ ys) k ≡ option_or (at xs k) (at ys k)
at_append [] ys k = refl
at_append {V} (x ∷ xs) ys k = either (holds x k) (at_append xs ys k)
  where
    either : (b : Bool) → at (xs ++ ys) k ≡ option_or (at xs k) (at ys k) → cond b (Some x.value) (at (xs ++ ys) k) ≡ option_or (cond b (Some x.value) (at xs k)) (at ys k)
    either true p = refl
    either false p = p

-- the entry of two lists is that of the first list that has one
pub entry_in : {V : Type 0} (e : Entry V) (es : List (Entry V)) (k : ℤ) → e.lo ≤ℤ k → k ≤ℤ e.hi → entry_at (e ∷ es) k ≡ Some e
entry_in e es k l h = grind (arith, ints)

pub entry_under : {V : Type 0} (e : Entry V) (es : List (Entry V)) (k : ℤ) → k <ℤ e.lo → entry_at (e ∷ es) k ≡ entry_at es k
entry_under e es k l = grind (arith, ints)

pub entry_over : {V : Type 0} (e : Entry V) (es : List (Entry V)) (k : ℤ) → e.hi <ℤ k → entry_at (e ∷ es) k ≡ entry_at es k
entry_over e es k l = grind (arith, ints)

-- the value at a key is that of the entry at the key
pub value-entry_at : {V : Type 0} (es : List (Entry V)) (k : ℤ) → option_map (λ (e : Entry V). e.value) (entry_at es k) ≡ at es k
value-entry_at {V} [] k = refl
value-entry_at {V} (e ∷ es) k = either (holds e k) (value-entry_at es k)
  where
    either : (b : Bool) → option_map (λ (f : Entry V). f.value) (entry_at es k) ≡ at es k → option_map (λ (f : Entry V). f.value) (cond b (Some e) (entry_at es k)) ≡ cond b (Some e.value) (at es k)
    either true p = refl
    either false p = p

-- no other range has a key of the first range
pub at_clear : {V : Type 0} (e : Entry V) (es : List (Entry V)) (k : ℤ) → IsClear e es → holds e k ≡ true → at es k ≡ None
at_clear e [] k c h = refl
at_clear e (f ∷ fs) k c h = skips (holds f k) (c.0 k h) (at_clear e fs k c.1 h)
  where
    skips : (b : Bool) → (b ≡ true → ⊥) → at fs k ≡ None → cond b (Some f.value) (at fs k) ≡ None
    skips true n p = absurd (n refl)
    skips false n p = p

pub holds_in : {V : Type 0} (e : Entry V) (k : ℤ) → e.lo ≤ℤ k → k ≤ℤ e.hi → holds e k ≡ true
holds_in e k l h = grind (arith, ints)

pub holds_ends : {V : Type 0} (e : Entry V) (k : ℤ) → holds e k ≡ true → (e.lo ≤ℤ k) × (k ≤ℤ e.hi)
holds_ends e k h = (grind (arith, ints), grind (arith, ints))

pub holds_under : {V : Type 0} (e : Entry V) (k : ℤ) → k <ℤ e.lo → holds e k ≡ false
holds_under e k l = grind (arith, ints)

pub holds_over : {V : Type 0} (e : Entry V) (k : ℤ) → e.hi <ℤ k → holds e k ≡ false
holds_over e k l = grind (arith, ints)

-- by cases: a key is in a range, below it or above it
pub by_place : {V P : Type 0} (e : Entry V) (k : ℤ) → (e.lo ≤ℤ k → k ≤ℤ e.hi → P) → (k <ℤ e.lo → P) → (e.hi <ℤ k → P) → P
by_place e k inside under over = by_lt_z k e.lo under (λ l. by_lt_z e.hi k over (λ h. inside l h))

module _ {V : Type 0} (eq : V → V → Bool) where
  -- no value before the first range
  pub at_before : (es : List (Entry V)) (b k : ℤ) → IsCanonical eq es → IsAbove b es → k ≤ℤ b → at es k ≡ None
  at_before [] b k c a h = refl
  at_before (e ∷ es) b k c a h = at_under e es k (omega (arith, ints)) ∙ at_before es e.hi k c.2 (IsAbove-from_apart eq e es c.1) (omega (arith, ints))
