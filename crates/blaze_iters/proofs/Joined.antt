-- Entries that are joined where they touch have the same keys, and are the ranges of a set.
use Rattle.blaze_iters.proofs.Words.{◌≡◌, ℤ, pos, ◌+ℤ◌, ◌≤ℤ◌, ◌<ℤ◌, Bool, true, false, List, [], ◌∷◌, length, min, ℕ, ◌≤◌, Option, Some, None, refl, sym, ◌∙◌, ap, arith, if◌then◌else◌, int_le, ◌&&◌, ◌||◌, is_some, int_eq, IsEquivalence, ints, Decides-int_eq, Entry, entry, at, IsApart, IsCanonical, AreKeys, IsRangeMap, IsAbove, IsAbove-from_apart, canonical, one_per_run, unit_eq, IsRangeSet, AreKeyRanges, TakesEnds, joined_ranges, joined_left, IsRangeMap-rest, unit_laws}

pick : {A : Type 0} (P : A → Type 0) (b : Bool) (x y : A) → (b ≡ true → P x) → (b ≡ false → P y) → P (if b then x else y)
pick P true x y p q = p refl
pick P false x y p q = q refl

or_assoc : (a b c : Bool) → ((a || b) || c) ≡ (a || (b || c))
or_assoc true b c = refl
or_assoc false b c = refl

some_if : {V : Type 0} (b : Bool) (v : V) (o : Option V) → is_some (if b then Some v else o) ≡ (b || is_some o)
some_if true v o = refl
some_if false v o = refl

apart_eq : (a b : ℤ) → int_eq a b ≡ false → a ≡ b → ⊥
apart_eq a b p q = let r = (Decides-int_eq a b).1 q in cc

abbrev covers : ℤ → ℤ → ℤ → Bool
covers lo hi k = int_le lo k && int_le k hi

covers_both : (lo hi l h k : ℤ) → lo ≤ℤ hi → l ≡ hi +ℤ pos 1 → l ≤ℤ h → covers lo h k ≡ (covers lo hi k || covers l h k)
covers_both lo hi l h k p q r = grind (arith, ints)

module _ {V : Type 0} (eq : V → V → Bool) where
  apart_joined : (d : Entry (Unit {0})) (lo hi : ℤ) (es : List (Entry V)) → d.hi <ℤ lo → (lo ≡ d.hi +ℤ pos 1 → ⊥) → IsApart unit_eq d (joined_ranges lo hi es)
  apart_joined d lo hi [] a n = (a, λ q. absurd (n q))
  apart_joined d lo hi (e ∷ es) a n =
      pick (IsApart unit_eq d) (int_eq e.lo (hi +ℤ pos 1)) _ _ (λ t. apart_joined d lo e.hi es a n) (λ f. (a, λ q. absurd (n q)))

  canonical_joined : (lo hi : ℤ) (es : List (Entry V)) → lo ≤ℤ hi → IsAbove hi es → IsCanonical eq es → IsCanonical unit_eq (joined_ranges lo hi es)
  canonical_joined lo hi [] l a c = (l, tt, tt)
  canonical_joined lo hi (e ∷ es) l a c =
      let over = IsAbove-from_apart eq e es c.1 in
      pick (IsCanonical unit_eq) (int_eq e.lo (hi +ℤ pos 1)) _ _
      (λ t. canonical_joined lo e.hi es (omega (arith, ints, c.0)) over c.2)
      (λ f. (l, apart_joined (entry lo hi tt) e.lo e.hi es a (apart_eq _ _ f), canonical_joined e.lo e.hi es c.0 over c.2))

  keys_joined : (low high lo hi : ℤ) (es : List (Entry V)) → low ≤ℤ lo → hi ≤ℤ high → AreKeys low high es → AreKeys low high (joined_ranges lo hi es)
  keys_joined low high lo hi [] l h a = (l, h, tt)
  keys_joined low high lo hi (e ∷ es) l h a =
      pick (AreKeys low high) (int_eq e.lo (hi +ℤ pos 1)) _ _
      (λ t. keys_joined low high lo e.hi es l a.1 a.2)
      (λ f. (l, h, keys_joined low high e.lo e.hi es a.0 a.1 a.2))

  same_joined : (lo hi : ℤ) (es : List (Entry V)) → lo ≤ℤ hi → IsCanonical eq es → (k : ℤ) → is_some (at (joined_ranges lo hi es) k) ≡ (covers lo hi k || is_some (at es k))
  same_joined lo hi [] l c k = some_if (covers lo hi k) tt None
  same_joined lo hi (e ∷ es) l c k =
      let rest = some_if (covers e.lo e.hi k) e.value (at es k) in
      pick (λ ranges. is_some (at ranges k) ≡ (covers lo hi k || is_some (at (e ∷ es) k))) (int_eq e.lo (hi +ℤ pos 1)) _ _
      (λ t.
      let touch = (Decides-int_eq e.lo (hi +ℤ pos 1)).0 t in
      same_joined lo e.hi es (omega (arith, ints, c.0)) c.2 k
      ∙ ap (λ b. b || is_some (at es k)) (covers_both lo hi e.lo e.hi k l touch c.0)
      ∙ or_assoc (covers lo hi k) (covers e.lo e.hi k) (is_some (at es k))
      ∙ ap (λ b. covers lo hi k || b) (sym rest))
      (λ f.
      some_if (covers lo hi k) tt (at (joined_ranges e.lo e.hi es) k)
      ∙ ap (λ b. covers lo hi k || b) (same_joined e.lo e.hi es c.0 c.2 k ∙ sym rest))

module _ {V : Type 0} (eq : V → V → Bool) (laws : IsEquivalence eq) (low high : ℤ) where
  pub key_ranges : (e : Entry V) (es : List (Entry V)) → IsRangeMap eq low high (e ∷ es) → AreKeyRanges low high (e ∷ es) (joined_ranges e.lo e.hi es)
  key_ranges e es m =
      let c = canonical eq laws (e ∷ es) m.runs in
      record {
        range_set = record {
          runs = one_per_run unit_eq unit_laws (joined_ranges e.lo e.hi es) (canonical_joined eq e.lo e.hi es c.0 (IsAbove-from_apart eq e es c.1) c.2);
          keys = keys_joined eq low high e.lo e.hi es m.keys.0 m.keys.1 m.keys.2;
        };
        same_keys = λ k. same_joined eq e.lo e.hi es c.0 c.2 k ∙ sym (some_if (covers e.lo e.hi k) e.value (at es k));
      }

  pub no_key_ranges : AreKeyRanges {V = V} low high [] []
  no_key_ranges = record { range_set = record { runs = one_per_run unit_eq unit_laws [] tt; keys = tt }; same_keys = λ k. refl }

  -- the remaining entries after the first one is taken
  pub left_of : {T : Type 0} (rank : T → ℤ) (first : Option (T × T)) (es rest : List (Entry V)) → IsRangeMap eq low high es → TakesEnds rank first es rest → AreKeyRanges low high es (joined_left rank first rest)
  left_of rank None es rest m t = rw t.0 no_key_ranges
  left_of rank (Some p) es rest m t = rw t.1 (key_ranges (entry (rank p.0) (rank p.1) t.0) rest (rw t.1 at m))

-- the remaining entries after a range that the next entry does not extend
pub after_gap : {V : Type 0} (low high lo hi : ℤ) (e : Entry V) (es rest : List (Entry V)) (old : List (Entry (Unit {0}))) → IsRangeSet low high old → joined_ranges lo hi es ≡ old → es ≡ e ∷ rest → int_eq e.lo (hi +ℤ pos 1) ≡ false → IsRangeSet low high (joined_ranges e.lo e.hi rest)
after_gap low high lo hi e es rest old m j p n =
    let first : joined_ranges lo hi es ≡ entry lo hi tt ∷ joined_ranges e.lo e.hi rest = rw (p, n) refl in
    IsRangeMap-rest unit_eq unit_laws low high (entry lo hi tt) (joined_ranges e.lo e.hi rest) (rw (sym j ∙ first) at m)

some_joined : {V : Type 0} (lo hi : ℤ) (es : List (Entry V)) → 1 ≤ length (joined_ranges lo hi es)
some_joined lo hi [] = omega arith
some_joined lo hi (e ∷ es) = pick (λ (l : List (Entry (Unit {0}))). 1 ≤ length l) (int_eq e.lo (hi +ℤ pos 1)) _ _ (λ t. some_joined lo e.hi es) (λ f. omega arith)

-- if the first range is open, a range remains
pub some_left : {T V : Type 0} (rank : T → ℤ) (first : Option (T × T)) (p : T × T) (es : List (Entry V)) → first ≡ Some p → 1 ≤ length (joined_left rank first es)
some_left rank first p es q = rw q (some_joined (rank p.0) (rank p.1) es)

pub one_of : (n : ℕ) → 1 ≤ n → 1 ≡ min 1 n
one_of n l = omega (arith, l)
