-- After each piece, fewer keys remain of two streams.
use Rattle.blaze_streams.proofs.Words.{◌≡◌, ◌+◌, ◌<◌, ◌≤◌, ℤ, ◌≤ℤ◌, Bool, List, [], ◌∷◌, Option, Some, refl, arith, ⊎_elim, ints, by_lt_z, Entry, IsCanonical, after, after_keeps, IsTaken, first_key, lesser}
use Rattle.blaze_streams.proofs.LengthsLeft.{lengths_left, all_less}
use Rattle.blaze_streams.proofs.Lesser.{lesser_one}

module _ {A : Type 0} (eq : A → A → Bool) (t : ℤ) where
  less : (s : ℤ) (es : List (Entry A)) → IsCanonical eq es → s ≤ℤ t → first_key es ≡ Some s → lengths_left (after t es) < lengths_left es
  less s [] c w f = cc
  less s (e ∷ es) c w f = omega (arith, all_less eq s t ((e ∷ es) ∷ []) (c, tt) w f)

  fewer : (es : List (Entry A)) → IsCanonical eq es → lengths_left (after t es) ≤ lengths_left es
  fewer [] c = omega arith
  fewer (e ∷ es) c = by_lt_z t e.lo
      (λ l. rw (after_keeps t e es (omega (arith, ints, c.0)) l) (omega arith))
      (λ l. omega (arith, less e.lo (e ∷ es) c l refl))

-- if at least one of two lists has the key s, fewer keys remain above a key from s on
pub both_less : {A B : Type 0} (eqa : A → A → Bool) (eqb : B → B → Bool) (s t : ℤ) (L : List (Entry A)) (R : List (Entry B))
    → IsCanonical eqa L → IsCanonical eqb R → lesser (first_key L) (first_key R) ≡ Some s → s ≤ℤ t → lengths_left (after t L) + lengths_left (after t R) < lengths_left L + lengths_left R
both_less eqa eqb s t L R ca cb starts order = ⊎_elim
    (λ e. omega (arith, less eqa t s L ca order e, fewer eqb t R cb))
    (λ e. omega (arith, less eqb t s R cb order e, fewer eqa t L ca))
    (lesser_one (first_key L) (first_key R) s starts)

pub step_less : {A B V : Type 0} (eqa : A → A → Bool) (eqb : B → B → Bool) (eq : V → V → Bool) (choose : Option A → Option B → Option V) (L L' : List (Entry A)) (R R' : List (Entry B)) (f t : ℤ) (value : Option V)
    → IsCanonical eqa L → IsCanonical eqb R → IsTaken eq choose L L' R R' f t value → lengths_left L' + lengths_left R' < lengths_left L + lengths_left R
step_less eqa eqb eq choose L L' R R' f t value ca cb taken =
    rw (taken.left_is, taken.right_is) (both_less eqa eqb taken.start t L R ca cb taken.starts (omega (arith, ints, taken.from, taken.order)))
