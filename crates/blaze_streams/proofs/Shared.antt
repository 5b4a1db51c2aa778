-- The keys that the first ranges of two lists share.
use Rattle.blaze_streams.proofs.Words.{int_max, int_min, ◌⊎◌, int_le, option_map, ◌≡◌, ℤ, pos, ◌+ℤ◌, ◌≤ℤ◌, ◌<ℤ◌, Bool, cond, List, [], ◌∷◌, Option, Some, None, refl, ◌∙◌, sym, subst, ap, arith, ⊎_elim, ints, by_lt_z, le_true, le_false, range_in, first_entry, same_along, same_none, Entry, at, SameOption, IsCanonical, left_with_right, after, at_in, after_keeps, IsTaken, first_key, FirstHas, lesser, Reaches}
use Rattle.blaze_streams.proofs.ChosenSoFar.{chosen_at}
use Rattle.blaze_streams.proofs.Steady.{at_first}
use Rattle.blaze_streams.proofs.Lesser.{lesser_exchanged, lesser_first}
use Rattle.blaze_streams.proofs.Taken.{ends, taken_to}

at_most_max : (a b : ℤ) → b ≤ℤ int_max a b
at_most_max a b = grind (arith, ints)

min_at_most : (a b : ℤ) → int_min a b ≤ℤ b
min_at_most a b = grind (arith, ints)

-- no choice up to a key
nothing_to : {A B V : Type 0} (eq : V → V → Bool) (choose : Option A → Option B → Option V) (s t : ℤ) (L L' : List (Entry A)) (R R' : List (Entry B)) → lesser (first_key L) (first_key R) ≡ Some s → s ≤ℤ t → ((k : ℤ) → k ≤ℤ t → chosen_at choose L R k ≡ None) → L' ≡ after t L → R' ≡ after t R → IsTaken eq choose L L' R R' s t None
nothing_to eq choose s t L L' R R' starts order nothing = taken_to eq choose L L' R R' s t None starts order (λ k a b. nothing k b ∙ sym (nothing s order)) (same_none eq (chosen_at choose L R s) (nothing s order))

-- the right list skips the keys below the left one, if nothing is chosen without the left value
pub right_gone : {A B V : Type 0} (eqa : A → A → Bool) (eqb : B → B → Bool) (eq : V → V → Bool) (choose : Option A → Option B → Option V) → ((o : Option B) → choose None o ≡ None) → (l x r y t : ℤ) (L L' : List (Entry A)) (R R' : List (Entry B))
    → IsCanonical eqa L → IsCanonical eqb R → Some (l, x) ≡ option_map range_in (first_entry L) → Some (r, y) ≡ option_map range_in (first_entry R) → y <ℤ l → t +ℤ pos 1 ≡ l → L' ≡ L → R' ≡ after t R → IsTaken eq choose L L' R R' r t None
right_gone eqa eqb eq choose nothing l x r y t [] L' R R' ca cb p q u is left_is right_is = cc
right_gone eqa eqb eq choose nothing l x r y t (e ∷ es) L' [] R' ca cb p q u is left_is right_is = cc
right_gone eqa eqb eq choose nothing l x r y t (e ∷ es) L' (f ∷ fs) R' ca cb p q u is left_is right_is =
    let left = ends e l x p in
    let right = ends f r y q in
    nothing_to eq choose r t (e ∷ es) L' (f ∷ fs) R'
    (lesser_exchanged (Some e.lo) (Some f.lo) ∙ lesser_first f.lo (Some e.lo) (omega (arith, ints, cb.0, right.1, u, left.0)) ∙ ap (λ z. Some z) right.0)
    (omega (arith, ints, cb.0, right.0, right.1, u, is))
    (λ k h. ap (λ o. choose o (at (f ∷ fs) k)) (at_first eqa e es k ca (omega (arith, ints, h, is, left.0))) ∙ nothing (at (f ∷ fs) k))
    (left_is ∙ sym (after_keeps t e es (omega (arith, ints, is, ca.0, left.0)) (omega (arith, ints, is, left.0)))) right_is

module _ {A B : Type 0} where
  pub none_with : (y : Option B) → left_with_right {A = A} None y ≡ None
  none_with None = refl
  none_with (Some y) = refl

  module _ (eqa : A → A → Bool) (eqb : B → B → Bool) where
    module _ (e : Entry A) (es : List (Entry A)) (f : Entry B) (fs : List (Entry B)) (ca : IsCanonical eqa (e ∷ es)) (cb : IsCanonical eqb (f ∷ fs)) where
      -- nothing is chosen before both ranges have started
      none_before : (k : ℤ) → k <ℤ int_max f.lo e.lo → chosen_at left_with_right (e ∷ es) (f ∷ fs) k ≡ None
      none_before k l = by_lt_z k e.lo
          (λ h. ap (λ x. left_with_right x (at (f ∷ fs) k)) (at_first eqa e es k ca h) ∙ none_with (at (f ∷ fs) k))
          (λ h. ap (left_with_right (at (e ∷ es) k)) (at_first eqb f fs k cb (grind (arith, ints, l, h))))

      -- the left value is chosen on the keys that both ranges contain
      chosen_inside : (k : ℤ) → int_max f.lo e.lo ≤ℤ k → k ≤ℤ int_min f.hi e.hi → chosen_at left_with_right (e ∷ es) (f ∷ fs) k ≡ Some e.value
      chosen_inside k l h =
          ap (λ x. left_with_right x (at (f ∷ fs) k)) (at_in e es k (grind (arith, ints, l)) (grind (arith, ints, h)))
          ∙ ap (left_with_right (Some e.value)) (at_in f fs k (grind (arith, ints, l)) (grind (arith, ints, h)))

    -- the left list skips the keys below the right one
    pub left_gone : (l x r y t : ℤ) (L L' : List (Entry A)) (R : List (Entry B)) → IsCanonical eqa L → IsCanonical eqb R → Some (l, x) ≡ option_map range_in (first_entry L) → Some (r, y) ≡ option_map range_in (first_entry R) → x <ℤ r → t +ℤ pos 1 ≡ r → L' ≡ after t L
        → IsTaken eqa left_with_right L L' R R l t None
    left_gone l x r y t [] L' R ca cb p q u is left_is = cc
    left_gone l x r y t (e ∷ es) L' [] ca cb p q u is left_is = cc
    left_gone l x r y t (e ∷ es) L' (f ∷ fs) ca cb p q u is left_is =
        let left = ends e l x p in
        let right = ends f r y q in
        nothing_to eqa left_with_right l t (e ∷ es) L' (f ∷ fs) (f ∷ fs)
        (lesser_first e.lo (Some f.lo) (omega (arith, ints, ca.0, left.1, u, right.0)) ∙ ap (λ z. Some z) left.0)
        (omega (arith, ints, ca.0, left.0, left.1, u, is))
        (λ k h. none_before e es f fs ca cb k (grind (arith, ints, h, is, right.0)))
        left_is (sym (after_keeps t f fs (omega (arith, ints, is, cb.0, right.0)) (omega (arith, ints, is, right.0))))

    module _ (l x r y first end : ℤ) (first_is : first ≡ int_max r l) (end_is : end ≡ int_min y x) where
      in_order : l ≤ℤ x → r ≤ℤ y → r ≤ℤ x → l ≤ℤ y → first ≤ℤ end
      in_order a b u v = grind (arith, ints, first_is, end_is, a, b, u, v)

      -- if neither range ends below the other, the left one contains the last shared key
      pub left_has : (L : List (Entry A)) (R : List (Entry B)) → IsCanonical eqa L → IsCanonical eqb R → Some (l, x) ≡ option_map range_in (first_entry L) → Some (r, y) ≡ option_map range_in (first_entry R) → r ≤ℤ x → l ≤ℤ y → FirstHas end L
      left_has [] R ca cb p q u v = cc
      left_has (e ∷ es) [] ca cb p q u v = cc
      left_has (e ∷ es) (f ∷ fs) ca cb p q u v =
          let left = ends e l x p in
          (grind (arith, ints, end_is, left.0, left.1, ca.0, v), grind (arith, ints, end_is, left.1))

      -- the right list's first range does not end below the last shared key
      pub right_reaches : (R : List (Entry B)) → Some (r, y) ≡ option_map range_in (first_entry R) → Reaches end R
      right_reaches [] q = tt
      right_reaches (f ∷ fs) q = let right = ends f r y q in grind (arith, ints, end_is, right.1)

      pub shared_taken : (L L' : List (Entry A)) (R R' : List (Entry B)) (value : Option A) → IsCanonical eqa L → IsCanonical eqb R → Some (l, x) ≡ option_map range_in (first_entry L) → Some (r, y) ≡ option_map range_in (first_entry R) → r ≤ℤ x → l ≤ℤ y → SameOption eqa (at L end) value → L' ≡ after end L → R' ≡ after end R
          → IsTaken eqa left_with_right L L' R R' first end value
      shared_taken [] L' R R' value ca cb p q c d alike left_is right_is = cc
      shared_taken (e ∷ es) L' [] R' value ca cb p q c d alike left_is right_is = cc
      shared_taken (e ∷ es) L' (f ∷ fs) R' value ca cb p q c d alike left_is right_is =
          let left = ends e l x p in
          let right = ends f r y q in
          let first_at : first ≡ int_max f.lo e.lo = first_is ∙ ap (λ z. int_max z l) (sym right.0) ∙ ap (int_max f.lo) (sym left.0) in
          let u = in_order (omega (arith, ints, ca.0, left.0, left.1)) (omega (arith, ints, cb.0, right.0, right.1)) c d in
          let end_at : end ≡ int_min f.hi e.hi = end_is ∙ ap (λ z. int_min z x) (sym right.1) ∙ ap (int_min f.hi) (sym left.1) in
          let inside : (k : ℤ) → first ≤ℤ k → k ≤ℤ end → chosen_at left_with_right (e ∷ es) (f ∷ fs) k ≡ Some e.value = λ k a b. chosen_inside e es f fs ca cb k (subst (λ z. z ≤ℤ k) first_at a) (subst (λ z. k ≤ℤ z) end_at b) in
          let here = inside first (omega (arith, ints)) u in
          let start : e.lo ≤ℤ first = subst (λ z. e.lo ≤ℤ z) (sym first_at) (at_most_max f.lo e.lo) in
          let stop : end ≤ℤ e.hi = subst (λ z. z ≤ℤ e.hi) (sym end_at) (min_at_most f.hi e.hi) in
          record {
            start = cond (int_le e.lo f.lo) e.lo f.lo;
            starts = refl;
            from = by_lt_z f.lo e.lo
                (λ b. rw (le_false e.lo f.lo b) (omega (arith, ints, start)))
                (λ b. rw (le_true e.lo f.lo b) start);
            order = u;
            none = λ k a b. none_before e es f fs ca cb k (subst (λ z. k <ℤ z) first_at b);
            same = λ k a b. inside k a b ∙ sym here;
            alike = same_along eqa (at_in e es end (omega (arith, ints, u, start)) stop ∙ sym here) refl alike;
            left_is = left_is;
            right_is = right_is;
          }

    -- if one list is empty, nothing is chosen
    pub nothing_shared : (L : List (Entry A)) (R : List (Entry B)) → (None ≡ option_map range_in (first_entry L)) ⊎ (None ≡ option_map range_in (first_entry R)) → (k : ℤ) → chosen_at left_with_right L R k ≡ None
    nothing_shared [] R n k = none_with (at R k)
    nothing_shared (e ∷ es) [] n k = without_right (at (e ∷ es) k)
      where
        without_right : (x : Option A) → left_with_right {B = B} x None ≡ None
        without_right None = refl
        without_right (Some x) = refl
    nothing_shared (e ∷ es) (f ∷ fs) n k = ⊎_elim (λ q. cc) (λ q. cc) n
