-- Keys of one list that are skipped, since another list has no value at them.
use Rattle.blaze_streams.proofs.Words.{is_none, ◌≡◌, ℤ, pos, ◌+ℤ◌, ◌≤ℤ◌, Bool, true, false, ◌||◌, List, [], ◌∷◌, Option, Some, None, refl, ◌∙◌, sym, ap, arith, is_some, ints, by_lt_z, Entry, at, IsCanonical, after, at_in, after_keeps, first_key, IsFrom, Reaches, JoinKind, Inner, Left, Full, is_joined, paired, IsLetGo, IsNotAsked, IsSkipped}
use Rattle.blaze_streams.proofs.Steady.{at_first, same_some}

-- a list without a value at a key, whose first range ends at the key or above, starts above the key
pub absent_above : {A : Type 0} (t : ℤ) (es : List (Entry A)) → Reaches t es → at es t ≡ None → IsFrom (t +ℤ pos 1) es
absent_above t [] r n = tt
absent_above t (e ∷ es) r n = by_lt_z t e.lo
    (λ l. omega (arith, ints))
    (λ l. let is : Some e.value ≡ None = sym (at_in e es t l r) ∙ n in cc)

module _ {A B : Type 0} (eq : B → B → Bool) (s high : ℤ) (L L' : List (Entry A)) (R : List (Entry B)) where
  pub let_go_to : (r t : ℤ) → Some r ≡ first_key R → IsCanonical eq R → IsFrom (s +ℤ pos 1) R → r ≤ℤ high → t +ℤ pos 1 ≡ r → L' ≡ after t L → IsLetGo s high L L' R
  let_go_to r t p c from to is list_is = go R p c from
    where
      go : (R : List (Entry B)) → Some r ≡ first_key R → IsCanonical eq R → IsFrom (s +ℤ pos 1) R → IsLetGo s high L L' R
      go [] p c from = cc
      go (f ∷ fs) p c from =
          let lo : r ≡ f.lo = same_some r f.lo p in
          record {
            end = t;
            from = omega (arith, ints, from, lo, is);
            to = omega (arith, ints, is, to);
            alone = λ k h. at_first eq f fs k c (omega (arith, ints, h, is, lo));
            list_is = list_is;
            other_is = sym (after_keeps t f fs (omega (arith, ints, is, lo, c.0)) (omega (arith, ints, is, lo)));
          }

-- ---- the keys that a join does not select

-- If a join does not select a key at which one of two lists has a value, it selects no key without a left value.
left_absent : {A B : Type 0} (kind : JoinKind) (x : Option A) (y : Option B) → is_joined kind x y ≡ false → (is_some x || is_some y) ≡ true → (z : Option B) → paired {A = A} kind None z ≡ None
left_absent Inner x y n one z = refl
left_absent Left x y n one z = refl
left_absent Full x y n one z = let q : false ≡ true = sym n ∙ one in cc

right_absent : {A B : Type 0} (kind : JoinKind) (x : Option A) (y : Option B) → is_joined kind x y ≡ false → is_some x ≡ true → (z : Option A) → paired {B = B} kind z None ≡ None
right_absent Inner x y n there None = refl
right_absent Inner x y n there (Some v) = refl
right_absent Left x y n there z = let q : false ≡ true = sym n ∙ there in cc
right_absent Full x y n there z = let q : false ≡ true = sym n ∙ (ap (λ z. z || is_some y) there) in cc

pub right_none : {A B : Type 0} (kind : JoinKind) (x : Option A) (y : Option B) → is_joined kind x y ≡ false → is_some x ≡ true → y ≡ None
right_none Inner (Some v) y n there = is_none y n
right_none Inner None y n there = cc
right_none Left x y n there = let q : false ≡ true = sym n ∙ there in cc
right_none Full x y n there = let q : false ≡ true = sym n ∙ (ap (λ z. z || is_some y) there) in cc

module _ {A B : Type 0} (kind : JoinKind) (s high : ℤ) (L L' : List (Entry A)) (R R' : List (Entry B)) (n : IsNotAsked kind (at L s) (at R s)) where
  -- if the left list has no value, the right list's keys are skipped
  pub right_let_go : IsLetGo s high R R' L → IsSkipped kind s high L L R R'
  right_let_go m = record {
    end = m.end;
    from = m.from;
    to = m.to;
    none = λ k h. ap (λ x. paired kind x (at R k)) (m.alone k h) ∙ left_absent kind (at L s) (at R s) n.not_asked n.one (at R k);
    left_is = m.other_is;
    right_is = m.list_is;
  }

  -- if the left list has a value, its keys are skipped
  pub left_let_go : is_some (at L s) ≡ true → IsLetGo s high L L' R → IsSkipped kind s high L L' R R
  left_let_go there m = record {
    end = m.end;
    from = m.from;
    to = m.to;
    none = λ k h. ap (paired kind (at L k)) (m.alone k h) ∙ right_absent kind (at L s) (at R s) n.not_asked there (at L k);
    left_is = m.list_is;
    right_is = m.other_is;
  }
