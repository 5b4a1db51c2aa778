-- The first piece of two lists.
use Rattle.blaze_streams.proofs.Words.{◌≡◌, ℤ, pos, ◌+ℤ◌, ◌≤ℤ◌, ◌<ℤ◌, Bool, List, [], ◌∷◌, Option, Some, None, refl, ◌∙◌, sym, subst, ap, arith, int_min, option_map, option_xor, ints, range_in, first_entry, same_along, same_none, Entry, at, SameOption, IsCanonical, left_alone, after, at_in, after_keeps, IsTaken, IsTakenAlone, first_key, FirstHas, Reaches, lesser}
use Rattle.blaze_streams.proofs.ChosenSoFar.{chosen_at, none_there}
use Rattle.blaze_streams.proofs.Lesser.{at_most_less, lesser_exchanged, lesser_first, not_less}
use Rattle.blaze_streams.proofs.Steady.{AtMost, at_below_from, from_first}

-- an entry's ends, from the values of the code
pub ends : {C : Type 0} (e : Entry C) (l x : ℤ) → Some (l, x) ≡ Some (range_in e) → (e.lo ≡ l) × (e.hi ≡ x)
ends e l x p =
    let same : range_in e ≡ (l, x) = cc in
    (ap (λ (r : ℤ × ℤ). r.0) same, ap (λ (r : ℤ × ℤ). r.1) same)

pub at_most_min : (a b t : ℤ) → t ≡ int_min b a → (t ≤ℤ a) × (t ≤ℤ b)
at_most_min a b t p = (grind (arith, ints, p), grind (arith, ints, p))

over_min : (a b t s : ℤ) → t ≡ int_min b a → s ≤ℤ a → s ≤ℤ b → s ≤ℤ t
over_min a b t s p l h = grind (arith, ints, p, l, h)

-- a key from l to x, below the first key of the list
abbrev pub IsEndBefore : {A : Type 0} → ℤ → ℤ → ℤ → List (Entry A) → Type 0
IsEndBefore l x t R = (l ≤ℤ t) × (t ≤ℤ x) × AtMost (t +ℤ pos 1) (first_key R)

-- from the first key of two lists to a key up to which the choice is the same
pub taken_to : {A B V : Type 0} (eq : V → V → Bool) (choose : Option A → Option B → Option V) (L L' : List (Entry A)) (R R' : List (Entry B)) (s t : ℤ) (value : Option V)
    → lesser (first_key L) (first_key R) ≡ Some s → s ≤ℤ t → ((k : ℤ) → s ≤ℤ k → k ≤ℤ t → chosen_at choose L R k ≡ chosen_at choose L R s) → SameOption eq (chosen_at choose L R s) value → L' ≡ after t L → R' ≡ after t R → IsTaken eq choose L L' R R' s t value
taken_to eq choose L L' R R' s t value starts order same alike left_is right_is = record {
  start = s;
  starts = starts;
  from = omega (arith, ints);
  order = order;
  none = λ k l h. absurd (omega (arith, ints));
  same = same;
  alike = alike;
  left_is = left_is;
  right_is = right_is;
}

-- the value of the only list that has one is chosen
module _ {A B : Type 0} (eq : A → A → Bool) (L L' : List (Entry A)) (R : List (Entry B)) (s t : ℤ) (value : Option A) (taken : IsTakenAlone eq L L' R s t value) where
  pub left_taken : (choose : Option A → Option B → Option A) → ((x : Option A) → choose x None ≡ x) → IsTaken eq choose L L' R R s t value
  left_taken choose is =
      let here : (k : ℤ) → k ≤ℤ t → chosen_at choose L R k ≡ at L k = λ k h. ap (choose (at L k)) (taken.alone k h) ∙ is (at L k) in
      taken_to eq choose L L' R R s t value taken.starts taken.order
      (λ k l h. here k h ∙ taken.same k l h ∙ sym (here s taken.order))
      (same_along eq (sym (here s taken.order)) refl taken.alike) taken.list_is taken.other_is

  -- the value of the only list that has one is chosen, where that list is the right one
  pub right_taken : (choose : Option B → Option A → Option A) → ((x : Option A) → choose None x ≡ x) → (R' : List (Entry B)) → R ≡ R' → IsTaken eq choose R' R L L' s t value
  right_taken choose is R' p =
      let here : (k : ℤ) → k ≤ℤ t → chosen_at choose R L k ≡ at L k = λ k h. ap (λ o. choose o (at L k)) (taken.alone k h) ∙ is (at L k) in
      subst (λ l. IsTaken eq choose l R L L' s t value) p
      (taken_to eq choose R R L L' s t value (lesser_exchanged (first_key R) (first_key L) ∙ taken.starts) taken.order
      (λ k l h. here k h ∙ taken.same k l h ∙ sym (here s taken.order))
      (same_along eq (sym (here s taken.order)) refl taken.alike) taken.other_is taken.list_is)

-- a range reaches as far as its end
pub reaches_end : {A : Type 0} (l x : ℤ) (L : List (Entry A)) (t : ℤ) → Some (l, x) ≡ option_map range_in (first_entry L) → t ≤ℤ x → Reaches t L
reaches_end l x [] t p h = tt
reaches_end l x (e ∷ es) t p h = omega (arith, ints, (ends e l x p).1, h)

module _ {A B : Type 0} (eqa : A → A → Bool) (eqb : B → B → Bool) (l x : ℤ) where
  -- the part of a list's first range below the first key of the other list
  pub taken_alone : (L L' : List (Entry A)) (R : List (Entry B)) (t : ℤ) (value : Option A) → IsCanonical eqa L → IsCanonical eqb R
      → Some (l, x) ≡ option_map range_in (first_entry L) → IsEndBefore l x t R → SameOption eqa (at L t) value → L' ≡ after t L → IsTakenAlone eqa L L' R l t value
  taken_alone [] L' R t value ca cb p end alike list_is = cc
  taken_alone (e ∷ es) L' R t value ca cb p (order, stop, above) alike list_is =
      let is = ends e l x p in
      let there : (k : ℤ) → l ≤ℤ k → k ≤ℤ t → at (e ∷ es) k ≡ Some e.value = λ k a b. at_in e es k (omega (arith, ints, is.0)) (omega (arith, ints, is.1)) in
      let here = there l (omega (arith, ints)) order in
      record {
        starts = ap (λ z. lesser (Some z) (first_key R)) is.0 ∙ lesser_first l (first_key R) (at_most_less l (t +ℤ pos 1) (first_key R) (omega (arith, ints)) above);
        order = order;
        same = λ k a b. there k a b ∙ sym here;
        alike = same_along eqa (there t order (omega (arith, ints)) ∙ sym here) refl alike;
        alone = λ k h. at_below_from eqb R (t +ℤ pos 1) k cb (from_first (t +ℤ pos 1) R above) (omega (arith, ints));
        list_is = list_is;
        other_is = kept R cb above;
      }
    where
      kept : (R : List (Entry B)) → IsCanonical eqb R → AtMost (t +ℤ pos 1) (first_key R) → R ≡ after t R
      kept [] c a = refl
      kept (f ∷ fs) c a = sym (after_keeps t f fs (omega (arith, ints, c.0)) (omega (arith, ints)))

  -- if the other list is empty, the first range is taken whole
  pub end_whole : (L : List (Entry A)) (R : List (Entry B)) (t : ℤ) → IsCanonical eqa L → Some (l, x) ≡ option_map range_in (first_entry L) → None ≡ first_key R → t ≡ x → IsEndBefore l x t R
  end_whole [] R t c p q is = cc
  end_whole (e ∷ es) R t c p q is =
      let here = ends e l x p in
      (omega (arith, ints, c.0, here.0, here.1, is), omega (arith, ints, is), subst (AtMost (t +ℤ pos 1)) q tt)

  -- otherwise it is taken up to the key before the other list's first key, which is b
  pub end_bounded : (L : List (Entry A)) (R : List (Entry B)) (b p t : ℤ) → IsCanonical eqa L → Some (l, x) ≡ option_map range_in (first_entry L) → Some b ≡ first_key R → l <ℤ b → p +ℤ pos 1 ≡ b → t ≡ int_min p x → IsEndBefore l x t R
  end_bounded [] R b p t c q r above before is = cc
  end_bounded (e ∷ es) R b p t c q r above before is =
      let here = ends e l x q in
      let stop = at_most_min x p t is in
      let under : (t +ℤ pos 1) ≤ℤ b = omega (arith, ints, stop.1, before) in
      (over_min x p t l is (omega (arith, ints, c.0, here.0, here.1)) (omega (arith, ints, above, before)), stop.0, subst (AtMost (t +ℤ pos 1)) r under)

  pub has_end : (L : List (Entry A)) (R : List (Entry B)) (t : ℤ) → Some (l, x) ≡ option_map range_in (first_entry L) → IsEndBefore l x t R → FirstHas t L
  has_end [] R t p end = cc
  has_end (e ∷ es) R t p end = let here = ends e l x p in (omega (arith, ints, here.0, end.0), omega (arith, ints, here.1, end.1))

-- If the right list starts no later than the left one, its first range is taken whole. There the left value must not
-- affect the choice.
pub right_first_taken : {A B V : Type 0} (eqb : B → B → Bool) (eq : V → V → Bool) (choose : Option A → Option B → Option V) (L L' : List (Entry A)) (R R' : List (Entry B)) (r y : ℤ) (value : Option V)
    → IsCanonical eqb R → lesser (first_key R) (first_key L) ≡ first_key R → Some (r, y) ≡ option_map range_in (first_entry R)
    → ((o p : Option A) (v : B) → choose o (Some v) ≡ choose p (Some v)) → ((v : B) → at R y ≡ Some v → SameOption eq (choose (at L r) (Some v)) value) → L' ≡ after y L → R' ≡ after y R → IsTaken eq choose L L' R R' r y value
right_first_taken eqb eq choose L L' [] R' r y value c first p decided alike left_is right_is = cc
right_first_taken eqb eq choose L L' (f ∷ fs) R' r y value c first p decided alike left_is right_is =
    let is = ends f r y p in
    let order : r ≤ℤ y = omega (arith, ints, c.0, is.0, is.1) in
    let there : (k : ℤ) → r ≤ℤ k → k ≤ℤ y → at (f ∷ fs) k ≡ Some f.value = λ k a b. at_in f fs k (omega (arith, ints, is.0)) (omega (arith, ints, is.1)) in
    let here = there r (omega (arith, ints)) order in
    taken_to eq choose L L' (f ∷ fs) R' r y value (lesser_exchanged (first_key L) (Some f.lo) ∙ first ∙ ap (λ z. Some z) is.0) order
    (λ k a b. ap (choose (at L k)) (there k a b) ∙ decided (at L k) (at L r) f.value ∙ sym (ap (choose (at L r)) here))
    (same_along eq (sym (ap (choose (at L r)) here)) refl (alike f.value (there y order (omega (arith, ints))))) left_is right_is

-- a value of both lists is not chosen, if the choice requires exactly one
pub both_skipped : {A : Type 0} (eq : A → A → Bool) (L L' R R' : List (Entry A)) (l x r y t : ℤ) → IsCanonical eq L → IsCanonical eq R → t ≡ int_min y x
    → lesser (first_key R) (first_key L) ≡ first_key R → lesser (first_key L) (first_key R) ≡ first_key L → Some (l, x) ≡ option_map range_in (first_entry L) → Some (r, y) ≡ option_map range_in (first_entry R) → L' ≡ after t L → R' ≡ after t R → IsTaken eq option_xor L L' R R' l t None
both_skipped eq [] L' R R' l x r y t ca cb end_is n m p q left_is right_is = cc
both_skipped eq (e ∷ es) L' [] R' l x r y t ca cb end_is n m p q left_is right_is = cc
both_skipped eq (e ∷ es) L' (f ∷ fs) R' l x r y t ca cb end_is n m p q left_is right_is =
    let left = ends e l x p in
    let right = ends f r y q in
    let same : e.lo ≡ f.lo = omega (arith, ints, not_less f.lo e.lo n, not_less e.lo f.lo m) in
    let stop = at_most_min x y t end_is in
    let order : l ≤ℤ t = over_min x y t l end_is (omega (arith, ints, ca.0, left.0, left.1)) (omega (arith, ints, cb.0, same, left.0, right.1)) in
    let none : (k : ℤ) → l ≤ℤ k → k ≤ℤ t → chosen_at option_xor (e ∷ es) (f ∷ fs) k ≡ None = λ k a b.
    ap (λ o. option_xor o (at (f ∷ fs) k)) (at_in e es k (omega (arith, ints, left.0)) (omega (arith, ints, left.1, stop.0)))
    ∙ ap (option_xor (Some e.value)) (at_in f fs k (omega (arith, ints, same, left.0)) (omega (arith, ints, right.1, stop.1))) in
    let here = none l (omega (arith, ints)) order in
    taken_to eq option_xor (e ∷ es) L' (f ∷ fs) R' l t None (m ∙ ap (λ z. Some z) left.0) order (λ k a b. none k a b ∙ sym here) (same_none eq _ here) left_is right_is

-- if the right list starts no later than the left one and is empty, nothing is chosen
pub nothing_left : {A B V : Type 0} (choose : Option A → Option B → Option V) → choose None None ≡ None → (L : List (Entry A)) (R : List (Entry B)) → lesser (first_key R) (first_key L) ≡ first_key R → None ≡ option_map range_in (first_entry R) → (k : ℤ) → chosen_at choose L R k ≡ None
nothing_left choose nothing L [] n p k = ap (λ o. choose o None) (none_there L k n) ∙ nothing
nothing_left choose nothing L (f ∷ fs) n p k = cc

pub none_alone : {A B : Type 0} (o : Option B) → left_alone {A = A} None o ≡ None
none_alone None = refl
none_alone (Some v) = refl

-- if the left list is empty, it is the only list with a value at no key
pub nothing_alone : {A B : Type 0} (L : List (Entry A)) (R : List (Entry B)) → None ≡ option_map range_in (first_entry L) → (k : ℤ) → chosen_at left_alone L R k ≡ None
nothing_alone [] R p k = none_alone (at R k)
nothing_alone (e ∷ es) R p k = cc

pub none_xor : {A : Type 0} (x : Option A) → option_xor None x ≡ x
none_xor None = refl
none_xor (Some v) = refl

pub xor_none : {A : Type 0} (x : Option A) → option_xor x None ≡ x
xor_none None = refl
xor_none (Some x) = refl
