-- The choice from two streams so far, and one more piece.
use Rattle.blaze_streams.proofs.Words.{option_or, ◌≡◌, ℤ, pos, ◌+ℤ◌, ◌-ℤ◌, ◌≤ℤ◌, ◌<ℤ◌, Bool, List, [], ◌∷◌, Option, Some, None, refl, ◌∙◌, sym, ap, arith, ⊎_elim, IsEquivalence, ints, by_lt_z, same_along, same_itself, same_trans, same_or_left, same_or_right, same_back, or_assoc, or_none, none_or, Entry, entry, at, SameOption, IsCanonical, AreKeys, IsChosen, glue, after, IsBelow, are_keys_glue, IsAbove, at_in, at_under, at_over, glue-nil, one_per_run, canonical_glue, at_glue, below_glue, below_more, above_after, at-after_over, IsTaken, PutsValue, PutsAlike, first_key, IsFrom, lesser, chosen}
use Rattle.blaze_streams.proofs.Steady.{same_some, from_first, at_below_from, at-after_under}
use Rattle.blaze_streams.proofs.Lesser.{at_most_both, at_most_itself, lesser_one, some_lesser}

-- a list without a first key has no values
pub none_there : {A : Type 0} (es : List (Entry A)) (k : ℤ) → first_key es ≡ None → at es k ≡ None
none_there [] k p = refl
none_there (e ∷ es) k p = cc

-- if two lists together have no first key, neither has one
pub no_first : (p q : Option ℤ) → lesser p q ≡ None → (p ≡ None) × (q ≡ None)
no_first None q n = (refl, n)
no_first (Some a) q n = absurd (some_lesser a q n)

pub first_above : {A : Type 0} (t s : ℤ) (es : List (Entry A)) → first_key (after t es) ≡ Some s → t <ℤ s
first_above {A} t s es p = above (after t es) (above_after t es) p
  where
    above : (fs : List (Entry A)) → IsAbove t fs → first_key fs ≡ Some s → t <ℤ s
    above [] a q = cc
    above (f ∷ fs) a q = let u : f.lo ≡ s = same_some f.lo s q in omega (arith, ints, a)

module _ {A B : Type 0} where
  -- no range of two lists starts below their first key
  pub both_from : (s : ℤ) (L : List (Entry A)) (R : List (Entry B)) → lesser (first_key L) (first_key R) ≡ Some s → IsFrom s L × IsFrom s R
  both_from s L R starts = let m = at_most_both (first_key L) (first_key R) s (at_most_itself _ s starts) in (from_first s L m.0, from_first s R m.1)

module _ {V : Type 0} (eq : V → V → Bool) (laws : IsEquivalence eq) where
  -- no value before equal values
  nothing_before : (a b c : Option V) → a ≡ None → b ≡ c → SameOption eq (option_or a b) c
  nothing_before a b c p q = same_along eq (sym (ap (λ z. option_or z b) p ∙ none_or b ∙ q)) refl (same_itself eq laws c)

  -- no value after equal values
  nothing_after : (a b c : Option V) → b ≡ None → SameOption eq a c → SameOption eq (option_or a b) c
  nothing_after a b c p s = same_along eq (sym (ap (option_or a) p ∙ or_none a)) refl s

-- the lesser of two keys, from equal keys of the code
pub lesser_is : (p q p' q' : Option ℤ) (s : ℤ) → Some s ≡ lesser p q → p ≡ p' → q ≡ q' → lesser p' q' ≡ Some s
lesser_is p q p' q' s e f g = cc

-- the choice between the values of two lists at a key
abbrev pub chosen_at : {A B V : Type 0} → (Option A → Option B → Option V) → List (Entry A) → List (Entry B) → ℤ → Option V
chosen_at choose L R k = choose (at L k) (at R k)

-- the list has the choice from two lists so far, where L and R remain
pub record IsChosenSoFar {A B V : Type 0} (eq : V → V → Bool) (low high : ℤ) (choose : Option A → Option B → Option V) (left : List (Entry A)) (right : List (Entry B)) (L : List (Entry A)) (R : List (Entry B)) (out : List (Entry V)) : Type 0 where
  pub canonical : IsCanonical eq out
  pub keys : AreKeys low high out
  pub under : (s : ℤ) → lesser (first_key L) (first_key R) ≡ Some s → IsBelow s out
  pub content : (k : ℤ) → SameOption eq (option_or (at out k) (chosen_at choose L R k)) (chosen_at choose left right k)

-- the piece that is appended to the list, for the keys from s to t
record IsPiece {A B V : Type 0} (eq : V → V → Bool) (low high : ℤ) (choose : Option A → Option B → Option V) (L L' : List (Entry A)) (R R' : List (Entry B)) (s t : ℤ) (piece : List (Entry V)) : Type 0 where
  pub canonical : IsCanonical eq piece
  pub keys : AreKeys low high piece
  pub above : IsAbove (s -ℤ pos 1) piece
  pub below : IsBelow (t +ℤ pos 1) piece
  pub content : (k : ℤ) → SameOption eq (option_or (at piece k) (chosen_at choose L' R' k)) (chosen_at choose L R k)

module _ {A B V : Type 0} (eq : V → V → Bool) (laws : IsEquivalence eq) (low high : ℤ) (choose : Option A → Option B → Option V) where
  pub chosen_none : (L : List (Entry A)) (R : List (Entry B)) → IsChosenSoFar eq low high choose L R L R []
  chosen_none L R = record {
    canonical = tt;
    keys = tt;
    under = λ s f. tt;
    content = λ k. nothing_before eq laws None (chosen_at choose L R k) (chosen_at choose L R k) refl refl;
  }

  -- if the choice has no value on the remaining keys, the list is complete
  pub chosen_all : (left L : List (Entry A)) (right R : List (Entry B)) (out : List (Entry V)) → IsChosenSoFar eq low high choose left right L R out → ((k : ℤ) → chosen_at choose L R k ≡ None) → IsChosen eq low high choose left right out
  chosen_all left L right R out c none =
      chosen (record { runs = one_per_run eq laws out c.canonical; keys = c.keys }) (λ k. same_along eq (ap (option_or (at out k)) (none k) ∙ or_none (at out k)) refl (c.content k))

  module _ (eqa : A → A → Bool) (eqb : B → B → Bool) (nothing : choose None None ≡ None) (L L' : List (Entry A)) (R R' : List (Entry B)) (f t : ℤ) (value : Option V) (ca : IsCanonical eqa L) (cb : IsCanonical eqb R) (taken : IsTaken eq choose L L' R R' f t value) where
    none_under : (k : ℤ) → k <ℤ f → chosen_at choose L R k ≡ None
    none_under k l = by_lt_z k taken.start
        (λ h. let from = both_from taken.start L R taken.starts in ap (λ x. choose x (at R k)) (at_below_from eqa L taken.start k ca from.0 h) ∙ ap (choose None) (at_below_from eqb R taken.start k cb from.1 h) ∙ nothing)
        (λ h. taken.none k h l)

    none_after : (k : ℤ) → k ≤ℤ t → chosen_at choose L' R' k ≡ None
    none_after k h =
        rw (taken.left_is, taken.right_is)
        (ap (λ x. choose x (at (after t R) k)) (at-after_under eqa t k L ca h) ∙ ap (choose None) (at-after_under eqb t k R cb h) ∙ nothing)

    same_over : (k : ℤ) → t <ℤ k → chosen_at choose L' R' k ≡ chosen_at choose L R k
    same_over k l =
        rw (taken.left_is, taken.right_is)
        (ap (λ x. choose x (at (after t R) k)) (at-after_over eqa t k L ca l) ∙ ap (choose (at L k)) (at-after_over eqb t k R cb l))

    -- a piece has the choice at f on the keys from f to t, and no value elsewhere
    piece_content : (piece : List (Entry V)) → ((k : ℤ) → k <ℤ f → at piece k ≡ None) → ((k : ℤ) → t <ℤ k → at piece k ≡ None) → ((k : ℤ) → f ≤ℤ k → k ≤ℤ t → SameOption eq (at piece k) (chosen_at choose L R f))
        → (k : ℤ) → SameOption eq (option_or (at piece k) (chosen_at choose L' R' k)) (chosen_at choose L R k)
    piece_content piece under over here k = by_lt_z k f
        (λ l. nothing_before eq laws (at piece k) _ (chosen_at choose L R k) (under k l) (none_after k (omega (arith, ints, taken.order)) ∙ sym (none_under k l)))
        (λ l. by_lt_z t k
        (λ h. nothing_before eq laws (at piece k) _ (chosen_at choose L R k) (over k h) (same_over k h))
        (λ h. nothing_after eq laws (at piece k) _ (chosen_at choose L R k) (none_after k h) (same_along eq {a = at piece k} refl (sym (taken.same k l h)) (here k l h))))

    piece_of : (o : Option V) (out new : List (Entry V)) → low ≤ℤ f → t ≤ℤ high → SameOption eq (chosen_at choose L R f) o → PutsValue eq f t o out new → (piece : List (Entry V)) × (new ≡ glue eq out piece) × IsPiece eq low high choose L L' R R' taken.start t piece
    piece_of None out new w u alike p = (
      [],
      p ∙ sym (glue-nil eq laws out),
      record {
        canonical = tt;
        keys = tt;
        above = tt;
        below = tt;
        content = piece_content [] (λ k l. refl) (λ k l. refl) (λ k l h. same_back eq laws _ None alike);
      },
    )
    piece_of (Some v) out new w u alike p =
        let e = entry f t v in (
          e ∷ [],
          p,
          record {
            canonical = (taken.order, tt, tt);
            keys = (w, u, tt);
            above = omega (arith, ints, taken.from);
            below = (omega (arith, ints), tt);
            content = piece_content (e ∷ []) (λ k l. at_under e [] k l) (λ k l. at_over e [] k l)
                (λ k l h. same_along eq {a = Some v} (sym (at_in e [] k l h)) refl (same_back eq laws _ (Some v) alike));
          },
        )

  module _ (eqa : A → A → Bool) (eqb : B → B → Bool) (nothing : choose None None ≡ None) (left L L' : List (Entry A)) (right R R' : List (Entry B)) (out new : List (Entry V)) (f t : ℤ) (value : Option V) (ca : IsCanonical eqa L) (cb : IsCanonical eqb R) (taken : IsTaken eq choose L L' R R' f t value) where
    more_of : (piece : List (Entry V)) → IsChosenSoFar eq low high choose left right L R out → IsPiece eq low high choose L L' R R' taken.start t piece → IsChosenSoFar eq low high choose left right L' R' (glue eq out piece)
    more_of piece c p =
        let s = taken.start in
        let under = c.under s taken.starts in
        let below = below_glue eq (t +ℤ pos 1) out piece (below_more s (t +ℤ pos 1) out (omega (arith, ints, taken.from, taken.order)) under) p.below in
        record {
          canonical = canonical_glue eq laws (s -ℤ pos 1) out piece c.canonical p.canonical (below_more s (s -ℤ pos 1 +ℤ pos 1) out (omega (arith, ints)) under) p.above;
          keys = are_keys_glue eq low high out piece c.keys p.keys;
          under = λ r q. let above = ⊎_elim
              (λ e. first_above t r L (sym (ap first_key taken.left_is) ∙ e))
              (λ e. first_above t r R (sym (ap first_key taken.right_is) ∙ e))
              (lesser_one (first_key L') (first_key R') r q) in
              below_more (t +ℤ pos 1) r (glue eq out piece) (omega (arith, ints)) below;
          content = λ k. let rest = chosen_at choose L' R' k in
              same_trans eq laws _ (option_or (option_or (at out k) (at piece k)) rest) _
              (same_or_left eq laws (at (glue eq out piece) k) (option_or (at out k) (at piece k)) rest (at_glue eq laws out piece k c.canonical p.canonical))
              (same_along eq (sym (or_assoc (at out k) (at piece k) rest)) refl
              (same_trans eq laws _ (option_or (at out k) (chosen_at choose L R k)) _
              (same_or_right eq laws (at out k) (option_or (at piece k) rest) (chosen_at choose L R k) (p.content k)) (c.content k)));
        }

    -- one more piece, whose value is equal to the taken one
    pub chosen_more : low ≤ℤ f → t ≤ℤ high → PutsAlike eq f t value out new → IsChosenSoFar eq low high choose left right L R out → IsChosenSoFar eq low high choose left right L' R' new
    chosen_more low_is high_is puts c =
        let alike = same_trans eq laws (chosen_at choose L R f) value puts.alike taken.alike puts.same in
        let p = piece_of eqa eqb nothing L L' R R' f t value ca cb taken puts.alike out new low_is high_is alike puts.put in
        rw p.1 (more_of p.0 c p.2)
