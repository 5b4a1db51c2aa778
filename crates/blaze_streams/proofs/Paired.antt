-- The segments of two lists so far, and one more.
use Rattle.blaze_streams.proofs.Words.{◌≡◌, ◌+◌, ◌<◌, ℤ, pos, ◌+ℤ◌, ◌≤ℤ◌, ◌<ℤ◌, Bool, true, false, ◌&&◌, ◌||◌, cond, List, [], ◌∷◌, ◌++◌, Option, Some, None, refl, ◌∙◌, sym, ap, subst, arith, ⊎_elim, option_eq, option_or, is_some, MatchOption, IsEquivalence, first_so, second_so, options_equiv, and_equiv, on_equiv, ints, by_lt_z, append-nil, or_none, or_assoc, Entry, entry, at, SameOption, IsCanonical, AreKeys, IsBelow, after, IsBelow-push, IsAbove-from_apart, at_in, at_under, at_over, at_before, at_append, canonical, one_per_run, below_more, at-after_over, JoinKind, Inner, Left, Full, AreOptions, ArePairsCarried, first_key, steady_to, lesser, is_joined, paired, pair_eq, IsJoinOf, IsNotAsked, piece_of, IsSegmentPut, IsSkipped, EachValue}
use Rattle.blaze_streams.proofs.ChosenSoFar.{both_from, none_there, no_first, first_above}
use Rattle.blaze_streams.proofs.Fewer.{both_less}
use Rattle.blaze_streams.proofs.FoundSegments.{option_same, EndsApart, canonical_push, apart_push}
use Rattle.blaze_streams.proofs.LengthsLeft.{lengths_left}
use Rattle.blaze_streams.proofs.Lesser.{at_most_both, at_most_itself, lesser_one}
use Rattle.blaze_streams.proofs.Steady.{AtMost, at_below_from, at-after_under, starts_there, steady, steady_far, stops_steady, changes}

-- the values of two lists at a key that a join selects
abbrev pub pair_at : {A B : Type 0} → JoinKind → List (Entry A) → List (Entry B) → ℤ → Option (Option A × Option B)
pair_at kind L R k = paired kind (at L k) (at R k)

-- a join does not select a key at which neither list has a value
from_nothing : {A B : Type 0} (kind : JoinKind) → paired {A = A} {B = B} kind None None ≡ None
from_nothing Inner = refl
from_nothing Left = refl
from_nothing Full = refl

none_if : {A B : Type 0} (kind : JoinKind) (x : Option A) (y : Option B) → x ≡ None → y ≡ None → paired kind x y ≡ None
none_if kind x y p q = ap (λ z. paired kind z y) p ∙ ap (paired kind None) q ∙ from_nothing kind

pub or_left : (b c : Bool) → b ≡ true → (b || c) ≡ true
or_left b c p = ap (λ x. x || c) p

or_right : (b c : Bool) → c ≡ true → (b || c) ≡ true
or_right true c p = refl
or_right false c p = p

-- two lists with equal pairs have equal values
same_pair : {A B : Type 0} (eqa : A → A → Bool) (eqb : B → B → Bool) (b c : Bool) (x x' : Option A) (y y' : Option B) (v : Option A × Option B) → cond b (Some (x, y)) None ≡ Some v → SameOption (pair_eq eqa eqb) (Some v) (cond c (Some (x', y')) None) → (option_eq eqa x x' && option_eq eqb y y') ≡ true
same_pair eqa eqb true true x x' y y' v p s = let q : v ≡ (x, y) = cc in subst (λ z. pair_eq eqa eqb z (x', y') ≡ true) q s
same_pair eqa eqb true false x x' y y' v p s = absurd s
same_pair eqa eqb false c x x' y y' v p s = cc

pub pair_laws : {A B : Type 0} (eqa : A → A → Bool) (eqb : B → B → Bool) → IsEquivalence eqa → IsEquivalence eqb → IsEquivalence (pair_eq eqa eqb)
pair_laws eqa eqb lawsa lawsb = and_equiv (on_equiv (λ p. p.0) (options_equiv lawsa)) (on_equiv (λ p. p.1) (options_equiv lawsb))

-- right above the last range of a list two contents are the same
apart_along : {V : Type 0} (eq : V → V → Bool) (out : List (Entry V)) (c d : ℤ → Option V) → ((k : ℤ) → d k ≡ c k) → EndsApart eq out c → EndsApart eq out d
apart_along eq [] c d p a = tt
apart_along eq (e ∷ []) c d p a = λ s. a (subst (SameOption eq (Some e.value)) (p (e.hi +ℤ pos 1)) s)
apart_along eq (e ∷ f ∷ es) c d p a = apart_along eq (f ∷ es) c d p a

module _ {A B : Type 0} (eqa : A → A → Bool) (eqb : B → B → Bool) (low high : ℤ) (kind : JoinKind) where
  -- the list has the segments of two lists so far, where L and R remain
  pub record IsPairedSoFar (left : List (Entry A)) (right : List (Entry B)) (L : List (Entry A)) (R : List (Entry B)) (out : List (Entry (Option A × Option B))) : Type 0 where
    pub canonical : IsCanonical (pair_eq eqa eqb) out
    pub keys : AreKeys low high out
    pub under : (s : ℤ) → lesser (first_key L) (first_key R) ≡ Some s → IsBelow s out
    pub content : (k : ℤ) → pair_at kind left right k ≡ option_or (at out k) (pair_at kind L R k)
    pub apart : EndsApart (pair_eq eqa eqb) out (pair_at kind L R)

  pub paired_none : (L : List (Entry A)) (R : List (Entry B)) → IsPairedSoFar L R L R []
  paired_none L R = record { canonical = tt; keys = tt; under = λ s f. tt; content = λ k. refl; apart = tt }

  module _ (L : List (Entry A)) (R : List (Entry B)) (s t : ℤ) (ca : IsCanonical eqa L) (cb : IsCanonical eqb R) (starts : lesser (first_key L) (first_key R) ≡ Some s) where
    none_under : (k : ℤ) → k <ℤ s → pair_at kind L R k ≡ None
    none_under k l = let from = both_from s L R starts in none_if kind (at L k) (at R k) (at_below_from eqa L s k ca from.0 l) (at_below_from eqb R s k cb from.1 l)

    none_after : (k : ℤ) → k ≤ℤ t → pair_at kind (after t L) (after t R) k ≡ None
    none_after k h = none_if kind (at (after t L) k) (at (after t R) k) (at-after_under eqa t k L ca h) (at-after_under eqb t k R cb h)

    same_over : (k : ℤ) → t <ℤ k → pair_at kind (after t L) (after t R) k ≡ pair_at kind L R k
    same_over k l = ap (λ x. paired kind x (at (after t R) k)) (at-after_over eqa t k L ca l) ∙ ap (paired kind (at L k)) (at-after_over eqb t k R cb l)

    first_left : (r : ℤ) → lesser (first_key (after t L)) (first_key (after t R)) ≡ Some r → t <ℤ r
    first_left r f = ⊎_elim (λ e. first_above t r L e) (λ e. first_above t r R e) (lesser_one (first_key (after t L)) (first_key (after t R)) r f)

    -- if none of the keys from s to t is selected, no segment is missing
    module _ (order : s ≤ℤ t) (none : (k : ℤ) → s ≤ℤ k → k ≤ℤ t → pair_at kind L R k ≡ None) where
      next_none : (k : ℤ) → pair_at kind L R k ≡ pair_at kind (after t L) (after t R) k
      next_none k = by_lt_z t k
          (λ h. sym (same_over k h))
          (λ h. by_lt_z k s
          (λ l. none_under k l ∙ sym (none_after k h))
          (λ l. none k l h ∙ sym (none_after k h)))

      pair_skipped : (left : List (Entry A)) (right : List (Entry B)) (out : List (Entry (Option A × Option B))) → IsPairedSoFar left right L R out → IsPairedSoFar left right (after t L) (after t R) out
      pair_skipped left right out h = record {
        canonical = h.canonical;
        keys = h.keys;
        under = λ r f. below_more s r out (omega (arith, ints, order, first_left r f)) (h.under s starts);
        content = λ k. h.content k ∙ ap (option_or (at out k)) (next_none k);
        apart = apart_along (pair_eq eqa eqb) out (pair_at kind L R) (pair_at kind (after t L) (after t R)) (λ k. sym (next_none k)) h.apart;
      }

    module _ (ends : lesser (steady_to s L) (steady_to s R) ≡ Some t) where
      pub in_order : s ≤ℤ t
      in_order = let from = both_from s L R starts in
          ⊎_elim (λ e. steady_far eqa s t L ca from.0 e) (λ e. steady_far eqb s t R cb from.1 e) (lesser_one (steady_to s L) (steady_to s R) t ends)

      pub same_from : (k : ℤ) → s ≤ℤ k → k ≤ℤ t → pair_at kind L R k ≡ pair_at kind L R s
      same_from k l h =
          let from = both_from s L R starts in
          let to : AtMost t (steady_to s L) × AtMost t (steady_to s R) = at_most_both (steady_to s L) (steady_to s R) t (at_most_itself _ t ends) in
          ap (λ x. paired kind x (at R k)) (steady eqa s t k L ca from.0 to.0 l h) ∙ ap (paired kind (at L s)) (steady eqb s t k R cb from.1 to.1 l h)

      -- at least one of the two lists has the last of these keys
      pub one_there : (is_some (at L t) || is_some (at R t)) ≡ true
      one_there =
          let from = both_from s L R starts in
          let to : AtMost t (steady_to s L) × AtMost t (steady_to s R) = at_most_both (steady_to s L) (steady_to s R) t (at_most_itself _ t ends) in
          ⊎_elim
          (λ e. let there = starts_there eqa s L ca e in or_left (is_some (at L t)) (is_some (at R t)) (ap is_some (steady eqa s t t L ca from.0 to.0 in_order (omega (arith, ints)) ∙ there.1)))
          (λ e. let there = starts_there eqb s R cb e in or_right (is_some (at L t)) (is_some (at R t)) (ap is_some (steady eqb s t t R cb from.1 to.1 in_order (omega (arith, ints)) ∙ there.1)))
          (lesser_one (first_key L) (first_key R) s starts)

      -- if the join does not select the last of these keys, they are skipped
      pub skipped : (carrieda : A → A → Type 0) (carriedb : B → B → Type 0) (out : List (Entry (Option A × Option B))) (L' : List (Entry A)) (R' : List (Entry B)) → low ≤ℤ s → IsSkipped kind t high L L' R R' → IsSegmentPut carrieda carriedb low high kind s L L' R R' out out
      skipped carrieda carriedb out L' R' from m = record {
        end = m.end;
        from = from;
        order = omega (arith, ints, in_order, m.from);
        to = m.to;
        left_is = m.left_is;
        right_is = m.right_is;
        given = None;
        ends = λ k l h. m.none k h;
        carried = subst (λ p. AreOptions (ArePairsCarried carrieda carriedb) p None) (sym (m.none m.end (omega (arith, ints)))) tt;
        put = sym (append-nil out);
      }

      pub not_asked : is_joined kind (at L t) (at R t) ≡ false → IsNotAsked kind (at L t) (at R t)
      not_asked n = record { one = one_there; not_asked = n }

      -- right above t one of the two lists changes
      next_changes : (lawsa : IsEquivalence eqa) (lawsb : IsEquivalence eqb) (v : Option A × Option B) → pair_at kind L R t ≡ Some v → SameOption (pair_eq eqa eqb) (Some v) (pair_at kind (after t L) (after t R) (t +ℤ pos 1)) → ⊥
      next_changes lawsa lawsb v p h =
          let k = t +ℤ pos 1 in
          let same = same_pair eqa eqb (is_joined kind (at L t) (at R t)) (is_joined kind (at L k) (at R k)) (at L t) (at L k) (at R t) (at R k) v p (subst (SameOption (pair_eq eqa eqb) (Some v)) (same_over k (omega (arith, ints))) h) in
          ⊎_elim
          (λ e. changes eqa lawsa L t ca (stops_steady s t L e) (option_same eqa (at L t) (at L k) (first_so (option_eq eqa (at L t) (at L k)) (option_eq eqb (at R t) (at R k)) same)))
          (λ e. changes eqb lawsb R t cb (stops_steady s t R e) (option_same eqb (at R t) (at R k) (second_so (option_eq eqa (at L t) (at L k)) (option_eq eqb (at R t) (at R k)) same)))
          (lesser_one (steady_to s L) (steady_to s R) t ends)

      -- the values after a segment is taken
      next_pair : (v : Option A × Option B) → pair_at kind L R t ≡ Some v → (k : ℤ) → pair_at kind L R k ≡ option_or (at (entry s t v ∷ []) k) (pair_at kind (after t L) (after t R) k)
      next_pair v e k =
          let f = entry s t v in
          let rest = pair_at kind (after t L) (after t R) k in
          by_lt_z t k
          (λ h. sym (same_over k h) ∙ ap (λ z. option_or z rest) (sym (at_over f [] k h)))
          (λ h. by_lt_z k s
          (λ l. none_under k l ∙ sym (none_after k h) ∙ ap (λ z. option_or z rest) (sym (at_under f [] k l)))
          (λ l. same_from k l h ∙ sym (same_from t in_order (omega (arith, ints))) ∙ e ∙ ap (λ z. option_or z rest) (sym (at_in f [] k l h))))

      pair_put : IsEquivalence eqa → IsEquivalence eqb → (left : List (Entry A)) (right : List (Entry B)) (out : List (Entry (Option A × Option B))) → low ≤ℤ s → t ≤ℤ high → (v : Option A × Option B) → pair_at kind L R t ≡ Some v → IsPairedSoFar left right L R out → IsPairedSoFar left right (after t L) (after t R) (out ++ entry s t v ∷ [])
      pair_put lawsa lawsb left right out from to v e h =
          let f = entry s t v in
          let below = h.under s starts in
          record {
            canonical = canonical_push (pair_eq eqa eqb) out f (pair_at kind L R) h.canonical below in_order h.apart (sym (same_from t in_order (omega (arith, ints))) ∙ e);
            keys = keys_push out h.keys;
            under = λ r g. IsBelow-push r out f (below_more s r out (omega (arith, ints, in_order, first_left r g)) below) (first_left r g);
            content = λ k. h.content k ∙ ap (option_or (at out k)) (next_pair v e k) ∙ sym (or_assoc (at out k) (at (f ∷ []) k) (pair_at kind (after t L) (after t R) k)) ∙ ap (λ z. option_or z (pair_at kind (after t L) (after t R) k)) (sym (at_append out (f ∷ []) k));
            apart = apart_push (pair_eq eqa eqb) out f (pair_at kind (after t L) (after t R)) (next_changes lawsa lawsb v e);
          }
        where
          keys_push : (xs : List (Entry (Option A × Option B))) → AreKeys low high xs → AreKeys low high (xs ++ entry s t v ∷ [])
          keys_push [] k = (from, to, tt)
          keys_push (x ∷ xs) k = (k.0, k.1, keys_push xs k.2)

  module _ (carrieda : A → A → Type 0) (carriedb : B → B → Type 0) (left L L' : List (Entry A)) (right R R' : List (Entry B)) (out new : List (Entry (Option A × Option B))) (s : ℤ) (ca : IsCanonical eqa L) (cb : IsCanonical eqb R) (starts : lesser (first_key L) (first_key R) ≡ Some s) (m : IsSegmentPut carrieda carriedb low high kind s L L' R R' out new) where
    -- one more segment
    pub paired_more : (exact : List (Entry (Option A × Option B))) → IsEquivalence eqa → IsEquivalence eqb → IsPairedSoFar left right L R exact → IsPairedSoFar left right L' R' (exact ++ piece_of s m.end (pair_at kind L R m.end))
    paired_more exact lawsa lawsb h = rw (m.left_is, m.right_is) (more_of (pair_at kind L R m.end) m.given refl m.carried m.ends)
      where
        more_of : (p given : Option (Option A × Option B)) → pair_at kind L R m.end ≡ p → AreOptions (ArePairsCarried carrieda carriedb) p given
            → MatchOption given ((k : ℤ) → s ≤ℤ k → k ≤ℤ m.end → pair_at kind L R k ≡ None) (λ _. lesser (steady_to s L) (steady_to s R) ≡ Some m.end)
            → IsPairedSoFar left right (after m.end L) (after m.end R) (exact ++ piece_of s m.end p)
        more_of None None e c ends = rw (append-nil exact) (pair_skipped L R s m.end ca cb starts m.order ends left right exact h)
        more_of None (Some w) e c ends = absurd c
        more_of (Some v) None e c ends = absurd c
        more_of (Some v) (Some w) e c ends = pair_put L R s m.end ca cb starts ends lawsa lawsb left right exact m.from m.to v e h

    pub paired_less : lengths_left L' + lengths_left R' < lengths_left L + lengths_left R
    paired_less = rw (m.left_is, m.right_is) (both_less eqa eqb s m.end L R ca cb starts m.order)

  -- if no key remains, the list has all segments
  pub paired_all : IsEquivalence eqa → IsEquivalence eqb → (left L : List (Entry A)) (right R : List (Entry B)) (out : List (Entry (Option A × Option B))) → IsPairedSoFar left right L R out → lesser (first_key L) (first_key R) ≡ None → IsJoinOf eqa eqb low high kind left right out
  paired_all lawsa lawsb left L right R out h f =
      let n = no_first (first_key L) (first_key R) f in
      record {
        range_map = record { runs = one_per_run (pair_eq eqa eqb) (pair_laws eqa eqb lawsa lawsb) out h.canonical; keys = h.keys };
        content = λ k. sym (h.content k ∙ ap (option_or (at out k)) (none_if kind (at L k) (at R k) (none_there L k n.0) (none_there R k n.1)) ∙ or_none (at out k));
      }

-- ---- each segment is one that the join selects

module _ {A B : Type 0} (eqa : A → A → Bool) (eqb : B → B → Bool) (kind : JoinKind) where
  is_joined_there : (b : Bool) (p v : Option A × Option B) → b ≡ is_joined kind p.0 p.1 → Some v ≡ cond b (Some p) None → is_joined kind v.0 v.1 ≡ true
  is_joined_there true p v q e = let is : v ≡ p = cc in ap (λ z. is_joined kind z.0 z.1) is ∙ sym q
  is_joined_there false p v q e = cc

  joined_each : (es : List (Entry (Option A × Option B))) → IsCanonical (pair_eq eqa eqb) es → ((k : ℤ) (v : Option A × Option B) → at es k ≡ Some v → is_joined kind v.0 v.1 ≡ true) → EachValue (λ p. is_joined kind p.0 p.1 ≡ true) es
  joined_each [] c p = tt
  joined_each (e ∷ es) c p = (
    p e.lo e.value (at_in e es e.lo (omega (arith, ints)) (omega (arith, ints, c.0))),
    joined_each es c.2 (λ k v q. p k v (rest k v q)),
  )
    where
      nothing : (k : ℤ) (v : Option A × Option B) → k ≤ℤ e.hi → at es k ≡ Some v → ⊥
      nothing k v h q = let is = at_before (pair_eq eqa eqb) es e.hi k c.2 (IsAbove-from_apart (pair_eq eqa eqb) e es c.1) h in cc (sym is ∙ q)

      rest : (k : ℤ) (v : Option A × Option B) → at es k ≡ Some v → at (e ∷ es) k ≡ Some v
      rest k v q = by_lt_z e.hi k (λ h. at_over e es k h ∙ q) (λ h. absurd (nothing k v h q))

  pub joined_all : (low high : ℤ) (left : List (Entry A)) (right : List (Entry B)) (segments : List (Entry (Option A × Option B))) → IsEquivalence eqa → IsEquivalence eqb → IsJoinOf eqa eqb low high kind left right segments → EachValue (λ p. is_joined kind p.0 p.1 ≡ true) segments
  joined_all low high left right segments lawsa lawsb j =
      joined_each segments (canonical (pair_eq eqa eqb) (pair_laws eqa eqb lawsa lawsb) segments j.range_map.runs)
      (λ k v q. is_joined_there (is_joined kind (at left k) (at right k)) (at left k, at right k) v refl (sym q ∙ j.content k))
