-- The segments of two lists with carried values: those so far, and their relation to the exact ones.
use Rattle.blaze_streams.proofs.Words.{◌≡◌, ℤ, Bool, true, ◌&&◌, cond, List, [], ◌∷◌, ◌++◌, Option, Some, None, refl, ◌∙◌, sym, ap, subst, ⊎_elim, option_eq, is_some, IsEquivalence, append-nil, AllZip-push, AreCloned, Entry, entry, SameEntries, IsCanonical, IsRangeMap, ClonesAreAlike, same_cloned, are_keys_as, canonical, one_per_run, canonical_as, JoinKind, Inner, Left, Full, shown_option, AreOptions, IsItOrCarried, ArePairsCarried, first_key, lesser, is_joined, pair_eq, piece_of, IsJoinOf, IsCarriedJoin, IsSegmentPut}
use Rattle.blaze_streams.proofs.Paired.{pair_at, pair_laws, IsPairedSoFar, paired_none, paired_more, paired_all}

-- ---- a carried value is equal, and a value that is carried as itself is the same

-- a value is equal to itself
pub itself_alike : {V : Type 0} (eq : V → V → Bool) → IsEquivalence eq → ClonesAreAlike (λ v w. w ≡ v) eq
itself_alike eq laws v w p = subst (λ x. eq v x ≡ true) (sym p) (laws.refl v)

options_alike : {V : Type 0} (eq : V → V → Bool) (is_carried : V → V → Type 0) → IsEquivalence eq → ClonesAreAlike is_carried eq → (x y : Option V) → AreOptions (IsItOrCarried is_carried) x y → option_eq eq x y ≡ true
options_alike eq is_carried laws alike None None c = refl
options_alike eq is_carried laws alike None (Some w) c = absurd c
options_alike eq is_carried laws alike (Some v) None c = absurd c
options_alike eq is_carried laws alike (Some v) (Some w) c = ⊎_elim (λ p. itself_alike eq laws v w p) (λ q. alike v w q) c

itself_only : {V : Type 0} (x y : Option V) → AreOptions (IsItOrCarried (λ v w. w ≡ v)) x y → y ≡ x
itself_only None None c = refl
itself_only None (Some w) c = absurd c
itself_only (Some v) None c = absurd c
itself_only (Some v) (Some w) c = ap (λ z. Some z) (⊎_elim (λ p. p) (λ q. q) c)

same_exact : {A B : Type 0} (es fs : List (Entry (Option A × Option B))) → AreCloned (ArePairsCarried (λ v w. w ≡ v) (λ v w. w ≡ v)) es fs → fs ≡ es
same_exact [] [] c = refl
same_exact [] (f ∷ fs) c = absurd c
same_exact (e ∷ es) [] c = absurd c
same_exact (e ∷ es) (f ∷ fs) c =
    ap (λ l. entry l f.hi f.value ∷ fs) c.0.0
    ∙ ap (λ h. entry e.lo h f.value ∷ fs) c.0.1
    ∙ ap (λ x. entry e.lo e.hi (x, f.value.1) ∷ fs) (itself_only e.value.0 f.value.0 c.0.2.0)
    ∙ ap (λ y. entry e.lo e.hi (e.value.0, y) ∷ fs) (itself_only e.value.1 f.value.1 c.0.2.1)
    ∙ ap (λ l. e ∷ l) (same_exact es fs c.1)

-- if each value is carried as itself, the segments are the exact ones
pub exact_join : {A B : Type 0} (eqa : A → A → Bool) (eqb : B → B → Bool) (low high : ℤ) (kind : JoinKind) (left : List (Entry A)) (right : List (Entry B)) (segments : List (Entry (Option A × Option B))) → IsCarriedJoin (λ v w. w ≡ v) (λ v w. w ≡ v) eqa eqb low high kind left right segments → IsJoinOf eqa eqb low high kind left right segments
exact_join eqa eqb low high kind left right segments j = subst (IsJoinOf eqa eqb low high kind left right) (sym (same_exact j.exact segments j.carried)) j.is_join

-- ---- the values of a segment

there_as_shown : {C V : Type 0} (f : C → V) (o : Option C) (x : Option V) → shown_option f o ≡ x → is_some o ≡ is_some x
there_as_shown f None x p = ap is_some p
there_as_shown f (Some c) x p = ap is_some p

-- a join selects values exactly if it selects their carriers
pub joined_as_shown : {C D A B : Type 0} (f : C → A) (g : D → B) (kind : JoinKind) (o : Option C) (p : Option D) (x : Option A) (y : Option B) → shown_option f o ≡ x → shown_option g p ≡ y → is_joined kind o p ≡ is_joined kind x y
joined_as_shown f g Inner o p x y l r = rw (there_as_shown f o x l, there_as_shown g p y r) refl
joined_as_shown f g Left o p x y l r = there_as_shown f o x l
joined_as_shown f g Full o p x y l r = rw (there_as_shown f o x l, there_as_shown g p y r) refl

module _ {A B : Type 0} (carrieda : A → A → Type 0) (carriedb : B → B → Type 0) where
  pub given_there : (b : Bool) (p q : Option A × Option B) → b ≡ true → ArePairsCarried carrieda carriedb p q → AreOptions (ArePairsCarried carrieda carriedb) (cond b (Some p) None) (Some q)
  given_there b p q t c = subst (λ z. AreOptions (ArePairsCarried carrieda carriedb) (cond z (Some p) None) (Some q)) (sym t) c

-- ---- the walk

module _ {A B : Type 0} (carrieda : A → A → Type 0) (carriedb : B → B → Type 0) (eqa : A → A → Bool) (eqb : B → B → Bool) (low high : ℤ) (kind : JoinKind) where
  -- the list has the segments of two lists so far, where L and R remain
  pub record IsCarriedSoFar (left : List (Entry A)) (right : List (Entry B)) (L : List (Entry A)) (R : List (Entry B)) (out : List (Entry (Option A × Option B))) : Type 0 where
    pub exact : List (Entry (Option A × Option B))
    pub so_far : IsPairedSoFar eqa eqb low high kind left right L R exact
    pub carried : AreCloned (ArePairsCarried carrieda carriedb) exact out

  pub carried_none : (L : List (Entry A)) (R : List (Entry B)) → IsCarriedSoFar L R L R []
  carried_none L R = record { exact = []; so_far = paired_none eqa eqb low high kind L R; carried = tt }

  put_piece : (s t : ℤ) (p q : Option (Option A × Option B)) (exact out : List (Entry (Option A × Option B))) → AreOptions (ArePairsCarried carrieda carriedb) p q → AreCloned (ArePairsCarried carrieda carriedb) exact out → AreCloned (ArePairsCarried carrieda carriedb) (exact ++ piece_of s t p) (out ++ piece_of s t q)
  put_piece s t None None exact out o c = rw (append-nil exact, append-nil out) c
  put_piece s t None (Some w) exact out o c = absurd o
  put_piece s t (Some v) None exact out o c = absurd o
  put_piece s t (Some v) (Some w) exact out o c = AllZip-push _ exact out (entry s t v) (entry s t w) c (refl, refl, o)

  -- one more segment
  pub carried_more : (left L L' : List (Entry A)) (right R R' : List (Entry B)) (out new : List (Entry (Option A × Option B))) (s : ℤ) → IsCanonical eqa L → IsCanonical eqb R → lesser (first_key L) (first_key R) ≡ Some s → IsSegmentPut carrieda carriedb low high kind s L L' R R' out new → IsEquivalence eqa → IsEquivalence eqb → IsCarriedSoFar left right L R out → IsCarriedSoFar left right L' R' new
  carried_more left L L' right R R' out new s ca cb starts m lawsa lawsb h = record {
    exact = h.exact ++ piece_of s m.end (pair_at kind L R m.end);
    so_far = paired_more eqa eqb low high kind carrieda carriedb left L L' right R R' out new s ca cb starts m h.exact lawsa lawsb h.so_far;
    carried = subst (AreCloned (ArePairsCarried carrieda carriedb) (h.exact ++ piece_of s m.end (pair_at kind L R m.end))) (sym m.put) (put_piece s m.end (pair_at kind L R m.end) m.given h.exact out m.carried h.carried);
  }

  -- if no key remains, the list has all segments
  pub carried_all : IsEquivalence eqa → IsEquivalence eqb → (left L : List (Entry A)) (right R : List (Entry B)) (out : List (Entry (Option A × Option B))) → IsCarriedSoFar left right L R out → lesser (first_key L) (first_key R) ≡ None → IsCarriedJoin carrieda carriedb eqa eqb low high kind left right out
  carried_all lawsa lawsb left L right R out h f = record {
    exact = h.exact;
    is_join = paired_all eqa eqb low high kind lawsa lawsb left L right R h.exact h.so_far f;
    carried = h.carried;
  }

  -- if carried values are equal, the segments are a range map
  pub carried_range_map : IsEquivalence eqa → IsEquivalence eqb → ClonesAreAlike carrieda eqa → ClonesAreAlike carriedb eqb → (left : List (Entry A)) (right : List (Entry B)) (segments : List (Entry (Option A × Option B))) → IsCarriedJoin carrieda carriedb eqa eqb low high kind left right segments → IsRangeMap (pair_eq eqa eqb) low high segments
  carried_range_map lawsa lawsb alikea alikeb left right segments j = record {
    runs = one_per_run (pair_eq eqa eqb) laws segments (canonical_as (pair_eq eqa eqb) laws j.exact segments same (canonical (pair_eq eqa eqb) laws j.exact j.is_join.range_map.runs));
    keys = are_keys_as (pair_eq eqa eqb) low high j.exact segments same j.is_join.range_map.keys;
  }
    where
      laws : IsEquivalence (pair_eq eqa eqb)
      laws = pair_laws eqa eqb lawsa lawsb

      both : (b c : Bool) → b ≡ true → c ≡ true → (b && c) ≡ true
      both b c p q = rw (p, q) refl

      pairs : ClonesAreAlike (ArePairsCarried carrieda carriedb) (pair_eq eqa eqb)
      pairs p q c = both (option_eq eqa p.0 q.0) (option_eq eqb p.1 q.1) (options_alike eqa carrieda lawsa alikea p.0 q.0 c.0) (options_alike eqb carriedb lawsb alikeb p.1 q.1 c.1)

      same : SameEntries (pair_eq eqa eqb) j.exact segments
      same = same_cloned (pair_eq eqa eqb) (ArePairsCarried carrieda carriedb) pairs j.exact segments j.carried
