-- Keys that two lists share, and keys of one list that the other has, where both are gone through together.
use Rattle.range_map_blaze.proofs.Words.{some_is_not, ◌≡◌, ℕ, ◌+◌, ◌<◌, ℤ, pos, ◌+ℤ◌, ◌≤ℤ◌, ◌<ℤ◌, Bool, true, false, List, [], ◌∷◌, Some, None, refl, ◌∙◌, sym, subst, arith, inl, inr, ⊎_elim, option_map, ◌⊎◌, ◌↔◌, IsSome, IsTrue, ints, by_lt_z, range_in, first_entry, IsCanonical, Entry, at, after, at_in, at-after_over, IsFrom, lengths_left, all_less, at-after_under, at_below_from, ends, ShareNoKey, HasKeysOf}

-- ---- lists by the ends of their first ranges

-- the first range of the list is the one from l up to x
abbrev pub HasFirst : {A : Type 0} → ℤ → ℤ → List (Entry A) → Type 0
HasFirst l x L = Some (l, x) ≡ option_map range_in (first_entry L)

module _ {A : Type 0} (eq : A → A → Bool) (l x : ℤ) where
  -- no range starts below the first
  from_start : (L : List (Entry A)) (s : ℤ) → HasFirst l x L → s ≡ l → IsFrom s L
  from_start [] s p q = tt
  from_start (e ∷ es) s p q = omega (arith, ints, (ends e l x p).0, q)

  -- the first range has a key
  first_order : (L : List (Entry A)) → IsCanonical eq L → HasFirst l x L → l ≤ℤ x
  first_order [] c p = cc
  first_order (e ∷ es) c p = let is = ends e l x p in omega (arith, ints, is.0, is.1, c.0)

  -- fewer keys are left where some of the first range go
  pub fewer_left : (L L' : List (Entry A)) (t : ℤ) → IsCanonical eq L → HasFirst l x L → l ≤ℤ t → L' ≡ after t L → lengths_left L' < lengths_left L
  fewer_left [] L' t c p h q = cc
  fewer_left (e ∷ es) L' t c p h q = rw q (omega (arith, all_less eq e.lo t ((e ∷ es) ∷ []) (c, tt) (omega (arith, ints, (ends e l x p).0, h)) refl))

  -- fewer keys are left where all go below a key above the first range
  pub fewer_below : (L L' : List (Entry A)) (r t : ℤ) → IsCanonical eq L → HasFirst l x L → x <ℤ r → t +ℤ pos 1 ≡ r → L' ≡ after t L → lengths_left L' < lengths_left L
  fewer_below L L' r t c p h is q = fewer_left L L' t c p (omega (arith, ints, first_order L c p, h, is)) q

  -- the list has a value at each key of its first range
  there : (L : List (Entry A)) (k : ℤ) → HasFirst l x L → l ≤ℤ k → k ≤ℤ x → IsSome (at L k)
  there [] k p a b = cc
  there (e ∷ es) k p a b = let is = ends e l x p in subst IsSome (sym (at_in e es k (omega (arith, ints, is.0, a)) (omega (arith, ints, is.1, b)))) refl

  -- and none below it
  not_below : (L : List (Entry A)) (k : ℤ) → IsCanonical eq L → HasFirst l x L → k <ℤ l → at L k ≡ None
  not_below L k c p h = at_below_from eq L l k c (from_start L l p refl) h

pub shorter_left : (a b c : ℕ) → a < b → a + c < b + c
shorter_left a b c h = omega (arith, h)

pub shorter_right : (a b c : ℕ) → a < b → c + a < c + b
shorter_right a b c h = omega (arith, h)

-- ---- no key is in both

pub whole_lists : {A B : Type 0} (L L' : List (Entry A)) (R R' : List (Entry B)) → L' ≡ L → R' ≡ R → ShareNoKey L R ↔ ShareNoKey L' R'
whole_lists L L' R R' p q = subst (λ M. ShareNoKey L R ↔ ShareNoKey M R') (sym p) (subst (λ N. ShareNoKey L R ↔ ShareNoKey L N) (sym q) ((λ s. s), (λ s. s)))

swap_keys : {A B : Type 0} (L : List (Entry A)) (R : List (Entry B)) → ShareNoKey L R → ShareNoKey R L
swap_keys L R none k = ⊎_elim (λ n. inr n) (λ n. inl n) (none k)

-- keys of one list below the other's first go
go : {A B : Type 0} (eqa : A → A → Bool) (eqb : B → B → Bool) (t r y : ℤ) (L : List (Entry A)) (R : List (Entry B))
    → IsCanonical eqa L → IsCanonical eqb R → HasFirst r y R → t +ℤ pos 1 ≡ r → ShareNoKey L R ↔ ShareNoKey (after t L) R
go eqa eqb t r y L R ca cb first is = (to, back)
  where
    to : ShareNoKey L R → ShareNoKey (after t L) R
    to none k = ⊎_elim
        (λ n. inl (by_lt_z t k (λ over. at-after_over eqa t k L ca over ∙ n) (λ under. at-after_under eqa t k L ca under)))
        (λ n. inr n) (none k)

    back : ShareNoKey (after t L) R → ShareNoKey L R
    back none k = by_lt_z t k
        (λ over. ⊎_elim (λ n. inl (sym (at-after_over eqa t k L ca over) ∙ n)) (λ n. inr n) (none k))
        (λ under. inr (not_below eqb r y R k cb first (omega (arith, ints, is, under))))

module _ {A B : Type 0} (eqa : A → A → Bool) (eqb : B → B → Bool) (l x r y : ℤ) (L : List (Entry A)) (R : List (Entry B))
    (ca : IsCanonical eqa L) (cb : IsCanonical eqb R) (first_left : HasFirst l x L) (first_right : HasFirst r y R) where
  -- where the first range of one list ends below that of the other, all its keys below that one go
  pub left_passed : {P : Type 0} (L' : List (Entry A)) (t : ℤ) → t +ℤ pos 1 ≡ r → L' ≡ after t L → P ↔ ShareNoKey L R → P ↔ ShareNoKey L' R
  left_passed {P} L' t is q (to, back) =
      let step = go eqa eqb t r y L R ca cb first_right is in
      subst (λ M. P ↔ ShareNoKey M R) (sym q) ((λ p. step.0 (to p)), (λ s. back (step.1 s)))

  pub right_passed : {P : Type 0} (R' : List (Entry B)) (t : ℤ) → t +ℤ pos 1 ≡ l → R' ≡ after t R → P ↔ ShareNoKey L R → P ↔ ShareNoKey L R'
  right_passed {P} R' t is q (to, back) =
      let step = go eqb eqa t l x R L cb ca first_left is in
      subst (λ M. P ↔ ShareNoKey L M) (sym q)
      ((λ p. swap_keys (after t R) L (step.0 (swap_keys L R (to p)))), (λ s. back (swap_keys R L (step.1 (swap_keys L (after t R) s)))))

  -- the first ranges share a key: the greater of their starts
  pub shared : {P : Type 0} → r ≤ℤ x → l ≤ℤ y → P ↔ ShareNoKey L R → IsTrue false ↔ P
  shared h k (to, back) = (
    (λ t. cc),
    (λ p. absurd (by_lt_z l r
        (λ u. both r (to p) (omega (arith, ints, u)) h (omega (arith, ints)) (first_order eqb r y R cb first_right))
        (λ u. both l (to p) (omega (arith, ints)) (first_order eqa l x L ca first_left) u k))),
  )
    where
      both : (j : ℤ) → ShareNoKey L R → l ≤ℤ j → j ≤ℤ x → r ≤ℤ j → j ≤ℤ y → ⊥
      both j none a b c d = ⊎_elim
          (λ n. some_is_not (at L j) (there eqa l x L j first_left a b) n)
          (λ n. some_is_not (at R j) (there eqb r y R j first_right c d) n) (none j)

-- a list that has no range shares no key
pub nothing_left : {A B : Type 0} {P : Type 0} (L : List (Entry A)) (R : List (Entry B))
    → (None ≡ option_map range_in (first_entry L)) ⊎ (None ≡ option_map range_in (first_entry R)) → P ↔ ShareNoKey L R → IsTrue true ↔ P
nothing_left [] R n (to, back) = ((λ t. back (λ k. inl refl)), (λ p. refl))
nothing_left (e ∷ es) [] n (to, back) = ((λ t. back (λ k. inr refl)), (λ p. refl))
nothing_left (e ∷ es) (f ∷ fs) n both = ⊎_elim (λ q. cc) (λ q. cc) n

-- ---- one list has the keys of the other

-- each list has the keys of one that has no range
pub nothing_asked : {A B : Type 0} {P : Type 0} (L : List (Entry A)) (R : List (Entry B)) → None ≡ option_map range_in (first_entry R) → P ↔ HasKeysOf L R → IsTrue true ↔ P
nothing_asked L [] n (to, back) = ((λ t. back (λ k s. cc)), (λ p. refl))
nothing_asked L (e ∷ es) n both = cc

module _ {A B : Type 0} (eqa : A → A → Bool) (eqb : B → B → Bool) (r y : ℤ) (L : List (Entry A)) (R : List (Entry B))
    (ca : IsCanonical eqa L) (cb : IsCanonical eqb R) (first_right : HasFirst r y R) where
  -- the keys of the first list below the second one's go
  pub own_passed : {P : Type 0} (L' : List (Entry A)) (t : ℤ) → t +ℤ pos 1 ≡ r → L' ≡ after t L → P ↔ HasKeysOf L R → P ↔ HasKeysOf L' R
  own_passed {P} L' t is q (to, back) = subst (λ M. P ↔ HasKeysOf M R) (sym q) ((λ p. ahead (to p)), (λ s. back (behind s)))
    where
      gone : {X : Type 0} (k : ℤ) → k ≤ℤ t → IsSome (at R k) → X
      gone k under s = absurd (some_is_not (at R k) s (not_below eqb r y R k cb first_right (omega (arith, ints, is, under))))

      ahead : HasKeysOf L R → HasKeysOf (after t L) R
      ahead has k s = by_lt_z t k (λ over. subst IsSome (sym (at-after_over eqa t k L ca over)) (has k s)) (λ under. gone k under s)

      behind : HasKeysOf (after t L) R → HasKeysOf L R
      behind has k s = by_lt_z t k (λ over. subst IsSome (at-after_over eqa t k L ca over) (has k s)) (λ under. gone k under s)

  -- the first list has no range, and so not the second one's first key
  pub nothing_covers : {P : Type 0} → None ≡ option_map range_in (first_entry L) → P ↔ HasKeysOf L R → IsTrue false ↔ P
  nothing_covers n (to, back) = ((λ t. cc), (λ p. absurd (no_value L n (to p r (there eqb r y R r first_right (omega (arith, ints)) (first_order eqb r y R cb first_right))))))
    where
      no_value : (M : List (Entry A)) → None ≡ option_map range_in (first_entry M) → IsSome (at M r) → ⊥
      no_value [] n s = cc
      no_value (e ∷ es) n s = cc

  module _ (l x : ℤ) (first_left : HasFirst l x L) where
    -- the second list starts below the first
    pub starts_before : {P : Type 0} → r <ℤ l → P ↔ HasKeysOf L R → IsTrue false ↔ P
    starts_before h (to, back) = (
      (λ t. cc),
      (λ p. absurd (some_is_not (at L r)
          (to p r (there eqb r y R r first_right (omega (arith, ints)) (first_order eqb r y R cb first_right)))
          (not_below eqa l x L r ca first_left h))),
    )

    -- where it starts no sooner, its keys up to the end of the first range of the first list are covered, and go
    pub their_passed : {P : Type 0} (R' : List (Entry B)) → l ≤ℤ r → R' ≡ after x R → P ↔ HasKeysOf L R → P ↔ HasKeysOf L R'
    their_passed {P} R' h q (to, back) = subst (λ M. P ↔ HasKeysOf L M) (sym q) ((λ p. ahead (to p)), (λ s. back (behind s)))
      where
        ahead : HasKeysOf L R → HasKeysOf L (after x R)
        ahead has k s = by_lt_z x k
            (λ over. has k (subst IsSome (at-after_over eqb x k R cb over) s))
            (λ under. absurd (some_is_not (at (after x R) k) s (at-after_under eqb x k R cb under)))

        behind : HasKeysOf L (after x R) → HasKeysOf L R
        behind has k s = by_lt_z x k
            (λ over. has k (subst IsSome (sym (at-after_over eqb x k R cb over)) s))
            (λ under. by_lt_z k r
            (λ b. absurd (some_is_not (at R k) s (not_below eqb r y R k cb first_right b)))
            (λ a. there eqa l x L k first_left (omega (arith, ints, h, a)) under))
