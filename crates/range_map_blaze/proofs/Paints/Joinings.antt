-- Painting a joined pair is painting its parts.
use Rattle.range_map_blaze.proofs.Words.{◌≡◌, ℤ, pos, ◌+ℤ◌, ◌≤ℤ◌, ◌<ℤ◌, Bool, true, false, ◌&&◌, ◌||◌, cond, List, [], ◌∷◌, ◌++◌, map, Option, Some, None, ◌⊎◌, inl, inr, refl, ◌∙◌, sym, ap, subst, arith, append_assoc, append-nil, int_le, int_lt, IsEquivalence, Yields, Drains, ExtendsWithItems, IsErr, option_to_list, option_or, ints, by_lt_z, length-append, map-append, MatchResult-from_err, and_parts, le_holds, same_itself, Entry, holds, SameOption, IsCanonical, IsRangeMap, IsInside, last_at, AreInside, IsExtended, are_one_pair, joined_pair, IsUnderway}
use Rattle.std.specs.declared.result.Result.{Result}
use Rattle.range_map_blaze.proofs.Paints.Insides.{inside_both, inside_parts}
use Rattle.range_map_blaze.proofs.Paints.LeftAlone.{alone_parts, alone_joined}
use Rattle.range_map_blaze.proofs.Paints.Paintings.{last_append, extended_none, extended_more}

pub reversed : (a b : ℤ) (t : Bool) → t ≡ int_lt a b → t ≡ true → a <ℤ b
reversed a b t p q = grind (arith, ints, p, q)

pub ordered : (a b : ℤ) (t : Bool) → t ≡ int_lt a b → t ≡ false → b ≤ℤ a
ordered a b t p q = grind (arith, ints, p, q)

-- the key is in the joined range where it is in one of the two
in_joined : (l h m n k : ℤ) → l ≤ℤ h → m ≤ℤ n → int_le m (h +ℤ pos 1) ≡ true → int_le l (n +ℤ pos 1) ≡ true
    → (int_le (cond (int_lt m l) m l) k && int_le k (cond (int_lt h n) n h)) ≡ (int_le m k && int_le k n) || (int_le l k && int_le k h)
in_joined l h m n k o q s t = by_lt_z m l
    (λ a. by_lt_z h n (λ b. grind (arith, ints)) (λ b. grind (arith, ints)))
    (λ a. by_lt_z h n (λ b. grind (arith, ints)) (λ b. grind (arith, ints)))

-- a key of the joined range is in one of the two
in_parts : (l h m n k : ℤ) → l ≤ℤ h → m ≤ℤ n → int_le m (h +ℤ pos 1) ≡ true → int_le l (n +ℤ pos 1) ≡ true
    → cond (int_lt m l) m l ≤ℤ k → k ≤ℤ cond (int_lt h n) n h → ((l ≤ℤ k) × (k ≤ℤ h)) ⊎ ((m ≤ℤ k) × (k ≤ℤ n))
in_parts l h m n k o q s t x y = by_lt_z k l
    (λ a. inr (by_lt_z m l (λ b. by_lt_z h n (λ d. grind (arith, ints)) (λ d. grind (arith, ints))) (λ b. absurd (by_lt_z h n (λ d. grind (arith, ints)) (λ d. grind (arith, ints))))))
    (λ a. by_lt_z h k
    (λ b. inr (by_lt_z m l (λ d. by_lt_z h n (λ e. grind (arith, ints)) (λ e. grind (arith, ints))) (λ d. by_lt_z h n (λ e. grind (arith, ints)) (λ e. grind (arith, ints)))))
    (λ b. inl (a, b)))

joined_order : (l h m n : ℤ) → l ≤ℤ h → m ≤ℤ n → cond (int_lt m l) m l ≤ℤ cond (int_lt h n) n h
joined_order l h m n o q = by_lt_z m l
    (λ a. by_lt_z h n (λ b. grind (arith, ints)) (λ b. grind (arith, ints)))
    (λ a. by_lt_z h n (λ b. grind (arith, ints)) (λ b. grind (arith, ints)))

module _ {V : Type 0} (eq : V → V → Bool) where
  joined_value : (b c : Bool) (v w : V) (o : Option V) → eq v w ≡ true → SameOption eq (cond c (Some v) None) o → SameOption eq (cond (b || c) (Some v) None) (option_or (cond b (Some w) None) o)
  joined_value true c v w o e s = e
  joined_value false c v w o e s = s

  -- the joined pair stands for what the first stands for, and then the second
  last_joined : (p n : Entry V) (others : List (Entry V)) (k : ℤ) → p.lo ≤ℤ p.hi → n.lo ≤ℤ n.hi → are_one_pair eq p n ≡ true
      → SameOption eq (last_at (p ∷ []) k) (last_at others k) → SameOption eq (last_at (joined_pair p n ∷ []) k) (last_at (others ++ n ∷ []) k)
  last_joined p n others k o q j s =
      let split = and_parts (int_le n.lo (p.hi +ℤ pos 1) && int_le p.lo (n.hi +ℤ pos 1)) (eq p.value n.value) j in
      let near = and_parts (int_le n.lo (p.hi +ℤ pos 1)) (int_le p.lo (n.hi +ℤ pos 1)) split.0 in
      let inside : holds (joined_pair p n) k ≡ holds n k || holds p k = in_joined p.lo p.hi n.lo n.hi k o q near.0 near.1 in
      subst (λ r. SameOption eq (last_at (joined_pair p n ∷ []) k) r) (sym (last_append others (n ∷ []) k))
      (subst (λ b. SameOption eq (cond b (Some p.value) None) (option_or (last_at (n ∷ []) k) (last_at others k))) (sym inside)
      (joined_value (holds n k) (holds p k) p.value n.value (last_at others k) split.1 s))

  module _ (laws : IsEquivalence eq) (low high : ℤ) where
    -- nothing is pending where all is painted
    pub underway_none : (pairs old cur : List (Entry V)) → IsExtended eq low high pairs old cur → IsUnderway eq low high pairs old cur None
    underway_none pairs old cur d = record { done = pairs; others = []; parts = sym (append-nil pairs); extended = d; same = λ k. tt; fewer = omega arith; inside = λ es c a. tt; alone = λ e w a. tt; order = tt }

    -- before the first pair
    pub underway_begun : (es : List (Entry V)) → IsRangeMap eq low high es → IsUnderway eq low high [] es es None
    underway_begun es r = underway_none [] es es (extended_none eq laws low high es r)

    -- the next pair is pending
    pub underway_one : (n : Entry V) (pairs old cur : List (Entry V)) → IsExtended eq low high pairs old cur → n.lo ≤ℤ n.hi → IsUnderway eq low high (pairs ++ n ∷ []) old cur (Some n)
    underway_one n pairs old cur d q = record { done = pairs; others = n ∷ []; parts = refl; extended = d; same = λ k. same_itself eq laws (last_at (n ∷ []) k); fewer = omega arith; inside = λ es c a. a; alone = λ e w a. a; order = q }

    -- two pairs that are one touch or overlap
    are_near : (p n : Entry V) → are_one_pair eq p n ≡ true → (n.lo ≤ℤ (p.hi +ℤ pos 1)) × (p.lo ≤ℤ (n.hi +ℤ pos 1))
    are_near p n j =
        let split = and_parts (int_le n.lo (p.hi +ℤ pos 1) && int_le p.lo (n.hi +ℤ pos 1)) (eq p.value n.value) j in
        let near = and_parts (int_le n.lo (p.hi +ℤ pos 1)) (int_le p.lo (n.hi +ℤ pos 1)) split.0 in
        (le_holds n.lo (p.hi +ℤ pos 1) near.0, le_holds p.lo (n.hi +ℤ pos 1) near.1)

    -- where both pairs lie inside, the joined one does
    inside_joined : (p n : Entry V) (es : List (Entry V)) → IsCanonical eq es → p.lo ≤ℤ p.hi → n.lo ≤ℤ n.hi → are_one_pair eq p n ≡ true → AreInside eq (p ∷ []) es → AreInside eq (n ∷ []) es → AreInside eq (joined_pair p n ∷ []) es
    inside_joined p n es c o q j a b =
        let split = and_parts (int_le n.lo (p.hi +ℤ pos 1) && int_le p.lo (n.hi +ℤ pos 1)) (eq p.value n.value) j in
        let near = and_parts (int_le n.lo (p.hi +ℤ pos 1)) (int_le p.lo (n.hi +ℤ pos 1)) split.0 in (
          inr (inside_both eq laws p.lo p.hi n.lo n.hi p.value n.value es c o q (le_holds n.lo (p.hi +ℤ pos 1) near.0) (le_holds p.lo (n.hi +ℤ pos 1) near.1) split.1 (with_key p o a.0) (with_key n q b.0)
              (joined_pair p n).lo (joined_pair p n).hi (joined_order p.lo p.hi n.lo n.hi o q) (λ k x y. in_parts p.lo p.hi n.lo n.hi k o q near.0 near.1 x y)),
          tt,
        )
      where
        with_key : (r : Entry V) → r.lo ≤ℤ r.hi → (r.hi <ℤ r.lo) ⊎ IsInside eq r.lo r.hi r.value es → IsInside eq r.lo r.hi r.value es
        with_key r w (inl h) = absurd (omega (arith, ints))
        with_key r w (inr h) = h

    -- the next pair is joined with the pending one
    pub underway_joined : (p n : Entry V) (pairs old cur : List (Entry V)) → IsUnderway eq low high pairs old cur (Some p) → n.lo ≤ℤ n.hi → are_one_pair eq p n ≡ true
        → IsUnderway eq low high (pairs ++ n ∷ []) old cur (Some (joined_pair p n))
    underway_joined p n pairs old cur u q j = record {
      done = u.done;
      others = u.others ++ n ∷ [];
      parts = ap (λ ps. ps ++ n ∷ []) u.parts ∙ append_assoc u.done u.others (n ∷ []);
      extended = u.extended;
      same = λ k. last_joined p n u.others k u.order q j (u.same k);
      fewer = omega (arith, length-append u.others (n ∷ []));
      inside = λ es c a.
          let b = inside_parts eq u.others (n ∷ []) es a in
          inside_joined p n es c u.order q j (u.inside es c b.0) b.1;
      alone = λ e w a.
          let b = alone_parts eq u.others (n ∷ []) e a in
          let near = are_near p n j in
          let like : eq p.value n.value ≡ true = (and_parts _ _ j).1 in
          (alone_joined eq laws e p n like w u.order q near.0 near.1 (u.alone e w b.0).0 b.1.0, tt);
      order = joined_order p.lo p.hi n.lo n.hi u.order q;
    }

    -- the pending pair is painted
    pub underway_painted : (pending : Option (Entry V)) (pairs old cur new : List (Entry V)) → IsUnderway eq low high pairs old cur pending → IsExtended eq low high (option_to_list pending) cur new
        → IsExtended eq low high pairs old new
    underway_painted pending pairs old cur new u e =
        subst (λ ps. IsExtended eq low high ps old new) (sym u.parts) (extended_more eq laws low high u.done u.others (option_to_list pending) old cur new u.extended e u.same u.fewer u.inside u.alone)

    -- no pair was pending
    pub underway_ended : (pairs old cur : List (Entry V)) → IsUnderway eq low high pairs old cur None → IsExtended eq low high pairs old cur
    underway_ended pairs old cur u = underway_painted None pairs old cur cur u (extended_none eq laws low high cur u.extended.range_map)

    -- one more item
    pub underway_item : {A : Type 0} (shown : A → Entry V) (items : List A) (x : A) (q : Entry V) (old new : List (Entry V)) (pending : Option (Entry V))
        → IsUnderway eq low high (map shown items ++ q ∷ []) old new pending → q ≡ shown x
        → IsUnderway eq low high (map shown (items ++ x ∷ [])) old new pending
    underway_item shown items x q old new pending u same =
        subst (λ ps. IsUnderway eq low high ps old new pending) (ap (λ e. map shown items ++ e ∷ []) same ∙ sym (map-append shown items (x ∷ []))) u

-- a front of what the items show is what a front of the items shows
front_items : {A B : Type 0} (f : A → B) (items : List A) (done others : List B) → map f items ≡ done ++ others → (front back : List A) × (items ≡ front ++ back) × (map f front ≡ done)
front_items f items [] others p = ([], items, refl, refl)
front_items f [] (y ∷ done) others p = absurd (cc)
front_items f (x ∷ items) (y ∷ done) others p =
    let heads : f x ≡ y = cc in
    let tails : map f items ≡ done ++ others = cc in
    let r = front_items f items done others tails in
    (x ∷ r.0, r.1, ap (λ l. x ∷ l) r.2, λ i. heads i ∷ r.3 i)

-- what gave all items gave the front of them first
front_gave : {S A : Type 0} (steps : S → Option A → S → Type 0) (s t : S) (front back : List A) → Yields steps s (front ++ back) t → (u : S) × Yields steps s front u
front_gave steps s t [] back y = (s, refl)
front_gave steps s t (x ∷ front) back y = let r = front_gave steps y.0 t front back y.2 in (r.0, (y.0, y.1, r.1))

-- where memory is refused, a front of the items is painted
pub front_painted : {U S A V E : Type 0} (becomes : U → S → Type 0) (steps : S → Option A → S → Type 0) (shown : A → Entry V) (eq : V → V → Bool) (low high : ℤ) (iter : U) (s t : S) (items : List A)
    (old cur new : List (Entry V)) (pending : Option (Entry V)) (r : Result (Unit {0}) E) → becomes iter s → Yields steps s items t → IsUnderway eq low high (map shown items) old cur pending → new ≡ cur → IsErr r
    → ExtendsWithItems becomes steps (λ from xs to. IsExtended eq low high (map shown xs) from to) iter old new r
front_painted {S = S} becomes steps shown eq low high iter s t items old cur new pending r b y u n e =
    let front = front_items shown items u.done u.others u.parts in (
      s,
      front.0,
      b,
      subst (λ es. IsExtended eq low high (map shown front.0) old es) (sym n) (subst (λ ps. IsExtended eq low high ps old cur) (sym front.3) u.extended),
      MatchResult-from_err r (λ _. Drains steps s front.0) (λ _. (z : S) × Yields steps s front.0 z) e (λ _. front_gave steps s t front.0 front.1 (subst (λ l. Yields steps s l t) front.2 y)),
    )
