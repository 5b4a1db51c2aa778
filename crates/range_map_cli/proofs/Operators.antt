-- Operators on contents, key by key, and how many keys they map.
use Rattle.range_map_cli.proofs.Words.{nat_of, option_xor, ◌≡◌, ℕ, zero, suc, ◌+◌, ℤ, pos, ◌+ℤ◌, ◌-ℤ◌, Bool, cond, Option, Some, None, is_some, refl, arith, IsSome, or_none, is_some_alike, at, right_first, left_with_right, left_alone, mapped_keys, CountsAddUp, DisjointUnionCommutes, EmptyIsUnit, PartsHaveItsKeys, SetKeeps, UnionIsAssociative, UnionIsIdempotent, UniversalKeeps, XorWithItselfIsEmpty}
use Rattle.blaze_entries.specs.Count.{mapped}
use Rattle.range_map_cli.proofs.Stepping.EndKeys.{mapped_alike}

module _ {V : Type 0} where
  -- ---- counts

  -- of one key
  one_key : (x y : Option V) → cond (is_some (right_first x y)) 1 0 + cond (is_some (left_with_right y x)) 1 0 ≡ cond (is_some x) 1 0 + cond (is_some y) 1 0
  one_key None None = refl
  one_key None (Some y) = refl
  one_key (Some x) None = refl
  one_key (Some x) (Some y) = refl

  -- of n keys
  keys_add_up : (x y : ℤ → Option V) (a : ℤ) (n : ℕ) → mapped (λ k. right_first (x k) (y k)) a n + mapped (λ k. left_with_right (y k) (x k)) a n ≡ mapped x a n + mapped y a n
  unfolding mapped
  keys_add_up x y a zero = refl
  keys_add_up x y a (suc n) = let one = one_key (x a) (y a) in let rest = keys_add_up x y (a +ℤ pos 1) n in omega (arith, one, rest)

  pub counts_add_up : (eq : V → V → Bool) (low high : ℤ) → CountsAddUp eq low high
  counts_add_up eq low high a b either both union meet =
      let n : ℕ = nat_of (high -ℤ low +ℤ pos 1) in
      let in_either : mapped_keys low high (at either) ≡ mapped_keys low high (λ k. right_first (at a k) (at b k)) = mapped_alike (at either) (λ k. right_first (at a k) (at b k)) (λ k. is_some_alike eq _ _ (union.content k)) low n in
      let in_both : mapped_keys low high (at both) ≡ mapped_keys low high (λ k. left_with_right (at b k) (at a k)) = mapped_alike (at both) (λ k. left_with_right (at b k) (at a k)) (λ k. is_some_alike eq _ _ (meet.content k)) low n in
      let sum = keys_add_up (at a) (at b) low n in
      omega (arith, in_either, in_both, sum)

  -- ---- choices

  pub union_is_associative : UnionIsAssociative V
  union_is_associative x y z k = by_last (z k)
    where
      by_last : (c : Option V) → right_first (right_first (x k) (y k)) c ≡ right_first (x k) (right_first (y k) c)
      by_last None = refl
      by_last (Some w) = refl

  pub union_is_idempotent : UnionIsIdempotent V
  union_is_idempotent x k = by_value (x k)
    where
      by_value : (a : Option V) → right_first a a ≡ a
      by_value None = refl
      by_value (Some v) = refl

  pub empty_is_unit : EmptyIsUnit V
  empty_is_unit x k = (refl, or_none (x k))

  pub disjoint_union_commutes : DisjointUnionCommutes V
  disjoint_union_commutes x y apart k = by_values (x k) (y k) (apart k)
    where
      by_values : (a b : Option V) → (IsSome a → b ≡ None) → right_first a b ≡ right_first b a
      by_values None None n = refl
      by_values None (Some w) n = refl
      by_values (Some v) None n = refl
      by_values (Some v) (Some w) n = let none : Some w ≡ None = n refl in absurd cc

  pub universal_keeps : UniversalKeeps V
  universal_keeps u x k here = by_values (u k) (x k) here
    where
      by_values : (b a : Option V) → IsSome b → (left_with_right a b ≡ a) × (IsSome a → left_with_right b a ≡ b) × (a ≡ None → left_with_right b a ≡ None)
      by_values None a h = absurd cc
      by_values (Some w) None h = (refl, λ s. absurd cc, λ _. refl)
      by_values (Some w) (Some v) h = (refl, λ _. refl, λ p. absurd cc)

  pub set_keeps : SetKeeps V
  set_keeps x s k = by_key (s k)
    where
      by_key : (b : Option (Unit {0})) → (IsSome b → left_with_right (x k) b ≡ x k) × (b ≡ None → left_with_right (x k) b ≡ None)
      by_key None = (λ h. absurd cc, λ _. refl)
      by_key (Some u) = (λ _. refl, λ p. absurd cc)

  pub xor_with_itself_is_empty : XorWithItselfIsEmpty V
  xor_with_itself_is_empty x k = by_value (x k)
    where
      by_value : (a : Option V) → option_xor a a ≡ None
      by_value None = refl
      by_value (Some v) = refl

  pub parts_have_its_keys : PartsHaveItsKeys V
  parts_have_its_keys x y k = by_values (x k) (y k)
    where
      by_values : (a b : Option V) → is_some (right_first (left_alone a b) (left_with_right b a)) ≡ is_some a
      by_values None None = refl
      by_values None (Some w) = refl
      by_values (Some v) None = refl
      by_values (Some v) (Some w) = refl
