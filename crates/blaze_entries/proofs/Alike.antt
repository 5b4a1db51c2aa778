-- Equations between options, the laws of `option_or`, and options whose values are equal.
use Rattle.blaze_entries.proofs.Words.{◌≡◌, Bool, Option, Some, None, refl, ◌∙◌, sym, subst, IsSome, is_some, option_map, option_or, IsEquivalence, SameOption}

pub none_from_map : {A B : Type 0} (f : A → B) (o : Option A) → None ≡ option_map f o → o ≡ None
none_from_map f None p = refl
none_from_map f (Some a) p = cc

pub one_value : {A : Type 0} {a b : A} (o : Option A) → o ≡ Some a → o ≡ Some b → a ≡ b
one_value o p q = cc

module _ {V : Type 0} where
  pub none_or : (a : Option V) → option_or None a ≡ a
  none_or a = refl

  pub or_none : (a : Option V) → option_or a None ≡ a
  or_none None = refl
  or_none (Some x) = refl

  pub or_assoc : (a b c : Option V) → option_or (option_or a b) c ≡ option_or a (option_or b c)
  or_assoc None b c = refl
  or_assoc (Some x) b c = refl

module _ {V : Type 0} (eq : V → V → Bool) where
  -- along two equations
  pub same_along : {a b c d : Option V} → a ≡ c → b ≡ d → SameOption eq a b → SameOption eq c d
  same_along {b = b} {c = c} p q s = subst (λ y. SameOption eq c y) q (subst (λ x. SameOption eq x b) p s)

  pub same_none : (a : Option V) → a ≡ None → SameOption eq a None
  same_none a p = subst (λ o. SameOption eq o None) (sym p) tt

  pub none_of_same : (a b : Option V) → SameOption eq a b → a ≡ None → b ≡ None
  none_of_same a None s p = refl
  none_of_same a (Some y) s p = absurd (same_along {a = a} {b = Some y} p refl s)

  pub some_of_same : (a b : Option V) → SameOption eq a b → IsSome a → IsSome b
  some_of_same None b s p = cc
  some_of_same (Some x) None s p = absurd s
  some_of_same (Some x) (Some y) s p = refl

  pub is_some_alike : (a b : Option V) → SameOption eq a b → is_some a ≡ is_some b
  is_some_alike None None s = refl
  is_some_alike None (Some y) s = absurd s
  is_some_alike (Some x) None s = absurd s
  is_some_alike (Some x) (Some y) s = refl

  pub same_or : (a b c d : Option V) → SameOption eq a b → SameOption eq c d → SameOption eq (option_or a c) (option_or b d)
  same_or None None c d s t = t
  same_or None (Some y) c d s t = absurd s
  same_or (Some x) None c d s t = absurd s
  same_or (Some x) (Some y) c d s t = s

  module _ (laws : IsEquivalence eq) where
    pub same_itself : (a : Option V) → SameOption eq a a
    same_itself None = tt
    same_itself (Some x) = laws.refl x

    pub same_back : (a b : Option V) → SameOption eq a b → SameOption eq b a
    same_back None None s = tt
    same_back None (Some y) s = s
    same_back (Some x) None s = s
    same_back (Some x) (Some y) s = laws.symm y x ∙ s

    pub same_trans : (a b c : Option V) → SameOption eq a b → SameOption eq b c → SameOption eq a c
    same_trans None None c p q = q
    same_trans None (Some y) c p q = absurd p
    same_trans (Some x) None c p q = absurd p
    same_trans (Some x) (Some y) None p q = absurd q
    same_trans (Some x) (Some y) (Some z) p q = laws.congr x y z p ∙ q

    pub same_or_left : (a b c : Option V) → SameOption eq a b → SameOption eq (option_or a c) (option_or b c)
    same_or_left a b c s = same_or a b c c s (same_itself c)

    pub same_or_right : (a b c : Option V) → SameOption eq b c → SameOption eq (option_or a b) (option_or a c)
    same_or_right a b c s = same_or a a b c (same_itself a) s
