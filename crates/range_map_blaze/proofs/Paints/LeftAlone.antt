-- Pairs that leave an entry alone.
use Rattle.range_map_blaze.proofs.Words.{◌≡◌, ◌⊎◌, ℤ, pos, ◌+ℤ◌, ◌≤ℤ◌, Bool, true, false, cond, List, [], ◌∷◌, ◌++◌, refl, sym, ◌∙◌, arith, inl, inr, int_lt, IsEquivalence, AllByRecursion, Contains, ints, by_lt_z, All-contains, All-from_recursion, IsCanonical, Entry, entry, IsApartBelow, LeavesAlone, AreLeftAlone, joined_pair}
use Rattle.std.proofs.lemmas.Bool.{false≢true}

greater_under : (a b c : ℤ) → a ≤ℤ c → b ≤ℤ c → cond (int_lt a b) b a ≤ℤ c
greater_under a b c x y = by_lt_z a b (λ u. grind (arith, ints)) (λ u. grind (arith, ints))

lesser_over : (a b c : ℤ) → c ≤ℤ a → c ≤ℤ b → c ≤ℤ cond (int_lt b a) b a
lesser_over a b c x y = by_lt_z b a (λ u. grind (arith, ints)) (λ u. grind (arith, ints))

module _ {V : Type 0} (eq : V → V → Bool) where
  pub alone_parts : (ps qs : List (Entry V)) (e : Entry V) → AreLeftAlone eq (ps ++ qs) e → AreLeftAlone eq ps e × AreLeftAlone eq qs e
  alone_parts [] qs e a = (tt, a)
  alone_parts (p ∷ ps) qs e a = let r = alone_parts ps qs e a.1 in ((a.0, r.0), r.1)

  -- an entry of a canonical list has a key
  pub has_key : (es : List (Entry V)) (e : Entry V) → IsCanonical eq es → Contains es e → e.lo ≤ℤ e.hi
  has_key es e c m = All-contains (λ (f : Entry V). f.lo ≤ℤ f.hi) es e (All-from_recursion (λ (f : Entry V). f.lo ≤ℤ f.hi) es (each es c)) m
    where
      each : (fs : List (Entry V)) → IsCanonical eq fs → AllByRecursion (λ (f : Entry V). f.lo ≤ℤ f.hi) fs
      each [] c = tt
      each (f ∷ fs) c = (c.0, each fs c.2)

  module _ (laws : IsEquivalence eq) (e : Entry V) where
    -- a pair with an equal value serves as well
    pub alone_equal : (p q : Entry V) → q.lo ≡ p.lo → q.hi ≡ p.hi → eq q.value p.value ≡ true → LeavesAlone eq p e → LeavesAlone eq q e
    alone_equal p q lo hi v (inl w) = inl (omega (arith, ints, lo, hi, w))
    alone_equal p q lo hi v (inr (inl (inl w))) = inr (inl (inl (record {
      below = omega (arith, ints, hi, w.below);
      unequal = λ t. laws.congr q.value p.value e.value v ∙ w.unequal (omega (arith, ints, hi, t));
    })))
    alone_equal p q lo hi v (inr (inl (inr w))) = inr (inl (inr (record {
      below = omega (arith, ints, lo, w.below);
      unequal = λ t. laws.symm e.value q.value ∙ laws.congr q.value p.value e.value v ∙ laws.symm p.value e.value ∙ w.unequal (omega (arith, ints, lo, t));
    })))
    alone_equal p q lo hi v (inr (inr i)) = inr (inr (omega (arith, ints, lo, i.0), omega (arith, ints, hi, i.1), laws.congr e.value p.value q.value i.2 ∙ laws.symm p.value q.value ∙ v))

    module _ (p n : Entry V) (v : eq p.value n.value ≡ true) where
      -- the entry's value is unequal to both values, or to neither
      like : eq p.value e.value ≡ eq n.value e.value
      like = laws.congr p.value n.value e.value v

      unlike_p : eq n.value e.value ≡ false → eq p.value e.value ≡ false
      unlike_p differ = like ∙ differ

      turned : (x : V) → eq e.value x ≡ eq x e.value
      turned x = laws.symm e.value x

      clash : eq n.value e.value ≡ true → eq p.value e.value ≡ false → ⊥
      clash equal differ = false≢true (sym differ ∙ like ∙ equal)

      -- both are below it, or both above: the one whose end, or start, the joined pair has decides
      both_below : (lo z : ℤ) → (z ≡ p.hi) ⊎ (z ≡ n.hi) → IsApartBelow eq p e → IsApartBelow eq n e → IsApartBelow eq (entry lo z p.value) e
      both_below lo z (inl is) a b = record { below = omega (arith, ints, is, a.below); unequal = λ t. a.unequal (omega (arith, ints, is, t)) }
      both_below lo z (inr is) a b = record { below = omega (arith, ints, is, b.below); unequal = λ t. unlike_p (b.unequal (omega (arith, ints, is, t))) }

      both_above : (z hi : ℤ) → (z ≡ p.lo) ⊎ (z ≡ n.lo) → IsApartBelow eq e p → IsApartBelow eq e n → IsApartBelow eq e (entry z hi p.value)
      both_above z hi (inl is) a b = record { below = omega (arith, ints, is, a.below); unequal = λ t. a.unequal (omega (arith, ints, is, t)) }
      both_above z hi (inr is) a b = record {
        below = omega (arith, ints, is, b.below);
        unequal = λ t. turned p.value ∙ unlike_p (sym (turned n.value) ∙ b.unequal (omega (arith, ints, is, t)));
      }

      one_of : (a b : ℤ) (t : Bool) → (cond t b a ≡ a) ⊎ (cond t b a ≡ b)
      one_of a b true = inr refl
      one_of a b false = inl refl

      -- where two pairs that touch or overlap leave it alone, the joined one does: both are on one side of it, or in it
      pub alone_joined : e.lo ≤ℤ e.hi → p.lo ≤ℤ p.hi → n.lo ≤ℤ n.hi → n.lo ≤ℤ (p.hi +ℤ pos 1) → p.lo ≤ℤ (n.hi +ℤ pos 1)
          → LeavesAlone eq p e → LeavesAlone eq n e → LeavesAlone eq (joined_pair p n) e
      alone_joined w o q s t (inl a) b = absurd (omega (arith, ints, o, a))
      alone_joined w o q s t (inr a) (inl b) = absurd (omega (arith, ints, q, b))
      alone_joined w o q s t (inr (inl (inl a))) (inr (inl (inl b))) = inr (inl (inl (both_below (joined_pair p n).lo (joined_pair p n).hi (one_of p.hi n.hi (int_lt p.hi n.hi)) a b)))
      alone_joined w o q s t (inr (inl (inl a))) (inr (inl (inr b))) = absurd (omega (arith, ints, w, s, a.below, b.below))
      alone_joined w o q s t (inr (inl (inl a))) (inr (inr b)) = absurd (clash (laws.symm n.value e.value ∙ b.2) (a.unequal (omega (arith, ints, s, a.below, b.0))))
      alone_joined w o q s t (inr (inl (inr a))) (inr (inl (inl b))) = absurd (omega (arith, ints, w, t, a.below, b.below))
      alone_joined w o q s t (inr (inl (inr a))) (inr (inl (inr b))) = inr (inl (inr (both_above (joined_pair p n).lo (joined_pair p n).hi (one_of p.lo n.lo (int_lt n.lo p.lo)) a b)))
      alone_joined w o q s t (inr (inl (inr a))) (inr (inr b)) = absurd (clash (laws.symm n.value e.value ∙ b.2) (sym (turned p.value) ∙ a.unequal (omega (arith, ints, t, a.below, b.1))))
      alone_joined w o q s t (inr (inr a)) (inr (inl (inl b))) = absurd (false≢true (sym (unlike_p (b.unequal (omega (arith, ints, t, a.0, b.below)))) ∙ sym (turned p.value) ∙ a.2))
      alone_joined w o q s t (inr (inr a)) (inr (inl (inr b))) = absurd (false≢true (sym (unlike_p (sym (turned n.value) ∙ b.unequal (omega (arith, ints, s, a.1, b.below)))) ∙ sym (turned p.value) ∙ a.2))
      alone_joined w o q s t (inr (inr a)) (inr (inr b)) =
          inr (inr (lesser_over p.lo n.lo e.lo a.0 b.0, greater_under p.hi n.hi e.hi a.1 b.1, a.2))
