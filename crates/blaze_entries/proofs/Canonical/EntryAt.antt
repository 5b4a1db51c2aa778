-- The entry of a list that holds a key.
use Rattle.blaze_entries.proofs.Words.{◌≡◌, ℤ, ◌≤ℤ◌, List, [], ◌∷◌, true, false, Bool, cond, refl, sym, ap, ◌∙◌, subst, Option, Some, None, inl, inr, same_Some, Entry, at, entry_at, holds, IsDisjoint, HasStart, HasEnd, AreKeys}
use Rattle.blaze_entries.proofs.Canonical.Lookup.{at_clear}

module _ {V : Type 0} where
  -- the entry is the first, which then holds the key, or it is one of the rest
  by_entry : {P : Type 0} (t : Bool) (f e : Entry V) (rest : Option (Entry V)) → cond t (Some f) rest ≡ Some e → (t ≡ true → f ≡ e → P) → (rest ≡ Some e → P) → P
  by_entry true f e rest is first later = first refl (same_Some f e is)
  by_entry false f e rest is first later = later is

  module _ (k : ℤ) (e : Entry V) where
    pub entry_holds : (es : List (Entry V)) → entry_at es k ≡ Some e → holds e k ≡ true
    entry_holds [] is = cc
    entry_holds (f ∷ fs) is = by_entry (holds f k) f e (entry_at fs k) is (λ in' same. subst (λ (g : Entry V). holds g k ≡ true) same in') (entry_holds fs)

    pub entry_starts : (es : List (Entry V)) → entry_at es k ≡ Some e → HasStart es e.lo
    entry_starts [] is = cc
    entry_starts (f ∷ fs) is = by_entry (holds f k) f e (entry_at fs k) is (λ in' same. inl (ap (λ (g : Entry V). g.lo) (sym same))) (λ later. inr (entry_starts fs later))

    pub entry_ends : (es : List (Entry V)) → entry_at es k ≡ Some e → HasEnd es e.hi
    entry_ends [] is = cc
    entry_ends (f ∷ fs) is = by_entry (holds f k) f e (entry_at fs k) is (λ in' same. inl (ap (λ (g : Entry V). g.hi) (sym same))) (λ later. inr (entry_ends fs later))

    pub entry_keys : (low high : ℤ) (es : List (Entry V)) → AreKeys low high es → entry_at es k ≡ Some e → (low ≤ℤ e.lo) × (e.hi ≤ℤ high)
    entry_keys low high [] keys is = cc
    entry_keys low high (f ∷ fs) keys is =
        by_entry (holds f k) f e (entry_at fs k) is (λ in' same. subst (λ (g : Entry V). (low ≤ℤ g.lo) × (g.hi ≤ℤ high)) same (keys.0, keys.1)) (entry_keys low high fs keys.2)

    -- its value is the content at each of its keys
    pub entry_value : (es : List (Entry V)) (j : ℤ) → IsDisjoint es → entry_at es k ≡ Some e → holds e j ≡ true → at es j ≡ Some e.value
    entry_value [] j apart is in' = cc
    entry_value (f ∷ fs) j apart is in' =
        by_entry (holds f k) f e (entry_at fs k) is (λ _ same. here same) (λ later. there (holds f j) (at_clear f fs j apart.1) (entry_value fs j apart.2 later in'))
      where
        here : f ≡ e → cond (holds f j) (Some f.value) (at fs j) ≡ Some e.value
        here same = ap (λ (g : Entry V). cond (holds g j) (Some g.value) (at fs j)) same ∙ ap (λ t. cond t (Some e.value) (at fs j)) in'

        there : (t : Bool) → (t ≡ true → at fs j ≡ None) → at fs j ≡ Some e.value → cond t (Some f.value) (at fs j) ≡ Some e.value
        there true none found = let no : at fs j ≡ None = none refl in cc
        there false none found = found
