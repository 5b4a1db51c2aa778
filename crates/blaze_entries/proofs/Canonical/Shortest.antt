-- A canonical list is the only shortest list with its content.
use Rattle.blaze_entries.proofs.Words.{◌≡◌, ◌+◌, ◌≤◌, ℤ, pos, ◌+ℤ◌, ◌<ℤ◌, Bool, true, false, cond, List, [], ◌∷◌, length, Option, Some, None, refl, ◌∙◌, sym, ⊎_elim, inl, inr, arith, ints, by_lt_z, IsEquivalence, Entry, entry, holds, at, SameOption, SameContent, IsCanonical, IsClear, IsDisjoint, IsAscending, CanonicalIsShortest, ◌⊎◌}
use Rattle.blaze_entries.proofs.Alike.{same_along, same_itself, same_trans, none_of_same}
use Rattle.blaze_entries.proofs.Canonical.Fewest.{fewest}
use Rattle.blaze_entries.proofs.Canonical.Lookup.{at_in, at_under, at_over, by_place, holds_in, at_clear}
use Rattle.blaze_entries.proofs.Canonical.Runs.{canonical, in_order}
use Rattle.blaze_entries.proofs.Canonical.Unique.{unique}

module _ {V : Type 0} where
  -- If a list has no value at a key, its first entry does not contain the key. The other entries have no value at it.
  none_first : (f : Entry V) (fs : List (Entry V)) (k : ℤ) → at (f ∷ fs) k ≡ None → holds f k ≡ false
  none_first f fs k p = by_test (holds f k) p
    where
      by_test : (b : Bool) → cond b (Some f.value) (at fs k) ≡ None → b ≡ false
      by_test true q = absurd cc
      by_test false q = refl

  none_rest : (f : Entry V) (fs : List (Entry V)) (k : ℤ) → at (f ∷ fs) k ≡ None → at fs k ≡ None
  none_rest f fs k p = by_test (holds f k) p
    where
      by_test : (b : Bool) → cond b (Some f.value) (at fs k) ≡ None → at fs k ≡ None
      by_test true q = absurd cc
      by_test false q = q

  -- an entry is disjoint from a list that has no value at its keys
  clear_of : (e : Entry V) (fs : List (Entry V)) → ((k : ℤ) → holds e k ≡ true → at fs k ≡ None) → IsClear e fs
  clear_of e [] n = tt
  clear_of e (f ∷ fs) n = (
    λ k p q. let h = none_first f fs k (n k p) in cc,
    clear_of e fs (λ k p. none_rest f fs k (n k p)),
  )

module _ {V : Type 0} (eq : V → V → Bool) (laws : IsEquivalence eq) where
  -- a disjoint list with the same content and one entry fewer
  record IsShorter (entries : List (Entry V)) : Type 0 where
    others : List (Entry V)
    disjoint : IsDisjoint others
    content : SameContent eq entries others
    fewer : length others + 1 ≡ length entries

  -- two entries that touch with equal values can be joined
  joined : (e f : Entry V) (fs : List (Entry V)) → IsDisjoint (e ∷ f ∷ fs) → f.lo ≡ e.hi +ℤ pos 1 → eq e.value f.value ≡ true → IsShorter (e ∷ f ∷ fs)
  joined e f fs d touch alike = record {
    others = entry e.lo f.hi e.value ∷ fs;
    disjoint = (omega (arith, ints, d.0, d.2.0, touch), clear_of (entry e.lo f.hi e.value) fs keys_outside, d.2.2);
    content = content;
    fewer = omega arith;
  }
    where
      -- a key of the joined entry is a key of one of the two
      in_either : (k : ℤ) → holds (entry e.lo f.hi e.value) k ≡ true → (holds e k ≡ true) ⊎ (holds f k ≡ true)
      in_either k h = by_place (entry e.lo f.hi e.value) k
          (λ l u. by_lt_z e.hi k
          (λ m. inr (holds_in f k (omega (arith, ints, touch, m)) u))
          (λ m. inl (holds_in e k l m)))
          (λ l. absurd (grind (arith, ints, h, l)))
          (λ u. absurd (grind (arith, ints, h, u)))

      keys_outside : (k : ℤ) → holds (entry e.lo f.hi e.value) k ≡ true → at fs k ≡ None
      keys_outside k h = ⊎_elim
          (λ (p : holds e k ≡ true). at_clear e fs k d.1.1 p)
          (λ (p : holds f k ≡ true). at_clear f fs k d.2.1 p)
          (in_either k h)

      content : SameContent eq (e ∷ f ∷ fs) (entry e.lo f.hi e.value ∷ fs)
      content k = by_place (entry e.lo f.hi e.value) k
          (λ l u. by_lt_z e.hi k
          (λ m. same_along eq (sym (at_over e (f ∷ fs) k m ∙ at_in f fs k (omega (arith, ints, touch, m)) u)) (sym (at_in (entry e.lo f.hi e.value) fs k l u)) (laws.symm f.value e.value ∙ alike))
          (λ m. same_along eq (sym (at_in e (f ∷ fs) k l m)) (sym (at_in (entry e.lo f.hi e.value) fs k l u)) (laws.refl e.value)))
          (λ l. same_along eq (sym (at_under e (f ∷ fs) k l ∙ at_under f fs k (omega (arith, ints, l, d.0, touch)))) (sym (at_under (entry e.lo f.hi e.value) fs k l)) (same_itself eq laws (at fs k)))
          (λ u. same_along eq (sym (at_over e (f ∷ fs) k (omega (arith, ints, u, d.2.0, touch)) ∙ at_over f fs k u)) (sym (at_over (entry e.lo f.hi e.value) fs k u)) (same_itself eq laws (at fs k)))

  -- an entry before a list that can be shorter
  behind : (e : Entry V) (es : List (Entry V)) → IsDisjoint (e ∷ es) → IsShorter es → IsShorter (e ∷ es)
  behind e es d s = record {
    others = e ∷ s.others;
    disjoint = (d.0, clear_of e s.others (λ k h. none_of_same eq (at es k) (at s.others k) (s.content k) (at_clear e es k d.1 h)), s.disjoint);
    content = λ k. same_cond (holds e k) (at es k) (at s.others k) (s.content k);
    fewer = omega (arith, s.fewer);
  }
    where
      same_cond : (b : Bool) (x y : Option V) → SameOption eq x y → SameOption eq (cond b (Some e.value) x) (cond b (Some e.value) y)
      same_cond true x y h = laws.refl e.value
      same_cond false x y h = h

  -- an ascending disjoint list is canonical, or a shorter one has its content
  canonical_or_shorter : (M : List (Entry V)) → IsDisjoint M → IsAscending M → IsCanonical eq M ⊎ IsShorter M
  canonical_or_shorter [] d a = inl tt
  canonical_or_shorter (e ∷ []) d a = inl (d.0, tt, tt)
  canonical_or_shorter (e ∷ f ∷ fs) d a =
      let o = in_order e f fs d a in
      let rest = canonical_or_shorter (f ∷ fs) d.2 a.1 in
      by_lt_z (e.hi +ℤ pos 1) f.lo
      (λ l. later rest (o, λ p. absurd (omega (arith, ints, p, l))))
      (λ l. by_value rest (eq e.value f.value) refl (omega (arith, ints, o, l)))
    where
      later : IsCanonical eq (f ∷ fs) ⊎ IsShorter (f ∷ fs) → (e.hi <ℤ f.lo) × (f.lo ≡ e.hi +ℤ pos 1 → eq e.value f.value ≡ false) → IsCanonical eq (e ∷ f ∷ fs) ⊎ IsShorter (e ∷ f ∷ fs)
      later (inl c) apart = inl (d.0, apart, c)
      later (inr s) apart = inr (behind e (f ∷ fs) d s)

      by_value : IsCanonical eq (f ∷ fs) ⊎ IsShorter (f ∷ fs) → (b : Bool) → eq e.value f.value ≡ b → f.lo ≡ e.hi +ℤ pos 1 → IsCanonical eq (e ∷ f ∷ fs) ⊎ IsShorter (e ∷ f ∷ fs)
      by_value rest true p touch = inr (joined e f fs d touch p)
      by_value rest false p touch = later rest (omega (arith, ints, touch), λ _. p)

  pub canonical_is_shortest : CanonicalIsShortest eq
  canonical_is_shortest L l =
      let c = canonical eq laws L l in
      record {
        fewest = λ M d s. fewest eq laws L M c d s;
        only = λ M d a s n. ⊎_elim
            (λ (m : IsCanonical eq M). unique eq laws L M c m s)
            (λ (h : IsShorter M). absurd (too_few M s h (fewest eq laws L h.others c h.disjoint (λ k. same_trans eq laws (at L k) (at M k) (at h.others k) (s k) (h.content k))) n))
            (canonical_or_shorter M d a);
      }
    where
      too_few : (M : List (Entry V)) → SameContent eq L M → (h : IsShorter M) → length L ≤ length h.others → length M ≡ length L → ⊥
      too_few M s h f n = omega (arith, f, n, h.fewer)
