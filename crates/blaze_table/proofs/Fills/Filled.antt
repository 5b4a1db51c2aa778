-- The result of a fill, key by key.
use Rattle.blaze_table.proofs.Words.{option_or, ◌≡◌, ℤ, ◌≤ℤ◌, ◌<ℤ◌, Bool, cond, List, Option, Some, None, refl, ◌∙◌, sym, subst, ap, inl, inr, ◌⊎◌, IsSome, IsEquivalence, same_along, same_itself, or_none, Entry, entry, at, holds, SameOption, IsRangeMap, filled_content, IsFilled, IsMappedFrom, by_place, holds_in, holds_under, holds_over}
use Rattle.blaze_table.proofs.Fills.KeptEntries.{all_kept}

module _ {V : Type 0} where
  module _ (content : ℤ → Option V) (v : V) (l h k : ℤ) where
    pub filled_in : l ≤ℤ k → k ≤ℤ h → filled_content l h v content k ≡ option_or (content k) (Some v)
    filled_in a b = ap (λ t. option_or (content k) (cond t (Some v) None)) (holds_in (entry l h v) k a b)

    pub filled_under : k <ℤ l → filled_content l h v content k ≡ content k
    filled_under a = ap (λ t. option_or (content k) (cond t (Some v) None)) (holds_under (entry l h v) k a) ∙ or_none (content k)

    pub filled_over : h <ℤ k → filled_content l h v content k ≡ content k
    filled_over b = ap (λ t. option_or (content k) (cond t (Some v) None)) (holds_over (entry l h v) k b) ∙ or_none (content k)

  pub or_some : (a b : Option V) → IsSome a → option_or a b ≡ a
  or_some (Some x) b s = refl
  or_some None b s = cc

  -- a fill of a range that has values everywhere changes nothing
  pub filled_held : (content : ℤ → Option V) (v : V) (l h : ℤ) → IsMappedFrom content l h → (k : ℤ) → filled_content l h v content k ≡ content k
  filled_held content v l h s k = by_place (entry l h v) k
      (λ a b. filled_in content v l h k a b ∙ or_some (content k) (Some v) (s k a b))
      (filled_under content v l h k)
      (filled_over content v l h k)

-- What the filled content says in plain words: at the keys of the range without a value, at those with one, and at the others.
module _ {V : Type 0} (eq : V → V → Bool) (p : Entry V) (old new : List (Entry V)) (content : (k : ℤ) → SameOption eq (at new k) (filled_content p.lo p.hi p.value (at old) k)) where
  pub fill_inside : (k : ℤ) → p.lo ≤ℤ k → k ≤ℤ p.hi → at old k ≡ None → SameOption eq (at new k) (Some p.value)
  fill_inside k from to none = subst (SameOption eq (at new k)) (filled_in (at old) p.value p.lo p.hi k from to ∙ ap (λ o. option_or o (Some p.value)) none) (content k)

  pub fill_held : (k : ℤ) → IsSome (at old k) → SameOption eq (at new k) (at old k)
  fill_held k some = subst (SameOption eq (at new k)) (or_some (at old k) (cond (holds p k) (Some p.value) None) some) (content k)

  pub fill_outside : (k : ℤ) → (k <ℤ p.lo) ⊎ (p.hi <ℤ k) → SameOption eq (at new k) (at old k)
  fill_outside k (inl under) = subst (SameOption eq (at new k)) (filled_under (at old) p.value p.lo p.hi k under) (content k)
  fill_outside k (inr over) = subst (SameOption eq (at new k)) (filled_over (at old) p.value p.lo p.hi k over) (content k)

-- if each key of the range has a value, the list is already filled
pub filled_none : {V : Type 0} (eq : V → V → Bool) (laws : IsEquivalence eq) (low high l h : ℤ) (v : V) (old : List (Entry V)) → IsRangeMap eq low high old → IsMappedFrom (at old) l h → IsFilled eq low high (entry l h v) old old
filled_none {V} eq laws low high l h v old r s = record {
  range_map = r;
  content = content;
  inside = fill_inside eq (entry l h v) old old content;
  held = fill_held eq (entry l h v) old old content;
  outside = fill_outside eq (entry l h v) old old content;
  kept = all_kept eq (filled_content l h v (at old)) old;
}
  where
    content : (k : ℤ) → SameOption eq (at old k) (filled_content l h v (at old) k)
    content k = same_along eq {a = at old k} refl (sym (filled_held (at old) v l h s k)) (same_itself eq laws (at old k))
