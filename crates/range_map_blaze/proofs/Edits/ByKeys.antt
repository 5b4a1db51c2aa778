-- What a range changed by a function has key by key, where the function's answers are those of a plain function.
use Rattle.range_map_blaze.proofs.Words.{AllocError, ◌≡◌, ℤ, ◌≤ℤ◌, ◌<ℤ◌, Bool, true, false, ◌&&◌, cond, List, [], ◌∷◌, map, Option, Some, None, Result, refl, ◌∙◌, sym, ap, IsEquivalence, options_equiv, Mut, option_eq, option_map, option_or, int_le, le_true, le_false, same_along, same_back, same_itself, same_trans, IsRangeMap, Entry, entry, at, SameEntries, SameOption, canonical_is_unique, at_in, at_over, at_under, by_place, content_as, IsFilledWithNone, changed, AreGivenBy, UpdatingIsByKeys, PartUpdatingIsByKeys, InsertingIsUpdating, InsertingAbsentIsUpdating, RemovingIsUpdating, answer_or, updated}
use Rattle.range_map_blaze.proofs.JoinedKeys.{below_all, above_all}
use Rattle.range_map_blaze.proofs.Edits.Asked.{same_answer}

module _ {V : Type 0} (eq : V → V → Bool) (laws : IsEquivalence eq) (l h : ℤ) (old : List (Entry V)) (change : Option V → Option V) where
  abbrev given : List (Entry (Option V)) → List (Entry (Option V))
  given pieces = map (λ p. entry p.lo p.hi (change p.value)) pieces

  at_given : (pieces : List (Entry (Option V))) (k : ℤ) → at (given pieces) k ≡ option_map change (at pieces k)
  at_given [] k = refl
  at_given (p ∷ pieces) k = by_place p k
      (λ u v. at_in (entry p.lo p.hi (change p.value)) (given pieces) k u v ∙ sym (ap (option_map change) (at_in p pieces k u v)))
      (λ u. at_under (entry p.lo p.hi (change p.value)) (given pieces) k u ∙ at_given pieces k ∙ sym (ap (option_map change) (at_under p pieces k u)))
      (λ u. at_over (entry p.lo p.hi (change p.value)) (given pieces) k u ∙ at_given pieces k ∙ sym (ap (option_map change) (at_over p pieces k u)))

  within_is : (k : ℤ) → l ≤ℤ k → k ≤ℤ h → changed l h change (at old) k ≡ change (at old k)
  within_is k u v = ap (λ b. cond (b && int_le k h) (change (at old k)) (at old k)) (le_true l k u) ∙ ap (λ b. cond b (change (at old k)) (at old k)) (le_true k h v)

  under_is : (k : ℤ) → k <ℤ l → changed l h change (at old) k ≡ at old k
  under_is k u = ap (λ b. cond (b && int_le k h) (change (at old k)) (at old k)) (le_false l k u)

  over_is : (k : ℤ) → h <ℤ k → changed l h change (at old) k ≡ at old k
  over_is k u = ap (λ b. cond (int_le l k && b) (change (at old k)) (at old k)) (le_false k h u) ∙ never_equal (int_le l k)
    where
      never_equal : (b : Bool) → cond (b && false) (change (at old k)) (at old k) ≡ at old k
      never_equal true = refl
      never_equal false = refl

  -- the answers, key by key
  pub answers_by_keys : (pieces answers : List (Entry (Option V))) → IsFilledWithNone eq l h old pieces → AreGivenBy eq change pieces answers → (k : ℤ) → SameOption eq (updated answers (at old) k) (changed l h change (at old) k)
  answers_by_keys pieces answers is are k =
      same_along eq {a = updated answers (at old) k} refl (is_changed k)
      (same_answer eq laws (at answers k) (at (given pieces) k) (at old k) (content_as (option_eq eq) (options_equiv laws) answers (given pieces) are k))
    where
      is_changed : (k : ℤ) → answer_or (at (given pieces) k) (at old k) ≡ changed l h change (at old) k
      is_changed k = ap (λ o. answer_or o (at old k)) (at_given pieces k) ∙ by_place (entry {V = Unit {0}} l h tt) k
          (λ u v. ap (λ o. answer_or (option_map change o) (at old k)) (is.content k u v) ∙ sym (within_is k u v))
          (λ u. ap (λ o. answer_or (option_map change o) (at old k)) (below_all l h pieces k is.range_map.keys u) ∙ sym (under_is k u))
          (λ u. ap (λ o. answer_or (option_map change o) (at old k)) (above_all l h pieces k is.range_map.keys u) ∙ sym (over_is k u))

module _ {F A V : Type 0} (shows : A → Option V) (g : Mut F A (Result (Option V) AllocError)) (eq : V → V → Bool) (laws : IsEquivalence eq) (low high : ℤ) where
  pub updating_is_by_keys : UpdatingIsByKeys shows g eq low high
  updating_is_by_keys l h f old new change u are k =
      same_trans eq laws (at new k) (updated u.answers (at old) k) (changed l h change (at old) k) (u.content k)
      (answers_by_keys eq laws l h old change u.asked.pieces u.answers u.asked.are_pieces are k)

  pub part_updating_is_by_keys : PartUpdatingIsByKeys shows g eq low high
  part_updating_is_by_keys l h f old new change u are k =
      same_trans eq laws (at new k) (cond (int_le k u.last) (updated u.answers (at old) k) (at old k)) (cond (int_le k u.last) (changed l h change (at old) k) (at old k)) (u.content k) (by_side (int_le k u.last))
    where
      by_side : (b : Bool) → SameOption eq (cond b (updated u.answers (at old) k) (at old k)) (cond b (changed l h change (at old) k) (at old k))
      by_side true = answers_by_keys eq laws l h old change u.asked.pieces u.answers u.asked.are_pieces are k
      by_side false = same_itself eq laws (at old k)

  -- range maps with the same content
  alike : (c : ℤ → Option V) (new other : List (Entry V)) → IsRangeMap eq low high new → IsRangeMap eq low high other → ((k : ℤ) → SameOption eq (at new k) (c k)) → ((k : ℤ) → SameOption eq (at other k) (c k)) → SameEntries eq new other
  alike c new other r s p q = canonical_is_unique eq laws new other r.runs s.runs (λ k. same_trans eq laws (at new k) (c k) (at other k) (p k) (same_back eq laws (at other k) (c k) (q k)))

  pub inserting_is_updating : InsertingIsUpdating shows g eq low high
  inserting_is_updating l h f v old new inserted u are p =
      alike (changed l h (λ _. Some v) (at old)) new inserted u.range_map p.range_map (updating_is_by_keys l h f old new (λ _. Some v) u are) p.content

  pub removing_is_updating : RemovingIsUpdating shows g eq low high
  removing_is_updating l h f old new removed u are p =
      alike (changed l h (λ _. None) (at old)) new removed u.range_map p.range_map (updating_is_by_keys l h f old new (λ _. None) u are) p.content

  pub inserting_absent_is_updating : InsertingAbsentIsUpdating shows g eq low high
  inserting_absent_is_updating l h f v old new inserted u are p =
      alike (changed l h (λ o. option_or o (Some v)) (at old)) new inserted u.range_map p.range_map (updating_is_by_keys l h f old new (λ o. option_or o (Some v)) u are)
      (λ k. same_along eq refl (turned (int_le l k && int_le k h) (at old k)) (p.content k))
    where
      turned : (b : Bool) (o : Option V) → option_or o (cond b (Some v) None) ≡ cond b (option_or o (Some v)) o
      turned true o = refl
      turned false None = refl
      turned false (Some x) = refl
