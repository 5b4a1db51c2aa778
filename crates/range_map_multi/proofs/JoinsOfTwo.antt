-- The joins of many maps, where there are two.
use Rattle.range_map_multi.proofs.Words.{◌≡◌, ℤ, Bool, List, [], ◌∷◌, map, Option, Some, None, option_map, is_some, refl, ◌∙◌, sym, ap, subst, Mut, list_all, list_any, IsEquivalence, by_lt_z, same_itself, Entry, entry, at, SameOption, SameEntries, AreKeys, IsRangeMap, canonical_is_unique, canonical, one_per_run, JoinKind, Inner, Full, entries_with_results, IsJoined, as_row, paired, pair_eq, IsJoinOf, row_eq, as_list, at_rows, canonical_rows, pair_laws, below_all, above_all, asked_row, IsJoinOfMany, IsManyJoined, InnerJoinOfTwoIsInnerJoin, FullJoinOfTwoIsFullJoin}
use Rattle.range_map_multi.proofs.OfTwo.{one_list}
use Rattle.range_map_multi.proofs.RowSegments.{rows_equiv}

inner_rows : {V : Type 0} (x y : Option V) → option_map as_list (paired Inner x y) ≡ asked_row (list_all is_some) (x ∷ y ∷ [])
inner_rows None y = refl
inner_rows (Some v) None = refl
inner_rows (Some v) (Some w) = refl

full_rows : {V : Type 0} (x y : Option V) → option_map as_list (paired Full x y) ≡ asked_row (list_any is_some) (x ∷ y ∷ [])
full_rows None None = refl
full_rows None (Some w) = refl
full_rows (Some v) y = refl

module _ {V : Type 0} (eqv : V → V → Bool) (laws : IsEquivalence eqv) (low high : ℤ) where
  keys_rows : (ps : List (Entry (Option V × Option V))) → AreKeys low high ps → AreKeys low high (map as_row ps)
  keys_rows [] k = tt
  keys_rows (p ∷ ps) k = (k.0, k.1, keys_rows ps k.2)

  rows_of : (ps : List (Entry (Option V × Option V))) → IsRangeMap (pair_eq eqv eqv) low high ps → IsRangeMap (row_eq eqv) low high (map as_row ps)
  rows_of ps m = record {
    runs = one_per_run (row_eq eqv) (rows_equiv eqv laws) (map as_row ps) (canonical_rows eqv ps (canonical (pair_eq eqv eqv) (pair_laws eqv eqv laws laws) ps m.runs));
    keys = keys_rows ps m.keys;
  }

  -- answers on the same ranges
  same_answered : {W : Type 0} (ss : List (Entry (List (Option V)))) (ps : List (Entry (Option V × Option V))) (ws : List W) → SameEntries (row_eq eqv) ss (map as_row ps) → entries_with_results ss ws ≡ entries_with_results ps ws
  same_answered [] [] ws s = refl
  same_answered [] (p ∷ ps) ws s = absurd s
  same_answered (q ∷ ss) [] ws s = absurd s
  same_answered (q ∷ ss) (p ∷ ps) [] s = refl
  same_answered (q ∷ ss) (p ∷ ps) (w ∷ ws) s =
      ap (λ l. entry l q.hi w ∷ entries_with_results ss ws) s.0 ∙ ap (λ h. entry p.lo h w ∷ entries_with_results ss ws) s.1 ∙ ap (λ l. entry p.lo p.hi w ∷ l) (same_answered ss ps ws s.3)

  module _ (kind : JoinKind) (asks : List (Option V) → Bool) (same : (x y : Option V) → option_map as_list (paired kind x y) ≡ asked_row asks (x ∷ y ∷ [])) (left right : List (Entry V)) where
    same_segments : (ss : List (Entry (List (Option V)))) (ps : List (Entry (Option V × Option V))) → IsJoinOfMany eqv low high asks (left ∷ right ∷ []) ss → IsJoinOf eqv eqv low high kind left right ps → SameEntries (row_eq eqv) ss (map as_row ps)
    same_segments ss ps s p =
        let rows = rows_of ps p.range_map in
        canonical_is_unique (row_eq eqv) (rows_equiv eqv laws) ss (map as_row ps) s.range_map.runs rows.runs
        (λ k. subst (SameOption (row_eq eqv) (at ss k)) (by_lt_z k low
        (λ l. below_all low high ss k s.range_map.keys l ∙ sym (below_all low high (map as_row ps) k rows.keys l))
        (λ l. by_lt_z high k
        (λ h. above_all low high ss k s.range_map.keys h ∙ sym (above_all low high (map as_row ps) k rows.keys h))
        (λ h. s.content k l h ∙ sym (at_rows ps k ∙ ap (option_map as_list) (p.content k) ∙ same (at left k) (at right k)))))
        (same_itself (row_eq eqv) (rows_equiv eqv laws) (at ss k)))

    joins_alike : {F G X Y W : Type 0} (shows : X → List (Option V)) (g : Mut F X W) (shows' : Y → Option V × Option V) (g' : Mut G Y W) (eq : W → W → Bool) → IsEquivalence eq → (f : F) (f' : G) (many two : List (Entry W))
        → (m : IsManyJoined shows g eqv low high asks eq f (left ∷ right ∷ []) many) → (t : IsJoined shows' g' eqv eqv low high kind eq f' left right two) → m.answered.answers ≡ t.answered.answers → SameEntries eq many two
    joins_alike shows g shows' g' eq laws_w f f' many two m t e =
        let is = same_answered m.segments t.segments m.answered.answers (same_segments m.segments t.segments m.are_segments t.are_segments) ∙ ap (entries_with_results t.segments) e in
        one_list eq laws_w low high (at (entries_with_results t.segments t.answered.answers)) many two m.answered.range_map t.answered.range_map
        (λ k. subst (SameOption eq (at many k)) (ap (λ l. at l k) is) (m.answered.content k)) t.answered.content

module _ {F G X Y V W : Type 0} (shows : X → List (Option V)) (g : Mut F X W) (shows' : Y → Option V × Option V) (g' : Mut G Y W) (eqv : V → V → Bool) (laws_v : IsEquivalence eqv) (eq : W → W → Bool) (laws : IsEquivalence eq) (low high : ℤ) where
  pub inner_join_of_two : InnerJoinOfTwoIsInnerJoin shows g shows' g' eqv eq low high
  inner_join_of_two f f' left right many two m t e = joins_alike eqv laws_v low high Inner (list_all is_some) inner_rows left right shows g shows' g' eq laws f f' many two m t e

  pub full_join_of_two : FullJoinOfTwoIsFullJoin shows g shows' g' eqv eq low high
  full_join_of_two f f' left right many two m t e = joins_alike eqv laws_v low high Full (list_any is_some) full_rows left right shows g shows' g' eq laws f f' many two m t e
