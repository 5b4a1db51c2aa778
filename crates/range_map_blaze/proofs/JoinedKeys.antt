-- The keys of joins of maps, and of maps with what a closure answers at their values.
use Rattle.range_map_blaze.proofs.Words.{nat_of, ◌≡◌, ℕ, zero, suc, ◌+◌, ℤ, pos, ◌+ℤ◌, ◌-ℤ◌, ◌<ℤ◌, Bool, cond, List, [], ◌∷◌, Option, None, refl, ◌∙◌, sym, ap, subst, arith, is_some, IsEquivalence, Mut, ints, by_lt_z, length-map, same_trans, Entry, at, SameOption, AreKeys, canonical_is_unique, at_under, at_over, back, entries_with_results, answers_keep_keys, left_join_has_left_keys, full_join_is_inner, AnswersAreOnItsKeys, FullJoinIsInnerJoin, HaveSameKeys, IsUniversalMap, LeftJoinIsOnTheLeftKeys}
use Rattle.blaze_entries.specs.Count.{mapped}

same_mapped : {V W : Type 0} (c : ℤ → Option V) (d : ℤ → Option W) → ((k : ℤ) → is_some (d k) ≡ is_some (c k)) → (a : ℤ) (n : ℕ) → mapped d a n ≡ mapped c a n
unfolding mapped
same_mapped c d p a zero = refl
same_mapped c d p a (suc n) = ap (λ b. cond b 1 0 + mapped d (a +ℤ pos 1) n) (p a) ∙ ap (λ m. cond (is_some (c a)) 1 0 + m) (same_mapped c d p (a +ℤ pos 1) n)

same_keys : {V W : Type 0} (low high : ℤ) (entries : List (Entry V)) (new : List (Entry W)) → ((k : ℤ) → is_some (at new k) ≡ is_some (at entries k)) → HaveSameKeys low high entries new
same_keys low high entries new p = record { keys = p; count = same_mapped (at entries) (at new) p low (nat_of (high -ℤ low +ℤ pos 1)) }

pub answers_are_on_its_keys : {F A V W : Type 0} (shows : A → V) (g : Mut F A W) (eq : W → W → Bool) (low high : ℤ) → AnswersAreOnItsKeys shows g eq low high
answers_are_on_its_keys {V = V} shows g eq low high f entries new t =
    same_keys low high entries new (answers_keep_keys V eq entries t.answers new (t.in_turn.count ∙ length-map entries (λ e. e.value)) t.content)

-- no key below the least or above the greatest is mapped
pub below_all : {V : Type 0} (low high : ℤ) (es : List (Entry V)) (k : ℤ) → AreKeys low high es → k <ℤ low → at es k ≡ None
below_all low high [] k a h = refl
below_all low high (e ∷ es) k a h = at_under e es k (omega (arith, ints, a.0)) ∙ below_all low high es k a.2 h

pub above_all : {V : Type 0} (low high : ℤ) (es : List (Entry V)) (k : ℤ) → AreKeys low high es → high <ℤ k → at es k ≡ None
above_all low high [] k a h = refl
above_all low high (e ∷ es) k a h = at_over e es k (omega (arith, ints, a.1)) ∙ above_all low high es k a.2 h

same_universal : {A B : Type 0} (eqa : A → A → Bool) (eqb : B → B → Bool) (low high : ℤ) (left : List (Entry A)) (right : List (Entry B)) → IsUniversalMap eqa low high left → IsUniversalMap eqb low high right → (k : ℤ) → is_some (at left k) ≡ is_some (at right k)
same_universal eqa eqb low high left right l r k = by_lt_z k low
    (λ h. ap is_some (below_all low high left k l.range_map.keys h) ∙ sym (ap is_some (below_all low high right k r.range_map.keys h)))
    (λ h. by_lt_z high k
    (λ u. ap is_some (above_all low high left k l.range_map.keys u) ∙ sym (ap is_some (above_all low high right k r.range_map.keys u)))
    (λ u. l.universal k h u ∙ sym (r.universal k h u)))

module _ {F X W A B : Type 0} (shows : X → Option A × Option B) (g : Mut F X W) (eqa : A → A → Bool) (eqb : B → B → Bool) (eq : W → W → Bool) (low high : ℤ) where
  pub left_join_is_on_the_left_keys : LeftJoinIsOnTheLeftKeys shows g eqa eqb eq low high
  left_join_is_on_the_left_keys f left right new j =
      let on = answers_are_on_its_keys shows g eq low high f j.segments new j.answered in
      same_keys low high left new (λ k. on.keys k ∙ left_join_has_left_keys eqa eqb low high left right j.segments j.are_segments k)

  pub full_join_is_inner_join : {G Y : Type 0} (shows' : Y → Option A × Option B) (g' : Mut G Y W) → IsEquivalence eqa → IsEquivalence eqb → IsEquivalence eq → FullJoinIsInnerJoin shows g eqa eqb eq low high shows' g'
  full_join_is_inner_join shows' g' lawsa lawsb laws f f' left right full inner l r j i answers =
      let segments : j.segments ≡ i.segments = full_join_is_inner eqa eqb lawsa lawsb low high left right j.segments i.segments (same_universal eqa eqb low high left right l r) j.are_segments i.are_segments in
      let made : entries_with_results j.segments j.answered.answers ≡ entries_with_results i.segments i.answered.answers = ap (λ s. entries_with_results s j.answered.answers) segments ∙ ap (entries_with_results i.segments) answers in
      canonical_is_unique eq laws full inner j.answered.range_map.runs i.answered.range_map.runs
      (λ k. same_trans eq laws (at full k) (at (entries_with_results i.segments i.answered.answers) k) (at inner k)
      (subst (λ es. SameOption eq (at full k) (at es k)) made (j.answered.content k))
      (back eq laws inner (entries_with_results i.segments i.answered.answers) i.answered.content k))
