-- The values of pairs, by their positions, and the remaining values.
use Rattle.blaze_table.proofs.Words.{by_join}
use Rattle.std.proofs.Common.{◌≡◌, ℕ, zero, suc, ◌-◌, ◌<◌, ◌≤◌, ℤ, Bool, List, [], ◌∷◌, length, slice_set, Some, refl, ◌∙◌, sym, ap, subst, arith, get_or, option_map}
use Rattle.std.specs.Prelude.{slice_get, IsSome}
use Rattle.std.specs.Cmp.{IsEquivalence}
use Rattle.std.proofs.lemmas.List.{length-map}
use Rattle.std.proofs.lemmas.Option.{slice_get-map, slice_get_read}
use Rattle.blaze_entries.specs.Entries.{Entry, SameOption, shown_entry, shown_list}
use Rattle.blaze_entries.specs.Splice.{glue}
use Rattle.blaze_table.specs.declared.sweep.pair_value.PairValue.{PairValue}
use Rattle.blaze_table.specs.declared.sweep.pair_value.PairValue.TheVariants.{Moved}
use Rattle.blaze_table.specs.PairValue.{value_of_pair, value_in}

-- ---- an item of a list replaced

pub get_set_same : {X : Type 0} (xs : List X) (i : ℕ) (x : X) → i < length xs → slice_get (slice_set xs i x) i ≡ Some x
get_set_same [] i x l = absurd (omega arith)
get_set_same (z ∷ xs) zero x l = refl
get_set_same (z ∷ xs) (suc i) x l = get_set_same xs i x (omega arith)

pub get_set_other : {X : Type 0} (xs : List X) (i j : ℕ) (x : X) → (i ≡ j → ⊥) → slice_get (slice_set xs i x) j ≡ slice_get xs j
get_set_other [] i j x n = refl
get_set_other (z ∷ xs) zero zero x n = absurd (n refl)
get_set_other (z ∷ xs) zero (suc j) x n = refl
get_set_other (z ∷ xs) (suc i) zero x n = refl
get_set_other (z ∷ xs) (suc i) (suc j) x n = get_set_other xs i j x (λ q. n (ap suc q))

-- ---- the value at a position

module _ {V : Type 0} where
  pub within_held : (es : List (Entry V)) (values : List (PairValue V)) (place : ℕ) → IsSome (value_in es values place) → place < length values
  within_held es [] place h = cc
  within_held es (w ∷ values) zero h = omega arith
  within_held es (w ∷ values) (suc place) h = let l = within_held es values place h in omega (arith, l)

  pub within_entries : (es : List (Entry V)) (at : ℕ) → IsSome (option_map (λ (e : Entry V). e.value) (slice_get es at)) → at < length es
  within_entries [] at h = cc
  within_entries (e ∷ es) zero h = omega arith
  within_entries (e ∷ es) (suc at) h = let l = within_entries es at h in omega (arith, l)

  -- the value of an entry, as the code reads it
  pub moved_value : {T : Type 0} (rank : T → ℤ) (xs : List (T × T × V)) (values : List (PairValue V)) (place at : ℕ) (x : T × T × V) → slice_get values place ≡ Some (Moved at) → IsSome (value_in (shown_list rank xs) values place) → x ≡ get_or xs at x → value_in (shown_list rank xs) values place ≡ Some x.2
  moved_value rank xs values place at x m h q =
      let w = within_entries (shown_list rank xs) at (subst (λ o. IsSome (value_of_pair (shown_list rank xs) o)) m h) in
      let l : at < length xs = omega (arith, w, length-map xs (shown_entry rank (λ (v : V). v))) in
      ap (value_of_pair (shown_list rank xs)) m
      ∙ ap (option_map (λ (e : Entry V). e.value)) (slice_get-map (shown_entry rank (λ v. v)) xs at ∙ ap (option_map (shown_entry rank (λ v. v))) (slice_get_read xs (length xs) at x refl l q))

  -- an entry keeps its value
  pub glue_keeps : (eq : V → V → Bool) (es : List (Entry V)) (p : Entry V) (i : ℕ) (v : V) → option_map (λ (e : Entry V). e.value) (slice_get es i) ≡ Some v → option_map (λ (e : Entry V). e.value) (slice_get (glue eq es (p ∷ [])) i) ≡ Some v
  glue_keeps eq [] p i v q = cc
  glue_keeps eq (e ∷ []) p zero v q = by_join eq e p []
      (λ t a r. ap (λ l. option_map (λ (x : Entry V). x.value) (slice_get l 0)) r ∙ q)
      (λ n r. ap (λ l. option_map (λ (x : Entry V). x.value) (slice_get l 0)) r ∙ q)
  glue_keeps eq (e ∷ []) p (suc i) v q = cc
  glue_keeps eq (e ∷ f ∷ es) p zero v q = q
  glue_keeps eq (e ∷ f ∷ es) p (suc i) v q = glue_keeps eq (f ∷ es) p i v q

  pub glue_some : (eq : V → V → Bool) (es : List (Entry V)) (p : Entry V) → 1 ≤ length (glue eq es (p ∷ []))
  glue_some eq [] p = omega arith
  glue_some eq (e ∷ []) p = by_join eq e p [] (λ t a r. rw r (omega arith)) (λ n r. rw r (omega arith))
  glue_some eq (e ∷ f ∷ es) p = omega arith

  -- the last entry has a value equal to the appended one
  pub glue_last : (eq : V → V → Bool) → IsEquivalence eq → (es : List (Entry V)) (p : Entry V) → SameOption eq (option_map (λ (e : Entry V). e.value) (slice_get (glue eq es (p ∷ [])) (length (glue eq es (p ∷ [])) - 1))) (Some p.value)
  glue_last eq laws [] p = laws.refl p.value
  glue_last eq laws (e ∷ []) p = by_join eq e p []
      (λ t a r. subst (λ l. SameOption eq (option_map (λ (x : Entry V). x.value) (slice_get l (length l - 1))) (Some p.value)) (sym r) a)
      (λ n r. subst (λ l. SameOption eq (option_map (λ (x : Entry V). x.value) (slice_get l (length l - 1))) (Some p.value)) (sym r) (laws.refl p.value))
  glue_last eq laws (e ∷ f ∷ es) p =
      let tail = glue eq (f ∷ es) (p ∷ []) in
      let some = glue_some eq (f ∷ es) p in
      let step : suc (length tail) - 1 ≡ suc (length tail - 1) = omega (arith, some) in
      subst (λ n. SameOption eq (option_map (λ (x : Entry V). x.value) (slice_get (e ∷ tail) n)) (Some p.value)) (sym step) (glue_last eq laws (f ∷ es) p)
