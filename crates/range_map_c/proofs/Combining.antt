-- A range changed by a closure, where each call returns what a plain function gives and changes no capture.
use Rattle.std.specs.declared.alloc.AllocError.{AllocError}
use Rattle.std.proofs.Common.{◌≡◌, ◌⊎◌, ◌<◌, ◌≤◌, ℕ, zero, suc, ℤ, pos, negsuc, ◌-ℤ◌, ◌≤ℤ◌, ◌<ℤ◌, Bool, true, false, ◌&&◌, cond, List, [], ◌∷◌, length, map, Option, Some, None, Result, Ok, Err, OnOk, OnErr, MatchResult, refl, ◌∙◌, sym, ap, subst, arith, nat_eq, inl, inr, w32, to_z, of_z}
use Rattle.std.proofs.lemmas.Int.{ints, by_lt_z}
use Rattle.std.specs.Prelude.{int_le, ◌↔◌}
use Rattle.blaze_int.proofs.Comparisons.{le_true, le_false}
use Rattle.blaze_entries.proofs.Alike.{same_along, same_itself}
use Rattle.blaze_entries.specs.Canonical.{IsRangeMap, HasEnd}
use Rattle.std.specs.Cmp.{nat_eq_equiv}
use Rattle.std.specs.Cmp.Lexicographic.{options_equiv}
use Rattle.std.specs.Fn.{Mut, Called}
use Rattle.std.specs.List.{FoldsTo, zip}
use Rattle.std.specs.Option.{option_eq}
use Rattle.blaze_entries.specs.Entries.{Entry, entry, at, SameEntries, SameOption}
use Rattle.blaze_entries.proofs.Paints.Painted.{entries_themselves}
use Rattle.blaze_streams.specs.Answers.{values, entries_with_results, AnswersAtValue, SomeCallAtValue}
use Rattle.range_map_blaze.specs.UpdateLaws.{changed, AreGivenBy}
use Rattle.range_map_blaze.specs.Updated.{changes, AreAnswersAtPieces, IsPartUpdated, IsSteady, IsUpdated, KeepsValues}
use Rattle.range_map_blaze.proofs.Edits.ByKeys.{updating_is_by_keys, part_updating_is_by_keys}
use Rattle.range_map_c.specs.Combined.{combined, IsCombined, IsEndOfPiece, IsPartCombined, LeavesAll}
use Rattle.range_map_c.specs.Status.{IsStatus, OnDone, OnRefused}

module _ {F A : Type 0} (shows : A → Option ℕ) (g : Mut F A (Result (Option ℕ) AllocError)) (change : Option ℕ → Option ℕ) (f : F)
    (says : (a : A) (w : Result (Option ℕ) AllocError) (f' : F) → Called g f a w f' → (w ≡ Ok (change (shows a))) × (f' ≡ f)) where
  abbrev ok : Option ℕ → Result (Option ℕ) AllocError
  ok r = Ok r

  same_ok : (r s : Option ℕ) → ok r ≡ ok s → r ≡ s
  same_ok r s e = cc

  given_in_turn : (pieces : List (Entry (Option ℕ))) (results : List (Option ℕ)) (last : F) → length (map ok results) ≡ length (values pieces)
      → FoldsTo (λ j c k. AnswersAtValue shows g j c.0 c.1 k) f (zip (values pieces) (map Ok results)) last → entries_with_results pieces results ≡ map (λ p. entry p.lo p.hi (change p.value)) pieces
  given_in_turn [] results last n t = refl
  given_in_turn (p ∷ pieces) [] last n t = absurd (omega (arith, n))
  given_in_turn (p ∷ pieces) (r ∷ results) last n t =
      let step = t.1 in
      let said = says step.arguments (Ok r) t.0 step.called in
      let head : r ≡ change p.value = same_ok r (change p.value) (said.0 ∙ ap (λ v. ok (change v)) step.shown) in
      let rest = subst (λ j. FoldsTo (λ j c k. AnswersAtValue shows g j c.0 c.1 k) j (zip (values pieces) (map Ok results)) last) said.1 t.2 in
      ap (λ v. entry p.lo p.hi v ∷ entries_with_results pieces results) head ∙ ap (λ es. entry p.lo p.hi (change p.value) ∷ es) (given_in_turn pieces results last (omega (arith, n)) rest)

  module _ (l h : ℤ) (old : List (Entry ℕ)) where
    given_by : (answers : List (Entry (Option ℕ))) (a : AreAnswersAtPieces shows g nat_eq l h f old answers) → answers ≡ map (λ p. entry p.lo p.hi (change p.value)) a.pieces
    given_by answers a = a.answers_are ∙ given_in_turn a.pieces a.results a.in_turn.last a.in_turn.count a.in_turn.calls

    same_given : (answers : List (Entry (Option ℕ))) (a : AreAnswersAtPieces shows g nat_eq l h f old answers) → AreGivenBy nat_eq change a.pieces answers
    same_given answers a =
        let given : List (Entry (Option ℕ)) = map (λ p. entry p.lo p.hi (change p.value)) a.pieces in
        subst (λ es. SameEntries (option_eq nat_eq) es given) (sym (given_by answers a)) (entries_themselves (option_eq nat_eq) (options_equiv nat_eq_equiv) given)

    -- a change is one of the results
    end_of_change : (pieces answers : List (Entry (Option ℕ))) (k : ℤ) → HasEnd (changes nat_eq pieces answers) k → HasEnd answers k
    end_of_change [] answers k e = absurd e
    end_of_change (p ∷ pieces) [] k e = absurd e
    end_of_change (p ∷ pieces) (a ∷ answers) k e = by_test (option_eq nat_eq a.value p.value) e (end_of_change pieces answers k)
      where
        by_test : (b : Bool) → HasEnd (cond b (changes nat_eq pieces answers) (a ∷ changes nat_eq pieces answers)) k → (HasEnd (changes nat_eq pieces answers) k → HasEnd answers k) → HasEnd (a ∷ answers) k
        by_test true e rest = inr (rest e)
        by_test false (inl is) rest = inl is
        by_test false (inr e) rest = inr (rest e)

    end_of_piece : (pieces : List (Entry (Option ℕ))) (k : ℤ) → HasEnd (map (λ p. entry p.lo p.hi (change p.value)) pieces) k → HasEnd pieces k
    end_of_piece [] k e = e
    end_of_piece (p ∷ pieces) k (inl is) = inl is
    end_of_piece (p ∷ pieces) k (inr e) = inr (end_of_piece pieces k e)

    module _ (low high : ℤ) (new : List (Entry ℕ)) where
      pub all_combined : IsUpdated shows g nat_eq low high l h f old new → IsCombined low high l h change old new
      all_combined u = record {
        range_map = u.range_map;
        content = updating_is_by_keys shows g nat_eq nat_eq_equiv low high l h f old new change u (same_given u.answers u.asked);
      }

      pub part_combined : IsPartUpdated shows g nat_eq low high l h f old new → IsPartCombined low high l h change old new
      part_combined u = record {
        last = u.last;
        is_end = by_side u.is_end;
        range_map = u.range_map;
        content = part_updating_is_by_keys shows g nat_eq nat_eq_equiv low high l h f old new change u (same_given u.answers u.asked);
      }
        where
          by_side : (u.last <ℤ l) ⊎ HasEnd (changes nat_eq u.asked.pieces u.answers) u.last → (u.last <ℤ l) ⊎ IsEndOfPiece l h u.last old
          by_side (inl below) = inl below
          by_side (inr e) = inr (record {
            pieces = u.asked.pieces;
            are_pieces = u.asked.are_pieces;
            is_end = end_of_piece u.asked.pieces u.last (subst (λ es. HasEnd es u.last) (given_by u.answers u.asked) (end_of_change u.asked.pieces u.answers u.last e));
          })

-- ---- where nothing changes

module _ (low high l h : ℤ) (change : Option ℕ → Option ℕ) (old new : List (Entry ℕ)) where
  under : (k : ℤ) → k <ℤ l → changed l h change (at old) k ≡ at old k
  under k u = ap (λ b. cond (b && int_le k h) (change (at old k)) (at old k)) (le_false l k u)

  over : (k : ℤ) → h <ℤ k → changed l h change (at old) k ≡ at old k
  over k u = ap (λ b. cond (int_le l k && b) (change (at old k)) (at old k)) (le_false k h u) ∙ never (int_le l k)
    where
      never : (b : Bool) → cond (b && false) (change (at old k)) (at old k) ≡ at old k
      never true = refl
      never false = refl

  kept : new ≡ old → (k : ℤ) (o : Option ℕ) → o ≡ at old k → SameOption nat_eq (at new k) o
  kept e k o is = same_along nat_eq (ap (λ es. at es k) (sym e)) (sym is) (same_itself nat_eq nat_eq_equiv (at old k))

  -- a range without a key
  pub nowhere_combined : h <ℤ l → IsRangeMap nat_eq low high old → new ≡ old → IsCombined low high l h change old new
  nowhere_combined u r e = record {
    range_map = subst (IsRangeMap nat_eq low high) (sym e) r;
    content = λ k. kept e k (changed l h change (at old) k) (by_lt_z k l (under k) (λ v. over k (omega (arith, ints))));
  }

  -- a list without entries, where the change leaves no value
  pub none_combined : old ≡ [] → change None ≡ None → IsRangeMap nat_eq low high old → new ≡ old → IsCombined low high l h change old new
  none_combined none leaves r e = record {
    range_map = subst (IsRangeMap nat_eq low high) (sym e) r;
    content = λ k. kept e k (changed l h change (at old) k) (ap (λ es. changed l h change (at es) k) none ∙ empty (int_le l k && int_le k h) ∙ sym (ap (λ es. at es k) none));
  }
    where
      empty : (b : Bool) → cond b (change None) None ≡ None
      empty true = leaves
      empty false = refl

  -- no key of the range
  pub nothing_combined : IsRangeMap nat_eq low high old → new ≡ old → IsPartCombined low high l h change old new
  nothing_combined r e = record {
    last = l -ℤ pos 1;
    is_end = inl (omega (arith, ints));
    range_map = subst (IsRangeMap nat_eq low high) (sym e) r;
    content = λ k. kept e k (cond (int_le k (l -ℤ pos 1)) (changed l h change (at old) k) (at old k))
        (by_lt_z (l -ℤ pos 1) k
        (λ u. ap (λ b. cond b (changed l h change (at old) k) (at old k)) (le_false k (l -ℤ pos 1) u))
        (λ u. ap (λ b. cond b (changed l h change (at old) k) (at old k)) (le_true k (l -ℤ pos 1) u) ∙ under k (omega (arith, ints, u))));
  }

-- ---- a change that leaves all as it is

module _ {F A : Type 0} (shows : A → Option ℕ) (g : Mut F A (Result (Option ℕ) AllocError)) (change : Option ℕ → Option ℕ) (f : F)
    (says : (a : A) (w : Result (Option ℕ) AllocError) (f' : F) → Called g f a w f' → (w ≡ Ok (change (shows a))) × (f' ≡ f)) where
  abbrev done : Option ℕ → Result (Option ℕ) AllocError
  done r = Ok r

  -- no call changes the function's state
  stays : (before : List (Option ℕ)) (f' : F) → FoldsTo (SomeCallAtValue shows g) f before f' → f' ≡ f
  stays [] f' calls = sym calls
  stays (v ∷ before) f' calls =
      let same = (says calls.1.1.arguments calls.1.0 calls.0 calls.1.1.called).1 in
      stays before f' (subst (λ j. FoldsTo (SomeCallAtValue shows g) j before f') same calls.2)

  pub leaves_keeps : (l h start end : ℤ) → start ≡ l → end ≡ h → (old : List (Entry ℕ)) → LeavesAll l h change old → KeepsValues shows g nat_eq start end f old
  unfolding LeavesAll
  leaves_keeps l h start end starts ends old leaves k from to before f' calls f'' r asked =
      let said = says asked.arguments r f'' (subst (λ j. Called g j asked.arguments r f'') (stays before f' calls) asked.called) in
      let kept = leaves k (omega (arith, ints, starts, from)) (omega (arith, ints, ends, to)) in
      subst (IsSteady nat_eq (at old k)) (sym (said.0 ∙ ap (λ o. done (change o)) asked.shown ∙ ap done kept)) ((options_equiv nat_eq_equiv).refl (at old k))

-- without entries, each key gets a value
pub leaves_none : (op v : ℕ) (l h : ℤ) (es : List (Entry ℕ)) → l ≤ℤ h → es ≡ [] → LeavesAll l h (combined op 0 v) es → ⊥
unfolding LeavesAll
leaves_none op v l h es order none leaves =
    let is : Some v ≡ None = subst (λ xs. combined op 0 v (at xs l) ≡ at xs l) none (leaves l (omega (arith, ints)) order) in
    cc

-- ---- by what the call returned, at a range whose ends are l and h

module _ {F A : Type 0} (shows : A → Option ℕ) (g : Mut F A (Result (Option ℕ) AllocError)) (change : Option ℕ → Option ℕ) (f : F)
    (says : (a : A) (w : Result (Option ℕ) AllocError) (f' : F) → Called g f a w f' → (w ≡ Ok (change (shows a))) × (f' ≡ f))
    (low high l h start end : ℤ) (starts : start ≡ l) (ends : end ≡ h) (old new : List (Entry ℕ)) where
  pub done_combined : (r : Result (Unit {0}) AllocError) → OnOk r (IsUpdated shows g nat_eq low high start end f old new) → OnOk r (IsCombined low high l h change old new)
  done_combined (Ok u) p =
      subst (λ a. IsCombined low high a h change old new) starts (subst (λ b. IsCombined low high start b change old new) ends (all_combined shows g change f says start end old low high new p))
  done_combined (Err e) p = tt

  pub refused_combined : IsRangeMap nat_eq low high old → (r : Result (Unit {0}) AllocError) → OnErr r ((new ≡ old) ⊎ IsPartUpdated shows g nat_eq low high start end f old new)
      → OnErr r (IsPartCombined low high l h change old new)
  refused_combined range_map (Ok u) p = tt
  refused_combined range_map (Err e) (inl same) = nothing_combined low high l h change old new range_map same
  refused_combined range_map (Err e) (inr part) =
      subst (λ a. IsPartCombined low high a h change old new) starts (subst (λ b. IsPartCombined low high start b change old new) ends (part_combined shows g change f says start end old low high new part))

-- ---- by what a call returned that was made at keys equal to l and h

module _ (low high l h start end : ℤ) (starts : start ≡ l) (ends : end ≡ h) (change : Option ℕ → Option ℕ) (old new : List (Entry ℕ)) where
  at_ends : IsCombined low high start end change old new → IsCombined low high l h change old new
  at_ends p = subst (λ a. IsCombined low high a h change old new) starts (subst (λ b. IsCombined low high start b change old new) ends p)

  pub done_again : (s : ℤ) → OnDone s (IsCombined low high start end change old new) → OnDone s (IsCombined low high l h change old new)
  done_again (pos zero) p = at_ends p
  done_again (pos (suc n)) p = tt
  done_again (negsuc n) p = tt

  pub done_by : (r : Result (Unit {0}) AllocError) (s : ℤ) → MatchResult r (λ _. s ≡ pos 0) (λ _. s ≡ pos 1) → OnOk r (IsCombined low high start end change old new)
      → OnDone (to_z w32 (of_z w32 s)) (IsCombined low high l h change old new)
  done_by (Ok u) s is p = subst (λ x. OnDone (to_z w32 (of_z w32 x)) (IsCombined low high l h change old new)) (sym is) (at_ends p)
  done_by (Err e) s is p = subst (λ x. OnDone (to_z w32 (of_z w32 x)) (IsCombined low high l h change old new)) (sym is) tt

-- ---- statuses

-- a status of a call with valid numbers is not 6
pub never_invalid : {P : Type 0} (s : ℤ) → IsStatus s → s ≡ pos 6 → P
never_invalid s (inl done) six = absurd (omega (arith, ints, done, six))
never_invalid s (inr refused) six = absurd (omega (arith, ints, refused, six))

pub valid_iff : (s : ℤ) (op place : ℕ) → IsStatus s → op ≤ 6 → place ≤ 1 → (s ≡ pos 6 ↔ ((6 < op) ⊎ (1 < place)))
valid_iff s op place status few one = (never_invalid s status, λ large. absurd (too_large large))
  where
    too_large : (6 < op) ⊎ (1 < place) → ⊥
    too_large (inl u) = omega arith
    too_large (inr u) = omega arith

-- a call that succeeded has status 0
pub done_status : (r : Result (Unit {0}) AllocError) (s : ℤ) → MatchResult r (λ _. s ≡ pos 0) (λ _. s ≡ pos 1) → r ≡ Ok tt → to_z w32 (of_z w32 s) ≡ pos 0
done_status (Ok u) s is same = ap (λ z. to_z w32 (of_z w32 z)) is
done_status (Err e) s is same = absurd (cc)

pub leaves_along : (op v place place' : ℕ) (l l' h h' : ℤ) (es es' : List (Entry ℕ)) → l ≡ l' → h ≡ h' → place ≡ place' → es ≡ es' → LeavesAll l h (combined op place v) es → LeavesAll l' h' (combined op place' v) es'
leaves_along op v place place' l l' h h' es es' a b c d leaves =
    subst (LeavesAll l' h' (combined op place' v)) d
    (subst (λ p. LeavesAll l' h' (combined op p v) es) c (subst (λ z. LeavesAll l' z (combined op place v) es) b (subst (λ z. LeavesAll z h (combined op place v) es) a leaves)))

pub refused_again : (low high l h start end : ℤ) (starts : start ≡ l) (ends : end ≡ h) (change : Option ℕ → Option ℕ) (old new : List (Entry ℕ)) (s : ℤ)
    → OnRefused s (IsPartCombined low high start end change old new) → OnRefused s (IsPartCombined low high l h change old new)
refused_again low high l h start end starts ends change old new s p =
    subst (λ a. OnRefused s (IsPartCombined low high a h change old new)) starts (subst (λ b. OnRefused s (IsPartCombined low high start b change old new)) ends p)
