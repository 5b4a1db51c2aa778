-- What a key has after an update by a function without state: what the function returns for the key's old value.
use Rattle.range_map_blaze.proofs.Words.{AllocError, ◌≡◌, ℤ, ◌≤ℤ◌, Bool, List, [], ◌∷◌, length, map, Option, Some, Result, Ok, ◌∙◌, sym, ap, subst, arith, some_none, Mut, at_in, at_over, at_under, by_place, Entry, entry, at, AnswersAtValue, FoldsTo, zip, values, entries_with_results, AreAnswersAtPieces, Gives}

module _ {F A V : Type 0} (shows : A → Option V) (g : Mut F A (Result (Option V) AllocError)) (f : F) (k : ℤ) (old new : Option V) (gives : Gives shows g f old new) where
  abbrev ok : Option V → Result (Option V) AllocError
  ok r = Ok r

  same_ok : (r s : Option V) → ok r ≡ ok s → r ≡ s
  same_ok r s e = cc

  abbrev some : Option V → Option (Option V)
  some r = Some r

  same_some : (r s : Option V) → some r ≡ some s → r ≡ s
  same_some r s e = cc

  result_at : (pieces : List (Entry (Option V))) (results : List (Option V)) (last : F) → length (map ok results) ≡ length (values pieces)
      → FoldsTo (λ j c i. AnswersAtValue shows g j c.0 c.1 i) f (zip (values pieces) (map Ok results)) last → at pieces k ≡ Some old → at (entries_with_results pieces results) k ≡ Some new
  result_at [] results last n t is = absurd (some_none (sym is))
  result_at (p ∷ pieces) [] last n t is = absurd (omega (arith, n))
  result_at (p ∷ pieces) (r ∷ results) last n t is =
      let step = t.1 in
      let given = gives step.arguments (Ok r) t.0 step.called in
      let rest = subst (λ j. FoldsTo (λ j c i. AnswersAtValue shows g j c.0 c.1 i) j (zip (values pieces) (map Ok results)) last) given.0 t.2 in
      by_place p k
      (λ u v. at_in (entry p.lo p.hi r) (entries_with_results pieces results) k u v
      ∙ ap Some (same_ok r new (given.1 (step.shown ∙ same_some p.value old (sym (at_in p pieces k u v) ∙ is)))))
      (λ u. at_under (entry p.lo p.hi r) (entries_with_results pieces results) k u ∙ result_at pieces results last (omega (arith, n)) rest (sym (at_under p pieces k u) ∙ is))
      (λ u. at_over (entry p.lo p.hi r) (entries_with_results pieces results) k u ∙ result_at pieces results last (omega (arith, n)) rest (sym (at_over p pieces k u) ∙ is))

module _ {F A V : Type 0} (shows : A → Option V) (g : Mut F A (Result (Option V) AllocError)) (eq : V → V → Bool) (l h : ℤ) (f : F) (entries : List (Entry V)) (answers : List (Entry (Option V))) where
  pub answer_at : AreAnswersAtPieces shows g eq l h f entries answers → (k : ℤ) → l ≤ℤ k → k ≤ℤ h → (value : Option V) → Gives shows g f (at entries k) value → at answers k ≡ Some value
  answer_at a k u v value gives =
      ap (λ es. at es k) a.answers_are
      ∙ result_at shows g f k (at entries k) value gives a.pieces a.results a.in_turn.last a.in_turn.count a.in_turn.calls (a.are_pieces.content k u v)
