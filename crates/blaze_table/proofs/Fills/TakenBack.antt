-- Entries are inserted, recorded by their starts, and removed again.
use Rattle.blaze_table.proofs.Words.{◌≡◌, ℤ, List, [], ◌∷◌, ◌++◌, Some, None, map, refl, ◌∙◌, sym, subst, ap, IsSome, option_to_list, start_at, with_entry, without, Entry, AreThere, GoesBack, without_all}
use Rattle.blaze_entries.proofs.EditLists.{start_with, without_with}

pub map_last : {A B : Type 0} (f : A → B) (xs : List A) (x : A) → map f (xs ++ x ∷ []) ≡ map f xs ++ f x ∷ []
map_last f [] x = refl
map_last f (y ∷ ys) x = ap (λ t. f y ∷ t) (map_last f ys x)

pub map_none : {A B : Type 0} (f : A → B) (xs : List A) → xs ≡ [] → map f xs ≡ []
map_none f xs q = ap (map f) q

module _ {V : Type 0} where
  pub taken_last : (ss : List ℤ) (t : ℤ) (es : List (Entry V)) → without_all (ss ++ t ∷ []) es ≡ without_all ss (without t es)
  taken_last [] t es = refl
  taken_last (s ∷ ss) t es = ap (without s) (taken_last ss t es)

  pub there_last : (ss : List ℤ) (t : ℤ) (es : List (Entry V)) → AreThere (ss ++ t ∷ []) es → IsSome (start_at t es) × AreThere ss (without t es)
  there_last [] t es h = (h.0, tt)
  there_last (s ∷ ss) t es h = let r = there_last ss t es h.1 in (r.0, (subst (λ x. IsSome (start_at s x)) (taken_last ss t es) h.0, r.1))

  there_more : (ss : List ℤ) (t : ℤ) (es : List (Entry V)) → IsSome (start_at t es) → AreThere ss (without t es) → AreThere (ss ++ t ∷ []) es
  there_more [] t es s h = (s, tt)
  there_more (r ∷ ss) t es s h = (subst (λ x. IsSome (start_at r x)) (sym (taken_last ss t es)) h.0, there_more ss t es s h.1)

  pub goes_back_more : (ss more : List ℤ) (p : Entry V) (es new old : List (Entry V)) → more ≡ ss ++ p.lo ∷ [] → new ≡ with_entry p es → start_at p.lo es ≡ None → GoesBack ss es old → GoesBack more new old
  goes_back_more ss more p es new old q r none g =
      let out = without_with p es none in
      subst (λ m. GoesBack m new old) (sym q) (subst (λ n. GoesBack (ss ++ p.lo ∷ []) n old) (sym r) (record {
        there = there_more ss p.lo (with_entry p es) (subst IsSome (sym (start_with p es)) refl) (subst (AreThere ss) (sym out) g.there);
        taken = taken_last ss p.lo (with_entry p es) ∙ ap (without_all ss) out ∙ g.taken;
      }))

  -- the remaining keys of a list after the last one is taken
  module _ {T : Type 0} (rank : T → ℤ) (all rest : List T) (t : T) (q : all ≡ rest ++ option_to_list (Some t)) (es : List (Entry V)) where
    parts : map rank all ≡ map rank rest ++ rank t ∷ []
    parts = ap (map rank) q ∙ map_last rank rest t

    pub there_next : AreThere (map rank all) es → IsSome (start_at (rank t) es) × AreThere (map rank rest) (without (rank t) es)
    there_next h = there_last (map rank rest) (rank t) es (subst (λ ss. AreThere ss es) parts h)

    pub taken_next : without_all (map rank rest) (without (rank t) es) ≡ without_all (map rank all) es
    taken_next = sym (ap (λ ss. without_all ss es) parts ∙ taken_last (map rank rest) (rank t) es)
