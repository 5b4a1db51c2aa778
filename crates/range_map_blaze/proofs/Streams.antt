-- The entries taken from a stream.
use Rattle.range_map_blaze.proofs.Words.{◌≡◌, ◌++◌, ◌∷◌, [], List, ◌∙◌, sym, ap, subst, Bool, true, ℤ, map, append_assoc, IsEquivalence, map-append, Entry, SameEntries, shown_entry, IsRangeMap, canonical_as, are_keys_as, canonical, one_per_run}

-- an entry more on both lists
pub same-push : {V : Type 0} (eq : V → V → Bool) (es fs : List (Entry V)) (e f : Entry V) → SameEntries eq es fs → e.lo ≡ f.lo → e.hi ≡ f.hi → eq e.value f.value ≡ true → SameEntries eq (es ++ e ∷ []) (fs ++ f ∷ [])
same-push eq [] [] e f s l h v = (l, h, v, tt)
same-push eq [] (g ∷ fs) e f s l h v = absurd s
same-push eq (g ∷ es) [] e f s l h v = absurd s
same-push eq (g ∷ es) (k ∷ fs) e f s l h v = (s.0, s.1, s.2, same-push eq es fs e f s.3 l h v)

-- values that are equal keep a range map's list one
pub range_map_as : {V : Type 0} (eq : V → V → Bool) → IsEquivalence eq → (low high : ℤ) (es fs : List (Entry V)) → SameEntries eq es fs → IsRangeMap eq low high es → IsRangeMap eq low high fs
range_map_as eq laws low high es fs s r = record {
  runs = one_per_run eq laws fs (canonical_as eq laws es fs s (canonical eq laws es r.runs));
  keys = are_keys_as eq low high es fs s r.keys;
}

module _ {T V : Type 0} (rank : T → ℤ) (eq : V → V → Bool) where
  abbrev pub entries_in : List (T × T × V) → List (Entry V)
  entries_in xs = map (shown_entry rank (λ v. v)) xs

  -- the first entry of what is left, taken with an equal value
  pub taken_more : (all taken left next : List (Entry V)) (e : Entry V) (xs new : List (T × T × V)) (x : T × T × V) → all ≡ taken ++ left → left ≡ e ∷ next → new ≡ xs ++ x ∷ []
      → e.lo ≡ rank x.0 → e.hi ≡ rank x.1 → eq e.value x.2 ≡ true → SameEntries eq taken (entries_in xs) → (all ≡ (taken ++ e ∷ []) ++ next) × SameEntries eq (taken ++ e ∷ []) (entries_in new)
  taken_more all taken left next e xs new x a l n lo hi v s = (
    a ∙ ap (λ es. taken ++ es) l ∙ sym (append_assoc taken (e ∷ []) next),
    subst (SameEntries eq (taken ++ e ∷ [])) (sym (ap (map (shown_entry rank (λ w. w))) n ∙ map-append (shown_entry rank (λ w. w)) xs (x ∷ []))) (same-push eq taken (entries_in xs) e (shown_entry rank (λ w. w) x) s lo hi v),
  )
