-- Ordered lists of ranges are canonical with their positions as values, even if ranges touch.
use Rattle.blaze_streams.proofs.Words.{◌≡◌, ℕ, ◌+◌, ℤ, ◌≤ℤ◌, nat_eq, List, [], ◌∷◌, ◌++◌, drop, ◌∙◌, sym, ap, subst, append_assoc, map-append, RangeInclusive, Vec, next_differs, Entry, entry, IsCanonical, IsDisjoint, IsAscending, AreKeys, in_order, numbered, all_numbered, AreInOrder, AllCanonical, shown_ranges, shown_range}

-- a range of keys, appended to a list
pub keys_push : {A : Type 0} (low high : ℤ) (es : List (Entry A)) (e : Entry A) → AreKeys low high es → low ≤ℤ e.lo → e.hi ≤ℤ high → AreKeys low high (es ++ e ∷ [])
keys_push low high [] e k l h = (l, h, tt)
keys_push low high (x ∷ xs) e k l h = (k.0, k.1, keys_push low high xs e k.2 l h)

module _ {T : Type 0} (rank : T → ℤ) where
  numbered_canonical : (i : ℕ) (rs : List (T × T)) → IsDisjoint (numbered rank i rs) → IsAscending (numbered rank i rs) → IsCanonical nat_eq (numbered rank i rs)
  numbered_canonical i [] d a = tt
  numbered_canonical i (r ∷ []) d a = (d.0, tt, tt)
  numbered_canonical i (r ∷ q ∷ rs) d a = (d.0, (in_order (entry (rank r.0) (rank r.1) i) (entry (rank q.0) (rank q.1) (i + 1)) (numbered rank (i + 1 + 1) rs) d a, λ e. next_differs i), numbered_canonical (i + 1) (q ∷ rs) d.2 a.1)

  pub all_canonical : (vs : List (Vec (T × T))) → AreInOrder (all_numbered rank vs) → AllCanonical nat_eq (all_numbered rank vs)
  all_canonical [] o = tt
  all_canonical (v ∷ vs) o = (numbered_canonical 0 v.items o.0 o.1, all_canonical vs o.2)

  -- one more range with its position
  pub placed_more : (all : List (T × T)) (i : ℕ) (r : T × T) (found new : List (RangeInclusive T × ℕ)) (p : RangeInclusive T × ℕ) → new ≡ found ++ p ∷ [] → shown_range rank (λ j. j) p ≡ entry (rank r.0) (rank r.1) i → drop i all ≡ r ∷ drop (i + 1) all → shown_ranges rank (λ j. j) found ++ numbered rank i (drop i all) ≡ numbered rank 0 all → shown_ranges rank (λ j. j) new ++ numbered rank (i + 1) (drop (i + 1) all) ≡ numbered rank 0 all
  placed_more all i r found new p n s d h =
      let rest = numbered rank (i + 1) (drop (i + 1) all) in
      let seen = shown_ranges rank (λ j. j) found in
      ap (λ xs. shown_ranges rank (λ j. j) xs ++ rest) n
      ∙ ap (λ es. es ++ rest) (map-append (shown_range rank (λ j. j)) found (p ∷ []))
      ∙ append_assoc seen (shown_range rank (λ j. j) p ∷ []) rest
      ∙ ap (λ e. seen ++ e ∷ rest) s
      ∙ ap (λ rs. seen ++ numbered rank i rs) (sym d)
      ∙ h

  pub keys_more : (low high : ℤ) (r : T × T) (found new : List (RangeInclusive T × ℕ)) (p : RangeInclusive T × ℕ) (i : ℕ) → new ≡ found ++ p ∷ [] → shown_range rank (λ j. j) p ≡ entry (rank r.0) (rank r.1) i → low ≤ℤ rank r.0 → rank r.1 ≤ℤ high → AreKeys low high (shown_ranges rank (λ j. j) found) → AreKeys low high (shown_ranges rank (λ j. j) new)
  keys_more low high r found new p i n s l h k =
      let seen = shown_ranges rank (λ j. j) in
      subst (AreKeys low high) (sym (ap seen n ∙ map-append (shown_range rank (λ j. j)) found (p ∷ []) ∙ ap (λ e. seen found ++ e ∷ []) s))
      (keys_push low high (seen found) (entry (rank r.0) (rank r.1) i) k l h)
