-- An entry appended to a list whose items are seen as entries.
use Rattle.blaze_entries.proofs.Words.{◌≡◌, ℕ, ◌+◌, Bool, true, false, List, [], ◌∷◌, ◌++◌, length, take, get_or, slice_set, ◌∙◌, sym, ap, arith, map-append, take_more, length-take-le, set-append_seam, take-length, Entry, entry, is_joinable, glue, map}
use Rattle.blaze_entries.proofs.Lists.Glued.{glue-joined, glue-apart}

-- the list has n items and then the item `last`
pub record HasLast {X : Type 0} (xs : List X) (n : ℕ) (last : X) : Type 0 where
  pub front : List X
  pub is : xs ≡ front ++ last ∷ []
  pub count : length front ≡ n

pub has_last : {X : Type 0} (xs : List X) (n : ℕ) (last : X) → n + 1 ≡ length xs → last ≡ get_or xs n last → HasLast xs n last
has_last xs n last l e = record {
  front = take n xs;
  is = sym (take-length xs) ∙ ap (λ m. take m xs) (sym l) ∙ take_more xs n last (omega (arith, l)) ∙ ap (λ x. take n xs ++ x ∷ []) (sym e);
  count = length-take-le n xs (omega (arith, l));
}

module _ {X V : Type 0} (seen : X → Entry V) (eq : V → V → Bool) (old : List X) (n : ℕ) (last : X) (p : Entry V) (h : HasLast old n last) where
  shown : map seen old ≡ map seen h.front ++ seen last ∷ []
  shown = ap (map seen) h.is ∙ map-append seen h.front (last ∷ [])

  put : (x : X) → slice_set old n x ≡ h.front ++ x ∷ []
  put x = ap (λ l. slice_set l n x) h.is ∙ ap (λ i. slice_set (h.front ++ last ∷ []) i x) (sym h.count) ∙ set-append_seam h.front last [] x

  -- the last item is replaced by one with both ranges
  pub pushed_joined : (both : X) → is_joinable eq (seen last) p ≡ true → seen both ≡ entry (seen last).lo p.hi (seen last).value → map seen (slice_set old n both) ≡ glue eq (map seen old) (p ∷ [])
  pushed_joined both joins one =
      ap (map seen) (put both)
      ∙ map-append seen h.front (both ∷ []) ∙ ap (λ e. map seen h.front ++ e ∷ []) one
      ∙ sym (glue-joined eq (map seen h.front) (seen last) p joins) ∙ ap (λ l. glue eq l (p ∷ [])) (sym shown)

  -- the last item remains, and another is appended
  pub pushed_apart : is_joinable eq (seen last) p ≡ false → glue eq (map seen old) (p ∷ []) ≡ map seen old ++ p ∷ []
  pushed_apart apart = ap (λ l. glue eq l (p ∷ [])) shown ∙ glue-apart eq (map seen h.front) (seen last) p apart ∙ ap (λ l. l ++ p ∷ []) (sym shown)
