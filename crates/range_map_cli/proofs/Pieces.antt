-- The entry that holds a key is a run of the words, and the gap round a key is one of the words.
use Rattle.range_map_cli.proofs.Words.{◌≡◌, ℕ, ℤ, pos, ◌+ℤ◌, ◌-ℤ◌, ◌≤ℤ◌, ◌<ℤ◌, List, [], ◌∷◌, ◌++◌, refl, sym, ap, ◌∙◌, subst, Option, Some, None, MatchOption, string_bytes, option_map, arith, codes, append_assoc, option_copied, Bor, signed_decimal, String, Global, string_eq, ints, by_lt_z, Entry, entry, at, entry_at, IsRunStart, IsRunEnd, IsRangeMap, IsGap, holds_in, holds_ends, At, IsSameFrom, IsGreatestPiece, Content, greatest_key, least_key, line, Replies, word_or_dash, content_of}
use Rattle.range_map_cli.proofs.Contents.{alike_words}
use Rattle.blaze_entries.proofs.Canonical.EntryAt.{entry_holds, entry_starts, entry_ends, entry_keys, entry_value}

-- the entry of a canonical list that holds a key
module _ (low high : ℤ) (es : List (Entry (String Global))) (k a b : ℤ) (v : String Global) (map : IsRangeMap string_eq low high es) (is : entry_at es k ≡ Some (entry a b v)) where
  word_from : (j : ℤ) → a ≤ℤ j → j ≤ℤ b → content_of es j ≡ Some (string_bytes v)
  word_from j l h = ap (option_map string_bytes) (entry_value k (entry a b v) es j map.runs.disjoint is (holds_in (entry a b v) j l h))

  within : (a ≤ℤ k) × (k ≤ℤ b)
  within = holds_ends (entry a b v) k (entry_holds k (entry a b v) es is)

  word_here : content_of es k ≡ Some (string_bytes v)
  word_here = word_from k within.0 within.1

  same_here : IsSameFrom (content_of es) k a b
  same_here j l h = word_from j l h ∙ sym word_here

  -- no wider interval has the same word
  no_lower : (c d : ℤ) → c ≤ℤ k → k ≤ℤ d → IsSameFrom (content_of es) k c d → c <ℤ a → ⊥
  unfolding IsRunStart
  no_lower c d l h same less =
      let start : IsRunStart string_eq (at es) a = (map.runs.starts a).0 (entry_starts k (entry a b v) es is) in
      let first : content_of es a ≡ content_of es k = same_here a (omega (arith, ints)) (omega (arith, ints, within)) in
      start.1 (alike_words (at es (a -ℤ pos 1)) (at es a) (same (a -ℤ pos 1) (omega (arith, ints)) (omega (arith, ints, within)) ∙ sym first))

  no_higher : (c d : ℤ) → c ≤ℤ k → k ≤ℤ d → IsSameFrom (content_of es) k c d → b <ℤ d → ⊥
  unfolding IsRunEnd
  no_higher c d l h same more =
      let end : IsRunEnd string_eq (at es) b = (map.runs.ends b).0 (entry_ends k (entry a b v) es is) in
      let last : content_of es b ≡ content_of es k = same_here b (omega (arith, ints, within)) (omega (arith, ints)) in
      end.1 (alike_words (at es b) (at es (b +ℤ pos 1)) (last ∙ sym (same (b +ℤ pos 1) (omega (arith, ints, within)) (omega (arith, ints)))))

  entry_is_piece : IsGreatestPiece low high (content_of es) k a b
  entry_is_piece =
      let keys = entry_keys k (entry a b v) low high es map.keys is in
      record {
        from = keys.0;
        to = keys.1;
        starts = within.0;
        ends = within.1;
        same = same_here;
        greatest = λ c d lc l h hd same. (
          by_lt_z c a (λ less. absurd (no_lower c d l h same less)) (λ le. le),
          by_lt_z b d (λ more. absurd (no_higher c d l h same more)) (λ le. le),
        );
      }

-- the gap round a key
gap_is_piece : (low high : ℤ) (es : List (Entry (String Global))) (k a b : ℤ) → at es k ≡ None → IsGap low high (at es) k a b → IsGreatestPiece low high (content_of es) k a b
gap_is_piece low high es k a b none gap = record {
  from = gap.from;
  to = gap.to;
  starts = gap.starts;
  ends = gap.ends;
  same = λ j l h. ap (option_map string_bytes) (gap.clear j l h ∙ sym none);
  greatest = λ c d lc l h hd same. gap.greatest c d lc l h hd (λ j cj jd. no_text (at es j) (same j cj jd ∙ ap (option_map string_bytes) none));
}
  where
    no_text : (o : Option (String Global)) → option_map string_bytes o ≡ None → o ≡ None
    no_text None e = refl
    no_text (Some x) e = cc

-- ---- a look-up

-- what the look-up of a key finds: nothing and the gap, or the value and the range of its entry
abbrev pub Finds : ℤ → ℤ → List (Entry (String Global)) → ℤ → ℤ → ℤ → Option (Bor (String Global)) → Type 0
Finds low high es k a b found = MatchOption found ((at es k ≡ None) × IsGap low high (at es) k a b) (λ v. entry_at es k ≡ Some (entry a b v.now))

module _ (low high : ℤ) (es : List (Entry (String Global))) (k a b : ℤ) (map : IsRangeMap string_eq low high es) where
  found_piece : (found : Option (Bor (String Global))) → Finds low high es k a b found → IsGreatestPiece low high (content_of es) k a b
  found_piece None gap = gap_is_piece low high es k a b gap.0 gap.1
  found_piece (Some v) is = entry_is_piece low high es k a b v.now map is

  found_word : (found : Option (Bor (String Global))) → Finds low high es k a b found → option_map string_bytes (option_copied found) ≡ content_of es k
  found_word None gap = sym (ap (option_map string_bytes) gap.0)
  found_word (Some v) is = sym (word_here low high es k a b v.now map is)

  -- it tells the piece round the key, and the word there
  pub looked_up : (key : ℤ) → key ≡ k → (found : Option (Bor (String Global))) → Finds low high es key a b found → IsGreatestPiece low high (content_of es) k a b × (option_map string_bytes (option_copied found) ≡ content_of es k)
  looked_up key same found h = let here : Finds low high es k a b found = subst (λ j. Finds low high es j a b found) same h in (found_piece found here, found_word found here)

-- what is printed for the piece round a key
pub Replies-at : (content : Content) (key k lo a hi b : ℤ) (word empty bytes : List ℕ) → k ≡ key → a ≡ lo → b ≡ hi → IsGreatestPiece least_key greatest_key content k lo hi → word ≡ word_or_dash (content k) → empty ≡ []
    → bytes ≡ empty ++ (signed_decimal a ++ (codes "..=" ++ (signed_decimal b ++ (codes " " ++ (word ++ 10 ∷ []))))) → Replies content (At key) bytes
Replies-at content key k lo a hi b word empty bytes key_is low_is high_is piece shown none written =
    let text = λ (x y : ℤ) (w : List ℕ). signed_decimal x ++ (codes "..=" ++ (signed_decimal y ++ (codes " " ++ w))) in
    let one_line : line (text lo hi word) ≡ text lo hi (word ++ 10 ∷ []) = simp append_assoc in
    let ends : text a b (word ++ 10 ∷ []) ≡ text lo hi (word ++ 10 ∷ []) = ap (λ x. text x b (word ++ 10 ∷ [])) low_is ∙ ap (λ y. text lo y (word ++ 10 ∷ [])) high_is in
    subst (λ j. Replies content (At j) bytes) key_is
    (lo, hi, piece, written ∙ ap (λ l. l ++ text a b (word ++ 10 ∷ [])) none ∙ ends ∙ sym one_line ∙ ap (λ w. line (text lo hi w)) shown)
