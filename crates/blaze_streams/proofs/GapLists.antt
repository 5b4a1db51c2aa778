-- The ranges between a list's ranges are its complement.
use Rattle.blaze_streams.proofs.Words.{◌≡◌, ℤ, pos, ◌+ℤ◌, ◌-ℤ◌, ◌≤ℤ◌, ◌<ℤ◌, Bool, cond, List, [], ◌∷◌, ◌++◌, Option, Some, None, refl, ◌∙◌, sym, ap, subst, append_assoc, arith, ints, by_lt_z, IsEquivalence, lt_true, lt_false, same_itself, Entry, entry, at, SameOption, IsApart, IsCanonical, AreKeys, IsRangeMap, value_if_none, IsComplement, unit_eq, IsAbove, IsAbove-from_apart, at_in, at_under, at_over, at_before, by_place, above_low, above_rest, canonical, one_per_run, unit_laws, IsNextKey, gap_before, gaps, rank_or_end}

-- ---- one gap

pub gap_there : (n l h : ℤ) → n ≤ℤ h → h ≡ l -ℤ pos 1 → gap_before n l ≡ entry n h tt ∷ []
gap_there n l h i p = ap (λ b. cond b (entry n (l -ℤ pos 1) tt ∷ []) []) (lt_true n l (omega (arith, ints))) ∙ ap (λ z. entry n z tt ∷ []) (sym p)

pub no_gap : (n l : ℤ) → l ≤ℤ n → gap_before n l ≡ []
no_gap n l h = ap (λ b. cond b (entry n (l -ℤ pos 1) tt ∷ []) []) (lt_false n l h)

pub by_gap : (P : List (Entry (Unit {0})) → Type 0) (n l : ℤ) → (n <ℤ l → P (entry n (l -ℤ pos 1) tt ∷ [])) → (l ≤ℤ n → P []) → P (gap_before n l)
by_gap P n l there nowhere = by_lt_z n l
    (λ h. subst P (sym (gap_there n l (l -ℤ pos 1) (omega (arith, ints)) refl)) (there h))
    (λ h. subst P (sym (no_gap n l h)) (nowhere h))

pub above_less : {V : Type 0} (a b : ℤ) (es : List (Entry V)) → a ≤ℤ b → IsAbove b es → IsAbove a es
above_less a b [] h i = tt
above_less a b (e ∷ es) h i = omega (arith, ints)

apart_from : (f : Entry (Unit {0})) (b : ℤ) (es : List (Entry (Unit {0}))) → (f.hi +ℤ pos 1) ≤ℤ b → IsAbove b es → IsApart unit_eq f es
apart_from f b [] h i = tt
apart_from f b (e ∷ es) h i = (omega (arith, ints), λ p. absurd (omega (arith, ints, h, i)))

-- ---- all gaps

module _ {V : Type 0} (eq : V → V → Bool) (high : ℤ) where
  above_gaps : (n : ℤ) (es : List (Entry V)) → IsCanonical eq es → IsAbove (n -ℤ pos 1) es → IsAbove (n -ℤ pos 1) (gaps n high es)
  above_gaps n [] c a = by_gap (IsAbove (n -ℤ pos 1)) n (high +ℤ pos 1) (λ h. omega (arith, ints)) (λ h. tt)
  above_gaps n (e ∷ es) c a = by_gap (λ G. IsAbove (n -ℤ pos 1) (G ++ gaps (e.hi +ℤ pos 1) high es)) n e.lo
      (λ h. omega (arith, ints))
      (λ h. above_less (n -ℤ pos 1) (e.hi +ℤ pos 1 -ℤ pos 1) _ (omega (arith, ints, c.0, a))
      (above_gaps (e.hi +ℤ pos 1) es c.2 (above_rest eq (e.hi +ℤ pos 1 -ℤ pos 1) e es (omega (arith, ints)) c)))

  -- the gaps after an entry
  rest : (e : Entry V) (es : List (Entry V)) → IsCanonical eq (e ∷ es) → IsAbove (e.hi +ℤ pos 1 -ℤ pos 1) es
  rest e es c = above_rest eq (e.hi +ℤ pos 1 -ℤ pos 1) e es (omega (arith, ints)) c

  canonical_gaps : (n : ℤ) (es : List (Entry V)) → IsCanonical eq es → IsAbove (n -ℤ pos 1) es → IsCanonical unit_eq (gaps n high es)
  canonical_gaps n [] c a = by_gap (IsCanonical unit_eq) n (high +ℤ pos 1) (λ h. (omega (arith, ints), tt, tt)) (λ h. tt)
  canonical_gaps n (e ∷ es) c a =
      let more = canonical_gaps (e.hi +ℤ pos 1) es c.2 (rest e es c) in
      let above = above_gaps (e.hi +ℤ pos 1) es c.2 (rest e es c) in
      by_gap (λ G. IsCanonical unit_eq (G ++ gaps (e.hi +ℤ pos 1) high es)) n e.lo
      (λ h. (omega (arith, ints), apart_from (entry n (e.lo -ℤ pos 1) tt) _ _ (omega (arith, ints, c.0)) above, more))
      (λ h. more)

  keys_gaps : (low n : ℤ) (es : List (Entry V)) → low ≤ℤ n → IsCanonical eq es → AreKeys low high es → AreKeys low high (gaps n high es)
  keys_gaps low n [] l c k = by_gap (AreKeys low high) n (high +ℤ pos 1) (λ h. (l, omega (arith, ints), tt)) (λ h. tt)
  keys_gaps low n (e ∷ es) l c k =
      let more = keys_gaps low (e.hi +ℤ pos 1) es (omega (arith, ints, c.0, k.0)) c.2 k.2 in
      by_gap (λ G. AreKeys low high (G ++ gaps (e.hi +ℤ pos 1) high es)) n e.lo
      (λ h. (l, omega (arith, ints, c.0, k.1), more))
      (λ h. more)

  at_gaps : (n : ℤ) (es : List (Entry V)) (k : ℤ) → IsCanonical eq es → IsAbove (n -ℤ pos 1) es → n ≤ℤ k → k ≤ℤ high → at (gaps n high es) k ≡ value_if_none tt (at es k)
  at_gaps n [] k c a l u = by_gap (λ G. at G k ≡ Some tt) n (high +ℤ pos 1)
      (λ h. at_in (entry n (high +ℤ pos 1 -ℤ pos 1) tt) [] k l (omega (arith, ints)))
      (λ h. absurd (omega (arith, ints, l, u)))
  at_gaps n (e ∷ es) k c a l u =
      let more = gaps (e.hi +ℤ pos 1) high es in
      let all = above_gaps (e.hi +ℤ pos 1) es c.2 (rest e es c) in
      let none = at_before unit_eq more (e.hi +ℤ pos 1 -ℤ pos 1) k (canonical_gaps (e.hi +ℤ pos 1) es c.2 (rest e es c)) all in
      let P : List (Entry (Unit {0})) → Type 0 = λ G. at (G ++ more) k ≡ value_if_none tt (at (e ∷ es) k) in
      by_place e k
      (λ i j.
      let is = none (omega (arith, ints)) ∙ ap (value_if_none tt) (sym (at_in e es k i j)) in
      by_gap P n e.lo (λ h. at_over (entry n (e.lo -ℤ pos 1) tt) more k (omega (arith, ints)) ∙ is) (λ h. is))
      (λ i.
      let nothing = at_under e es k i ∙ at_before eq es e.hi k c.2 (IsAbove-from_apart eq e es c.1) (omega (arith, ints, c.0)) in
      by_gap P n e.lo (λ h. at_in (entry n (e.lo -ℤ pos 1) tt) more k l (omega (arith, ints)) ∙ ap (value_if_none tt) (sym nothing)) (λ h. absurd (omega (arith, ints, l))))
      (λ i.
      let is = at_gaps (e.hi +ℤ pos 1) es k c.2 (rest e es c) (omega (arith, ints)) u ∙ ap (value_if_none tt) (sym (at_over e es k i)) in
      by_gap P n e.lo (λ h. at_over (entry n (e.lo -ℤ pos 1) tt) more k (omega (arith, ints, c.0)) ∙ is) (λ h. is))

-- ---- ranges appended one by one

pub rank_of_next : {T : Type 0} (rank : T → ℤ) (high : ℤ) (key : T) (next : Option T) → IsNextKey rank high key next → rank_or_end rank high next ≡ rank key +ℤ pos 1
rank_of_next rank high key None p = ap (λ z. z +ℤ pos 1) (sym p)
rank_of_next rank high key (Some n) p = p.0

module _ {V : Type 0} (high n : ℤ) (old new all : List (Entry (Unit {0}))) (left : List (Entry V)) (i : old ++ gaps n high left ≡ all) where
  pub gap_more : (lo hi m : ℤ) (e : Entry V) (others : List (Entry V)) → left ≡ e ∷ others → lo ≡ e.lo → hi ≡ e.hi → new ≡ old ++ gap_before n lo → m ≡ hi +ℤ pos 1 → new ++ gaps m high others ≡ all
  gap_more lo hi m e others is starts ends pushed next =
      ap (λ xs. xs ++ gaps m high others) (pushed ∙ ap (λ z. old ++ gap_before n z) starts)
      ∙ (ap (λ z. (old ++ gap_before n e.lo) ++ gaps z high others) (next ∙ ap (λ z. z +ℤ pos 1) ends)
      ∙ (append_assoc old (gap_before n e.lo) (gaps (e.hi +ℤ pos 1) high others)
      ∙ (ap (λ es. old ++ gaps n high es) (sym is) ∙ i)))

  gap_last : left ≡ [] → new ≡ old ++ gap_before n (high +ℤ pos 1) → new ≡ all
  gap_last is pushed = pushed ∙ (ap (λ es. old ++ gaps n high es) (sym is) ∙ i)

module _ {V : Type 0} (eq : V → V → Bool) (laws : IsEquivalence eq) (low high : ℤ) (es : List (Entry V)) (r : IsRangeMap eq low high es) where
  pub gaps_complement : IsComplement unit_eq low high tt es (gaps low high es)
  gaps_complement =
      let c = canonical eq laws es r.runs in
      let above = above_low low high es r.keys in
      record {
        range_map = record { runs = one_per_run unit_eq unit_laws (gaps low high es) (canonical_gaps eq high low es c above); keys = keys_gaps eq high low low es (omega (arith, ints)) c r.keys };
        content = λ k l u. subst (SameOption unit_eq (at (gaps low high es) k)) (at_gaps eq high low es k c above l u) (same_itself unit_eq unit_laws (at (gaps low high es) k));
      }

  -- the gaps so far, range by range
  pub complement_made : (n : ℤ) (old new : List (Entry (Unit {0}))) (left : List (Entry V)) → old ++ gaps n high left ≡ gaps low high es → left ≡ [] → new ≡ old ++ gap_before n (high +ℤ pos 1) → IsComplement unit_eq low high tt es new
  complement_made n old new left i is pushed = subst (IsComplement unit_eq low high tt es) (sym (gap_last high n old new (gaps low high es) left i is pushed)) gaps_complement
