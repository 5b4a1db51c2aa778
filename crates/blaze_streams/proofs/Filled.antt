-- The ranges of a list, with the value `None` between them.
use Rattle.blaze_streams.proofs.Words.{◌≡◌, ℤ, pos, ◌+ℤ◌, ◌-ℤ◌, ◌≤ℤ◌, ◌<ℤ◌, Bool, List, [], ◌∷◌, ◌++◌, map, Option, Some, None, refl, ◌∙◌, sym, ap, subst, append_assoc, arith, option_eq, IsEquivalence, options_equiv, ints, map-append, Entry, entry, at, IsApart, IsCanonical, AreKeys, IsRangeMap, IsAbove, IsAbove-from_apart, at_in, at_under, at_over, at_before, by_place, above_low, above_rest, canonical, one_per_run, with_none, none_before, filled_entries, IsFilledWithNone}
use Rattle.blaze_streams.proofs.GapLists.{by_gap}

module _ {V : Type 0} (eq : V → V → Bool) (high : ℤ) where
  -- a gap and the list after it, by whether the gap has keys
  by_none : (P : List (Entry (Option V)) → Type 0) (n l : ℤ) → (n <ℤ l → P (entry n (l -ℤ pos 1) None ∷ [])) → (l ≤ℤ n → P []) → P (none_before n l)
  by_none P n l there nowhere = by_gap (λ G. P (map with_none G)) n l there nowhere

  -- the entry with its value as `Some`
  some_of : Entry V → Entry (Option V)
  some_of e = entry e.lo e.hi (Some e.value)

  rest : (e : Entry V) (es : List (Entry V)) → IsCanonical eq (e ∷ es) → IsAbove (e.hi +ℤ pos 1 -ℤ pos 1) es
  rest e es c = above_rest eq (e.hi +ℤ pos 1 -ℤ pos 1) e es (omega (arith, ints)) c

  -- an entry is apart from the filled list right above it
  apart_filled : (e : Entry V) (es : List (Entry V)) → IsApart eq e es → IsApart (option_eq eq) (entry e.lo e.hi (Some e.value)) (filled_entries (e.hi +ℤ pos 1) high es)
  apart_filled e [] a = by_none (IsApart (option_eq eq) (entry e.lo e.hi (Some e.value))) (e.hi +ℤ pos 1) (high +ℤ pos 1)
      (λ h. (omega (arith, ints), λ p. refl))
      (λ h. tt)
  apart_filled e (d ∷ ds) a = by_none (λ G. IsApart (option_eq eq) (entry e.lo e.hi (Some e.value)) (G ++ entry d.lo d.hi (Some d.value) ∷ filled_entries (d.hi +ℤ pos 1) high ds)) (e.hi +ℤ pos 1) d.lo
      (λ h. (omega (arith, ints), λ p. refl))
      (λ h. a)

  canonical_filled : (n : ℤ) (es : List (Entry V)) → IsCanonical eq es → IsAbove (n -ℤ pos 1) es → IsCanonical (option_eq eq) (filled_entries n high es)
  canonical_filled n [] c a = by_none (IsCanonical (option_eq eq)) n (high +ℤ pos 1) (λ h. (omega (arith, ints), tt, tt)) (λ h. tt)
  canonical_filled n (e ∷ es) c a =
      let more = canonical_filled (e.hi +ℤ pos 1) es c.2 (rest e es c) in
      by_none (λ G. IsCanonical (option_eq eq) (G ++ entry e.lo e.hi (Some e.value) ∷ filled_entries (e.hi +ℤ pos 1) high es)) n e.lo
      (λ h. (omega (arith, ints), (omega (arith, ints), λ p. refl), (c.0, apart_filled e es c.1, more)))
      (λ h. (c.0, apart_filled e es c.1, more))

  keys_filled : (low n : ℤ) (es : List (Entry V)) → low ≤ℤ n → IsCanonical eq es → AreKeys low high es → AreKeys low high (filled_entries n high es)
  keys_filled low n [] l c k = by_none (AreKeys low high) n (high +ℤ pos 1) (λ h. (l, omega (arith, ints), tt)) (λ h. tt)
  keys_filled low n (e ∷ es) l c k =
      let more = keys_filled low (e.hi +ℤ pos 1) es (omega (arith, ints, c.0, k.0)) c.2 k.2 in
      by_none (λ G. AreKeys low high (G ++ entry e.lo e.hi (Some e.value) ∷ filled_entries (e.hi +ℤ pos 1) high es)) n e.lo
      (λ h. (l, omega (arith, ints, c.0, k.1), (k.0, k.1, more)))
      (λ h. (k.0, k.1, more))

  at_filled : (n : ℤ) (es : List (Entry V)) (k : ℤ) → IsCanonical eq es → IsAbove (n -ℤ pos 1) es → n ≤ℤ k → k ≤ℤ high → at (filled_entries n high es) k ≡ Some (at es k)
  at_filled n [] k c a l u = by_none (λ G. at G k ≡ Some None) n (high +ℤ pos 1)
      (λ h. at_in (entry n (high +ℤ pos 1 -ℤ pos 1) None) [] k l (omega (arith, ints)))
      (λ h. absurd (omega (arith, ints, l, u)))
  at_filled n (e ∷ es) k c a l u =
      let f = entry e.lo e.hi (Some e.value) in
      let more = filled_entries (e.hi +ℤ pos 1) high es in
      let P : List (Entry (Option V)) → Type 0 = λ G. at (G ++ f ∷ more) k ≡ Some (at (e ∷ es) k) in
      by_place e k
      (λ i j.
      let is = at_in f more k i j ∙ ap Some (sym (at_in e es k i j)) in
      by_none P n e.lo (λ h. at_over (entry n (e.lo -ℤ pos 1) None) (f ∷ more) k (omega (arith, ints)) ∙ is) (λ h. is))
      (λ i.
      let nothing = at_under e es k i ∙ at_before eq es e.hi k c.2 (IsAbove-from_apart eq e es c.1) (omega (arith, ints, c.0)) in
      by_none P n e.lo (λ h. at_in (entry n (e.lo -ℤ pos 1) None) (f ∷ more) k l (omega (arith, ints)) ∙ ap Some (sym nothing)) (λ h. absurd (omega (arith, ints, l))))
      (λ i.
      let is = at_over f more k i ∙ at_filled (e.hi +ℤ pos 1) es k c.2 (rest e es c) (omega (arith, ints)) u ∙ ap Some (sym (at_over e es k i)) in
      by_none P n e.lo (λ h. at_over (entry n (e.lo -ℤ pos 1) None) (f ∷ more) k (omega (arith, ints, c.0)) ∙ is) (λ h. is))

-- ---- ranges appended one by one

-- a list of items with one more, seen as entries
pub seen_more : {X E : Type 0} (seen : X → E) (new old : List X) (x : X) (e : E) → new ≡ old ++ x ∷ [] → seen x ≡ e → map seen new ≡ map seen old ++ e ∷ []
seen_more seen new old x e p q = ap (map seen) p ∙ map-append seen old (x ∷ []) ∙ ap (λ z. map seen old ++ z ∷ []) q

module _ {V : Type 0} (high n : ℤ) (old mid new all : List (Entry (Option V))) (left : List (Entry V)) (i : old ++ filled_entries n high left ≡ all) where
  pub filled_more : (lo hi m : ℤ) (e : Entry V) (others : List (Entry V)) → left ≡ e ∷ others → lo ≡ e.lo → hi ≡ e.hi → mid ≡ old ++ none_before n lo → new ≡ mid ++ entry lo hi (Some e.value) ∷ [] → m ≡ hi +ℤ pos 1 → new ++ filled_entries m high others ≡ all
  filled_more lo hi m e others is starts ends pushed put next =
      let f = entry e.lo e.hi (Some e.value) in
      let more = filled_entries (e.hi +ℤ pos 1) high others in
      ap (λ xs. xs ++ filled_entries m high others) (put ∙ ap (λ z. mid ++ entry z hi (Some e.value) ∷ []) starts ∙ ap (λ z. mid ++ entry e.lo z (Some e.value) ∷ []) ends)
      ∙ ap (λ z. (mid ++ f ∷ []) ++ filled_entries z high others) (next ∙ ap (λ z. z +ℤ pos 1) ends)
      ∙ append_assoc mid (f ∷ []) more
      ∙ ap (λ xs. xs ++ f ∷ more) (pushed ∙ ap (λ z. old ++ none_before n z) starts)
      ∙ append_assoc old (none_before n e.lo) (f ∷ more)
      ∙ ap (λ es. old ++ filled_entries n high es) (sym is) ∙ i

module _ {V : Type 0} (eq : V → V → Bool) (laws : IsEquivalence eq) (low high : ℤ) (es : List (Entry V)) (r : IsRangeMap eq low high es) where
  filled_all : IsFilledWithNone eq low high es (filled_entries low high es)
  filled_all =
      let c = canonical eq laws es r.runs in
      let above = above_low low high es r.keys in
      record {
        range_map = record { runs = one_per_run (option_eq eq) (options_equiv laws) (filled_entries low high es) (canonical_filled eq high low es c above); keys = keys_filled eq high low low es (omega (arith, ints)) c r.keys };
        content = λ k l u. at_filled eq high low es k c above l u;
      }

  -- the list so far, range by range
  pub fill_made : (n : ℤ) (old new : List (Entry (Option V))) (left : List (Entry V)) → old ++ filled_entries n high left ≡ filled_entries low high es → left ≡ [] → new ≡ old ++ none_before n (high +ℤ pos 1) → IsFilledWithNone eq low high es new
  fill_made n old new left i is pushed = subst (IsFilledWithNone eq low high es) (sym (pushed ∙ ap (λ es. old ++ filled_entries n high es) (sym is) ∙ i)) filled_all
