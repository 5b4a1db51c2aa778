-- The entries that end at a key or above, by the start of the first.
use Rattle.blaze_entries.proofs.Words.{◌≡◌, ℤ, ◌≤ℤ◌, ◌<ℤ◌, Bool, cond, List, [], ◌∷◌, Some, None, refl, ◌∙◌, sym, ap, subst, arith, option_map, ints, le_true, le_false, from, IsCanonical, ending_from, Entry, entry_at}
use Rattle.blaze_entries.proofs.Halves.{from_takes, from_skips}
use Rattle.blaze_entries.proofs.Canonical.Lookup.{IsAbove, IsAbove-from_apart, entry_in, entry_under, entry_over, by_place, value-entry_at, at_before}

module _ {V : Type 0} where
  pub ending_takes : (k : ℤ) (e : Entry V) (es : List (Entry V)) → k ≤ℤ e.hi → ending_from k (e ∷ es) ≡ e ∷ ending_from k es
  ending_takes k e es l = ap (λ b. cond b (e ∷ ending_from k es) (ending_from k es)) (le_true k e.hi l)

  pub ending_skips : (k : ℤ) (e : Entry V) (es : List (Entry V)) → e.hi <ℤ k → ending_from k (e ∷ es) ≡ ending_from k es
  ending_skips k e es l = ap (λ b. cond b (e ∷ ending_from k es) (ending_from k es)) (le_false k e.hi l)

  -- the entry that contains a key starts up to it
  pub found_from : (k : ℤ) (e : Entry V) (es : List (Entry V)) → Some e ≡ entry_at es k → e.lo ≤ℤ k
  found_from k e [] p = cc
  found_from k e (d ∷ ds) p = by_place d k
      (λ l h. let same : d ≡ e = cc (p, entry_in d ds k l h) in subst (λ (x : Entry V). x.lo ≤ℤ k) same l)
      (λ l. found_from k e ds (p ∙ entry_under d ds k l))
      (λ h. found_from k e ds (p ∙ entry_over d ds k h))

module _ {V : Type 0} (eq : V → V → Bool) where
  -- all entries, if they are above the key
  pub ending_all : (k b : ℤ) (es : List (Entry V)) → IsCanonical eq es → k ≤ℤ b → IsAbove b es → ending_from k es ≡ es
  ending_all k b [] c l a = refl
  ending_all k b (e ∷ es) c l a =
      ending_takes k e es (omega (arith, ints, c.0)) ∙ ap (λ t. e ∷ t) (ending_all k e.hi es c.2 (omega (arith, ints, c.0)) (IsAbove-from_apart eq e es c.1))

  from_all_above : (j b : ℤ) (es : List (Entry V)) → IsCanonical eq es → j ≤ℤ b → IsAbove b es → from j es ≡ es
  from_all_above j b [] c l a = refl
  from_all_above j b (e ∷ es) c l a =
      from_takes j e es (omega (arith, ints)) ∙ ap (λ t. e ∷ t) (from_all_above j e.hi es c.2 (omega (arith, ints, c.0)) (IsAbove-from_apart eq e es c.1))

  -- the entry at a key is above the bound of the list
  above_found : (k b : ℤ) (e : Entry V) (es : List (Entry V)) → IsCanonical eq es → IsAbove b es → Some e ≡ entry_at es k → b <ℤ e.lo
  above_found k b e [] c a p = cc
  above_found k b e (d ∷ ds) c a p =
      let later : Some e ≡ entry_at ds k → b <ℤ e.lo = λ q. omega (arith, ints, c.0, above_found k d.hi e ds c.2 (IsAbove-from_apart eq d ds c.1) q) in
      by_place d k
      (λ l h. let same : d ≡ e = cc (p, entry_in d ds k l h) in subst (λ (x : Entry V). b <ℤ x.lo) same a)
      (λ l. later (p ∙ entry_under d ds k l))
      (λ h. later (p ∙ entry_over d ds k h))

  -- the entries from the key on, if no entry contains it
  pub ending_clear : (k : ℤ) (es : List (Entry V)) → IsCanonical eq es → None ≡ entry_at es k → from k es ≡ ending_from k es
  ending_clear k [] c p = refl
  ending_clear k (d ∷ ds) c p = by_place d k
      (λ l h. cc (p, entry_in d ds k l h))
      (λ l. from_takes k d ds (omega (arith, ints)) ∙ ap (λ t. d ∷ t) (ending_clear k ds c.2 (p ∙ entry_under d ds k l)) ∙ sym (ending_takes k d ds (omega (arith, ints, c.0))))
      (λ h. from_skips k d ds (omega (arith, ints, c.0)) ∙ ending_clear k ds c.2 (p ∙ entry_over d ds k h) ∙ sym (ending_skips k d ds h))

  -- the entries from the start of the entry that contains the key
  pub ending_held : (k : ℤ) (e : Entry V) (es : List (Entry V)) → IsCanonical eq es → Some e ≡ entry_at es k → from e.lo es ≡ ending_from k es
  ending_held k e [] c p = cc
  ending_held k e (d ∷ ds) c p =
      let tail = IsAbove-from_apart eq d ds c.1 in
      by_place d k
      (λ l h.
      let same : d ≡ e = cc (p, entry_in d ds k l h) in
      subst (λ (x : Entry V). from x.lo (d ∷ ds) ≡ ending_from k (d ∷ ds)) same
      (from_takes d.lo d ds (omega (arith, ints)) ∙ ap (λ t. d ∷ t) (from_all_above d.lo d.hi ds c.2 (omega (arith, ints, c.0)) tail)
      ∙ sym (ending_takes k d ds h ∙ ap (λ t. d ∷ t) (ending_all k d.hi ds c.2 h tail))))
      (λ l. cc (ap (option_map (λ (x : Entry V). x.value)) p, value-entry_at (d ∷ ds) k, at_before eq (d ∷ ds) k k c l (omega (arith, ints))))
      (λ h.
      let q = p ∙ entry_over d ds k h in
      let over = above_found k d.hi e ds c.2 tail q in
      from_skips e.lo d ds (omega (arith, ints, c.0)) ∙ ending_held k e ds c.2 q ∙ sym (ending_skips k d ds h))
